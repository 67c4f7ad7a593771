use Rattle.std.proofs.Common.{◌≡◌, ◌<◌, Some, length, refl, sym, ap, ◌∙◌, subst, arith}
use Rattle.fare_scheme.specs.Words.{position_of_owner}
use Rattle.fare_record.specs.declared.item.Item.TheVariants as item
use Rattle.fare_side.specs.declared.owner.Owner.{Owner}
use Rattle.fare_world.specs.Whole.{seen, owner_seen, shape}
use Rattle.fare_world.proofs.OwnersSeen.{owner_at, within_seen, owner_here}
use Rattle.fare_world.proofs.Stores.{steps, same_stores}
use Rattle.std.proofs.lemmas.Option.{same_Some}
use Rattle.fare_world.proofs.ShowForward.{shown_take_idle, owner_read, shown_take_unknown}
use Rattle.fare_world.proofs.world.World.take.Goals as goal

pub returns-in_default : goal.returns-in_default
returns-in_default g c =
    let w = seen g.O.Outbox.standing g.L.Ledger.standing c.args.self.now in
    steps g.O.Outbox.standing g.L.Ledger.standing c.args.self.now _ _ _ refl (same_stores _ _ refl refl) (λ s sh. shown_take_unknown w.scheme (shape w) s c.args.owner sh (sym c.owner_position.ensures.value ∙ c.in_default.is))

pub returns-in_default-hand : goal.returns-in_default-hand
returns-in_default-hand g c =
    let w = seen g.O.Outbox.standing g.L.Ledger.standing c.args.self.now in
    let y = c.index.result.now in
    let xs = c.args.self.now.owners.items in
    let owner : position_of_owner w.scheme c.args.owner ≡ Some c.in-Some.at = sym c.owner_position.ensures.value ∙ c.in-Some.is in
    let within : c.in-Some.at < length xs = omega (arith, c.in-Some.ensures.within, c.args.self.now.rooms.owner_count) in
    steps g.O.Outbox.standing g.L.Ledger.standing c.args.self.now _ _ _ refl (same_stores _ _ refl refl) (λ s sh. shown_take_idle w.scheme (shape w) s c.args.owner c.in-Some.at (owner_seen g.L.Ledger.standing y) sh owner (owner_read w c.args.owner c.in-Some.at (owner_seen g.L.Ledger.standing y) owner (within_seen g.L.Ledger.standing xs c.in-Some.at within) (owner_at g.L.Ledger.standing xs c.in-Some.at y within c.index.ensures)) c.in_default-hand.is)

pub take_tap-requires-clause-hand : goal.take_tap-requires-clause-hand
take_tap-requires-clause-hand g c = λ x here.
    let xs = c.args.self.now.owners.items in
    let within : c.in-Some.at < length xs = omega (arith, c.in-Some.ensures.within, c.args.self.now.rooms.owner_count) in
    let one : c.index.result.now ≡ x = same_Some c.index.result.now x (sym (owner_here g.L.Ledger.standing xs c.in-Some.at c.index.result.now within c.index.ensures) ∙ here) in
    subst (λ (z : Owner g.row.L.Denot). z.hand ≡ Some (item.Tap c.in-Tap.row)) one (c.in-Some-hand.is ∙ ap Some c.in-Tap.is)

pub take_tap-requires-clause-at : goal.take_tap-requires-clause-at
take_tap-requires-clause-at g c = sym c.owner_position.ensures.value ∙ c.in-Some.is

pub returns-in-Tap : goal.returns-in-Tap
returns-in-Tap g c = c.take_tap.ensures

pub take_statement-requires-clause-hand : goal.take_statement-requires-clause-hand
take_statement-requires-clause-hand g c = λ x here.
    let xs = c.args.self.now.owners.items in
    let within : c.in-Some.at < length xs = omega (arith, c.in-Some.ensures.within, c.args.self.now.rooms.owner_count) in
    let one : c.index.result.now ≡ x = same_Some c.index.result.now x (sym (owner_here g.L.Ledger.standing xs c.in-Some.at c.index.result.now within c.index.ensures) ∙ here) in
    subst (λ (z : Owner g.row.L.Denot). z.hand ≡ Some (item.Stated c.in-Stated.statement)) one (c.in-Some-hand.is ∙ ap Some c.in-Stated.is)

pub take_statement-requires-clause-at : goal.take_statement-requires-clause-at
take_statement-requires-clause-at g c = sym c.owner_position.ensures.value ∙ c.in-Some.is

pub returns-in-Stated : goal.returns-in-Stated
returns-in-Stated g c = c.take_statement.ensures
