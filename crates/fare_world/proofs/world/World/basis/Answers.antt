use Rattle.std.proofs.Common.{◌≡◌, ◌<◌, Some, true, false, length, refl, sym, ◌∙◌, arith}
use Rattle.std.specs.Prelude.{◌&&◌, is_some, nat_lt, nat_le}
use Rattle.std.proofs.lemmas.Bool.Decides.{nat_tests}
use Rattle.fare_scheme.specs.Words.{position_of_owner}
use Rattle.fare_world.specs.Shown.{entry}
use Rattle.fare_world.specs.Whole.{seen, owner_seen, shape}
use Rattle.fare_world.proofs.Asks.{asks_none, asks_ledger}
use Rattle.fare_world.proofs.BillsShown.{judged_unknown, judged_before, week_answered}
use Rattle.fare_world.proofs.OwnersSeen.{owner_at, within_seen, owners_kept, owner_here}
use Rattle.fare_world.proofs.RoomLemmas.{rooms_of_owner}
use Rattle.fare_world.proofs.ShowForward.{owner_read}
use Rattle.fare_world.proofs.Stores.{same_stores}
use Rattle.fare_world.proofs.world.World.basis.Goals as goal

pub returns-in_default : goal.returns-in_default
returns-in_default g c =
    let w = c.args.self.now in
    asks_none g.O.Outbox.standing g.L.Ledger.standing w _ _ _ _ refl (same_stores _ _ refl refl) refl (λ s sh. judged_unknown w.scheme s c.args.owner c.args.day (sym c.owner_position.ensures.value ∙ c.in_default.is))

pub returns-then-lt : goal.returns-then-lt
returns-then-lt g c =
    let w = c.args.self.now in
    let owner : position_of_owner w.scheme c.args.owner ≡ Some c.in-Some.at = sym c.owner_position.ensures.value ∙ c.in-Some.is in
    let before : nat_lt c.args.day w.scheme.start ≡ true = grind (arith, nat_tests) in
    asks_none g.O.Outbox.standing g.L.Ledger.standing w _ _ _ _ refl (same_stores _ _ refl refl) refl (λ s sh. judged_before w.scheme s c.args.owner c.args.day c.in-Some.at owner before)

pub invariant_of-self-2 : goal.invariant_of-self-2
invariant_of-self-2 g c =
    let y = c.index_mut.result.now in
    let within : c.in-Some.at < length c.args.self.now.owners.items = omega (arith, c.in-Some.ensures.within, c.args.self.now.rooms.owner_count) in
    record { rooms = rooms_of_owner c.args.self.now c.in-Some.at y (record y { ledger = c.taps_of_week.new.ledger }) within c.index_mut.ensures.value (λ h. record { forwarder = h.forwarder; queue = h.queue; standings = h.standings }) }

pub returns : goal.returns
returns g c =
    let w = seen g.O.Outbox.standing g.L.Ledger.standing c.args.self.now in
    let y = c.index_mut.result.now in
    let xs = c.args.self.now.owners.items in
    let a = c.in-Some.at in
    let new = record y { ledger = c.taps_of_week.new.ledger } in
    let owner : position_of_owner w.scheme c.args.owner ≡ Some a = sym c.owner_position.ensures.value ∙ c.in-Some.is in
    let within : a < length xs = omega (arith, c.in-Some.ensures.within, c.args.self.now.rooms.owner_count) in
    let from : nat_lt c.args.day w.scheme.start ≡ false = grind (arith, nat_tests) in
    let late : nat_le w.scheme.start c.args.day ≡ true = grind (arith, nat_tests) in
    asks_ledger g.O.Outbox.standing g.L.Ledger.standing c.args.self.now _ _ _ _ a y new _ _ refl refl (owner_here g.L.Ledger.standing xs a y within c.index_mut.ensures.value) refl c.taps_of_week.ensures
    (λ is i. record (shape w) { owners = λ j. entry (position_of_owner w.scheme j) (owners_kept g.L.Ledger.standing xs a y new c.index_mut.ensures.value (λ k. record (owner_seen g.L.Ledger.standing y) { ledger = is.0 k }) i) })
    (λ s is sh. week_answered w.scheme (shape w) s c.args.owner c.args.day a (owner_seen g.L.Ledger.standing y) c.taps_of_week.result sh c.start.ensures.valid owner
    (owner_read w c.args.owner a (owner_seen g.L.Ledger.standing y) owner (within_seen g.L.Ledger.standing xs a within) (owner_at g.L.Ledger.standing xs a y within c.index_mut.ensures.value)) from is.1)
    (λ i. is_some (owner i) && late i)
