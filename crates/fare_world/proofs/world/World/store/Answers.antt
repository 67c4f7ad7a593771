use Rattle.std.proofs.Common.{ap, ◌∙◌, Some, refl}
use Rattle.fare_world.specs.Whole.{seen, shape}
use Rattle.fare_world.proofs.ShowCollect.{shown_nothing}
use Rattle.fare_world.proofs.Stores.{steps, same_stores}
use Rattle.fare_world.proofs.world.World.store.Goals as goal

pub returns-in_default : goal.returns-in_default
returns-in_default g c =
    let w = seen g.O.Outbox.standing g.L.Ledger.standing c.args.self.now in
    steps g.O.Outbox.standing g.L.Ledger.standing c.args.self.now _ _ _ refl (same_stores _ _ refl refl) (λ s sh. shown_nothing w.scheme (shape w) s sh c.in_default.is)

pub store_tap-requires : goal.store_tap-requires
store_tap-requires g c = c.in-Some.is ∙ ap Some c.in-Tap.is

pub returns-in-Tap : goal.returns-in-Tap
returns-in-Tap g c = c.store_tap.ensures

pub store_statement-requires : goal.store_statement-requires
store_statement-requires g c = c.in-Some.is ∙ ap Some c.in-Stated.is

pub returns-in-Stated : goal.returns-in-Stated
returns-in-Stated g c = c.store_statement.ensures
