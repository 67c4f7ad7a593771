use Rattle.std.proofs.Common.{refl}
use Rattle.fare_world.proofs.ShowCollect.{shown_writer}
use Rattle.fare_world.proofs.Stores.{steps, same_stores}
use Rattle.fare_world.specs.Whole.{seen, shape}
use Rattle.fare_world.proofs.world.World.restart_writer.Goals as goal

pub returns : goal.returns
returns g c = let w = seen g.O.Outbox.standing g.L.Ledger.standing c.args.self.now in steps g.O.Outbox.standing g.L.Ledger.standing c.args.self.now _ _ _ refl (same_stores _ _ refl refl) (λ s sh. shown_writer w.scheme (shape w) s sh)
