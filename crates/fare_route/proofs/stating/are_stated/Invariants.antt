use Rattle.std.proofs.Common.{◌≡◌, ◌<◌, true, take}
use Rattle.std.specs.Prelude.{is_some}
use Rattle.std.specs.List.{list_all}
use Rattle.fare_store.proofs.Readings.{Since}
use Rattle.fare_route.proofs.stating.are_stated.Given as goal

abbrev pub invariant-loop-owner : goal.invariant-loop-owner
invariant-loop-owner g l = Since (g.O.Outbox.standing l.fn.outbox) (g.O.Outbox.standing l.outbox) (0 < l.owner-index) (list_all (λ o. is_some ((g.O.Outbox.standing l.fn.outbox).value.stated o.0 l.device l.day)) (take l.owner-index l.scheme.owners) ≡ true)
