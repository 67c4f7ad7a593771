use Rattle.std.proofs.Common.{◌≡◌, string_bytes, take}
use Rattle.std.specs.Map.{keys_of}
use Rattle.fare_desk.specs.Causes.{failures_of}
use Rattle.fare_desk.specs.Showing.{AddsLanes}
use Rattle.fare_desk.proofs.Lanes.{lanes_over}
use Rattle.fare_desk.proofs.standing.add_lanes.Given as goal

abbrev pub invariant-loop-place : goal.invariant-loop-place
invariant-loop-place g l = AddsLanes g.O.Outbox.standing g.L.Ledger.standing (lanes_over (take l.place (keys_of l.fn.hub.scheme.owners)) (keys_of l.fn.hub.scheme.devices)) l.fn.hub l.hub (string_bytes l.fn.text) (string_bytes l.text) × (failures_of g.O.Outbox.standing g.L.Ledger.standing l.hub ≡ failures_of g.O.Outbox.standing g.L.Ledger.standing l.fn.hub)
