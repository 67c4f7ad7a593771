use Rattle.std.proofs.Common.{string_bytes, refl, ◌∙◌, rules}
use Rattle.fare_scheme.proofs.Slices.{entry_at}
use Rattle.fare_desk.proofs.Asked.{asked_known, asked_ledgers, asks_join}
use Rattle.fare_desk.proofs.Causes.{counted_ok}
use Rattle.fare_desk.proofs.Failing.{ok_of_none}
use Rattle.fare_desk.proofs.Shown.{lanes_more, lanes_none}
use Rattle.fare_desk.proofs.standing.add_owner.Goals as goal

pub loop-place-init : goal.loop-place-init
loop-place-init g c = (lanes_none g.O.Outbox.standing g.L.Ledger.standing c.args.hub.now (string_bytes c.args.text.now), refl)

pub lane_of-requires-clause-ledgers : goal.lane_of-requires-clause-ledgers
lane_of-requires-clause-ledgers g c = asked_ledgers g.O.Outbox.standing g.L.Ledger.standing c.args.hub.now c.loop-place.hub c.loop-place.invariant.0.asks c.requires.ledgers

pub lane_of-requires-clause-known : goal.lane_of-requires-clause-known
lane_of-requires-clause-known g c = asked_known g.O.Outbox.standing g.L.Ledger.standing c.args.hub.now c.loop-place.hub c.args.owner c.loop-place.invariant.0.asks c.requires.known

pub returns-in_err-lane-clause-asks : goal.returns-in_err-lane-clause-asks
returns-in_err-lane-clause-asks g c = asks_join g.O.Outbox.standing g.L.Ledger.standing c.args.hub.now c.loop-place.hub c.lane_of.new.hub c.loop-place.invariant.0.asks c.lane_of.ensures.asks

pub returns-in_err-lane-clause-adds : goal.returns-in_err-lane-clause-adds
returns-in_err-lane-clause-adds g c = ok_of_none c.from_residual.result _ _ c.from_residual.ensures.1

pub returns-in_err-add_lane-clause-asks : goal.returns-in_err-add_lane-clause-asks
returns-in_err-add_lane-clause-asks g c = asks_join g.O.Outbox.standing g.L.Ledger.standing c.args.hub.now c.loop-place.hub c.lane_of.new.hub c.loop-place.invariant.0.asks c.lane_of.ensures.asks

pub returns-in_err-add_lane-clause-adds : goal.returns-in_err-add_lane-clause-adds
returns-in_err-add_lane-clause-adds g c = ok_of_none c.from_residual-in_err-add_lane.result _ _ c.from_residual-in_err-add_lane.ensures.1

pub loop-place-preserved : goal.loop-place-preserved
loop-place-preserved g c = (
  lanes_more g.O.Outbox.standing g.L.Ledger.standing c.args.owner c.loop-place.place c.index-devices-place.result c.args.hub.now c.loop-place.hub c.lane_of.new.hub c.in_ok-lane.lane (string_bytes c.args.text.now) (string_bytes c.loop-place.text) (string_bytes c.add_lane.new.text)
      (entry_at c.loop-place.hub.scheme.devices c.devices.result.now c.loop-place.place c.index-devices-place.result c.devices.ensures.value (search rules) c.index-devices-place.is) c.loop-place.invariant.0 c.lane_of.ensures.asks c.in_ok-lane.ensures.tells c.in_ok-add_lane.ensures,
  counted_ok _ _ c.lane_of.result c.in_ok-lane.lane c.in_ok-lane.was c.lane_of.ensures.cause ∙ c.loop-place.invariant.1,
)

pub returns-clause-asks : goal.returns-clause-asks
returns-clause-asks g c = c.loop-place.invariant.0.asks
