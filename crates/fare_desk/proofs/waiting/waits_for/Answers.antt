use Rattle.std.proofs.Common.{[], sym, subst, refl, ◌∙◌, rules}
use Rattle.fare_scheme.proofs.Slices.{entry_at}
use Rattle.fare_desk.specs.Waiting.{TellsWaiting}
use Rattle.fare_desk.proofs.Asked.{asked_known, asked_ledgers, asks_join}
use Rattle.fare_desk.proofs.Causes.{counted_ok}
use Rattle.fare_desk.proofs.Failing.{told_of_none}
use Rattle.fare_desk.proofs.Waits.{waiting_none, waiting_push}
use Rattle.fare_desk.proofs.waiting.waits_for.Goals as goal

pub loop-place-init : goal.loop-place-init
loop-place-init g c = (subst (TellsWaiting g.O.Outbox.standing g.L.Ledger.standing c.args.owner [] c.args.hub.now c.args.hub.now) (sym c.none-waiting.ensures) (waiting_none g.O.Outbox.standing g.L.Ledger.standing c.args.owner c.args.hub.now), refl)

pub waits_in_lane-requires-clause-ledgers : goal.waits_in_lane-requires-clause-ledgers
waits_in_lane-requires-clause-ledgers g c = asked_ledgers g.O.Outbox.standing g.L.Ledger.standing c.args.hub.now c.loop-place.hub c.loop-place.invariant.0.asks c.requires.ledgers

pub waits_in_lane-requires-clause-known : goal.waits_in_lane-requires-clause-known
waits_in_lane-requires-clause-known g c = asked_known g.O.Outbox.standing g.L.Ledger.standing c.args.hub.now c.loop-place.hub c.args.owner c.loop-place.invariant.0.asks c.requires.known

pub returns-in_err-lane-clause-asks : goal.returns-in_err-lane-clause-asks
returns-in_err-lane-clause-asks g c = asks_join g.O.Outbox.standing g.L.Ledger.standing c.args.hub.now c.loop-place.hub c.waits_in_lane.new.hub c.loop-place.invariant.0.asks c.waits_in_lane.ensures.asks

pub returns-in_err-lane-clause-tells : goal.returns-in_err-lane-clause-tells
returns-in_err-lane-clause-tells g c = told_of_none c.from_residual.result _ _ c.from_residual.ensures.1

pub loop-place-preserved : goal.loop-place-preserved
loop-place-preserved g c = (
  waiting_push g.O.Outbox.standing g.L.Ledger.standing c.args.owner c.loop-place.place c.index-devices-place.result c.args.hub.now c.loop-place.hub c.waits_in_lane.new.hub c.loop-place.waiting c.in_ok-lane.lane c.and-waiting.result
      (entry_at c.loop-place.hub.scheme.devices c.devices.result.now c.loop-place.place c.index-devices-place.result c.devices.ensures.value (search rules) c.index-devices-place.is) c.loop-place.invariant.0 c.waits_in_lane.ensures.asks c.in_ok-lane.ensures.tells c.and-waiting.ensures,
  counted_ok _ _ c.waits_in_lane.result c.in_ok-lane.lane c.in_ok-lane.was c.waits_in_lane.ensures.cause ∙ c.loop-place.invariant.1,
)

pub returns-clause-asks : goal.returns-clause-asks
returns-clause-asks g c = c.loop-place.invariant.0.asks
