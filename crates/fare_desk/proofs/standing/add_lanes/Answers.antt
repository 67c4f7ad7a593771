use Rattle.std.proofs.Common.{string_bytes, refl, ◌∙◌, rules}
use Rattle.fare_scheme.proofs.Slices.{entry_at, item_at}
use Rattle.fare_desk.proofs.Asked.{asked_ledgers, asks_join, placed_known}
use Rattle.fare_desk.proofs.Causes.{counted_ok}
use Rattle.fare_desk.proofs.Failing.{ok_of_none}
use Rattle.fare_desk.proofs.Shown.{lanes_none, owner_more}
use Rattle.fare_desk.proofs.standing.add_lanes.Goals as goal

pub loop-place-init : goal.loop-place-init
loop-place-init g c = (lanes_none g.O.Outbox.standing g.L.Ledger.standing c.args.hub.now (string_bytes c.args.text.now), refl)

pub add_owner-requires-clause-ledgers : goal.add_owner-requires-clause-ledgers
add_owner-requires-clause-ledgers g c = asked_ledgers g.O.Outbox.standing g.L.Ledger.standing c.args.hub.now c.loop-place.hub c.loop-place.invariant.0.asks c.requires.ledgers

pub add_owner-requires-clause-known : goal.add_owner-requires-clause-known
add_owner-requires-clause-known g c = placed_known _ c.loop-place.place (c.owners.ensures.placed c.loop-place.place c.index-owners-place.result (item_at c.owners.result.now c.loop-place.place c.index-owners-place.result (search rules) c.index-owners-place.is))

pub returns-in_err-add_owner-clause-asks : goal.returns-in_err-add_owner-clause-asks
returns-in_err-add_owner-clause-asks g c = asks_join g.O.Outbox.standing g.L.Ledger.standing c.args.hub.now c.loop-place.hub c.add_owner.new.hub c.loop-place.invariant.0.asks c.add_owner.ensures.asks

pub returns-in_err-add_owner-clause-adds : goal.returns-in_err-add_owner-clause-adds
returns-in_err-add_owner-clause-adds g c = ok_of_none c.from_residual.result _ _ c.from_residual.ensures.1

pub loop-place-preserved : goal.loop-place-preserved
loop-place-preserved g c = (
  owner_more g.O.Outbox.standing g.L.Ledger.standing c.loop-place.place c.index-owners-place.result c.args.hub.now c.loop-place.hub c.add_owner.new.hub (string_bytes c.args.text.now) (string_bytes c.loop-place.text) (string_bytes c.add_owner.new.text)
      (entry_at c.loop-place.hub.scheme.owners c.owners.result.now c.loop-place.place c.index-owners-place.result c.owners.ensures.value (search rules) c.index-owners-place.is) c.loop-place.invariant.0 c.in_ok-add_owner.ensures.adds,
  counted_ok _ _ c.add_owner.result tt c.in_ok-add_owner.was c.add_owner.ensures.cause ∙ c.loop-place.invariant.1,
)

pub returns-clause-asks : goal.returns-clause-asks
returns-clause-asks g c = c.loop-place.invariant.0.asks
