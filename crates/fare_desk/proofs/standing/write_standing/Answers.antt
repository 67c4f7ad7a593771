use Rattle.std.proofs.Common.{string_bytes, ◌∙◌}
use Rattle.fare_desk.specs.Causes.{store_fault}
use Rattle.fare_desk.proofs.Asked.{asked_ledgers, asks_join}
use Rattle.fare_desk.proofs.Causes.{counted_fault, counted_ok, counted_then, counted_write}
use Rattle.fare_desk.proofs.Failing.{ok_of_none, store_kept, store_unnamed, write_kept, write_unnamed}
use Rattle.fare_desk.proofs.Shown.{standing_written}
use Rattle.fare_desk.proofs.standing.write_standing.Goals as goal

pub returns-in_err-add_uptos-clause-asks : goal.returns-in_err-add_uptos-clause-asks
returns-in_err-add_uptos-clause-asks g c = c.add_uptos.ensures.asks

pub returns-in_err-add_uptos-clause-written : goal.returns-in_err-add_uptos-clause-written
returns-in_err-add_uptos-clause-written g c = ok_of_none c.from_residual.result _ _ c.from_residual.ensures.1

pub returns-in_err-add_uptos-clause-cause : goal.returns-in_err-add_uptos-clause-cause
returns-in_err-add_uptos-clause-cause g c = counted_fault _ _ c.add_uptos.result c.from_residual.result c.in_err-add_uptos.field-0.0 c.in_err-add_uptos.was c.from_residual.ensures.1 c.add_uptos.ensures.cause

pub returns-in_err-add_uptos-clause-unnamed : goal.returns-in_err-add_uptos-clause-unnamed
returns-in_err-add_uptos-clause-unnamed g c = store_unnamed c.from_residual.result c.in_err-add_uptos.field-0.0 c.from_residual.ensures.1

pub returns-in_err-add_uptos-clause-kept : goal.returns-in_err-add_uptos-clause-kept
returns-in_err-add_uptos-clause-kept g c = store_kept c.from_residual.result (g.W.Write.contents c.args.output.now)

pub add_lanes-requires : goal.add_lanes-requires
add_lanes-requires g c = record { ledgers = asked_ledgers g.O.Outbox.standing g.L.Ledger.standing c.args.hub.now c.add_uptos.new.hub c.add_uptos.ensures.asks c.requires.ledgers }

pub returns-in_err-add_lanes-clause-asks : goal.returns-in_err-add_lanes-clause-asks
returns-in_err-add_lanes-clause-asks g c = asks_join g.O.Outbox.standing g.L.Ledger.standing c.args.hub.now c.add_uptos.new.hub c.add_lanes.new.hub c.add_uptos.ensures.asks c.add_lanes.ensures.asks

pub returns-in_err-add_lanes-clause-written : goal.returns-in_err-add_lanes-clause-written
returns-in_err-add_lanes-clause-written g c = ok_of_none c.from_residual-in_err-add_lanes.result _ _ c.from_residual-in_err-add_lanes.ensures.1

pub returns-in_err-add_lanes-clause-cause : goal.returns-in_err-add_lanes-clause-cause
returns-in_err-add_lanes-clause-cause g c =
    counted_then _ _ _ (store_fault c.from_residual-in_err-add_lanes.result) (counted_ok _ _ c.add_uptos.result tt c.in_ok-add_uptos.was c.add_uptos.ensures.cause)
    (counted_fault _ _ c.add_lanes.result c.from_residual-in_err-add_lanes.result c.in_err-add_lanes.field-0.0 c.in_err-add_lanes.was c.from_residual-in_err-add_lanes.ensures.1 c.add_lanes.ensures.cause)

pub returns-in_err-add_lanes-clause-unnamed : goal.returns-in_err-add_lanes-clause-unnamed
returns-in_err-add_lanes-clause-unnamed g c = store_unnamed c.from_residual-in_err-add_lanes.result c.in_err-add_lanes.field-0.0 c.from_residual-in_err-add_lanes.ensures.1

pub returns-in_err-add_lanes-clause-kept : goal.returns-in_err-add_lanes-clause-kept
returns-in_err-add_lanes-clause-kept g c = store_kept c.from_residual-in_err-add_lanes.result (g.W.Write.contents c.args.output.now)

pub returns-clause-asks : goal.returns-clause-asks
returns-clause-asks g c = asks_join g.O.Outbox.standing g.L.Ledger.standing c.args.hub.now c.add_uptos.new.hub c.add_lanes.new.hub c.add_uptos.ensures.asks c.add_lanes.ensures.asks

pub returns-clause-written : goal.returns-clause-written
returns-clause-written g c =
    standing_written g.O.Outbox.standing g.L.Ledger.standing c.args.hub.now c.add_uptos.new.hub c.add_lanes.new.hub (string_bytes c.new-text.result) (string_bytes c.add_uptos.new.text) (string_bytes c.add_lanes.new.text) (g.W.Write.contents c.args.output.now) (g.W.Write.contents c.write_text.new.output)
    c.new-text.ensures.bytes c.in_ok-add_uptos.ensures.adds c.in_ok-add_lanes.ensures.adds c.as_bytes.result.now c.as_bytes.ensures.value c.write_text.result c.write_text.ensures.written

pub returns-clause-cause : goal.returns-clause-cause
returns-clause-cause g c =
    counted_write _ _ c.write_text.result c.write_text.ensures.failed
    (counted_ok _ _ c.add_lanes.result tt c.in_ok-add_lanes.was c.add_lanes.ensures.cause ∙ counted_ok _ _ c.add_uptos.result tt c.in_ok-add_uptos.was c.add_uptos.ensures.cause)

pub returns-clause-unnamed : goal.returns-clause-unnamed
returns-clause-unnamed g c = write_unnamed c.write_text.result c.write_text.ensures.failed

pub returns-clause-kept : goal.returns-clause-kept
returns-clause-kept g c = write_kept c.write_text.result (g.W.Write.contents c.args.output.now) (g.W.Write.contents c.write_text.new.output) c.write_text.ensures.failed
