use Rattle.std.proofs.Common.{subst}
use Rattle.std.specs.Prelude.{Vec, IfOk}
use Rattle.std.specs.Global.{Global}
use Rattle.sqlite.specs.Held.{state}
use Rattle.sqlite.specs.State.{Shown}
use Rattle.sqlite.proofs.StateLemmas.{survives_weaker}
use Rattle.fare_record.specs.Values.{RecordValue}
use Rattle.fare_ledger.specs.Shown.{ShowRows}
use Rattle.fare_ledger.proofs.Texts.{between_text, between_reads}
use Rattle.fare_ledger.proofs.Found.{asked}
use Rattle.fare_ledger.proofs.Listed.{between_rows}
use Rattle.fare_ledger.proofs.listing.read_between.Goals as goal

pub ask_rows-requires : goal.ask_rows-requires
ask_rows-requires g c = between_reads c.args.layout.now

pub returns-clause-value : goal.returns-clause-value
returns-clause-value g c live ready =
    let old = state g.S.Store c.args.conn.now in
    let new = state g.S.Store c.ask_rows.new.conn in
    let h : Shown between_text (asked c.args.from c.args.to) old new c.in_ok-rows.rows.items = rw (c.parameter.ensures, c.parameter-2.ensures, c.from.ensures, c.from-2.ensures, c.get.ensures.value, c.get-2.ensures.value) at (c.in_ok-rows.ensures.rows live.0) in
    between_rows c.args.layout.now (Vec RecordValue Global) (λ taps. taps.items) c.records_in.result old new c.args.owner c.args.from c.args.to c.in_ok-rows.rows.items ready.rest.schema_is ready.fits.taps h (subst (λ rows. IfOk c.records_in.result (λ taps. ShowRows c.args.owner rows taps.items)) c.as_slice.ensures.value c.records_in.ensures)

pub returns-in_err-rows-clause-crash : goal.returns-in_err-rows-clause-crash
returns-in_err-rows-clause-crash g c = survives_weaker (state g.S.Store c.args.conn.now) (state g.S.Store c.ask_rows.new.conn) _ _ (λ _ db other rest. other rest.schema_is) c.ask_rows.ensures.crash

pub returns-clause-crash : goal.returns-clause-crash
returns-clause-crash g c = survives_weaker (state g.S.Store c.args.conn.now) (state g.S.Store c.ask_rows.new.conn) _ _ (λ _ db other rest. other rest.schema_is) c.ask_rows.ensures.crash
