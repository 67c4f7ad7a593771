use Rattle.std.proofs.Common.{[], ◌∷◌, Ok, sym, ap}
use Rattle.sqlite.specs.Held.{state}
use Rattle.sqlite.specs.State.{QueriesRow, Shown}
use Rattle.fare_tables.specs.Cells.{int}
use Rattle.fare_ledger.specs.Held.{lane_of}
use Rattle.fare_ledger.proofs.Texts.{lane_text, lane_reads}
use Rattle.fare_ledger.proofs.Found.{lane_row_is, lane_none, lane_read}
use Rattle.fare_ledger.proofs.reading.read_lane.Goals as goal

pub ask-requires : goal.ask-requires
ask-requires g c = lane_reads c.args.layout.now

pub returns-in-Some-clause-value : goal.returns-in-Some-clause-value
returns-in-Some-clause-value g c live ready =
    let old = state g.S.Store c.args.conn.now in
    let new = state g.S.Store c.ask.new.conn in
    let h : QueriesRow lane_text (int c.args.device ∷ []) old new (Ok c.in-Some.row) = rw (c.parameter.ensures, c.from.ensures, c.get.ensures.value, c.in-Some.is) at (c.in_ok-row.ensures.row live.0 ready.rest) in
    lane_read c.lane_in.result c.in-Some.row _ (lane_row_is c.args.layout.now old new c.args.device c.in-Some.row ready.rest.schema_is ready.fits.lanes h) c.lane_in.ensures.taken c.lane_in.ensures.closed

pub returns-in-None-clause-value : goal.returns-in-None-clause-value
returns-in-None-clause-value g c live ready =
    let old = state g.S.Store c.args.conn.now in
    let new = state g.S.Store c.ask.new.conn in
    let h : Shown lane_text (int c.args.device ∷ []) old new [] = rw (c.parameter.ensures, c.from.ensures, c.get.ensures.value, c.in-None.is) at (c.in_ok-row.ensures.row live.0 ready.rest) in
    sym (ap lane_of (lane_none c.args.layout.now old new c.args.device ready.rest.schema_is ready.fits.lanes h))
