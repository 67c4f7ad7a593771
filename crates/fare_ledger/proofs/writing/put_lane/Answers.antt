use Rattle.std.proofs.Common.{Ok, [], ◌∷◌}
use Rattle.sqlite.specs.Held.{state}
use Rattle.sqlite.specs.State.{Executes}
use Rattle.fare_tables.specs.Cells.{int}
use Rattle.fare_ledger.proofs.Texts.{put_lane_text}
use Rattle.fare_ledger.proofs.Links.{puts_lane}
use Rattle.fare_ledger.proofs.writing.put_lane.Goals as goal

pub returns-clause-puts : goal.returns-clause-puts
returns-clause-puts g c clean inside schema lanes =
    let old = state g.S.Store c.args.tx.now.conn.now in
    let new = state g.S.Store c.change.new.tx.conn.now in
    let ran = c.in_ok-change.ensures.ran clean inside in
    let h : Executes put_lane_text (int c.args.device ∷ int c.args.taken ∷ int c.args.closed ∷ []) old new (Ok c.in_ok-change.field-0) = rw (c.parameter.ensures, c.parameter-2.ensures, c.parameter-3.ensures, c.from.ensures, c.get.ensures.value) at ran.0 in
    (puts_lane c.args.layout.now old new c.args.device c.args.taken c.args.closed c.in_ok-change.field-0 schema lanes h, ran.1)
