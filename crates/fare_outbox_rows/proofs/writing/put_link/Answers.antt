use Rattle.std.proofs.Common.{Ok, [], ◌∷◌}
use Rattle.sqlite.specs.Held.{state}
use Rattle.sqlite.specs.State.{Executes}
use Rattle.fare_tables.specs.Cells.{int}
use Rattle.fare_outbox_rows.proofs.Texts.{put_link_text}
use Rattle.fare_outbox_rows.proofs.Links.{puts_link}
use Rattle.fare_outbox_rows.proofs.writing.put_link.Goals as goal

pub returns-clause-puts : goal.returns-clause-puts
returns-clause-puts g c clean inside schema devices =
    let old = state g.S.Store c.args.tx.now.conn.now in
    let new = state g.S.Store c.change.new.tx.conn.now in
    let ran = c.in_ok-change.ensures.ran clean inside in
    let h : Executes put_link_text (int c.args.device ∷ int c.args.upto ∷ []) old new (Ok c.in_ok-change.field-0) = rw (c.parameter.ensures, c.parameter-2.ensures, c.from.ensures, c.get.ensures.value) at ran.0 in
    (puts_link c.args.layout.now old new c.args.device c.args.upto c.in_ok-change.field-0 schema devices h, ran.1)
