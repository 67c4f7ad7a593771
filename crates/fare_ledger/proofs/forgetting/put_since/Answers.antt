use Rattle.std.proofs.Common.{Ok, [], ◌∷◌}
use Rattle.sqlite.specs.Held.{state}
use Rattle.sqlite.specs.State.{Executes}
use Rattle.fare_tables.specs.Cells.{int}
use Rattle.fare_ledger.proofs.Texts.{put_since_text}
use Rattle.fare_ledger.proofs.Sinces.{puts_since}
use Rattle.fare_ledger.proofs.Puts.{other_since}
use Rattle.fare_ledger.proofs.forgetting.put_since.Goals as goal

pub returns-clause-puts : goal.returns-clause-puts
returns-clause-puts g c clean inside schema readable =
    let old = state g.S.Store c.args.tx.now.conn.now in
    let new = state g.S.Store c.change.new.tx.conn.now in
    let ran = c.in_ok-change.ensures.ran clean inside in
    let h : Executes put_since_text (int c.args.device ∷ int c.args.since ∷ []) old new (Ok c.in_ok-change.field-0) = rw (c.parameter.ensures, c.parameter-2.ensures, c.from.ensures, c.get.ensures.value, c.from-2.ensures, c.get-2.ensures.value) at ran.0 in
    (other_since c.args.layout.now old.now new.now c.args.device c.args.since readable (puts_since c.args.layout.now old new c.args.device c.args.since c.in_ok-change.field-0 schema readable.since h), ran.1)
