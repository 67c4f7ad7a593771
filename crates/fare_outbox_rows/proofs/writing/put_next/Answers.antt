use Rattle.std.proofs.Common.{Bool, subst, sym}
use Rattle.sqlite.specs.Held.{state}
use Rattle.fare_tables.proofs.Making.{on_ok}
use Rattle.fare_outbox_rows.specs.Layouts.{ours}
use Rattle.fare_outbox_rows.specs.Held.{held_of, Becomes, PutsTap}
use Rattle.fare_outbox_rows.specs.Batches.{with_tap_if}
use Rattle.fare_outbox_rows.proofs.Puts.{tap_alone}
use Rattle.fare_outbox_rows.proofs.writing.put_next.Goals as goal

pub returns-then-not-last-clause-puts : goal.returns-then-not-last-clause-puts
returns-then-not-last-clause-puts g c late inside schema readable =
    let a = (state g.S.Store c.args.tx.now.conn.now).now in
    let b = (state g.S.Store c.put_tap.new.tx.conn.now).now in
    let w = c.args.layout.now in
    let r = c.args.row.now in
    on_ok c.put_tap.result (λ (puts : PutsTap w a b r × _). (subst (λ (last : Bool). Becomes w b (with_tap_if last r (held_of (ours w a.trees)))) (sym c.if-not-last.true) (tap_alone w a b r readable puts.0), puts.1))
    (c.put_tap.ensures.puts late inside schema)

pub returns-clause-puts : goal.returns-clause-puts
returns-clause-puts g c late inside schema readable = rw c.if-not-last.false (c.put_row.ensures.puts late inside schema readable)
