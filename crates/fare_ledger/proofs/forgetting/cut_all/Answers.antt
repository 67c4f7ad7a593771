use Rattle.std.proofs.Common.{arith, subst, ap, ◌∙◌}
use Rattle.sqlite.specs.Held.{state}
use Rattle.sqlite.specs.State.{HasCleanDisk}
use Rattle.fare_tables.proofs.Making.{on_ok}
use Rattle.fare_ledger.specs.Layouts.{ours}
use Rattle.fare_ledger.specs.Held.{Held, Becomes, held_of, with_since, without_statements}
use Rattle.fare_ledger.proofs.forgetting.cut_all.Goals as goal

pub returns-clause-puts : goal.returns-clause-puts
returns-clause-puts g c late inside schema readable =
    let w = c.args.layout.now in
    let d = (state g.S.Store c.cut_statements.new.tx.conn.now).now in
    let e = (state g.S.Store c.put_since.new.tx.conn.now).now in
    let last = late in
    let clean : HasCleanDisk (state g.S.Store c.cut_statements.new.tx.conn.now) = omega (arith, last, c.put_since.ensures.survives.clean) in
    let before : HasCleanDisk (state g.S.Store c.cut_taps.new.tx.conn.now) = omega (arith, clean, c.cut_statements.ensures.survives.clean) in
    let first = c.in_ok-cut_taps.ensures.puts before inside schema readable in
    let second = c.in_ok-cut_statements.ensures.puts clean first.1 first.0.schema first.0.readable in
    let is = second.0.value ∙ ap (without_statements c.args.device c.args.day) first.0.value in
    on_ok c.put_since.result (λ (third : Becomes w e (with_since c.args.device c.args.since (held_of (ours w d.trees))) × _). (subst (λ (h : Held). Becomes w e (with_since c.args.device c.args.since h)) is third.0, third.1))
    (c.put_since.ensures.puts late second.1 second.0.schema second.0.readable)
