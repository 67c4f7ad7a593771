use Rattle.std.proofs.Common.{arith, subst, sym, IsTrue}
use Rattle.sqlite.specs.Held.{state}
use Rattle.sqlite.specs.State.{HasCleanDisk}
use Rattle.fare_tables.proofs.Making.{on_ok}
use Rattle.fare_layout.specs.Growing.{GrowsBy}
use Rattle.fare_opening.specs.Making.{IsNew, KeepsAllButMeta}
use Rattle.fare_opening.proofs.Grown.{grown_blank}
use Rattle.fare_opening.proofs.Makes.{all_new, others_kept}
use Rattle.fare_opening.proofs.making.make_all.Goals as goal

pub returns-clause-made : goal.returns-clause-made
returns-clause-made g c clean inside grows =
    let p = g.D.Design.parts in
    let design = c.sound.ensures.design in
    let a = (state g.S.Store c.args.tx.now.conn.now).now in
    let b = (state g.S.Store c.make_tables.new.tx.conn.now).now in
    let d = (state g.S.Store c.put_meta.new.tx.conn.now).now in
    let late = clean in
    let before : HasCleanDisk (state g.S.Store c.make_tables.new.tx.conn.now) = omega (arith, late, c.put_meta.ensures.survives.clean) in
    all_new p c.args.owner c.put_meta.result a d (IsTrue (state g.S.Store c.put_meta.new.tx.conn.now).in_transaction) grows (λ w makes. (
    let grown = c.in_ok-make_tables.ensures.made before inside w.schema (subst (λ t. GrowsBy a.schema t w.schema) (sym c.tables.ensures) makes.grows) in
    on_ok c.put_meta.result (λ (m : IsNew p c.args.owner w d × KeepsAllButMeta w b d × _). (m.0, others_kept p w a b d design makes grown.0.others m.1, m.2))
    (c.put_meta.ensures.made clean grown.1 w makes.site (grown_blank p w a b design makes grown.0))))
