use Rattle.std.proofs.Common.{◌≡◌, IsTrue, subst}
use Rattle.std.specs.Prelude.{◌↔◌}
use Rattle.sqlite.specs.Held.{state}
use Rattle.sqlite.specs.Schema.{Schema}
use Rattle.fare_opening.specs.Beside.{IsBeside}
use Rattle.fare_opening.proofs.Neighbors.{nowhere_beside, nowhere_stands}
use Rattle.fare_opening.proofs.Standing.{not_true}
use Rattle.fare_opening.proofs.Vacant.{not_vacant}
use Rattle.fare_opening.proofs.beside.keep_beside.Goals as goal

pub returns-then-not-branch-clause-lacks : goal.returns-then-not-branch-clause-lacks
returns-then-not-branch-clause-lacks g c clean none w stands =
    let schema : c.schema.result.now ≡ (state g.S.Store c.args.conn.now).now.schema = search in
    let is = subst (λ (s : Schema). IsTrue c.in_ok-is_beside.field-0 ↔ IsBeside g.E.Design.parts s c.args.site) schema c.in_ok-is_beside.ensures in
    nowhere_beside g.D.Design.parts g.E.Design.parts c.args.owner (state g.S.Store c.args.conn.now) c.args.site w c.requires.site.0 c.requires.site.1 (λ beside. not_true c.in_ok-is_beside.field-0 c.if-not-branch.true (is.1 beside)) stands

pub returns-then-not-branch-clause-crowded : goal.returns-then-not-branch-clause-crowded
returns-then-not-branch-clause-crowded g c none vacant w makes beside = not_vacant g.D.Design.parts c.args.site (state g.S.Store c.args.conn.now).now.schema c.sound.ensures.design c.requires.site.0 vacant c.requires.site.1

pub returns-else-branch-clause-lacks : goal.returns-else-branch-clause-lacks
returns-else-branch-clause-lacks g c clean none w stands beside =
    nowhere_stands g.D.Design.parts c.args.owner (state g.S.Store c.args.conn.now) c.args.site w c.requires.site.0 c.requires.site.1 (λ is. not_true c.in_ok-has_store.field-0 c.if-branch.false ((c.in_ok-has_store.ensures.ours clean c.requires.site.1).1 is)) stands

pub returns-else-branch-clause-crowded : goal.returns-else-branch-clause-crowded
returns-else-branch-clause-crowded g c none vacant w makes beside = not_vacant g.D.Design.parts c.args.site (state g.S.Store c.args.conn.now).now.schema c.sound.ensures.design c.requires.site.0 vacant c.requires.site.1
