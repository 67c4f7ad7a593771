use Rattle.std.proofs.Common.{◌≡◌, IsTrue, subst}
use Rattle.std.specs.Prelude.{◌↔◌}
use Rattle.sqlite.specs.Held.{state}
use Rattle.sqlite.specs.Schema.{Schema}
use Rattle.fare_opening.specs.Beside.{IsBeside}
use Rattle.fare_opening.proofs.Neighbors.{may_make, nowhere_made}
use Rattle.fare_opening.proofs.Standing.{not_true}
use Rattle.fare_opening.proofs.Vacant.{not_vacant}
use Rattle.fare_opening.proofs.beside.make_beside.Goals as goal

pub returns-in_err-make_store-clause-crash : goal.returns-in_err-make_store-clause-crash
returns-in_err-make_store-clause-crash g c =
    let schema : c.schema.result.now ≡ (state g.S.Store c.args.conn.now).now.schema = search in
    let is = subst (λ (s : Schema). IsTrue c.in_ok-is_beside.field-0 ↔ IsBeside g.E.Design.parts s c.args.site) schema c.in_ok-is_beside.ensures in
    may_make g.D.Design.parts g.E.Design.parts c.args.owner (state g.S.Store c.args.conn.now) (state g.S.Store c.make_store.new.conn) c.args.site c.requires.vacant.0 c.requires.vacant.1 (is.0 c.if-branch.true) c.in_err-make_store.ensures.crash

pub returns-in_ok-make_store-clause-crash : goal.returns-in_ok-make_store-clause-crash
returns-in_ok-make_store-clause-crash g c =
    let schema : c.schema.result.now ≡ (state g.S.Store c.args.conn.now).now.schema = search in
    let is = subst (λ (s : Schema). IsTrue c.in_ok-is_beside.field-0 ↔ IsBeside g.E.Design.parts s c.args.site) schema c.in_ok-is_beside.ensures in
    may_make g.D.Design.parts g.E.Design.parts c.args.owner (state g.S.Store c.args.conn.now) (state g.S.Store c.make_store.new.conn) c.args.site c.requires.vacant.0 c.requires.vacant.1 (is.0 c.if-branch.true) c.in_ok-make_store.ensures.crash

pub returns-else-branch-clause-lacks : goal.returns-else-branch-clause-lacks
returns-else-branch-clause-lacks g c clean none w stands beside = not_vacant g.D.Design.parts w (state g.S.Store c.args.conn.now).now.schema c.sound.ensures.design stands.site c.requires.vacant.0 stands.schema

pub returns-else-branch-clause-crowded : goal.returns-else-branch-clause-crowded
returns-else-branch-clause-crowded g c none vacant =
    let schema : c.schema.result.now ≡ (state g.S.Store c.args.conn.now).now.schema = search in
    let is = subst (λ (s : Schema). IsTrue c.in_ok-is_beside.field-0 ↔ IsBeside g.E.Design.parts s c.args.site) schema c.in_ok-is_beside.ensures in
    nowhere_made g.D.Design.parts g.E.Design.parts (state g.S.Store c.args.conn.now).now.schema c.args.site c.requires.vacant.1 (λ beside. not_true c.in_ok-is_beside.field-0 c.if-branch.false (is.1 beside))
