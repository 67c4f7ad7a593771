use Rattle.std.proofs.Common.{◌≡◌, inr, ap, ◌∙◌}
use Rattle.sqlite.specs.Held.{state}
use Rattle.fare_layout.proofs.Creation.{some_is}
use Rattle.fare_opening.specs.Sites.{IsSite}
use Rattle.fare_opening.proofs.Finds.{none_lacks}
use Rattle.fare_opening.proofs.Standing.{not_true}
use Rattle.fare_opening.proofs.finding.find_tables.Goals as goal

pub returns-else-branch-clause-found : goal.returns-else-branch-clause-found
returns-else-branch-clause-found g c clean store =
    let d = g.D.Design.parts in
    let old = state g.S.Store c.args.conn.now in
    let it = some_is c.in_ok-site.field-0 c.in-Some.site (λ w. IsSite d w × (c.schema.result.now ≡ w.schema)) c.in-Some.is c.in_ok-site.ensures.found in
    let at : old.now.schema ≡ c.in-Some.site.schema = search in
    none_lacks d c.args.owner old c.in-Some.site c.sound.ensures.design it.0 at (λ is. not_true c.in_ok-has_store.field-0 c.if-branch.false ((c.in_ok-has_store.ensures.ours clean at).1 is)) (inr store)
