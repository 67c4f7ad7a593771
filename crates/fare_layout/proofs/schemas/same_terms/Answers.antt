use Rattle.std.proofs.Common.{◌≡◌, IsTrue, sym, subst, ◌∙◌}
use Rattle.sqlite_schema.specs.Code.{terms_in}
use Rattle.fare_layout.specs.Schemas.{AreSimple}
use Rattle.fare_layout.proofs.schemas.same_terms.Goals as goal

pub returns-clause-found : goal.returns-clause-found
returns-clause-found c simple same =
    let asks : AreSimple (terms_in c.b.inside.nodes c.b.inside.roots) → terms_in c.a.inside.nodes c.a.inside.roots ≡ terms_in c.b.inside.nodes c.b.inside.roots → IsTrue c.same_roots.result =
    rw (c.as_slice.ensures, c.as_slice-2.ensures, c.as_slice-3.ensures, c.as_slice-4.ensures) at c.same_roots.ensures.found in
    asks (subst AreSimple (sym c.b.view_is) simple) (c.a.view_is ∙ same ∙ sym c.b.view_is)
