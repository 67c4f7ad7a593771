use Rattle.std.proofs.Common.{◌≡◌, IsTrue, sym, subst}
use Rattle.std.specs.Prelude.{◌↔◌}
use Rattle.fare_layout.specs.Places.{all_of}
use Rattle.fare_layout.proofs.Creation.{some_is}
use Rattle.fare_opening.specs.Beside.{AreAllApart}
use Rattle.fare_opening.specs.Parts.{Parts, IsDesign}
use Rattle.fare_opening.specs.Sites.{IsSite}
use Rattle.fare_opening.proofs.Neighbors.{found_apart, none_found}
use Rattle.fare_opening.proofs.Standing.{some_weaker}
use Rattle.fare_opening.proofs.beside.stand_apart.Goals as goal

pub returns-in-Some : goal.returns-in-Some
returns-in-Some c p design tables texts =
    let w = c.args.site.now in
    let it = some_is c.in_ok-other.field-0 c.in-Some.other (λ site. (p : Parts) → IsDesign p → _ ≡ p.tables → _ ≡ p.texts → IsSite p site × (w.schema ≡ site.schema)) c.in-Some.is c.in_ok-other.ensures.found p design tables texts in
    let is : IsTrue c.are_apart.result ↔ AreAllApart (all_of c.in-Some.other.places) (all_of w.places) = subst (λ ps. IsTrue c.are_apart.result ↔ AreAllApart ps (all_of w.places)) c.as_slice.ensures (subst (λ qs. IsTrue c.are_apart.result ↔ AreAllApart c.as_slice.result.now qs) c.as_slice-in-Some.ensures c.are_apart.ensures) in
    found_apart p c.args.schema.now w c.in-Some.other c.are_apart.result c.requires it.0 it.1 is

pub returns-in_ok-find_site-in-None : goal.returns-in_ok-find_site-in-None
returns-in_ok-find_site-in-None c p design tables texts =
    none_found p c.args.schema.now c.args.site.now c.in_ok-find_site-in-None.field-0 c.is_none.result (c.in_ok-other.ensures.lacks c.in-None.is p design tables texts) (some_weaker c.in_ok-find_site-in-None.field-0 _ _ (λ v found. found p design tables texts) c.in_ok-find_site-in-None.ensures.found)
    (λ none. c.in_ok-find_site-in-None.ensures.lacks none p design tables texts) c.is_none.ensures
