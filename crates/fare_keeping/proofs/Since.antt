-- What is left since a question was asked, which changes no row.
use Rattle.std.proofs.Common.{◌≡◌, Result, Ok, Err, sym, ap, subst, ◌∙◌}
use Rattle.std.specs.Prelude.{IfErr, OnOk}
use Rattle.std.specs.Result.{IsErrAnd}
use Rattle.sqlite.specs.Effect.{Database}
use Rattle.sqlite.specs.State.{State, HasCleanDisk, Survives}
use Rattle.sqlite.proofs.StateLemmas.{survives_weaker, survives_then}
use Rattle.fare_tables.specs.Asking.{IsAtRest, SameRows}
use Rattle.fare_tables.proofs.Steps.{was_clean}
use Rattle.fare_opening.specs.declared.site.Site.{Site}
use Rattle.fare_opening.specs.Sites.{IsSite}
use Rattle.fare_kept.specs.Statements.{kept_parts}
use Rattle.fare_keeping.specs.Leaving.{LeavesOthersIn}

pub err_says : {X E : Type 0} (r : Result X E) (P : E → Type 0) (fault : E) → IsErrAnd r (λ e. e ≡ fault) → P fault → IfErr r P
err_says (Ok x) P fault is says = tt
err_says (Err e) P fault is says = subst P (sym is) says

pub for_ok : {X E : Type 0} (r : Result X E) (P : Type 0) → P → OnOk r P
for_ok (Ok x) P p = p
for_ok (Err e) P p = tt

pub never_left : (w : Site) (old new : State) → Survives old new (λ _. ¬ (old.now.schema ≡ w.schema)) → Survives old new (λ trees. IsAtRest w.schema old → LeavesOthersIn w old.now trees)
never_left w old new = survives_weaker old new _ _ (λ clean trees no rest. absurd (no rest.schema_is))

pub left_since : (w : Site) (old mid new : State) → IsSite kept_parts w → (HasCleanDisk mid → old.now.schema ≡ w.schema → SameRows old mid) → Survives old mid (λ _. ¬ (old.now.schema ≡ w.schema))
    → Survives mid new (λ trees. (v : Site) → IsSite kept_parts v → mid.now.schema ≡ v.schema → LeavesOthersIn v mid.now trees) → Survives old new (λ trees. IsAtRest w.schema old → LeavesOthersIn w old.now trees)
left_since w old mid new site same first second =
    survives_then old mid new _ _ _ (λ clean trees no rest. absurd (no rest.schema_is)) (λ clean trees left rest.
    let rows : SameRows old mid = same (was_clean mid new _ second clean) rest.schema_is in
    let schema : mid.now.schema ≡ w.schema = ap (λ (db : Database). db.schema) rows.0 ∙ rest.schema_is in
    subst (λ db. LeavesOthersIn w db trees) rows.0 (left w site schema)) first second
