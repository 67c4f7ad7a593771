-- Sources of frames that are written down, one after the other.
use Rattle.std.proofs.Common.{ℕ, ◌+◌, List, [], ◌∷◌, ◌++◌, sym, ap, ◌∙◌, subst, inl, inr}
use Rattle.std.proofs.lemmas.List.{length_push}
use Rattle.fare_session.proofs.Asks.{push_cases}
use Rattle.fare_scripts.specs.declared.scripts.Script.{Script}
use Rattle.fare_scripts.specs.Sources.{IsSourceOf, AreSourcesOf}

-- a source of one device more
pub one_more : (devices : ℕ) (links : List ℕ) (sources : List Script) (source : Script) → AreSourcesOf devices links sources → IsSourceOf (devices + 1) links source → AreSourcesOf (devices + 1) links (sources ++ source ∷ [])
one_more devices links sources source are is = record {
  len = length_push sources source ∙ ap (λ n. n + 1) are.len;
  each = λ place s at. elim (push_cases sources source s place at) [
    | inl before ↦ are.each place s before
    | inr last ↦ subst (λ (x : ℕ × Script). IsSourceOf (x.0 + 1) links x.1) (λ i. (sym (last.0 ∙ are.len) i, last.1 i)) is
  ];
}
