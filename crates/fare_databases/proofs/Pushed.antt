-- One ledger more, opened in the database at its place.
use Rattle.std.proofs.Common.{◌≡◌, ◌++◌, ◌∷◌, ℕ, List, [], Some, length, sym, ap, ◌∙◌, subst, inl, inr}
use Rattle.std.specs.Prelude.{Option, slice_get}
use Rattle.fare_scheme.specs.Words.{id_at}
use Rattle.fare_world.proofs.Places.{slice_get-push_cases}

module _ {D L X : Type 0} (owners : List (ℕ × X)) (ds : List D) (Q : ℕ → D → L → Type 0) where
  -- what is said of each ledger, its owner and its database
  abbrev pub AreEach : List L → Type 0
  AreEach xs = (k : ℕ) (x : L) (owner : ℕ) (d : D) → slice_get xs k ≡ Some x → id_at owners k ≡ Some owner → slice_get ds k ≡ Some d → Q owner d x

  pub each_more : (xs : List L) (x : L) (owner : ℕ) (d : D) → AreEach xs → id_at owners (length xs) ≡ Some owner → slice_get ds (length xs) ≡ Some d → Q owner d x → AreEach (xs ++ x ∷ [])
  each_more xs x owner d all at there is k y o e f known beside = elim (slice_get-push_cases xs x k y f) [
    | inl was ↦ all k y o e was known beside
    | inr new ↦ (
        let owners_same : ◌≡◌ {A = Option ℕ} (Some owner) (Some o) = sym at ∙ (ap (id_at owners) (sym new.0) ∙ known) in
        let same_owner : owner ≡ o = cc in
        let databases_same : ◌≡◌ {A = Option D} (Some d) (Some e) = sym there ∙ (ap (slice_get ds) (sym new.0) ∙ beside) in
        let same_database : d ≡ e = cc in
        subst (λ (z : ℕ × D × L). Q z.0 z.1 z.2) (λ i. (same_owner i, same_database i, new.1 i)) is)
  ]
