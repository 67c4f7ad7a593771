-- Rows, put one after the other.
use Rattle.std.proofs.Common.{◌≡◌, ◌++◌, ◌∷◌, ℕ, List, [], IsTrue, inl, refl, ◌∙◌, arith}
use Rattle.sqlite.specs.State.{State, HasCleanDisk, Survives}
use Rattle.sqlite.proofs.StateLemmas.{survives_then}
use Rattle.sqlite_value.specs.Order.{Row}
use Rattle.fare_layout.specs.declared.place.TableNumber.{TableNumber}
use Rattle.fare_tables.specs.Asking.{Inside}
use Rattle.fare_opening.specs.declared.site.Site.{Site}
use Rattle.fare_opening.specs.Listed.{IsPutting, Puts}
use Rattle.fare_opening.specs.Parts.{Parts}
use Rattle.fare_opening.specs.Sites.{IsSite}
use Rattle.fare_opening.proofs.Filled.{none_put, put_behind}

-- what a text that puts a row made of a transaction, of these rows
abbrev pub HasPut : State → State → List ℕ → List Row → Type 0
HasPut old new put rows =
    HasCleanDisk new → IsTrue old.in_transaction → (p : Parts) (k : TableNumber) (columns : ℕ) (w : Site) → IsPutting p k columns put → IsSite p w → old.now.schema ≡ w.schema
    → Puts w k columns rows old.now new.now × IsTrue new.in_transaction

-- and that nothing was committed
pub record ArePut (old new : State) (put : List ℕ) (rows : List Row) : Type 0 where
  pub made : HasPut old new put rows
  pub inside : HasCleanDisk new → Inside old new
  pub survives : Survives old new (λ _. ⊥)

pub none : (s : State) (put : List ℕ) → ArePut s s put []
none s put = record {
  made = λ clean inside p k columns w it site has. (none_put w k columns s.now has, inside);
  inside = λ clean up. (up, refl);
  survives = record { clean = omega arith; shield = λ x. x; counts = omega arith; limit = refl; closes = λ clean up. inl up; crash = λ clean db leaves. inl leaves };
}

module _ (a b c : State) (put : List ℕ) (rows : List Row) (so_far : ArePut a b put rows) where
  pub still_inside : HasCleanDisk b → (HasCleanDisk c → Inside b c) → HasCleanDisk c → Inside a c
  still_inside before one clean up =
      let late = one clean up in
      let early = so_far.inside before late.0 in
      (early.0, late.1 ∙ early.1)

  pub still_survives : Survives b c (λ _. ⊥) → Survives a c (λ _. ⊥)
  still_survives one = survives_then a b c (λ _. ⊥) (λ _. ⊥) (λ _. ⊥) (λ clean db none. none) (λ clean db none. none) so_far.survives one

  pub was_clean : Survives b c (λ _. ⊥) → HasCleanDisk c → HasCleanDisk b
  was_clean one clean = let late = clean in omega (arith, late, one.clean)

  pub one_more : (r : Row) → HasPut b c put (r ∷ []) → (HasCleanDisk c → Inside b c) → Survives b c (λ _. ⊥) → ArePut a c put (rows ++ r ∷ [])
  one_more r made inside survives = record {
    made = λ clean within p k columns w it site has.
        let first = so_far.made (was_clean survives clean) within p k columns w it site has in
        let one = made clean first.1 p k columns w it site first.0.schema in
        (put_behind w k columns rows r a.now b.now c.now first.0 one.0, one.1);
    inside = λ clean. still_inside (was_clean survives clean) inside clean;
    survives = still_survives survives;
  }
