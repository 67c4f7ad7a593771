-- Copies of rows, put one after the other.
use Rattle.std.proofs.Common.{◌≡◌, ◌++◌, ◌∷◌, ℕ, List, [], IsTrue, inl, refl, ◌∙◌, arith}
use Rattle.sqlite.specs.State.{State, HasCleanDisk, Survives}
use Rattle.sqlite.proofs.StateLemmas.{survives_then}
use Rattle.sqlite_value.specs.Order.{Row}
use Rattle.fare_tables.specs.Asking.{Inside}
use Rattle.fare_opening.specs.declared.site.Site.{Site}
use Rattle.fare_opening.specs.Moves.{Fills}
use Rattle.fare_opening.specs.Moving.{MovingParts, columns_of}
use Rattle.fare_opening.specs.Parts.{Parts, OlderParts, IsMoving}
use Rattle.fare_opening.specs.Sites.{IsSite}
use Rattle.fare_opening.proofs.Filled.{none_filled, filled_behind}

-- what a text that puts a row made of a transaction, of these rows
abbrev pub HasPut : State → State → List ℕ → List Row → Type 0
HasPut old new put rows =
    HasCleanDisk new → IsTrue old.in_transaction → (d : Parts) (o : OlderParts) (m : MovingParts) (w : Site) → IsMoving d o m → m.put ≡ put → IsSite d w → old.now.schema ≡ w.schema
    → Fills w m.to (columns_of o.own m.from) rows old.now new.now × IsTrue new.in_transaction

-- and that nothing was committed
pub record AreCopied (old new : State) (put : List ℕ) (rows : List Row) : Type 0 where
  pub made : HasPut old new put rows
  pub inside : HasCleanDisk new → Inside old new
  pub survives : Survives old new (λ _. ⊥)

pub none_copied : (s : State) (put : List ℕ) → AreCopied s s put []
none_copied s put = record {
  made = λ clean inside d o m w moving text site has. (none_filled w m.to (columns_of o.own m.from) s.now has, inside);
  inside = λ clean up. (up, refl);
  survives = record { clean = omega arith; shield = λ x. x; counts = omega arith; limit = refl; closes = λ clean up. inl up; crash = λ clean db leaves. inl leaves };
}

module _ (a b c : State) (put : List ℕ) (rows : List Row) (so_far : AreCopied a b put rows) where
  pub still_inside : HasCleanDisk b → (HasCleanDisk c → Inside b c) → HasCleanDisk c → Inside a c
  still_inside before one clean up =
      let late = one clean up in
      let early = so_far.inside before late.0 in
      (early.0, late.1 ∙ early.1)

  pub still_survives : Survives b c (λ _. ⊥) → Survives a c (λ _. ⊥)
  still_survives one = survives_then a b c (λ _. ⊥) (λ _. ⊥) (λ _. ⊥) (λ clean db none. none) (λ clean db none. none) so_far.survives one

  pub was_clean : Survives b c (λ _. ⊥) → HasCleanDisk c → HasCleanDisk b
  was_clean one clean = let late = clean in omega (arith, late, one.clean)

  pub one_copied : (r : Row) → HasPut b c put (r ∷ []) → (HasCleanDisk c → Inside b c) → Survives b c (λ _. ⊥) → AreCopied a c put (rows ++ r ∷ [])
  one_copied r made inside survives = record {
    made = λ clean within d o m w moving text site has.
        let first = so_far.made (was_clean survives clean) within d o m w moving text site has in
        let one = made clean first.1 d o m w moving text site first.0.schema in
        (filled_behind w m.to (columns_of o.own m.from) rows r a.now b.now c.now first.0 one.0, one.1);
    inside = λ clean. still_inside (was_clean survives clean) inside clean;
    survives = still_survives survives;
  }
