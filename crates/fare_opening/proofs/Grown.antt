-- Tables that are made, one after the other.
use Rattle.std.proofs.Common.{◌≡◌, ◌⊎◌, ◌≤◌, ◌<◌, ◌+◌, inl, inr, ℕ, zero, suc, List, [], ◌∷◌, map, length, Some, Result, OnOk, refl, sym, ap, subst, ◌∙◌, arith}
use Rattle.std.specs.Prelude.{slice_get, slice_index_or, take, drop, ◌-◌}
use Rattle.std.proofs.Math.Seq.{take-length}
use Rattle.sqlite.specs.Effect.{Database}
use Rattle.sqlite.specs.Schema.{Schema}
use Rattle.sqlite.specs.Table.{Table}
use Rattle.sqlite_trees.proofs.ListLemmas.{all-slice_get}
use Rattle.fare_tables.specs.Making.{Defines, Made}
use Rattle.fare_tables.proofs.Making.{on_ok}
use Rattle.fare_layout.specs.declared.place.Place.{Place}
use Rattle.fare_layout.specs.declared.place.TableNumber.{TableNumber}
use Rattle.fare_layout.specs.Places.{place_of, all_of, or_nowhere}
use Rattle.fare_layout.specs.Growing.{Grows, GrowsBy, AreFrom}
use Rattle.fare_layout.proofs.Grown.{first_made, one_longer}
use Rattle.fare_layout.proofs.Meant.{same_some}
use Rattle.fare_layout.proofs.Others.{others_then, all_kept, grown_at}
use Rattle.fare_opening.specs.declared.site.Site.{Site}
use Rattle.fare_opening.specs.Numbers.{Meta}
use Rattle.fare_opening.specs.Parts.{Parts, IsDesign}
use Rattle.fare_opening.specs.Sites.{rows_at}
use Rattle.fare_opening.specs.Making.{Makes, HasGrown, IsBlank}
use Rattle.fare_opening.proofs.Standing.{each_stands, meta_within}

pub none_past : {X : Type 0} (xs : List X) (at : ℕ) (x : X) → length xs ≤ at → slice_get xs at ≡ Some x → ⊥
none_past [] at x low is = absurd (let e = is in cc)
none_past (y ∷ ys) zero x low is = absurd (omega (arith, low))
none_past (y ∷ ys) (suc at) x low is = none_past ys at x (omega (arith, low)) is

pub here_or_past : (n m : ℕ) → n ≤ m → (m ≡ n) ⊎ (n + 1 ≤ m)
here_or_past zero zero low = inl refl
here_or_past zero (suc m) low = inr (omega arith)
here_or_past (suc n) zero low = absurd (omega (arith, low))
here_or_past (suc n) (suc m) low = elim (here_or_past n m (omega (arith, low))) [ inl e ↦ inl (ap suc e) | inr l ↦ inr (omega (arith, l)) ]

-- with no table, nothing is made
pub none_grown : (a : Database) (grown : Schema) → a.schema ≡ grown → HasGrown grown a a
none_grown a grown same = record {
  schema = same;
  others = all_kept a.schema.tables a.trees a.trees refl;
  empty = λ at table low there. absurd (none_past a.schema.tables at table low (ap (λ (s : Schema). slice_get s.tables at) same ∙ there));
}

-- one is made, and then the rest
pub more_grown : (rest : List (List ℕ × List ℕ)) (a b c : Database) (next grown : Schema) (table : Table) → Made a b table → b.schema ≡ next → GrowsBy next rest grown → HasGrown grown b c → HasGrown grown a c
more_grown rest a b c next grown table made is grows later =
    let here = first_made a b table made in
    let there = grown_at rest next grown grows (length a.schema.tables) here.table (subst (λ (s : Schema). slice_get s.tables (length a.schema.tables) ≡ Some here.table) is here.there) in
    let kept = all-slice_get (λ (t : Table). c.trees t.tree ≡ b.trees t.tree) b.schema.tables (length a.schema.tables) here.table here.there later.others in
    let none : c.trees here.table.tree ≡ [] = kept ∙ ap b.trees here.tree_is ∙ here.empty in
    let longer = one_longer a b table made in
    record {
      schema = later.schema;
      others = others_then a b c table made later.others;
      empty = λ at other low found. elim (here_or_past (length a.schema.tables) at low) [
        | inl first ↦ ap (λ (t : Table). c.trees t.tree) (same_some (sym found ∙ ap (slice_get grown.tables) first ∙ there)) ∙ none
        | inr past ↦ later.empty at other (omega (arith, past, longer)) found
      ];
    }

-- the places past those that were there
pub past_nth : (at : ℕ) (ps : List Place) → AreFrom at ps → (k : ℕ) → k < length ps → at ≤ (or_nowhere (slice_get ps k)).at
past_nth at [] from k low = absurd (omega (arith, low))
past_nth at (p ∷ ps) from zero low = let e = from.0 in omega (arith, e)
past_nth at (p ∷ ps) from (suc k) low = let e = past_nth (at + 1) ps from.1 k (omega (arith, low)) in omega (arith, e)

-- the tables of a store that were made have no row
pub grown_blank : (d : Parts) (w : Site) (a b : Database) → IsDesign d → Makes d a.schema w → HasGrown w.schema a b → IsBlank w b
grown_blank d w a b design makes grown = record { schema = grown.schema; meta = none Meta (meta_within d w design makes.site); bare = λ k past low. none k low }
  where
    none : (k : TableNumber) → k.number < length (all_of w.places) → rows_at w k b.trees ≡ []
    none k low =
        let s = each_stands w.schema d.own.tables w.places makes.site.stands k low in
        grown.empty (place_of w.places k).at (record s.0 { tree = (place_of w.places k).tree }) (past_nth (length a.schema.tables) (all_of w.places) makes.last k.number low) s.1.there

-- with no text, nothing is made
pub empty_grown : {X : Type 0} (f : X → List ℕ × List ℕ) (ts : List X) (a : Database) (grown : Schema) → length ts < 1 → GrowsBy a.schema (map f ts) grown → HasGrown grown a a
empty_grown f [] a grown low grows = none_grown a grown grows
empty_grown f (t ∷ ts) a grown low grows = absurd (omega (arith, low))

-- the first text, and then those behind it
pub grows_first : {X : Type 0} (f : X → List ℕ × List ℕ) (ts : List X) (x : X) (s grown : Schema) → 1 ≤ length ts → GrowsBy s (map f ts) grown
    → (next : Schema) × Grows s (f (slice_index_or ts 0 x)).1 next × GrowsBy next (map f (take (length ts - 1) (drop 1 ts))) grown
grows_first f [] x s grown some grows = absurd (omega (arith, some))
grows_first f (t ∷ ts) x s grown some grows = (grows.0, grows.1, subst (λ all. GrowsBy grows.0 (map f all) grown) (sym (ap (λ n. take n ts) (one_less t ts) ∙ take-length ts)) grows.2)
  where
    one_less : {X : Type 0} (t : X) (ts : List X) → length (t ∷ ts) - 1 ≡ length ts
    one_less t ts = omega arith

-- a table that was made by the first text, and the rest behind it
pub made_first : {X A E : Type 0} (P Q : Type 0) (f : X → List ℕ × List ℕ) (ts : List X) (x : X) (a b e : Database) (grown : Schema) (r : Result A E) → 1 ≤ length ts → GrowsBy a.schema (map f ts) grown
    → ((table : Table) → Defines a.schema (f (slice_index_or ts 0 x)).1 table → Made a b table × P)
    → (P → GrowsBy b.schema (map f (take (length ts - 1) (drop 1 ts))) grown → OnOk r (HasGrown grown b e × Q)) → OnOk r (HasGrown grown a e × Q)
made_first P Q f ts x a b e grown r some grows one rest =
    let first = grows_first f ts x a.schema grown some grows in
    let made = one first.1.table first.1.defines in
    let is : b.schema ≡ first.0 = made.0.schema ∙ sym first.1.next_is in
    let behind = map f (take (length ts - 1) (drop 1 ts)) in
    on_ok r (λ (later : HasGrown grown b e × Q). (more_grown behind a b e first.0 grown first.1.table made.0 is first.2 later.0, later.1)) (rest made.1 (subst (λ s. GrowsBy s behind grown) (sym is) first.2))
