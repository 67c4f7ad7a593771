-- Tables that a store makes are there with no row, where they are the last of the schema.
use Rattle.std.proofs.Common.{◌≡◌, ◌+◌, ℕ, zero, suc, [], ◌∷◌, ◌++◌, List, length, Some, refl, sym, ap, ◌∙◌}
use Rattle.std.specs.Prelude.{slice_get}
use Rattle.std.specs.List.{AllZip}
use Rattle.std.proofs.lemmas.List.{length-append}
use Rattle.sqlite.specs.Change.{next_tree}
use Rattle.sqlite.specs.Effect.{Database}
use Rattle.sqlite.specs.Schema.{Schema}
use Rattle.sqlite.specs.Table.{Table}
use Rattle.fare_tables.specs.Making.{Made}
use Rattle.fare_layout.specs.declared.place.Place.{Place}
use Rattle.fare_layout.specs.Layouts.{Stands}
use Rattle.fare_layout.proofs.Meant.{same_some}

-- ---- lists

pub kept_at : {X : Type 0} (xs ys : List X) (i : ℕ) (x : X) → slice_get xs i ≡ Some x → slice_get (xs ++ ys) i ≡ Some x
kept_at [] ys i x is = absurd (let e = is in cc)
kept_at (y ∷ xs) ys zero x is = is
kept_at (y ∷ xs) ys (suc i) x is = kept_at xs ys i x is

pub last_at : {X : Type 0} (xs : List X) (x : X) → slice_get (xs ++ x ∷ []) (length xs) ≡ Some x
last_at [] x = refl
last_at (y ∷ xs) x = last_at xs x

-- ---- one place for each table

pub same_place : (s : Schema) (t : Table) (p q : Place) → Stands s t p → Stands s t q → p ≡ q
same_place s t p q a b =
    let at : p.at ≡ q.at = same_some (sym a.named ∙ b.named) in
    let there : Some (record t { tree = p.tree }) ≡ Some (record t { tree = q.tree }) = sym a.there ∙ ap (slice_get s.tables) at ∙ b.there in
    let tree : p.tree ≡ q.tree = ap (λ (x : Table). x.tree) (same_some there) in
    λ i. record { at = at i; tree = tree i }

pub same_places : (s : Schema) (tables : List Table) (ps qs : List Place) → AllZip (Stands s) tables ps → AllZip (Stands s) tables qs → ps ≡ qs
same_places s [] [] [] x y = refl
same_places s [] (p ∷ ps) qs x y = absurd x
same_places s [] [] (q ∷ qs) x y = absurd y
same_places s (t ∷ tables) [] qs x y = absurd x
same_places s (t ∷ tables) (p ∷ ps) [] x y = absurd y
same_places s (t ∷ tables) (p ∷ ps) (q ∷ qs) x y = λ i. same_place s t p q x.0 y.0 i ∷ same_places s tables ps qs x.1 y.1 i

-- ---- a table that was made, and is not touched by the making of others

pub record IsEmptyAt (db : Database) (at tree : ℕ) : Type 0 where
  pub table : Table
  pub there : slice_get db.schema.tables at ≡ Some table
  pub tree_is : table.tree ≡ tree
  pub empty : db.trees tree ≡ []

pub first_made : (a b : Database) (table : Table) → Made a b table → IsEmptyAt b (length a.schema.tables) (next_tree a.schema)
first_made a b table made = record {
  table = record table { tree = next_tree a.schema };
  there = ap (λ (s : Schema). slice_get s.tables (length a.schema.tables)) made.schema ∙ last_at a.schema.tables (record table { tree = next_tree a.schema });
  tree_is = refl;
  empty = made.empty;
}

pub one_longer : (a b : Database) (table : Table) → Made a b table → length b.schema.tables ≡ length a.schema.tables + 1
one_longer a b table made = ap (λ (s : Schema). length s.tables) made.schema ∙ length-append a.schema.tables (record table { tree = next_tree a.schema } ∷ [])
