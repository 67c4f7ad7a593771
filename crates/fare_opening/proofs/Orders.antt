-- What has to be computed so that tables fit.
use Rattle.std.proofs.Common.{◌≡◌, ◌≢◌, ◌+◌, ◌==◌, ◌&&◌, ◌||◌, ◌^◌, ℕ, nat_le, not, Bool, true, false, if◌then◌else◌, List, [], ◌∷◌, Option, Some, None, inl, inr, sym, ap, subst, ◌∙◌, arith}
use Rattle.std.specs.Prelude.{slice_get}
use Rattle.std.specs.List.{AllByRecursion, AllZip}
use Rattle.std.proofs.lemmas.Bool.{cases_Bool}
use Rattle.std.proofs.lemmas.Bool.Decides.{nat_tests}
use Rattle.sqlite.specs.Schema.{Schema}
use Rattle.sqlite.specs.Table.{Table}
use Rattle.sqlite_resolve.specs.Compile.{compiled}
use Rattle.sqlite_schema.specs.Names.{table_named}
use Rattle.sqlite_schema.specs.declared.command.Command.{Command}
use Rattle.sqlite_schema.specs.declared.schema.Index.{Index}
use Rattle.fare_layout.specs.declared.place.TableNumber.{TableNumber}
use Rattle.fare_layout.specs.declared.place.Place.{Place}
use Rattle.fare_layout.specs.declared.place.Places.{Places}
use Rattle.fare_layout.specs.Places.{place_of, all_of, IsApartFrom, AreApart}
use Rattle.fare_layout.specs.Commands.{moved, Essence, essence, IsMeant, KeepsMeaning}
use Rattle.fare_layout.specs.Layouts.{Stands, RefersElsewhere, IsFree, HasNoRowidIndex, KeepsMeanings, Fits, AreUnderstood}
use Rattle.fare_layout.proofs.Meant.{same_some}
use Rattle.fare_opening.specs.Parts.{Parts}
use Rattle.fare_opening.specs.Orders.{Tables, width, made_of}

-- ---- where each table stands

abbrev pub standing_there : Schema → List Table → List Place → List (Option ℕ × Option Table × Bool)
standing_there s [] ps = []
standing_there s (t ∷ ts) [] = []
standing_there s (t ∷ ts) (p ∷ ps) = (table_named s t.name, slice_get s.tables p.at, nat_le (2 ^ 31) p.tree) ∷ standing_there s ts ps

abbrev pub should_stand : List Table → List Place → List (Option ℕ × Option Table × Bool)
should_stand [] ps = []
should_stand (t ∷ ts) [] = []
should_stand (t ∷ ts) (p ∷ ps) = (Some p.at, Some (record t { tree = p.tree }), false) ∷ should_stand ts ps

abbrev pub are_as_many : List Table → List Place → Bool
are_as_many [] [] = true
are_as_many [] (p ∷ ps) = false
are_as_many (t ∷ ts) [] = false
are_as_many (t ∷ ts) (p ∷ ps) = are_as_many ts ps

same_head : {X : Type 0} {x y : X} {xs ys : List X} → x ∷ xs ≡ y ∷ ys → x ≡ y
same_head e = cc

same_tail : {X : Type 0} {x y : X} {xs ys : List X} → x ∷ xs ≡ y ∷ ys → xs ≡ ys
same_tail e = cc

stand_all : (s : Schema) (ts : List Table) (ps : List Place) → are_as_many ts ps ≡ true → standing_there s ts ps ≡ should_stand ts ps → AllZip (Stands s) ts ps
stand_all s [] [] many is = tt
stand_all s [] (p ∷ ps) many is = absurd (let e = many in cc)
stand_all s (t ∷ ts) [] many is = absurd (let e = many in cc)
stand_all s (t ∷ ts) (p ∷ ps) many is =
    let first : (table_named s t.name, slice_get s.tables p.at, nat_le (2 ^ 31) p.tree) ≡ (Some p.at, Some (record t { tree = p.tree }), false) = same_head is in
    (record { named = ap (λ (x : Option ℕ × Option Table × Bool). x.0) first; there = ap (λ (x : Option ℕ × Option Table × Bool). x.1) first; low = ap (λ (x : Option ℕ × Option Table × Bool). x.2) first }, stand_all s ts ps many (same_tail is))

-- ---- nothing else reaches into them

abbrev pub is_own_tree : ℕ → List Place → Bool
is_own_tree tree [] = true
is_own_tree tree (p ∷ ps) = not (tree == p.tree) && is_own_tree tree ps

abbrev pub have_own_trees : List Place → Bool
have_own_trees [] = true
have_own_trees (p ∷ ps) = is_own_tree p.tree ps && have_own_trees ps

apart_from : (tree : ℕ) (ps : List Place) → is_own_tree tree ps ≡ true → IsApartFrom tree ps
apart_from tree [] is = tt
apart_from tree (p ∷ ps) is = (λ e. grind (arith, nat_tests), apart_from tree ps (grind (arith, nat_tests)))

apart_all : (ps : List Place) → have_own_trees ps ≡ true → AreApart ps
apart_all [] is = tt
apart_all (p ∷ ps) is = (apart_from p.tree ps (grind (arith, nat_tests)), apart_all ps (grind (arith, nat_tests)))

-- no table refers to another
abbrev pub refer_to_none : List Table → Type 0
refer_to_none tables = AllByRecursion (λ (t : Table). t.references ≡ []) tables

pub free_all : (s : Schema) (tree : ℕ) (tables : List Table) → refer_to_none tables → AllByRecursion (λ (t : Table). AllByRecursion (RefersElsewhere s tree) t.references) tables
free_all s tree [] none = tt
free_all s tree (t ∷ ts) none = (subst (AllByRecursion (RefersElsewhere s tree)) (sym none.0) tt, free_all s tree ts none.1)

-- no index begins with the rowid
abbrev pub is_rowid_first : List ℕ → Bool
is_rowid_first [] = false
is_rowid_first (c ∷ cs) = c == 0

abbrev pub rowid_first : List Index → Bool
rowid_first [] = false
rowid_first (i ∷ is) = is_rowid_first i.columns || rowid_first is

not_first : (columns : List ℕ) → is_rowid_first columns ≡ false → columns ≢ 0 ∷ []
not_first columns none is = absurd (let e = sym none ∙ ap is_rowid_first is in cc)

pub no_rowid : (tree : ℕ) (indexes : List Index) → rowid_first indexes ≡ false → AllByRecursion (λ (i : Index). i.table ≡ tree → i.columns ≢ 0 ∷ []) indexes
no_rowid tree [] none = tt
no_rowid tree (i ∷ is) none = elim (cases_Bool (is_rowid_first i.columns)) [
  | inl first ↦ absurd (let e : true ≡ false = rw first at none in cc)
  | inr other ↦ (λ at. not_first i.columns other, no_rowid tree is (let e : rowid_first is ≡ false = rw other at none in e))
]

-- ---- what the texts mean there

abbrev pub meant_there : (own : Schema) → Places → (texts : List (TableNumber × List ℕ)) → AreUnderstood own texts → List (Option Essence)
meant_there own p [] u = []
meant_there own p (t ∷ ts) u = Some (moved (place_of p t.0) u.0.0, None, []) ∷ meant_there own p ts u.1

abbrev pub meanings : Schema → List (TableNumber × List ℕ) → List (Option Essence)
meanings s [] = []
meanings s (t ∷ ts) = essence (compiled s t.1) ∷ meanings s ts

-- a text has one meaning under the own schema, so it keeps it where that one is kept
pub keeps_as : (own s : Schema) (sql : List ℕ) (place : Place) (c : Command) → IsMeant own sql c → IsMeant s sql (moved place c) → KeepsMeaning own s place sql
keeps_as own s sql place c is there d means = subst (λ x. IsMeant s sql (moved place x)) (ap (λ (e : Essence). e.0) (same_some (sym is ∙ means))) there

keep_all : (own s : Schema) (p : Places) (texts : List (TableNumber × List ℕ)) (u : AreUnderstood own texts) → meanings s texts ≡ meant_there own p texts u → KeepsMeanings own s p texts
keep_all own s p [] u is = tt
keep_all own s p (t ∷ ts) u is = (keeps_as own s t.1 (place_of p t.0) u.0.0 u.0.1 (same_head is), keep_all own s p ts u.1 (same_tail is))

-- ---- so they fit

pub each_place : (P : Place → Type 0) → ((q : Place) → P q) → (ps : List Place) → AllByRecursion P ps
each_place P all [] = tt
each_place P all (q ∷ ps) = (all q, each_place P all ps)

pub fit_as : (own : Schema) (texts : List (TableNumber × List ℕ)) (u : AreUnderstood own texts) (s : Schema) (p : Places) → are_as_many own.tables (all_of p) ≡ true → standing_there s own.tables (all_of p) ≡ should_stand own.tables (all_of p) → have_own_trees (all_of p) ≡ true → refer_to_none s.tables
    → rowid_first s.indexes ≡ false → meanings s texts ≡ meant_there own p texts u → Fits own texts s p
fit_as own texts u s p many stands apart none rowids means = record {
  stands = stand_all s own.tables (all_of p) many stands;
  untouched = record {
    apart = apart_all (all_of p) apart;
    free = each_place (λ (q : Place). IsFree s q.tree) (λ q. free_all s q.tree s.tables none) (all_of p);
    by_rowid = each_place (λ (q : Place). HasNoRowidIndex s q.tree) (λ q. no_rowid q.tree s.indexes rowids) (all_of p);
  };
  keeps = keep_all own s p texts u means;
}

-- ---- in an order

-- where a table comes to stand
abbrev pub place_from : Tables → ℕ → ℕ → List ℕ → ℕ → Place
place_from table_of at tree [] k = record { at = 0; tree = 0 }
place_from table_of at tree (j ∷ ks) k = if j == k then record { at = at; tree = tree } else place_from table_of (at + 1) (tree + width table_of j) ks k

-- and those from a number on
abbrev pub places_from : Tables → List ℕ → ℕ → List Table → List Place
places_from table_of ks k [] = []
places_from table_of ks k (t ∷ tables) = place_from table_of 0 0 ks k ∷ places_from table_of ks (k + 1) tables

abbrev pub places_of : Parts → Tables → List ℕ → Places
places_of d table_of ks = record { all = places_from table_of ks 0 d.own.tables }

pub in_order : (d : Parts) (u : AreUnderstood d.own d.texts) (table_of : Tables) (ks : List ℕ) → are_as_many d.own.tables (all_of (places_of d table_of ks)) ≡ true
    → standing_there (made_of table_of ks) d.own.tables (all_of (places_of d table_of ks)) ≡ should_stand d.own.tables (all_of (places_of d table_of ks)) → have_own_trees (all_of (places_of d table_of ks)) ≡ true → refer_to_none (made_of table_of ks).tables
    → rowid_first (made_of table_of ks).indexes ≡ false → meanings (made_of table_of ks) d.texts ≡ meant_there d.own (places_of d table_of ks) d.texts u → (p : Places) × Fits d.own d.texts (made_of table_of ks) p
in_order d u table_of ks many stands apart none rowids means = (places_of d table_of ks, fit_as d.own d.texts u (made_of table_of ks) (places_of d table_of ks) many stands apart none rowids means)
