-- Where a store's tables can be made in a schema, that is found.
use Rattle.std.proofs.Common.{◌≡◌, ◌+◌, ◌<◌, ◌^◌, ℕ, suc, nat_le, true, false, List, [], ◌∷◌, length, Some, Ok, IfOk, refl, sym, subst, ◌∙◌, arith}
use Rattle.std.specs.List.{AllByRecursion, AllZip}
use Rattle.std.proofs.lemmas.Bool.Decides.{nat_tests}
use Rattle.sqlite.specs.Change.{created, next_tree}
use Rattle.sqlite.specs.Compile.{table_defined_by}
use Rattle.sqlite.specs.Schema.{Schema}
use Rattle.sqlite.specs.Table.{Table}
use Rattle.sqlite_catalog.specs.Change.{is_used}
use Rattle.sqlite_schema.specs.Names.{table_named}
use Rattle.fare_tables.specs.Making.{no_schema}
use Rattle.fare_layout.specs.declared.place.Place.{Place}
use Rattle.fare_layout.specs.Places.{place_of, all_of}
use Rattle.fare_layout.specs.Growing.{CanMakeAll, GrowsBy, HasNone, AreFrom, AreLast}
use Rattle.fare_layout.specs.Layouts.{Stands}
use Rattle.fare_layout.proofs.Again.{can_again, same_grown}
use Rattle.fare_layout.proofs.Others.{tree_next, longer}
use Rattle.fare_opening.specs.declared.site.Site.{Site}
use Rattle.fare_opening.specs.Parts.{Parts, IsDesign, HasFewKeys}
use Rattle.fare_opening.specs.Numbers.{Meta}
use Rattle.fare_opening.specs.Sites.{IsSite}
use Rattle.fare_opening.specs.Making.{Makes}
use Rattle.fare_opening.proofs.Standing.{meta_stands, same_at}

-- ---- the tables can be made again

-- a tree below those that a statement computes leaves numbers for the keys
room_of : (tree next more : ℕ) → nat_le (2 ^ 31) tree ≡ false → tree ≡ next → more < 1000 → next + more + 1 < 2 ^ 32
room_of tree next more low is few = grind (arith, nat_tests)

few_of : (sql : List ℕ) (table : Table) → table_defined_by sql ≡ Ok table → HasFewKeys sql → length table.uniques < 1000
few_of sql table is few = subst (λ r. IfOk r (λ t. length t.uniques < 1000)) is few

pub again_all : (texts : List (List ℕ × List ℕ)) (s t last : Schema) (owns : List Table) (places : List Place) → length owns ≡ length texts → GrowsBy s texts last → CanMakeAll t texts → AllByRecursion (λ (x : List ℕ × List ℕ). HasFewKeys x.1) texts
    → AllZip (Stands last) owns places → AreFrom (length s.tables) places → CanMakeAll s texts
again_all [] s t last owns places many grows can few stands from = tt
again_all (text ∷ texts) s t last [] places many grows can few stands from = absurd (let e = many in cc)
again_all (text ∷ texts) s t last (own ∷ owns) [] many grows can few stands from = absurd stands
again_all (text ∷ texts) s t last (own ∷ owns) (p ∷ places) many grows can few stands from =
    let next = grows.0 in
    let one = grows.1 in
    let tree = tree_next texts own p s next last text.1 stands.0 from.0 one grows.2 in
    let room = room_of p.tree (next_tree s) (length can.0.uniques) stands.0.low tree (few_of text.1 can.0 can.1.defined few.0) in
    let first = can_again s t next text.0 text.1 can.0 one can.1 room in
    let more = longer s next text.1 one in
    let rest = again_all texts next (created t can.0) last owns places (same_less many) grows.2 can.2 few.1 stands.1 (subst (λ n. AreFrom n places) (sym more) from.1) in
    (one.table, first, subst (λ x. CanMakeAll x texts) one.next_is rest)
  where
    same_less : {n m : ℕ} → suc n ≡ suc m → n ≡ m
    same_less {n = n} {m = m} e = omega (arith, e)

pub can_make_again : (d : Parts) (w : Site) (s : Schema) → IsDesign d → Makes d s w → CanMakeAll s d.tables
can_make_again d w s design makes = again_all d.tables s no_schema w.schema d.own.tables (all_of w.places) design.many makes.grows design.can design.few makes.site.stands makes.last

-- ---- and are made alike

pub made_alike : (d : Parts) (w : Site) (s grown : Schema) → Makes d s w → GrowsBy s d.tables grown → grown ≡ w.schema
made_alike d w s grown makes grows = same_grown d.tables s s grown w.schema refl grows makes.grows

-- and stand there last
pub last_alike : (d : Parts) (v w : Site) (s grown : Schema) → IsSite d v → Makes d s w → GrowsBy s d.tables grown → grown ≡ v.schema → AreLast s (all_of v.places)
last_alike d v w s grown site makes grows is = subst (AreLast s) (sym (same_at d v w site makes.site (sym is ∙ made_alike d w s grown makes grows))) makes.last

-- ---- in a database with no table

pub own_grown : (d : Parts) (s grown : Schema) → IsDesign d → s ≡ no_schema → GrowsBy s d.tables grown → grown ≡ d.own
own_grown d s grown design blank grows = same_grown d.tables s no_schema grown d.own blank grows design.grows

abbrev pub home_of : (d : Parts) → IsDesign d → Site
home_of d design = record { schema = d.own; places = design.home }

-- they stand there as in a database of the store alone
pub blank_last : (d : Parts) (w : Site) (s grown : Schema) → IsDesign d → IsSite d w → s ≡ no_schema → GrowsBy s d.tables grown → grown ≡ w.schema → AreLast s (all_of w.places)
blank_last d w s grown design site blank grows is =
    let own : w.schema ≡ d.own = sym is ∙ own_grown d s grown design blank grows in
    let places : all_of w.places ≡ all_of design.home = same_at d w (home_of d design) site design.at_home own in
    subst (λ x. AreLast x (all_of w.places)) (sym blank) (subst (AreLast no_schema) (sym places) design.last)

-- ---- names

all_free : (names : List (List ℕ × List ℕ)) → HasNone names no_schema
all_free [] = tt
all_free (t ∷ names) = (refl, all_free names)

-- a database with no table has none of the names
pub vacant_of : (d : Parts) (s : Schema) → s ≡ no_schema → HasNone d.tables s
vacant_of d s blank = subst (HasNone d.tables) (sym blank) (all_free d.tables)

-- where the tables stand, their names are taken
pub not_vacant : (d : Parts) (w : Site) (s : Schema) → IsDesign d → IsSite d w → HasNone d.tables s → s ≡ w.schema → ⊥
not_vacant d w s design site none is =
    let named : table_named w.schema d.meta.table.0 ≡ Some (place_of w.places Meta).at = (meta_stands d w design site).named in
    let names = subst (λ tables. HasNone tables s) design.tables_are none in
    let free : is_used w.schema d.meta.table.0 ≡ false = subst (λ x. is_used x d.meta.table.0 ≡ false) is names.0 in
    let used : is_used w.schema d.meta.table.0 ≡ true = rw named refl in
    absurd (let e = sym used ∙ free in cc)

pub not_blank : (d : Parts) (w : Site) (s : Schema) → IsDesign d → IsSite d w → s ≡ w.schema → ¬ (s ≡ no_schema)
not_blank d w s design site is blank = not_vacant d w s design site (vacant_of d s blank) is
