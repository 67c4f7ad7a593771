-- Where a ledger of an older format stands.
use Rattle.std.proofs.Common.{◌≡◌, ◌<◌, ◌≤◌, ◌==◌, inl, inr, ℕ, zero, suc, Bool, true, false, List, [], ◌∷◌, codes, length, nat_lt, Some, if◌then◌else◌, refl, sym, ap, subst, ◌∙◌, arith}
use Rattle.std.specs.Prelude.{slice_get, is_some}
use Rattle.sqlite_value.specs.Order.{Row}
use Rattle.sqlite.specs.Schema.{Schema}
use Rattle.sqlite.specs.Tree.{Trees}
use Rattle.sqlite_catalog.specs.Change.{is_used}
use Rattle.sqlite_rules.specs.Lists.{Has}
use Rattle.sqlite_schema.specs.Names.{table_named}
use Rattle.fare_layout.specs.declared.place.Place.{Place}
use Rattle.fare_layout.specs.declared.place.TableNumber.{TableNumber}
use Rattle.fare_layout.specs.Growing.{GoOn, HasNone}
use Rattle.fare_layout.specs.Places.{place_of, all_of, or_nowhere}
use Rattle.fare_opening.specs.declared.site.Site.{Site}
use Rattle.fare_opening.specs.Moving.{copies}
use Rattle.fare_opening.specs.Parts.{OlderParts, IsDesign, parts_of}
use Rattle.fare_opening.specs.Sites.{IsSite, tree_at}
use Rattle.fare_opening.proofs.Standing as standing
use Rattle.fare_opening.proofs.Vacant as vacant
use Rattle.fare_ledger.specs.declared.layout.Layout.{Layout}
use Rattle.fare_ledger.specs.Held.{AreReadable, held_of}
use Rattle.fare_ledger.specs.Layouts.{schema_in, table_at}
use Rattle.fare_ledger.specs.Older.{olders, value_older, IsLawfulOlder}
use Rattle.fare_ledger.specs.Opening.{Rises}
use Rattle.fare_ledger.specs.Statements.{Retired, Routed, Since, first_format, second_format, third_format, tables, ledger_parts}
use Rattle.fare_ledger.specs.Tables.{second_schema, third_schema, retired_table, routed_table}
use Rattle.fare_ledger.specs.Words.{FitInFormat, value_in}
use Rattle.fare_ledger.proofs.Own.{first_design, second_design, third_design}
use Rattle.fare_ledger.proofs.Placed.{held_stands}

-- ---- names

-- a name that stands for a table is used
used_by : (s : Schema) (name : List ℕ) (at : ℕ) → table_named s name ≡ Some at → is_used s name ≡ true
used_by s name at named = rw named refl

-- the newest format's tables have a name of which each older one's knows nothing
lacks_held : (o : OlderParts) (s : Schema) → Has ledger_parts.older o → HasNone o.missing s → is_used s (codes "held") ≡ false
lacks_held o s (inl is) none = (subst (λ (x : OlderParts). HasNone x.missing s) is none).1.1.0
lacks_held o s (inr (inl is)) none = (subst (λ (x : OlderParts). HasNone x.missing s) is none).1.0
lacks_held o s (inr (inr (inl is))) none = (subst (λ (x : OlderParts). HasNone x.missing s) is none).0
lacks_held o s (inr (inr (inr past))) none = absurd past

pub not_older : (o : OlderParts) (w : Layout) (s : Schema) → Has ledger_parts.older o → HasNone o.missing s → s ≡ schema_in w → ⊥
not_older o w s has none is =
    let free : is_used (schema_in w) (codes "held") ≡ false = subst (λ x. is_used x (codes "held") ≡ false) is (lacks_held o s has none) in
    let used : is_used (schema_in w) (codes "held") ≡ true = used_by (schema_in w) (codes "held") (place_of w.places Since).at (held_stands w).named in
    absurd (let e = sym used ∙ free in cc)

pub older_design : (o : OlderParts) → Has ledger_parts.older o → IsDesign (parts_of o)
older_design o (inl is) = subst (λ (x : OlderParts). IsDesign (parts_of x)) (sym is) first_design
older_design o (inr (inl is)) = subst (λ (x : OlderParts). IsDesign (parts_of x)) (sym is) second_design
older_design o (inr (inr (inl is))) = subst (λ (x : OlderParts). IsDesign (parts_of x)) (sym is) third_design
older_design o (inr (inr (inr past))) = absurd past

-- where those of an older format stand, their names are taken
older_names : (o : OlderParts) (s : Schema) → Has ledger_parts.older o → HasNone tables s → HasNone o.tables s
older_names o s (inl is) none = subst (λ (x : OlderParts). HasNone x.tables s) (sym is) (none.0, (none.1.0, (none.1.1.0, (none.1.1.1.0, tt))))
older_names o s (inr (inl is)) none = subst (λ (x : OlderParts). HasNone x.tables s) (sym is) (none.0, (none.1.0, (none.1.1.0, (none.1.1.1.0, (none.1.1.1.1.0, tt)))))
older_names o s (inr (inr (inl is))) none = subst (λ (x : OlderParts). HasNone x.tables s) (sym is) (none.0, (none.1.0, (none.1.1.0, (none.1.1.1.0, (none.1.1.1.1.0, (none.1.1.1.1.1.0, tt))))))
older_names o s (inr (inr (inr past))) none = absurd past

pub older_taken : (o : OlderParts) (v : Site) (s : Schema) → Has ledger_parts.older o → IsSite (parts_of o) v → s ≡ v.schema → HasNone tables s → ⊥
older_taken o v s has site is none = vacant.not_vacant (parts_of o) v s (older_design o has) site (older_names o s has none) is

-- a schema has the tables of one format
second_used : (v : Site) (s : Schema) → IsSite (parts_of second_format) v → s ≡ v.schema → is_used s (codes "retired") ≡ true
unfolding second_schema
second_used v s site is =
    subst (λ x. is_used x (codes "retired") ≡ true) (sym is) (used_by v.schema (codes "retired") (place_of v.places Retired).at (standing.this_stands (parts_of second_format) v site Retired (retired_table 6) refl).named)

third_used : (v : Site) (s : Schema) → IsSite (parts_of third_format) v → s ≡ v.schema → is_used s (codes "tap2") ≡ true
unfolding third_schema
third_used v s site is =
    subst (λ x. is_used x (codes "tap2") ≡ true) (sym is) (used_by v.schema (codes "tap2") (place_of v.places Routed).at (standing.this_stands (parts_of third_format) v site Routed (routed_table 7) refl).named)

not_second : (p : OlderParts) (v : Site) (s : Schema) → p ≡ second_format → is_used s (codes "retired") ≡ false → IsSite (parts_of p) v → s ≡ v.schema → ⊥
not_second p v s is free site at = absurd (let e = sym (second_used v s (subst (λ (x : OlderParts). IsSite (parts_of x) v) is site) at) ∙ free in cc)

not_third : (p : OlderParts) (v : Site) (s : Schema) → p ≡ third_format → is_used s (codes "tap2") ≡ false → IsSite (parts_of p) v → s ≡ v.schema → ⊥
not_third p v s is free site at = absurd (let e = sym (third_used v s (subst (λ (x : OlderParts). IsSite (parts_of x) v) is site) at) ∙ free in cc)

-- names that the first two lack
first_free : (o : OlderParts) (s : Schema) → o ≡ first_format → HasNone o.missing s → (is_used s (codes "retired") ≡ false) × (is_used s (codes "tap2") ≡ false)
first_free o s is none = let it = subst (λ (x : OlderParts). HasNone x.missing s) is none in (it.0, it.1.0)

second_free : (o : OlderParts) (s : Schema) → o ≡ second_format → HasNone o.missing s → is_used s (codes "tap2") ≡ false
second_free o s is none = (subst (λ (x : OlderParts). HasNone x.missing s) is none).0

pub one_older : (o p : OlderParts) (u v : Site) (s : Schema) → Has ledger_parts.older o → Has ledger_parts.older p → IsSite (parts_of o) u → IsSite (parts_of p) v → s ≡ u.schema → s ≡ v.schema → HasNone o.missing s → HasNone p.missing s → o ≡ p
one_older o p u v s (inl is) (inl too) from to at there none free = is ∙ sym too
one_older o p u v s (inl is) (inr (inl too)) from to at there none free = absurd (not_second p v s too (first_free o s is none).0 to there)
one_older o p u v s (inl is) (inr (inr (inl too))) from to at there none free = absurd (not_third p v s too (first_free o s is none).1 to there)
one_older o p u v s (inr (inl is)) (inl too) from to at there none free = absurd (not_second o u s is (first_free p s too free).0 from at)
one_older o p u v s (inr (inl is)) (inr (inl too)) from to at there none free = is ∙ sym too
one_older o p u v s (inr (inl is)) (inr (inr (inl too))) from to at there none free = absurd (not_third p v s too (second_free o s is none) to there)
one_older o p u v s (inr (inr (inl is))) (inl too) from to at there none free = absurd (not_third o u s is (first_free p s too free).1 from at)
one_older o p u v s (inr (inr (inl is))) (inr (inl too)) from to at there none free = absurd (not_third o u s is (second_free p s too free) from at)
one_older o p u v s (inr (inr (inl is))) (inr (inr (inl too))) from to at there none free = is ∙ sym too
one_older o p u v s (inr (inr (inr past))) too from to at there none free = absurd past
one_older o p u v s is (inr (inr (inr past))) from to at there none free = absurd past

-- ---- where its tables stand

pub older_within : (o : OlderParts) (v : Site) → Has ledger_parts.older o → IsSite (parts_of o) v → (k : TableNumber) → k.number < length o.tables → k.number < length (all_of v.places)
older_within o v has site k low =
    let many : length o.own.tables ≡ length o.tables = (older_design o has).many in
    let count : length o.own.tables ≡ length (all_of v.places) = standing.place_count v.schema o.own.tables (all_of v.places) site.stands in
    omega (arith, many, count, low)

-- the rows at a place, and where the format has a table there
abbrev rows_there : Trees → List Place → ℕ → List Row
rows_there trees ps k = trees (or_nowhere (slice_get ps k)).tree

abbrev rows_if : OlderParts → Trees → List Place → ℕ → List Row
rows_if o trees ps k = if nat_lt k (length o.tables) then rows_there trees ps k else []

same_olders : (o : OlderParts) (u v : Site) (trees : Trees) → IsSite (parts_of o) u → IsSite (parts_of o) v → u.schema ≡ v.schema → olders o u trees ≡ olders o v trees
unfolding olders
same_olders o u v trees one two same =
    ap (λ (ps : List Place). λ tree. if tree == 7 then (if is_some o.moving then copies (rows_there trees ps 2) else rows_if o trees ps 5) else (if tree == 2 then (if is_some o.moving then [] else rows_if o trees ps 2) else rows_if o trees ps (table_at tree).number)) (standing.same_at (parts_of o) u v one two same)

-- a schema has them at one place
pub moved_older : (o : OlderParts) (u v : Site) (owner start : ℕ) (trees : Trees) → IsSite (parts_of o) u → u.schema ≡ v.schema → IsLawfulOlder o v owner start trees → IsLawfulOlder o u owner start trees
moved_older o u v owner start trees site same law =
    let back : olders o v trees ≡ olders o u trees = sym (same_olders o u v trees site law.site same) in
    record {
      site = site;
      free = subst (HasNone o.missing) (sym same) law.free;
      readable = subst AreReadable back law.readable;
      together = subst (λ t. FitInFormat o.format owner start (held_of t)) back law.together;
    }

pub moved_value : (o : OlderParts) (u v : Site) (owner start : ℕ) (known : ℕ → Bool) (trees : Trees) → IsSite (parts_of o) u → u.schema ≡ v.schema → IsLawfulOlder o v owner start trees → value_older o u owner start known trees ≡ value_older o v owner start known trees
moved_value o u v owner start known trees site same law = ap (λ t. value_in owner start known (held_of t)) (same_olders o u v trees site law.site same)

-- those of an older format are the first of all
same_place : (s : Schema) (from to : List Place) → GoOn s from to → (k : ℕ) → k < length from → or_nowhere (slice_get from k) ≡ or_nowhere (slice_get to k)
same_place s [] to goes k low = absurd (omega (arith, low))
same_place s (p ∷ from) [] goes k low = absurd goes
same_place s (p ∷ from) (q ∷ to) goes zero low = goes.0
same_place s (p ∷ from) (q ∷ to) goes (suc k) low = same_place s from to goes.1 k (omega (arith, low))

pub same_tree : (o : OlderParts) (v w : Site) (schema : Schema) (k : TableNumber) → Has ledger_parts.older o → Rises o schema v w → k.number < length o.tables → tree_at v k ≡ tree_at w k
same_tree o v w schema k has rises low = ap (λ (p : Place). p.tree) (same_place schema (all_of v.places) (all_of w.places) rises.places k.number (older_within o v has rises.from k low))

-- it has four tables, five or six
pub has_four : (o : OlderParts) → Has ledger_parts.older o → 4 ≤ length o.tables
has_four o (inl is) = subst (λ (x : OlderParts). 4 ≤ length x.tables) (sym is) (omega arith)
has_four o (inr (inl is)) = subst (λ (x : OlderParts). 4 ≤ length x.tables) (sym is) (omega arith)
has_four o (inr (inr (inl is))) = subst (λ (x : OlderParts). 4 ≤ length x.tables) (sym is) (omega arith)
has_four o (inr (inr (inr past))) = absurd past

pub up_to_six : (o : OlderParts) → Has ledger_parts.older o → length o.tables ≤ 6
up_to_six o (inl is) = subst (λ (x : OlderParts). length x.tables ≤ 6) (sym is) (omega arith)
up_to_six o (inr (inl is)) = subst (λ (x : OlderParts). length x.tables ≤ 6) (sym is) (omega arith)
up_to_six o (inr (inr (inl is))) = subst (λ (x : OlderParts). length x.tables ≤ 6) (sym is) (omega arith)
up_to_six o (inr (inr (inr past))) = absurd past
