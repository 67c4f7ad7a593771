-- Those of a ledger of the first two formats can be raised in whatever order they were made.
use Rattle.std.proofs.Common.{◌≡◌, ◌+◌, ℕ, Bool, true, false, Result, [], ◌∷◌, ◌++◌, codes, List, length, map, refl, sym, ap, subst}
use Rattle.std.specs.List.{AllByRecursion}
use Rattle.sqlite.specs.Change.{created}
use Rattle.sqlite.specs.Does.{lacks_sequence}
use Rattle.sqlite.specs.Schema.{Schema}
use Rattle.sqlite.specs.Table.{Table}
use Rattle.sqlite_tied.specs.Compute.{everything}
use Rattle.sqlite_catalog.specs.Change.{is_used}
use Rattle.sqlite_resolve.specs.Compile.{compiled}
use Rattle.sqlite_resolve.specs.declared.compiled.Compiled.{Compiled}
use Rattle.sqlite_resolve.specs.declared.error.CompileError.{CompileError}
use Rattle.sqlite_schema.specs.Names.{same_name}
use Rattle.fare_layout.specs.declared.place.Place.{Place}
use Rattle.fare_layout.specs.Growing.{Creates, Grows, AreLast, GoOn}
use Rattle.fare_layout.specs.Places.{all_of}
use Rattle.fare_layout.proofs.Creation.{grows_of}
use Rattle.fare_opening.specs.declared.site.Site.{Site}
use Rattle.fare_opening.specs.Orders.{made_of, orders}
use Rattle.fare_opening.specs.Parts.{parts_of}
use Rattle.fare_opening.proofs.Orders.{places_of}
use Rattle.fare_ledger.specs.Opening.{Rises}
use Rattle.fare_ledger.specs.Orders.{table_of, five_orders, FirstsRise, SecondsRise}
use Rattle.fare_ledger.specs.Statements.{first_format, second_format, ledger_parts}
use Rattle.fare_ledger.specs.Tables.{first_schema, second_schema, third_schema, ledger_schema, retired_table, routed_table, held_table}
use Rattle.fare_ledger.proofs.Own.{make_retired_text, retired_can, make_routed_text, routed_can, make_held_text, held_can}
use Rattle.fare_ledger.proofs.OlderTexts.{understood_first, understood_second}
use Rattle.fare_ledger.proofs.AnyOrder.{same_head, same_tail, computed, wanted, fit_at}
use Rattle.fare_ledger.proofs.Ordered.{is_order, all_fit}

-- ---- its tables, and the others behind them

-- what is computed of a table that is made behind others, and what it has to be
abbrev pub Made : Type 0
Made = Result Compiled CompileError × Schema × Bool

abbrev pub made : List ℕ → ℕ → List ℕ → Made
made ks k sql = (compiled (made_of table_of ks) sql, made_of table_of (ks ++ k ∷ []), lacks_sequence (made_of table_of (ks ++ k ∷ [])))

abbrev pub to_be_made : Schema → Table → List ℕ → List ℕ → Made
to_be_made own table ks sql = (compiled own sql, created (made_of table_of ks) table, false)

abbrev with_retired : List ℕ → List ℕ
with_retired ks = ks ++ 4 ∷ []

abbrev with_routed : List ℕ → List ℕ
with_routed ks = ks ++ 5 ∷ []

abbrev pub with_held : List ℕ → List ℕ
with_held ks = ks ++ 6 ∷ []

retired_made : (ks : List ℕ) → made ks 4 make_retired_text ≡ to_be_made first_schema (retired_table 0) ks make_retired_text → Grows (made_of table_of ks) make_retired_text (made_of table_of (with_retired ks))
retired_made ks is = grows_of (made_of table_of ks) (made_of table_of (with_retired ks)) make_retired_text (retired_table 0) (subst (Creates make_retired_text) (sym (ap (λ (m : Made). m.0) is)) retired_can.creates) retired_can.defined (ap (λ (m : Made). m.1) is) (ap (λ (m : Made). m.2) is)

routed_made : (ks : List ℕ) → made ks 5 make_routed_text ≡ to_be_made second_schema (routed_table 0) ks make_routed_text → Grows (made_of table_of ks) make_routed_text (made_of table_of (with_routed ks))
routed_made ks is = grows_of (made_of table_of ks) (made_of table_of (with_routed ks)) make_routed_text (routed_table 0) (subst (Creates make_routed_text) (sym (ap (λ (m : Made). m.0) is)) routed_can.creates) routed_can.defined (ap (λ (m : Made). m.1) is) (ap (λ (m : Made). m.2) is)

pub held_made : (ks : List ℕ) → made ks 6 make_held_text ≡ to_be_made third_schema (held_table 0) ks make_held_text → Grows (made_of table_of ks) make_held_text (made_of table_of (with_held ks))
held_made ks is = grows_of (made_of table_of ks) (made_of table_of (with_held ks)) make_held_text (held_table 0) (subst (Creates make_held_text) (sym (ap (λ (m : Made). m.0) is)) held_can.creates) held_can.defined (ap (λ (m : Made). m.1) is) (ap (λ (m : Made). m.2) is)

-- in each order the first six take nine trees, the first five seven, and the first four six
abbrev fifth : Place
fifth = record { at = 4; tree = 6 }

abbrev sixth : Place
sixth = record { at = 5; tree = 7 }

abbrev pub seventh : Place
seventh = record { at = 6; tree = 9 }

-- what is computed of the names, and of the places
abbrev pub Names : Type 0
Names = Bool × Bool × Bool × ℕ × List Place

abbrev pub names : List ℕ → List ℕ → Names
names ks all = (is_used (made_of table_of ks) (codes "retired"), is_used (made_of table_of ks) (codes "tap2"), is_used (made_of table_of ks) (codes "held"), length (made_of table_of ks).tables, all_of (places_of ledger_parts table_of all))

pub go_on : (s : Schema) (from more : List Place) → AreLast s more → GoOn s from (from ++ more)
go_on s [] more last = last
go_on s (p ∷ from) more last = (refl, go_on s from more last)

-- ---- the first

abbrev all_of_four : List ℕ → List ℕ
all_of_four ks = with_held (with_routed (with_retired ks))

abbrev first_names : List ℕ → Names
first_names ks = (false, false, false, 4, all_of (places_of (parts_of first_format) table_of ks) ++ fifth ∷ sixth ∷ seventh ∷ [])

first_rises : (ks : List ℕ) → computed (parts_of first_format) understood_first ks ≡ wanted (parts_of first_format) understood_first ks → is_order 7 (all_of_four ks) ≡ true
    → made ks 4 make_retired_text ≡ to_be_made first_schema (retired_table 0) ks make_retired_text → made (with_retired ks) 5 make_routed_text ≡ to_be_made second_schema (routed_table 0) (with_retired ks) make_routed_text
    → made (with_routed (with_retired ks)) 6 make_held_text ≡ to_be_made third_schema (held_table 0) (with_routed (with_retired ks)) make_held_text
    → names ks (all_of_four ks) ≡ first_names ks → (v : Site) × (w : Site) × Rises first_format (made_of table_of ks) v w
first_rises ks first all fifth_made sixth_made seventh_made is =
    let s = made_of table_of ks in
    let from = all_of (places_of (parts_of first_format) table_of ks) in
    let many : length s.tables ≡ 4 = ap (λ (n : Names). n.3) is in (
      record { schema = s; places = places_of (parts_of first_format) table_of ks },
      record { schema = made_of table_of (all_of_four ks); places = places_of ledger_parts table_of (all_of_four ks) },
      record {
        from = fit_at (parts_of first_format) understood_first ks first;
        has = refl;
        free = (ap (λ (n : Names). n.0) is, (ap (λ (n : Names). n.1) is, (ap (λ (n : Names). n.2) is, tt)));
        site = all_fit (all_of_four ks) all;
        grows = (made_of table_of (with_retired ks), retired_made ks fifth_made, (made_of table_of (with_routed (with_retired ks)), routed_made (with_retired ks) sixth_made, (made_of table_of (all_of_four ks), held_made (with_routed (with_retired ks)) seventh_made, refl)));
        places = subst (GoOn s from) (sym (ap (λ (n : Names). n.4) is)) (go_on s from (fifth ∷ sixth ∷ seventh ∷ []) (sym many, (ap (λ n. n + 1) (sym many), (ap (λ n. n + 1 + 1) (sym many), tt))));
      },
    )

firsts_rise : (kss : List (List ℕ)) → map (computed (parts_of first_format) understood_first) kss ≡ map (wanted (parts_of first_format) understood_first) kss
    → map (λ ks. is_order 7 (all_of_four ks)) kss ≡ map (λ ks. true) kss
    → map (λ ks. made ks 4 make_retired_text) kss ≡ map (λ ks. to_be_made first_schema (retired_table 0) ks make_retired_text) kss
    → map (λ ks. made (with_retired ks) 5 make_routed_text) kss ≡ map (λ ks. to_be_made second_schema (routed_table 0) (with_retired ks) make_routed_text) kss
    → map (λ ks. made (with_routed (with_retired ks)) 6 make_held_text) kss ≡ map (λ ks. to_be_made third_schema (held_table 0) (with_routed (with_retired ks)) make_held_text) kss
    → map (λ ks. names ks (all_of_four ks)) kss ≡ map first_names kss → AllByRecursion (λ ks. (v : Site) × (w : Site) × Rises first_format (made_of table_of ks) v w) kss
firsts_rise [] first all one two three is = tt
firsts_rise (ks ∷ kss) first all one two three is = (first_rises ks (same_head first) (same_head all) (same_head one) (same_head two) (same_head three) (same_head is), firsts_rise kss (same_tail first) (same_tail all) (same_tail one) (same_tail two) (same_tail three) (same_tail is))

pub any_first_rises : FirstsRise
unfolding everything first_schema second_schema third_schema ledger_schema same_name understood_first
any_first_rises = firsts_rise orders refl refl refl refl refl refl

-- ---- the second

abbrev all_of_five : List ℕ → List ℕ
all_of_five ks = with_held (with_routed ks)

abbrev second_names : List ℕ → Names
second_names ks = (true, false, false, 5, all_of (places_of (parts_of second_format) table_of ks) ++ sixth ∷ seventh ∷ [])

second_rises : (ks : List ℕ) → computed (parts_of second_format) understood_second ks ≡ wanted (parts_of second_format) understood_second ks → is_order 7 (all_of_five ks) ≡ true
    → made ks 5 make_routed_text ≡ to_be_made second_schema (routed_table 0) ks make_routed_text → made (with_routed ks) 6 make_held_text ≡ to_be_made third_schema (held_table 0) (with_routed ks) make_held_text
    → names ks (all_of_five ks) ≡ second_names ks → (v : Site) × (w : Site) × Rises second_format (made_of table_of ks) v w
second_rises ks second all sixth_made seventh_made is =
    let s = made_of table_of ks in
    let from = all_of (places_of (parts_of second_format) table_of ks) in
    let many : length s.tables ≡ 5 = ap (λ (n : Names). n.3) is in (
      record { schema = s; places = places_of (parts_of second_format) table_of ks },
      record { schema = made_of table_of (all_of_five ks); places = places_of ledger_parts table_of (all_of_five ks) },
      record {
        from = fit_at (parts_of second_format) understood_second ks second;
        has = refl;
        free = (ap (λ (n : Names). n.1) is, (ap (λ (n : Names). n.2) is, tt));
        site = all_fit (all_of_five ks) all;
        grows = (made_of table_of (with_routed ks), routed_made ks sixth_made, (made_of table_of (all_of_five ks), held_made (with_routed ks) seventh_made, refl));
        places = subst (GoOn s from) (sym (ap (λ (n : Names). n.4) is)) (go_on s from (sixth ∷ seventh ∷ []) (sym many, (ap (λ n. n + 1) (sym many), tt)));
      },
    )

seconds_rise : (kss : List (List ℕ)) → map (computed (parts_of second_format) understood_second) kss ≡ map (wanted (parts_of second_format) understood_second) kss
    → map (λ ks. is_order 7 (all_of_five ks)) kss ≡ map (λ ks. true) kss
    → map (λ ks. made ks 5 make_routed_text) kss ≡ map (λ ks. to_be_made second_schema (routed_table 0) ks make_routed_text) kss
    → map (λ ks. made (with_routed ks) 6 make_held_text) kss ≡ map (λ ks. to_be_made third_schema (held_table 0) (with_routed ks) make_held_text) kss
    → map (λ ks. names ks (all_of_five ks)) kss ≡ map second_names kss → AllByRecursion (λ ks. (v : Site) × (w : Site) × Rises second_format (made_of table_of ks) v w) kss
seconds_rise [] second all one two is = tt
seconds_rise (ks ∷ kss) second all one two is = (second_rises ks (same_head second) (same_head all) (same_head one) (same_head two) (same_head is), seconds_rise kss (same_tail second) (same_tail all) (same_tail one) (same_tail two) (same_tail is))

pub any_second_rises : SecondsRise
unfolding everything second_schema third_schema ledger_schema same_name understood_second
any_second_rises = seconds_rise five_orders refl refl refl refl refl
