-- The tables of a ledger of the third format can be raised in whatever order they were made.
use Rattle.std.proofs.Common.{◌≡◌, ℕ, zero, suc, true, false, take, [], ◌∷◌, ◌++◌, List, length, map, refl, sym, ap, subst}
use Rattle.std.specs.Prelude.{drop}
use Rattle.std.specs.List.{AllByRecursion}
use Rattle.sqlite_tied.specs.Compute.{everything}
use Rattle.sqlite_schema.specs.Names.{same_name}
use Rattle.fare_layout.specs.Growing.{GoOn}
use Rattle.fare_layout.specs.Places.{all_of}
use Rattle.fare_opening.specs.declared.site.Site.{Site}
use Rattle.fare_opening.specs.Orders.{made_of}
use Rattle.fare_opening.specs.Parts.{parts_of}
use Rattle.fare_opening.proofs.Orders.{places_of}
use Rattle.fare_ledger.specs.Opening.{Rises}
use Rattle.fare_ledger.specs.Orders.{table_of, six_orders, ThirdsRise}
use Rattle.fare_ledger.specs.Statements.{third_format, ledger_parts}
use Rattle.fare_ledger.specs.Tables.{third_schema, ledger_schema, held_table}
use Rattle.fare_ledger.proofs.Own.{make_held_text}
use Rattle.fare_ledger.proofs.AnyOrder.{same_head, same_tail}
use Rattle.fare_ledger.proofs.Ordered.{is_order, six_fit, all_fit}
use Rattle.fare_ledger.proofs.AnyRise.{Names, names, made, to_be_made, held_made, with_held, seventh, go_on}

abbrev third_names : List ℕ → Names
third_names ks = (true, true, false, 6, all_of (places_of (parts_of third_format) table_of ks) ++ seventh ∷ [])

abbrev RisesIn : List ℕ → Type 0
RisesIn ks = (v : Site) × (w : Site) × Rises third_format (made_of table_of ks) v w

third_rises : (ks : List ℕ) → is_order 6 ks ≡ true → is_order 7 (with_held ks) ≡ true → made ks 6 make_held_text ≡ to_be_made third_schema (held_table 0) ks make_held_text → names ks (with_held ks) ≡ third_names ks → RisesIn ks
third_rises ks third all seventh_made is =
    let s = made_of table_of ks in
    let from = all_of (places_of (parts_of third_format) table_of ks) in
    let many : length s.tables ≡ 6 = ap (λ (n : Names). n.3) is in (
      record { schema = s; places = places_of (parts_of third_format) table_of ks },
      record { schema = made_of table_of (with_held ks); places = places_of ledger_parts table_of (with_held ks) },
      record {
        from = six_fit ks third;
        has = refl;
        free = (ap (λ (n : Names). n.2) is, tt);
        site = all_fit (with_held ks) all;
        grows = (made_of table_of (with_held ks), held_made ks seventh_made, refl);
        places = subst (GoOn s from) (sym (ap (λ (n : Names). n.4) is)) (go_on s from (seventh ∷ []) (sym many, tt));
      },
    )

thirds_rise : (kss : List (List ℕ)) → map (is_order 6) kss ≡ map (λ ks. true) kss → map (λ ks. is_order 7 (with_held ks)) kss ≡ map (λ ks. true) kss
    → map (λ ks. made ks 6 make_held_text) kss ≡ map (λ ks. to_be_made third_schema (held_table 0) ks make_held_text) kss
    → map (λ ks. names ks (with_held ks)) kss ≡ map third_names kss → AllByRecursion RisesIn kss
thirds_rise [] third all one is = tt
thirds_rise (ks ∷ kss) third all one is = (third_rises ks (same_head third) (same_head all) (same_head one) (same_head is), thirds_rise kss (same_tail third) (same_tail all) (same_tail one) (same_tail is))

-- in parts, since there are many
both : (n : ℕ) (kss : List (List ℕ)) → AllByRecursion RisesIn (take n kss) → AllByRecursion RisesIn (drop n kss) → AllByRecursion RisesIn kss
both zero kss first rest = rest
both (suc n) [] first rest = tt
both (suc n) (ks ∷ kss) first rest = (first.0, both n kss first.1 rest)

abbrev from_1 : List (List ℕ)
from_1 = drop 120 six_orders

abbrev from_2 : List (List ℕ)
from_2 = drop 120 from_1

abbrev from_3 : List (List ℕ)
from_3 = drop 120 from_2

abbrev from_4 : List (List ℕ)
from_4 = drop 120 from_3

abbrev from_5 : List (List ℕ)
from_5 = drop 120 from_4

part_0 : AllByRecursion RisesIn (take 120 six_orders)
unfolding everything third_schema ledger_schema same_name
part_0 = thirds_rise (take 120 six_orders) refl refl refl refl

part_1 : AllByRecursion RisesIn (take 120 from_1)
unfolding everything third_schema ledger_schema same_name
part_1 = thirds_rise (take 120 from_1) refl refl refl refl

part_2 : AllByRecursion RisesIn (take 120 from_2)
unfolding everything third_schema ledger_schema same_name
part_2 = thirds_rise (take 120 from_2) refl refl refl refl

part_3 : AllByRecursion RisesIn (take 120 from_3)
unfolding everything third_schema ledger_schema same_name
part_3 = thirds_rise (take 120 from_3) refl refl refl refl

part_4 : AllByRecursion RisesIn (take 120 from_4)
unfolding everything third_schema ledger_schema same_name
part_4 = thirds_rise (take 120 from_4) refl refl refl refl

part_5 : AllByRecursion RisesIn (from_5)
unfolding everything third_schema ledger_schema same_name
part_5 = thirds_rise (from_5) refl refl refl refl

pub any_third_rises : ThirdsRise
any_third_rises = both 120 six_orders part_0 (both 120 from_1 part_1 (both 120 from_2 part_2 (both 120 from_3 part_3 (both 120 from_4 part_4 part_5))))
