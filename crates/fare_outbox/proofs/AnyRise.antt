-- Those of an outbox of the first format can be raised in whatever order they were made.
use Rattle.std.proofs.Common.{◌≡◌, ℕ, Bool, false, Result, [], ◌∷◌, ◌++◌, codes, List, length, map, refl, sym, ap, subst}
use Rattle.std.specs.List.{AllByRecursion}
use Rattle.sqlite.specs.Change.{created}
use Rattle.sqlite.specs.Does.{lacks_sequence}
use Rattle.sqlite.specs.Schema.{Schema}
use Rattle.sqlite_tied.specs.Compute.{everything}
use Rattle.sqlite_catalog.specs.Change.{is_used}
use Rattle.sqlite_resolve.specs.Compile.{compiled}
use Rattle.sqlite_resolve.specs.declared.compiled.Compiled.{Compiled}
use Rattle.sqlite_resolve.specs.declared.error.CompileError.{CompileError}
use Rattle.sqlite_schema.specs.Names.{same_name}
use Rattle.fare_layout.specs.declared.place.Place.{Place}
use Rattle.fare_layout.specs.Growing.{Creates, GoOn}
use Rattle.fare_layout.specs.Places.{all_of}
use Rattle.fare_layout.proofs.Creation.{grows_of}
use Rattle.fare_opening.specs.declared.site.Site.{Site}
use Rattle.fare_opening.specs.Orders.{made_of, orders}
use Rattle.fare_opening.specs.Parts.{parts_of}
use Rattle.fare_opening.proofs.Orders.{places_of}
use Rattle.fare_outbox.specs.Opening.{Rises}
use Rattle.fare_outbox.specs.Orders.{table_of, RiseInAnyOrder}
use Rattle.fare_outbox_rows.specs.Statements.{first_format, outbox_parts}
use Rattle.fare_outbox_rows.specs.Tables.{first_schema, outbox_schema, routed_table}
use Rattle.fare_outbox.proofs.Own.{routed_text, routed_can}
use Rattle.fare_outbox_rows.proofs.Texts.{understood_all}
use Rattle.fare_outbox.proofs.FirstTexts.{understood_first}
use Rattle.fare_outbox.proofs.AnyOrder.{same_head, same_tail, computed, wanted, fit_at}

-- what is computed of four tables in an order, where the fifth is made behind them, and what it has to be
abbrev Made : Type 0
Made = Bool × Result Compiled CompileError × Schema × Bool × ℕ × List Place

abbrev with_fifth : List ℕ → List ℕ
with_fifth ks = ks ++ 4 ∷ []

-- in each order they take seven trees
abbrev fifth : Place
fifth = record { at = 4; tree = 7 }

abbrev made : List ℕ → Made
made ks = (
  is_used (made_of table_of ks) (codes "tap2"),
  compiled (made_of table_of ks) routed_text,
  made_of table_of (with_fifth ks),
  lacks_sequence (made_of table_of (with_fifth ks)),
  length (made_of table_of ks).tables,
  all_of (places_of outbox_parts table_of (with_fifth ks)),
)

abbrev to_be_made : List ℕ → Made
to_be_made ks = (
  false,
  compiled first_schema routed_text,
  created (made_of table_of ks) (routed_table 0),
  false,
  4,
  all_of (places_of (parts_of first_format) table_of ks) ++ fifth ∷ [],
)

goes_on : (s : Schema) (from : List Place) → length s.tables ≡ 4 → GoOn s from (from ++ fifth ∷ [])
goes_on s [] many = (sym many, tt)
goes_on s (p ∷ from) many = (refl, goes_on s from many)

rises_by : (ks : List ℕ) → computed (parts_of first_format) understood_first ks ≡ wanted (parts_of first_format) understood_first ks → computed outbox_parts understood_all (with_fifth ks) ≡ wanted outbox_parts understood_all (with_fifth ks) → made ks ≡ to_be_made ks
    → (v : Site) × (w : Site) × Rises (made_of table_of ks) v w
rises_by ks first all is =
    let s = made_of table_of ks in
    let next = made_of table_of (with_fifth ks) in
    let from = all_of (places_of (parts_of first_format) table_of ks) in
    let creates : Creates routed_text (compiled s routed_text) = subst (Creates routed_text) (sym (ap (λ (m : Made). m.1) is)) routed_can.creates in (
      record { schema = s; places = places_of (parts_of first_format) table_of ks },
      record { schema = next; places = places_of outbox_parts table_of (with_fifth ks) },
      record {
        from = fit_at (parts_of first_format) understood_first ks first;
        has = refl;
        free = (ap (λ (m : Made). m.0) is, tt);
        site = fit_at outbox_parts understood_all (with_fifth ks) all;
        grows = (next, grows_of s next routed_text (routed_table 0) creates routed_can.defined (ap (λ (m : Made). m.2) is) (ap (λ (m : Made). m.3) is), refl);
        places = subst (GoOn s from) (sym (ap (λ (m : Made). m.5) is)) (goes_on s from (ap (λ (m : Made). m.4) is));
      },
    )

all_rise : (kss : List (List ℕ)) → map (computed (parts_of first_format) understood_first) kss ≡ map (wanted (parts_of first_format) understood_first) kss
    → map (λ ks. computed outbox_parts understood_all (with_fifth ks)) kss ≡ map (λ ks. wanted outbox_parts understood_all (with_fifth ks)) kss → map made kss ≡ map to_be_made kss → AllByRecursion (λ ks. (v : Site) × (w : Site) × Rises (made_of table_of ks) v w) kss
all_rise [] first all is = tt
all_rise (ks ∷ kss) first all is = (rises_by ks (same_head first) (same_head all) (same_head is), all_rise kss (same_tail first) (same_tail all) (same_tail is))

pub any_rises : RiseInAnyOrder
unfolding everything first_schema outbox_schema same_name understood_first understood_all
any_rises = all_rise orders refl refl refl
