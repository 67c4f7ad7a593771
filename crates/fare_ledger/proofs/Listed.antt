-- What the question for the taps of some days finds.
use Rattle.std.proofs.Common.{◌≡◌, ℕ, pos, nat_le, List, [], ◌∷◌, ◌++◌, map, filter, Result, Ok, Err, IfOk, refl, sym, ap, subst, ◌∙◌, arith}
use Rattle.std.specs.Ordering.{ordering_then, nat_cmp}
use Rattle.std.specs.declared.cmp.Ordering.{Ordering}
use Rattle.std.specs.declared.cmp.Ordering.TheVariants.{Less, Equal, Greater}
use Rattle.std.specs.List.{AllByRecursion}
use Rattle.std.specs.List.Sorted.{IsPermutation, IsSorted}
use Rattle.std.proofs.lemmas.List.Sorted.{IsPermutation-map}
use Rattle.std.proofs.lemmas.Bool.Decides.{nat_tests}
use Rattle.sqlite_trees.proofs.ListLemmas.{all-permutation}
use Rattle.sqlite_exec.proofs.PartitionLemmas.{IsSorted-from_map}
use Rattle.sqlite.specs.declared.types.Value.TheVariants.{Null}
use Rattle.sqlite_value.specs.Order.{Row, column, value_cmp}
use Rattle.sqlite_value.proofs.OrderLemmas.{value_cmp-Int}
use Rattle.sqlite.specs.Tree.{Trees}
use Rattle.sqlite.specs.Query.{IsAnswer, matches_as, end, output, Output}
use Rattle.sqlite_sql.specs.Query.{output_cmp}
use Rattle.sqlite.specs.Program.{overlay}
use Rattle.sqlite.specs.State.{State, Shown}
use Rattle.sqlite.proofs.Callers.{reads_as}
use Rattle.fare_record.specs.Values.{RecordValue}
use Rattle.fare_tables.specs.Cells.{nat_in, int, id_of, AreRows}
use Rattle.fare_tables.proofs.Terms.{chosen, matched, shown_as, ge_holds, le_holds, two_terms}
use Rattle.fare_tables.proofs.Rows.{all_of}
use Rattle.fare_ledger.specs.declared.layout.Layout.{Layout}
use Rattle.fare_ledger.specs.Layouts.{schema_in, ours}
use Rattle.fare_ledger.specs.Tables.{between_terms, between_query}
use Rattle.fare_ledger.specs.Held.{TapRow, tap_cells, tap_of, IsTap, is_between, tap_order, AreListed, IsListedOf, record_of}
use Rattle.fare_ledger.specs.Shown.{ShowsRow, ShowRows}
use Rattle.fare_ledger.proofs.Texts.{between_text, between_meant}
use Rattle.fare_ledger.proofs.Found.{asked, at_tap}

between_cell : (id : ℕ) (t : TapRow) (from to : ℕ) → matches_as Null (λ _. []) between_terms end (asked from to ∷ (int id ∷ tap_cells t) ∷ []) ≡ chosen (is_between from to t) (asked from to ∷ (int id ∷ tap_cells t) ∷ [])
between_cell id t from to = rw (ge_holds t.tap.day from, le_holds t.tap.day to) (two_terms (nat_le from t.tap.day) (nat_le t.tap.day to) (asked from to ∷ (int id ∷ tap_cells t) ∷ []))

between_each : (from to : ℕ) (r : Row) → IsTap r → matches_as Null (λ _. []) between_terms end (asked from to ∷ r ∷ []) ≡ chosen (is_between from to (tap_of r)) (asked from to ∷ r ∷ [])
between_each from to r ok =
    subst (λ x. matches_as Null (λ _. []) between_terms end (asked from to ∷ x ∷ []) ≡ chosen (is_between from to (tap_of x)) (asked from to ∷ x ∷ [])) (sym ok) (between_cell (id_of r) (tap_of r) from to)

abbrev out_of : TapRow → Output
out_of t = (int t.tap.day ∷ int t.tap.moment ∷ int t.device ∷ int t.lane ∷ [], tap_cells t)

between_shown : (from to : ℕ) (r : Row) → IsTap r → output between_query (asked from to ∷ r ∷ []) ≡ out_of (tap_of r)
between_shown from to r ok = subst (λ x. output between_query (asked from to ∷ x ∷ []) ≡ out_of (tap_of x)) (sym ok) refl

-- the tap that an answer's row shows
abbrev pub tap_in : Row → TapRow
tap_in r = record {
  device = nat_in (column r 0);
  lane = nat_in (column r 1);
  link = nat_in (column r 2);
  tap = record { product = nat_in (column r 3); token = nat_in (column r 4); moment = nat_in (column r 5); day = nat_in (column r 6); route = nat_in (column r 7) };
}

abbrev tap_out : Output → TapRow
tap_out o = tap_in o.1

all_out : (ts : List TapRow) → AllByRecursion (λ o. o ≡ out_of (tap_out o)) (map out_of ts)
all_out [] = tt
all_out (t ∷ ts) = (refl, all_out ts)

as_outs : (os : List Output) → AllByRecursion (λ o. o ≡ out_of (tap_out o)) os → os ≡ map out_of (map tap_out os)
as_outs [] all = refl
as_outs (o ∷ os) all = λ i. all.0 i ∷ as_outs os all.1 i

back : (ts : List TapRow) → map tap_out (map out_of ts) ≡ ts
back [] = refl
back (t ∷ ts) = ap (λ more. t ∷ more) (back ts)

nat_value : (a b : ℕ) → value_cmp (int a) (int b) ≡ nat_cmp a b
nat_value a b = value_cmp-Int (pos a) (pos b) ∙ grind (arith, nat_tests)

no_more : (o : Ordering) → ordering_then o Equal ≡ o
no_more Less = refl
no_more Equal = refl
no_more Greater = refl

four : (a b : TapRow)
    → ordering_then (value_cmp (int a.tap.day) (int b.tap.day)) (ordering_then (value_cmp (int a.tap.moment) (int b.tap.moment)) (ordering_then (value_cmp (int a.device) (int b.device)) (ordering_then (value_cmp (int a.lane) (int b.lane)) Equal)))
    ≡ tap_order a b
four a b = rw (nat_value a.tap.day b.tap.day, nat_value a.tap.moment b.tap.moment, nat_value a.device b.device, nat_value a.lane b.lane)
    (ap (λ o. ordering_then (nat_cmp a.tap.day b.tap.day) (ordering_then (nat_cmp a.tap.moment b.tap.moment) (ordering_then (nat_cmp a.device b.device) o))) (no_more (nat_cmp a.lane b.lane)))

order_is : (λ a b. output_cmp between_query (out_of a) (out_of b)) ≡ tap_order
order_is = λ i a b. four a b i

rows_back : (os : List Output) → map tap_in (map (λ (p : Output). p.1) os) ≡ map tap_out os
rows_back [] = refl
rows_back (o ∷ os) = ap (λ more. tap_out o ∷ more) (rows_back os)

between_answer : (db : Trees) (from to : ℕ) (rows : List Row) → AreRows IsTap (db 7) → IsAnswer between_query (overlay db []) (asked from to) rows → AreListed (map tap_of (db 7)) from to (map tap_in rows)
between_answer db from to rows ok a =
    let all = all_of IsTap (db 7) ok in
    let wanted : List TapRow = filter (is_between from to) (map tap_of (db 7)) in
    let staged : a.staged ≡ map (λ r. asked from to ∷ r ∷ []) (filter (λ r. is_between from to (tap_of r)) (db 7)) = a.grouped ∙ matched IsTap (λ r. is_between from to (tap_of r)) (asked from to) between_terms (between_each from to) (db 7) all in
    let kept : a.kept ≡ map out_of wanted = a.distinct ∙ ap (map (output between_query)) staged ∙ shown_as tap_of out_of (is_between from to) between_query (asked from to) IsTap (between_shown from to) (db 7) all in
    let same = subst (λ k. IsPermutation k a.ordered) kept a.same in
    let outs = as_outs a.ordered (all-permutation (λ o. o ≡ out_of (tap_out o)) _ _ same (all_out wanted)) in
    let listed : map tap_in rows ≡ map tap_out a.ordered = ap (map tap_in) a.shown ∙ rows_back a.ordered in
    let sorted : IsSorted tap_order (map tap_out a.ordered) = subst (λ order. IsSorted order (map tap_out a.ordered)) order_is (IsSorted-from_map (output_cmp between_query) out_of (map tap_out a.ordered) (subst (IsSorted (output_cmp between_query)) outs a.sorted)) in
    subst (AreListed (map tap_of (db 7)) from to) (sym listed) (record {
      same = subst (λ ts. IsPermutation ts (map tap_out a.ordered)) (back wanted) (IsPermutation-map tap_out (map out_of wanted) a.ordered same);
      sorted = sorted;
    })

shown_record : (r : Row) (owner : ℕ) (t : RecordValue) → ShowsRow r owner t → t ≡ record_of owner (tap_in r)
shown_record r owner t shows = λ i. record {
  device = ap nat_in (sym shows.device) i;
  link = ap nat_in (sym shows.link) i;
  owner = shows.owner_is i;
  lane = ap nat_in (sym shows.lane) i;
  tap = record {
    product = ap nat_in (sym shows.tap.product) i;
    token = ap nat_in (sym shows.tap.token) i;
    moment = ap nat_in (sym shows.tap.moment) i;
    day = ap nat_in (sym shows.tap.day) i;
    route = ap nat_in (sym shows.tap.route) i;
  };
}

shown_records : (owner : ℕ) (rows : List Row) (taps : List RecordValue) → ShowRows owner rows taps → taps ≡ map (record_of owner) (map tap_in rows)
shown_records owner [] [] shows = refl
shown_records owner [] (t ∷ taps) shows = absurd shows
shown_records owner (r ∷ rows) [] shows = absurd shows
shown_records owner (r ∷ rows) (t ∷ taps) shows = λ i. shown_record r owner t shows.0 i ∷ shown_records owner rows taps shows.1 i

pub between_rows : {E : Type 0} (w : Layout) (V : Type 0) (items : V → List RecordValue) (result : Result V E) (old new : State) (owner from to : ℕ) (rows : List Row) → old.now.schema ≡ schema_in w → AreRows IsTap (ours w old.now.trees 7) → Shown between_text (asked from to) old new rows
    → IfOk result (λ v. ShowRows owner rows (items v)) → IfOk result (λ v. IsListedOf owner (map tap_of (ours w old.now.trees 7)) from to (items v))
between_rows w V items (Ok v) old new owner from to rows has ok shown shows =
    let read = reads_as between_text (asked from to) old new (schema_in w) has _ (between_meant w).command_is (between_meant w).plain (between_meant w).unlisted rows shown in
    record { rows = map tap_in rows; listed = between_answer (ours w old.now.trees) from to rows ok (at_tap w between_query old.now.trees (asked from to) rows (read.answer Null)); is = shown_records owner rows (items v) shows }
between_rows w V items (Err e) old new owner from to rows has ok shown shows = tt

pub shows_pushed : (owner : ℕ) (rows : List Row) (taps : List RecordValue) (r : Row) (t : RecordValue) → ShowRows owner rows taps → ShowsRow r owner t → ShowRows owner (rows ++ r ∷ []) (taps ++ t ∷ [])
shows_pushed owner [] [] r t shows one = (one, tt)
shows_pushed owner [] (x ∷ taps) r t shows one = absurd shows
shows_pushed owner (y ∷ rows) [] r t shows one = absurd shows
shows_pushed owner (y ∷ rows) (x ∷ taps) r t shows one = (shows.0, shows_pushed owner rows taps r t shows.1 one)
