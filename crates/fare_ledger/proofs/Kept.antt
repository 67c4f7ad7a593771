-- The first tap of a device of a day or a later one.
use Rattle.std.proofs.Common.{◌≡◌, ◌⊎◌, inl, inr, ℕ, ◌==◌, nat_le, List, [], ◌∷◌, map, filter, Some, None, Ok, refl, sym, ap, subst, ◌∙◌}
use Rattle.sqlite.specs.declared.types.Value.TheVariants.{Null}
use Rattle.sqlite_value.specs.Order.{Row, column}
use Rattle.sqlite.specs.Tree.{Trees}
use Rattle.sqlite.specs.Query.{IsAnswer, matches_as, end, output}
use Rattle.sqlite.specs.Program.{overlay}
use Rattle.sqlite.specs.State.{State, QueriesRow, Shown}
use Rattle.sqlite.proofs.Callers.{first_as, reads_as}
use Rattle.fare_tables.specs.Cells.{nat_in, int, id_of, AreRows}
use Rattle.fare_tables.proofs.Terms.{chosen, matched, eq_holds, ge_holds, two_terms}
use Rattle.fare_tables.proofs.Rows.{all_of}
use Rattle.fare_tables.proofs.Least.{IsLeastOf, least_answer}
use Rattle.fare_ledger.specs.declared.layout.Layout.{Layout}
use Rattle.fare_ledger.specs.Layouts.{schema_in, ours}
use Rattle.fare_ledger.specs.Tables.{kept_terms, kept_query}
use Rattle.fare_ledger.specs.Held.{TapRow, tap_cells, tap_of, IsTap, is_kept, IsLeastKept}
use Rattle.fare_ledger.proofs.Texts.{kept_text, kept_meant}
use Rattle.fare_ledger.proofs.Found.{asked, at_tap}
use Rattle.sqlite.specs.Term.{col}

kept_cell : (id : ℕ) (t : TapRow) (d y : ℕ) → matches_as Null (λ _. []) kept_terms end (asked d y ∷ (int id ∷ tap_cells t) ∷ []) ≡ chosen (is_kept d y t) (asked d y ∷ (int id ∷ tap_cells t) ∷ [])
kept_cell id t d y = rw (eq_holds t.device d, ge_holds t.tap.day y) (two_terms (t.device == d) (nat_le y t.tap.day) (asked d y ∷ (int id ∷ tap_cells t) ∷ []))

kept_each : (d y : ℕ) (r : Row) → IsTap r → matches_as Null (λ _. []) kept_terms end (asked d y ∷ r ∷ []) ≡ chosen (is_kept d y (tap_of r)) (asked d y ∷ r ∷ [])
kept_each d y r ok = subst (λ x. matches_as Null (λ _. []) kept_terms end (asked d y ∷ x ∷ []) ≡ chosen (is_kept d y (tap_of x)) (asked d y ∷ x ∷ [])) (sym ok) (kept_cell (id_of r) (tap_of r) d y)

abbrev number_of : TapRow → ℕ
number_of t = t.lane

abbrev lane_shown : TapRow → Row
lane_shown t = int t.lane ∷ []

kept_out : (d y : ℕ) (r : Row) → IsTap r → output kept_query (asked d y ∷ r ∷ []) ≡ (int (number_of (tap_of r)) ∷ [], lane_shown (tap_of r))
kept_out d y r ok = subst (λ x. output kept_query (asked d y ∷ x ∷ []) ≡ (int (number_of (tap_of x)) ∷ [], lane_shown (tap_of x))) (sym ok) refl

kept_answer : (db : Trees) (d y : ℕ) (rows : List Row) → AreRows IsTap (db 7) → IsAnswer kept_query (overlay db []) (asked d y) rows
    → ((rows ≡ []) × (filter (is_kept d y) (map tap_of (db 7)) ≡ [])) ⊎ IsLeastOf (is_kept d y) number_of lane_shown (map tap_of (db 7)) rows
kept_answer db d y rows ok a =
    let all = all_of IsTap (db 7) ok in
    least_answer 7 kept_terms (col 1 2 ∷ []) 2 (is_kept d y) number_of lane_shown (asked d y) tap_of IsTap (overlay db []) (db 7) rows (kept_out d y) all
    (matched IsTap (λ r. is_kept d y (tap_of r)) (asked d y) kept_terms (kept_each d y) (db 7) all) a

pub kept_row : (w : Layout) (old new : State) (d y lane : ℕ) (row : Row) → old.now.schema ≡ schema_in w → AreRows IsTap (ours w old.now.trees 7) → QueriesRow kept_text (asked d y) old new (Ok row) → column row 0 ≡ int lane
    → IsLeastKept (map tap_of (ours w old.now.trees 7)) d y (Some lane)
kept_row w old new d y lane row has ok h read =
    let got = (first_as kept_text (asked d y) old new (schema_in w) has _ (kept_meant w).command_is (kept_meant w).plain (kept_meant w).unlisted row h).1 in
    let a : IsAnswer kept_query (overlay (ours w old.now.trees) []) (asked d y) (row ∷ got.0) = at_tap w kept_query old.now.trees (asked d y) (row ∷ got.0) (got.1 Null) in
    elim (kept_answer (ours w old.now.trees) d y (row ∷ got.0) ok a) [
      | inl none ↦ absurd (let e = none.0 in cc)
      | inr it ↦ (
          let first : row ≡ lane_shown it.one = let e = it.is in cc in
          (it.one, it.has, ap nat_in (ap (λ r. column r 0) (sym first) ∙ read), it.least))
    ]

pub kept_none : (w : Layout) (old new : State) (d y : ℕ) → old.now.schema ≡ schema_in w → AreRows IsTap (ours w old.now.trees 7) → Shown kept_text (asked d y) old new [] → IsLeastKept (map tap_of (ours w old.now.trees 7)) d y None
kept_none w old new d y has ok shown =
    let read = reads_as kept_text (asked d y) old new (schema_in w) has _ (kept_meant w).command_is (kept_meant w).plain (kept_meant w).unlisted [] shown in
    elim (kept_answer (ours w old.now.trees) d y [] ok (at_tap w kept_query old.now.trees (asked d y) [] (read.answer Null))) [
      | inl none ↦ none.1
      | inr it ↦ absurd (let e = it.is in cc)
    ]
