-- The rows and the statements by their keys, and what a write makes of them.
use Rattle.std.proofs.Common.{◌≡◌, ◌⊎◌, inl, inr, ℕ, ◌+◌, ◌==◌, ◌<◌, ◌≤◌, nat_lt, nat_le, if◌then◌else◌, true, length, Some, None, Option, sym, subst, ◌∙◌, arith}
use Rattle.std.specs.List.{AllByRecursion}
use Rattle.std.proofs.lemmas.Bool.{cases_Bool}
use Rattle.std.proofs.lemmas.Bool.Decides.{nat_tests}
use Rattle.std.proofs.lemmas.List.{length_push}
use Rattle.fare_record.specs.Values.{RecordValue, StatementValue}
use Rattle.fare_store.specs.OutboxWords.{stored, stored_statement, IsNextRow, IsNextStatement}
use Rattle.fare_tables.proofs.Lists.{member, of_filter, all_pushed, all_weaker}
use Rattle.fare_outbox_rows.specs.Held.{Held, with_tap, with_statement, is_past, IsNext, is_from, IsNextStated}
use Rattle.fare_outbox.specs.Words.{tap_key, stated_key, first_at, itself, count_of, IsKnown, FitTogether, value_in, MayStore}
use Rattle.fare_outbox.proofs.Keyed.{turned, put_at, pushed, apart_pushed, stands_at, none_below}

-- ---- a row more

pub store_value : (h : Held) (t : RecordValue) → MayStore (value_in h) t → value_in (with_tap t h) ≡ stored t (value_in h)
store_value h t may = λ i. record {
  upto = λ d. (if turned t.device d i then t.link else h.upto d);
  rows = λ o d l. (pushed tap_key itself h.taps t o d l may.free ∙ put_at (first_at tap_key itself h.taps) t.owner t.device t.lane o d l (Some t)) i;
  row_count = length_push h.taps t i;
  stated = first_at stated_key count_of h.statements;
  stated_count = length h.statements;
}

known_more : (h : Held) (t x : RecordValue) → MayStore (value_in h) t → IsKnown h.upto x → IsKnown (with_tap t h).upto x
known_more h t x may known = record {
  link = elim (cases_Bool (t.device == x.device)) [
    | inl same ↦ rw same (
        let at : t.device ≡ x.device = grind (arith, nat_tests) in
        let was : x.link ≤ h.upto t.device = subst (λ d. x.link ≤ h.upto d) (sym at) known.link in
        let next = may.next in omega (arith, was, next))
    | inr other ↦ rw other known.link
  ];
  lane = known.lane;
}

known_itself : (h : Held) (t : RecordValue) → t.lane ≤ 9223372036854775807 → IsKnown (with_tap t h).upto t
known_itself h t low = record { link = (let same : (t.device == t.device) ≡ true = grind (arith, nat_tests) in rw same (omega arith)); lane = low }

pub store_fits : (h : Held) (t : RecordValue) → t.lane ≤ 9223372036854775807 → MayStore (value_in h) t → FitTogether h → FitTogether (with_tap t h)
store_fits h t low may fit = record {
  apart = apart_pushed tap_key itself h.taps t fit.apart may.free;
  known = all_pushed (IsKnown (with_tap t h).upto) h.taps t (all_weaker (IsKnown h.upto) (IsKnown (with_tap t h).upto) h.taps (λ x known. known_more h t x may known) fit.known) (known_itself h t low);
  single = fit.single;
  meta = fit.meta;
  unused = fit.unused;
}

-- ---- a statement more

pub statement_value : (h : Held) (s : StatementValue) → first_at stated_key count_of h.statements s.owner s.device s.day ≡ None → value_in (with_statement s h) ≡ stored_statement s (value_in h)
statement_value h s free = λ i. record {
  upto = h.upto;
  rows = first_at tap_key itself h.taps;
  row_count = length h.taps;
  stated = λ o d y. (pushed stated_key count_of h.statements s o d y free ∙ put_at (first_at stated_key count_of h.statements) s.owner s.device s.day o d y (Some s.count)) i;
  stated_count = length_push h.statements s i;
}

pub statement_fits : (h : Held) (s : StatementValue) → first_at stated_key count_of h.statements s.owner s.device s.day ≡ None → FitTogether h → FitTogether (with_statement s h)
statement_fits h s free fit = record { apart = fit.apart; known = fit.known; single = apart_pushed stated_key count_of h.statements s fit.single free; meta = fit.meta; unused = fit.unused }

-- ---- the next row

lane_past : (o d past : ℕ) (t : RecordValue) → is_past o d past t ≡ true → (t.owner ≡ o) × (t.device ≡ d) × (past < t.lane)
lane_past o d past t is = (grind (arith, nat_tests), grind (arith, nat_tests), grind (arith, nat_tests))

pub next_answer : (h : Held) (o d past after : ℕ) (next : Option RecordValue) → FitTogether h → past ≤ after → (past ≡ after) ⊎ (past ≡ 9223372036854775807) → IsNext h.taps o d past next → IsNextRow (first_at tap_key itself h.taps) o d after next
next_answer h o d past after None fit low which none =
    λ lane above. none_below tap_key itself h.taps o d (nat_lt past) (lane + 1) lane (subst (λ xs. AllByRecursion (λ (y : RecordValue). lane + 1 ≤ y.lane) xs) (sym none) tt) (let h = above in grind (arith, nat_tests)) (omega arith)
next_answer h o d past after (Some t) fit low which next =
    let it = of_filter (is_past o d past) h.taps t next.0 in
    let facts = lane_past o d past t it.1 in
    let top = (member (IsKnown h.upto) h.taps t fit.known it.0).lane in
    let above = facts.2 in
    let same : past ≡ after = elim which [
      | inl is ↦ is
      | inr last ↦ absurd (omega (arith, last, top, above))
    ] in
    record {
      of_owner = facts.0;
      of_device = facts.1;
      behind = omega (arith, same, above);
      is_held = subst (λ x. first_at tap_key itself h.taps x d t.lane ≡ Some t) facts.0 (subst (λ y. first_at tap_key itself h.taps t.owner y t.lane ≡ Some t) facts.1 (stands_at tap_key itself h.taps t fit.apart it.0));
      least = λ lane later below. none_below tap_key itself h.taps o d (nat_lt past) t.lane lane next.1 (let l = later in grind (arith, nat_tests)) below;
    }

-- ---- the next statement

day_from : (o d from : ℕ) (s : StatementValue) → is_from o d from s ≡ true → (s.owner ≡ o) × (s.device ≡ d) × (from ≤ s.day)
day_from o d from s is = (grind (arith, nat_tests), grind (arith, nat_tests), grind (arith, nat_tests))

pub next_day_answer : (h : Held) (o d from : ℕ) (next : Option StatementValue) → FitTogether h → IsNextStated h.statements o d from next → IsNextStatement (first_at stated_key count_of h.statements) o d from next
next_day_answer h o d from None fit none =
    λ day later. none_below stated_key count_of h.statements o d (nat_le from) (day + 1) day (subst (λ xs. AllByRecursion (λ (y : StatementValue). day + 1 ≤ y.day) xs) (sym none) tt) (let l = later in grind (arith, nat_tests)) (omega arith)
next_day_answer h o d from (Some s) fit next =
    let it = of_filter (is_from o d from) h.statements s next.0 in
    let facts = day_from o d from s it.1 in
    record {
      of_owner = facts.0;
      of_device = facts.1;
      not_before = facts.2;
      is_held = subst (λ x. first_at stated_key count_of h.statements x d s.day ≡ Some s.count) facts.0 (subst (λ y. first_at stated_key count_of h.statements s.owner y s.day ≡ Some s.count) facts.1 (stands_at stated_key count_of h.statements s fit.single it.0));
      least = λ day later below. none_below stated_key count_of h.statements o d (nat_le from) s.day day next.1 (let l = later in grind (arith, nat_tests)) below;
    }
