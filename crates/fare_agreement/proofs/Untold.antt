-- What holds of an outbox from which statements went.
use Rattle.std.proofs.Common.{◌≡◌, inl, inr, ℕ, ◌<◌, ◌≤◌, ◌==◌, nat_lt, true, false, List, Option, Some, None, refl, sym, ap, ◌∙◌, arith}
use Rattle.std.specs.Prelude.{◌⊎◌}
use Rattle.std.proofs.lemmas.Bool.{cases_Bool}
use Rattle.std.proofs.lemmas.Bool.Decides.{nat_tests}
use Rattle.fare_record.specs.Values.{RecordValue, StatementValue}
use Rattle.fare_scheme.specs.Values.{SchemeValue}
use Rattle.fare_store.specs.Tables.{put2}
use Rattle.fare_store.specs.LedgerWords.{stated_from}
use Rattle.fare_store.specs.OutboxWords.{OutboxValue, IsNextStatement, without_statements}
use Rattle.fare_history.specs.Stores.{StoresValue}
use Rattle.fare_agreement.specs.Agreeing.{Agrees}

equal : (a b : ℕ) → (a == b) ≡ true → a ≡ b
equal a b is = grind (arith, nat_tests)

abbrev left : (ℕ → ℕ → ℕ → Option ℕ) → ℕ → ℕ → ℕ → ℕ → ℕ → ℕ → Option ℕ
left held owner device day = put2 held owner device (stated_from day (held owner device))

-- what is of that day or a later one stays
stays : (held : ℕ → ℕ → ℕ → Option ℕ) (owner device day o d e : ℕ) → nat_lt e day ≡ false → left held owner device day o d e ≡ held o d e
stays held owner device day o d e late = elim (cases_Bool (o == owner)) [
  | inr other ↦ rw other refl
  | inl mine ↦ elim (cases_Bool (d == device)) [
    | inr other ↦ rw (mine, other) (ap (λ k. held k d e) (sym (equal o owner mine)))
    | inl here ↦ rw (mine, here, late) (λ i. held (sym (equal o owner mine) i) (sym (equal d device here) i) e)
  ]
]

-- and what is there was there
was : (held : ℕ → ℕ → ℕ → Option ℕ) (owner device day o d e count : ℕ) → left held owner device day o d e ≡ Some count → held o d e ≡ Some count
was held owner device day o d e count is = elim (cases_Bool (nat_lt e day)) [
  | inr late ↦ sym (stays held owner device day o d e late) ∙ is
  | inl early ↦ elim (cases_Bool (o == owner)) [
    | inr other ↦ rw other at is
    | inl mine ↦ elim (cases_Bool (d == device)) [
      | inr other ↦ ap (λ k. held k d e) (equal o owner mine) ∙ (rw (mine, other) at is)
      | inl here ↦ absurd (let e : ◌≡◌ {A = Option ℕ} None (Some count) = rw (mine, here, early) at is in cc)
    ]
  ]
]

-- what was there is there still, or it went
pub went : (held : ℕ → ℕ → ℕ → Option ℕ) (owner device day o d e count : ℕ) → held o d e ≡ Some count → (put2 held owner device (stated_from day (held owner device)) o d e ≡ Some count) ⊎ ((o ≡ owner) × (d ≡ device) × (e < day))
went held owner device day o d e count is = elim (cases_Bool (nat_lt e day)) [
  | inr late ↦ inl (stays held owner device day o d e late ∙ is)
  | inl early ↦ elim (cases_Bool (o == owner)) [
    | inr other ↦ inl (rw other is)
    | inl mine ↦ elim (cases_Bool (d == device)) [
      | inr other ↦ inl (rw (mine, other) (ap (λ k. held k d e) (sym (equal o owner mine)) ∙ is))
      | inl here ↦ inr (equal o owner mine, equal d device here, let less : e < day = grind (arith, nat_tests) in less)
    ]
  ]
]

pub untold_agrees : (sc : SchemeValue) (lists : ℕ → List RecordValue) (h : StoresValue) (owner device day : ℕ) → Agrees sc lists h → Agrees sc lists (record h { outbox = without_statements owner device day h.outbox })
untold_agrees sc lists h owner device day is = record {
  lanes = is.lanes;
  stated = λ o d. record { counted = λ e count held. (is.stated o d).counted e count (was h.outbox.stated owner device day o d e count held) };
  untaken = is.untaken;
  waiting = is.waiting;
}

pub untold_asked : (x : OutboxValue) (owner device day from : ℕ) (next : Option StatementValue) → day ≤ from → IsNextStatement x.stated owner device from next → IsNextStatement (without_statements owner device day x).stated owner device from next
untold_asked x owner device day from None low none = λ e behind. stays x.stated owner device day owner device e (grind (arith, nat_tests)) ∙ none e behind
untold_asked x owner device day from (Some s) low it =
    let late : nat_lt s.day day ≡ false = let b = it.not_before in grind (arith, nat_tests) in
    record {
      of_owner = it.of_owner;
      of_device = it.of_device;
      not_before = it.not_before;
      is_held = stays x.stated owner device day owner device s.day late ∙ it.is_held;
      least = λ e behind before. stays x.stated owner device day owner device e (grind (arith, nat_tests)) ∙ it.least e behind before;
    }
