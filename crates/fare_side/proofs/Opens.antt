-- The first device whose day is open, and those of which the day is short, by the last closed day of each and by whether its lane is retired.
use Rattle.std.proofs.Common.{◌≡◌, ℕ, zero, suc, ◌+◌, ◌-◌, ◌≤◌, Bool, true, false, List, [], ◌∷◌, ◌++◌, length, drop, Some, None, refl, sym, ap, ◌∙◌, arith, append_assoc}
use Rattle.std.specs.Prelude.{◌==◌, ◌&&◌, ◌||◌, not, Option, slice_get, if◌then◌else◌}
use Rattle.std.proofs.lemmas.List.{append-nil}
use Rattle.std.proofs.lemmas.Bool.Decides.{nat_tests}
use Rattle.fare_scheme.specs.declared.entry.Placement.{Placement}
use Rattle.fare_scheme.specs.Words.{id_at}
use Rattle.fare_store.specs.LedgerWords.{LedgerValue, closed_through}
use Rattle.fare_side.specs.OpenDays.{is_closed, reaches, first_open, short_devices}
use Rattle.fare_store.proofs.Entries.{if_all}

-- a day is closed where the last closed day is that day or a later one
pub closed_by : (v : LedgerValue) (device day : ℕ) → v.start ≤ day → reaches (closed_through v device) day ≡ is_closed v.start (v.closed device) day
closed_by v device day first =
    if_all (v.closed device == 0) (λ (o : Option ℕ). reaches o day ≡ is_closed v.start (v.closed device) day) None (Some (v.start + v.closed device - 1))
    (λ none. grind (arith, nat_tests)) (λ some. grind (arith, nat_tests))

-- ONE DEVICE AFTER THE OTHER
placed : (ds : List (ℕ × Placement)) (k device : ℕ) → id_at ds k ≡ Some device → (e : ℕ × Placement) × (slice_get ds k ≡ Some e) × (e.0 ≡ device)
placed [] k device at = absurd (cc)
placed (d ∷ ds) zero device at = let same : d.0 ≡ device = cc in (d, refl, same)
placed (d ∷ ds) (suc k) device at = placed ds k device at

from_here : (ds : List (ℕ × Placement)) (k : ℕ) (e : ℕ × Placement) → slice_get ds k ≡ Some e → drop k ds ≡ e ∷ drop (suc k) ds
from_here [] k e at = absurd (cc)
from_here (d ∷ ds) zero e at = let same : d ≡ e = cc in ap (λ (x : ℕ × Placement). x ∷ ds) same
from_here (d ∷ ds) (suc k) e at = from_here ds k e at

module _ (start : ℕ) (closed : ℕ → ℕ) (retired : ℕ → Bool) (day : ℕ) (ds : List (ℕ × Placement)) where
  abbrev open_in : List (ℕ × Placement) → Option ℕ
  open_in xs = first_open start closed retired day xs

  -- those before a place are closed, or their lanes retired
  abbrev pub ArePassedBefore : ℕ → Type 0
  ArePassedBefore k = open_in ds ≡ open_in (drop k ds)

  here : (k device : ℕ) → id_at ds k ≡ Some device → open_in (drop k ds) ≡ (if is_closed start (closed device) day || retired device then open_in (drop (k + 1) ds) else Some device)
  here k device at =
      let e = placed ds k device at in
      let next : suc k ≡ k + 1 = omega arith in
      ap open_in (from_here ds k e.0 e.1)
      ∙ (λ i. if is_closed start (closed (e.2 i)) day || retired (e.2 i) then open_in (drop (next i) ds) else Some (e.2 i))

  pub one_passed : (k device : ℕ) → id_at ds k ≡ Some device → ArePassedBefore k → (is_closed start (closed device) day || retired device) ≡ true → ArePassedBefore (k + 1)
  one_passed k device at before is = before ∙ here k device at ∙ ap (λ t. if t then open_in (drop (k + 1) ds) else Some device) is

  pub one_open : (k device : ℕ) → id_at ds k ≡ Some device → ArePassedBefore k → (is_closed start (closed device) day || retired device) ≡ false → Some device ≡ open_in ds
  one_open k device at before is = sym (before ∙ here k device at ∙ ap (λ t. if t then open_in (drop (k + 1) ds) else Some device) is)

  past : (xs : List (ℕ × Placement)) (n : ℕ) → length xs ≤ n → drop n xs ≡ []
  past [] zero l = refl
  past [] (suc n) l = refl
  past (x ∷ xs) zero l = absurd (omega (arith, l))
  past (x ∷ xs) (suc n) l = past xs n (omega (arith, l))

  pub none_open : (k : ℕ) → ArePassedBefore k → length ds ≤ k → None ≡ open_in ds
  none_open k before le = sym (before ∙ ap open_in (past ds k le))

  -- THE DEVICES OF WHICH THE DAY IS SHORT
  abbrev short_in : List (ℕ × Placement) → List ℕ
  short_in xs = short_devices start closed retired day xs

  -- these are those before a place
  abbrev pub AreShortBefore : ℕ → List ℕ → Type 0
  AreShortBefore k short = short_in ds ≡ short ++ short_in (drop k ds)

  short_here : (k device : ℕ) → id_at ds k ≡ Some device → short_in (drop k ds) ≡ (if retired device && not (is_closed start (closed device) day) then device ∷ short_in (drop (k + 1) ds) else short_in (drop (k + 1) ds))
  short_here k device at =
      let e = placed ds k device at in
      let next : suc k ≡ k + 1 = omega arith in
      ap short_in (from_here ds k e.0 e.1)
      ∙ (λ i. if retired (e.2 i) && not (is_closed start (closed (e.2 i)) day) then e.2 i ∷ short_in (drop (next i) ds) else short_in (drop (next i) ds))

  pub one_short : (k device : ℕ) (short : List ℕ) → id_at ds k ≡ Some device → AreShortBefore k short → (retired device && not (is_closed start (closed device) day)) ≡ true → AreShortBefore (k + 1) (short ++ device ∷ [])
  one_short k device short at before is =
      before ∙ ap (λ l. short ++ l) (short_here k device at ∙ ap (λ t. if t then device ∷ short_in (drop (k + 1) ds) else short_in (drop (k + 1) ds)) is)
      ∙ sym (append_assoc short (device ∷ []) (short_in (drop (k + 1) ds)))

  pub one_whole : (k device : ℕ) (short : List ℕ) → id_at ds k ≡ Some device → AreShortBefore k short → (retired device && not (is_closed start (closed device) day)) ≡ false → AreShortBefore (k + 1) short
  one_whole k device short at before is = before ∙ ap (λ l. short ++ l) (short_here k device at ∙ ap (λ t. if t then device ∷ short_in (drop (k + 1) ds) else short_in (drop (k + 1) ds)) is)

  pub all_short : (k : ℕ) (short : List ℕ) → AreShortBefore k short → length ds ≤ k → short ≡ short_in ds
  all_short k short before le = sym (before ∙ ap (λ xs. short ++ short_in xs) (past ds k le) ∙ append-nil short)
