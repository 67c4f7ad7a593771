-- The stated counts, and what a statement more makes of them.
use Rattle.std.proofs.Common.{◌≡◌, inl, inr, ℕ, ◌==◌, ◌&&◌, if◌then◌else◌, true, false, List, [], ◌∷◌, ◌++◌, Option, Some, None, refl, sym, ap, ◌∙◌, arith}
use Rattle.std.proofs.lemmas.Bool.{cases_Bool}
use Rattle.std.proofs.lemmas.Bool.Decides.{nat_tests}
use Rattle.fare_store.specs.Tables.{put2}
use Rattle.fare_tables.proofs.Lists.{all_pushed}
use Rattle.fare_ledger.specs.Held.{StatedRow, is_of, stated_in}
use Rattle.fare_ledger.specs.Words.{AreApart}

pub stated_pushed : (all : List StatedRow) (s : StatedRow) (d y : ℕ) → stated_in all s.device s.day ≡ None → stated_in (all ++ s ∷ []) d y ≡ (if is_of d y s then Some s.count else stated_in all d y)
stated_pushed [] s d y none = refl
stated_pushed (x ∷ all) s d y none = elim (cases_Bool (is_of s.device s.day x)) [
  | inl same ↦ absurd (let e : Some x.count ≡ None = rw same at none in cc)
  | inr other ↦ (
      let rest : stated_in all s.device s.day ≡ None = rw other at none in
      elim (cases_Bool (is_of d y x)) [
        | inl here ↦ (let away : is_of d y s ≡ false = grind (arith, nat_tests) in rw (here, away) refl)
        | inr there ↦ rw there (stated_pushed all s d y rest)
      ])
]

pub apart_pushed : (all : List StatedRow) (s : StatedRow) → AreApart all → stated_in all s.device s.day ≡ None → AreApart (all ++ s ∷ [])
apart_pushed [] s apart none = (tt, tt)
apart_pushed (x ∷ all) s apart none = elim (cases_Bool (is_of s.device s.day x)) [
  | inl same ↦ absurd (let e : Some x.count ≡ None = rw same at none in cc)
  | inr other ↦ (
      let away : is_of x.device x.day s ≡ false = grind (arith, nat_tests) in
      (all_pushed (λ y. is_of x.device x.day y ≡ false) all s apart.0 away, apart_pushed all s apart.1 (rw other at none)))
]

turned : (a b : ℕ) → (a == b) ≡ (b == a)
turned a b = grind (arith, nat_tests)

-- what stands at a device and a day after a put
put_at : (table : ℕ → ℕ → Option ℕ) (a b d y : ℕ) (v : Option ℕ) → (if (a == d) && (b == y) then v else table d y) ≡ put2 table a b v d y
put_at table a b d y v = rw (turned a d, turned b y) (elim (cases_Bool (d == a)) [
  | inr x ↦ rw x refl
  | inl x ↦ (let at : d ≡ a = grind (arith, nat_tests) in
      elim (cases_Bool (y == b)) [
        | inr z ↦ rw (x, z) (ap (λ k. table k y) at)
        | inl z ↦ rw (x, z) refl
      ])
])

pub stated_put : (all : List StatedRow) (s : StatedRow) (d y : ℕ) → stated_in all s.device s.day ≡ None → stated_in (all ++ s ∷ []) d y ≡ put2 (stated_in all) s.device s.day (Some s.count) d y
stated_put all s d y none = stated_pushed all s d y none ∙ put_at (stated_in all) s.device s.day d y (Some s.count)

-- a day that is stated stays so
pub stays_stated : (all : List StatedRow) (s : StatedRow) (d y n : ℕ) → stated_in all s.device s.day ≡ None → stated_in all d y ≡ Some n → stated_in (all ++ s ∷ []) d y ≡ Some n
stays_stated all s d y n none is = stated_pushed all s d y none ∙ elim (cases_Bool (is_of d y s)) [
  | inl same ↦ absurd (
      let device : s.device ≡ d = grind (arith, nat_tests) in
      let day : s.day ≡ y = grind (arith, nat_tests) in
      let e : ◌≡◌ {A = Option ℕ} None (Some n) = sym none ∙ (λ i. stated_in all (device i) (day i)) ∙ is in cc)
  | inr other ↦ rw other is
]

-- where no day is stated there is no statement
own : (s : StatedRow) → is_of s.device s.day s ≡ true
own s = grind (arith, nat_tests)

pub none_stated : (all : List StatedRow) → ((d y : ℕ) → stated_in all d y ≡ None) → all ≡ []
none_stated [] none = refl
none_stated (s ∷ all) none = absurd (let e : Some s.count ≡ None = rw (own s) at (none s.device s.day) in cc)
