-- Lists whose members have an owner, a device and a number, as tables by these three.
use Rattle.std.proofs.Common.{◌≡◌, inl, inr, ℕ, ◌==◌, ◌&&◌, ◌<◌, ◌≤◌, if◌then◌else◌, Bool, true, false, List, [], ◌∷◌, ◌++◌, filter, Some, None, refl, sym, ap, subst, ◌∙◌, arith}
use Rattle.std.specs.List.{AllByRecursion}
use Rattle.std.proofs.lemmas.Bool.{cases_Bool}
use Rattle.std.proofs.lemmas.Bool.Decides.{nat_tests}
use Rattle.sqlite_rules.specs.Lists.{Has}
use Rattle.fare_store.specs.Tables.{put3}
use Rattle.fare_tables.proofs.Lists.{member, all_pushed, all_in_filter}
use Rattle.fare_outbox.specs.Words.{Key, is_at, first_at, AreApart}

pub turned : (a b : ℕ) → (a == b) ≡ (b == a)
turned a b = grind (arith, nat_tests)

-- a member of an owner's lane of a device whose number passes a test
abbrev pub is_among : {T : Type 0} → (T → Key) → ℕ → ℕ → (ℕ → Bool) → T → Bool
is_among key o d counts t = ((key t).0 == o) && ((key t).1 == d) && counts (key t).2

-- what stands at a key after a put
pub put_at : {A : Type 0} (table : ℕ → ℕ → ℕ → A) (a b c o d n : ℕ) (v : A) → (if (a == o) && (b == d) && (c == n) then v else table o d n) ≡ put3 table a b c v o d n
put_at table a b c o d n v = rw (turned a o, turned b d, turned c n) (elim (cases_Bool (o == a)) [
  | inr x ↦ rw x refl
  | inl x ↦ (let at : o ≡ a = grind (arith, nat_tests) in
      elim (cases_Bool (d == b)) [
        | inr y ↦ rw (x, y) (ap (λ k. table k d n) at)
        | inl y ↦ (let beside : d ≡ b = grind (arith, nat_tests) in
            elim (cases_Bool (n == c)) [
              | inr z ↦ rw (x, y, z) (ap (λ k. table k d n) at ∙ ap (λ k. table a k n) beside)
              | inl z ↦ rw (x, y, z) refl
            ])
      ])
])

module _ {T V : Type 0} (key : T → Key) (out : T → V) where
  -- one more, with a key that no member has
  pub pushed : (ts : List T) (t : T) (o d n : ℕ) → first_at key out ts (key t).0 (key t).1 (key t).2 ≡ None → first_at key out (ts ++ t ∷ []) o d n ≡ (if is_at key o d n t then Some (out t) else first_at key out ts o d n)
  pushed [] t o d n none = refl
  pushed (x ∷ ts) t o d n none = elim (cases_Bool (is_at key (key t).0 (key t).1 (key t).2 x)) [
    | inl same ↦ absurd (let e : Some (out x) ≡ None = rw same at none in cc)
    | inr other ↦ (
        let rest : first_at key out ts (key t).0 (key t).1 (key t).2 ≡ None = rw other at none in
        let more = pushed ts t o d n rest in
        elim (cases_Bool (is_at key o d n x)) [
          | inl here ↦ (let away : is_at key o d n t ≡ false = grind (arith, nat_tests) in rw (here, away) refl)
          | inr there ↦ rw there more
        ])
  ]

  pub apart_pushed : (ts : List T) (t : T) → AreApart key ts → first_at key out ts (key t).0 (key t).1 (key t).2 ≡ None → AreApart key (ts ++ t ∷ [])
  apart_pushed [] t apart none = (tt, tt)
  apart_pushed (x ∷ ts) t apart none = elim (cases_Bool (is_at key (key t).0 (key t).1 (key t).2 x)) [
    | inl same ↦ absurd (let e : Some (out x) ≡ None = rw same at none in cc)
    | inr other ↦ (
        let away : is_at key (key x).0 (key x).1 (key x).2 t ≡ false = grind (arith, nat_tests) in
        (all_pushed (λ y. is_at key (key x).0 (key x).1 (key x).2 y ≡ false) ts t apart.0 away, apart_pushed ts t apart.1 (rw other at none)))
  ]

  own_key : (t : T) → is_at key (key t).0 (key t).1 (key t).2 t ≡ true
  own_key t = grind (arith, nat_tests)

  -- a member stands at its own key
  pub stands_at : (ts : List T) (t : T) → AreApart key ts → Has ts t → first_at key out ts (key t).0 (key t).1 (key t).2 ≡ Some (out t)
  stands_at [] t apart has = absurd has
  stands_at (x ∷ ts) t apart (inl same) = subst (λ y. first_at key out (x ∷ ts) (key y).0 (key y).1 (key y).2 ≡ Some (out y)) (sym same) (rw (own_key x) refl)
  stands_at (x ∷ ts) t apart (inr more) =
      let away : is_at key (key x).0 (key x).1 (key x).2 t ≡ false = member (λ y. is_at key (key x).0 (key x).1 (key x).2 y ≡ false) ts t apart.0 more in
      let other : is_at key (key t).0 (key t).1 (key t).2 x ≡ false = grind (arith, nat_tests) in
      rw other (stands_at ts t apart.1 more)

  -- where all that count have a number of at least so much, there is none below
  pub none_below : (ts : List T) (o d : ℕ) (counts : ℕ → Bool) (n k : ℕ) → AllByRecursion (λ x. n ≤ (key x).2) (filter (is_among key o d counts) ts) → counts k ≡ true → k < n → first_at key out ts o d k ≡ None
  none_below [] o d counts n k all is below = refl
  none_below (x ∷ ts) o d counts n k all is below = elim (cases_Bool (is_at key o d k x)) [
    | inl same ↦ (
        let number : (key x).2 ≡ k = grind (arith, nat_tests) in
        let among : is_among key o d counts x ≡ true = let yes : counts (key x).2 ≡ true = ap counts number ∙ is in grind (arith, nat_tests) in
        let here : AllByRecursion (λ y. n ≤ (key y).2) (x ∷ filter (is_among key o d counts) ts) = rw among at all in
        absurd (let low = here.0 in omega (arith, low, number, below)))
    | inr other ↦ rw other (elim (cases_Bool (is_among key o d counts x)) [
      | inl among ↦ none_below ts o d counts n k (let here : AllByRecursion (λ y. n ≤ (key y).2) (x ∷ filter (is_among key o d counts) ts) = rw among at all in here.1) is below
      | inr not ↦ none_below ts o d counts n k (let here : AllByRecursion (λ y. n ≤ (key y).2) (filter (is_among key o d counts) ts) = rw not at all in here) is below
    ])
  ]

  pub apart_filter : (p : T → Bool) (ts : List T) → AreApart key ts → AreApart key (filter p ts)
  apart_filter p [] apart = tt
  apart_filter p (x ∷ ts) apart = elim (cases_Bool (p x)) [
    | inl kept ↦ rw kept (all_in_filter (λ y. is_at key (key x).0 (key x).1 (key x).2 y ≡ false) p ts apart.0, apart_filter p ts apart.1)
    | inr left ↦ rw left (apart_filter p ts apart.1)
  ]

  -- an empty table is one of an empty list
  pub nothing_at : (ts : List T) → ((o d n : ℕ) → first_at key out ts o d n ≡ None) → ts ≡ []
  nothing_at [] none = refl
  nothing_at (t ∷ ts) none = absurd (let e : Some (out t) ≡ None = rw (own_key t) at (none (key t).0 (key t).1 (key t).2) in cc)
