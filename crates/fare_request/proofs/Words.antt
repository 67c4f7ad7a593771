-- The words of a query, which are read in one way at most.
use Rattle.std.proofs.Common.{◌≡◌, ℕ, zero, suc, List, [], ◌∷◌, ◌++◌, Bool, true, false, nat_eq, refl, sym, ap, subst, ◌∙◌, codes, arith}
use Rattle.std.proofs.lemmas.Bool.{eqb-true}
use Rattle.std.proofs.lemmas.List.{append_cancel_left}
use Rattle.std.proofs.lemmas.Str.Parse.{digit_at, without_leading_plus_none, without_leading_plus_plus}
use Rattle.std.specs.Str.Parse.{AllDigits}
use Rattle.std.specs.Str.Pattern.{FindsTextPrefix, StripsPrefix}
use Rattle.fare_request.specs.Asking.{HasNoAnd, IsNumber, IsOwnerWith, SaysBoth}

-- a text is cut at its first `&` in one way
pub one_cut : (xs ys us vs : List ℕ) → xs ++ (38 ∷ ys) ≡ us ++ (38 ∷ vs) → HasNoAnd xs → HasNoAnd us → (xs ≡ us) × (ys ≡ vs)
one_cut [] ys [] vs same a b = (refl, cc)
one_cut [] ys (u ∷ us) vs same a b = absurd (b 0 (omega arith) (cc))
one_cut (x ∷ xs) ys [] vs same a b = absurd (a 0 (omega arith) (cc))
one_cut (x ∷ xs) ys (u ∷ us) vs same a b =
    let first : x ≡ u = cc in
    let rest = one_cut xs ys us vs (cc) (λ i l. a (suc i) (omega (arith, l))) (λ i l. b (suc i) (omega (arith, l))) in (
      λ k. first k ∷ rest.0 k,
      rest.1,
    )

-- the text of a number has none
pub no_and : (text : List ℕ) (n : ℕ) → IsNumber text n → HasNoAnd text
no_and [] n is = λ i inside same. absurd (omega (arith, inside))
no_and (c ∷ cs) n is = by (nat_eq c 43) refl
  where
    plain : nat_eq c 43 ≡ false → AllDigits 10 (c ∷ cs)
    plain other = subst (AllDigits 10) (without_leading_plus_none (c ∷ cs) (λ e. (let both : nat_eq c 43 ≡ true = ap (λ z. nat_eq z 43) e in absurd (cc)))) is.0.0.1

    behind : nat_eq c 43 ≡ true → AllDigits 10 cs
    behind plus = subst (AllDigits 10) (without_leading_plus_plus (c ∷ cs) (eqb-true c 43 plus)) is.0.0.1

    signed : nat_eq c 43 ≡ true → HasNoAnd (c ∷ cs)
    signed plus zero inside same = omega (arith, eqb-true c 43 plus, same)
    signed plus (suc j) inside same = omega (arith, digit_at cs j (behind plus) (omega (arith, inside)), same)

    by : (b : Bool) → nat_eq c 43 ≡ b → HasNoAnd (c ∷ cs)
    by true plus = signed plus
    by false other = λ i inside same. omega (arith, digit_at (c ∷ cs) i (plain other) inside, same)

-- what stands behind a key that was cut off
pub cut_off : (key text rest : List ℕ) → StripsPrefix (FindsTextPrefix key) text rest → text ≡ key ++ rest
cut_off key text rest h = h.1.1 ∙ ap (λ (l : List ℕ). key ++ l) (sym h.2)

-- behind `owner=`
pub behind_owner : (query rest key first second : List ℕ) → StripsPrefix (FindsTextPrefix (codes "owner=")) query rest → SaysBoth key query first second → rest ≡ first ++ (38 ∷ (key ++ second))
behind_owner query rest key first second h says = append_cancel_left (codes "owner=") rest (first ++ (38 ∷ (key ++ second))) (sym (cut_off (codes "owner=") query rest h) ∙ says)

-- two texts are those of an owner and a number
pub same_texts : (key query first second : List ℕ) → HasNoAnd first → SaysBoth key query first second → (owner n : ℕ) (w : IsOwnerWith key query owner n) → (w.first ≡ first) × (w.second ≡ second)
same_texts key query first second free says owner n w =
    let cut = one_cut w.first (key ++ w.second) first (key ++ second) (append_cancel_left (codes "owner=") (w.first ++ (38 ∷ (key ++ w.second))) (first ++ (38 ∷ (key ++ second))) (sym w.says ∙ says)) (no_and w.first owner w.owner_is.0) free in (
      cut.0,
      append_cancel_left key w.second second cut.1,
    )

-- so it is one owner and one number
pub one_owner_with : (key query : List ℕ) (owner n other m : ℕ) → IsOwnerWith key query owner n → IsOwnerWith key query other m → (owner ≡ other) × (n ≡ m)
one_owner_with key query owner n other m v w =
    let same = same_texts key query w.first w.second (no_and w.first other w.owner_is.0) w.says owner n v in (
      (subst (λ (t : List ℕ). IsNumber t owner) same.0 v.owner_is.0).1 ∙ sym w.owner_is.0.1,
      (subst (λ (t : List ℕ). IsNumber t n) same.1 v.number_is).1 ∙ sym w.number_is.1,
    )
