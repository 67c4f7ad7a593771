-- A text is cut at its first byte that passes in one way, and a split begins with that cut.
use Rattle.std.proofs.Common.{◌≡◌, ◌≤◌, ◌<◌, ◌-◌, ℕ, List, [], ◌∷◌, ◌++◌, length, get_or, take, drop, Bool, true, false, Option, Some, None, ap, ap₂, sym, subst, refl, arith, ◌∙◌, length-take}
use Rattle.std.specs.Prelude.{slice_get}
use Prim.Native.Nat.{zero, suc}
use Rattle.std.specs.List.{All, AllByRecursion, position, position_or_len, slice_split}
use Rattle.std.proofs.lemmas.List.Quantifiers.{position-Some}
use Rattle.std.proofs.lemmas.List.Sums.{fails_before_first}
use Rattle.std.proofs.lemmas.List.Splits.{slice_split_none, slice_split_at}
use Rattle.std.proofs.lemmas.Grind.{common_steps}
use Rattle.fare_lines.specs.Reading.{CutsAt, BeginsWith}

-- no byte of the text passes
abbrev pub Lacks : (ℕ → Bool) → List ℕ → Type 0
Lacks p text = AllByRecursion (λ b. p b ≡ false) text

pub append_nil : {A : Type 0} (xs : List A) → xs ++ [] ≡ xs
append_nil [] = refl
append_nil (x ∷ xs) = ap (λ t. x ∷ t) (append_nil xs)

-- by index, and back
pub lacks_of_index : (p : ℕ → Bool) (xs : List ℕ) → ((k : ℕ) → k < length xs → p (get_or xs k 0) ≡ false) → Lacks p xs
lacks_of_index p [] at = tt
lacks_of_index p (x ∷ xs) at = (at 0 (omega arith), lacks_of_index p xs (λ k below. at (suc k) (omega arith)))

pub index_of_lacks : (p : ℕ → Bool) (xs : List ℕ) → Lacks p xs → All (λ b. p b ≡ false) xs
index_of_lacks p [] lacks k d below = absurd (omega arith)
index_of_lacks p (x ∷ xs) lacks zero d below = lacks.0
index_of_lacks p (x ∷ xs) lacks (suc k) d below = index_of_lacks p xs lacks.1 k d (omega arith)

pub lacks_append : (p : ℕ → Bool) (xs ys : List ℕ) → Lacks p xs → Lacks p ys → Lacks p (xs ++ ys)
lacks_append p [] ys a b = b
lacks_append p (x ∷ xs) ys a b = (a.0, lacks_append p xs ys a.1 b)

-- THE CUT
begins_of_first : (p : ℕ → Bool) (xs : List ℕ) → (0 < length xs → p (get_or xs 0 0) ≡ true) → BeginsWith p xs
begins_of_first p [] first = tt
begins_of_first p (x ∷ xs) first = first (omega arith)

-- the same of a first byte that was looked for
pub begins_of_some : (p : ℕ → Bool) (xs : List ℕ) (b : ℕ) → ◌≡◌ {A = Option ℕ} (Some b) (slice_get xs 0) → p b ≡ true → BeginsWith p xs
begins_of_some p [] b is passes = tt
begins_of_some p (x ∷ xs) b is passes =
    let same : b ≡ x = cc in subst (λ z. p z ≡ true) same passes

pub begins_of_none : (p : ℕ → Bool) (xs : List ℕ) → ◌≡◌ {A = Option ℕ} None (slice_get xs 0) → BeginsWith p xs
begins_of_none p [] is = tt
begins_of_none p (x ∷ xs) is = absurd (cc)

halves : (i : ℕ) (xs : List ℕ) → xs ≡ take i xs ++ drop i xs
halves i xs = grind (arith, common_steps)

get_in_front : (i k : ℕ) (xs : List ℕ) → k < i → get_or (take i xs) k 0 ≡ get_or xs k 0
get_in_front i k xs below = grind (arith, common_steps)

pub first_of_front : (i : ℕ) (xs : List ℕ) → 0 < i → get_or (take i xs) 0 0 ≡ get_or xs 0 0
first_of_front i xs some = get_in_front i 0 xs some

-- in the words of a slice `[i..]`
pub whole_rest : (i : ℕ) (xs : List ℕ) → take (length xs - i) (drop i xs) ≡ drop i xs
whole_rest i xs = grind (arith, common_steps)

get_at_cut : (i : ℕ) (xs : List ℕ) → get_or (drop i xs) 0 0 ≡ get_or xs i 0
get_at_cut i xs = grind (arith, common_steps)

pub cuts_at_some : (p : ℕ → Bool) (xs : List ℕ) (i : ℕ) → position p xs ≡ Some i → CutsAt p xs (take i xs) (drop i xs)
cuts_at_some p xs i is =
    let found = position-Some p xs i 0 is in
    record {
      is = halves i xs;
      lacks = lacks_of_index p (take i xs) (λ k below.
          let early : k < i = omega (arith, length-take i xs) in
          rw (get_in_front i k xs early) (found.2 k early));
      begins = begins_of_first p (drop i xs) (λ _. rw (get_at_cut i xs) found.1);
    }

none_passes : (p : ℕ → Bool) (xs : List ℕ) → position p xs ≡ None → length xs ≤ position_or_len p xs
none_passes p xs is = grind (arith, common_steps)

pub cuts_at_none : (p : ℕ → Bool) (xs : List ℕ) → position p xs ≡ None → CutsAt p xs xs []
cuts_at_none p xs is = record {
  is = sym (append_nil xs);
  lacks = lacks_of_index p xs (λ k below. fails_before_first p xs k 0 (omega (arith, none_passes p xs is)));
  begins = tt;
}

pub one_cut : (p : ℕ → Bool) (a b x y : List ℕ) → Lacks p a → Lacks p b → BeginsWith p x → BeginsWith p y → a ++ x ≡ b ++ y → (a ≡ b) × (x ≡ y)
one_cut p [] [] x y la lb bx by e = (refl, e)
one_cut p [] (b ∷ bs) [] y la lb bx by e = absurd (cc)
one_cut p [] (b ∷ bs) (x ∷ xs) y la lb bx by e =
    let same : x ≡ b = cc in
    let apart : true ≡ false = sym bx ∙ ap p same ∙ lb.0 in absurd (cc)
one_cut p (a ∷ as') [] x [] la lb bx by e = absurd (cc)
one_cut p (a ∷ as') [] x (y ∷ ys) la lb bx by e =
    let same : a ≡ y = cc in
    let apart : true ≡ false = sym by ∙ ap p (sym same) ∙ la.0 in absurd (cc)
one_cut p (a ∷ as') (b ∷ bs) x y la lb bx by e =
    let tails : as' ++ x ≡ bs ++ y = cc in
    let heads : a ≡ b = cc in
    let cut = one_cut p as' bs x y la.1 lb.1 bx by tails in
    (ap₂ (λ h t. h ∷ t) heads cut.0, cut.1)

-- a text is cut in one way, and in some
pub same_cut : (p : ℕ → Bool) (text a b x y : List ℕ) → CutsAt p text a x → CutsAt p text b y → (a ≡ b) × (x ≡ y)
same_cut p text a b x y one other = one_cut p a b x y one.lacks other.lacks one.begins other.begins (sym one.is ∙ other.is)

pub front_cut : (p : ℕ → Bool) (xs : List ℕ) (i : ℕ) → Lacks p (take i xs) → BeginsWith p (drop i xs) → CutsAt p xs (take i xs) (drop i xs)
front_cut p xs i lacks begins = record { is = halves i xs; lacks = lacks; begins = begins }

pub first_line : (p : ℕ → Bool) (text : List ℕ) → (line : List ℕ) × (rest : List ℕ) × CutsAt p text line rest
first_line p text = elim (position p text) as (λ found. position p text ≡ found → (line : List ℕ) × (rest : List ℕ) × CutsAt p text line rest) [
  | Some i ↦ λ is. (take i text, drop i text, cuts_at_some p text i is)
  | None ↦ λ is. (text, [], cuts_at_none p text is)
] refl

-- SPLITS
split_end_of : (p : ℕ → Bool) (text front rest : List ℕ) → CutsAt p text front rest → rest ≡ [] → slice_split p text ≡ front ∷ []
split_end_of p text front rest cut none =
    let is : text ≡ front = cut.is ∙ ap (λ r. front ++ r) none ∙ append_nil front in
    ap (slice_split p) is ∙ slice_split_none p front (index_of_lacks p front cut.lacks)

split_on : (p : ℕ → Bool) (text front rest : List ℕ) (b : ℕ) (next : List ℕ) → CutsAt p text front rest → rest ≡ b ∷ next → slice_split p text ≡ front ∷ slice_split p next
split_on p text front rest b next cut more =
    let is : text ≡ front ++ (b ∷ next) = cut.is ∙ ap (λ r. front ++ r) more in
    let passes : p b ≡ true = subst (BeginsWith p) more cut.begins in
    ap (slice_split p) is ∙ slice_split_at p front b next (index_of_lacks p front cut.lacks) passes

pub after_first : (b : ℕ) (bs : List ℕ) → take (length (b ∷ bs) - 1) (drop 1 (b ∷ bs)) ≡ bs
after_first b bs = grind (arith, common_steps)

-- the parts, in the words of a slice pattern `[_, next @ ..]`
pub split_next : (p : ℕ → Bool) (text front rest : List ℕ) → CutsAt p text front rest → 1 ≤ length rest → slice_split p text ≡ front ∷ slice_split p (take (length rest - 1) (drop 1 rest))
split_next p text front [] cut some = absurd (omega arith)
split_next p text front (b ∷ bs) cut some = split_on p text front (b ∷ bs) b bs cut refl ∙ ap (λ t. front ∷ slice_split p t) (sym (after_first b bs))

pub split_last : (p : ℕ → Bool) (text front rest : List ℕ) → CutsAt p text front rest → length rest < 1 → slice_split p text ≡ front ∷ []
split_last p text front [] cut none = split_end_of p text front [] cut refl
split_last p text front (b ∷ bs) cut none = absurd (omega arith)
