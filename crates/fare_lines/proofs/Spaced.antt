-- Numbers that were read so far, each with a space behind it, and the rest of their line.
use Rattle.std.proofs.Common.{◌≡◌, ◌<◌, ◌^◌, ◌==◌, ◌||◌, ℕ, List, [], ◌∷◌, ◌++◌, length, Bool, true, false, ap, sym, subst, refl, arith, ◌∙◌, append_assoc}
use Rattle.std.specs.List.{AllByRecursion}
use Rattle.std.specs.Fmt.{decimal}
use Rattle.std.proofs.lemmas.Bool.{eqb-true}
use Rattle.fare_lines.specs.Grammar.{numbers_text}
use Rattle.fare_lines.specs.Reading.{BeginsWith, BeginsWithNumbers, CutsAt, OfFirstLine, SpellsNoNumbers, is_feed, is_no_digit}
use Rattle.fare_lines.proofs.Cuts.{one_cut}
use Rattle.fare_lines.proofs.Numbers.{IsU64, decimal_lacks_other}
use Rattle.fare_lines.proofs.Feeds.{numbers_lack_feed}

abbrev pub spaced : List ℕ → List ℕ
spaced [] = []
spaced (n ∷ ns) = decimal n ++ (32 ∷ spaced ns)

-- one more, with a space behind it
pub spaced_next : (ns : List ℕ) (n : ℕ) (rest : List ℕ) → spaced ns ++ (decimal n ++ (32 ∷ rest)) ≡ spaced (ns ++ n ∷ []) ++ rest
spaced_next [] n rest = sym (append_assoc (decimal n) (32 ∷ []) rest)
spaced_next (m ∷ ms) n rest =
    append_assoc (decimal m) (32 ∷ spaced ms) (decimal n ++ (32 ∷ rest))
    ∙ ap (λ t. decimal m ++ (32 ∷ t)) (spaced_next ms n rest)
    ∙ sym (append_assoc (decimal m) (32 ∷ spaced (ms ++ n ∷ [])) rest)

-- the last one
pub spaced_last : (ns : List ℕ) (n : ℕ) (rest : List ℕ) → spaced ns ++ (decimal n ++ rest) ≡ numbers_text (ns ++ n ∷ []) ++ rest
spaced_last [] n rest = refl
spaced_last (m ∷ []) n rest =
    append_assoc (decimal m) (32 ∷ []) (decimal n ++ rest) ∙ sym (append_assoc (decimal m) (32 ∷ decimal n) rest)
spaced_last (m ∷ k ∷ ks) n rest =
    append_assoc (decimal m) (32 ∷ spaced (k ∷ ks)) (decimal n ++ rest)
    ∙ ap (λ t. decimal m ++ (32 ∷ t)) (spaced_last (k ∷ ks) n rest)
    ∙ sym (append_assoc (decimal m) (32 ∷ numbers_text ((k ∷ ks) ++ n ∷ [])) rest)

-- a feed, a space
feed_is : (b : ℕ) → is_feed b ≡ true → b ≡ 10
feed_is b e = eqb-true b 10 e

pub feed_is_no_digit : (back : List ℕ) → BeginsWith is_feed back → BeginsWith is_no_digit back
feed_is_no_digit [] begins = tt
feed_is_no_digit (b ∷ bs) begins = subst (λ c. is_no_digit c ≡ true) (sym (feed_is b begins)) refl

-- what may follow a number in its line
abbrev pub ends_number : ℕ → Bool
ends_number b = is_feed b || b == 32

feed_ends_number : (back : List ℕ) → BeginsWith is_feed back → BeginsWith ends_number back
feed_ends_number [] begins = tt
feed_ends_number (b ∷ bs) begins = ap (λ v. v || b == 32) begins

pub space_or_feed : (after : List ℕ) → (BeginsWith is_feed after → ⊥) → ((rest : List ℕ) → after ≡ 32 ∷ rest → ⊥) → BeginsWith ends_number after → ⊥
space_or_feed [] feed space ends = feed tt
space_or_feed (b ∷ bs) feed space ends = elim (is_feed b) as (λ v. is_feed b ≡ v → (v || b == 32) ≡ true → ⊥) [
  | true ↦ λ is e. feed is
  | false ↦ λ is e. space bs (ap (λ c. c ∷ bs) (eqb-true b 32 e))
] refl ends

no_space_feed : (xs back : List ℕ) → BeginsWith is_feed back → 32 ∷ xs ≡ back → ⊥
no_space_feed xs [] begins e = absurd (cc)
no_space_feed xs (b ∷ bs) begins e =
    let space : 32 ≡ b = cc in
    let ten = feed_is b begins in
    absurd (omega (arith, space, ten))

-- Where the numbers so far and a rest are the text of a line's numbers, the rest begins with one of these.
pub record IsNumber (rest : List ℕ) : Type 0 where
  pub number : ℕ
  pub small : IsU64 number
  pub back : List ℕ
  pub is : rest ≡ decimal number ++ back
  pub begins : BeginsWith is_no_digit back
  pub ends : BeginsWith ends_number back

first_number : (ms back : List ℕ) → AllByRecursion IsU64 ms → 0 < length ms → BeginsWith is_feed back → IsNumber (numbers_text ms ++ back)
first_number [] back all some begins = absurd (omega arith)
first_number (m ∷ []) back all some begins = record {
  number = m;
  small = all.0;
  back = back;
  is = refl;
  begins = feed_is_no_digit back begins;
  ends = feed_ends_number back begins;
}
first_number (m ∷ k ∷ ms) back all some begins = record {
  number = m;
  small = all.0;
  back = 32 ∷ (numbers_text (k ∷ ms) ++ back);
  is = append_assoc (decimal m) (32 ∷ numbers_text (k ∷ ms)) back;
  begins = refl;
  ends = refl;
}

next_number : (ns ms rest back : List ℕ) → AllByRecursion IsU64 ns → AllByRecursion IsU64 ms → 0 < length ms → BeginsWith is_feed back → spaced ns ++ rest ≡ numbers_text ms ++ back → IsNumber rest
next_number [] ms rest back read all some begins e = subst IsNumber (sym e) (first_number ms back all some begins)
next_number (n ∷ ns) [] rest back read all some begins e = absurd (omega arith)
next_number (n ∷ ns) (m ∷ []) rest back read all some begins e =
    let own : decimal n ++ (32 ∷ (spaced ns ++ rest)) ≡ decimal m ++ back = sym (append_assoc (decimal n) (32 ∷ spaced ns) rest) ∙ e in
    let tails = one_cut is_no_digit (decimal n) (decimal m) (32 ∷ (spaced ns ++ rest)) back (decimal_lacks_other n read.0) (decimal_lacks_other m all.0) refl (feed_is_no_digit back begins) own in
    absurd (no_space_feed (spaced ns ++ rest) back begins tails.1)
next_number (n ∷ ns) (m ∷ k ∷ ms) rest back read all some begins e =
    let own : decimal n ++ (32 ∷ (spaced ns ++ rest)) ≡ decimal m ++ (32 ∷ (numbers_text (k ∷ ms) ++ back)) = sym (append_assoc (decimal n) (32 ∷ spaced ns) rest) ∙ e ∙ append_assoc (decimal m) (32 ∷ numbers_text (k ∷ ms)) back in
    let tails = one_cut is_no_digit (decimal n) (decimal m) (32 ∷ (spaced ns ++ rest)) (32 ∷ (numbers_text (k ∷ ms) ++ back)) (decimal_lacks_other n read.0) (decimal_lacks_other m all.0) refl refl own in
    let later : spaced ns ++ rest ≡ numbers_text (k ∷ ms) ++ back = cc in
    next_number ns (k ∷ ms) rest back read.1 all.1 (omega arith) begins later

-- the numbers of a line that is not empty
line_has_numbers : (text line back ms : List ℕ) → (BeginsWith is_feed text → ⊥) → CutsAt is_feed text line back → line ≡ numbers_text ms → 0 < length ms
line_has_numbers text line back [] some cut is = absurd (some (subst (BeginsWith is_feed) (sym (cut.is ∙ ap (λ t. t ++ back) is)) cut.begins))
line_has_numbers text line back (m ∷ ms) some cut is = omega arith

pub number_comes : (text rest ns : List ℕ) → (BeginsWith is_feed text → ⊥) → AllByRecursion IsU64 ns → text ≡ spaced ns ++ rest → (line back ms : List ℕ) → CutsAt is_feed text line back → AllByRecursion IsU64 ms → line ≡ numbers_text ms → IsNumber rest
number_comes text rest ns some read is line back ms cut all spelled =
    next_number ns ms rest back read all (line_has_numbers text line back ms some cut spelled) cut.begins
    (sym is ∙ cut.is ∙ ap (λ t. t ++ back) spelled)

-- a line that goes on with no number, or with a number that neither ends it nor has a space behind it, spells no numbers
pub no_number : (text rest ns : List ℕ) → (BeginsWith is_feed text → ⊥) → AllByRecursion IsU64 ns → text ≡ spaced ns ++ rest → ((n : ℕ) (back : List ℕ) → n < 2 ^ 64 → BeginsWith is_no_digit back → rest ≡ decimal n ++ back → ⊥) → OfFirstLine SpellsNoNumbers text
no_number text rest ns some read is none line back cut ms all spelled =
    let next = number_comes text rest ns some read is line back ms cut all spelled in
    none next.number next.back next.small next.begins next.is

pub no_end : (text rest after ns : List ℕ) (n : ℕ) → (BeginsWith is_feed text → ⊥) → AllByRecursion IsU64 ns → text ≡ spaced ns ++ rest → n < 2 ^ 64 → CutsAt is_no_digit rest (decimal n) after → (BeginsWith ends_number after → ⊥) → OfFirstLine SpellsNoNumbers text
no_end text rest after ns n some read is small cut none line back first ms all spelled =
    let next = number_comes text rest ns some read is line back ms first all spelled in
    let same = one_cut is_no_digit (decimal n) (decimal next.number) after next.back cut.lacks (decimal_lacks_other next.number next.small) cut.begins next.begins (sym cut.is ∙ next.is) in
    none (subst (BeginsWith ends_number) (sym same.1) next.ends)

-- the numbers of the line
pub numbers_end : (text rest after ns : List ℕ) (n : ℕ) → AllByRecursion IsU64 (ns ++ n ∷ []) → text ≡ spaced ns ++ rest → rest ≡ decimal n ++ after → BeginsWith is_feed after → BeginsWithNumbers text (ns ++ n ∷ []) after
numbers_end text rest after ns n all is cut begins = (
  all,
  record {
    is = is ∙ ap (λ t. spaced ns ++ t) cut ∙ spaced_last ns n after;
    lacks = numbers_lack_feed (ns ++ n ∷ []) all;
    begins = begins;
  },
)

pub numbers_go_on : (text rest after next ns : List ℕ) (n : ℕ) → text ≡ spaced ns ++ rest → rest ≡ decimal n ++ after → after ≡ 32 ∷ next → text ≡ spaced (ns ++ n ∷ []) ++ next
numbers_go_on text rest after next ns n is cut space =
    is ∙ ap (λ t. spaced ns ++ t) (cut ∙ ap (λ t. decimal n ++ t) space) ∙ spaced_next ns n next

pub no_numbers_here : (text : List ℕ) → BeginsWith is_feed text → BeginsWithNumbers text [] text
no_numbers_here text begins = (tt, record { is = refl; lacks = tt; begins = begins })
