-- Numbers and their decimal spelling, alone and in a row with one space between each two.
use Rattle.std.proofs.Common.{◌≡◌, ◌≤◌, ◌<◌, ◌^◌, ◌==◌, ℕ, List, [], ◌∷◌, ◌++◌, length, get_or, Bool, true, false, not, Option, Some, None, IfSome, IfNone, take, ◌+◌, ◌*◌, ◌-◌, ap, ap₂, sym, subst, refl, arith, ◌∙◌, map, length-append}
use Prim.Native.Nat.{zero, suc}
use Rattle.std.specs.List.{All, AllByRecursion, join_with_byte, slice_split}
use Rattle.std.specs.Fmt.{decimal}
use Rattle.std.specs.Char.{digit_value, is_ascii_digit}
use Rattle.std.specs.Str.Parse.{AllDigits, digits_value}
use Rattle.std.proofs.Math.Nat.{pow-le-pow_right}
use Rattle.std.proofs.lemmas.List.{length-take}
use Rattle.std.proofs.lemmas.Bool.Decides.{nat_tests}
use Rattle.std.proofs.lemmas.Bool.{ne_eqb}
use Rattle.std.proofs.lemmas.Grind.{common_steps}
use Rattle.std.proofs.lemmas.List.Splits.{slice_split_none, slice_split_at}
use Rattle.std.proofs.lemmas.Int.Digits.{digits_more, digits_value_more, digits_value-lt}
use Rattle.std.proofs.lemmas.Str.{digit_value_digit}
use Rattle.std.proofs.lemmas.Str.Parse.{IsNumeralModel, numerals_by_value, tells_digits, digit_at, digits_value-take-le}
use Rattle.std.proofs.lemmas.Fmt.{decimal-digits_value, digits_value-decimal, decimal_nonempty, decimal_digit, decimal_injective, digits_decimal, first_decimal}
use Rattle.fare_lines.specs.Grammar.{numbers_text}
use Rattle.fare_lines.specs.Reading.{BeginsWith, CutsAt, is_no_digit}
use Rattle.fare_lines.proofs.Cuts.{Lacks, lacks_of_index, one_cut}

-- ONE NUMBER
abbrev pub IsU64 : ℕ → Type 0
IsU64 n = n < 18446744073709551616

numerals : IsNumeralModel (AllDigits 10) (digits_value 10)
numerals = numerals_by_value (AllDigits 10) tells_digits

-- digits with no leading zero are the spelling of their number
pub digits_are_spelled : (word : List ℕ) (r : Option ℕ) → IfSome r (λ n. AllDigits 10 word × (n ≡ digits_value 10 word) × (n < 2 ^ 64)) → 0 < length word → (get_or word 0 0 ≡ 48 → length word ≡ 1) → IfSome r (λ n. (n < 2 ^ 64) × (word ≡ decimal n))
digits_are_spelled word None read some lone = tt
digits_are_spelled word (Some n) read some lone =
    (read.2, sym (decimal-digits_value numerals word read.0 some lone (omega (arith, read.1, read.2))) ∙ ap decimal (sym read.1))

-- what is no number in digits is the spelling of none
pub digits_are_none : (word : List ℕ) (r : Option ℕ) → IfNone r (AllDigits 10 word → digits_value 10 word < 2 ^ 64 → ⊥) → IfNone r ((n : ℕ) → n < 2 ^ 64 → word ≡ decimal n → ⊥)
digits_are_none word (Some n) none = tt
digits_are_none word None none = λ n small is.
    let spelled : (AllDigits 10 (decimal n)) × (digits_value 10 (decimal n) < 2 ^ 64) = (digits_decimal numerals n small, omega (arith, digits_value-decimal numerals n small)) in
    let own : AllDigits 10 word × (digits_value 10 word < 2 ^ 64) = subst (λ w. AllDigits 10 w × (digits_value 10 w < 2 ^ 64)) (sym is) spelled in
    none own.0 own.1

-- the digits so far
pub digit_of : (byte : ℕ) → is_ascii_digit byte ≡ true → (48 ≤ byte) × (byte ≤ 57)
digit_of byte digit = (grind (arith, nat_tests), grind (arith, nat_tests))

is_digit_of : (byte : ℕ) → 48 ≤ byte → byte ≤ 57 → is_ascii_digit byte ≡ true
is_digit_of byte low high = grind (arith, nat_tests)

pub one_digit_more : (word : List ℕ) (i number : ℕ) → i < length word → is_ascii_digit (get_or word i 0) ≡ true → AllDigits 10 (take i word) → number ≡ digits_value 10 (take i word) → AllDigits 10 (take (i + 1) word) × (number * 10 + (get_or word i 0 - 48) ≡ digits_value 10 (take (i + 1) word))
one_digit_more word i number below digit all is =
    let byte = get_or word i 0 in
    let within = digit_of byte digit in
    let value : digit_value byte + 48 ≡ byte = digit_value_digit byte within in
    let small : digit_value byte < 10 = omega (arith, value, within.1) in
    (digits_more 10 word i below all small, omega (arith, digits_value_more 10 word i below, is, value, within.0))

pub not_all_digits : (word : List ℕ) (i : ℕ) → i < length word → is_ascii_digit (get_or word i 0) ≡ false → AllDigits 10 word → ⊥
not_all_digits word i below other all =
    let within = digit_at word i all below in
    let both : true ≡ false = sym (is_digit_of (get_or word i 0) within.0 within.1) ∙ other in absurd (cc)

-- what is more than a u64 holds after some digits is so after all
pub too_large : (word : List ℕ) (i number : ℕ) → i < length word → is_ascii_digit (get_or word i 0) ≡ true → AllDigits 10 (take i word) → number ≡ digits_value 10 (take i word) → 2 ^ 64 ≤ number * 10 + (get_or word i 0 - 48) → digits_value 10 word < 2 ^ 64 → ⊥
too_large word i number below digit all is large small =
    omega (arith, (one_digit_more word i number below digit all is).1, digits_value-take-le 10 word (i + 1) (omega arith), large, small)

-- fewer than 19 digits spell a number of which ten times as much, and a digit, has 64 bits
pub few_digits : (word : List ℕ) (count number : ℕ) → count ≤ 18 → AllDigits 10 (take count word) → number ≡ digits_value 10 (take count word) → number < 1000000000000000000
few_digits word count number few all is =
    let value : digits_value 10 (take count word) < 10 ^ length (take count word) = digits_value-lt 10 (take count word) all in
    let most : 10 ^ length (take count word) ≤ 10 ^ 18 = pow-le-pow_right {n = 10} (omega arith) {i = length (take count word)} {j = 18} (omega (arith, few, length-take count word)) in
    omega (arith, is, value, most)

-- digits alone
pub digits_lack_other : (word : List ℕ) → AllDigits 10 word → Lacks is_no_digit word
digits_lack_other word all = lacks_of_index is_no_digit word (λ k below.
    let digit = digit_at word k all below in
    ap not (is_digit_of (get_or word k 0) digit.0 digit.1))

pub decimal_lacks_other : (n : ℕ) → n < 2 ^ 64 → Lacks is_no_digit (decimal n)
decimal_lacks_other n small = digits_lack_other (decimal n) (digits_decimal numerals n small)

-- the number that the digits at the front of a text spell
pub spelled_in_front : (text word rest : List ℕ) (n : ℕ) → CutsAt is_no_digit text word rest → word ≡ decimal n → CutsAt is_no_digit text (decimal n) rest
spelled_in_front text word rest n cut e = subst (λ w. CutsAt is_no_digit text w rest) e cut

-- no number stands at the front of a text whose digits there spell none
pub none_in_front : (text word rest : List ℕ) → CutsAt is_no_digit text word rest → ((n : ℕ) → n < 2 ^ 64 → word ≡ decimal n → ⊥) → (n : ℕ) (other : List ℕ) → n < 2 ^ 64 → BeginsWith is_no_digit other → text ≡ decimal n ++ other → ⊥
none_in_front text word rest cut none n other small begins is =
    none n small (one_cut is_no_digit word (decimal n) rest other cut.lacks (decimal_lacks_other n small) cut.begins begins (sym cut.is ∙ is)).0

pub take_all : (k : ℕ) (xs : List ℕ) → length xs ≤ k → take k xs ≡ xs
take_all k xs whole = grind (arith, common_steps)

pub if_none : {A : Type 0} (o : Option A) (P : Type 0) → P → IfNone o P
if_none None P holds = holds
if_none (Some x) P holds = tt

pub empty_is_none : (word : List ℕ) → length word ≡ 0 → (n : ℕ) → n < 2 ^ 64 → word ≡ decimal n → ⊥
empty_is_none word e n small is = omega (arith, ap length is, decimal_nonempty n small)

zero_is_short : (n : ℕ) → n < 2 ^ 64 → get_or (decimal n) 0 0 ≡ 48 → length (decimal n) ≡ 1
zero_is_short n small = elim n as (λ n. n < 2 ^ 64 → get_or (decimal n) 0 0 ≡ 48 → length (decimal n) ≡ 1) [
  | zero ↦ λ s h. ap length (decimal_digit 0 (omega arith))
  | suc m ↦ λ s h. absurd (omega (arith, first_decimal (suc m) (omega arith) s))
] small

pub padded_is_none : (word : List ℕ) → get_or word 0 0 ≡ 48 → 1 < length word → (n : ℕ) → n < 2 ^ 64 → word ≡ decimal n → ⊥
padded_is_none word zero_first long n small is = omega (arith, ap length is, zero_is_short n small (sym (ap (λ b. get_or b 0 0) is) ∙ zero_first))

-- NUMBERS IN A ROW
abbrev pub is_space : ℕ → Bool
is_space b = b == 32

-- a byte below '0' stands in no decimal spelling
pub decimal_lacks : (c : ℕ) → c < 48 → (n : ℕ) → IsU64 n → Lacks (λ b. b == c) (decimal n)
decimal_lacks c low n small = lacks_of_index (λ b. b == c) (decimal n) (λ k below.
    let digit = digit_at (decimal n) k (digits_decimal numerals n small) below in
    ne_eqb (get_or (decimal n) k 0) c (λ e. omega arith))

decimal_lacks_space : (n : ℕ) → IsU64 n → All (λ b. is_space b ≡ false) (decimal n)
decimal_lacks_space n small k d below =
    let digit = digit_at (decimal n) k (digits_decimal numerals n small) below in
    let same : get_or (decimal n) k d ≡ get_or (decimal n) k 0 = grind (arith, common_steps) in
    ne_eqb (get_or (decimal n) k d) 32 (λ e. omega arith)

pub begins_with_front : (p : ℕ → Bool) (xs rest : List ℕ) → 0 < length xs → p (get_or xs 0 0) ≡ true → BeginsWith p (xs ++ rest)
begins_with_front p [] rest some passes = absurd (omega arith)
begins_with_front p (x ∷ xs) rest some passes = passes

pub first_is_digit : (n : ℕ) → IsU64 n → is_ascii_digit (get_or (decimal n) 0 0) ≡ true
first_is_digit n small =
    let digit = digit_at (decimal n) 0 (digits_decimal numerals n small) (decimal_nonempty n small) in
    is_digit_of (get_or (decimal n) 0 0) digit.0 digit.1

decimals_lack_space : (ns : List ℕ) → AllByRecursion IsU64 ns → AllByRecursion (λ t. All (λ b. is_space b ≡ false) t) (map decimal ns)
decimals_lack_space [] all = tt
decimals_lack_space (n ∷ ns) all = (decimal_lacks_space n all.0, decimals_lack_space ns all.1)

split_joined : (p : ℕ → Bool) (c : ℕ) → p c ≡ true → (w : List ℕ) (ws : List (List ℕ)) → AllByRecursion (λ t. All (λ b. p b ≡ false) t) (w ∷ ws) → slice_split p (join_with_byte c (w ∷ ws)) ≡ w ∷ ws
split_joined p c passes w [] all = slice_split_none p w all.0
split_joined p c passes w (v ∷ ws) all =
    slice_split_at p w c (join_with_byte c (v ∷ ws)) all.0 passes ∙ ap (λ t. w ∷ t) (split_joined p c passes v ws all.1)

split_numbers : (n : ℕ) (ns : List ℕ) → AllByRecursion IsU64 (n ∷ ns) → slice_split is_space (numbers_text (n ∷ ns)) ≡ map decimal (n ∷ ns)
split_numbers n ns all = split_joined is_space 32 refl (decimal n) (map decimal ns) (decimals_lack_space (n ∷ ns) all)

decimals_same : (ns ms : List ℕ) → AllByRecursion IsU64 ns → AllByRecursion IsU64 ms → map decimal ns ≡ map decimal ms → ns ≡ ms
decimals_same [] [] alln allm e = refl
decimals_same [] (m ∷ ms) alln allm e = absurd (cc)
decimals_same (n ∷ ns) [] alln allm e = absurd (cc)
decimals_same (n ∷ ns) (m ∷ ms) alln allm e =
    ap₂ (λ h t. h ∷ t) (decimal_injective n m alln.0 allm.0 (cc)) (decimals_same ns ms alln.1 allm.1 (cc))

numbers_some : (n : ℕ) (ns : List ℕ) → IsU64 n → 0 < length (numbers_text (n ∷ ns))
numbers_some n [] small = decimal_nonempty n small
numbers_some n (m ∷ ms) small = omega (arith, length-append (decimal n) (32 ∷ numbers_text (m ∷ ms)), decimal_nonempty n small)

-- numbers with one text are the same
pub numbers_same : (ns ms : List ℕ) → AllByRecursion IsU64 ns → AllByRecursion IsU64 ms → numbers_text ns ≡ numbers_text ms → ns ≡ ms
numbers_same [] [] alln allm e = refl
numbers_same [] (m ∷ ms) alln allm e = absurd (omega (arith, numbers_some m ms allm.0, ap length e))
numbers_same (n ∷ ns) [] alln allm e = absurd (omega (arith, numbers_some n ns alln.0, ap length e))
numbers_same (n ∷ ns) (m ∷ ms) alln allm e = decimals_same (n ∷ ns) (m ∷ ms) alln allm (sym (split_numbers n ns alln) ∙ ap (slice_split is_space) e ∙ split_numbers m ms allm)
