-- The numbers that stand in bytes are spelled by those bytes.
use Rattle.std.proofs.Common.{◌≡◌, ◌≤◌, ◌<◌, ℕ, zero, suc, ◌+◌, List, [], ◌∷◌, ◌++◌, length, take, drop, get_or, sym, ap, ◌∙◌, refl, arith}
use Rattle.std.proofs.lemmas.List.{take-append-drop, length-take-le, length-drop, get_or-drop, drop_all, drop-drop, append-nil, get_or_past}
use Rattle.std.proofs.lemmas.Nat.{be_bytes_2, be_bytes_4, be_bytes_8}
use Rattle.std.specs.Int.{w16, w32, w64, from_be_bytes}
use Rattle.byteorder.specs.Endian.{big_bytes, big_number}
use Rattle.byteorder.specs.Numbers.{big_from-take}
use Rattle.fare_record.specs.Values.{AckValue}
use Rattle.fare_record.specs.Wide.{AreBytes}
use Rattle.fare_record.specs.Bodies.{number_at, record_bytes, record_in, routed_bytes, routed_in, statement_bytes, statement_in, ack_bytes, ack_in, day_ack_bytes, day_ack_in, hello_bytes, hello_in}

small_first : (n : ℕ) (ys : List ℕ) → ((i : ℕ) → get_or ys i 0 < 256) → (i : ℕ) → get_or (take n ys) i 0 < 256
small_first zero ys small i = let none : get_or (take 0 ys) i 0 ≡ 0 = get_or_past (take 0 ys) i 0 (omega arith) in omega arith
small_first (suc n) [] small i = small i
small_first (suc n) (y ∷ ys) small zero = small 0
small_first (suc n) (y ∷ ys) small (suc i) = small_first n ys (λ j. small (suc j)) i

pub first_2 : (ys : List ℕ) → 2 ≤ length ys → ((i : ℕ) → get_or ys i 0 < 256) → big_bytes 2 (big_number 2 ys) ++ drop 2 ys ≡ ys
first_2 ys long small =
    let first = take 2 ys in
    let count : length first ≡ 2 = length-take-le 2 ys long in
    let read : big_number 2 first ≡ big_number 2 ys = big_from-take 0 2 2 ys (omega arith) in
    let whole : big_number 2 first ≡ from_be_bytes w16 first = omega arith in
    let is : big_number 2 ys ≡ from_be_bytes w16 first = sym read ∙ whole in
    let spelled : big_bytes 2 (big_number 2 ys) ≡ first = be_bytes_2 first (big_number 2 ys) count (small_first 2 ys small) is in
    ap (λ h. h ++ drop 2 ys) spelled ∙ take-append-drop 2 ys

pub first_4 : (ys : List ℕ) → 4 ≤ length ys → ((i : ℕ) → get_or ys i 0 < 256) → big_bytes 4 (big_number 4 ys) ++ drop 4 ys ≡ ys
first_4 ys long small =
    let first = take 4 ys in
    let count : length first ≡ 4 = length-take-le 4 ys long in
    let read : big_number 4 first ≡ big_number 4 ys = big_from-take 0 4 4 ys (omega arith) in
    let whole : big_number 4 first ≡ from_be_bytes w32 first = omega arith in
    let is : big_number 4 ys ≡ from_be_bytes w32 first = sym read ∙ whole in
    let spelled : big_bytes 4 (big_number 4 ys) ≡ first = be_bytes_4 first (big_number 4 ys) count (small_first 4 ys small) is in
    ap (λ h. h ++ drop 4 ys) spelled ∙ take-append-drop 4 ys

pub first_8 : (ys : List ℕ) → 8 ≤ length ys → ((i : ℕ) → get_or ys i 0 < 256) → big_bytes 8 (big_number 8 ys) ++ drop 8 ys ≡ ys
first_8 ys long small =
    let first = take 8 ys in
    let count : length first ≡ 8 = length-take-le 8 ys long in
    let read : big_number 8 first ≡ big_number 8 ys = big_from-take 0 8 8 ys (omega arith) in
    let whole : big_number 8 first ≡ from_be_bytes w64 first = omega arith in
    let is : big_number 8 ys ≡ from_be_bytes w64 first = sym read ∙ whole in
    let spelled : big_bytes 8 (big_number 8 ys) ≡ first = be_bytes_8 first (big_number 8 ys) count (small_first 8 ys small) is in
    ap (λ h. h ++ drop 8 ys) spelled ∙ take-append-drop 8 ys

-- what a field spells, and the bytes after it
module _ (count : ℕ) (bytes : List ℕ) (are : AreBytes count bytes) where
  small_from : (place : ℕ) (i : ℕ) → get_or (drop place bytes) i 0 < 256
  small_from place i = let same : get_or (drop place bytes) i 0 ≡ get_or bytes (place + i) 0 = get_or-drop place bytes i 0 in omega (arith, are.small (place + i))

  long_from : (place width : ℕ) → place + width ≤ count → width ≤ length (drop place bytes)
  long_from place width fits = omega (arith, length-drop place bytes, are.all)

  pub field_2 : (place next : ℕ) → next ≡ place + 2 → next ≤ count → big_bytes 2 (number_at place 2 bytes) ++ drop next bytes ≡ drop place bytes
  field_2 place next e fits =
      let rest : drop next bytes ≡ drop 2 (drop place bytes) = ap (λ n. drop n bytes) e ∙ sym (drop-drop 2 place bytes) in
      ap (λ t. big_bytes 2 (number_at place 2 bytes) ++ t) rest ∙ first_2 (drop place bytes) (long_from place 2 (omega arith)) (small_from place)

  pub field_4 : (place next : ℕ) → next ≡ place + 4 → next ≤ count → big_bytes 4 (number_at place 4 bytes) ++ drop next bytes ≡ drop place bytes
  field_4 place next e fits =
      let rest : drop next bytes ≡ drop 4 (drop place bytes) = ap (λ n. drop n bytes) e ∙ sym (drop-drop 4 place bytes) in
      ap (λ t. big_bytes 4 (number_at place 4 bytes) ++ t) rest ∙ first_4 (drop place bytes) (long_from place 4 (omega arith)) (small_from place)

  pub field_8 : (place next : ℕ) → next ≡ place + 8 → next ≤ count → big_bytes 8 (number_at place 8 bytes) ++ drop next bytes ≡ drop place bytes
  field_8 place next e fits =
      let rest : drop next bytes ≡ drop 8 (drop place bytes) = ap (λ n. drop n bytes) e ∙ sym (drop-drop 8 place bytes) in
      ap (λ t. big_bytes 8 (number_at place 8 bytes) ++ t) rest ∙ first_8 (drop place bytes) (long_from place 8 (omega arith)) (small_from place)

  pub end : drop count bytes ≡ []
  end = drop_all count bytes (omega (arith, are.all))

last_field : (front whole rest : List ℕ) → rest ≡ [] → front ++ rest ≡ whole → front ≡ whole
last_field front whole rest none is = sym (append-nil front) ∙ sym (ap (λ t. front ++ t) none) ∙ is

-- the eight fields of a record, and the bytes after them
front : (count : ℕ) (bytes rest : List ℕ) → AreBytes count bytes → 46 ≤ count → rest ≡ drop 46 bytes → record_bytes (record_in bytes) ++ rest ≡ bytes
front count bytes rest are many is =
    let day = ap (λ t. big_bytes 4 (number_at 42 4 bytes) ++ t) is ∙ field_4 count bytes are 42 46 refl (omega (arith, many)) in
    let moment = ap (λ t. big_bytes 8 (number_at 34 8 bytes) ++ t) day ∙ field_8 count bytes are 34 42 refl (omega (arith, many)) in
    let token = ap (λ t. big_bytes 8 (number_at 26 8 bytes) ++ t) moment ∙ field_8 count bytes are 26 34 refl (omega (arith, many)) in
    let product = ap (λ t. big_bytes 4 (number_at 22 4 bytes) ++ t) token ∙ field_4 count bytes are 22 26 refl (omega (arith, many)) in
    let lane = ap (λ t. big_bytes 8 (number_at 14 8 bytes) ++ t) product ∙ field_8 count bytes are 14 22 refl (omega (arith, many)) in
    let owner = ap (λ t. big_bytes 2 (number_at 12 2 bytes) ++ t) lane ∙ field_2 count bytes are 12 14 refl (omega (arith, many)) in
    let link = ap (λ t. big_bytes 8 (number_at 4 8 bytes) ++ t) owner ∙ field_8 count bytes are 4 12 refl (omega (arith, many)) in
    ap (λ t. big_bytes 4 (number_at 0 4 bytes) ++ t) link ∙ field_4 count bytes are 0 4 refl (omega (arith, many))

pub record_spelled : (bytes : List ℕ) → AreBytes 46 bytes → record_bytes (record_in bytes) ≡ bytes
record_spelled bytes are = front 46 bytes [] are (omega arith) (sym (end 46 bytes are))

pub routed_spelled : (bytes : List ℕ) → AreBytes 48 bytes → routed_bytes (routed_in bytes) ≡ bytes
routed_spelled bytes are =
    let route = last_field (big_bytes 2 (number_at 46 2 bytes)) (drop 46 bytes) (drop 48 bytes) (end 48 bytes are) (field_2 48 bytes are 46 48 refl (omega arith)) in
    front 48 bytes (big_bytes 2 (number_at 46 2 bytes)) are (omega arith) route

pub statement_spelled : (bytes : List ℕ) → AreBytes 18 bytes → statement_bytes (statement_in bytes) ≡ bytes
statement_spelled bytes are =
    let count = last_field (big_bytes 8 (number_at 10 8 bytes)) (drop 10 bytes) (drop 18 bytes) (end 18 bytes are) (field_8 18 bytes are 10 18 refl (omega arith)) in
    let owner = ap (λ t. big_bytes 2 (number_at 8 2 bytes) ++ t) count ∙ field_2 18 bytes are 8 10 refl (omega arith) in
    let day = ap (λ t. big_bytes 4 (number_at 4 4 bytes) ++ t) owner ∙ field_4 18 bytes are 4 8 refl (omega arith) in
    ap (λ t. big_bytes 4 (number_at 0 4 bytes) ++ t) day ∙ field_4 18 bytes are 0 4 refl (omega arith)

pub ack_spelled : (bytes : List ℕ) → AreBytes 12 bytes → ack_bytes (ack_in bytes) ≡ bytes
ack_spelled bytes are =
    let upto = last_field (big_bytes 8 (number_at 4 8 bytes)) (drop 4 bytes) (drop 12 bytes) (end 12 bytes are) (field_8 12 bytes are 4 12 refl (omega arith)) in
    ap (λ t. big_bytes 4 (number_at 0 4 bytes) ++ t) upto ∙ field_4 12 bytes are 0 4 refl (omega arith)

pub day_ack_spelled : (bytes : List ℕ) → AreBytes 8 bytes → day_ack_bytes (day_ack_in bytes) ≡ bytes
day_ack_spelled bytes are =
    let day = last_field (big_bytes 4 (number_at 4 4 bytes)) (drop 4 bytes) (drop 8 bytes) (end 8 bytes are) (field_4 8 bytes are 4 8 refl (omega arith)) in
    ap (λ t. big_bytes 4 (number_at 0 4 bytes) ++ t) day ∙ field_4 8 bytes are 0 4 refl (omega arith)

pub hello_spelled : (bytes : List ℕ) → AreBytes 6 bytes → hello_bytes (hello_in bytes) ≡ bytes
hello_spelled bytes are =
    let version = last_field (big_bytes 2 (number_at 4 2 bytes)) (drop 4 bytes) (drop 6 bytes) (end 6 bytes are) (field_2 6 bytes are 4 6 refl (omega arith)) in
    ap (λ t. big_bytes 4 (number_at 0 4 bytes) ++ t) version ∙ field_4 6 bytes are 0 4 refl (omega arith)

-- the value of the numbers in bytes is spelled by those bytes
pub ack_is_spelled : (bytes : List ℕ) (a : AckValue) → length bytes ≡ 12 → ((i : ℕ) → get_or bytes i 0 < 256) → a ≡ ack_in bytes → ack_bytes a ≡ bytes
ack_is_spelled bytes a all small e = ap ack_bytes e ∙ ack_spelled bytes (record { all = all; small = small })
