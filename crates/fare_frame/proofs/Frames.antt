-- Frames and their bytes.
use Rattle.std.proofs.Common.{◌≡◌, ◌≢◌, ◌<◌, ◌≤◌, ℕ, ◌+◌, ◌^◌, List, [], ◌∷◌, ◌++◌, length, take, drop, get_or, None, ◌==◌, ◌||◌, Bool, true, false, if◌then◌else◌, refl, sym, ap, ◌∙◌, arith, rules}
use Rattle.std.proofs.lemmas.Bool.Decides.{nat_tests}
use Rattle.std.proofs.lemmas.List.{get_or-drop, take_at, drop_at}
use Rattle.byteorder.specs.Numbers.{big_from-lt}
use Rattle.fare_record.specs.Wide.{IsWideRecord, IsWideStatement, IsWideAck, IsWideDayAck, IsWideHello}
use Rattle.fare_record.specs.Limits.{IsNumber, IsToken, IsMoment, IsDay}
use Rattle.fare_record.specs.Values.{RecordValue}
use Rattle.fare_record.specs.Bodies.{number_at, routed_bytes, no_number, no_token, no_moment, no_day, first_fault, fault_of}
use Rattle.fare_record.specs.Lawful.{IsLawfulRecord}
use Rattle.fare_frame.specs.Table.{code_of, length_of, head_of}
use Rattle.fare_frame.specs.Grammar.{tap_kind, tap_body, kind_of, body_of, frame_bytes, frame_in, IsFrame, IsFrameOf, IsHead}
use Rattle.fare_frame.specs.Decoding.{frame_fault, fault_in}
use Rattle.fare_frame.specs.declared.frame.Frame.{Frame}
use Rattle.fare_frame.specs.declared.frame.Frame.TheVariants.{Tapped, Stated, Acked, DayAcked, Greeted}
use Rattle.fare_frame.specs.declared.kind.Kind.{Kind}
use Rattle.fare_frame.specs.declared.kind.Kind.TheVariants as kind

-- a field of bytes is as wide as it has bytes
number_fits : (place width : ℕ) (bytes : List ℕ) → ((i : ℕ) → get_or bytes i 0 < 256) → number_at place width bytes < 256 ^ width
number_fits place width bytes small =
    big_from-lt 0 width (drop place bytes) (λ i. rw (get_or-drop place bytes i 0) (small (place + i)))

-- each number has the width of its field
abbrev pub IsWide : Frame → Type 0
IsWide (Tapped r) = IsWideRecord r
IsWide (Stated s) = IsWideStatement s
IsWide (Acked a) = IsWideAck a
IsWide (DayAcked a) = IsWideDayAck a
IsWide (Greeted h) = IsWideHello h

-- the numbers in bytes have the widths of their fields
pub wide_in : (k : Kind) (bytes : List ℕ) → ((i : ℕ) → get_or bytes i 0 < 256) → IsWide (frame_in k bytes)
wide_in kind.Tapped bytes small = record {
  device = number_fits 0 4 bytes small;
  link = number_fits 4 8 bytes small;
  owner = number_fits 12 2 bytes small;
  lane = number_fits 14 8 bytes small;
  product = number_fits 22 4 bytes small;
  token = number_fits 26 8 bytes small;
  moment = number_fits 34 8 bytes small;
  day = number_fits 42 4 bytes small;
  route = omega arith;
}
wide_in kind.Routed bytes small = record {
  device = number_fits 0 4 bytes small;
  link = number_fits 4 8 bytes small;
  owner = number_fits 12 2 bytes small;
  lane = number_fits 14 8 bytes small;
  product = number_fits 22 4 bytes small;
  token = number_fits 26 8 bytes small;
  moment = number_fits 34 8 bytes small;
  day = number_fits 42 4 bytes small;
  route = number_fits 46 2 bytes small;
}
wide_in kind.Stated bytes small = record {
  device = number_fits 0 4 bytes small;
  day = number_fits 4 4 bytes small;
  owner = number_fits 8 2 bytes small;
  count = number_fits 10 8 bytes small;
}
wide_in kind.Acked bytes small = record {
  device = number_fits 0 4 bytes small;
  upto = number_fits 4 8 bytes small;
}
wide_in kind.DayAcked bytes small = record {
  device = number_fits 0 4 bytes small;
  day = number_fits 4 4 bytes small;
}
wide_in kind.Greeted bytes small = record {
  device = number_fits 0 4 bytes small;
  version = number_fits 4 2 bytes small;
}

-- the numbers of a frame have the widths of their fields
pub wide_frame : (f : Frame) → IsFrame f → IsWide f
wide_frame (Tapped r) is = record { device = omega arith; link = omega arith; owner = omega arith; lane = omega arith; product = omega arith; token = omega arith; moment = omega arith; day = omega arith; route = omega arith }
wide_frame (Stated s) is = record { device = omega arith; day = omega arith; owner = omega arith; count = omega arith }
wide_frame (Acked a) is = record { device = omega arith; upto = omega arith }
wide_frame (DayAcked a) is = record { device = omega arith; day = omega arith }
wide_frame (Greeted h) is = record { device = omega arith; version = omega arith }

-- and no fault
no_fault_of : (f : Frame) → IsFrame f → frame_fault f ≡ None
no_fault_of (Tapped r) is = grind (arith, nat_tests)
no_fault_of (Stated s) is = grind (arith, nat_tests)
no_fault_of (Acked a) is = grind (arith, nat_tests)
no_fault_of (DayAcked a) is = grind (arith, nat_tests)
no_fault_of (Greeted h) is = grind (arith, nat_tests)

-- a tap that is spelled with its route has one
some_route : (b : Bool) → tap_kind b ≡ kind.Routed → b ≡ false
some_route false e = refl
some_route true e = cc

-- and one that is spelled without it has none
no_route : (b : Bool) → tap_kind b ≡ kind.Tapped → b ≡ true
no_route false e = cc
no_route true e = refl

pub no_fault : (k : Kind) (f : Frame) → IsFrameOf k f → fault_in k f ≡ None
no_fault kind.Routed (Tapped r) is = let some = some_route (r.tap.route == 0) is.1 in let lawful = is.0 in rw some (no_fault_of (Tapped r) lawful)
no_fault kind.Tapped f is = no_fault_of f is.0
no_fault kind.Stated f is = no_fault_of f is.0
no_fault kind.Acked f is = no_fault_of f is.0
no_fault kind.DayAcked f is = no_fault_of f is.0
no_fault kind.Greeted f is = no_fault_of f is.0
no_fault kind.Routed (Stated s) is = no_fault_of (Stated s) is.0
no_fault kind.Routed (Acked a) is = no_fault_of (Acked a) is.0
no_fault kind.Routed (DayAcked a) is = no_fault_of (DayAcked a) is.0
no_fault kind.Routed (Greeted h) is = no_fault_of (Greeted h) is.0

no_first : (id number day route : Bool) → first_fault id number day route ≡ None → (id ≡ false) × (number ≡ false) × (day ≡ false)
no_first false false false false e = (refl, refl, refl)
no_first false false false true e = cc
no_first false false true route e = cc
no_first false true day route e = cc
no_first true number day route e = cc

neither : (a b : Bool) → (a || b) ≡ false → (a ≡ false) × (b ≡ false)
neither false false e = (refl, refl)
neither false true e = cc
neither true b e = cc

positive : (n : ℕ) → (n == 0) ≡ false → 1 ≤ n
positive n e = grind (arith, nat_tests)

number_within : (n : ℕ) → no_number n ≡ false → IsNumber n
number_within n e = grind (arith, nat_tests)

token_within : (n : ℕ) → no_token n ≡ false → IsToken n
token_within n e = grind (arith, nat_tests)

moment_within : (n : ℕ) → no_moment n ≡ false → IsMoment n
moment_within n e = grind (arith, nat_tests)

day_within : (n : ℕ) → no_day n ≡ false → IsDay n
day_within n e = grind (arith, nat_tests)

record_within : (route : Bool) (r : RecordValue) → IsWideRecord r → fault_of route r ≡ None → IsLawfulRecord r
record_within route r wide none =
    let sound = no_first _ _ _ _ none in
    let ids = neither _ _ sound.0 in
    let ends = neither _ _ ids.0 in
    let numbers = neither _ _ sound.1 in
    let places = neither _ _ numbers.0 in
    let times = neither _ _ sound.2 in
    record {
      device = (positive r.device ends.0, omega arith);
      link = number_within r.link places.0;
      owner = (positive r.owner ends.1, omega arith);
      lane = number_within r.lane places.1;
      product = (positive r.tap.product ids.1, omega arith);
      token = token_within r.tap.token numbers.1;
      moment = moment_within r.tap.moment times.0;
      day = day_within r.tap.day times.1;
      route = omega arith;
    }

-- numbers with no fault are within their limits
within_own : (f : Frame) → IsWide f → frame_fault f ≡ None → IsFrame f
within_own (Tapped r) wide none = record_within false r wide none
within_own (Stated s) wide none = grind (arith, nat_tests)
within_own (Acked a) wide none = grind (arith, nat_tests)
within_own (DayAcked a) wide none = grind (arith, nat_tests)
within_own (Greeted h) wide none = grind (arith, nat_tests)

pub within_limits : (k : Kind) (f : Frame) → IsWide f → fault_in k f ≡ None → IsFrame f
within_limits kind.Routed (Tapped r) wide none = record_within (r.tap.route == 0) r wide none
within_limits kind.Tapped f wide none = within_own f wide none
within_limits kind.Stated f wide none = within_own f wide none
within_limits kind.Acked f wide none = within_own f wide none
within_limits kind.DayAcked f wide none = within_own f wide none
within_limits kind.Greeted f wide none = within_own f wide none
within_limits kind.Routed (Stated s) wide none = within_own (Stated s) wide none
within_limits kind.Routed (Acked a) wide none = within_own (Acked a) wide none
within_limits kind.Routed (DayAcked a) wide none = within_own (DayAcked a) wide none
within_limits kind.Routed (Greeted h) wide none = within_own (Greeted h) wide none

-- a tap whose route is known is spelled with it
pub with_route : (r : RecordValue) → r.tap.route ≢ 0 → (kind_of (Tapped r) ≡ kind.Routed) × (body_of (Tapped r) ≡ routed_bytes r)
with_route r known = let is : (r.tap.route == 0) ≡ false = grind (arith, nat_tests) in (ap tap_kind is, ap (λ b. tap_body b r) is)

-- the body of a tap has the length of its kind
tap_length : (b : Bool) (r : RecordValue) → length (tap_body b r) + 1 ≡ length_of (tap_kind b)
tap_length true r = refl
tap_length false r = refl

-- and so has that of each frame
pub length-body : (f : Frame) → length (body_of f) + 1 ≡ length_of (kind_of f)
length-body (Tapped r) = tap_length (r.tap.route == 0) r
length-body (Stated s) = refl
length-body (Acked a) = refl
length-body (DayAcked a) = refl
length-body (Greeted h) = refl

-- the kind of a type byte
abbrev kind_at : ℕ → Kind
kind_at n = if n == 1 then kind.Tapped else if n == 2 then kind.Stated else if n == 3 then kind.Acked else if n == 4 then kind.DayAcked else if n == 5 then kind.Greeted else kind.Routed

at_its_code : (k : Kind) → kind_at (code_of k) ≡ k
at_its_code kind.Tapped = refl
at_its_code kind.Stated = refl
at_its_code kind.Acked = refl
at_its_code kind.DayAcked = refl
at_its_code kind.Greeted = refl
at_its_code kind.Routed = refl

pub same_code : (j k : Kind) → code_of j ≡ code_of k → j ≡ k
same_code j k e = sym (at_its_code j) ∙ ap kind_at e ∙ at_its_code k

-- no length field is above 49
pub length_of-le : (k : Kind) → length_of k ≤ 49
length_of-le kind.Tapped = omega arith
length_of-le kind.Stated = omega arith
length_of-le kind.Acked = omega arith
length_of-le kind.DayAcked = omega arith
length_of-le kind.Greeted = omega arith
length_of-le kind.Routed = omega arith

-- none is below 7
pub length_of-above : (k : Kind) → 7 ≤ length_of k
length_of-above kind.Tapped = omega arith
length_of-above kind.Stated = omega arith
length_of-above kind.Acked = omega arith
length_of-above kind.DayAcked = omega arith
length_of-above kind.Greeted = omega arith
length_of-above kind.Routed = omega arith

-- the head of a kind's frames is its only one
pub head_is : (k : Kind) (high low code : ℕ) → low < 256 → IsHead k high low code → head_of k ≡ high ∷ low ∷ code ∷ []
head_is kind.Tapped high low code small head = let h : high ≡ 0 = omega arith in let l : low ≡ 47 = omega arith in let c : code ≡ 1 = sym head.type in cc
head_is kind.Stated high low code small head = let h : high ≡ 0 = omega arith in let l : low ≡ 19 = omega arith in let c : code ≡ 2 = sym head.type in cc
head_is kind.Acked high low code small head = let h : high ≡ 0 = omega arith in let l : low ≡ 13 = omega arith in let c : code ≡ 3 = sym head.type in cc
head_is kind.DayAcked high low code small head = let h : high ≡ 0 = omega arith in let l : low ≡ 9 = omega arith in let c : code ≡ 4 = sym head.type in cc
head_is kind.Greeted high low code small head = let h : high ≡ 0 = omega arith in let l : low ≡ 7 = omega arith in let c : code ≡ 5 = sym head.type in cc
head_is kind.Routed high low code small head = let h : high ≡ 0 = omega arith in let l : low ≡ 49 = omega arith in let c : code ≡ 6 = sym head.type in cc

tap_parts : (b : Bool) (r : RecordValue) → head_of (tap_kind b) ++ tap_body b r ≡ 0 ∷ length_of (tap_kind b) ∷ code_of (tap_kind b) ∷ tap_body b r
tap_parts true r = refl
tap_parts false r = refl

-- what a frame's bytes begin with
pub parts : (f : Frame) → frame_bytes f ≡ 0 ∷ length_of (kind_of f) ∷ code_of (kind_of f) ∷ body_of f
parts (Tapped r) = tap_parts (r.tap.route == 0) r
parts (Stated s) = refl
parts (Acked a) = refl
parts (DayAcked a) = refl
parts (Greeted h) = refl

tap_back : (b : Bool) (r : RecordValue) → (r.tap.route == 0) ≡ b → IsWideRecord r → frame_in (tap_kind b) (tap_body b r) ≡ Tapped r
tap_back true r is wide = let none : r.tap.route ≡ 0 = grind (arith, nat_tests) in search rules
tap_back false r is wide = search rules

-- the numbers in a frame's body are its own
pub read_back : (f : Frame) → IsWide f → frame_in (kind_of f) (body_of f) ≡ f
read_back (Tapped r) wide = tap_back (r.tap.route == 0) r refl wide
read_back (Stated s) wide = search rules
read_back (Acked a) wide = search rules
read_back (DayAcked a) wide = search rules
read_back (Greeted h) wide = search rules

module _ (f g : Frame) (xs ys : List ℕ) (wf : IsFrame f) (wg : IsFrame g) (e : frame_bytes f ++ xs ≡ frame_bytes g ++ ys) where
  begins : 0 ∷ length_of (kind_of f) ∷ code_of (kind_of f) ∷ (body_of f ++ xs) ≡ 0 ∷ length_of (kind_of g) ∷ code_of (kind_of g) ∷ (body_of g ++ ys)
  begins = sym (ap (λ h. h ++ xs) (parts f)) ∙ e ∙ ap (λ h. h ++ ys) (parts g)

  kinds : kind_of f ≡ kind_of g
  kinds = same_code (kind_of f) (kind_of g) (cc begins)

  bodies : body_of f ++ xs ≡ body_of g ++ ys
  bodies = cc begins

  as_long : length (body_of f) ≡ length (body_of g)
  as_long = omega (arith, length-body f, length-body g, ap length_of kinds)

  same_body : body_of f ≡ body_of g
  same_body = sym (take_at (body_of f) xs (length (body_of f)) refl) ∙ ap (take (length (body_of f))) bodies ∙ take_at (body_of g) ys (length (body_of f)) (sym as_long)

  -- no spelling is a prefix of another's
  pub same_frame : f ≡ g
  same_frame = sym (read_back f (wide_frame f wf)) ∙ ap (λ k. frame_in k (body_of f)) kinds ∙ ap (frame_in (kind_of g)) same_body ∙ read_back g (wide_frame g wg)

  pub same_behind : xs ≡ ys
  same_behind = sym (drop_at (body_of f) xs (length (body_of f)) refl) ∙ ap (drop (length (body_of f))) bodies ∙ drop_at (body_of g) ys (length (body_of f)) (sym as_long)
