-- Keys of three numbers.
use Rattle.std.proofs.Common.{◌≡◌, ℕ, ◌<◌, ◌≤◌, ◌==◌, false, refl, ◌∙◌, ap, arith}
use Rattle.std.specs.Prelude.{◌&&◌}
use Rattle.std.specs.declared.cmp.Ordering.{Ordering}
use Rattle.std.specs.declared.cmp.Ordering.TheVariants.{Less, Equal, Greater}
use Rattle.std.specs.Ordering.{ordering_then, nat_cmp, is_eq, is_gt, MatchOrdering}
use Rattle.std.proofs.lemmas.Bool.Decides.{nat_tests}
use Rattle.std.proofs.lemmas.Cmp.{ranked}
use Rattle.fare_store.specs.Keys.{Key, key_order}

-- EQUAL KEYS
eq_then : (p q : Ordering) → is_eq (ordering_then p q) ≡ (is_eq p && is_eq q)
eq_then Less q = refl
eq_then Equal q = refl
eq_then Greater q = refl

pub eq_numbers : (a b : ℕ) → is_eq (nat_cmp a b) ≡ (b == a)
eq_numbers a b = grind (arith, nat_tests)

pub same_key : (a b : Key) → is_eq (key_order a b) ≡ (((b.0 == a.0) && (b.1 == a.1)) && (b.2 == a.2))
same_key a b =
    eq_then (ordering_then (nat_cmp a.0 b.0) (nat_cmp a.1 b.1)) (nat_cmp a.2 b.2)
    ∙ (λ i. eq_then (nat_cmp a.0 b.0) (nat_cmp a.1 b.1) i && eq_numbers a.2 b.2 i)
    ∙ (λ i. (eq_numbers a.0 b.0 i && eq_numbers a.1 b.1 i) && (b.2 == a.2))

-- KEYS IN ORDER
-- a stands before b, or at it
pub record Comes (a b : Key) : Type 0 where
  pub first : a.0 ≤ b.0
  pub second : a.0 ≡ b.0 → a.1 ≤ b.1
  pub third : a.0 ≡ b.0 → a.1 ≡ b.1 → a.2 ≤ b.2

upto_by : (p q r : Ordering) (a b : Key) → MatchOrdering p (a.0 < b.0) (a.0 ≡ b.0) (b.0 < a.0) → MatchOrdering q (a.1 < b.1) (a.1 ≡ b.1) (b.1 < a.1) → MatchOrdering r (a.2 < b.2) (a.2 ≡ b.2) (b.2 < a.2)
    → is_gt (ordering_then (ordering_then p q) r) ≡ false → Comes a b
upto_by Less q r a b x y z h = record { first = omega (arith, x); second = λ e. absurd (omega (arith, x, e)); third = λ e f. absurd (omega (arith, x, e)) }
upto_by Equal Less r a b x y z h = record { first = omega (arith, x); second = λ e. omega (arith, y); third = λ e f. absurd (omega (arith, y, f)) }
upto_by Equal Equal Less a b x y z h = record { first = omega (arith, x); second = λ e. omega (arith, y); third = λ e f. omega (arith, z) }
upto_by Equal Equal Equal a b x y z h = record { first = omega (arith, x); second = λ e. omega (arith, y); third = λ e f. omega (arith, z) }
upto_by Equal Equal Greater a b x y z h = absurd (cc)
upto_by Equal Greater r a b x y z h = absurd (cc)
upto_by Greater q r a b x y z h = absurd (cc)

pub comes : (a b : Key) → is_gt (key_order a b) ≡ false → Comes a b
comes a b h = upto_by (nat_cmp a.0 b.0) (nat_cmp a.1 b.1) (nat_cmp a.2 b.2) a b (ranked a.0 b.0 _ refl) (ranked a.1 b.1 _ refl) (ranked a.2 b.2 _ refl) h

-- in one lane
pub lane_upto : (owner device a b : ℕ) → a ≤ b → is_gt (key_order (owner, device, a) (owner, device, b)) ≡ false
lane_upto owner device a b h = ap is_gt (λ i. ordering_then (ordering_then (itself owner i) (itself device i)) (nat_cmp a b)) ∙ less
  where
    itself : (n : ℕ) → nat_cmp n n ≡ Equal
    itself n = grind (arith, nat_tests)

    less : is_gt (nat_cmp a b) ≡ false
    less = grind (arith, nat_tests)
