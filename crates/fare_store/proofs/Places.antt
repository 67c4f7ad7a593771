-- Taps in the order of their places.
use Rattle.std.proofs.Common.{◌≡◌, ℕ, ◌<◌, Bool, true, false, refl, sym, ◌∙◌, ap, arith}
use Rattle.std.specs.Prelude.{if◌then◌else◌, nat_lt}
use Rattle.std.specs.declared.cmp.Ordering.{Ordering}
use Rattle.std.specs.declared.cmp.Ordering.TheVariants.{Less, Equal, Greater}
use Rattle.std.specs.Ordering.{ordering_then, ordering_reverse, nat_cmp, is_eq, is_lt, MatchOrdering}
use Rattle.std.specs.Cmp.{IsTotalOrder}
use Rattle.std.proofs.lemmas.Bool.Decides.{nat_tests}
use Rattle.std.proofs.lemmas.Cmp.{ranked, nat_cmp_total, on_total, then_total}
use Rattle.fare_record.specs.Values.{RecordValue}
use Rattle.fare_store.specs.LedgerWords.{is_before}

-- a tap's place in the order of taps: its day, moment, device and lane number
abbrev pub Place : Type 0
Place = ℕ × ℕ × ℕ × ℕ

abbrev pub place_order : Place → Place → Ordering
place_order a b = ordering_then (ordering_then (ordering_then (nat_cmp a.0 b.0) (nat_cmp a.1 b.1)) (nat_cmp a.2 b.2)) (nat_cmp a.3 b.3)

abbrev pub place_of : RecordValue → Place
place_of r = (r.tap.day, r.tap.moment, r.device, r.lane)

pub total : IsTotalOrder place_order
total = then_total (then_total (then_total (on_total (λ (p : Place). p.0) nat_cmp_total) (on_total (λ (p : Place). p.1) nat_cmp_total)) (on_total (λ (p : Place). p.2) nat_cmp_total)) (on_total (λ (p : Place). p.3) nat_cmp_total)

-- EQUAL PLACES
eq_then : (p q : Ordering) → is_eq (ordering_then p q) ≡ true → (is_eq p ≡ true) × (is_eq q ≡ true)
eq_then Less q h = absurd (cc)
eq_then Equal q h = (refl, h)
eq_then Greater q h = absurd (cc)

eq_number : (a b : ℕ) → is_eq (nat_cmp a b) ≡ true → a ≡ b
eq_number a b h = grind (arith, nat_tests)

-- of one device and one lane number
same_tap : (a b : Place) → is_eq (place_order a b) ≡ true → (a.2 ≡ b.2) × (a.3 ≡ b.3)
same_tap a b h =
    let p = eq_then (ordering_then (ordering_then (nat_cmp a.0 b.0) (nat_cmp a.1 b.1)) (nat_cmp a.2 b.2)) (nat_cmp a.3 b.3) h in
    let q = eq_then (ordering_then (nat_cmp a.0 b.0) (nat_cmp a.1 b.1)) (nat_cmp a.2 b.2) p.0 in
    (eq_number a.2 b.2 q.1, eq_number a.3 b.3 p.1)

-- IN ORDER
apart : (p q r : Ordering) → ordering_then (ordering_then p q) r ≡ ordering_then p (ordering_then q r)
apart Less q r = refl
apart Equal q r = refl
apart Greater q r = refl

regrouped : (a b : Place) → place_order a b ≡ ordering_then (nat_cmp a.0 b.0) (ordering_then (nat_cmp a.1 b.1) (ordering_then (nat_cmp a.2 b.2) (nat_cmp a.3 b.3)))
regrouped a b =
    ap (λ o. ordering_then o (nat_cmp a.3 b.3)) (apart (nat_cmp a.0 b.0) (nat_cmp a.1 b.1) (nat_cmp a.2 b.2))
    ∙ apart (nat_cmp a.0 b.0) (ordering_then (nat_cmp a.1 b.1) (nat_cmp a.2 b.2)) (nat_cmp a.3 b.3)
    ∙ ap (ordering_then (nat_cmp a.0 b.0)) (apart (nat_cmp a.1 b.1) (nat_cmp a.2 b.2) (nat_cmp a.3 b.3))

lex : (x y : ℕ) (rest : Ordering) (b : Bool) → (rest ≡ Less → b ≡ true) → ordering_then (nat_cmp x y) rest ≡ Less → (if nat_lt x y then true else if nat_lt y x then false else b) ≡ true
lex x y rest b tail h = by (nat_cmp x y) (ranked x y _ refl) h
  where
    by : (p : Ordering) → MatchOrdering p (x < y) (x ≡ y) (y < x) → ordering_then p rest ≡ Less → (if nat_lt x y then true else if nat_lt y x then false else b) ≡ true
    by Less m i = ap (λ t. if t then true else if nat_lt y x then false else b) {x = nat_lt x y} {y = true} (grind (arith, nat_tests))
    by Equal m i = (λ j. if off j then true else if back j then false else b) ∙ tail i
      where
        off : nat_lt x y ≡ false
        off = grind (arith, nat_tests)

        back : nat_lt y x ≡ false
        back = grind (arith, nat_tests)
    by Greater m i = absurd (cc)

last_less : (x y : ℕ) → nat_cmp x y ≡ Less → nat_lt x y ≡ true
last_less x y h = by (nat_cmp x y) (ranked x y _ refl) h
  where
    by : (p : Ordering) → MatchOrdering p (x < y) (x ≡ y) (y < x) → p ≡ Less → nat_lt x y ≡ true
    by Less m i = grind (arith, nat_tests)
    by Equal m i = absurd (cc)
    by Greater m i = absurd (cc)

stands_before : (a b : RecordValue) → place_order (place_of a) (place_of b) ≡ Less → is_before a b ≡ true
stands_before a b h =
    lex a.tap.day b.tap.day _ _ (lex a.tap.moment b.tap.moment _ _ (lex a.device b.device _ _ (last_less a.lane b.lane))) (sym (regrouped (place_of a) (place_of b)) ∙ h)

-- of two different taps, the one that isn't after the other is before it
pub before_other : (a b : RecordValue) → is_lt (place_order (place_of b) (place_of a)) ≡ false → (b.device ≡ a.device → b.lane ≡ a.lane → ⊥) → is_before a b ≡ true
before_other a b after differ = by (place_order (place_of b) (place_of a)) refl
  where
    by : (o : Ordering) → place_order (place_of b) (place_of a) ≡ o → is_before a b ≡ true
    by Less e = absurd (let on : true ≡ false = sym (ap is_lt e) ∙ after in cc)
    by Equal e = let same = same_tap (place_of b) (place_of a) (ap is_eq e) in absurd (differ same.0 same.1)
    by Greater e = stands_before a b (total.antisymm (place_of a) (place_of b) ∙ ap ordering_reverse e)
