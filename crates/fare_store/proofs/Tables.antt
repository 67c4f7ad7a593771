-- A map that is written at one key is a table with another value at one place.
use Rattle.std.proofs.Common.{◌≡◌, ℕ, ◌==◌, Bool, true, false, cond, nat_eq, refl, ◌∙◌, ap, arith}
use Rattle.std.specs.Prelude.{◌&&◌, if◌then◌else◌, Result, Ok, Err, OnOk, OnErr, IsOk}
use Rattle.std.proofs.lemmas.Bool.Decides.{Decides-eqb, nat_tests}
use Rattle.fare_store.specs.Tables.{put, put2, put3}

pub turned : (a b : ℕ) → nat_eq a b ≡ (b == a)
turned a b = grind (arith, nat_tests)

pub same_number : (a b : ℕ) → (a == b) ≡ true → a ≡ b
same_number a b h = (Decides-eqb a b).0 h

pub on_err : {T E Q : Type 0} (r : Result T E) → Q → OnErr r Q
on_err (Ok x) q = tt
on_err (Err e) q = q

pub at_ok : {T E P : Type 0} (r : Result T E) → IsOk r → OnOk r P → P
at_ok (Ok x) is p = p
at_ok (Err e) is p = absurd (cc)

pub either_way : {T E P Q X : Type 0} (r : Result T E) → OnOk r P → OnErr r Q → (P → X) → (Q → X) → X
either_way (Ok x) p q f g = f p
either_way (Err e) p q f g = g q

-- at two and at three
pub put2_is : {A : Type 0} (a b : ℕ) (value : A) (old : ℕ → ℕ → A) (x y : ℕ) → cond ((x == a) && (y == b)) value (old x y) ≡ put2 old a b value x y
put2_is a b value old x y = by (x == a) refl
  where
    by : (t : Bool) → (x == a) ≡ t → cond (t && (y == b)) value (old x y) ≡ (if t then put (old a) b value else old x) y
    by false _ = refl
    by true same = ap (λ w. cond (y == b) value (old w y)) (same_number x a same)

pub put3_is : {A : Type 0} (a b c : ℕ) (value : A) (old : ℕ → ℕ → ℕ → A) (x y z : ℕ) → cond (((x == a) && (y == b)) && (z == c)) value (old x y z) ≡ put3 old a b c value x y z
put3_is a b c value old x y z = by (x == a) refl
  where
    by : (t : Bool) → (x == a) ≡ t → cond ((t && (y == b)) && (z == c)) value (old x y z) ≡ (if t then put2 (old a) b c value else old x) y z
    by false _ = refl
    by true same = ap (λ w. cond ((y == b) && (z == c)) value (old w y z)) (same_number x a same) ∙ put2_is b c value (old a) y z
