-- Tables with another value at one place, and tests.
use Rattle.std.proofs.Common.{◌≡◌, ℕ, ◌<◌, ◌≤◌, Bool, true, false, refl, sym, ap, ◌∙◌, subst, arith}
use Rattle.std.specs.Prelude.{◌==◌, ◌&&◌, if◌then◌else◌, nat_le, nat_lt}
use Rattle.std.proofs.lemmas.Bool.Decides.{nat_tests, Decides-eqb}
use Rattle.fare_store.specs.Tables.{put, put2, put3}

-- TESTS
-- what holds of both sides of a test
pub if_all : {A : Type 0} (b : Bool) (Q : A → Type 0) (x y : A) → (b ≡ true → Q x) → (b ≡ false → Q y) → Q (if b then x else y)
if_all true Q x y p q = p refl
if_all false Q x y p q = q refl

pub below : (a b : ℕ) → nat_lt a b ≡ true → a < b
below a b e = grind (arith, nat_tests)

pub above : (a b : ℕ) → nat_le a b ≡ false → b < a
above a b e = grind (arith, nat_tests)

pub not_below : (a b : ℕ) → nat_lt a b ≡ false → b ≤ a
not_below a b e = grind (arith, nat_tests)

pub at_most : (a b : ℕ) → nat_le a b ≡ true → a ≤ b
at_most a b e = grind (arith, nat_tests)

pub is_one : (a b : ℕ) → (a == b) ≡ true → a ≡ b
is_one a b e = (Decides-eqb a b).0 e

pub is_self : (a : ℕ) → (a == a) ≡ true
is_self a = (Decides-eqb a a).1 refl

pub other_way : (a b : ℕ) → (a == b) ≡ false → (b == a) ≡ false
other_way a b e = grind (arith, nat_tests)

pub both_left : (a b : Bool) → (a && b) ≡ true → a ≡ true
both_left true b e = refl
both_left false b e = absurd (cc)

pub both_right : (a b : Bool) → (a && b) ≡ true → b ≡ true
both_right true b e = e
both_right false b e = absurd (cc)

-- TABLES
-- what holds of each entry holds after a write, if it holds of the new one
pub put_all : {A : Type 0} (P : ℕ → A → Type 0) (f : ℕ → A) (k : ℕ) (v : A) → ((j : ℕ) → P j (f j)) → P k v → (j : ℕ) → P j (put f k v j)
put_all P f k v each one j = if_all (j == k) (λ a. P j a) v (f j) (λ e. subst (λ i. P i v) (sym ((Decides-eqb j k).0 e)) one) (λ _. each j)

-- the same, where the others are known to be others
pub put_apart : {A : Type 0} (P : ℕ → A → Type 0) (f : ℕ → A) (k : ℕ) (v : A) → ((j : ℕ) → (j == k) ≡ false → P j (f j)) → P k v → (j : ℕ) → P j (put f k v j)
put_apart P f k v each one j = if_all (j == k) (λ a. P j a) v (f j) (λ e. subst (λ i. P i v) (sym ((Decides-eqb j k).0 e)) one) (each j)

-- two tables that change at one place
pub put_both : {A B : Type 0} (P : ℕ → A → B → Type 0) (f : ℕ → A) (g : ℕ → B) (k : ℕ) (v : A) (w : B) → ((j : ℕ) → P j (f j) (g j)) → P k v w → (j : ℕ) → P j (put f k v j) (put g k w j)
put_both P f g k v w each one j = if_both (j == k) (P j) v (f j) w (g j) (λ e. subst (λ i. P i v w) (sym ((Decides-eqb j k).0 e)) one) (λ _. each j)
  where
    if_both : {A B : Type 0} (b : Bool) (Q : A → B → Type 0) (x y : A) (z w : B) → (b ≡ true → Q x z) → (b ≡ false → Q y w) → Q (if b then x else y) (if b then z else w)
    if_both true Q x y z w p q = p refl
    if_both false Q x y z w p q = q refl

pub put2_all : {A : Type 0} (P : ℕ → ℕ → A → Type 0) (f : ℕ → ℕ → A) (o d : ℕ) (v : A) → ((p e : ℕ) → P p e (f p e)) → P o d v → (p e : ℕ) → P p e (put2 f o d v p e)
put2_all P f o d v each one = put_all (λ p g. (e : ℕ) → P p e (g e)) f o (put (f o) d v) each (put_all (P o) (f o) d v (each o) one)

-- the entry that was written
pub put_here : {A : Type 0} (f : ℕ → A) (k : ℕ) (v : A) → put f k v k ≡ v
put_here f k v = ap (λ b. if b then v else f k) (is_self k)

pub put2_here : {A : Type 0} (f : ℕ → ℕ → A) (a b : ℕ) (v : A) → put2 f a b v a b ≡ v
put2_here f a b v = ap (λ g. g b) (put_here f a (put (f a) b v)) ∙ put_here (f a) b v

-- an entry of another place
pub put2_apart : {A : Type 0} (f : ℕ → ℕ → A) (a b : ℕ) (v : A) (j k : ℕ) → ((j ≡ a) → (k ≡ b) → ⊥) → put2 f a b v j k ≡ f j k
put2_apart f a b v j k apart = by (j == a) refl
  where
    at : j ≡ a → (c : Bool) → (k == b) ≡ c → (if c then v else f a k) ≡ f j k
    at same true e = absurd (apart same (is_one k b e))
    at same false e = ap (λ i. f i k) (sym same)

    by : (c : Bool) → (j == a) ≡ c → (if c then put (f a) b v else f j) k ≡ f j k
    by false e = refl
    by true e = at (is_one j a e) (k == b) refl

pub put3_all : {A : Type 0} (P : ℕ → ℕ → ℕ → A → Type 0) (f : ℕ → ℕ → ℕ → A) (o d k : ℕ) (v : A) → ((p j n : ℕ) → P p j n (f p j n)) → P o d k v → (p j n : ℕ) → P p j n (put3 f o d k v p j n)
put3_all P f o d k v each one p j n = put_all (λ p g. (j n : ℕ) → P p j n (g j n)) f o (put2 (f o) d k v) each (put2_all (P o) (f o) d k v (each o) one) p j n

pub put3_here : {A : Type 0} (f : ℕ → ℕ → ℕ → A) (o d k : ℕ) (v : A) → put3 f o d k v o d k ≡ v
put3_here f o d k v = ap (λ g. g d k) (put_here f o (put2 (f o) d k v)) ∙ put2_here (f o) d k v
