-- Days that wait, without one of them.
use Rattle.std.proofs.Common.{◌≡◌, ◌<◌, ◌≤◌, ℕ, suc, Bool, true, false, List, [], ◌∷◌, length, cond, refl, ap, arith}
use Rattle.std.specs.Prelude.{◌==◌, ◌||◌, not, nat_lt}
use Rattle.std.proofs.lemmas.Bool.Decides.{nat_tests}
use Rattle.fare_device.specs.DeviceWords.{DeviceValue}
use Rattle.fare_device.specs.Turning.{is_waiting, without, day_acknowledged}

no_more : {X : Type 0} (b : Bool) (x : X) (xs ys : List X) → length ys ≤ length xs → length (cond (not b) (x ∷ ys) ys) ≤ length (x ∷ xs)
no_more true x xs ys le = omega arith
no_more false x xs ys le = omega arith

pub length-without : (days : List (ℕ × List ℕ)) (day : ℕ) → length (without days day) ≤ length days
length-without [] day = omega arith
length-without (d ∷ ds) day = no_more (d.0 == day) d ds (without ds day) (length-without ds day)

fewer : {X : Type 0} (b w : Bool) (x : X) (xs ys : List X) → length ys ≤ length xs → nat_lt (length ys) (length xs) ≡ w → nat_lt (length (cond (not b) (x ∷ ys) ys)) (length (x ∷ xs)) ≡ (b || w)
fewer true w x xs ys le e = grind (arith, nat_tests, le)
fewer false w x xs ys le e = grind (arith, nat_tests, e)

-- there are fewer of them exactly where the day was one
pub shrinks : (days : List (ℕ × List ℕ)) (day : ℕ) → nat_lt (length (without days day)) (length days) ≡ is_waiting days day
shrinks [] day = refl
shrinks (d ∷ ds) day = fewer (d.0 == day) (is_waiting ds day) d ds (without ds day) (length-without ds day) (shrinks ds day)

same : {X : Type 0} (b w : Bool) (x : X) (xs ys : List X) → (b || w) ≡ false → (w ≡ false → ys ≡ xs) → cond (not b) (x ∷ ys) ys ≡ x ∷ xs
same true w x xs ys e f = absurd (cc)
same false w x xs ys e f = ap (λ t. x ∷ t) (f e)

-- and none goes where it was none
stays : (days : List (ℕ × List ℕ)) (day : ℕ) → is_waiting days day ≡ false → without days day ≡ days
stays [] day e = refl
stays (d ∷ ds) day e = same (d.0 == day) (is_waiting ds day) d ds (without ds day) e (stays ds day)

pub stays_same : (x : DeviceValue) (day : ℕ) → is_waiting x.days day ≡ false → day_acknowledged x day ≡ x
stays_same x day none = ap (λ (d : List (ℕ × List ℕ)). record x { days = d }) (stays x.days day none)
