-- The retired lanes of a plain ledger, a set of their devices.
use Rattle.std.proofs.Common.{◌≡◌, ℕ, Bool, true, false, cond, nat_eq, List, [], ◌∷◌, length, refl, sym, ◌∙◌, ap, arith}
use Rattle.std.specs.Prelude.{◌||◌}
use Rattle.std.specs.List.{list_any}
use Rattle.std.proofs.lemmas.Bool.Decides.{nat_tests}
use Rattle.fare_store.specs.Tables.{put}
use Rattle.fare_store.proofs.Tables.{turned}

-- one more is retired
pub retired_put : (device : ℕ) (old new : ℕ → Bool) → ((d : ℕ) → new d ≡ cond (nat_eq device d) true (old d)) → (d : ℕ) → new d ≡ put old device true d
retired_put device old new writes d = writes d ∙ ap (λ b. cond b true (old d)) (turned device d)

pub none_retired : (devices : List ℕ) → length devices ≡ 0 → (d : ℕ) → list_any (nat_eq d) devices ≡ false
none_retired [] none d = refl
none_retired (e ∷ es) none d = absurd (omega (arith, none))

pub all_working : (devices : List ℕ) → ((d : ℕ) → list_any (nat_eq d) devices ≡ false) → length devices ≡ 0
all_working [] none = refl
all_working (e ∷ es) none =
    let here : nat_eq e e ≡ true = grind (arith, nat_tests) in
    absurd (let both : true ≡ false = sym (ap (λ b. b || list_any (nat_eq e) es) here) ∙ none e in cc)
