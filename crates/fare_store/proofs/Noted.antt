-- A day's taps are noted.
use Rattle.std.proofs.Common.{◌≡◌, ℕ, Bool, true, false, cond, nat_eq, [], ◌∷◌, ◌++◌, Option, Some, refl, ◌∙◌, ap}
use Rattle.std.specs.Prelude.{if◌then◌else◌, Vec}
use Rattle.std.specs.Global.{Global}
use Rattle.fare_store.specs.Tables.{put}
use Rattle.fare_store.specs.TapPlaces.{Mark, marks_of}
use Rattle.fare_store.proofs.Tables.{turned, same_number}

pub unnoted : (day : ℕ) (old new : ℕ → Option (Vec Mark Global)) (is : Vec Mark Global) → is.items ≡ marks_of (old day) → ((d : ℕ) → new d ≡ cond (nat_eq day d) (Some is) (old d)) → (d : ℕ) → marks_of (new d) ≡ marks_of (old d)
unnoted day old new is same writes d = ap marks_of (writes d) ∙ by (nat_eq day d) refl
  where
    by : (b : Bool) → nat_eq day d ≡ b → marks_of (cond b (Some is) (old d)) ≡ marks_of (old d)
    by true here = same ∙ ap (λ e. marks_of (old e)) (same_number day d here)
    by false _ = refl

pub noted : (day : ℕ) (mark : Mark) (old new : ℕ → Option (Vec Mark Global)) (is : Vec Mark Global) → is.items ≡ marks_of (old day) ++ mark ∷ [] → ((d : ℕ) → new d ≡ cond (nat_eq day d) (Some is) (old d))
    → (d : ℕ) → marks_of (new d) ≡ put (λ e. marks_of (old e)) day (marks_of (old day) ++ mark ∷ []) d
noted day mark old new is more writes d = ap marks_of (writes d) ∙ by (nat_eq day d) ∙ ap (λ b. if b then marks_of (old day) ++ mark ∷ [] else marks_of (old d)) (turned day d)
  where
    by : (b : Bool) → marks_of (cond b (Some is) (old d)) ≡ (if b then marks_of (old day) ++ mark ∷ [] else marks_of (old d))
    by true = more
    by false = refl
