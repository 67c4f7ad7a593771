-- The taps of one device are written.
use Rattle.std.proofs.Common.{◌≡◌, ℕ, Bool, true, false, cond, nat_eq, [], ◌∷◌, ◌++◌, Option, Some, is_some, refl, sym, ◌∙◌, ap}
use Rattle.std.specs.Prelude.{if◌then◌else◌, Vec}
use Rattle.std.specs.Global.{Global}
use Rattle.fare_record.specs.Values.{RecordValue}
use Rattle.fare_store.specs.Tables.{put}
use Rattle.fare_store.specs.TapPlaces.{items_of}
use Rattle.fare_store.proofs.Tables.{turned, same_number}

pub lent_items : (device : ℕ) (old new : ℕ → Option (Vec RecordValue Global)) (was is : Vec RecordValue Global) → old device ≡ Some was → is.items ≡ was.items → ((d : ℕ) → new d ≡ cond (nat_eq device d) (Some is) (old d)) → (d : ℕ) → items_of (new d) ≡ items_of (old d)
lent_items device old new was is there same writes d = ap items_of (writes d) ∙ by (nat_eq device d) refl
  where
    by : (b : Bool) → nat_eq device d ≡ b → items_of (cond b (Some is) (old d)) ≡ items_of (old d)
    by true here = same ∙ sym (ap items_of (sym (ap old (same_number device d here)) ∙ there))
    by false _ = refl

pub lent_known : (device : ℕ) (old new : ℕ → Option (Vec RecordValue Global)) (was is : Vec RecordValue Global) → old device ≡ Some was → ((d : ℕ) → new d ≡ cond (nat_eq device d) (Some is) (old d)) → (d : ℕ) → is_some (new d) ≡ is_some (old d)
lent_known device old new was is there writes d = ap is_some (writes d) ∙ by (nat_eq device d) refl
  where
    by : (b : Bool) → nat_eq device d ≡ b → is_some (cond b (Some is) (old d)) ≡ is_some (old d)
    by true here = sym (ap is_some (sym (ap old (same_number device d here)) ∙ there))
    by false _ = refl

pub lent_more : (device : ℕ) (r : RecordValue) (old new : ℕ → Option (Vec RecordValue Global)) (was is : Vec RecordValue Global) → old device ≡ Some was → is.items ≡ was.items ++ r ∷ [] → ((d : ℕ) → new d ≡ cond (nat_eq device d) (Some is) (old d))
    → (d : ℕ) → items_of (new d) ≡ put (λ e. items_of (old e)) device (items_of (old device) ++ r ∷ []) d
lent_more device r old new was is there more writes d = ap items_of (writes d) ∙ by (nat_eq device d) ∙ ap (λ b. if b then items_of (old device) ++ r ∷ [] else items_of (old d)) (turned device d)
  where
    by : (b : Bool) → items_of (cond b (Some is) (old d)) ≡ (if b then items_of (old device) ++ r ∷ [] else items_of (old d))
    by true = more ∙ ap (λ o. items_of o ++ r ∷ []) (sym there)
    by false = refl
