-- One cursor of a table is written.
use Rattle.std.proofs.Common.{◌≡◌, ℕ, ◌==◌, Bool, true, false, cond, nat_eq, Option, Some, refl, sym, ◌∙◌, ap, arith}
use Rattle.std.specs.Prelude.{if◌then◌else◌, option_map, Result, Ok, Err, OnErr}
use Rattle.std.proofs.lemmas.Bool.Decides.{Decides-eqb, nat_tests}
use Rattle.fare_route.specs.declared.cursor.Cursor.{Cursor}
use Rattle.fare_route.specs.Routing.{changed}

pub turned : (a b : ℕ) → nat_eq a b ≡ (b == a)
turned a b = grind (arith, nat_tests)

pub written : (change : Cursor → Cursor) (device : ℕ) (old new : ℕ → Option Cursor) (was is : Cursor) → old device ≡ Some was → is ≡ change was → ((d : ℕ) → new d ≡ cond (nat_eq device d) (Some is) (old d)) → (d : ℕ) → new d ≡ changed change old device d
written change device old new was is there next writes d = writes d ∙ ap (λ b. cond b (Some is) (old d)) (turned device d) ∙ by (d == device) refl
  where
    by : (b : Bool) → (d == device) ≡ b → cond b (Some is) (old d) ≡ (if b then option_map change (old d) else old d)
    by true same =
        let here : old d ≡ Some was = ap old ((Decides-eqb d device).0 same) ∙ there in
        ap {B = Option Cursor} Some next ∙ sym (ap (option_map change) here)
    by false _ = refl

pub kept : (device : ℕ) (old new : ℕ → Option Cursor) (was : Cursor) → old device ≡ Some was → ((d : ℕ) → new d ≡ cond (nat_eq device d) (Some was) (old d)) → (d : ℕ) → new d ≡ old d
kept device old new was there writes d = writes d ∙ by (nat_eq device d) refl
  where
    by : (b : Bool) → nat_eq device d ≡ b → cond b (Some was) (old d) ≡ old d
    by true same = sym (ap old (sym ((Decides-eqb device d).0 same)) ∙ there)
    by false _ = refl

pub on_err : {A E : Type 0} (r : Result A E) (P : Type 0) → P → OnErr r P
on_err (Ok x) P p = tt
on_err (Err e) P p = p
