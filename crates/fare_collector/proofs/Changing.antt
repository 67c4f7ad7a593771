-- One receiver of a table is written.
use Rattle.std.proofs.Common.{◌≡◌, ℕ, ◌==◌, Bool, true, false, cond, if◌then◌else◌, nat_eq, Option, Some, None, refl, sym, ◌∙◌, ap, subst, arith}
use Rattle.std.specs.Prelude.{◌+◌, ◌≤◌, option_map, IfSome}
use Rattle.std.proofs.lemmas.Bool.Decides.{Decides-eqb, nat_tests}
use Rattle.fare_link.specs.Values.{ReceiverValue}
use Rattle.fare_collector.specs.Collecting.{changed, one_back}

pub turned : (a b : ℕ) → nat_eq a b ≡ (b == a)
turned a b = grind (arith, nat_tests)

-- the next link of that device has changed, and no other
pub written : (change : ℕ → ℕ) (device : ℕ) (old new : ℕ → Option ReceiverValue) (was is : ReceiverValue)
    → old device ≡ Some was → is.next ≡ change was.next → ((d : ℕ) → new d ≡ cond (nat_eq device d) (Some is) (old d))
    → (d : ℕ) → option_map (λ (r : ReceiverValue). r.next) (new d) ≡ changed change (λ e. option_map (λ (r : ReceiverValue). r.next) (old e)) device d
written change device old new was is there next writes d = ap (option_map (λ (r : ReceiverValue). r.next)) (writes d ∙ ap (λ b. cond b (Some is) (old d)) (turned device d)) ∙ by (d == device) refl
  where
    by : (b : Bool) → (d == device) ≡ b → option_map (λ (r : ReceiverValue). r.next) (cond b (Some is) (old d)) ≡ (if b then option_map change (option_map (λ (r : ReceiverValue). r.next) (old d)) else option_map (λ (r : ReceiverValue). r.next) (old d))
    by true same =
        let here : old d ≡ Some was = ap old ((Decides-eqb d device).0 same) ∙ there in
        ap Some next ∙ sym (ap (λ o. option_map change (option_map (λ (r : ReceiverValue). r.next) o)) here)
    by false _ = refl

-- what was there was written again
kept : (device : ℕ) (old new : ℕ → Option ReceiverValue) (was : ReceiverValue) → old device ≡ Some was
    → ((d : ℕ) → new d ≡ cond (nat_eq device d) (Some was) (old d)) → (d : ℕ) → new d ≡ old d
kept device old new was there writes d = writes d ∙ by (nat_eq device d) refl
  where
    by : (b : Bool) → nat_eq device d ≡ b → cond b (Some was) (old d) ≡ old d
    by true same = sym (ap old (sym ((Decides-eqb device d).0 same)) ∙ there)
    by false _ = refl

pub same_numbers : (device : ℕ) (old new : ℕ → Option ReceiverValue) (was : ReceiverValue) → old device ≡ Some was
    → ((d : ℕ) → new d ≡ cond (nat_eq device d) (Some was) (old d)) → (d : ℕ) → option_map (λ (r : ReceiverValue). r.next) (new d) ≡ option_map (λ (r : ReceiverValue). r.next) (old d)
same_numbers device old new was there writes d = ap (option_map (λ (r : ReceiverValue). r.next)) (kept device old new was there writes d)

-- the number that is due is that of the receiver
pub due_number : (device : Option ReceiverValue) (is : ReceiverValue) (link : ℕ) → device ≡ Some is → option_map (λ (r : ReceiverValue). r.next) device ≡ Some link → is.next ≡ link
due_number device is link there due = let e : ◌≡◌ {A = Option ℕ} (Some is.next) (Some link) = sym (ap (option_map (λ (r : ReceiverValue). r.next)) there) ∙ due in cc

pub no_number : (device : Option ReceiverValue) (link : ℕ) → device ≡ None → option_map (λ (r : ReceiverValue). r.next) device ≡ Some link → ⊥
no_number device link none due = let e : ◌≡◌ {A = Option ℕ} None (Some link) = sym (ap (option_map (λ (r : ReceiverValue). r.next)) none) ∙ due in cc

-- one more and one less
undone : (device : Option ℕ) → IfSome device (λ next. 1 ≤ next) → option_map one_back (option_map (λ next. next + 1) device) ≡ device
undone None h = refl
undone (Some next) h = ap Some (grind (arith, nat_tests))

pub undone_at : (table : ℕ → Option ℕ) (device : ℕ) → IfSome (table device) (λ next. 1 ≤ next) → (other : ℕ) → changed one_back (changed (λ next. next + 1) table device) device other ≡ table other
undone_at table device valid other = by (other == device) refl
  where
    by : (b : Bool) → (other == device) ≡ b
        → (if b then option_map one_back (if b then option_map (λ next. next + 1) (table other) else table other) else (if b then option_map (λ next. next + 1) (table other) else table other)) ≡ table other
    by true same = undone (table other) (subst (λ d. IfSome (table d) (λ next. 1 ≤ next)) (sym ((Decides-eqb other device).0 same)) valid)
    by false _ = refl
