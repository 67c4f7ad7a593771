-- An outbox that fails at one of its calls.
use Rattle.std.proofs.Common.{◌≡◌, ℕ, ◌+◌, ◌-◌, ◌==◌, Some, None, false, ap, subst, arith, inl, inr}
use Rattle.std.specs.Prelude.{Option, if◌then◌else◌}
use Rattle.std.proofs.lemmas.Bool.Decides.{nat_tests}
use Rattle.fare_store.specs.declared.fault.Fault.{Fault}
use Rattle.fare_store.specs.declared.fault.Fault.TheVariants as fault
use Rattle.fare_store.specs.Standing.{Standing, Calls, Counted}
use Rattle.fare_store.specs.Failing.{failing}

counted_more : (k old new : ℕ) (f : Option Fault) → Counted old new f → Counted (k + old) (k + new) f
counted_more k old new (Some fault.Store) (inl less) = inl (omega (arith, less))
counted_more k old new (Some fault.Store) (inr most) = inr (omega (arith, most))
counted_more k old new (Some fault.Memory) same = ap (λ n. k + n) same
counted_more k old new None same = ap (λ n. k + n) same

abbrev own : ℕ → ℕ
own left = if left == 0 then 1 else 0

counted_as : (k l old new : ℕ) (f : Option Fault) → k ≡ l → Counted old new f → Counted (k + old) (l + new) f
counted_as k l old new f same c = subst (λ m. Counted (k + old) (m + new) f) same (counted_more k old new f c)

-- a call that isn't the one that fails is passed on
pub passed_on : {V : Type 0} (left after : ℕ) (old new : Standing V) (f : Option Fault) (did : Type 0) (commits : V → Type 0) → after ≡ left - 1 → (left == 1) ≡ false → Calls old new f did commits → Calls (failing left old) (failing after new) f did commits
passed_on left after old new f did commits one_less other c = record {
  value = c.value;
  stop = c.stop;
  lasts = c.lasts;
  clean = c.clean;
  live = c.live;
  stays = c.stays;
  cause = counted_as (own left) (own after) old.failures new.failures f (grind (arith, nat_tests)) c.cause;
}
