-- Calls of a store in memory.
use Rattle.std.proofs.Common.{◌≡◌, ℕ, List, Some, None, refl, sym, ◌∙◌, subst, inl, inr}
use Rattle.std.specs.Prelude.{◌⊎◌, Option, Result, IsErrAnd}
use Rattle.fare_store.specs.Batches.{WritesFirst}
use Rattle.fare_store.specs.declared.fault.Fault.{Fault}
use Rattle.fare_store.specs.declared.fault.Fault.TheVariants as fault
use Rattle.fare_store.specs.declared.fault.Refused.{Refused}
use Rattle.fare_store.specs.declared.fault.Refused.TheVariants as refused
use Rattle.fare_store.specs.Standing.{Calls, Counted, Writes, plain}
use Rattle.fare_store.proofs.Readings.{write_failed, first_failed}

-- it fails, but for want of memory
abbrev pub IsPlainFault : Option Fault → Type 0
IsPlainFault f = f ≡ Some fault.Store → ⊥

counted : (f : Option Fault) → IsPlainFault f → Counted 0 0 f
counted None not = refl
counted (Some fault.Memory) not = refl
counted (Some fault.Store) not = absurd (not refl)

-- a call that did this, and left what was there or what it commits
pub plain_call : {V : Type 0} (old new : V) (f : Option Fault) (did : Type 0) (commits : V → Type 0) → IsPlainFault f → did → (new ≡ old) ⊎ commits new → Calls (plain old) (plain new) f did commits
plain_call old new f did commits not d kept = record {
  value = λ live lawful. (tt, d);
  stop = λ clean lawful v is. elim kept [ inl same ↦ inl (is ∙ same) | inr done ↦ inr (tt, subst commits (sym is) done) ];
  lasts = λ clean lawful lasting. tt;
  clean = λ h. h;
  live = λ h. h;
  stays = λ e clean. tt;
  cause = counted f not;
}

-- a write that fails for want of memory, and leaves what was there
pub plain_write_failed : {V R : Type 0} (old new : V) (judged : Result Unit R) (done : V) (r : Result Unit (Refused R)) → IsErrAnd r (λ why. why ≡ refused.Failed fault.Memory) → new ≡ old → Writes (plain old) (plain new) judged done r
plain_write_failed old new judged done r is same = write_failed (plain old) (plain new) judged done r fault.Memory is (plain_call old new (Some fault.Memory) _ _ (λ e. absurd (cc)) same (inl same))

-- the same of several at once
pub plain_first_failed : {V A R : Type 0} (judged : V → A → Result Unit R) (done : A → V → V) (old new : V) (items : List A) (r : Result ℕ Fault) → IsErrAnd r (λ f. f ≡ fault.Memory) → new ≡ old → WritesFirst judged done (plain old) (plain new) items r
plain_first_failed judged done old new items r is same = first_failed judged done (plain old) (plain new) items r fault.Memory is (plain_call old new (Some fault.Memory) _ _ (λ e. absurd (cc)) same (inl same))
