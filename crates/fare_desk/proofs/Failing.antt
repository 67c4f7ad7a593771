-- A fault that is handed on, and what was written then.
use Rattle.std.proofs.Common.{◌≡◌, ◌≢◌, ◌⊎◌, ℕ, List, false, None, inl, inr, refl, sym, ap, ◌∙◌, subst}
use Rattle.std.specs.Prelude.{Option, Result, Ok, Err, IfErr, IfOk, IsErrAnd, OnOk, is_some}
use Rattle.std.specs.Io.KnownBytes.{Keeps}
use Rattle.std.proofs.KnownBytes.{Keeps-refl}
use Rattle.fare_store.specs.declared.fault.Fault.{Fault}
use Rattle.fare_store.specs.declared.fault.Fault.TheVariants as fault
use Rattle.fare_desk.specs.Faults.{is_refusal, name_of, of_store, refused_of}
use Rattle.fare_desk.specs.declared.fault.DeskFault.{DeskFault}
use Rattle.fare_desk.specs.declared.fault.DeskFault.TheVariants.{Memory, Store, Write}

-- what is so of an answer is so of no fault
pub ok_of_none : {A E : Type 0} (r : Result A E) (Q : E → Type 0) (X : Type 0) → IsErrAnd r Q → OnOk r X
ok_of_none (Ok a) Q X is = absurd is
ok_of_none (Err f) Q X is = tt

pub told_of_none : {A E : Type 0} (r : Result A E) (Q : E → Type 0) (P : A → Type 0) → IsErrAnd r Q → IfOk r P
told_of_none (Ok a) Q P is = absurd is
told_of_none (Err f) Q P is = tt

-- what is so of a fault is so of an answer that is it
pub err_is : {A : Type 0} (r : Result A DeskFault) (f : DeskFault) (P : DeskFault → Type 0) → IsErrAnd r (λ q. q ≡ f) → P f → IfErr r P
err_is (Ok a) f P is so = tt
err_is (Err q) f P is so = subst P (sym is) so

pub refused_is : {A : Type 0} (r : Result A DeskFault) (f : DeskFault) → IsErrAnd r (λ q. q ≡ f) → refused_of r ≡ name_of f
refused_is (Ok a) f is = absurd is
refused_is (Err q) f is = ap name_of is

-- A STORE FAILED
store_is_none : (f : Fault) → is_refusal (of_store f) ≡ false
store_is_none fault.Memory = refl
store_is_none fault.Store = refl

pub store_unnamed : {A : Type 0} (r : Result A DeskFault) (f : Fault) → IsErrAnd r (λ q. q ≡ of_store f) → IfErr r (λ q. is_refusal q ≡ false)
store_unnamed (Ok a) f is = tt
store_unnamed (Err q) f is = ap is_refusal is ∙ store_is_none f

pub store_kept : {A : Type 0} (r : Result A DeskFault) (before : Option (List ℕ)) → IfErr r (λ q. q ≢ Write → Keeps before before)
store_kept (Ok a) before = tt
store_kept (Err q) before = λ _. Keeps-refl before

pub memory_or_store : (f : Fault) (q : DeskFault) → q ≡ of_store f → (q ≡ Memory) ⊎ (q ≡ Store)
memory_or_store fault.Memory q is = inl is
memory_or_store fault.Store q is = inr is

-- THE WRITER FAILED
pub write_unnamed : {A : Type 0} (r : Result A DeskFault) → IfErr r (λ q. q ≡ Write) → IfErr r (λ q. is_refusal q ≡ false)
write_unnamed (Ok a) is = tt
write_unnamed (Err q) is = ap is_refusal is

pub write_kept : {A : Type 0} (r : Result A DeskFault) (before after : Option (List ℕ)) → IfErr r (λ q. q ≡ Write) → IfErr r (λ q. q ≢ Write → Keeps before after)
write_kept (Ok a) before after is = tt
write_kept (Err q) before after is = λ other. absurd (other is)

pub handed_unnamed : {A : Type 0} (r : Result A DeskFault) (f : DeskFault) → IsErrAnd r (λ q. q ≡ f) → f ≡ Write → IfErr r (λ q. is_refusal q ≡ false)
handed_unnamed (Ok a) f is write = tt
handed_unnamed (Err q) f is write = ap is_refusal (is ∙ write)

-- THERE WAS NO MEMORY FOR A REPLY, OR THE WRITER FAILED
pub memory_failed : {A : Type 0} (r : Result A DeskFault) → IsErrAnd r (λ q. q ≡ Memory) → IfErr r (λ q. (q ≡ Memory) ⊎ (q ≡ Write))
memory_failed (Ok a) is = absurd is
memory_failed (Err q) is = inl is

pub write_failed : {A : Type 0} (r : Result A DeskFault) → IfErr r (λ q. q ≡ Write) → IfErr r (λ q. (q ≡ Memory) ⊎ (q ≡ Write))
write_failed (Ok a) is = tt
write_failed (Err q) is = inr is

pub reply_refused : {A : Type 0} (r : Result A DeskFault) → IfErr r (λ q. (q ≡ Memory) ⊎ (q ≡ Write)) → refused_of r ≡ None
reply_refused (Ok a) is = refl
reply_refused (Err q) (inl is) = ap name_of is
reply_refused (Err q) (inr is) = ap name_of is

pub reply_named : {A : Type 0} (r : Result A DeskFault) → IfErr r (λ q. (q ≡ Memory) ⊎ (q ≡ Write)) → IfErr r (λ q. is_refusal q ≡ is_some (name_of q))
reply_named (Ok a) is = tt
reply_named (Err q) (inl is) = subst (λ q. is_refusal q ≡ is_some (name_of q)) (sym is) refl
reply_named (Err q) (inr is) = subst (λ q. is_refusal q ≡ is_some (name_of q)) (sym is) refl
