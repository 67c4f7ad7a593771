-- What a store may hold after one call, by what the call answered.
use Rattle.std.proofs.Common.{◌≡◌, ℕ, refl, sym, subst, inl, inr}
use Rattle.std.specs.Prelude.{Option, None, Result, Ok, Err, ◌⊎◌}
use Rattle.fare_store.specs.declared.fault.Fault.{Fault}
use Rattle.fare_store.specs.declared.fault.Refused.{Refused}
use Rattle.fare_store.specs.declared.fault.Refused.TheVariants as refused
use Rattle.fare_store.specs.Standing.{Standing, Calls, Does, Counts, IsSound, Reads, Removes, Writes, fault_in, fault_of}
use Rattle.fare_history.specs.Holding.{MayHold, Leads, IsFit}

-- RELATIONS
pub leads_self : {V : Type 0} (s : Standing V) → Leads (λ w v. v ≡ w) s s
leads_self s = record { leads = λ v may. (v, may, refl) }

-- one after the other
pub leads_join : {V : Type 0} (R Q : V → V → Type 0) (s t u : Standing V) → Leads R s t → Leads Q t u → Leads (λ w v. (m : V) × R w m × Q m v) s u
leads_join R Q s t u first second = record { leads = λ v may. let last = second.leads v may in let one = first.leads last.0 last.1 in (one.0, one.1, (last.0, one.2, last.2)) }

pub leads_weaken : {V : Type 0} (R Q : V → V → Type 0) (s t : Standing V) → ((w v : V) → R w v → Q w v) → Leads R s t → Leads Q s t
leads_weaken R Q s t f one = record { leads = λ v may. let last = one.leads v may in (last.0, last.1, f last.0 v last.2) }

-- ANY CALL
-- whatever it answered, the store may hold what it might have held, or what the call did or would have committed
pub called_leads : {V : Type 0} (R : V → V → Type 0) (old new : Standing V) (f : Option Fault) (did : Type 0) (commits : V → Type 0) → Calls old new f did commits
    → (did → R old.value new.value) → ((v : V) → commits v → R old.value v) → ((v : V) → R v v) → IsFit old → new.clean → Leads R old new
called_leads {V} R old new f did commits call does would same fit clean = record { leads = by }
  where
    by : (v : V) → MayHold new v → (w : V) × MayHold old w × R w v
    by v (inl is) = let before = call.live is.0 in (old.value, inl (before, refl), subst (λ x. R old.value x) (sym is.1) (does (call.value is.0 (fit.lawful before)).1))
    by v (inr left) = elim (call.stop clean fit.lawful v left) [ inl was ↦ (v, inr was, same v) | inr done ↦ (old.value, inl (done.0, refl), would v done.1) ]

-- a clean store that answers other than by a fault is live: it may hold what the call did, and nothing else
pub answered_leads : {V : Type 0} (R : V → V → Type 0) (old new : Standing V) (did : Type 0) (commits : V → Type 0) → Calls old new None did commits
    → (did → R old.value new.value) → IsFit old → IsSound new → new.clean → Leads R old new
answered_leads {V} R old new did commits call does fit sound clean = record { leads = λ v may. (old.value, inl (before, refl), subst (λ x. R old.value x) (sym (value v may)) (does is.1)) }
  where
    live : new.live
    live = call.stays refl clean

    before : old.live
    before = call.live live

    is : new.lawful × did
    is = call.value live (fit.lawful before)

    value : (v : V) → MayHold new v → v ≡ new.value
    value v (inl held) = held.1
    value v (inr left) = sound.settled live is.0 v left

-- READS
pub read_leads : {V A : Type 0} (answer : A → Type 0) (old new : Standing V) (result : Result A Fault) → Reads old new answer result → IsFit old → new.clean → Leads (λ w v. v ≡ w) old new
read_leads answer old new result call fit clean =
    called_leads (λ w v. v ≡ w) old new (fault_of result) _ (λ v. ⊥) call (λ did. did.0) (λ v wrong. absurd wrong) (λ v. refl) fit clean

-- what it answered is so of all that the store may hold
pub told_leads : {V A : Type 0} (answer : V → A → Type 0) (old new : Standing V) (told : A) → Reads old new (answer old.value) (Ok told) → IsFit old → IsSound new → new.clean → Leads (λ w v. (v ≡ w) × answer w told) old new
told_leads answer old new told call fit sound clean =
    answered_leads (λ w v. (v ≡ w) × answer w told) old new _ (λ v. ⊥) call (λ did. did) fit sound clean

-- WRITES
-- it may hold what it might have held, or what the write commits where it is judged Ok
pub write_leads : {V R : Type 0} (judged : V → Result Unit R) (done : V → V) (old new : Standing V) (result : Result Unit (Refused R)) → Writes old new (judged old.value) (done old.value) result → IsFit old → new.clean
    → Leads (λ w v. (v ≡ w) ⊎ ((judged w ≡ Ok tt) × (v ≡ done w))) old new
write_leads {V} {R} judged done old new result call fit clean =
    called_leads (λ w v. (v ≡ w) ⊎ ((judged w ≡ Ok tt) × (v ≡ done w))) old new (fault_in result) (Does old.value new.value (judged old.value) (done old.value) result) (λ v. (judged old.value ≡ Ok tt) × (v ≡ done old.value)) call
    (does result) (λ v is. inr is) (λ v. inl refl) fit clean
  where
    does : (q : Result Unit (Refused R)) → Does old.value new.value (judged old.value) (done old.value) q → (new.value ≡ old.value) ⊎ ((judged old.value ≡ Ok tt) × (new.value ≡ done old.value))
    does (Ok u) is = inr is
    does (Err (refused.Because why)) is = inl is.1
    does (Err (refused.Failed f)) is = inl is

-- after one that succeeded it may hold what the write commits, and nothing else
pub done_leads : {V R : Type 0} (judged : V → Result Unit R) (done : V → V) (old new : Standing V) → Writes old new (judged old.value) (done old.value) (Ok tt) → IsFit old → IsSound new → new.clean
    → Leads (λ w v. (judged w ≡ Ok tt) × (v ≡ done w)) old new
done_leads judged done old new call fit sound clean = answered_leads (λ w v. (judged w ≡ Ok tt) × (v ≡ done w)) old new _ _ call (λ did. did) fit sound clean

-- after a refusal by name it may hold what it might have held, of which it is judged so
pub refused_leads : {V R : Type 0} (judged : V → Result Unit R) (done : V → V) (old new : Standing V) (why : R) → Writes old new (judged old.value) (done old.value) (Err (refused.Because why)) → IsFit old → IsSound new → new.clean
    → Leads (λ w v. (judged w ≡ Err why) × (v ≡ w)) old new
refused_leads judged done old new why call fit sound clean = answered_leads (λ w v. (judged w ≡ Err why) × (v ≡ w)) old new _ _ call (λ did. did) fit sound clean

-- REMOVALS
-- it may hold what it might have held, or what the removal commits
pub removal_leads : {V : Type 0} (done : V → V) (count : V → ℕ) (old new : Standing V) (result : Result ℕ Fault) → Removes old new (done old.value) (count old.value) result → IsFit old → new.clean → Leads (λ w v. (v ≡ w) ⊎ (v ≡ done w)) old new
removal_leads {V} done count old new result call fit clean =
    called_leads (λ w v. (v ≡ w) ⊎ (v ≡ done w)) old new (fault_of result) (Counts old.value new.value (done old.value) (count old.value) result) (λ v. v ≡ done old.value) call
    (does result) (λ v is. inr is) (λ v. inl refl) fit clean
  where
    does : (q : Result ℕ Fault) → Counts old.value new.value (done old.value) (count old.value) q → (new.value ≡ old.value) ⊎ (new.value ≡ done old.value)
    does (Ok n) is = inr is.1
    does (Err f) is = inl is

pub removed_leads : {V : Type 0} (done : V → V) (count : V → ℕ) (old new : Standing V) (removed : ℕ) → Removes old new (done old.value) (count old.value) (Ok removed) → IsFit old → IsSound new → new.clean
    → Leads (λ w v. (removed ≡ count w) × (v ≡ done w)) old new
removed_leads done count old new removed call fit sound clean = answered_leads (λ w v. (removed ≡ count w) × (v ≡ done w)) old new _ _ call (λ did. did) fit sound clean

-- FITNESS
pub fit_still : {V : Type 0} (old new : Standing V) (f : Option Fault) (did : Type 0) (commits : V → Type 0) → Calls old new f did commits → IsFit old → IsSound new → IsFit new
fit_still old new f did commits call fit sound = record { sound = sound; lawful = λ live. (call.value live (fit.lawful (call.live live))).0 }
