-- How a store stands between two calls, and what a call makes of that.
use Rattle.std.specs.Prelude.{◌≡◌, ℕ, ◌<◌, ◌≤◌, ◌⊎◌, Option, None, Some, Result, Ok, Err, IfOk}
use Rattle.fare_store.specs.declared.fault.Fault.{Fault}
use Rattle.fare_store.specs.declared.fault.Fault.TheVariants as fault
use Rattle.fare_store.specs.declared.fault.Refused.{Refused}
use Rattle.fare_store.specs.declared.fault.Refused.TheVariants as refused

pub record Standing (V : Type 0) : Type 1 where
  -- what it holds
  pub value : V
  -- it has kept what was committed, so far
  pub clean : Type 0
  -- the same, and no failure has shut it
  pub live : Type 0
  -- what it holds fits together
  pub lawful : Type 0
  -- how many of its calls have answered Store; it stays at the greatest count
  pub failures : ℕ
  -- what an open after a stop at this moment may find
  pub may_leave : V → Type 0
  -- whatever that is, it fits together, so that an open takes it
  pub lasting : Type 0

-- the count of failures rises where the answer is Store, up to the greatest count, and nowhere else
abbrev pub Counted : ℕ → ℕ → Option Fault → Type 0
Counted old new (Some fault.Store) = (old < new) ⊎ (18446744073709551615 ≤ old)
Counted old new (Some fault.Memory) = new ≡ old
Counted old new None = new ≡ old

-- One call of a store: what it did, and what it committed. Nothing is said of what a store holds that has not
-- kept what was committed, or that a failure has shut.
pub record Calls {V : Type 0} (old new : Standing V) (faulted : Option Fault) (did : Type 0) (commits : V → Type 0) : Type 0 where
  -- a live store that was lawful stays so, and did this
  pub value : new.live → old.lawful → new.lawful × did
  -- a stop leaves what it could have left before the call, or what the call commits
  pub stop : new.clean → (old.live → old.lawful) → (v : V) → new.may_leave v → old.may_leave v ⊎ (old.live × commits v)
  -- and that fits together as before
  pub lasts : new.clean → (old.live → old.lawful) → old.lasting → new.lasting
  -- what is spoiled or shut stays so
  pub clean : new.clean → old.clean
  pub live : new.live → old.live
  -- a clean store that succeeds is live, and so is one that refuses by name: a store that was shut answers with a fault
  pub stays : faulted ≡ None → new.clean → new.live
  -- Store is answered only where the count of failures rises
  pub cause : Counted old.failures new.failures faulted

-- the laws of a store: while it is live it is clean, and a stop leaves what it holds, which fits together where the store is lawful; and a stop leaves something as long as it is clean, also once a failure has shut it
pub record IsSound {V : Type 0} (s : Standing V) : Type 0 where
  pub clean : s.live → s.clean
  pub settled : s.live → s.lawful → (v : V) → s.may_leave v → v ≡ s.value
  pub lasting : s.live → s.lawful → s.lasting
  pub some : s.clean → ∥ ((v : V) × s.may_leave v) ∥₁

-- a store was opened again after a stop: it is live and lawful, and holds what the stop might have left
pub record Reopens {V : Type 0} (old new : Standing V) : Type 0 where
  pub live : new.live
  pub lawful : new.lawful
  pub value : old.may_leave new.value

-- the fault of an answer, if it is one
abbrev pub fault_of : {A : Type 0} → Result A Fault → Option Fault
fault_of (Ok answer) = None
fault_of (Err f) = Some f

abbrev pub fault_in : {A R : Type 0} → Result A (Refused R) → Option Fault
fault_in (Ok answer) = None
fault_in (Err (refused.Because why)) = None
fault_in (Err (refused.Failed f)) = Some f

-- a read: an answer, and nothing changes
abbrev pub Reads : {V A : Type 0} → Standing V → Standing V → (A → Type 0) → Result A Fault → Type 0
Reads old new answer result = Calls old new (fault_of result) ((new.value ≡ old.value) × IfOk result answer) (λ v. ⊥)

-- what a call leaves that is refused as it is judged, or done
abbrev pub Does : {V R : Type 0} → V → V → Result Unit R → V → Result Unit (Refused R) → Type 0
Does old new judged done (Ok _) = (judged ≡ Ok tt) × (new ≡ done)
Does old new judged done (Err (refused.Because why)) = (judged ≡ Err why) × (new ≡ old)
Does old new judged done (Err (refused.Failed f)) = new ≡ old

-- a write: refused as it is judged, and then nothing changes, nor would a stop; or done
abbrev pub Writes : {V R : Type 0} → Standing V → Standing V → Result Unit R → V → Result Unit (Refused R) → Type 0
Writes old new judged done result = Calls old new (fault_in result) (Does old.value new.value judged done result) (λ v. (judged ≡ Ok tt) × (v ≡ done))

-- what a removal leaves, and how much it removed
abbrev pub Counts : {V : Type 0} → V → V → V → ℕ → Result ℕ Fault → Type 0
Counts old new done count (Ok n) = (n ≡ count) × (new ≡ done)
Counts old new done count (Err f) = new ≡ old

-- a removal
abbrev pub Removes : {V : Type 0} → Standing V → Standing V → V → ℕ → Result ℕ Fault → Type 0
Removes old new done count result = Calls old new (fault_of result) (Counts old.value new.value done count result) (λ v. v ≡ done)

-- done, or failed, and then nothing changes
abbrev pub Makes : {V A E : Type 0} → V → V → V → Result A E → Type 0
Makes old new done (Ok answer) = new ≡ done
Makes old new done (Err e) = new ≡ old

-- a write that nothing refuses
abbrev pub Changes : {V A : Type 0} → Standing V → Standing V → V → Result A Fault → Type 0
Changes old new done result = Calls old new (fault_of result) (Makes old.value new.value done result) (λ v. v ≡ done)

-- a store in memory: nothing spoils it, and a stop leaves what it holds
abbrev pub plain : {V : Type 0} → V → Standing V
plain v = record { value = v; clean = Unit {0}; live = Unit {0}; lawful = Unit {0}; failures = 0; may_leave = λ w. w ≡ v; lasting = Unit {0} }
