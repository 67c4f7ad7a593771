-- What several calls of a store made of it.
use Rattle.std.specs.Prelude.{◌≡◌, ◌⊎◌, Option, None, Some}
use Rattle.fare_store.specs.declared.fault.Fault.{Fault}
use Rattle.fare_store.specs.declared.fault.Fault.TheVariants as fault
use Rattle.fare_store.specs.Standing.{Standing, Counted}
use Rattle.fare_session.specs.declared.fault.SessionFault.{SessionFault}
use Rattle.fare_session.specs.declared.fault.SessionFault.TheVariants.{Source, Unexpected, Refused, Memory, Store}

abbrev pub session_fault : Fault → SessionFault
session_fault fault.Memory = Memory
session_fault fault.Store = Store

-- the fault of the store in a session's fault, if it is one
abbrev pub stored_fault : Option SessionFault → Option Fault
stored_fault None = None
stored_fault (Some (Source station)) = None
stored_fault (Some (Unexpected station)) = None
stored_fault (Some Refused) = None
stored_fault (Some Memory) = Some fault.Memory
stored_fault (Some Store) = Some fault.Store

-- a fault of an owner's session: it has no sources
abbrev pub IsOwners : Option SessionFault → Type 0
IsOwners None = Unit {0}
IsOwners (Some (Source station)) = ⊥
IsOwners (Some (Unexpected station)) = ⊥
IsOwners (Some Refused) = Unit {0}
IsOwners (Some Memory) = Unit {0}
IsOwners (Some Store) = Unit {0}

-- the store was live and lawful, and it has kept what was committed
pub record HasStood {V : Type 0} (old new : Standing V) : Type 0 where
  pub live : old.live
  pub lawful : old.lawful
  pub clean : new.clean

-- what is spoiled or shut stays so, and a live store that was lawful stays so, whatever was called
pub record Follows {V : Type 0} (old new : Standing V) : Type 0 where
  pub clean : new.clean → old.clean
  pub live : new.live → old.live
  pub lawful : new.live → old.lawful → new.lawful
  -- and what a stop may leave of it fits together as before
  pub lasts : new.clean → (old.live → old.lawful) → old.lasting → new.lasting

-- Calls of a store, or none, of which the last one may have failed: what they did, and what they committed. It is what
-- one call says, but that a store of which nothing was asked may have been shut all along.
pub record Called {V : Type 0} (old new : Standing V) (faulted : Option Fault) (did : Type 0) (commits : V → Type 0) : Type 0 where
  pub value : new.live → old.lawful → new.lawful × did
  pub stop : new.clean → (old.live → old.lawful) → (v : V) → new.may_leave v → old.may_leave v ⊎ (old.live × commits v)
  pub lasts : new.clean → (old.live → old.lawful) → old.lasting → new.lasting
  pub clean : new.clean → old.clean
  pub live : new.live → old.live
  pub stays : faulted ≡ None → old.live → new.clean → new.live
  pub cause : Counted old.failures new.failures faulted

-- What the store holds after such calls while it is live, and what a stop may leave.
pub record Leaves {V : Type 0} (old new : Standing V) (faulted : Option Fault) (value : V) (images : V → Type 0) : Type 0 where
  pub calls : Called old new faulted (new.value ≡ value) images
  pub left : HasStood old new → (v : V) → new.may_leave v → images v

-- a store that was only read
abbrev pub Stays : {V : Type 0} → Standing V → Standing V → Option Fault → Type 0
Stays old new faulted = Leaves old new faulted old.value (λ v. v ≡ old.value)
