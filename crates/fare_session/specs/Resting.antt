-- What the call itself takes once the threads have returned, and what it prunes.
use Rattle.std.specs.Prelude.{◌≡◌, ◌⊎◌, ℕ, ◌<◌, List, [], ◌∷◌, ◌++◌, length, slice_get, Option, None, Some, Result, OnOk}
use Rattle.std.specs.List.{AllByRecursion}
use Rattle.std.specs.Map.{keys_of}
use Rattle.fare_record.specs.declared.item.Item.{Item}
use Rattle.fare_route.specs.declared.forwarder.Forwarder.{Forwarder}
use Rattle.fare_store.specs.declared.fault.Fault.{Fault}
use Rattle.fare_store.specs.Standing.{Standing, Counted, fault_of}
use Rattle.fare_store.specs.OutboxWords.{OutboxValue}
use Rattle.fare_store.specs.LedgerWords.{LedgerValue}
use Rattle.fare_session.specs.declared.fault.SessionFault.{SessionFault}
use Rattle.fare_session.specs.declared.fault.SessionFault.TheVariants.{Refused}
use Rattle.fare_history.specs.Serving.{Cursors, moved_by_all, in_hand, pruned_to_all}
use Rattle.fare_session.specs.Stores.{stored_fault, IsOwners, Follows, HasStood, Leaves, Stays}
use Rattle.fare_session.specs.Forwarding.{IsIdle, IsBased, IsAsFar, ForwardedIf, Moves}
use Rattle.fare_session.specs.Taking.{IsTaken}

-- the cursors' lanes are how many taps a ledger has
abbrev pub MeetsLedger : List (ℕ × ℕ) → LedgerValue → Cursors → Type 0
MeetsLedger bases l c = (device : ℕ) → IsBased bases device → c.lane device ≡ length (l.taken device)

-- the ledger has kept what it held, and the lanes begin behind it
abbrev pub Behind : List (ℕ × ℕ) → Standing LedgerValue → Standing LedgerValue → Cursors → Type 0
Behind bases old new c = HasStood old new × MeetsLedger bases old.value c

abbrev pub IdleAt : List (ℕ × ℕ) → Standing OutboxValue → Standing OutboxValue → Standing LedgerValue → Standing LedgerValue → Forwarder → List Item → ℕ → Type 0
IdleAt bases xo xn lo ln f items device = (c : Cursors) → IsAsFar bases f c → Behind bases lo ln c → HasStood xo xn → IsIdle f.owner xo.value (moved_by_all c items) device

-- at most one of the two stores failed
abbrev pub IsOne : Option SessionFault → Option SessionFault → Option SessionFault → Type 0
IsOne fx fl fault = ((fx ≡ None) × (fault ≡ fl)) ⊎ ((fl ≡ None) × (fault ≡ fx))

-- the rest of the rows and statements, item by item
pub record IsRest (bases : List (ℕ × ℕ)) (xo xn : Standing OutboxValue) (lo ln : Standing LedgerValue) (f g : Forwarder) (fault : Option SessionFault) (before after held : ℕ) : Type 0 where
  pub done : List Item
  pub hand : Option Item
  pub fx : Option SessionFault
  pub fl : Option SessionFault
  pub forwarded : ForwardedIf (Behind bases lo ln) bases xo xn f g (done ++ in_hand hand) fx
  pub taken : IsTaken lo ln done hand [] fl before after
  pub count : held ≡ length (in_hand hand)
  pub one : IsOne fx fl fault
  pub skipped : fault ≡ Some Refused → xn.clean → xo.live
  pub idle : fault ≡ None → (k : ℕ) (p : ℕ × ℕ) → slice_get bases k ≡ Some p → IdleAt bases xo xn lo ln f done p.0

-- the rest of one device, wherever the cursors were; its base is not read
pub record IsDeviceRest (device : ℕ) (xo xn : Standing OutboxValue) (lo ln : Standing LedgerValue) (f g : Forwarder) (fault : Option SessionFault) (before after held : ℕ) : Type 0 where
  pub rest : IsRest ((device, 0) ∷ []) xo xn lo ln f g fault before after held
  pub moves : Moves f g (rest.done ++ in_hand rest.hand) rest.fx

-- each of these devices with how many of its taps the ledger has
abbrev pub counted_in : LedgerValue → List ℕ → List (ℕ × ℕ)
counted_in l [] = []
counted_in l (d ∷ ds) = (d, length (l.taken d)) ∷ counted_in l ds

-- the ledger told how many taps it has of each lane's device
pub record AreCounted (old new : Standing LedgerValue) (before after : List (ℕ × ℕ)) (result : Result Unit Fault) : Type 0 where
  pub stays : Stays old new (fault_of result)
  pub told : OnOk result (HasStood old new → after ≡ counted_in old.value (keys_of before))

-- these lanes are pruned, or also these more
abbrev pub IsCut : OutboxValue → ℕ → LedgerValue → List (ℕ × ℕ) → List ℕ → OutboxValue → Type 0
IsCut x owner l bases ds w = (w ≡ pruned_to_all x owner l ds) ⊎ ((more : List ℕ) × AllByRecursion (IsBased bases) more × (w ≡ pruned_to_all x owner l (ds ++ more)))

-- the lanes of these devices were pruned to the ledger's counts
pub record IsPruned (owner : ℕ) (bases : List (ℕ × ℕ)) (xo xn : Standing OutboxValue) (lo ln : Standing LedgerValue) (ds : List ℕ) (fx fl : Option Fault) : Type 0 where
  pub stays : Stays lo ln fl
  pub leaves : HasStood lo ln → Leaves xo xn fx (pruned_to_all xo.value owner lo.value ds) (IsCut xo.value owner lo.value bases ds)
  pub counted : Counted xo.failures xn.failures fx
  -- a clean outbox of which a lane was pruned was live
  pub begun : 0 < length ds → xn.clean → xo.live
  pub follows : Follows xo xn

-- all lanes were pruned, or none was
pub record IsPruning (owner : ℕ) (bases : List (ℕ × ℕ)) (xo xn : Standing OutboxValue) (lo ln : Standing LedgerValue) (fault : Option SessionFault) : Type 0 where
  pub ds : List ℕ
  pub fx : Option SessionFault
  pub fl : Option SessionFault
  pub all : (ds ≡ keys_of bases) ⊎ (ds ≡ [])
  pub pruned : IsPruned owner bases xo xn lo ln ds (stored_fault fx) (stored_fault fl)
  pub owners : IsOwners fault
  pub one : IsOne fx fl fault
  pub whole : fault ≡ None → ds ≡ keys_of bases
  pub unrefused : fault ≡ Some Refused → ⊥
