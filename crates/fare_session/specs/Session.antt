-- What a whole session did, over the bases of its working lanes, and of all that it prunes.
use Rattle.std.specs.Prelude.{◌≡◌, ◌⊎◌, ℕ, ◌<◌, ◌≤◌, min, List, [], ◌++◌, length, slice_get, Option, None, Some}
use Rattle.std.specs.List.{AllByRecursion}
use Rattle.std.specs.Map.{keys_of}
use Rattle.fare_record.specs.declared.item.Item.{Item}
use Rattle.fare_route.specs.declared.forwarder.Forwarder.{Forwarder}
use Rattle.fare_store.specs.declared.fault.Fault.{Fault}
use Rattle.fare_store.specs.declared.fault.Fault.TheVariants as fault
use Rattle.fare_store.specs.Standing.{Standing, Counted}
use Rattle.fare_store.specs.OutboxWords.{OutboxValue}
use Rattle.fare_store.specs.LedgerWords.{LedgerValue}
use Rattle.fare_session.specs.declared.fault.SessionFault.{SessionFault}
use Rattle.fare_session.specs.declared.fault.SessionFault.TheVariants.{Refused, Store}
use Rattle.fare_session.specs.declared.report.OwnerReport.{OwnerReport}
use Rattle.fare_history.specs.Serving.{Cursors, device_of, moved_by_all, AreNextItems, AreUnrefused, given_all, in_hand, tried_in, Service, put_by, pruned_to_all, IsDated}
use Rattle.fare_session.specs.Taking.{added_by}
use Rattle.fare_session.specs.Stores.{IsOwners, Follows, HasStood, Leaves}
use Rattle.fare_session.specs.Forwarding.{IsIdle, IsBased, IsAsFar, AreBases, Skips, Forwarded}
use Rattle.fare_session.specs.Taking.{IsTaken, IsImage, InHand, IsRefusedHand}
use Rattle.fare_session.specs.Resting.{MeetsLedger}

-- what the two threads did, and then the call with what was left in the queue
pub record IsThreaded (bases : List (ℕ × ℕ)) (room : ℕ) (xo xn : Standing OutboxValue) (lo ln : Standing LedgerValue) (f g : Forwarder) (put fault : Option SessionFault) (before after left : ℕ) : Type 0 where
  pub sent : List Item
  pub done : List Item
  pub hand : Option Item
  pub queue : List Item
  pub forwarded : Forwarded bases xo xn f g sent put
  pub taken : IsTaken lo ln done hand queue fault before after
  pub has : InHand fault hand
  pub all : sent ≡ done ++ (in_hand hand ++ queue)
  pub few : length queue ≤ room
  pub count : left ≡ length (in_hand hand ++ queue)
  pub none : fault ≡ None → queue ≡ []

-- why an item was refused: a lane has a gap, or the ledger does not take the item in the hand
abbrev pub IsRefusal : List (ℕ × ℕ) → ℕ → OutboxValue → LedgerValue → Cursors → Service → Type 0
IsRefusal bases owner x l c v = Skips bases owner x (moved_by_all c v.taken) ⊎ IsRefusedHand (given_all l v.taken) v.hand

-- nothing is left, and nothing comes next any more
pub record IsWhole (bases lanes : List (ℕ × ℕ)) (xo xn : Standing OutboxValue) (lo ln : Standing LedgerValue) (f : Forwarder) (v : Service) : Type 0 where
  pub hand : v.hand ≡ None
  pub queue : v.queue ≡ []
  pub pruned : v.pruned ≡ keys_of lanes
  pub idle : (c : Cursors) → IsAsFar bases f c → MeetsLedger bases lo.value c → AreBases bases c → HasStood xo xn → HasStood lo ln → (k : ℕ) (p : ℕ × ℕ) → slice_get bases k ≡ Some p → IsIdle f.owner xo.value (moved_by_all c v.taken) p.0

-- these lanes are pruned, or, with nothing in the hand, also these more
abbrev pub IsCutWith : Option Item → OutboxValue → ℕ → LedgerValue → List (ℕ × ℕ) → List ℕ → OutboxValue → Type 0
IsCutWith hand x owner l lanes ds w = (w ≡ pruned_to_all x owner l ds) ⊎ ((hand ≡ None) × ((more : List ℕ) × AllByRecursion (IsBased lanes) more × (w ≡ pruned_to_all x owner l (ds ++ more))))

pub record IsSession (bases lanes : List (ℕ × ℕ)) (room : ℕ) (xo xn : Standing OutboxValue) (lo ln : Standing LedgerValue) (f : Forwarder) (report : OwnerReport) : Type 0 where
  pub v : Service
  pub fx : Option Fault
  pub fl : Option Fault
  pub next : (c : Cursors) → IsAsFar bases f c → MeetsLedger bases lo.value c → AreBases bases c → HasStood xo xn → HasStood lo ln → AreNextItems f.owner xo.value c (put_by v)
  pub known : AllByRecursion (λ i. IsBased bases (device_of i)) (put_by v)
  pub few : length v.queue ≤ room
  pub registered : (v.pruned ≡ keys_of lanes) ⊎ (v.pruned ≡ [])
  pub ledger : Leaves lo ln fl (given_all lo.value v.taken) (IsImage lo.value v.taken (tried_in v.hand v.queue))
  pub outbox : HasStood lo ln → Leaves xo xn fx (pruned_to_all xo.value f.owner (given_all lo.value v.taken) v.pruned) (IsCutWith v.hand xo.value f.owner (given_all lo.value v.taken) lanes v.pruned)
  pub counted : Counted xo.failures xn.failures fx
  -- a clean outbox was live where it answered
  pub begun : 0 < length (put_by v) → xn.clean → xo.live
  pub cut : 0 < length v.pruned → xn.clean → xo.live
  pub skipped : report.fault ≡ Some Refused → xn.clean → xo.live
  pub unpruned : (i : Item) → v.hand ≡ Some i → v.pruned ≡ []
  pub owners : IsOwners report.fault
  pub follows : Follows xo xn
  pub stays : report.fault ≡ None → (fx ≡ None) × (fl ≡ None)
  pub taken : HasStood lo ln → report.taken ≡ min (added_by lo.value v.taken) 18446744073709551615
  pub unrefused : HasStood lo ln → AreUnrefused lo.value v.taken
  pub dated : AllByRecursion IsDated v.taken
  pub left : report.left ≡ length (in_hand v.hand ++ v.queue)
  pub cause : report.fault ≡ Some Store → (fx ≡ Some fault.Store) ⊎ (fl ≡ Some fault.Store)
  pub refused : report.fault ≡ Some Refused → (c : Cursors) → IsAsFar bases f c → MeetsLedger bases lo.value c → AreBases bases c → HasStood xo xn → HasStood lo ln → IsRefusal bases f.owner xo.value lo.value c v
  pub whole : report.fault ≡ None → IsWhole bases lanes xo xn lo ln f v
