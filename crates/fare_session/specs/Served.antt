-- What a session of an owner did, whatever its stores might have held when it began.
use Rattle.std.specs.Prelude.{◌≡◌, ◌⊎◌, ℕ, ◌<◌, ◌≤◌, ◌+◌, min, List, [], ◌++◌, length, Option, None, Some}
use Rattle.std.specs.List.{AllByRecursion}
use Rattle.fare_scheme.specs.Values.{SchemeValue}
use Rattle.fare_store.specs.Standing.{Standing}
use Rattle.fare_store.specs.OutboxWords.{OutboxValue}
use Rattle.fare_store.specs.LedgerWords.{LedgerValue, IsOfScheme}
use Rattle.fare_record.specs.declared.item.Item.{Item}
use Rattle.fare_history.specs.Serving.{AreUnrefused, given_all, in_hand, tried_in, Service, pruned_to_all, IsOfDevice, IsDated, IsService}
use Rattle.fare_history.specs.Plainly.{IsFinished, ServesPlainly, IsWholeService, ShowsWhy}
use Rattle.fare_history.specs.Holding.{MayHold, Leads}
use Rattle.fare_session.specs.declared.fault.SessionFault.{SessionFault}
use Rattle.fare_session.specs.declared.fault.SessionFault.TheVariants.{Refused, Store}
use Rattle.fare_session.specs.declared.report.OwnerReport.{OwnerReport}
use Rattle.fare_session.specs.Stores.{IsOwners, Follows}
use Rattle.fare_session.specs.Taking.{added_by, IsImage}

-- THE STORES
-- Both stores have kept what was committed. If they were live when the session began, what they held fit together, and
-- the ledger was this owner's, made with this scheme.
pub record AreFit (sc : SchemeValue) (owner : ℕ) (xo xn : Standing OutboxValue) (lo ln : Standing LedgerValue) : Type 0 where
  pub outbox : xn.clean
  pub ledger : ln.clean
  pub rows : xo.live → xo.lawful
  pub lists : lo.live → lo.lawful
  pub mine : lo.live → (lo.value.owner ≡ owner) × IsOfScheme sc lo.value

-- the ledger has what was taken, and behind it a first part of what was tried when a take failed: the item in the hand and those behind it in the queue, none of which it refuses. Where the hand is empty there is none.
abbrev pub IsTakenBy : Service → LedgerValue → LedgerValue → Type 0
IsTakenBy v l m = IsImage l v.taken (tried_in v.hand v.queue) m

-- the lanes are pruned up to the counts of a ledger, or also these more, whose pruning failed
abbrev pub IsPrunedBy : SchemeValue → ℕ → LedgerValue → Service → OutboxValue → OutboxValue → Type 0
IsPrunedBy sc owner m v x y = (y ≡ pruned_to_all x owner m v.pruned) ⊎ ((v.hand ≡ None) × ((more : List ℕ) × AllByRecursion (IsOfDevice sc) more × (y ≡ pruned_to_all x owner m (v.pruned ++ more))))

-- a count of failures rose, or it was the greatest
abbrev pub Rose : ℕ → ℕ → Type 0
Rose old new = (old < new) ⊎ (18446744073709551615 ≤ old)

-- A SESSION
-- the next row of a lane leaves out a lane number behind what the ledger has of the device
pub record HasGap (sc : SchemeValue) (owner : ℕ) (x : OutboxValue) (l : LedgerValue) : Type 0 where
  pub device : ℕ
  pub lane : ℕ
  pub known : IsOfDevice sc device
  pub held : x.rows owner device lane ≡ None → ⊥
  pub behind : length (l.taken device) + 1 < lane
  pub gap : x.rows owner device (length (l.taken device) + 1) ≡ None

-- why an item was refused: a lane has a gap, or the item in the hand is the next row of its lane and of a closed day, or a statement of which the ledger has another count
abbrev pub HasCause : SchemeValue → ℕ → Service → OutboxValue → LedgerValue → Type 0
HasCause sc owner v x l = HasGap sc owner x (given_all l v.taken) ⊎ ((i : Item) × (v.hand ≡ Some i) × ShowsWhy owner x (given_all l v.taken) i)

-- what the report and the service say of an outbox and a ledger as they were when the session began
pub record SaysOfService (sc : SchemeValue) (owner : ℕ) (v : Service) (report : OwnerReport) (x : OutboxValue) (l : LedgerValue) : Type 0 where
  pub service : IsService sc owner x l v
  pub unrefused : AreUnrefused l v.taken
  pub taken : report.taken ≡ min (added_by l v.taken) 18446744073709551615
  pub refused : report.fault ≡ Some Refused → HasCause sc owner v x l
  pub whole : report.fault ≡ None → IsFinished sc owner x l v

pub record IsServed (sc : SchemeValue) (owner : ℕ) (xo xn : Standing OutboxValue) (lo ln : Standing LedgerValue) (report : OwnerReport) : Type 0 where
  -- where the owner stopped in a batch, the item that it stopped at is in its hand, and those behind it come first in its queue
  pub v : Service
  -- whatever the stores might have held when it began, also where a failure had shut one of them
  pub says : AreFit sc owner xo xn lo ln → (x : OutboxValue) (l : LedgerValue) → MayHold xo x → MayHold lo l → SaysOfService sc owner v report x l
  -- whatever the ledger may hold now is led to, by what was taken, from something that it might have held
  pub ledger : AreFit sc owner xo xn lo ln → Leads (IsTakenBy v) lo ln
  -- whatever the two may hold now, the outbox is pruned up to the ledger's counts and no further
  pub outbox : AreFit sc owner xo xn lo ln → (m : LedgerValue) → MayHold ln m → Leads (IsPrunedBy sc owner m v) xo xn
  -- while they are live they hold exactly that
  pub ledger_holds : AreFit sc owner xo xn lo ln → ln.live → ln.value ≡ given_all lo.value v.taken
  pub outbox_holds : AreFit sc owner xo xn lo ln → ln.live → xn.live → xn.value ≡ pruned_to_all xo.value owner ln.value v.pruned
  -- each statement that was taken is of a day that there is
  pub dated : AllByRecursion IsDated v.taken
  -- nothing is pruned before all is taken
  pub order : (i : Item) → v.hand ≡ Some i → v.pruned ≡ []
  pub left : report.left ≡ length (in_hand v.hand ++ v.queue)
  pub kinds : IsOwners report.fault
  pub cause : report.fault ≡ Some Store → Rose xo.failures xn.failures ⊎ Rose lo.failures ln.failures
  -- a session without a fault leaves both stores live
  pub stays : report.fault ≡ None → AreFit sc owner xo xn lo ln → xn.live × ln.live
  pub outbox_follows : Follows xo xn
  pub ledger_follows : Follows lo ln

-- what a session did, for an outbox y and a ledger m that the stores may hold now
pub record WasServed (sc : SchemeValue) (owner : ℕ) (xo : Standing OutboxValue) (lo : Standing LedgerValue) (report : OwnerReport) (y : OutboxValue) (m : LedgerValue) : Type 0 where
  -- what they might have held when it began
  pub x : OutboxValue
  pub l : LedgerValue
  pub outbox : MayHold xo x
  pub ledger : MayHold lo l
  -- lists grew by the rows that follow, no closed day changed, and only rows that are taken went
  pub plain : ServesPlainly owner x y l m
  -- old statements stay
  pub stay : (device day count : ℕ) → l.stated device day ≡ Some count → m.stated device day ≡ Some count
  -- without a fault all is taken, and all that is taken is pruned
  pub whole : report.fault ≡ None → IsWholeService sc owner x y l m

abbrev pub report_of : ℕ → ℕ → Option SessionFault → OwnerReport
report_of taken left fault = record { taken = taken; left = left; fault = fault }
