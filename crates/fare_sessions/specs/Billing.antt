-- What a hub answers of an owner's day, and what a close makes of its ledger.
use Rattle.std.specs.Prelude.{◌≡◌, ◌≢◌, ◌↔◌, ◌+◌, ◌<◌, ℕ, nat_le, List, Option, None, Some, is_some, true, if◌then◌else◌, Result, Ok, Err, MatchResult}
use Rattle.fare_record.specs.Limits.{IsDay}
use Rattle.fare_record.specs.Values.{RecordValue}
use Rattle.fare_scheme.specs.Facts.{IsScheme}
use Rattle.fare_scheme.specs.Values.{SchemeValue}
use Rattle.fare_scheme.specs.Words.{position_of_owner}
use Rattle.fare_cap.specs.Fares.{week_start}
use Rattle.fare_owner.specs.declared.closing.CloseFault.{CloseFault}
use Rattle.fare_store.specs.declared.fault.Refused.{Refused}
use Rattle.fare_store.specs.declared.fault.Refused.TheVariants.{Because, Failed}
use Rattle.fare_store.specs.declared.fault.Fault.{Fault}
use Rattle.fare_store.specs.Standing.{Standing, Counted, Writes}
use Rattle.fare_store.specs.OutboxWords.{OutboxValue}
use Rattle.fare_store.specs.LedgerWords.{LedgerValue, AreTapsBetween, close_of, with_close}
use Rattle.fare_side.specs.declared.bill_fault.BillFault.TheVariants.{UnknownOwner, BeforeStart, NotClosed}
use Rattle.fare_side.specs.OpenDays.{first_open, short_devices}
use Rattle.fare_side.specs.declared.week_taps.WeekTaps.{WeekTaps}
use Rattle.fare_side.specs.Weeks.{IsWeekOf}
use Rattle.fare_history.specs.Stores.{StoresValue}
use Rattle.fare_agreement.specs.Parts.{first_forgotten}
use Rattle.fare_sessions.specs.declared.billing.BillingFault.{BillingFault}
use Rattle.fare_sessions.specs.declared.billing.BillingFault.TheVariants.{Unbilled, Forgotten}
use Rattle.fare_sessions.specs.declared.closing.ClosingFault.{ClosingFault}
use Rattle.fare_sessions.specs.declared.closing.ClosingFault.TheVariants as closing
use Rattle.fare_sessions.specs.declared.hub.Hub.{Hub}
use Rattle.fare_sessions.specs.Stores.{ReplacesLedger, AreClean, AreSound, StoresFollow, MayStandAs}

-- why it was refused by name, if it was
abbrev pub refusal_of : {V R : Type 0} → Result V (Refused R) → Option R
refusal_of (Ok v) = None
refusal_of (Err (Because why)) = Some why
refusal_of (Err (Failed f)) = None

-- the first device of the scheme whose day an owner's ledger has neither closed nor its lane retired
abbrev pub open_in : SchemeValue → LedgerValue → ℕ → Option ℕ
open_in sc l day = first_open sc.start l.closed l.retired day sc.devices

-- the devices whose lanes it has retired, and whose day it has not closed
abbrev pub short_in : SchemeValue → LedgerValue → ℕ → List ℕ
short_in sc l day = short_devices sc.start l.closed l.retired day sc.devices

-- the first device of which an owner's ledger does not hold all taps of a day's week
abbrev pub gone_in : SchemeValue → LedgerValue → ℕ → Option ℕ
gone_in sc l day = first_forgotten l.from (week_start sc day) sc.devices

-- why a ledger's taps of a week are not told: of this device not all of them are held, the first such one, or all are and there is no bill
abbrev pub TellsWhy : SchemeValue → ℕ → LedgerValue → BillingFault → Type 0
TellsWhy sc day l (Forgotten device) = gone_in sc l day ≡ Some device
TellsWhy sc day l (Unbilled why) = (gone_in sc l day ≡ None) × IsWeekOf sc l day (Err why)

-- what a ledger tells of a week: its taps, where all of them are held, or why not
abbrev pub TellsWeek : SchemeValue → ℕ → LedgerValue → Result WeekTaps BillingFault → Type 0
TellsWeek sc day l r = MatchResult r (λ week. (gone_in sc l day ≡ None) × IsWeekOf sc l day (Ok week)) (TellsWhy sc day l)

-- what a bill of a day is of, in an owner's ledger: of each device the day is closed or the lane retired, and nothing of its week was let go; these are the taps from where its week begins to the day, and of these devices it is short
pub record HasBasis (sc : SchemeValue) (l : LedgerValue) (day : ℕ) (rows : List RecordValue) (devices : List ℕ) : Type 0 where
  pub valid : IsScheme sc
  pub dated : IsDay day
  pub start : l.start ≡ sc.start
  pub closed : open_in sc l day ≡ None
  pub short : devices ≡ short_in sc l day
  pub held : gone_in sc l day ≡ None
  pub taps : AreTapsBetween l (week_start sc day) day rows

-- CLOSES
-- what is stated of a day, if there is such a day: the last is 100,000
abbrev pub of_a_day : (ℕ → Option ℕ) → ℕ → Option ℕ
of_a_day stated day = if nat_le day 100000 then stated day else None

-- the count that is stated of it in a ledger
abbrev pub stated_of : LedgerValue → ℕ → ℕ → Option ℕ
stated_of v device = of_a_day (v.stated device)

-- the first day of a device that is not closed
abbrev pub first_unclosed : LedgerValue → ℕ → ℕ
first_unclosed v device = v.start + v.closed device

-- the first day that is not closed, where a statement of it is held
abbrev pub IsToClose : LedgerValue → ℕ → Option ℕ → Type 0
IsToClose v device None = stated_of v device (first_unclosed v device) ≡ None
IsToClose v device (Some day) = (day ≡ first_unclosed v device) × (is_some (stated_of v device day) ≡ true)

-- the day behind the last closed one, the first one where none is
abbrev pub day_behind : Option ℕ → ℕ → ℕ
day_behind None start = start
day_behind (Some last) start = last + 1

-- the refusal of a close
abbrev pub as_hub : Result Unit (Refused CloseFault) → Result Unit (Refused ClosingFault)
as_hub (Ok _) = Ok tt
as_hub (Err (Because why)) = Err (Because (closing.Ledger why))
as_hub (Err (Failed f)) = Err (Failed f)

-- a ledger was asked to close a day of a device
pub record ClosesDay {L : Type 0} (ledger : L → Standing LedgerValue) (old new : L) (device day : ℕ) (result : Result Unit (Refused ClosingFault)) : Type 0 where
  pub answer : Result Unit (Refused CloseFault)
  pub writes : Writes (ledger old) (ledger new) (close_of (ledger old).value device day) (with_close device (ledger old).value) answer
  pub told : result ≡ as_hub answer

-- the owner's ledger of a hub was
pub record HasClosed {O L : Type 0} (ledger : L → Standing LedgerValue) (old new : Hub O L) (owner device day : ℕ) (result : Result Unit (Refused ClosingFault)) : Type 0 where
  pub one : ReplacesLedger old new owner
  pub outbox_same : new.outbox ≡ old.outbox
  pub did : ClosesDay ledger one.own_old one.own_new device day result

-- it was refused by this name, and no store was asked
abbrev pub IsRefusedAtOnce : {O L A : Type 0} → Hub O L → Hub O L → BillingFault → Result A (Refused BillingFault) → Type 0
IsRefusedAtOnce old new why result = (new ≡ old) × (result ≡ Err (Because why))

-- the owner's ledger was asked: Store is answered where its count of failures rose, and nowhere else
pub record HasAsked {O L : Type 0} (ledger : L → Standing LedgerValue) (old new : Hub O L) (owner : ℕ) (faulted : Option Fault) : Type 0 where
  pub one : ReplacesLedger old new owner
  pub cause : Counted (ledger one.own_old).failures (ledger one.own_new).failures faulted

module _ {O L : Type 0} (outbox : O → Standing OutboxValue) (ledger : L → Standing LedgerValue) where
  -- one ledger was read, at most: what may stand now might have stood before
  pub record OnlyReads (old new : Hub O L) : Type 0 where
    pub scheme : new.scheme ≡ old.scheme
    pub outbox_same : new.outbox ≡ old.outbox
    pub follow : StoresFollow outbox ledger old new
    pub sound : AreSound outbox ledger old → AreSound outbox ledger new
    pub same : AreClean outbox ledger new → AreSound outbox ledger old → (k : StoresValue) → MayStandAs outbox ledger new k → MayStandAs outbox ledger old k

  -- the first of these refusals that applies: the owner is not registered, the day is before the first one, of this device not all of its week is held, or all of it of each and this one's day is not closed and its lane not retired, each time the first such one
  pub record IsBillRefusal (old : Hub O L) (owner day : ℕ) (refused : Option BillingFault) : Type 0 where
    pub unknown : (refused ≡ Some (Unbilled UnknownOwner)) ↔ (position_of_owner old.scheme owner ≡ None)
    pub early : (refused ≡ Some (Unbilled BeforeStart)) ↔ ((position_of_owner old.scheme owner ≢ None) × (day < old.scheme.start))
    pub not_closed : (device : ℕ) → refused ≡ Some (Unbilled (NotClosed device)) → (h : StoresValue) → MayStandAs outbox ledger old h → (gone_in old.scheme (h.ledgers owner) day ≡ None) × (open_in old.scheme (h.ledgers owner) day ≡ Some device)
    pub forgotten_of : (device : ℕ) → refused ≡ Some (Forgotten device) → (h : StoresValue) → MayStandAs outbox ledger old h → gone_in old.scheme (h.ledgers owner) day ≡ Some device
