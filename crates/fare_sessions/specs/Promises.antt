-- What a list of sessions promises of lists of taps, and of its report.
use Rattle.std.specs.Prelude.{◌≡◌, ◌≤◌, ◌<◌, ◌+◌, ℕ, min, true, is_some, List, [], ◌∷◌, ◌++◌, length, slice_get, slice_index_or, Some, Vec, if◌then◌else◌, unwrap_or, option_map}
use Rattle.std.specs.Global.{Global}
use Rattle.std.specs.List.{AllByRecursion, list_all}
use Rattle.fare_record.specs.Values.{RecordValue}
use Rattle.fare_record.specs.declared.item.Item.TheVariants as item
use Rattle.fare_frame.specs.declared.frame.Frame.{Frame}
use Rattle.fare_frame.specs.declared.frame.Frame.TheVariants as frame
use Rattle.fare_scheme.specs.Values.{SchemeValue}
use Rattle.fare_scheme.specs.Words.{station_of}
use Rattle.fare_source.specs.Talking.{Talk}
use Rattle.fare_store.specs.Standing.{Standing}
use Rattle.fare_store.specs.OutboxWords.{OutboxValue}
use Rattle.fare_store.specs.LedgerWords.{LedgerValue}
use Rattle.fare_history.specs.Stores.{StoresValue}
use Rattle.fare_history.specs.Stores as history
use Rattle.fare_session.specs.declared.fault.SessionFault.{SessionFault}
use Rattle.fare_collect.specs.declared.station.Station.{Station}
use Rattle.fare_collect.specs.Collected.{source_of}
use Rattle.fare_agreement.specs.Agreeing.{AreNumberedLists, IsOf, Agrees}
use Rattle.fare_agreement.specs.Stopping.{AreAnswered}
use Rattle.fare_sessions.specs.declared.hub.Hub.{Hub}
use Rattle.fare_sessions.specs.declared.session.Session.{Session}
use Rattle.fare_sessions.specs.declared.session.Session.TheVariants.{Collect}
use Rattle.fare_sessions.specs.declared.report.SessionsReport.{SessionsReport}
use Rattle.fare_sessions.specs.Course.{Tally, last_place}
use Rattle.fare_sessions.specs.Stores.{AreClean, AreSound, IsAgreed, MayStandAs}
use Rattle.fare_sessions.specs.Boundaries.{HaveLed}

-- FRAMES
-- a frame of a registered device says what the lists say: a tap is the one of its link, and a statement has its day's count
abbrev pub IsFrameOf : SchemeValue → (ℕ → List RecordValue) → Frame → Type 0
IsFrameOf sc lists (frame.Tapped r) = is_some (station_of sc r.device) ≡ true → IsOf lists (item.Tap r)
IsFrameOf sc lists (frame.Stated v) = is_some (station_of sc v.device) ≡ true → IsOf lists (item.Stated v)
IsFrameOf sc lists _ = Unit {0}

-- the outbox has had what the frame acknowledges: a number is at most the greatest link that it has had of the device, or for a day it holds the device's statements for all owners
abbrev pub IsFrameCovered : SchemeValue → OutboxValue → Frame → Type 0
IsFrameCovered sc x (frame.Acked a) = a.upto ≤ x.upto a.device
IsFrameCovered sc x (frame.DayAcked a) = list_all (λ o. is_some (x.stated o.0 a.device a.day)) sc.owners ≡ true
IsFrameCovered sc x _ = ⊥

module _ {S : Type 0} (talks : S → Talk) where
  -- each source of a session, before the call and after it
  abbrev pub OfEachSource : (S → S → Type 0) → List (Session S) → List (Session S) → Type 0
  OfEachSource P olds news = (place : ℕ) (before after : Vec (Station S) Global) → slice_get olds place ≡ Some (Collect before) → slice_get news place ≡ Some (Collect after)
      → (k : ℕ) (d : Station S) → k < length before.items → P (source_of (slice_index_or before.items k d)) (source_of (slice_index_or after.items k d))

  -- each frame that a source gave in the call is of the lists
  pub record GaveOf (sc : SchemeValue) (lists : ℕ → List RecordValue) (olds news : List (Session S)) : Type 0 where
    pub of : OfEachSource (λ old new. (more : List Frame) → (talks new).given ≡ (talks old).given ++ more → AllByRecursion (IsFrameOf sc lists) more) olds news

  -- each acknowledgement that a source was answered in the call is covered by the outbox
  pub record AreCovered (sc : SchemeValue) (x : OutboxValue) (olds news : List (Session S)) : Type 0 where
    pub covered : OfEachSource (λ old new. (more : List Frame) × ((talks new).answered ≡ (talks old).answered ++ more) × AllByRecursion (IsFrameCovered sc x) more) olds news

-- THE REPORT
-- how many of the sessions ran: all, or those up to the one of the last fault where the supervisor gave up
abbrev pub ran : SessionsReport → ℕ → ℕ
ran report all = if report.gave_up then unwrap_or (option_map (λ place. place + 1) (last_place report.faults.items)) 0 else all

-- the faults are of these sessions, in the order of the sessions
abbrev pub AreInOrder : ℕ → List (ℕ × SessionFault) → ℕ → Type 0
AreInOrder from [] all = Unit {0}
AreInOrder from (f ∷ fs) all = (from ≤ f.0) × (f.0 < all) × AreInOrder f.0 fs all

-- the sessions from a place on are as they were
pub record AreUntouched {S : Type 0} (from : ℕ) (olds news : List (Session S)) : Type 0 where
  pub len : length news ≡ length olds
  pub same : (place : ℕ) → from ≤ place → slice_get news place ≡ slice_get olds place

-- so much was added, and counted up to the greatest number of 64 bits
abbrev pub IsAdded : ℕ → ℕ → ℕ → Type 0
IsAdded old new counted = (more : ℕ) × (new ≡ old + more) × (counted ≡ min more 18446744073709551615)

module _ {S O L : Type 0} (talks : S → Talk) (outbox : O → Standing OutboxValue) (ledger : L → Standing LedgerValue) where
  -- WHAT IS ASKED
  -- What each promise about lists of taps asks of a call: the stores have kept what was committed, and what they held before
  -- fitted together; the lists are numbered as devices number their taps, the frames that the sources gave are of them, and what the
  -- stores held before agreed with them.
  pub record Trusted (old new : Hub O L) (olds news : List (Session S)) (lists : ℕ → List RecordValue) : Type 0 where
    pub clean : AreClean outbox ledger new
    pub sound : AreSound outbox ledger old
    pub numbered : AreNumberedLists lists
    pub gave : GaveOf talks old.scheme lists olds news
    pub agreed : IsAgreed outbox ledger lists old

  -- THE BOUNDARIES
  -- Stores k came of the sessions that ran, from stores that might have stood before, by way of stores at each boundary; what the sessions were answered, each acknowledgement and each take, is in them, where the first of these stores agree with lists of which the sources' frames are.
  pub record CameOf (old : Hub O L) (olds news : List (Session S)) (report : SessionsReport) (k : StoresValue) : Type 0 where
    pub h : StoresValue
    pub stood : MayStandAs outbox ledger old h
    pub tally : Tally
    pub qs : List history.Session
    pub led : HaveLed old.scheme talks olds news (ran report (length olds)) h k tally qs
    pub stored : report.stored ≡ min tally.stored 18446744073709551615
    pub taken : report.taken ≡ min tally.taken 18446744073709551615
    pub left : report.left ≡ min tally.left 18446744073709551615
    pub faults : report.faults.items ≡ tally.faults
    pub answered : (lists : ℕ → List RecordValue) → AreNumberedLists lists → GaveOf talks old.scheme lists olds news → Agrees old.scheme lists h → AllByRecursion (AreAnswered old.scheme k) qs
