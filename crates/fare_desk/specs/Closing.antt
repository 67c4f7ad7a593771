-- Closing all days that can be closed, lane by lane, and what is written of it.
use Rattle.std.specs.Prelude.{◌≡◌, ℕ, zero, suc, ◌+◌, ◌<◌, ◌≤◌, true, false, nat_lt, List, [], ◌∷◌, ◌++◌, map, codes, Option, Some, None, IfSome, Result, Ok, Err, if◌then◌else◌}
use Rattle.std.specs.List.{flat_map}
use Rattle.std.specs.Fmt.{decimal}
use Rattle.std.specs.Io.KnownBytes.{Appends}
use Rattle.std.specs.Map.{keys_of}
use Rattle.fare_record.specs.Lanes.{day_count}
use Rattle.fare_record.specs.Limits.{IsDay}
use Rattle.fare_record.specs.Values.{RecordValue}
use Rattle.fare_scheme.specs.Values.{SchemeValue}
use Rattle.fare_store.specs.Standing.{Standing}
use Rattle.fare_store.specs.Tables.{put}
use Rattle.fare_store.specs.OutboxWords.{OutboxValue}
use Rattle.fare_store.specs.LedgerWords.{LedgerValue, close_of}
use Rattle.fare_owner.specs.declared.closing.CloseFault.{CloseFault}
use Rattle.fare_owner.specs.declared.closing.CloseFault.TheVariants as close
use Rattle.fare_event.specs.declared.reply.Refusal.{Refusal}
use Rattle.fare_event.specs.declared.reply.Refusal.TheVariants as refusal
use Rattle.fare_event.specs.declared.reply.Reply.{Reply}
use Rattle.fare_event.specs.declared.reply.Reply.TheVariants as reply
use Rattle.fare_lines.specs.Replies.{reply_text}
use Rattle.fare_history.specs.Stores.{StoresValue}
use Rattle.fare_agreement.specs.Agreeing.{AreNumberedLists}
use Rattle.fare_sessions.specs.declared.hub.Hub.{Hub}
use Rattle.fare_sessions.specs.Billing.{first_unclosed, stated_of}
use Rattle.fare_sessions.specs.Stores.{AreClean, AreSound, StoresFollow, MayStandAs, IsAgreed, HasGrown, HasLasted}

-- A LANE
-- the first day of a device that is not closed behind so many further closes
abbrev pub unclosed_day : LedgerValue → ℕ → ℕ → ℕ
unclosed_day v device n = first_unclosed v device + n

-- the taps of a day that the ledger holds of a device
abbrev pub counted : LedgerValue → ℕ → ℕ → ℕ
counted v device day = day_count (v.taken device) day

-- the count that is stated of a day is that of its taps
abbrev pub IsMet : LedgerValue → ℕ → ℕ → Type 0
IsMet v device day = stated_of v device day ≡ Some (counted v device day)

-- so many days of a device can be closed, from its first one that isn't on, and no more
pub record CanClose (v : LedgerValue) (device n : ℕ) : Type 0 where
  pub each : (k : ℕ) → k < n → IsMet v device (unclosed_day v device k)
  pub no_more : IsMet v device (unclosed_day v device n) → ⊥

-- a day is the one behind the last that was closed, where one was
abbrev pub IsDayBehind : Option ℕ → ℕ → Type 0
IsDayBehind None day = Unit {0}
IsDayBehind (Some last) day = day ≡ last + 1

-- the ledger with so many more days of a device closed
abbrev pub with_closes : ℕ → ℕ → LedgerValue → LedgerValue
with_closes device n v = record v { closed = put v.closed device (v.closed device + n) }

-- REPLIES
abbrev pub close_refusal : CloseFault → Refusal
close_refusal close.Retired = refusal.Retired
close_refusal close.Unstated = refusal.Unstated
close_refusal close.AlreadyClosed = refusal.AlreadyClosed
close_refusal close.OutOfOrder = refusal.OutOfOrder
close_refusal (close.CountsShort stated taken) = refusal.CountsShort stated taken
close_refusal (close.CountsOver stated taken) = refusal.CountsOver stated taken

-- the reply to a close, as a trace has it
abbrev pub reply_of : ℕ → ℕ → Result Unit CloseFault → Reply
reply_of device day (Ok _) = reply.Closed device day
reply_of device day (Err why) = reply.Refused (close_refusal why)

-- LINES
-- what came of closing a day
abbrev pub try_line : ℕ → ℕ → ℕ → Reply → List ℕ
try_line owner device day r = (codes "close " ++ (decimal owner ++ (codes " " ++ (decimal device ++ (codes " " ++ (decimal day ++ codes ": ")))))) ++ reply_text r

-- the lines of so many days in a row that were closed
abbrev pub closed_lines : ℕ → ℕ → ℕ → ℕ → List ℕ
closed_lines owner device first zero = []
closed_lines owner device first (suc n) = closed_lines owner device first n ++ try_line owner device (first + n) (reply.Closed device (first + n))

-- the day behind them, where it was refused
abbrev pub refused_line : ℕ → ℕ → ℕ → Option CloseFault → List ℕ
refused_line owner device day None = []
refused_line owner device day (Some why) = try_line owner device day (reply.Refused (close_refusal why))

-- the lines of a lane: of days in a row, none behind day 100,000, each of which was closed but the last, which may have been refused
pub record AreTries (owner device : ℕ) (text : List ℕ) : Type 0 where
  pub first : ℕ
  pub closed : ℕ
  pub refused : Option CloseFault
  pub closed_dated : first + closed ≤ 100001
  pub refused_dated : IfSome refused (λ why. IsDay (first + closed))
  pub is : text ≡ closed_lines owner device first closed ++ refused_line owner device (first + closed) refused

-- the day behind them is refused for its count, where one is stated
abbrev pub miscounted : ℕ → ℕ → Refusal
miscounted stated taken = if nat_lt taken stated then refusal.CountsShort stated taken else refusal.CountsOver stated taken

abbrev pub last_line : ℕ → ℕ → ℕ → Option ℕ → ℕ → List ℕ
last_line owner device day None taken = []
last_line owner device day (Some stated) taken = try_line owner device day (reply.Refused (miscounted stated taken))

abbrev pub lane_lines : ℕ → ℕ → LedgerValue → ℕ → List ℕ
lane_lines owner device v n =
    closed_lines owner device (first_unclosed v device) n
    ++ last_line owner device (unclosed_day v device n) (stated_of v device (unclosed_day v device n)) (counted v device (unclosed_day v device n))

-- LANES
-- each owner with each device, in the scheme's orders
abbrev pub lanes_with : ℕ → List ℕ → List (ℕ × ℕ)
lanes_with owner devices = map (λ device. (owner, device)) devices

abbrev pub lanes_of : SchemeValue → List (ℕ × ℕ)
lanes_of sc = flat_map (λ owner. lanes_with owner (keys_of sc.devices)) (keys_of sc.owners)

abbrev pub with_lane : ℕ → ℕ → ℕ → StoresValue → StoresValue
with_lane owner device n h = record { outbox = h.outbox; ledgers = put h.ledgers owner (with_closes device n (h.ledgers owner)) }

-- what the closes of a lane make of the stores h: the stores k, and these lines. Of a lane that is retired nothing is tried: there is no line, and the stores are as they were. Of one that isn't, all days are closed that can be.
pub record ClosesLane (owner device : ℕ) (h : StoresValue) (text : List ℕ) (k : StoresValue) : Type 0 where
  pub of_retired : (h.ledgers owner).retired device ≡ true → (text ≡ []) × (k ≡ h)
  pub of_other : (h.ledgers owner).retired device ≡ false → (n : ℕ) × CanClose (h.ledgers owner) device n × (text ≡ lane_lines owner device (h.ledgers owner) n) × (k ≡ with_lane owner device n h)

-- what these lanes' closes make of them, one lane after the other
abbrev pub ClosesLanes : List (ℕ × ℕ) → StoresValue → List ℕ → StoresValue → Type 0
ClosesLanes [] h text k = (text ≡ []) × (k ≡ h)
ClosesLanes (lane ∷ lanes) h text k = (own : List ℕ) × (rest : List ℕ) × (m : StoresValue) × ClosesLane lane.0 lane.1 h own m × (text ≡ own ++ rest) × ClosesLanes lanes m rest k

-- the lines of lanes, one after the other
abbrev pub AreLinesOf : List (ℕ × ℕ) → List ℕ → Type 0
AreLinesOf [] text = text ≡ []
AreLinesOf (lane ∷ lanes) text = (own : List ℕ) × (rest : List ℕ) × AreTries lane.0 lane.1 own × (text ≡ own ++ rest) × AreLinesOf lanes rest

-- the stores after a close
abbrev pub after_close : ℕ → ℕ → Result Unit CloseFault → StoresValue → StoresValue
after_close owner device (Ok _) h = with_lane owner device 1 h
after_close owner device (Err why) h = h

-- HUBS
module _ {O L : Type 0} (outbox : O → Standing OutboxValue) (ledger : L → Standing LedgerValue) where
  -- the stores go on: what fits together stays so, and rows that agree with what the devices numbered stay so and stay as this says
  pub record GoesOnAs (Stays : Hub O L → Hub O L → Type 0) (old new : Hub O L) : Type 0 where
    pub scheme : new.scheme ≡ old.scheme
    pub follow : StoresFollow outbox ledger old new
    pub sound : AreSound outbox ledger old → AreSound outbox ledger new
    pub agrees : AreClean outbox ledger new → AreSound outbox ledger old → (lists : ℕ → List RecordValue) → AreNumberedLists lists → IsAgreed outbox ledger lists old → IsAgreed outbox ledger lists new
    pub stays : AreClean outbox ledger new → AreSound outbox ledger old → (lists : ℕ → List RecordValue) → AreNumberedLists lists → IsAgreed outbox ledger lists old → Stays old new

  -- and they lose nothing
  abbrev pub GoesOn : Hub O L → Hub O L → Type 0
  GoesOn = GoesOnAs (HasGrown outbox ledger)

  -- or nothing but what is let go
  abbrev pub GoesOnLettingGo : Hub O L → Hub O L → Type 0
  GoesOnLettingGo = GoesOnAs (HasLasted outbox ledger)

  -- a close was answered this
  pub record HasAnswered (owner device day : ℕ) (old new : Hub O L) (answer : Result Unit CloseFault) : Type 0 where
    pub came : AreClean outbox ledger new → AreSound outbox ledger old → (k : StoresValue) → MayStandAs outbox ledger new k → (h : StoresValue) × MayStandAs outbox ledger old h × (close_of (h.ledgers owner) device day ≡ answer) × (k ≡ after_close owner device answer h)

  -- the closes of these lanes were made, but of retired ones none, and their lines written
  pub record HasClosedLanes (lanes : List (ℕ × ℕ)) (old new : Hub O L) (before after : Option (List ℕ)) : Type 0 where
    pub text : List ℕ
    pub written : Appends before after text
    pub lines : AreLinesOf lanes text
    pub came : AreClean outbox ledger new → AreSound outbox ledger old → (k : StoresValue) → MayStandAs outbox ledger new k → (h : StoresValue) × MayStandAs outbox ledger old h × ClosesLanes lanes h text k
