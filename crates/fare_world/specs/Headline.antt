-- What an owner has taken and closed, beside what a device numbered for it.
use Rattle.std.specs.Prelude.{◌≡◌, ◌≢◌, ℕ, ◌+◌, ◌-◌, ◌<◌, ◌≤◌, ◌&&◌, Bool, true, false, List, [], ◌∷◌, ◌++◌, length, filter, nat_le, Option, Some, None, unwrap_or, slice_get, ◌⊎◌}
use Rattle.std.specs.List.{AllByRecursion, flat_map}
use Rattle.fare_record.specs.Values.{RecordValue}
use Rattle.fare_record.specs.Lanes.{of_device, lane_of, day_count}
use Rattle.fare_scheme.specs.Values.{SchemeValue}
use Rattle.fare_scheme.specs.Words.{owner_of}
use Rattle.fare_event.specs.declared.event.Event.{Event}
use Rattle.fare_event.specs.declared.event.Event.TheVariants as event
use Rattle.fare_event.specs.declared.reply.Reply.{Reply}
use Rattle.fare_event.specs.declared.reply.Reply.TheVariants.{Refused, Recorded, Taken, Closed}
use Rattle.fare_event.specs.declared.reply.Refusal.TheVariants.{Stranger, Misrouted, AckAhead, NotMine, AfterClose, Conflict, CountsOver, Duplicate, Gap}
use Rattle.fare_store.specs.Tables.{put}
use Rattle.fare_world.specs.System.{System, day_of, numbered_for, taken_by}
use Rattle.fare_side.specs.OpenDays.{is_closed}

-- THE NUMBERED TAPS, as the events and their replies alone tell
-- the record that a tap answered with these numbers has
abbrev pub record_of : ℕ → ℕ → ℕ → ℕ → ℕ → ℕ → ℕ → Option ℕ → Option ℕ → Option RecordValue
record_of device product token moment route link lane (Some owner) (Some day) =
    Some (record { device = device; link = link; owner = owner; lane = lane; tap = record { product = product; token = token; moment = moment; day = day; route = route } })
record_of device product token moment route link lane owner day = None

abbrev pub numbered_by : SchemeValue → Event → Reply → Option RecordValue
numbered_by sc (event.Tap device product route token moment) (Recorded link lane) =
    record_of device product token moment (unwrap_or route 0) link lane (owner_of sc product) (day_of sc moment)
numbered_by sc e r = None

abbrev pub with_first : Option RecordValue → List RecordValue → List RecordValue
with_first None rs = rs
with_first (Some r) rs = r ∷ rs

-- the records that the answered taps numbered, in order
abbrev pub numbered : SchemeValue → List Event → List Reply → List RecordValue
numbered sc (e ∷ es) (r ∷ rs) = with_first (numbered_by sc e r) (numbered sc es rs)
numbered sc es rs = []

-- the first list is where the second begins: equal records at equal places
abbrev pub IsPrefixOf : List RecordValue → List RecordValue → Type 0
IsPrefixOf xs ys = (rest : List RecordValue) × (xs ++ rest ≡ ys)

-- LANES
-- a lane, of a device and an owner: what was numbered, what was taken, the days that are closed, the device's open day, and whether the owner has retired it
pub record Lane : Type 0 where
  pub numbered : List RecordValue
  pub taken : List RecordValue
  pub closed : ℕ → Bool
  pub day : ℕ
  pub retired : Bool

-- a tap of the open day is numbered
pub record Numbers (old new : Lane) : Type 0 where
  pub tap : RecordValue
  pub of_day : tap.tap.day ≡ old.day
  pub is : new ≡ record old { numbered = old.numbered ++ tap ∷ [] }

-- the first tap that was not taken is taken, where its day is not closed and the lane not retired
pub record Takes (old new : Lane) : Type 0 where
  pub working : old.retired ≡ false
  pub tap : RecordValue
  pub next : slice_get old.numbered (length old.taken) ≡ Some tap
  pub unclosed : old.closed tap.tap.day ≡ false
  pub is : new ≡ record old { taken = old.taken ++ tap ∷ [] }

-- the first day, from this one on, that is not closed is closed, where the lane is not retired: a day before the open one, of which as many taps were taken as were numbered
pub record Closes (start : ℕ) (old new : Lane) : Type 0 where
  pub working : old.retired ≡ false
  pub closing : ℕ
  pub first : start ≤ closing
  pub past : closing < old.day
  pub before : (day : ℕ) → start ≤ day → day < closing → old.closed day ≡ true
  pub unclosed : old.closed closing ≡ false
  pub counted : day_count old.taken closing ≡ day_count old.numbered closing
  pub is : new ≡ record old { closed = put old.closed closing true }

-- the lane, which was not retired, is
pub record Retires (old new : Lane) : Type 0 where
  pub working : old.retired ≡ false
  pub is : new ≡ record old { retired = true }

-- a lane step, where days count from this one: numbering, turning the open day, taking, closing, retiring, or nothing
abbrev pub IsLaneStep : ℕ → Lane → Lane → Type 0
IsLaneStep start old new = Numbers old new ⊎ ((new ≡ record old { day = old.day + 1 }) ⊎ (Takes old new ⊎ (Closes start old new ⊎ (Retires old new ⊎ (new ≡ old)))))

-- a lane run: steps one after the other, through these lanes
abbrev pub IsLaneRun : ℕ → Lane → List Lane → Lane → Type 0
IsLaneRun start first [] last = last ≡ first
IsLaneRun start first (lane ∷ lanes) last = IsLaneStep start first lane × IsLaneRun start lane lanes last

-- a lane of the system
abbrev pub lane_at : SchemeValue → System → ℕ → ℕ → Lane
lane_at sc s owner device = record {
  numbered = numbered_for s owner device;
  taken = taken_by s owner device;
  closed = is_closed sc.start (s.lanes owner device).closed;
  day = (s.devices device).day;
  retired = (s.lanes owner device).retired;
}

-- the taps of each device are those before, and the one that the event's reply numbered, if it numbered one
abbrev pub NumbersByReply : SchemeValue → System → System → Event → Reply → Type 0
NumbersByReply sc before now e r =
    (device : ℕ) → (now.devices device).taps ≡ (before.devices device).taps ++ of_device device (with_first (numbered_by sc e r) [])

-- CLOSED DAYS
-- the taps of the days from one to another
abbrev pub of_days : ℕ → ℕ → List RecordValue → List RecordValue
of_days from to records = filter (λ r. nat_le from r.tap.day && nat_le r.tap.day to) records

-- where a day is closed, the taken taps of any days from the start day to it are the numbered ones
abbrev pub IsWholeWhereClosed : ℕ → Lane → Type 0
IsWholeWhereClosed start lane = (from to : ℕ) → lane.closed to ≡ true → start ≤ from → of_days from to lane.taken ≡ of_days from to lane.numbered

-- the event at this place of a run, and its reply
pub record IsAnswered (es : List Event) (rs : List Reply) (place : ℕ) (e : Event) (r : Reply) : Type 0 where
  pub event : slice_get es place ≡ Some e
  pub reply : slice_get rs place ≡ Some r

-- after an owner's reply that a device's day is closed, each of its replies that a tap of that device was taken is about a numbered tap of another day
abbrev pub TakesNoneAfterClose : SchemeValue → List Event → List Reply → Type 0
TakesNoneAfterClose sc es rs =
    (owner device day lane first later : ℕ) → first < later
    → IsAnswered es rs first (event.Close owner device day) (Closed device day)
    → IsAnswered es rs later (event.Take owner) (Taken device lane)
    → (r : RecordValue) × (slice_get (lane_of owner device (numbered sc es rs)) (lane - 1) ≡ Some r) × (r.tap.day ≢ day)

-- after an owner's reply that a device's day is closed, what it has taken of any days from the start day to it is what the device numbered for it of these days
abbrev pub IsWholeAfterClose : SchemeValue → System → List Event → List Reply → Type 0
IsWholeAfterClose sc s es rs =
    (owner device day place from : ℕ) → sc.start ≤ from
    → IsAnswered es rs place (event.Close owner device day) (Closed device day)
    → of_days from day (taken_by s owner device) ≡ of_days from day (lane_of owner device (numbered sc es rs))

-- where an owner has closed a day of every device, what its ledger holds of any days from the start day to it, device by device, is what the devices numbered for it of these days
abbrev pub BillsNumberedTaps : SchemeValue → System → List Event → List Reply → Type 0
BillsNumberedTaps sc s es rs =
    (owner from to : ℕ) → sc.start ≤ from
    → AllByRecursion (λ d. is_closed sc.start (s.lanes owner d.0).closed to ≡ true) sc.devices
    → flat_map (λ d. of_days from to (taken_by s owner d.0)) sc.devices ≡ flat_map (λ d. of_days from to (lane_of owner d.0 (numbered sc es rs))) sc.devices

-- REFUSALS THAT NO RUN HAS
-- the reply says neither that a tap or statement came to a station that is not its device's, nor that it is another owner's, nor that a device has not numbered what was acknowledged, nor that a tap came after its day's close, that more were taken than stated, or that two items are in conflict; and where a tap is taken, it is the next
pub record IsOrderly (e : Event) (r : Reply) : Type 0 where
  pub stranger : r ≢ Refused Stranger
  pub misrouted : r ≢ Refused Misrouted
  pub ahead : r ≢ Refused AckAhead
  pub mine : r ≢ Refused NotMine
  pub unclosed : r ≢ Refused AfterClose
  pub alone : r ≢ Refused Conflict
  pub within : (stated taken : ℕ) → r ≢ Refused (CountsOver stated taken)
  pub once : (owner : ℕ) → e ≡ event.Take owner → r ≢ Refused Duplicate
  pub next : (owner : ℕ) → e ≡ event.Take owner → r ≢ Refused Gap

-- each event and its reply
abbrev pub EachAnswer : (Event → Reply → Type 0) → List Event → List Reply → Type 0
EachAnswer P (e ∷ es) (r ∷ rs) = P e r × EachAnswer P es rs
EachAnswer P es rs = Unit {0}
