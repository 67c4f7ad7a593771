-- Bills and settlements: of what the devices numbered, once an owner has closed the day of each of them; of a device whose lane it has retired, of what it has taken.
use Rattle.std.specs.Prelude.{◌≡◌, ℕ, suc, ◌+◌, ◌≤◌, ◌==◌, ◌&&◌, ◌||◌, not, Bool, true, false, Contains, take, List, [], ◌∷◌, Option, Result, Ok, Err, if◌then◌else◌, nat_lt}
use Rattle.std.specs.List.{flat_map}
use Rattle.fare_record.specs.Values.{RecordValue}
use Rattle.fare_record.specs.Lanes.{lane_of}
use Rattle.fare_scheme.specs.declared.entry.Placement.{Placement}
use Rattle.fare_scheme.specs.Values.{SchemeValue}
use Rattle.fare_cap.specs.Fares.{week_start}
use Rattle.fare_cap.specs.Bills.{BillValue, bill_of}
use Rattle.fare_settle.specs.Values.{SettledValue}
use Rattle.fare_settle.specs.Settling.{settlement_of}
use Rattle.fare_side.specs.declared.bill_fault.BillFault.{BillFault}
use Rattle.fare_side.specs.declared.bill_fault.BillFault.TheVariants as fault
use Rattle.fare_event.specs.declared.event.Event.{Event}
use Rattle.fare_event.specs.declared.event.Event.TheVariants as event
use Rattle.fare_event.specs.declared.reply.Refusal.{Refusal}
use Rattle.fare_event.specs.declared.reply.Refusal.TheVariants as refusal
use Rattle.fare_event.specs.declared.reply.Reply.{Reply}
use Rattle.fare_event.specs.declared.reply.Reply.TheVariants as reply
use Rattle.fare_world.specs.System.{System, numbered_for, taken_by}
use Rattle.fare_side.specs.OpenDays.{first_open, short_devices, where_open}
use Rattle.fare_world.specs.Knowing.{knows_owner}
use Rattle.fare_world.specs.Headline.{of_days, numbered, IsAnswered}

abbrev pub first_open_of : SchemeValue → System → ℕ → ℕ → Option ℕ
first_open_of sc s owner day = first_open sc.start (λ device. (s.lanes owner device).closed) (λ device. (s.lanes owner device).retired) day sc.devices

-- the devices of which a bill is short: their lanes are retired, and the day was not closed
abbrev pub short_of : SchemeValue → System → ℕ → ℕ → List ℕ
short_of sc s owner day = short_devices sc.start (λ device. (s.lanes owner device).closed) (λ device. (s.lanes owner device).retired) day sc.devices

-- what counts of a device: what it numbered for the owner, or what the owner has taken of it where the lane is retired
abbrev pub counted_for : System → ℕ → ℕ → List RecordValue
counted_for s owner device = if (s.lanes owner device).retired then taken_by s owner device else numbered_for s owner device

-- what counts for an owner from where the week of a day begins to the day
abbrev pub basis : SchemeValue → System → ℕ → ℕ → List RecordValue
basis sc s owner day = flat_map (λ (d : ℕ × Placement). of_days (week_start sc day) day (counted_for s owner d.0)) sc.devices

-- whether there is a bill, or why there is none
abbrev pub bill_judged : SchemeValue → System → ℕ → ℕ → Result Unit BillFault
bill_judged sc s owner day =
    if knows_owner sc owner then
    if nat_lt day sc.start then Err fault.BeforeStart else where_open (first_open_of sc s owner day)
    else Err fault.UnknownOwner

-- this, or why not
abbrev pub unless : {V : Type 0} → Result Unit BillFault → V → Result V BillFault
unless (Ok _) v = Ok v
unless (Err why) v = Err why

abbrev pub billed : SchemeValue → System → ℕ → ℕ → Result (BillValue × List ℕ) BillFault
billed sc s owner day = unless (bill_judged sc s owner day) (bill_of sc (basis sc s owner day) day, short_of sc s owner day)

abbrev pub settled : SchemeValue → System → ℕ → ℕ → Result (List SettledValue × List ℕ) BillFault
settled sc s owner day = unless (bill_judged sc s owner day) (settlement_of sc (basis sc s owner day) day, short_of sc s owner day)

-- BILL and SETTLE
abbrev pub bill_refusal : BillFault → Refusal
bill_refusal fault.UnknownOwner = refusal.UnknownOwner
bill_refusal fault.BeforeStart = refusal.BeforeStart
bill_refusal (fault.NotClosed device) = refusal.NotClosed device

abbrev pub told : {V : Type 0} → (V → Reply) → Result V BillFault → Reply
told tell (Ok v) = tell v
told tell (Err why) = reply.Refused (bill_refusal why)

abbrev pub bill : SchemeValue → System → ℕ → ℕ → System × Reply
bill sc s owner day = (s, told (λ v. reply.Bill owner day v.0 v.1) (billed sc s owner day))

abbrev pub settle : SchemeValue → System → ℕ → ℕ → System × Reply
settle sc s owner day = (s, told (λ v. reply.Settlement owner day v.0 v.1) (settled sc s owner day))

-- THE BILLS OF A RUN, as the events and their replies alone tell
-- a reply that a tap of a device was taken, that its lane was retired, that a day of it was closed
abbrev pub takes : Event → Reply → ℕ → ℕ → Bool
takes (event.Take o) (reply.Taken d lane) owner device = (o == owner) && (d == device)
takes e r owner device = false

abbrev pub retires : Event → Reply → ℕ → ℕ → Bool
retires (event.Retire o d) (reply.Retired e) owner device = (o == owner) && (d == device)
retires e r owner device = false

abbrev pub closes : Event → Reply → ℕ → ℕ → ℕ → Bool
closes (event.Close o d k) (reply.Closed e l) owner device day = ((o == owner) && (d == device)) && (k == day)
closes e r owner device day = false

-- how many of its taps were taken before a place of the run
abbrev pub took_before : List Event → List Reply → ℕ → ℕ → ℕ → ℕ
took_before (e ∷ es) (r ∷ rs) (suc place) owner device = (if takes e r owner device then 1 else 0) + took_before es rs place owner device
took_before es rs place owner device = 0

-- whether its lane was retired before a place
abbrev pub was_retired : List Event → List Reply → ℕ → ℕ → ℕ → Bool
was_retired (e ∷ es) (r ∷ rs) (suc place) owner device = retires e r owner device || was_retired es rs place owner device
was_retired es rs place owner device = false

-- whether a day of it was closed before a place
abbrev pub was_closed : List Event → List Reply → ℕ → ℕ → ℕ → ℕ → Bool
was_closed (e ∷ es) (r ∷ rs) (suc place) owner device day = closes e r owner device day || was_closed es rs place owner device day
was_closed es rs place owner device day = false

-- what counts of a device at a place of the run: what it numbered for the owner in the whole run, or, where the lane was retired before, the first of these, as many as were taken before
abbrev pub counted_told : SchemeValue → List Event → List Reply → ℕ → ℕ → ℕ → List RecordValue
counted_told sc es rs place owner device =
    if was_retired es rs place owner device then take (took_before es rs place owner device) (lane_of owner device (numbered sc es rs)) else lane_of owner device (numbered sc es rs)

-- what counts for an owner at a place, from where the week of a day begins to the day
abbrev pub basis_told : SchemeValue → List Event → List Reply → ℕ → ℕ → ℕ → List RecordValue
basis_told sc es rs place owner day = flat_map (λ (d : ℕ × Placement). of_days (week_start sc day) day (counted_told sc es rs place owner d.0)) sc.devices

-- the devices of which a bill at a place is short
abbrev pub short_told : List Event → List Reply → ℕ → ℕ → ℕ → List (ℕ × Placement) → List ℕ
short_told es rs place owner day [] = []
short_told es rs place owner day (d ∷ ds) =
    if was_retired es rs place owner d.0 && not (was_closed es rs place owner d.0 day) then d.0 ∷ short_told es rs place owner day ds else short_told es rs place owner day ds

-- before a place, a registered owner's replies say of every device of the scheme that the day is closed, or the lane retired
pub record IsMet (sc : SchemeValue) (es : List Event) (rs : List Reply) (place owner day : ℕ) : Type 0 where
  pub known : knows_owner sc owner ≡ true
  pub first : sc.start ≤ day
  pub settled : (d : ℕ × Placement) → Contains sc.devices d → (was_closed es rs place owner d.0 day || was_retired es rs place owner d.0) ≡ true

abbrev pub bill_told : SchemeValue → List Event → List Reply → ℕ → ℕ → ℕ → Reply
bill_told sc es rs place owner day = reply.Bill owner day (bill_of sc (basis_told sc es rs place owner day) day) (short_told es rs place owner day sc.devices)

abbrev pub settlement_told : SchemeValue → List Event → List Reply → ℕ → ℕ → ℕ → Reply
settlement_told sc es rs place owner day = reply.Settlement owner day (settlement_of sc (basis_told sc es rs place owner day) day) (short_told es rs place owner day sc.devices)

-- each bill that a reply tells is the capped fare of exactly these taps, and names the devices of which it is short, and each settlement is of exactly these taps; and where all counts are met, one is told
pub record BillsExactly (sc : SchemeValue) (es : List Event) (rs : List Reply) : Type 0 where
  pub bills : (owner day place : ℕ) (b : BillValue) (short : List ℕ) → IsAnswered es rs place (event.Bill owner day) (reply.Bill owner day b short) → reply.Bill owner day b short ≡ bill_told sc es rs place owner day
  pub settlements : (owner day place : ℕ) (shares : List SettledValue) (short : List ℕ) → IsAnswered es rs place (event.Settle owner day) (reply.Settlement owner day shares short) → reply.Settlement owner day shares short ≡ settlement_told sc es rs place owner day
  pub met : (owner day place : ℕ) (r : Reply) → IsAnswered es rs place (event.Bill owner day) r → IsMet sc es rs place owner day → r ≡ bill_told sc es rs place owner day
  pub met_settlement : (owner day place : ℕ) (r : Reply) → IsAnswered es rs place (event.Settle owner day) r → IsMet sc es rs place owner day → r ≡ settlement_told sc es rs place owner day
