-- What a packet does where it arrives.
use Rattle.std.specs.Prelude.{ℕ, ◌+◌, ◌-◌, ◌==◌, Bool, false, not, List, [], ◌∷◌, ◌++◌, length, filter, max, Option, Some, None, Result, Ok, Err, if◌then◌else◌, slice_get, nat_le, nat_lt}
use Rattle.fare_record.specs.Values.{RecordValue}
use Rattle.fare_scheme.specs.Values.{SchemeValue}
use Rattle.fare_scheme.specs.Words.{station_of}
use Rattle.fare_collector.specs.Collecting.{is_id, is_owned, collect_judged}
use Rattle.fare_collector.specs.declared.fault.CollectRefusal.{CollectRefusal}
use Rattle.fare_collector.specs.declared.fault.CollectRefusal.TheVariants as collect
use Rattle.fare_collector.specs.declared.fault.StatementRefusal.{StatementRefusal}
use Rattle.fare_collector.specs.declared.fault.StatementRefusal.TheVariants as statement
use Rattle.fare_event.specs.declared.reply.Refusal.{Refusal}
use Rattle.fare_event.specs.declared.reply.Refusal.TheVariants.{NoPacket, Stranger, Misrouted, Old, Ahead, AckAhead, Busy}
use Rattle.fare_event.specs.declared.reply.Reply.{Reply}
use Rattle.fare_event.specs.declared.reply.Reply.TheVariants.{Idle, Refused, Accepted, Dropped, DroppedDay}
use Rattle.fare_store.specs.Tables.{put}
use Rattle.fare_world.specs.System.{Packet, Tapped, Stated, Acked, DayAcked, Tap_of, Statement_of, DeviceState, System}
use Rattle.fare_world.specs.Knowing.{knows_owner}
use Rattle.fare_world.specs.Tapping.{is_waiting}

-- TAPS
-- the tap of a device and a link
abbrev pub tap_at : System → ℕ → ℕ → Option RecordValue
tap_at s device link = slice_get (s.devices device).taps (link - 1)

-- there is a tap, and its owner is the owner of its product
abbrev pub is_owned_tap : SchemeValue → Option RecordValue → Bool
is_owned_tap sc None = false
is_owned_tap sc (Some r) = is_owned sc r

-- the link that a station accepts next from a device; none from a device of another station
abbrev pub next_at : SchemeValue → (ℕ → DeviceState) → ℕ → ℕ → Option ℕ
next_at sc devices station device = if is_id (station_of sc device) station then Some (devices device).next else None

-- the name of a collector's refusal
abbrev pub refusal_of : CollectRefusal → Refusal
refusal_of collect.Stranger = Stranger
refusal_of collect.Misrouted = Misrouted
refusal_of collect.Old = Old
refusal_of collect.Ahead = Ahead

-- a queue of this capacity takes no more
abbrev pub is_full : {X : Type 0} → ℕ → List X → Bool
is_full capacity xs = nat_le capacity (length xs)

-- and of its refusal of a statement
abbrev pub statement_refusal_of : StatementRefusal → Refusal
statement_refusal_of statement.Stranger = Stranger
statement_refusal_of statement.Misrouted = Misrouted

abbrev pub accepted : System → ℕ → ℕ → System
accepted s device link = record s {
  inbox = s.inbox ++ Tap_of device link ∷ [];
  devices = put s.devices device (record (s.devices device) { next = link + 1 });
}

-- where the inbox is full, the accept is undone
abbrev pub judged : SchemeValue → System → ℕ → ℕ → Result Unit CollectRefusal → System × Reply
judged sc s device link (Ok _) = if is_full sc.inbox_capacity s.inbox then (s, Refused Busy) else (accepted s device link, Accepted)
judged sc s device link (Err why) = (s, Refused (refusal_of why))

-- a tap comes to the station of its device, if it has one
abbrev pub tap_comes : SchemeValue → System → ℕ → ℕ → Option ℕ → System × Reply
tap_comes sc s device link None = (s, Refused Stranger)
tap_comes sc s device link (Some station) =
    judged sc s device link (collect_judged (next_at sc s.devices station device) (is_owned_tap sc (tap_at s device link)) link)

-- STATEMENTS
abbrev pub statement_comes : SchemeValue → System → ℕ → ℕ → ℕ → Option ℕ → System × Reply
statement_comes sc s device day owner None = (s, Refused Stranger)
statement_comes sc s device day owner (Some station) =
    if not (knows_owner sc owner) then (s, Refused Misrouted) else
    if is_full sc.inbox_capacity s.inbox then (s, Refused Busy) else
    (record s { inbox = s.inbox ++ Statement_of device day owner ∷ [] }, Accepted)

-- ACKNOWLEDGEMENTS
-- a device hears that the hub has its taps up to a link
abbrev pub heard : System → ℕ → ℕ → System
heard s device upto = record s {
  devices = put s.devices device (record (s.devices device) {
    base = max (s.devices device).base upto;
    cursor = max (s.devices device).cursor upto;
  });
}

abbrev pub ack_comes : System → ℕ → ℕ → System × Reply
ack_comes s device upto =
    if nat_lt (length (s.devices device).taps) upto then (s, Refused AckAhead) else
    (heard s device upto, Dropped (upto - (s.devices device).base))

-- the days without one
abbrev pub without : List ℕ → ℕ → List ℕ
without days day = filter (λ d. not (d == day)) days

-- a device hears that the hub has its statements of a day
abbrev pub heard_day : System → ℕ → ℕ → System
heard_day s device day = record s { devices = put s.devices device (record (s.devices device) { waiting = without (s.devices device).waiting day }) }

abbrev pub day_ack_comes : System → ℕ → ℕ → System × Reply
day_ack_comes s device day =
    if is_waiting (s.devices device).waiting day then (heard_day s device day, DroppedDay day) else (s, Idle)

-- ARRIVE
abbrev pub comes : SchemeValue → System → Option Packet → System × Reply
comes sc s None = (s, Refused NoPacket)
comes sc s (Some (Tapped device link)) = tap_comes sc s device link (station_of sc device)
comes sc s (Some (Stated device day owner)) = statement_comes sc s device day owner (station_of sc device)
comes sc s (Some (Acked device upto)) = ack_comes s device upto
comes sc s (Some (DayAcked device day)) = day_ack_comes s device day

-- packets are numbered from 1
abbrev pub packet_at : System → ℕ → Option Packet
packet_at s packet = if packet == 0 then None else slice_get s.air (packet - 1)

abbrev pub arrive : SchemeValue → System → ℕ → System × Reply
arrive sc s packet = comes sc s (packet_at s packet)
