-- What each event does to the system of numbers, and its reply.
use Rattle.std.specs.Prelude.{ℕ, List, [], ◌∷◌, length, Bool, true, false, not, ◌&&◌, nat_lt, nat_le, is_some, Option, Some, None, unwrap_or, if◌then◌else◌}
use Rattle.fare_scheme.specs.Values.{SchemeValue}
use Rattle.fare_scheme.specs.Words.{station_of}
use Rattle.fare_event.specs.declared.event.Event.{Event}
use Rattle.fare_event.specs.declared.event.Event.TheVariants as event
use Rattle.fare_event.specs.declared.reply.Refusal.TheVariants.{UnknownDevice, UnknownOwner}
use Rattle.fare_event.specs.declared.reply.Reply.{Reply}
use Rattle.fare_event.specs.declared.reply.Reply.TheVariants.{Refused, Upto, Count}
use Rattle.fare_world.specs.System.{System}
use Rattle.fare_world.specs.Knowing.{knows_device, knows_station, knows_owner}
use Rattle.fare_world.specs.Tapping.{is_waiting, tap, turn, send, rewind, state}
use Rattle.fare_world.specs.Arriving.{is_full, arrive}
use Rattle.fare_world.specs.Storing.{draw, store, ack, day_ack, answer}
use Rattle.fare_world.specs.Owning.{forward, fetch, take_event, close, retire, prune}
use Rattle.fare_world.specs.Billing.{bill, settle}
use Rattle.fare_world.specs.Restarting.{resume, restart_device, restart_station, restart_writer, restart_owner, restart_hub}

-- UPTO and COUNT
abbrev pub upto : SchemeValue → System → ℕ → System × Reply
upto sc s device = if knows_device sc device then (s, Upto (s.devices device).upto) else (s, Refused UnknownDevice)

abbrev pub count : SchemeValue → System → ℕ → ℕ → System × Reply
count sc s owner device =
    if knows_owner sc owner then
    if knows_device sc device then (s, Count (s.lanes owner device).took) else (s, Refused UnknownDevice)
    else (s, Refused UnknownOwner)

-- what an event changes, and its reply
abbrev pub step : SchemeValue → System → Event → System × Reply
step sc s (event.Tap device product route token moment) = tap sc s device product token moment (unwrap_or route 0)
step sc s (event.Turn device) = turn sc s device
step sc s (event.Send device) = send sc s device
step sc s (event.Rewind device) = rewind sc s device
step sc s (event.State device day owner) = state sc s device day owner
step sc s (event.Arrive packet) = arrive sc s packet
step sc s event.Draw = draw s
step sc s event.Store = store s
step sc s (event.Ack device) = ack sc s device
step sc s (event.DayAck device day) = day_ack sc s device day
step sc s (event.Answer station) = answer sc s station
step sc s (event.Forward owner device) = forward sc s owner device
step sc s (event.Fetch owner) = fetch sc s owner
step sc s (event.Take owner) = take_event sc s owner
step sc s (event.Close owner device day) = close sc s owner device day
step sc s (event.Retire owner device) = retire sc s owner device
step sc s (event.Prune owner device) = prune sc s owner device
step sc s (event.Resume device) = resume sc s device
step sc s (event.RestartDevice device) = restart_device sc s device
step sc s (event.RestartStation station) = restart_station sc s station
step sc s event.RestartWriter = restart_writer s
step sc s (event.RestartOwner owner) = restart_owner sc s owner
step sc s event.RestartHub = restart_hub sc s
step sc s (event.Upto device) = upto sc s device
step sc s (event.Count owner device) = count sc s owner device
step sc s (event.Bill owner day) = bill sc s owner day
step sc s (event.Settle owner day) = settle sc s owner day

-- the system after a list of events, and their replies
abbrev pub after : SchemeValue → System → List Event → System
after sc s [] = s
after sc s (e ∷ es) = after sc (step sc s e).0 es

abbrev pub replies : SchemeValue → System → List Event → List Reply
replies sc s [] = []
replies sc s (e ∷ es) = (step sc s e).1 ∷ replies sc (step sc s e).0 es

-- WANT OF MEMORY AND FAILING STORES
-- there is room in the acknowledgement line of this station
abbrev pub has_line_room : SchemeValue → System → Option ℕ → Bool
has_line_room sc s None = false
has_line_room sc s (Some station) = not (is_full sc.inbox_capacity (s.lines station))

-- a ledger is asked for a bill
abbrev pub may_bill : SchemeValue → ℕ → ℕ → Bool
may_bill sc owner day = knows_owner sc owner && nat_le sc.start day

-- the event makes something grow, or it asks a store: a packet joins the air, a frame is read, the outbox or a ledger is called; only then may it fail
abbrev pub may_fail : SchemeValue → System → Event → Bool
may_fail sc s (event.Tap device product route token moment) = false
may_fail sc s (event.Turn device) = false
may_fail sc s (event.Send device) = knows_device sc device && nat_lt (s.devices device).cursor (length (s.devices device).taps)
may_fail sc s (event.Rewind device) = false
may_fail sc s (event.State device day owner) = knows_device sc device && (knows_owner sc owner && is_waiting (s.devices device).waiting day)
may_fail sc s (event.Arrive packet) = false
may_fail sc s event.Draw = false
may_fail sc s event.Store = is_some s.hand
may_fail sc s (event.Ack device) = has_line_room sc s (station_of sc device)
may_fail sc s (event.DayAck device day) = is_some (station_of sc device)
may_fail sc s (event.Answer station) = knows_station sc station && nat_lt 0 (length (s.lines station))
may_fail sc s (event.Forward owner device) = knows_owner sc owner && knows_device sc device
may_fail sc s (event.Fetch owner) = false
may_fail sc s (event.Take owner) = knows_owner sc owner && is_some (s.owners owner).hand
may_fail sc s (event.Close owner device day) = knows_owner sc owner && knows_device sc device
may_fail sc s (event.Retire owner device) = knows_owner sc owner && knows_device sc device
may_fail sc s (event.Prune owner device) = knows_owner sc owner && knows_device sc device
may_fail sc s (event.Resume device) = knows_device sc device
may_fail sc s (event.RestartDevice device) = false
may_fail sc s (event.RestartStation station) = knows_station sc station
may_fail sc s event.RestartWriter = false
may_fail sc s (event.RestartOwner owner) = knows_owner sc owner
may_fail sc s event.RestartHub = true
may_fail sc s (event.Upto device) = knows_device sc device
may_fail sc s (event.Count owner device) = knows_owner sc owner && knows_device sc device
may_fail sc s (event.Bill owner day) = may_bill sc owner day
may_fail sc s (event.Settle owner day) = may_bill sc owner day
