-- What a device sends, and the restarts of its side and its station's side, lead to a system.
use Rattle.std.proofs.Common.{◌≡◌, ℕ, ◌+◌, ◌<◌, List, [], ◌∷◌, ◌++◌, length, Bool, true, false, refl, sym, ap, ◌∙◌, subst, arith, inl}
use Rattle.std.specs.Prelude.{◌==◌, ◌||◌, nat_lt, ◌⊎◌}
use Rattle.std.specs.List.{AllByRecursion}
use Rattle.fare_scheme.specs.Values.{SchemeValue}
use Rattle.fare_scheme.specs.Words.{station_of}
use Rattle.fare_collector.specs.Collecting.{is_id}
use Rattle.fare_event.specs.declared.event.Event.{Event}
use Rattle.fare_event.specs.declared.event.Event.TheVariants as event
use Rattle.fare_event.specs.declared.reply.Refusal.TheVariants.{UnknownDevice, UnknownOwner, UnknownStation, NotWaiting}
use Rattle.fare_event.specs.declared.reply.Reply.{Reply}
use Rattle.fare_event.specs.declared.reply.Reply.TheVariants.{Idle, Refused, Sent, SentDay, Rewound, Resumed, Restarted}
use Rattle.fare_store.specs.Tables.{put}
use Rattle.fare_world.specs.System.{Packet, Tapped, Stated, DeviceState, System}
use Rattle.fare_world.specs.Knowing.{knows_device, knows_station, knows_owner}
use Rattle.fare_world.specs.Tapping.{sent, send, rewound, rewind, is_waiting, state}
use Rattle.fare_world.specs.Storing.{are_all_held}
use Rattle.fare_world.specs.Restarting.{resumed_device, resume, restart_device, resumed_devices, restart_station}
use Rattle.fare_world.specs.Kept.{IsDevice, IsPlace, IsTurned, IsPacket, IsSystem}
use Rattle.fare_world.proofs.Known.{station_where_placed}
use Rattle.fare_world.proofs.Lists.{AllByRecursion-push}
use Rattle.fare_store.proofs.Entries.{if_all, below, is_one, put_all}
use Rattle.fare_world.proofs.Orderly.{is_orderly}
use Rattle.fare_world.proofs.KeptParts.{Goes, devices_change, device_changes, lines_change}
use Rattle.fare_world.proofs.Told.{IsQuiet}
use Rattle.fare_world.proofs.KeptMoves.{Moves, keeps_same, keeps_devices, rests, stays}

-- where the air gains a packet
pub air_grows : (sc : SchemeValue) (s : System) (x : Packet) → IsSystem sc s → IsPacket sc s.devices s.held x → IsSystem sc (record s { air = s.air ++ x ∷ [] })
air_grows sc s x h is = lines_change sc s (s.air ++ x ∷ []) s.lines h (AllByRecursion-push (IsPacket sc s.devices s.held) s.air x h.air is) h.lines

-- a place of a device's taps stays one where the taps stay
pub place_kept : (f : ℕ → DeviceState) (d k : ℕ) (v : DeviceState) → v.taps ≡ (f d).taps → IsPlace (f d).taps k → IsPlace (put f d v d).taps k
place_kept f d k v same place = put_all (λ j a. j ≡ d → IsPlace a.taps k) f d v (λ j is. subst (λ i. IsPlace (f i).taps k) (sym is) place) (λ _. (place.0, omega (arith, place.1, ap length same))) d refl

-- SEND
pub moves_send : (sc : SchemeValue) (s : System) (d : ℕ) → IsSystem sc s → Moves sc s (event.Send d) (send sc s d)
moves_send sc s d h =
    if_all (knows_device sc d) (Moves sc s e) _ _
    (λ _. if_all (nat_lt v.cursor (length v.taps)) (Moves sc s e) _ _ (λ a. goes (below _ _ a)) (λ _. stays sc s e Idle refl refl h))
    (λ _. stays sc s e (Refused UnknownDevice) refl refl h)
  where
    e : Event
    e = event.Send d

    v : DeviceState
    v = s.devices d

    new : DeviceState
    new = record v { cursor = v.cursor + 1 }

    goes : v.cursor < length v.taps → Moves sc s e (sent s d, Sent (length s.air + 1) (v.cursor + 1))
    goes lt =
        let is = h.devices d in
        let device : IsDevice sc d new = record { base = omega (arith, is.base); cursor = omega arith; stored = is.stored; upto = is.upto; first = is.first; next = is.next; few = is.few; numbered = is.numbered; known = is.known; days = is.days } in
        let devices = device_changes sc s d new h (record { taps = refl; upto = omega arith; day = omega arith }) device in
        rests sc s e (sent s d, Sent (length s.air + 1) (v.cursor + 1)) refl refl
        (air_grows sc (record s { devices = put s.devices d new }) (Tapped d (v.cursor + 1)) devices (place_kept s.devices d (v.cursor + 1) new refl (omega arith, omega (arith, lt))))
        (keeps_devices sc s d new (sent s d) refl refl refl refl refl refl)

-- REWIND
-- a device that goes back to its first unacknowledged tap
goes_back : (sc : SchemeValue) (s : System) (d : ℕ) (e : Event) (r : Reply) → IsQuiet sc e r → is_orderly e r ≡ true → IsSystem sc s → Moves sc s e (rewound s d, r)
goes_back sc s d e r none fine h =
    let is = h.devices d in
    let new : DeviceState = record (s.devices d) { cursor = (s.devices d).base } in
    let device : IsDevice sc d new = record { base = omega arith; cursor = omega (arith, is.base, is.cursor); stored = is.stored; upto = is.upto; first = is.first; next = is.next; few = is.few; numbered = is.numbered; known = is.known; days = is.days } in
    rests sc s e (rewound s d, r) none fine (device_changes sc s d new h (record { taps = refl; upto = omega arith; day = omega arith }) device) (keeps_devices sc s d new (rewound s d) refl refl refl refl refl refl)

pub moves_rewind : (sc : SchemeValue) (s : System) (d : ℕ) → IsSystem sc s → Moves sc s (event.Rewind d) (rewind sc s d)
moves_rewind sc s d h =
    if_all (knows_device sc d) (Moves sc s (event.Rewind d)) _ _
    (λ _. goes_back sc s d (event.Rewind d) Rewound refl refl h)
    (λ _. stays sc s (event.Rewind d) (Refused UnknownDevice) refl refl h)

pub moves_restart_device : (sc : SchemeValue) (s : System) (d : ℕ) → IsSystem sc s → Moves sc s (event.RestartDevice d) (restart_device sc s d)
moves_restart_device sc s d h =
    if_all (knows_device sc d) (Moves sc s (event.RestartDevice d)) _ _
    (λ _. goes_back sc s d (event.RestartDevice d) Restarted refl refl h)
    (λ _. stays sc s (event.RestartDevice d) (Refused UnknownDevice) refl refl h)

-- STATE
-- what holds of each of the days holds of one that is among them
pub among : (P : ℕ → Type 0) (days : List ℕ) (day : ℕ) → AllByRecursion P days → is_waiting days day ≡ true → P day
among P [] day all is = absurd (cc)
among P (d ∷ days) day all is = first (d == day) refl is (among P days day all.1)
  where
    first : (b : Bool) → (d == day) ≡ b → (b || is_waiting days day) ≡ true → (is_waiting days day ≡ true → P day) → P day
    first true same _ rest = subst P (is_one d day same) all.0
    first false _ more rest = rest more

pub moves_state : (sc : SchemeValue) (s : System) (d day o : ℕ) → IsSystem sc s → Moves sc s (event.State d day o) (state sc s d day o)
moves_state sc s d day o h =
    if_all (knows_device sc d) (Moves sc s e) _ _
    (λ knows. if_all (knows_owner sc o) (Moves sc s e) _ _
    (λ known. if_all (is_waiting v.waiting day) (Moves sc s e) _ _
    (λ waits. rests sc s e (record s { air = s.air ++ Stated d day o ∷ [] }, SentDay (length s.air + 1) day o) refl refl
    (air_grows sc s (Stated d day o) h (record { registered = sym (station_where_placed sc d) ∙ knows; known = known; turned = among (IsTurned sc.start v.day) v.waiting day (h.devices d).days.waiting waits })) (keeps_same sc s (record s { air = s.air ++ Stated d day o ∷ [] }) refl refl refl))
    (λ _. stays sc s e (Refused NotWaiting) refl refl h))
    (λ _. stays sc s e (Refused UnknownOwner) refl refl h))
    (λ _. stays sc s e (Refused UnknownDevice) refl refl h)
  where
    e : Event
    e = event.State d day o

    v : DeviceState
    v = s.devices d

-- RESUME and the restart of a station
-- a device whose station goes on behind what the outbox has had
pub resumes : (sc : SchemeValue) (d : ℕ) (v : DeviceState) → IsDevice sc d v → IsDevice sc d (resumed_device v)
resumes sc d v is = record { base = is.base; cursor = is.cursor; stored = is.stored; upto = is.upto; first = omega arith; next = omega (arith, is.upto); few = is.few; numbered = is.numbered; known = is.known; days = is.days }

pub moves_resume : (sc : SchemeValue) (s : System) (d : ℕ) → IsSystem sc s → Moves sc s (event.Resume d) (resume sc s d)
moves_resume sc s d h =
    if_all (knows_device sc d) (Moves sc s (event.Resume d)) _ _
    (λ _. rests sc s (event.Resume d) (record s { devices = put s.devices d new }, Resumed (s.devices d).upto) refl refl
    (device_changes sc s d new h (record { taps = refl; upto = omega arith; day = omega arith }) (resumes sc d (s.devices d) (h.devices d)))
    (keeps_devices sc s d new (record s { devices = put s.devices d new }) refl refl refl refl refl refl))
    (λ _. stays sc s (event.Resume d) (Refused UnknownDevice) refl refl h)
  where
    new : DeviceState
    new = resumed_device (s.devices d)

pub moves_restart_station : (sc : SchemeValue) (s : System) (st : ℕ) → IsSystem sc s → Moves sc s (event.RestartStation st) (restart_station sc s st)
moves_restart_station sc s st h =
    if_all (knows_station sc st) (Moves sc s e) _ _
    (λ _. rests sc s e (resumed_devices sc s st, Restarted) refl refl
    (devices_change sc s (resumed_devices sc s st).devices h
    (each (λ j a. Goes (s.devices j) a) (λ j. record { taps = refl; upto = omega arith; day = omega arith }) (λ j. record { taps = refl; upto = omega arith; day = omega arith }))
    (each (IsDevice sc) (λ j. resumes sc j (s.devices j) (h.devices j)) h.devices))
    (record { taps = each (λ j a. a.taps ≡ (s.devices j).taps) (λ j. refl) (λ j. refl); day = each (λ j a. a.day ≡ (s.devices j).day) (λ j. refl) (λ j. refl); took = λ o j. refl; closed = λ o j. refl; retired = λ o j. refl; held = λ o j k e. e; waits = each (λ j a. (k : ℕ) → is_waiting (s.devices j).waiting k ≡ true → (is_waiting a.waiting k ≡ true) ⊎ (are_all_held sc s.held j k ≡ true)) (λ j k w. inl w) (λ j k w. inl w) }))
    (λ _. stays sc s e (Refused UnknownStation) refl refl h)
  where
    e : Event
    e = event.RestartStation st

    each : (P : ℕ → DeviceState → Type 0) → ((j : ℕ) → P j (resumed_device (s.devices j))) → ((j : ℕ) → P j (s.devices j)) → (j : ℕ) → P j ((resumed_devices sc s st).devices j)
    each P now was j = if_all (is_id (station_of sc j) st) (P j) (resumed_device (s.devices j)) (s.devices j) (λ _. now j) (λ _. was j)
