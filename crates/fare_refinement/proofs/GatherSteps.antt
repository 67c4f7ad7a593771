-- The stations' and the writer's part of a system, and what each event of their session does to it.
use Rattle.std.proofs.Common.{◌≡◌, ℕ, ◌+◌, ◌-◌, ◌<◌, ◌≤◌, List, [], ◌∷◌, ◌++◌, length, take, map, Some, None, Bool, true, false, refl, sym, ap, ◌∙◌, subst, arith, append_assoc, inl, inr}
use Rattle.std.specs.Prelude.{◌==◌, not, slice_get, if◌then◌else◌, Option, is_some, option_map, Ok, nat_lt, nat_le, unwrap_or}
use Rattle.std.proofs.lemmas.List.{map-append, length-map}
use Rattle.std.proofs.lemmas.Option.{slice_get_within}
use Rattle.std.proofs.lemmas.Bool.Decides.{nat_tests}
use Rattle.fare_record.specs.declared.ack_item.AckItem.{AckItem}
use Rattle.fare_record.specs.declared.ack_item.AckItem.TheVariants as ack_item
use Rattle.fare_record.specs.Values.{RecordValue, StatementValue}
use Rattle.fare_record.specs.Lanes.{part, day_count}
use Rattle.fare_scheme.specs.Values.{SchemeValue}
use Rattle.fare_scheme.specs.Words.{station_of}
use Rattle.fare_collector.specs.Collecting.{is_id, collect_judged}
use Rattle.fare_event.specs.declared.event.Event.{Event}
use Rattle.fare_event.specs.declared.event.Event.TheVariants as event
use Rattle.fare_event.specs.declared.reply.Refusal.TheVariants.{Busy, Duplicate, Conflict, OutboxFull, Gap, UnknownStation, Unstated, Misrouted}
use Rattle.fare_event.specs.declared.reply.Reply.{Reply}
use Rattle.fare_event.specs.declared.reply.Reply.TheVariants as reply
use Rattle.fare_store.specs.Tables.{put}
use Rattle.fare_world.specs.System.{Packet, Stated, Acked, Arrived, Statement_of, Answer, Ack_of, DayAck_of, DeviceState, System, stated_count}
use Rattle.fare_world.specs.Arriving.{tap_at, next_at, is_full, accepted, judged, tap_comes, statement_comes, comes, packet_at}
use Rattle.fare_world.specs.Storing.{drawn_reply, draw_from, let_go, is_held, stored, store_tap, stored_day, store_statement, store_from, gains_answer, ack_by, are_all_held, day_ack_by, packet_of, answered_reply, answer_from}
use Rattle.fare_world.specs.Steps.{step}
use Rattle.fare_world.specs.Headline.{IsOrderly}
use Rattle.fare_world.specs.Kept.{IsStatement, IsPacket, IsSystem}
use Rattle.fare_world.specs.Shown.{row_at, count_of, IsAt, IsArrivedOf}
use Rattle.fare_record.specs.declared.item.Item.{Item}
use Rattle.fare_record.specs.declared.item.Item.TheVariants as item
use Rattle.fare_store.specs.OutboxWords.{OutboxValue}
use Rattle.fare_refinement.specs.ShownStores.{ShowsOutbox}
use Rattle.fare_history.specs.Gathering.{is_new, done_by, IsRepeated, storing, IsHandled, device_answered, IsAnswerFrom}
use Rattle.fare_refinement.specs.Gathered.{Given, packet_for, arrived_for, IsGiven, packet_answered, HasStations, answer_event, SameTaps}
use Rattle.fare_history.proofs.Judged.{stored_new, stored_old, repeated_is_old, new_tap, tap_is_new, new_statement, statement_again}
use Rattle.fare_history.proofs.Counting.{next_after, IsDue, FollowsOutbox}
use Rattle.fare_world.proofs.Known.{is_own_id}
use Rattle.fare_world.proofs.Places.{slice_get-front}
use Rattle.fare_world.proofs.Lists.{AllByRecursion-at, list_all-weaken}
use Rattle.fare_store.proofs.Entries.{is_self, put_all, put_apart, put_both, put_here}
use Rattle.fare_world.proofs.KeptArrive.{tap_owned}
use Rattle.fare_world.proofs.Kept.{moves_step}
use Rattle.fare_refinement.proofs.ShownCalls.{outbox_stores, outbox_states}
use Rattle.fare_refinement.proofs.ServeSteps.{system_answered}

-- what of a system a session of the stations and the writer has to do with, beside one that it started from
pub record Gathers (sc : SchemeValue) (b : System) (x : OutboxValue) (next : ℕ → ℕ) (hand : Option Given) (inbox : List Given) (answers : List AckItem) (t : System) : Type 0 where
  pub system : IsSystem sc t
  pub outbox : ShowsOutbox t x
  pub same : (d : ℕ) → SameTaps (b.devices d) (t.devices d)
  pub lanes : t.lanes ≡ b.lanes
  pub nexts : (d : ℕ) → (t.devices d).next ≡ next d
  pub drawn : t.hand ≡ option_map (λ g. arrived_for g.item) hand
  pub queued : t.inbox ≡ map (λ g. arrived_for g.item) inbox
  pub lines : (st : ℕ) → t.lines st ≡ []
  pub air : t.air ≡ b.air ++ map packet_answered answers

gathered : (sc : SchemeValue) (b : System) (x : OutboxValue) (next : ℕ → ℕ) (hand : Option Given) (inbox : List Given) (answers : List AckItem) (t : System) (e : Event) (y : System × Reply) → step sc t e ≡ y → Gathers sc b x next hand inbox answers y.0 → Gathers sc b x next hand inbox answers (step sc t e).0
gathered sc b x next hand inbox answers t e y is gathers = subst (λ z. Gathers sc b x next hand inbox answers z.0) (sym is) gathers

-- an outbox of which the devices' links and taps, the lanes and the statements stay
outbox_like : (s t : System) (x : OutboxValue) → ((d : ℕ) → (t.devices d).upto ≡ (s.devices d).upto) → ((d : ℕ) → (t.devices d).taps ≡ (s.devices d).taps) → ((o d : ℕ) → (t.lanes o d).gone ≡ (s.lanes o d).gone) → t.held ≡ s.held → t.rows ≡ s.rows → t.statements ≡ s.statements → ShowsOutbox s x → ShowsOutbox t x
outbox_like s t x upto taps gone held rows statements is = record {
  upto = λ d. is.upto d ∙ sym (upto d);
  rows = λ o d n. is.rows o d n ∙ sym (λ i. row_at (gone o d i) (part o (take (upto d i) (taps d i))) n);
  row_count = is.row_count ∙ sym rows;
  stated = λ o d day. is.stated o d day ∙ sym (λ i. count_of (held i o d day) (part o (taps d i)) day);
  stated_count = is.stated_count ∙ sym statements;
}

-- GIVEN FRAMES
-- a packet keeps its number
pub packet_stays : (s t : System) (n : ℕ) (more : List Packet) (p : Packet) → t.air ≡ s.air ++ more → packet_at s n ≡ Some p → packet_at t n ≡ Some p
packet_stays s t n more p air e = by (n == 0) e
  where
    by : (b : Bool) → (if b then None else slice_get s.air (n - 1)) ≡ Some p → (if b then None else slice_get t.air (n - 1)) ≡ Some p
    by true e = absurd (cc)
    by false e = ap (λ l. slice_get l (n - 1)) air ∙ slice_get-front s.air more (n - 1) p e

packet_place : (s : System) (n : ℕ) (p : Packet) → packet_at s n ≡ Some p → slice_get s.air (n - 1) ≡ Some p
packet_place s n p e = by (n == 0) e
  where
    by : (b : Bool) → (if b then None else slice_get s.air (n - 1)) ≡ Some p → slice_get s.air (n - 1) ≡ Some p
    by true e = absurd (cc)
    by false e = e

-- an item stays what its numbers name
pub named_stays : (f g : ℕ → DeviceState) → ((d : ℕ) → SameTaps (f d) (g d)) → (i : Item) → IsArrivedOf f (arrived_for i) i → IsArrivedOf g (arrived_for i) i
named_stays f g same (item.Tap r) is = subst (λ l. IsAt l r.link r) (sym (same r.device).taps) is
named_stays f g same (item.Stated v) is = record { past = omega (arith, is.past, (same v.device).day); is = is.is ∙ (λ k. record { device = v.device; day = v.day; owner = v.owner; count = day_count (part v.owner (sym (same v.device).taps k)) v.day }) }

-- ARRIVE
room_left : (room : ℕ) (xs : List Arrived) → length xs < room → is_full room xs ≡ false
room_left room xs lt = by_numbers room (length xs) lt
  where
    by_numbers : (a b : ℕ) → b < a → nat_le a b ≡ false
    by_numbers a b less = grind (arith, nat_tests)

next_known : (sc : SchemeValue) (f : ℕ → DeviceState) (st d : ℕ) → station_of sc d ≡ Some st → next_at sc f st d ≡ Some (f d).next
next_known sc f st d of = ap (λ b. if b then Some (f d).next else None) (ap (λ o. is_id o st) of ∙ is_own_id st)

due_accepted : (next k : ℕ) → next ≡ k → collect_judged (Some next) true k ≡ Ok tt
due_accepted next k same = grind (arith, nat_tests)

tap_accepted : (sc : SchemeValue) (t : System) (r : RecordValue) → IsSystem sc t → IsAt (t.devices r.device).taps r.link r → (t.devices r.device).next ≡ r.link → is_full sc.inbox_capacity t.inbox ≡ false → tap_comes sc t r.device r.link (station_of sc r.device) ≡ (accepted t r.device r.link, reply.Accepted)
tap_accepted sc t r h at next room = by (station_of sc r.device) refl
  where
    within : r.link - 1 < length (t.devices r.device).taps
    within = slice_get_within (t.devices r.device).taps (r.link - 1) r at.here

    by : (o : Option ℕ) → station_of sc r.device ≡ o → tap_comes sc t r.device r.link o ≡ (accepted t r.device r.link, reply.Accepted)
    by None none = absurd (omega (arith, within, ap length ((h.devices r.device).known none)))
    by (Some st) of =
        (λ i. judged sc t r.device r.link (collect_judged (next_known sc t.devices st r.device of i) (tap_owned sc t r.device r.link h (at.positive, omega (arith, at.positive, within)) i) r.link))
        ∙ ap (judged sc t r.device r.link) (due_accepted (t.devices r.device).next r.link next)
        ∙ (λ i. if room i then (t, reply.Refused Busy) else (accepted t r.device r.link, reply.Accepted))

statement_accepted : (sc : SchemeValue) (t : System) (d day o : ℕ) → IsStatement sc t.devices d day o → is_full sc.inbox_capacity t.inbox ≡ false → statement_comes sc t d day o (station_of sc d) ≡ (record t { inbox = t.inbox ++ Statement_of d day o ∷ [] }, reply.Accepted)
statement_accepted sc t d day o is room = by (station_of sc d) is.registered
  where
    by : (station : Option ℕ) → is_some station ≡ true → statement_comes sc t d day o station ≡ (record t { inbox = t.inbox ++ Statement_of d day o ∷ [] }, reply.Accepted)
    by None none = absurd (cc)
    by (Some st) of =
        ap (λ b. statement_in b (is_full sc.inbox_capacity t.inbox)) is.known ∙ ap (statement_in true) room
      where
        statement_in : Bool → Bool → System × Reply
        statement_in b c = if not b then (t, reply.Refused Misrouted) else (if c then (t, reply.Refused Busy) else (record t { inbox = t.inbox ++ Statement_of d day o ∷ [] }, reply.Accepted))

pub gathers_arrive : (sc : SchemeValue) (b : System) (x : OutboxValue) (next : ℕ → ℕ) (hand : Option Given) (inbox : List Given) (answers : List AckItem) (t : System) (g : Given) → length inbox < sc.inbox_capacity → IsGiven b g → IsDue next g.item
    → Gathers sc b x next hand inbox answers t → Gathers sc b x (next_after next g.item) hand (inbox ++ g ∷ []) answers (step sc t (event.Arrive g.packet)).0
gathers_arrive sc b x next hand inbox answers t g room given due gathers =
    by g.item refl (packet_stays b t g.packet (map packet_answered answers) (packet_for g.item) gathers.air given.sent) (named_stays b.devices t.devices gathers.same g.item given.named) due
  where
    empty : is_full sc.inbox_capacity t.inbox ≡ false
    empty = room_left sc.inbox_capacity t.inbox (omega (arith, room, ap length gathers.queued, length-map inbox (λ (z : Given). arrived_for z.item)))

    behind : (i : Item) → g.item ≡ i → t.inbox ++ arrived_for i ∷ [] ≡ map (λ z. arrived_for z.item) (inbox ++ g ∷ [])
    behind i is = (λ k. gathers.queued k ++ arrived_for (sym is k) ∷ []) ∙ sym (map-append (λ (z : Given). arrived_for z.item) inbox (g ∷ []))

    by : (i : Item) → g.item ≡ i → packet_at t g.packet ≡ Some (packet_for i) → IsArrivedOf t.devices (arrived_for i) i → IsDue next i → Gathers sc b x (next_after next i) hand (inbox ++ g ∷ []) answers (step sc t (event.Arrive g.packet)).0
    by (item.Tap r) is sent named due = gathered sc b x (put next r.device (r.link + 1)) hand (inbox ++ g ∷ []) answers t (event.Arrive g.packet) y here (record {
      system = system_answered sc t (event.Arrive g.packet) y here gathers.system;
      outbox = outbox_like t y.0 x (put_all (λ j (v : DeviceState). v.upto ≡ (t.devices j).upto) t.devices r.device new (λ j. refl) refl) (put_all (λ j (v : DeviceState). v.taps ≡ (t.devices j).taps) t.devices r.device new (λ j. refl) refl) (λ o d. refl) refl refl refl gathers.outbox;
      same = put_all (λ j (v : DeviceState). SameTaps (b.devices j) v) t.devices r.device new gathers.same (record { taps = (gathers.same r.device).taps; day = (gathers.same r.device).day });
      lanes = gathers.lanes;
      nexts = put_both (λ j (v : DeviceState) n. v.next ≡ n) t.devices next r.device new (r.link + 1) gathers.nexts refl;
      drawn = gathers.drawn;
      queued = behind (item.Tap r) is;
      lines = gathers.lines;
      air = gathers.air;
    })
      where
        new : DeviceState
        new = record (t.devices r.device) { next = r.link + 1 }

        y : System × Reply
        y = (accepted t r.device r.link, reply.Accepted)

        here : step sc t (event.Arrive g.packet) ≡ y
        here = ap (comes sc t) sent ∙ tap_accepted sc t r gathers.system named (gathers.nexts r.device ∙ sym due) empty
    by (item.Stated v) is sent named due = gathered sc b x next hand (inbox ++ g ∷ []) answers t (event.Arrive g.packet) y here (record {
      system = system_answered sc t (event.Arrive g.packet) y here gathers.system;
      outbox = outbox_like t y.0 x (λ j. refl) (λ j. refl) (λ o d. refl) refl refl refl gathers.outbox;
      same = gathers.same;
      lanes = gathers.lanes;
      nexts = gathers.nexts;
      drawn = gathers.drawn;
      queued = behind (item.Stated v) is;
      lines = gathers.lines;
      air = gathers.air;
    })
      where
        y : System × Reply
        y = (record t { inbox = t.inbox ++ Statement_of v.device v.day v.owner ∷ [] }, reply.Accepted)

        here : step sc t (event.Arrive g.packet) ≡ y
        here = ap (comes sc t) sent ∙ statement_accepted sc t v.device v.day v.owner (AllByRecursion-at (IsPacket sc t.devices t.held) t.air (g.packet - 1) (Stated v.device v.day v.owner) gathers.system.air (packet_place t g.packet (Stated v.device v.day v.owner) sent)) empty

-- DRAW
pub gathers_draw : (sc : SchemeValue) (b : System) (x : OutboxValue) (next : ℕ → ℕ) (g : Given) (inbox : List Given) (answers : List AckItem) (t : System)
    → Gathers sc b x next None (g ∷ inbox) answers t → Gathers sc b x next (Some g) inbox answers (step sc t event.Draw).0
gathers_draw sc b x next g inbox answers t gathers = gathered sc b x next (Some g) inbox answers t event.Draw y here (record {
  system = system_answered sc t event.Draw y here gathers.system;
  outbox = outbox_like t y.0 x (λ j. refl) (λ j. refl) (λ o d. refl) refl refl refl gathers.outbox;
  same = gathers.same;
  lanes = gathers.lanes;
  nexts = gathers.nexts;
  drawn = refl;
  queued = refl;
  lines = gathers.lines;
  air = gathers.air;
})
  where
    y : System × Reply
    y = (record t { inbox = map (λ z. arrived_for z.item) inbox; hand = Some (arrived_for g.item) }, drawn_reply (arrived_for g.item))

    here : step sc t event.Draw ≡ y
    here = λ k. draw_from t (gathers.queued k) (gathers.drawn k)

-- STORE
-- in an orderly answer the next link is stored
tap_stored : (t : System) (d k : ℕ) → k ≡ (t.devices d).upto + 1 → nat_le 1000000 t.rows ≡ false → IsOrderly event.Store (store_tap t d k).1 → store_tap t d k ≡ (stored t d, reply.Stored d k)
tap_stored t d k link room fine = in_turn ∙ unheld (is_held t d (tap_at t d k)) (subst (λ z. IsOrderly event.Store z.1) in_turn fine) ∙ (λ i. if room i then (t, reply.Refused OutboxFull) else (stored t d, reply.Stored d k))
  where
    last : System × Reply
    last = if nat_le 1000000 t.rows then (t, reply.Refused OutboxFull) else (stored t d, reply.Stored d k)

    no_less : nat_lt k ((t.devices d).upto + 1) ≡ false
    no_less = grind (arith, nat_tests)

    no_more : nat_lt ((t.devices d).upto + 1) k ≡ false
    no_more = grind (arith, nat_tests)

    in_turn : store_tap t d k ≡ (if is_held t d (tap_at t d k) then (let_go t, reply.Refused Conflict) else last)
    in_turn =
        (λ i. if no_less i then (let_go t, reply.Refused Duplicate) else (if nat_lt ((t.devices d).upto + 1) k then (let_go t, reply.Refused Gap) else (if is_held t d (tap_at t d k) then (let_go t, reply.Refused Conflict) else last)))
        ∙ (λ i. if no_more i then (let_go t, reply.Refused Gap) else (if is_held t d (tap_at t d k) then (let_go t, reply.Refused Conflict) else last))

    unheld : (b : Bool) → IsOrderly event.Store (if b then (let_go t, reply.Refused Conflict) else last).1 → (if b then (let_go t, reply.Refused Conflict) else last) ≡ last
    unheld true fine = absurd (fine.alone refl)
    unheld false fine = refl

roomy : (n : ℕ) → n < 1000000 → nat_le 1000000 n ≡ false
roomy n lt = grind (arith, nat_tests)

store_item : (sc : SchemeValue) (b : System) (x : OutboxValue) (next : ℕ → ℕ) (inbox : List Given) (answers : List AckItem) (t : System) (i : Item) → IsHandled x i → FollowsOutbox x i → IsArrivedOf t.devices (arrived_for i) i → t.hand ≡ Some (arrived_for i)
    → IsSystem sc t → ShowsOutbox t x → ((d : ℕ) → SameTaps (b.devices d) (t.devices d)) → t.lanes ≡ b.lanes → ((d : ℕ) → (t.devices d).next ≡ next d) → t.inbox ≡ map (λ g. arrived_for g.item) inbox → ((st : ℕ) → t.lines st ≡ []) → t.air ≡ b.air ++ map packet_answered answers
    → Gathers sc b (storing x i) next None inbox answers (step sc t event.Store).0
store_item sc b x next inbox answers t (item.Tap r) handled link named hand h outbox same lanes nexts queued lines air = subst (λ z. Gathers sc b z next None inbox answers (step sc t event.Store).0) (sym (stored_new x (item.Tap r) stores)) (gathered sc b (done_by (item.Tap r) x) next None inbox answers t event.Store y here (record {
  system = system_answered sc t event.Store y here h;
  outbox = outbox_stores sc t r x h (subst (λ n. IsAt (t.devices d).taps n r) upto named) outbox;
  same = put_all (λ j (v : DeviceState). SameTaps (b.devices j) v) t.devices d new same (record { taps = (same d).taps; day = (same d).day });
  lanes = lanes;
  nexts = put_all (λ j (v : DeviceState). v.next ≡ next j) t.devices d new nexts (nexts d);
  drawn = refl;
  queued = queued;
  lines = lines;
  air = air;
}))
  where
    d : ℕ
    d = r.device

    stores : is_new x (item.Tap r) ≡ true
    stores = tap_is_new x r link handled

    new : DeviceState
    new = record (t.devices d) { upto = (t.devices d).upto + 1 }

    y : System × Reply
    y = (stored t d, reply.Stored d r.link)

    upto : r.link ≡ (t.devices d).upto + 1
    upto = link ∙ ap (λ n. n + 1) (outbox.upto d)

    first : step sc t event.Store ≡ store_tap t d r.link
    first = ap (store_from t) hand

    here : step sc t event.Store ≡ y
    here = first ∙ tap_stored t d r.link upto (roomy t.rows (omega (arith, (new_tap x r stores).1, outbox.row_count))) (subst (λ z. IsOrderly event.Store z.1) first (moves_step sc t event.Store h).orderly)
store_item sc b x next inbox answers t (item.Stated v) handled link named hand h outbox same lanes nexts queued lines air =
    subst (λ z. Gathers sc b (storing x (item.Stated v)) next None inbox answers z.0) (sym first) (elim handled [ inl new ↦ stores new | inr again ↦ leaves again ])
  where
    d : ℕ
    d = v.device

    n : ℕ
    n = stated_count t v.owner d v.day

    judged : Option ℕ → System × Reply
    judged o = store_statement t d v.day v.owner o

    first : step sc t event.Store ≡ judged (x.stated v.owner d v.day)
    first = ap (store_from t) hand ∙ ap judged (sym (outbox.stated v.owner d v.day))

    count : v.count ≡ n
    count = ap (λ (z : StatementValue). z.count) named.is

    stores : is_new x (item.Stated v) ≡ true → Gathers sc b (storing x (item.Stated v)) next None inbox answers (judged (x.stated v.owner d v.day)).0
    stores new =
        let free = new_statement x v new in
        let roomy_now : nat_le 1000000 t.statements ≡ false = roomy t.statements (omega (arith, free.1, outbox.stated_count)) in
        let done : judged (x.stated v.owner d v.day) ≡ (stored_day t d v.day v.owner, reply.StoredDay d v.day v.owner) = ap judged free.0 ∙ (λ i. if roomy_now i then (t, reply.Refused OutboxFull) else (stored_day t d v.day v.owner, reply.StoredDay d v.day v.owner)) in
        subst (λ y. Gathers sc b y next None inbox answers (judged (x.stated v.owner d v.day)).0) (sym (stored_new x (item.Stated v) new))
        (subst (λ z. Gathers sc b (done_by (item.Stated v) x) next None inbox answers z.0) (sym done) (record {
          system = system_answered sc t event.Store (stored_day t d v.day v.owner, reply.StoredDay d v.day v.owner) (first ∙ done) h;
          outbox = outbox_states t v x count outbox;
          same = same;
          lanes = lanes;
          nexts = nexts;
          drawn = refl;
          queued = queued;
          lines = lines;
          air = air;
        }))

    leaves : IsRepeated x (item.Stated v) → Gathers sc b (storing x (item.Stated v)) next None inbox answers (judged (x.stated v.owner d v.day)).0
    leaves again =
        let done : judged (x.stated v.owner d v.day) ≡ (let_go t, reply.Refused Duplicate) = ap judged (statement_again x v again ∙ ap Some count) ∙ ap (λ c. if c then (let_go t, reply.Refused Duplicate) else (let_go t, reply.Refused Conflict)) (is_self n) in
        subst (λ y. Gathers sc b y next None inbox answers (judged (x.stated v.owner d v.day)).0) (sym (stored_old x (item.Stated v) (repeated_is_old x (item.Stated v) again)))
        (subst (λ z. Gathers sc b x next None inbox answers z.0) (sym done) (record {
          system = system_answered sc t event.Store (let_go t, reply.Refused Duplicate) (first ∙ done) h;
          outbox = outbox_like t (let_go t) x (λ j. refl) (λ j. refl) (λ o d. refl) refl refl refl outbox;
          same = same;
          lanes = lanes;
          nexts = nexts;
          drawn = refl;
          queued = queued;
          lines = lines;
          air = air;
        }))

pub gathers_store : (sc : SchemeValue) (b : System) (x : OutboxValue) (next : ℕ → ℕ) (g : Given) (inbox : List Given) (answers : List AckItem) (t : System) → IsHandled x g.item → FollowsOutbox x g.item → IsGiven b g
    → Gathers sc b x next (Some g) inbox answers t → Gathers sc b (storing x g.item) next None inbox answers (step sc t event.Store).0
gathers_store sc b x next g inbox answers t handled link given gathers =
    store_item sc b x next inbox answers t g.item handled link (named_stays b.devices t.devices gathers.same g.item given.named) gathers.drawn gathers.system gathers.outbox gathers.same gathers.lanes gathers.nexts gathers.queued gathers.lines gathers.air

-- ACK AND ANSWER
answer_for : System → AckItem → Answer
answer_for t (ack_item.Upto a) = Ack_of a.device (t.devices a.device).upto
answer_for t (ack_item.Day a) = DayAck_of a.device a.day

gained_reply : System → AckItem → Reply
gained_reply t (ack_item.Upto a) = reply.Acknowledged (t.devices a.device).upto
gained_reply t (ack_item.Day a) = reply.AcknowledgedDay a.day

is_it_held : (b : Bool) (n : ℕ) → is_some (if b then Some n else None) ≡ true → b ≡ true
is_it_held true n e = refl
is_it_held false n e = absurd (cc)

-- an empty line takes it
gains : (sc : SchemeValue) (x : OutboxValue) (t : System) (st : ℕ) (a : AckItem) → 1 ≤ sc.inbox_capacity → IsAnswerFrom sc x a → ShowsOutbox t x → t.lines st ≡ [] → station_of sc (device_answered a) ≡ Some st → step sc t (answer_event a) ≡ (gains_answer t st (answer_for t a), gained_reply t a)
unfolding answer_for gained_reply
gains sc x t st (ack_item.Upto a) room is outbox empty of =
    ap (ack_by sc t a.device) of ∙ (λ i. if free i then (t, reply.Refused Busy) else (gains_answer t st (Ack_of a.device (t.devices a.device).upto), reply.Acknowledged (t.devices a.device).upto))
  where
    by_numbers : (m : ℕ) → 1 ≤ m → nat_le m 0 ≡ false
    by_numbers m le = grind (arith, nat_tests)

    free : is_full sc.inbox_capacity (t.lines st) ≡ false
    free = ap (is_full sc.inbox_capacity) empty ∙ by_numbers sc.inbox_capacity room
gains sc x t st (ack_item.Day a) room is outbox empty of =
    ap (day_ack_by sc t a.device a.day) of
    ∙ (λ i. if all i then (if is_full sc.inbox_capacity (t.lines st) then (t, reply.Refused Busy) else (gains_answer t st (DayAck_of a.device a.day), reply.AcknowledgedDay a.day)) else (t, reply.Refused Unstated))
    ∙ (λ i. if free i then (t, reply.Refused Busy) else (gains_answer t st (DayAck_of a.device a.day), reply.AcknowledgedDay a.day))
  where
    by_numbers : (m : ℕ) → 1 ≤ m → nat_le m 0 ≡ false
    by_numbers m le = grind (arith, nat_tests)

    free : is_full sc.inbox_capacity (t.lines st) ≡ false
    free = ap (is_full sc.inbox_capacity) empty ∙ by_numbers sc.inbox_capacity room

    all : are_all_held sc t.held a.device a.day ≡ true
    all = list_all-weaken (λ (o : ℕ × ℕ). is_some (x.stated o.0 a.device a.day)) (λ (o : ℕ × ℕ). t.held o.0 a.device a.day) (λ o e. is_it_held (t.held o.0 a.device a.day) (stated_count t o.0 a.device a.day) (ap is_some (sym (outbox.stated o.0 a.device a.day)) ∙ e)) sc.owners is.1

registered : (sc : SchemeValue) (x : OutboxValue) (a : AckItem) → IsAnswerFrom sc x a → is_some (station_of sc (device_answered a)) ≡ true
registered sc x (ack_item.Upto a) is = is.0
registered sc x (ack_item.Day a) is = is.0

answer_packet : (sc : SchemeValue) (x : OutboxValue) (t : System) (a : AckItem) → IsAnswerFrom sc x a → ShowsOutbox t x → packet_of (answer_for t a) ≡ packet_answered a
unfolding answer_for
answer_packet sc x t (ack_item.Upto a) is outbox = ap (Acked a.device) (sym (is.1 ∙ outbox.upto a.device))
answer_packet sc x t (ack_item.Day a) is outbox = refl

-- a line that gained an answer and lost it
put_twice : (f : ℕ → List Answer) (st : ℕ) (xs : List Answer) → ((j : ℕ) → f j ≡ []) → (j : ℕ) → put (put f st xs) st [] j ≡ []
put_twice f st xs empty = put_apart (λ j (l : List Answer). l ≡ []) (put f st xs) st [] (λ j other. ap (λ c. if c then xs else f j) other ∙ empty j) refl

pub gathers_answer : (sc : SchemeValue) (b : System) (x : OutboxValue) (next : ℕ → ℕ) (hand : Option Given) (inbox : List Given) (answers : List AckItem) (t : System) (a : AckItem) → HasStations sc → 1 ≤ sc.inbox_capacity → IsAnswerFrom sc x a
    → Gathers sc b x next hand inbox answers t → Gathers sc b x next hand inbox (answers ++ a ∷ []) (step sc (step sc t (answer_event a)).0 (event.Answer (unwrap_or (station_of sc (device_answered a)) 0))).0
gathers_answer sc b x next hand inbox answers t a stations room is gathers = by (station_of sc (device_answered a)) refl (registered sc x a is)
  where
    by : (o : Option ℕ) → station_of sc (device_answered a) ≡ o → is_some o ≡ true → Gathers sc b x next hand inbox (answers ++ a ∷ []) (step sc (step sc t (answer_event a)).0 (event.Answer (unwrap_or (station_of sc (device_answered a)) 0))).0
    by None none some = absurd (cc)
    by (Some st) of some =
        subst (λ z. Gathers sc b x next hand inbox (answers ++ a ∷ []) z.0) (sym ((λ i. step sc (one i).0 (event.Answer (unwrap_or (of i) 0))) ∙ two)) (record {
          system = system_answered sc t1 (event.Answer st) y2 two (system_answered sc t (answer_event a) y1 one gathers.system);
          outbox = outbox_like t y2.0 x (λ j. refl) (λ j. refl) (λ o d. refl) refl refl refl gathers.outbox;
          same = gathers.same;
          lanes = gathers.lanes;
          nexts = gathers.nexts;
          drawn = gathers.drawn;
          queued = gathers.queued;
          lines = put_twice t.lines st (t.lines st ++ answer_for t a ∷ []) gathers.lines;
          air = (λ i. gathers.air i ++ answer_packet sc x t a is gathers.outbox i ∷ []) ∙ append_assoc b.air (map packet_answered answers) (packet_answered a ∷ []) ∙ ap (λ l. b.air ++ l) (sym (map-append packet_answered answers (a ∷ [])));
        })
      where
        t1 : System
        t1 = gains_answer t st (answer_for t a)

        y1 : System × Reply
        y1 = (t1, gained_reply t a)

        y2 : System × Reply
        y2 = (record t1 { air = t1.air ++ packet_of (answer_for t a) ∷ []; lines = put t1.lines st [] }, answered_reply (length t1.air + 1) (answer_for t a))

        one : step sc t (answer_event a) ≡ y1
        one = gains sc x t st a room is gathers.outbox (gathers.lines st) of

        line : t1.lines st ≡ answer_for t a ∷ []
        line = put_here t.lines st (t.lines st ++ answer_for t a ∷ []) ∙ ap (λ l. l ++ answer_for t a ∷ []) (gathers.lines st)

        two : step sc t1 (event.Answer st) ≡ y2
        two = λ i. if stations (device_answered a) st of i then answer_from t1 st (line i) else (t1, reply.Refused UnknownStation)
