-- What a world shows after a draw and a store.
use Rattle.std.proofs.Common.{◌≡◌, ℕ, ◌+◌, ◌-◌, ◌<◌, ◌≤◌, List, [], ◌∷◌, ◌++◌, length, take, Some, None, Bool, true, false, refl, sym, ap, ◌∙◌, subst, arith}
use Rattle.std.specs.Prelude.{◌==◌, ◌&&◌, slice_get, if◌then◌else◌, IfSome, Option, Result, Ok, Err, is_some, nat_le, nat_lt}
use Rattle.std.proofs.lemmas.Bool.Decides.{nat_tests, Decides-eqb}
use Rattle.fare_record.specs.Values.{RecordValue, StatementValue}
use Rattle.fare_record.specs.Lanes.{part}
use Rattle.fare_record.specs.declared.item.Item.{Item}
use Rattle.fare_record.specs.declared.item.Item.TheVariants as item
use Rattle.fare_scheme.specs.Values.{SchemeValue}
use Rattle.fare_store.specs.declared.fault.StoreFault.{StoreFault}
use Rattle.fare_store.specs.declared.fault.StoreFault.TheVariants as store_fault
use Rattle.fare_store.specs.declared.fault.StatedFault.{StatedFault}
use Rattle.fare_store.specs.declared.fault.StatedFault.TheVariants as stated_fault
use Rattle.fare_store.specs.Tables.{put3, put, put2}
use Rattle.fare_store.specs.OutboxWords.{store_judged, stated_judged_by, stated_judged}
use Rattle.fare_store.specs.OutboxWords as outbox
use Rattle.fare_event.specs.declared.event.Event.TheVariants as event
use Rattle.fare_event.specs.declared.reply.Refusal.{Refusal}
use Rattle.fare_event.specs.declared.reply.Refusal.TheVariants.{HandFull, Duplicate, Gap, Conflict, OutboxFull}
use Rattle.fare_event.specs.declared.reply.Reply.{Reply}
use Rattle.fare_event.specs.declared.reply.Reply.TheVariants.{Idle, Empty, Refused, Drawn, DrawnDay, Stored, StoredDay, Restarted}
use Rattle.fare_world.specs.System.{Arrived, Tap_of, Statement_of, DeviceState, System, numbered_for, arrived_of, stated_count}
use Rattle.fare_world.specs.Arriving as arriving
use Rattle.fare_world.specs.Restarting.{restart_writer}
use Rattle.fare_world.specs.Storing.{drawn_reply, draw_from, draw, let_go, is_held, stored, store_tap, stored_day, store_statement, store_from, store}
use Rattle.fare_world.specs.ItemReplies.{drawn_item}
use Rattle.fare_world.specs.Shown.{IsAt, IsStatementOf, count_of, IsPacketOf, IsArrivedOf, IsDeviceOf, IsStationOf, IsOwnerOf, Both, Each2, Shape, Shows, row_at}
use Rattle.fare_world.specs.Kept.{IsDevice, IsSystem}
use Rattle.fare_world.proofs.RowPlaces.{row_past, row_push}
use Rattle.fare_store.proofs.Entries.{at_most, below, above, not_below, if_all, put_all, put_apart, put_both}
use Rattle.fare_world.proofs.Lists.{Each2-nil, Each2-cons, Each2-weaken, Both-none, Both-some, IfSome-weaken, part-push, take-one_more}
use Rattle.fare_world.proofs.Kept.{moves_step}
use Rattle.fare_world.proofs.KeptParts.{hand_changes}
use Rattle.fare_world.proofs.ShowForward.{took_arrived}
use Rattle.fare_world.proofs.Showing.{Answers, answers_by, GrowsAt, grows_by_none, stations_same, same_device, owner_grows, packet_grows, arrived_grows, tap_at, arrived_is, arrived_states}

-- DRAW
pub shown_hand_full : (sc : SchemeValue) (h : Shape) (s : System) (y : Item) → Shows sc h s → h.hand ≡ Some y → Answers sc h (draw s) (Refused HandFull)
shown_hand_full sc h s y w e =
    let found = Both-some (IsArrivedOf s.devices) s.hand y (subst (Both (IsArrivedOf s.devices) s.hand) e w.hand) in
    answers_by sc h (Refused HandFull) (draw s) (s, Refused HandFull) (ap (draw_from s s.inbox) found.1) refl w

pub shown_empty : (sc : SchemeValue) (h : Shape) (s : System) → Shows sc h s → h.hand ≡ None → h.inbox ≡ [] → Answers sc h (draw s) Empty
shown_empty sc h s w e f =
    let hand = Both-none (IsArrivedOf s.devices) s.hand (subst (Both (IsArrivedOf s.devices) s.hand) e w.hand) in
    let inbox = Each2-nil (IsArrivedOf s.devices) s.inbox (subst (Each2 (IsArrivedOf s.devices) s.inbox) f w.inbox) in
    answers_by sc h Empty (draw s) (s, Empty) (λ i. draw_from s (inbox i) (hand i)) refl w

-- what is replied of an item that is drawn
drawn_by : (sc : SchemeValue) (s : System) (x : Arrived) (y : Item) → IsSystem sc s → IsArrivedOf s.devices x y → drawn_item y ≡ drawn_reply x
drawn_by sc s (Tap_of d k) (item.Tap r) is at = let t = tap_at sc s d k r is at in (λ i. Drawn (t.device i) (t.link i))
drawn_by sc s (Tap_of d k) (item.Stated y) is at = absurd at
drawn_by sc s (Statement_of d day o) (item.Tap r) is at = absurd at
drawn_by sc s (Statement_of d day o) (item.Stated y) is at = λ i. DrawnDay (at.is i).device (at.is i).day (at.is i).owner

pub shown_draw : (sc : SchemeValue) (h : Shape) (s : System) (y : Item) (rest : List Item) → Shows sc h s → h.hand ≡ None → h.inbox ≡ y ∷ rest → Answers sc (record h { inbox = rest; hand = Some y }) (draw s) (drawn_item y)
shown_draw sc h s y rest w e f =
    let hand = Both-none (IsArrivedOf s.devices) s.hand (subst (Both (IsArrivedOf s.devices) s.hand) e w.hand) in
    let found = Each2-cons (IsArrivedOf s.devices) s.inbox y rest (subst (Each2 (IsArrivedOf s.devices) s.inbox) f w.inbox) in
    let goes : draw s ≡ (record s { inbox = found.1; hand = Some found.0 }, drawn_reply found.0) = (λ i. draw_from s (found.2 i) (hand i)) in
    answers_by sc (record h { inbox = rest; hand = Some y }) (drawn_item y) (draw s) (record s { inbox = found.1; hand = Some found.0 }, drawn_reply found.0) goes (drawn_by sc s found.0 y w.system found.3)
    (record {
      system = subst (λ (z : System × Reply). IsSystem sc z.0) goes (moves_step sc s event.Draw w.system).system;
      devices = w.devices;
      stations = w.stations;
      air = w.air;
      inbox = found.4;
      hand = found.3;
      upto = w.upto;
      rows = w.rows;
      row_count = w.row_count;
      stated = w.stated;
      stated_count = w.stated_count;
      owners = w.owners;
    })

-- STORE
-- what is in the hand is the tap of the record's numbers
hand_found : (sc : SchemeValue) (h : Shape) (s : System) (r : RecordValue) → Shows sc h s → h.hand ≡ Some (item.Tap r) → (store s ≡ store_tap s r.device r.link) × IsAt (s.devices r.device).taps r.link r
hand_found sc h s r w e =
    let found = Both-some (IsArrivedOf s.devices) s.hand (item.Tap r) (subst (Both (IsArrivedOf s.devices) s.hand) e w.hand) in
    let is = arrived_is sc s found.0 r w.system found.2 in
    (ap (store_from s) (found.1 ∙ ap Some is.0), is.1)

pub shown_nothing : (sc : SchemeValue) (h : Shape) (s : System) → Shows sc h s → h.hand ≡ None → Answers sc h (store s) Idle
shown_nothing sc h s w e = answers_by sc h Idle (store s) (s, Idle) (ap (store_from s) (Both-none (IsArrivedOf s.devices) s.hand (subst (Both (IsArrivedOf s.devices) s.hand) e w.hand))) refl w

-- a refusal empties the hand
refused_store : (sc : SchemeValue) (h : Shape) (s : System) (why : Refusal) → Shows sc h s → store s ≡ (let_go s, Refused why) → Answers sc (record h { hand = None }) (store s) (Refused why)
refused_store sc h s why w goes =
    answers_by sc (record h { hand = None }) (Refused why) (store s) (let_go s, Refused why) goes refl
    (record {
      system = hand_changes sc s s.inbox None w.system w.system.inbox tt;
      devices = w.devices;
      stations = w.stations;
      air = w.air;
      inbox = w.inbox;
      hand = tt;
      upto = w.upto;
      rows = w.rows;
      row_count = w.row_count;
      stated = w.stated;
      stated_count = w.stated_count;
      owners = w.owners;
    })

duplicate : (sc : SchemeValue) (h : Shape) (s : System) (r : RecordValue) → Shows sc h s → h.hand ≡ Some (item.Tap r) → r.link ≤ h.outbox.upto r.device → Answers sc (record h { hand = None }) (store s) (Refused Duplicate)
duplicate sc h s r w e le =
    let low : r.link < (s.devices r.device).upto + 1 = omega (arith, w.upto r.device) in
    refused_store sc h s Duplicate w ((hand_found sc h s r w e).0 ∙ goes low)
  where
    goes : r.link < (s.devices r.device).upto + 1 → store_tap s r.device r.link ≡ (let_go s, Refused Duplicate)
    goes low = grind (arith, nat_tests)

gap : (sc : SchemeValue) (h : Shape) (s : System) (r : RecordValue) → Shows sc h s → h.hand ≡ Some (item.Tap r) → h.outbox.upto r.device + 1 < r.link → Answers sc (record h { hand = None }) (store s) (Refused Gap)
gap sc h s r w e lt =
    let high : (s.devices r.device).upto + 1 < r.link = omega (arith, w.upto r.device) in
    refused_store sc h s Gap w ((hand_found sc h s r w e).0 ∙ goes high)
  where
    goes : (s.devices r.device).upto + 1 < r.link → store_tap s r.device r.link ≡ (let_go s, Refused Gap)
    goes high = grind (arith, nat_tests)

-- what does not speak of the outbox and the hand
record Rest (sc : SchemeValue) (h : Shape) (s : System) (g : ℕ → DeviceState) : Type 0 where
  devices : (d : ℕ) → IfSome (h.devices d) (IsDeviceOf sc d (g d))
  stations : (station : ℕ) → IfSome (h.stations station) (IsStationOf sc g station (s.lines station))
  air : Each2 (IsPacketOf g) s.air h.air
  inbox : Each2 (IsArrivedOf g) s.inbox h.inbox
  owners : (o : ℕ) → IfSome (h.owners o) (IsOwnerOf sc g o (s.owners o) (s.lanes o))

-- the lane number of the tap that comes next is past what is held
lane_is_next : (sc : SchemeValue) (h : Shape) (s : System) (r : RecordValue) → Shows sc h s → h.hand ≡ Some (item.Tap r) → r.link ≡ h.outbox.upto r.device + 1 → r.lane ≡ length (arrived_of r.owner (s.devices r.device)) + 1
lane_is_next sc h s r w e next =
    let found = hand_found sc h s r w e in
    let less : (s.devices r.device).upto ≡ r.link - 1 = omega (arith, next, w.upto r.device) in
    ((w.system.devices r.device).numbered (s.devices r.device).upto r (ap (slice_get (s.devices r.device).taps) less ∙ found.1.here)).lane

no_conflict : (sc : SchemeValue) (h : Shape) (s : System) (r : RecordValue) → Shows sc h s → h.hand ≡ Some (item.Tap r) → r.link ≡ h.outbox.upto r.device + 1 → h.outbox.rows r.owner r.device r.lane ≡ None
no_conflict sc h s r w e next =
    let lane = lane_is_next sc h s r w e next in
    w.rows r.owner r.device r.lane ∙ row_past (s.lanes r.owner r.device).gone (arrived_of r.owner (s.devices r.device)) r.lane (omega (arith, lane))

-- nor does the step find a row in its place
none_held : (sc : SchemeValue) (h : Shape) (s : System) (r : RecordValue) → Shows sc h s → h.hand ≡ Some (item.Tap r) → r.link ≡ h.outbox.upto r.device + 1 → is_held s r.device (arriving.tap_at s r.device r.link) ≡ false
none_held sc h s r w e next = ap (is_held s r.device) (hand_found sc h s r w e).1.here ∙ past (lane_is_next sc h s r w e next)
  where
    and_false : (b : Bool) → (b && false) ≡ false
    and_false true = refl
    and_false false = refl

    past : r.lane ≡ length (arrived_of r.owner (s.devices r.device)) + 1 → (nat_lt (s.lanes r.owner r.device).gone r.lane && nat_le r.lane (length (arrived_of r.owner (s.devices r.device)))) ≡ false
    past lane =
        let off : nat_le r.lane (length (arrived_of r.owner (s.devices r.device))) ≡ false = grind (arith, nat_tests) in
        ap (λ b. nat_lt (s.lanes r.owner r.device).gone r.lane && b) off ∙ and_false (nat_lt (s.lanes r.owner r.device).gone r.lane)

-- the step, once the link is the next
store_next : (sc : SchemeValue) (h : Shape) (s : System) (r : RecordValue) → Shows sc h s → h.hand ≡ Some (item.Tap r) → r.link ≡ h.outbox.upto r.device + 1 → store s ≡ (if nat_le 1000000 s.rows then (s, Refused OutboxFull) else (stored s r.device, Stored r.device r.link))
store_next sc h s r w e next =
    (hand_found sc h s r w e).0 ∙ tests (next ∙ ap (λ n. n + 1) (w.upto r.device))
    ∙ ap (λ b. if b then (let_go s, Refused Conflict) else if nat_le 1000000 s.rows then (s, Refused OutboxFull) else (stored s r.device, Stored r.device r.link)) (none_held sc h s r w e next)
  where
    tests : r.link ≡ (s.devices r.device).upto + 1 → store_tap s r.device r.link ≡ (if is_held s r.device (arriving.tap_at s r.device r.link) then (let_go s, Refused Conflict) else if nat_le 1000000 s.rows then (s, Refused OutboxFull) else (stored s r.device, Stored r.device r.link))
    tests is =
        let late : nat_lt r.link ((s.devices r.device).upto + 1) ≡ false = grind (arith, nat_tests) in
        let early : nat_lt ((s.devices r.device).upto + 1) r.link ≡ false = grind (arith, nat_tests) in
        (λ i. if late i then (let_go s, Refused Duplicate) else if early i then (let_go s, Refused Gap) else if is_held s r.device (arriving.tap_at s r.device r.link) then (let_go s, Refused Conflict) else if nat_le 1000000 s.rows then (s, Refused OutboxFull) else (stored s r.device, Stored r.device r.link))

full : (sc : SchemeValue) (h : Shape) (s : System) (r : RecordValue) → Shows sc h s → h.hand ≡ Some (item.Tap r) → r.link ≡ h.outbox.upto r.device + 1 → 1000000 ≤ h.outbox.row_count → Answers sc h (store s) (Refused OutboxFull)
full sc h s r w e next many =
    answers_by sc h (Refused OutboxFull) (store s) (s, Refused OutboxFull) (store_next sc h s r w e next ∙ ap (λ b. if b then (s, Refused OutboxFull) else (stored s r.device, Stored r.device r.link)) (is_many (omega (arith, many, w.row_count)))) refl w
  where
    is_many : 1000000 ≤ s.rows → nat_le 1000000 s.rows ≡ true
    is_many many = grind (arith, nat_tests)

shown_stored : (sc : SchemeValue) (h : Shape) (s : System) (r : RecordValue) → Shows sc h s → h.hand ≡ Some (item.Tap r) → r.link ≡ h.outbox.upto r.device + 1 → h.outbox.row_count < 1000000 → Answers sc (record h { hand = None; outbox = outbox.stored r h.outbox }) (store s) (Stored r.device r.link)
shown_stored sc h s r w e did few =
    answers_by sc (record h { hand = None; outbox = outbox.stored r h.outbox }) (Stored r.device r.link) (store s) (stored s d, Stored d r.link) goes refl
    (record {
      system = subst (λ (y : System × Reply). IsSystem sc y.0) goes (moves_step sc s event.Store w.system).system;
      devices = devices.devices;
      stations = devices.stations;
      air = devices.air;
      inbox = devices.inbox;
      hand = tt;
      upto = put_both (λ i a b. a ≡ b.upto) h.outbox.upto s.devices d r.link after w.upto (did ∙ ap (λ m. m + 1) (w.upto d));
      rows = added;
      row_count = ap (λ n. n + 1) w.row_count;
      stated = λ o j day. w.stated o j day ∙ put_all (λ i a. count_of (s.held o i day) (part o (s.devices i).taps) day ≡ count_of (s.held o i day) (part o a.taps) day) s.devices d after (λ i. refl) refl j;
      stated_count = w.stated_count;
      owners = devices.owners;
    })
  where
    d : ℕ
    d = r.device

    v : DeviceState
    v = s.devices d

    is : IsDevice sc d v
    is = w.system.devices d

    found : (store s ≡ store_tap s r.device r.link) × IsAt (s.devices r.device).taps r.link r
    found = hand_found sc h s r w e

    next : r.link ≡ v.upto + 1
    next = did ∙ ap (λ m. m + 1) (w.upto d)

    room : s.rows < 1000000 → nat_le 1000000 s.rows ≡ false
    room few = grind (arith, nat_tests)

    goes : store s ≡ (stored s d, Stored d r.link)
    goes = store_next sc h s r w e did ∙ ap (λ b. if b then (s, Refused OutboxFull) else (stored s d, Stored d r.link)) (room (omega (arith, few, w.row_count)))

    here : slice_get v.taps v.upto ≡ Some r
    here = let less : v.upto ≡ r.link - 1 = omega (arith, next) in ap (slice_get v.taps) less ∙ found.1.here

    after : DeviceState
    after = record v { upto = v.upto + 1 }

    g : ℕ → DeviceState
    g = put s.devices d after

    more : take (v.upto + 1) v.taps ≡ take v.upto v.taps ++ r ∷ []
    more = take-one_more v.taps v.upto r here

    devices : Rest sc h s g
    devices = record {
      devices = put_all (λ j a. IfSome (h.devices j) (IsDeviceOf sc j a)) s.devices d after w.devices (same_device sc d v after (h.devices d) refl refl refl refl refl (w.devices d));
      stations = stations_same sc h s g (put_all (λ j a. a.next ≡ (s.devices j).next) s.devices d after (λ j. refl) refl) w;
      air = Each2-weaken (IsPacketOf s.devices) (IsPacketOf g) (packet_grows s.devices g up) s.air h.air w.air;
      inbox = Each2-weaken (IsArrivedOf s.devices) (IsArrivedOf g) (arrived_grows s.devices g up) s.inbox h.inbox w.inbox;
      owners = λ o. IfSome-weaken (IsOwnerOf sc s.devices o (s.owners o) (s.lanes o)) (IsOwnerOf sc g o (s.owners o) (s.lanes o))
          (owner_grows sc s g w.system up (λ p. put_all (λ j a. take (s.lanes p j).took (part p a.taps) ≡ take (s.lanes p j).took (numbered_for s p j)) s.devices d after (λ j. refl) refl) o) (h.owners o) (w.owners o);
    }
      where
        up : GrowsAt s.devices g
        up = grows_by_none s d after refl (omega arith)

    first : List RecordValue
    first = arrived_of r.owner v

    one_more : arrived_of r.owner after ≡ first ++ r ∷ []
    one_more = ap (part r.owner) more ∙ part-push r.owner (take v.upto v.taps) r ∙ ap (λ b. if b then first ++ r ∷ [] else first) ((Decides-eqb r.owner r.owner).1 refl)

    lane : r.lane ≡ length first + 1
    lane = lane_is_next sc h s r w e did

    gone : (s.lanes r.owner d).gone ≤ length first
    gone = omega (arith, (w.system.lanes r.owner d).gone, took_arrived sc s r.owner d w.system)

    here_too : (l : ℕ) → put (h.outbox.rows r.owner d) r.lane (Some r) l ≡ row_at (s.lanes r.owner d).gone (arrived_of r.owner after) l
    here_too l = (λ i. put (λ k. w.rows r.owner d k i) r.lane (Some r) l) ∙ row_push (s.lanes r.owner d).gone first r r.lane l gone lane ∙ ap (λ rs. row_at (s.lanes r.owner d).gone rs l) (sym one_more)

    added : (o j l : ℕ) → put3 h.outbox.rows r.owner d r.lane (Some r) o j l ≡ row_at (s.lanes o j).gone (arrived_of o (g j)) l
    added = put_apart (λ o (f : ℕ → ℕ → Option RecordValue). (j l : ℕ) → f j l ≡ row_at (s.lanes o j).gone (arrived_of o (g j)) l) h.outbox.rows r.owner (put2 (h.outbox.rows r.owner) d r.lane (Some r))
        (λ o apart. put_all (λ j a. (l : ℕ) → h.outbox.rows o j l ≡ row_at (s.lanes o j).gone (arrived_of o a) l) s.devices d after (w.rows o)
        (λ l. w.rows o d l ∙ ap (λ rs. row_at (s.lanes o d).gone rs l) (sym (ap (part o) more ∙ part-push o (take v.upto v.taps) r ∙ ap (λ b. if b then part o (take v.upto v.taps) ++ r ∷ [] else part o (take v.upto v.taps)) (turned o r.owner apart)))))
        (put_both (λ j (a : ℕ → Option RecordValue) b. (l : ℕ) → a l ≡ row_at (s.lanes r.owner j).gone (arrived_of r.owner b) l) (h.outbox.rows r.owner) s.devices d (put (h.outbox.rows r.owner d) r.lane (Some r)) after (w.rows r.owner) here_too)
      where
        turned : (a b : ℕ) → (a == b) ≡ false → (b == a) ≡ false
        turned a b apart = grind (arith, nat_tests)

-- what is seen after a store that was judged so
abbrev pub Judged : SchemeValue → Shape → System → RecordValue → Result Unit StoreFault → Type 0
Judged sc h s r (Ok _) = Answers sc (record h { hand = None; outbox = outbox.stored r h.outbox }) (store s) (Stored r.device r.link)
Judged sc h s r (Err store_fault.OutboxFull) = Answers sc h (store s) (Refused OutboxFull)
Judged sc h s r (Err store_fault.Duplicate) = Answers sc (record h { hand = None }) (store s) (Refused Duplicate)
Judged sc h s r (Err store_fault.Gap) = Answers sc (record h { hand = None }) (store s) (Refused Gap)
Judged sc h s r (Err store_fault.Conflict) = Answers sc (record h { hand = None }) (store s) (Refused Conflict)

pub shown_store : (sc : SchemeValue) (h : Shape) (s : System) (r : RecordValue) → Shows sc h s → h.hand ≡ Some (item.Tap r) → Judged sc h s r (store_judged h.outbox r)
shown_store sc h s r w e =
    if_all (nat_le r.link (h.outbox.upto r.device)) (Judged sc h s r) _ _ (λ a. duplicate sc h s r w e (at_most _ _ a))
    (λ a. if_all (nat_lt (h.outbox.upto r.device + 1) r.link) (Judged sc h s r) _ _ (λ b. gap sc h s r w e (below _ _ b))
    (λ b. let next : r.link ≡ h.outbox.upto r.device + 1 = omega (arith, above _ _ a, not_below _ _ b) in
    if_all (is_some (h.outbox.rows r.owner r.device r.lane)) (Judged sc h s r) _ _ (λ c. absurd (held_none (ap is_some (no_conflict sc h s r w e next)) c))
    (λ c. if_all (nat_le 1000000 h.outbox.row_count) (Judged sc h s r) _ _ (λ d. full sc h s r w e next (at_most _ _ d)) (λ d. shown_stored sc h s r w e next (above _ _ d)))))
  where
    held_none : {b : Bool} → b ≡ false → b ≡ true → ⊥
    held_none off on = let both : false ≡ true = sym off ∙ on in absurd (cc)

-- A STATEMENT IS STORED
statement_found : (sc : SchemeValue) (h : Shape) (s : System) (y : StatementValue) → Shows sc h s → h.hand ≡ Some (item.Stated y) → (store s ≡ store_statement s y.device y.day y.owner (h.outbox.stated y.owner y.device y.day)) × IsStatementOf s.devices y.device y.day y.owner y
statement_found sc h s y w e =
    let found = Both-some (IsArrivedOf s.devices) s.hand (item.Stated y) (subst (Both (IsArrivedOf s.devices) s.hand) e w.hand) in
    let is = arrived_states s.devices found.0 y found.2 in
    (ap (store_from s) (found.1 ∙ ap Some is.0) ∙ ap (store_statement s y.device y.day y.owner) (sym (w.stated y.owner y.device y.day)), is.1)

-- what is seen after a store of a statement that was judged so
abbrev pub StatedSeen : SchemeValue → Shape → System → StatementValue → Result Unit StatedFault → Type 0
StatedSeen sc h s y (Ok _) = Answers sc (record h { hand = None; outbox = outbox.stored_statement y h.outbox }) (store s) (StoredDay y.device y.day y.owner)
StatedSeen sc h s y (Err stated_fault.OutboxFull) = Answers sc h (store s) (Refused OutboxFull)
StatedSeen sc h s y (Err stated_fault.Duplicate) = Answers sc (record h { hand = None }) (store s) (Refused Duplicate)
StatedSeen sc h s y (Err stated_fault.Conflict) = Answers sc (record h { hand = None }) (store s) (Refused Conflict)

stored_statement_shows : (sc : SchemeValue) (h : Shape) (s : System) (y : StatementValue) → Shows sc h s → IsStatementOf s.devices y.device y.day y.owner y → store s ≡ (stored_day s y.device y.day y.owner, StoredDay y.device y.day y.owner) → StatedSeen sc h s y (Ok tt)
stored_statement_shows sc h s y w is goes =
    answers_by sc (record h { hand = None; outbox = outbox.stored_statement y h.outbox }) (StoredDay y.device y.day y.owner) (store s) (stored_day s y.device y.day y.owner, StoredDay y.device y.day y.owner) goes refl
    (record {
      system = subst (λ (z : System × Reply). IsSystem sc z.0) goes (moves_step sc s event.Store w.system).system;
      devices = w.devices;
      stations = w.stations;
      air = w.air;
      inbox = w.inbox;
      hand = tt;
      upto = w.upto;
      rows = w.rows;
      row_count = w.row_count;
      stated = put_both (λ o (f : ℕ → ℕ → Option ℕ) (g : ℕ → ℕ → Bool). (d day : ℕ) → f d day ≡ count_of (g d day) (part o (s.devices d).taps) day) h.outbox.stated s.held y.owner (put2 (h.outbox.stated y.owner) y.device y.day (Some y.count)) (put2 (s.held y.owner) y.device y.day true) w.stated
          (put_both (λ d (f : ℕ → Option ℕ) (g : ℕ → Bool). (day : ℕ) → f day ≡ count_of (g day) (part y.owner (s.devices d).taps) day) (h.outbox.stated y.owner) (s.held y.owner) y.device (put (h.outbox.stated y.owner y.device) y.day (Some y.count)) (put (s.held y.owner y.device) y.day true) (w.stated y.owner)
          (put_both (λ day (f : Option ℕ) (g : Bool). f ≡ count_of g (part y.owner (s.devices y.device).taps) day) (h.outbox.stated y.owner y.device) (s.held y.owner y.device) y.day (Some y.count) true (w.stated y.owner y.device) (ap (λ (z : StatementValue). Some z.count) is.is)));
      stated_count = ap (λ n. n + 1) w.stated_count;
      owners = w.owners;
    })

pub shown_store_statement : (sc : SchemeValue) (h : Shape) (s : System) (y : StatementValue) → Shows sc h s → h.hand ≡ Some (item.Stated y) → StatedSeen sc h s y (stated_judged h.outbox y)
shown_store_statement sc h s y w e = by (h.outbox.stated y.owner y.device y.day) refl
  where
    found : (store s ≡ store_statement s y.device y.day y.owner (h.outbox.stated y.owner y.device y.day)) × IsStatementOf s.devices y.device y.day y.owner y
    found = statement_found sc h s y w e

    counted : y.count ≡ stated_count s y.owner y.device y.day
    counted = ap (λ (z : StatementValue). z.count) found.1.is

    by : (o : Option ℕ) → h.outbox.stated y.owner y.device y.day ≡ o → StatedSeen sc h s y (stated_judged_by o y.count h.outbox.stated_count)
    by (Some held) at =
        let goes : store s ≡ (if held == y.count then (let_go s, Refused Duplicate) else (let_go s, Refused Conflict)) = found.0 ∙ ap (store_statement s y.device y.day y.owner) at ∙ (λ i. if held == sym counted i then (let_go s, Refused Duplicate) else (let_go s, Refused Conflict)) in
        if_all (held == y.count) (StatedSeen sc h s y) _ _
        (λ a. refused_store sc h s Duplicate w (goes ∙ ap (λ b. if b then (let_go s, Refused Duplicate) else (let_go s, Refused Conflict)) a))
        (λ a. refused_store sc h s Conflict w (goes ∙ ap (λ b. if b then (let_go s, Refused Duplicate) else (let_go s, Refused Conflict)) a))
    by None at =
        let goes : store s ≡ (if nat_le 1000000 h.outbox.stated_count then (s, Refused OutboxFull) else (stored_day s y.device y.day y.owner, StoredDay y.device y.day y.owner)) = found.0 ∙ ap (store_statement s y.device y.day y.owner) at ∙ (λ i. if nat_le 1000000 (sym w.stated_count i) then (s, Refused OutboxFull) else (stored_day s y.device y.day y.owner, StoredDay y.device y.day y.owner)) in
        if_all (nat_le 1000000 h.outbox.stated_count) (StatedSeen sc h s y) _ _
        (λ a. answers_by sc h (Refused OutboxFull) (store s) (s, Refused OutboxFull) (goes ∙ ap (λ b. if b then (s, Refused OutboxFull) else (stored_day s y.device y.day y.owner, StoredDay y.device y.day y.owner)) a) refl w)
        (λ a. stored_statement_shows sc h s y w found.1 (goes ∙ ap (λ b. if b then (s, Refused OutboxFull) else (stored_day s y.device y.day y.owner, StoredDay y.device y.day y.owner)) a))

-- RESTART WRITER
pub shown_writer : (sc : SchemeValue) (h : Shape) (s : System) → Shows sc h s → Answers sc (record h { hand = None }) (restart_writer s) Restarted
shown_writer sc h s w = record {
  reply = refl;
  shows = record {
    system = hand_changes sc s s.inbox None w.system w.system.inbox tt;
    devices = w.devices;
    stations = w.stations;
    air = w.air;
    inbox = w.inbox;
    hand = tt;
    upto = w.upto;
    rows = w.rows;
    row_count = w.row_count;
    stated = w.stated;
    stated_count = w.stated_count;
    owners = w.owners;
  };
}
