-- One owner's part of a system, and what each event of its session does to it.
use Rattle.std.proofs.Common.{◌≡◌, ◌≢◌, ℕ, ◌+◌, ◌-◌, ◌<◌, ◌≤◌, List, [], ◌∷◌, ◌++◌, length, take, drop, map, Some, None, Bool, true, false, refl, sym, ap, ◌∙◌, subst, arith}
use Rattle.std.specs.Prelude.{◌==◌, not, slice_get, if◌then◌else◌, Option, IfSome, is_some, option_map, Result, Ok, Err, nat_lt, nat_le}
use Rattle.std.specs.List.{AllByRecursion}
use Rattle.std.proofs.lemmas.List.{take-append-drop, map-append, length-map, length-take-le}
use Rattle.std.proofs.lemmas.List.Elements.{filter-append}
use Rattle.std.proofs.lemmas.Option.{slice_get_within}
use Rattle.std.proofs.lemmas.Bool.Decides.{nat_tests}
use Rattle.fare_record.specs.Values.{RecordValue, StatementValue}
use Rattle.fare_record.specs.Lanes.{part}
use Rattle.fare_scheme.specs.Values.{SchemeValue}
use Rattle.fare_scheme.specs.Words.{station_of}
use Rattle.fare_owner.specs.TapJudged.{tap_judged}
use Rattle.fare_owner.specs.StatementJudged.{statement_judged}
use Rattle.fare_owner.specs.declared.tap.TapFault.{TapFault}
use Rattle.fare_owner.specs.declared.tap.TapFault.TheVariants as tap_fault
use Rattle.fare_owner.specs.declared.statement.StatementFault.TheVariants as statement_fault
use Rattle.fare_event.specs.declared.event.Event.{Event}
use Rattle.fare_event.specs.declared.event.Event.TheVariants as event
use Rattle.fare_event.specs.declared.reply.Refusal.TheVariants.{UnknownDevice, UnknownOwner, Busy, Retired}
use Rattle.fare_event.specs.declared.reply.Reply.{Reply}
use Rattle.fare_event.specs.declared.reply.Reply.TheVariants as reply
use Rattle.fare_store.specs.Tables.{put}
use Rattle.fare_world.specs.System.{Routed, Lane_of, Day_of, DeviceState, OwnerState, LaneState, System, numbered_for, arrived_of, stated_count}
use Rattle.fare_world.specs.Knowing.{knows_device, knows_owner}
use Rattle.fare_world.specs.Arriving.{is_full}
use Rattle.fare_world.specs.Owning.{next_routed, passed, forwarded_reply, forwarded, lane_room, forward_item, forward, fetched_reply, fetch_from, emptied, with_lane, is_of_closed_day, take_tap, taken_count, take_statement, take_from, take_event, pruned}
use Rattle.fare_world.specs.Restarting.{fresh_owner, routed_again, owner_again}
use Rattle.fare_world.specs.Steps.{step}
use Rattle.fare_world.specs.Headline.{IsOrderly}
use Rattle.fare_store.specs.OutboxWords.{OutboxValue}
use Rattle.fare_store.specs.OutboxWords as outbox
use Rattle.fare_store.specs.LedgerWords.{LedgerValue}
use Rattle.fare_world.proofs.RowPlaces.{row_held, row_here}
use Rattle.fare_world.specs.Kept as kept
use Rattle.fare_world.specs.Kept.{lane_numbers, Runs, IsSystem}
use Rattle.fare_world.specs.Shown.{row_at, count_of, IsAt, IsStatementOf, IsRoutedOf}
use Rattle.fare_record.specs.declared.item.Item.{Item}
use Rattle.fare_record.specs.declared.item.Item.TheVariants as item
use Rattle.fare_history.specs.Serving.{Cursors, behind_ledger, moved_by, IsComingRow, IsComingStatement, IsNextItem, given, pruned_to, device_of, IsWorking}
use Rattle.fare_refinement.specs.ShownStores.{ShowsOutbox, ShowsLedger}
use Rattle.fare_refinement.specs.Served.{routed_of, IsBeside}
use Rattle.fare_world.proofs.Known.{placed}
use Rattle.fare_world.proofs.Places.{slice_get-front}
use Rattle.fare_world.proofs.Lists.{AllByRecursion-push, length-part-take}
use Rattle.fare_side.proofs.Positions.{element_at}
use Rattle.fare_store.proofs.Entries.{if_all, below, put_all, put_both, put2_all, put_here}
use Rattle.fare_world.proofs.Lanes.{lane_number_here}
use Rattle.fare_world.proofs.NextDay.{day_found, next_day_is}
use Rattle.fare_world.proofs.KeptParts.{took_numbered}
use Rattle.fare_world.proofs.Kept.{moves_step}
use Rattle.fare_refinement.proofs.ShownCalls.{outbox_prunes, ledger_takes, ledger_states}

-- an item is the record or the statement of its number
abbrev pub IsItemOf : (ℕ → DeviceState) → ℕ → Item → Type 0
IsItemOf devices o i = IsRoutedOf devices o (routed_of i) i

-- what of a system an owner's session has to do with: the stores, the forwarder's place, the hand and the queue
pub record Serves (sc : SchemeValue) (s : System) (o : ℕ) (x : OutboxValue) (l : LedgerValue) (c : Cursors) (hand : Option Item) (queue : List Item) (t : System) : Type 0 where
  pub system : IsSystem sc t
  pub outbox : ShowsOutbox t x
  pub ledger : ShowsLedger sc t o l
  pub lanes : (d : ℕ) → (t.lanes o d).forward ≡ c.lane d
  pub days : (d : ℕ) → (t.lanes o d).from_day ≡ c.day d
  pub in_hand : (t.owners o).hand ≡ option_map routed_of hand
  pub queued : (t.owners o).queue ≡ map routed_of queue
  pub hand_each : IfSome hand (IsItemOf t.devices o)
  pub queue_each : AllByRecursion (IsItemOf t.devices o) queue
  pub beside : IsBeside o s t

-- STORES THAT STAY
pub outbox_same : (s t : System) (x : OutboxValue) → t.devices ≡ s.devices → ((o d : ℕ) → (t.lanes o d).gone ≡ (s.lanes o d).gone) → t.held ≡ s.held → t.rows ≡ s.rows → t.statements ≡ s.statements → ShowsOutbox s x → ShowsOutbox t x
outbox_same s t x devices gone held rows statements is = record {
  upto = λ d. is.upto d ∙ sym (λ i. (devices i d).upto);
  rows = λ o d n. is.rows o d n ∙ sym (λ i. row_at (gone o d i) (arrived_of o (devices i d)) n);
  row_count = is.row_count ∙ sym rows;
  stated = λ o d day. is.stated o d day ∙ sym (λ i. count_of (held i o d day) (part o (devices i d).taps) day);
  stated_count = is.stated_count ∙ sym statements;
}

pub ledger_same : (sc : SchemeValue) (s t : System) (o : ℕ) (x : LedgerValue) → t.devices ≡ s.devices → ((d : ℕ) → (t.lanes o d).took ≡ (s.lanes o d).took) → ((d : ℕ) → (t.lanes o d).stated ≡ (s.lanes o d).stated) → ((d : ℕ) → (t.lanes o d).closed ≡ (s.lanes o d).closed) → ((d : ℕ) → (t.lanes o d).retired ≡ (s.lanes o d).retired) → ShowsLedger sc s o x → ShowsLedger sc t o x
ledger_same sc s t o x devices took stated closed retired is = record {
  ledger = is.ledger;
  taken = λ d. is.taken d ∙ sym (λ i. take (took d i) (part o (devices i d).taps));
  stated = λ d day. is.stated d day ∙ sym (λ i. count_of (stated d i day) (part o (devices i d).taps) day);
  closed = λ d. is.closed d ∙ sym (closed d);
  retired = λ d. is.retired d ∙ sym (retired d);
}

-- ONE OWNER'S PART
other_entry : {A : Type 0} (f : ℕ → A) (k : ℕ) (v : A) (j : ℕ) → (j == k) ≡ false → put f k v j ≡ f j
other_entry f k v j other = ap (λ b. if b then v else f j) other

pub beside_self : (o : ℕ) (s : System) → IsBeside o s s
beside_self o s = record { devices = refl; air = refl; inbox = refl; hand = refl; held = refl; statements = refl; lines = refl; owners = λ p other. refl; lanes = λ p other. refl }

beside_owner : (o : ℕ) (s t : System) (w : OwnerState) → IsBeside o s t → IsBeside o s (record t { owners = put t.owners o w })
beside_owner o s t w is = record { devices = is.devices; air = is.air; inbox = is.inbox; hand = is.hand; held = is.held; statements = is.statements; lines = is.lines; owners = λ p other. other_entry t.owners o w p other ∙ is.owners p other; lanes = is.lanes }

pub beside_lanes : (o : ℕ) (s t : System) (ls : ℕ → LaneState) → IsBeside o s t → IsBeside o s (record t { lanes = put t.lanes o ls })
beside_lanes o s t ls is = record { devices = is.devices; air = is.air; inbox = is.inbox; hand = is.hand; held = is.held; statements = is.statements; lines = is.lines; owners = is.owners; lanes = λ p other. other_entry t.lanes o ls p other ∙ is.lanes p other }

beside_both : (o : ℕ) (s t : System) (w : OwnerState) (ls : ℕ → LaneState) → IsBeside o s t → IsBeside o s (record t { owners = put t.owners o w; lanes = put t.lanes o ls })
beside_both o s t w ls is = beside_lanes o s (record t { owners = put t.owners o w }) ls (beside_owner o s t w is)

beside_rows : (o : ℕ) (s t : System) (n : ℕ) → IsBeside o s t → IsBeside o s (record t { rows = n })
beside_rows o s t n is = record { devices = is.devices; air = is.air; inbox = is.inbox; hand = is.hand; held = is.held; statements = is.statements; lines = is.lines; owners = is.owners; lanes = is.lanes }

-- the answer to an event is known
pub answered : (sc : SchemeValue) (s : System) (o : ℕ) (x : OutboxValue) (l : LedgerValue) (c : Cursors) (hand : Option Item) (queue : List Item) (t : System) (e : Event) (y : System × Reply) → step sc t e ≡ y → Serves sc s o x l c hand queue y.0 → Serves sc s o x l c hand queue (step sc t e).0
answered sc s o x l c hand queue t e y is serves = subst (λ z. Serves sc s o x l c hand queue z.0) (sym is) serves

pub system_answered : (sc : SchemeValue) (t : System) (e : Event) (y : System × Reply) → step sc t e ≡ y → IsSystem sc t → IsSystem sc y.0
system_answered sc t e y is h = subst (λ z. IsSystem sc z.0) is (moves_step sc t e h).system

-- ROWS
-- an owner's part of a device's first taps is a front of its part of all
pub arrived_front : (o : ℕ) (v : DeviceState) (k : ℕ) (r : RecordValue) → slice_get (arrived_of o v) k ≡ Some r → slice_get (part o v.taps) k ≡ Some r
arrived_front o v k r e =
    let two : part o v.taps ≡ part o (take v.upto v.taps) ++ part o (drop v.upto v.taps) = sym (ap (part o) (take-append-drop v.upto v.taps)) ∙ filter-append (λ r. r.owner == o) (take v.upto v.taps) (drop v.upto v.taps) in
    ap (λ l. slice_get l k) two ∙ slice_get-front (part o (take v.upto v.taps)) (part o (drop v.upto v.taps)) k r e

-- a device of which the outbox has had a row is registered
known_row : (sc : SchemeValue) (t : System) (o d k : ℕ) → IsSystem sc t → k < length (arrived_of o (t.devices d)) → knows_device sc d ≡ true
known_row sc t o d k h lt = by (station_of sc d) refl
  where
    by : (station : Option ℕ) → station_of sc d ≡ station → knows_device sc d ≡ true
    by None none = absurd (omega (arith, lt, length-part-take o (t.devices d).upto (t.devices d).taps, ap (λ l. length (part o l)) ((h.devices d).known none)))
    by (Some st) of = placed sc d st of

-- a statement's device is registered
pub known_station : (sc : SchemeValue) (d : ℕ) (station : Option ℕ) → station_of sc d ≡ station → is_some station ≡ true → knows_device sc d ≡ true
known_station sc d None of is = absurd (cc)
known_station sc d (Some st) of is = placed sc d st of

-- a count is that of a held statement
is_it_held : (b : Bool) (rs : List RecordValue) (day n : ℕ) → count_of b rs day ≡ Some n → b ≡ true
is_it_held true rs day n e = refl
is_it_held false rs day n e = absurd (cc)

-- WHAT COMES NEXT
is_below : (a b : ℕ) → a < b → nat_lt a b ≡ true
is_below a b lt = grind (arith, nat_tests)

pub next_tap : (sc : SchemeValue) (t : System) (o : ℕ) (x : OutboxValue) (c : Cursors) (r : RecordValue) → IsSystem sc t → ShowsOutbox t x → ((d : ℕ) → (t.lanes o d).forward ≡ c.lane d) → IsComingRow o x c r
    → (next_routed t o r.device ≡ Some (Lane_of r.device r.lane)) × (knows_device sc r.device ≡ true) × IsAt (numbered_for t o r.device) r.lane r
next_tap sc t o x c r h shows lanes is = (next, known_row sc t o r.device (r.lane - 1) h within, record { positive = omega (arith, is.lane); here = arrived_front o (t.devices r.device) (r.lane - 1) r at })
  where
    arrived : List RecordValue
    arrived = arrived_of o (t.devices r.device)

    forward : ℕ
    forward = (t.lanes o r.device).forward

    at : slice_get arrived (r.lane - 1) ≡ Some r
    at = (row_held (t.lanes o r.device).gone arrived r.lane r (sym (shows.rows o r.device r.lane) ∙ ap (x.rows o r.device) is.lane ∙ is.held)).1

    within : r.lane - 1 < length arrived
    within = slice_get_within arrived (r.lane - 1) r at

    to_come : nat_lt forward (length arrived) ≡ true
    to_come = is_below forward (length arrived) (omega (arith, lanes r.device, is.lane, within))

    number : forward + 1 ≡ r.lane
    number = omega (arith, lanes r.device, is.lane)

    next : next_routed t o r.device ≡ Some (Lane_of r.device r.lane)
    next = ap (λ b. if b then Some (Lane_of r.device (forward + 1)) else option_map (Day_of r.device) (day_found t o r.device)) to_come ∙ ap (λ n. Some (Lane_of r.device n)) number

pub next_stated : (sc : SchemeValue) (t : System) (o : ℕ) (x : OutboxValue) (c : Cursors) (v : StatementValue) → IsSystem sc t → ShowsOutbox t x → ((d : ℕ) → (t.lanes o d).forward ≡ c.lane d) → ((d : ℕ) → (t.lanes o d).from_day ≡ c.day d) → IsComingStatement o x c v
    → (next_routed t o v.device ≡ Some (Day_of v.device v.day)) × (knows_device sc v.device ≡ true) × IsStatementOf t.devices v.device v.day o v
next_stated sc t o x c v h shows lanes days is = (next, known_station sc v.device (station_of sc v.device) refl (h.held o v.device v.day held).registered, found.1)
  where
    d : ℕ
    d = v.device

    arrived : List RecordValue
    arrived = arrived_of o (t.devices d)

    found : (day_found t o d ≡ Some v.day) × IsStatementOf t.devices d v.day o v
    found = next_day_is sc t x.stated o d (c.day d) v h (shows.stated o d) (sym (days d)) (record { of_owner = is.mine; of_device = refl; not_before = is.from_there; is_held = is.held; least = is.least })

    held : t.held o d v.day ≡ true
    held = is_it_held (t.held o d v.day) (numbered_for t o d) v.day v.count (sym (shows.stated o d v.day) ∙ is.held)

    forward : ℕ
    forward = (t.lanes o d).forward

    gone : (t.lanes o d).gone ≤ forward
    gone =
        let l = h.lanes o d in
        omega (arith, l.gone, l.took)

    -- a row that is to come would be of a greater lane number
    none_to_come : (b : Bool) → nat_lt forward (length arrived) ≡ b → b ≡ false
    none_to_come false e = refl
    none_to_come true e =
        let row = element_at arrived forward (below forward (length arrived) e) in
        let place : forward + 1 - 1 ≡ forward = omega arith in
        let here : x.rows o d (forward + 1) ≡ Some row.0 = shows.rows o d (forward + 1) ∙ row_here (t.lanes o d).gone arrived (forward + 1) (omega (arith, gone)) ∙ ap (slice_get arrived) place ∙ row.1 in
        let none : x.rows o d (forward + 1) ≡ None = is.last (forward + 1) (omega (arith, lanes d)) in
        absurd (cc)

    next : next_routed t o d ≡ Some (Day_of d v.day)
    next =
        ap (λ b. if b then Some (Lane_of d (forward + 1)) else option_map (Day_of d) (day_found t o d)) (none_to_come (nat_lt forward (length arrived)) refl)
        ∙ ap (option_map (Day_of d)) found.0

-- what comes next, of either kind
pub next_item : (sc : SchemeValue) (t : System) (o : ℕ) (x : OutboxValue) (c : Cursors) (i : Item) → IsSystem sc t → ShowsOutbox t x → ((d : ℕ) → (t.lanes o d).forward ≡ c.lane d) → ((d : ℕ) → (t.lanes o d).from_day ≡ c.day d) → IsNextItem o x c i
    → (next_routed t o (device_of i) ≡ Some (routed_of i)) × (knows_device sc (device_of i) ≡ true) × IsItemOf t.devices o i
next_item sc t o x c (item.Tap r) h shows lanes days is = next_tap sc t o x c r h shows lanes is
next_item sc t o x c (item.Stated v) h shows lanes days is = next_stated sc t o x c v h shows lanes days is

-- FORWARD
forward_is : (sc : SchemeValue) (t : System) (o d : ℕ) (y : Routed) → knows_owner sc o ≡ true → knows_device sc d ≡ true → (t.lanes o d).retired ≡ false → next_routed t o d ≡ Some y → is_full (lane_room sc o) (t.owners o).queue ≡ false → forward sc t o d ≡ (forwarded t o d y, forwarded_reply y)
forward_is sc t o d y known registered works next room =
    (λ i. if known i then (if registered i then (if works i then (t, reply.Refused Retired) else forward_item sc t o d (next i)) else (t, reply.Refused UnknownDevice)) else (t, reply.Refused UnknownOwner))
    ∙ (λ i. if room i then (t, reply.Refused Busy) else (forwarded t o d y, forwarded_reply y))

room_left : (room : ℕ) (xs : List Routed) → length xs < room → is_full room xs ≡ false
room_left room xs lt = by_numbers room (length xs) lt
  where
    by_numbers : (a b : ℕ) → b < a → nat_le a b ≡ false
    by_numbers a b less = grind (arith, nat_tests)

lanes_moved : (t : System) (o : ℕ) (c : Cursors) (i : Item) → ((d : ℕ) → (t.lanes o d).forward ≡ c.lane d) → (d : ℕ) → (put (t.lanes o) (device_of i) (passed (t.lanes o (device_of i)) (routed_of i)) d).forward ≡ (moved_by c i).lane d
lanes_moved t o c (item.Tap r) lanes d = put_both (λ j (a : LaneState) n. a.forward ≡ n) (t.lanes o) c.lane r.device (record (t.lanes o r.device) { forward = r.lane }) r.lane lanes refl d
lanes_moved t o c (item.Stated v) lanes d = put_all (λ j (a : LaneState). a.forward ≡ c.lane j) (t.lanes o) v.device (record (t.lanes o v.device) { from_day = v.day + 1 }) lanes (lanes v.device) d

days_moved : (t : System) (o : ℕ) (c : Cursors) (i : Item) → ((d : ℕ) → (t.lanes o d).from_day ≡ c.day d) → (d : ℕ) → (put (t.lanes o) (device_of i) (passed (t.lanes o (device_of i)) (routed_of i)) d).from_day ≡ (moved_by c i).day d
days_moved t o c (item.Tap r) days d = put_all (λ j (a : LaneState). a.from_day ≡ c.day j) (t.lanes o) r.device (record (t.lanes o r.device) { forward = r.lane }) days (days r.device) d
days_moved t o c (item.Stated v) days d = put_both (λ j (a : LaneState) n. a.from_day ≡ n) (t.lanes o) c.day v.device (record (t.lanes o v.device) { from_day = v.day + 1 }) (v.day + 1) days refl d

-- what an item's passing leaves of a lane
passed_gone : (l : LaneState) (y : Routed) → (passed l y).gone ≡ l.gone
passed_gone l (Lane_of d k) = refl
passed_gone l (Day_of d day) = refl

passed_took : (l : LaneState) (y : Routed) → (passed l y).took ≡ l.took
passed_took l (Lane_of d k) = refl
passed_took l (Day_of d day) = refl

passed_stated : (l : LaneState) (y : Routed) → (passed l y).stated ≡ l.stated
passed_stated l (Lane_of d k) = refl
passed_stated l (Day_of d day) = refl

passed_closed : (l : LaneState) (y : Routed) → (passed l y).closed ≡ l.closed
passed_closed l (Lane_of d k) = refl
passed_closed l (Day_of d day) = refl

passed_retired : (l : LaneState) (y : Routed) → (passed l y).retired ≡ l.retired
passed_retired l (Lane_of d k) = refl
passed_retired l (Day_of d day) = refl

pub serves_forward : (sc : SchemeValue) (s : System) (o : ℕ) (x : OutboxValue) (l : LedgerValue) (c : Cursors) (hand : Option Item) (queue : List Item) (t : System) (i : Item) → knows_owner sc o ≡ true → length queue < lane_room sc o → IsNextItem o x c i → IsWorking l (device_of i)
    → Serves sc s o x l c hand queue t → Serves sc s o x l (moved_by c i) hand (queue ++ i ∷ []) (step sc t (event.Forward o (device_of i))).0
serves_forward sc s o x l c hand queue t i known room is works serves = answered sc s o x l (moved_by c i) hand (queue ++ i ∷ []) t (event.Forward o d) y here (record {
  system = system_answered sc t (event.Forward o d) y here serves.system;
  outbox = outbox_same t y.0 x refl (put2_all (λ p j (a : LaneState). a.gone ≡ (t.lanes p j).gone) t.lanes o d lane (λ p j. refl) (passed_gone (t.lanes o d) (routed_of i))) refl refl refl serves.outbox;
  ledger = ledger_same sc t y.0 o l refl
      (put2_all (λ p j (a : LaneState). a.took ≡ (t.lanes p j).took) t.lanes o d lane (λ p j. refl) (passed_took (t.lanes o d) (routed_of i)) o)
      (put2_all (λ p j (a : LaneState). a.stated ≡ (t.lanes p j).stated) t.lanes o d lane (λ p j. refl) (passed_stated (t.lanes o d) (routed_of i)) o)
      (put2_all (λ p j (a : LaneState). a.closed ≡ (t.lanes p j).closed) t.lanes o d lane (λ p j. refl) (passed_closed (t.lanes o d) (routed_of i)) o)
      (put2_all (λ p j (a : LaneState). a.retired ≡ (t.lanes p j).retired) t.lanes o d lane (λ p j. refl) (passed_retired (t.lanes o d) (routed_of i)) o)
      serves.ledger;
  lanes = λ j. ap (λ f. (f j).forward) (put_here t.lanes o (put (t.lanes o) d lane)) ∙ lanes_moved t o c i serves.lanes j;
  days = λ j. ap (λ f. (f j).from_day) (put_here t.lanes o (put (t.lanes o) d lane)) ∙ days_moved t o c i serves.days j;
  in_hand = ap (λ w. w.hand) (put_here t.owners o owner) ∙ serves.in_hand;
  queued = ap (λ w. w.queue) (put_here t.owners o owner) ∙ ap (λ q. q ++ routed_of i ∷ []) serves.queued ∙ sym (map-append routed_of queue (i ∷ []));
  hand_each = serves.hand_each;
  queue_each = AllByRecursion-push (IsItemOf t.devices o) queue i serves.queue_each comes.2;
  beside = beside_both o s t owner (put (t.lanes o) d lane) serves.beside;
})
  where
    d : ℕ
    d = device_of i

    comes : (next_routed t o (device_of i) ≡ Some (routed_of i)) × (knows_device sc (device_of i) ≡ true) × IsItemOf t.devices o i
    comes = next_item sc t o x c i serves.system serves.outbox serves.lanes serves.days is

    lane : LaneState
    lane = passed (t.lanes o d) (routed_of i)

    owner : OwnerState
    owner = record (t.owners o) { queue = (t.owners o).queue ++ routed_of i ∷ [] }

    y : System × Reply
    y = (forwarded t o d (routed_of i), forwarded_reply (routed_of i))

    here : step sc t (event.Forward o d) ≡ y
    here = forward_is sc t o d (routed_of i) known comes.1 (sym (serves.ledger.retired d) ∙ works) comes.0 (room_left (lane_room sc o) (t.owners o).queue (omega (arith, room, ap length serves.queued, length-map queue routed_of)))

-- FETCH
pub serves_fetch : (sc : SchemeValue) (s : System) (o : ℕ) (x : OutboxValue) (l : LedgerValue) (c : Cursors) (i : Item) (queue : List Item) (t : System) → knows_owner sc o ≡ true
    → Serves sc s o x l c None (i ∷ queue) t → Serves sc s o x l c (Some i) queue (step sc t (event.Fetch o)).0
serves_fetch sc s o x l c i queue t known serves = answered sc s o x l c (Some i) queue t (event.Fetch o) y here (record {
  system = system_answered sc t (event.Fetch o) y here serves.system;
  outbox = outbox_same t y.0 x refl (λ p j. refl) refl refl refl serves.outbox;
  ledger = ledger_same sc t y.0 o l refl (λ j. refl) (λ j. refl) (λ j. refl) (λ j. refl) serves.ledger;
  lanes = serves.lanes;
  days = serves.days;
  in_hand = ap (λ w. w.hand) (put_here t.owners o owner);
  queued = ap (λ w. w.queue) (put_here t.owners o owner);
  hand_each = serves.queue_each.0;
  queue_each = serves.queue_each.1;
  beside = beside_owner o s t owner serves.beside;
})
  where
    owner : OwnerState
    owner = record { queue = map routed_of queue; hand = Some (routed_of i) }

    y : System × Reply
    y = (record t { owners = put t.owners o owner }, fetched_reply (routed_of i))

    here : step sc t (event.Fetch o) ≡ y
    here = λ k. if known k then fetch_from t o (serves.queued k) (serves.in_hand k) else (t, reply.Refused UnknownOwner)

-- TAKE
-- in an orderly answer the next tap is taken
tap_is : (t : System) (o d k : ℕ) (j : Result Unit TapFault) → j ≢ Err tap_fault.Retired → IsOrderly (event.Take o) (take_tap t o d k j).1 → take_tap t o d k j ≡ (with_lane t o d (record (t.lanes o d) { took = (t.lanes o d).took + 1 }), reply.Taken d k)
tap_is t o d k (Ok u) works fine = refl
tap_is t o d k (Err tap_fault.NotMine) works fine = absurd (fine.mine refl)
tap_is t o d k (Err tap_fault.Retired) works fine = absurd (works refl)
tap_is t o d k (Err tap_fault.Duplicate) works fine = absurd (fine.once o refl refl)
tap_is t o d k (Err tap_fault.Gap) works fine = absurd (fine.next o refl refl)
tap_is t o d k (Err tap_fault.AfterClose) works fine = absurd (fine.unclosed refl)

pub take_is : (sc : SchemeValue) (t : System) (o : ℕ) (y : Routed) → knows_owner sc o ≡ true → (t.owners o).hand ≡ Some y → take_event sc t o ≡ take_from sc t o (Some y)
take_is sc t o y known hand = λ k. if known k then take_from sc t o (hand k) else (t, reply.Refused UnknownOwner)

-- a lane that isn't retired is refused by no such name
pub never_retired : (mine : Bool) (count : ℕ) (closed : Bool) (lane : ℕ) → tap_judged mine count closed lane false ≢ Err tap_fault.Retired
never_retired mine count closed lane = refused mine (nat_le lane count) (nat_lt (count + 1) lane) closed
  where
    refused : (a b c e : Bool) → (if not a then Err tap_fault.NotMine else (if b then Err tap_fault.Duplicate else (if c then Err tap_fault.Gap else (if e then Err tap_fault.AfterClose else Ok (tt {0}))))) ≢ Err tap_fault.Retired
    refused false b c e is = absurd (cc)
    refused true true c e is = absurd (cc)
    refused true false true e is = absurd (cc)
    refused true false false true is = absurd (cc)
    refused true false false false is = absurd (cc)

serves_take_tap : (sc : SchemeValue) (s : System) (o : ℕ) (x : OutboxValue) (l : LedgerValue) (c : Cursors) (r : RecordValue) (queue : List Item) (t : System) → knows_owner sc o ≡ true → IsWorking l r.device
    → Serves sc s o x l c (Some (item.Tap r)) queue t → Serves sc s o x (given l (item.Tap r)) c None queue (step sc t (event.Take o)).0
serves_take_tap sc s o x l c r queue t known working serves = answered sc s o x (given l (item.Tap r)) c None queue t (event.Take o) y here (record {
  system = system_answered sc t (event.Take o) y here serves.system;
  outbox = outbox_same t y.0 x refl (put2_all (λ p j (a : LaneState). a.gone ≡ (t.lanes p j).gone) t.lanes o d lane (λ p j. refl) refl) refl refl refl serves.outbox;
  ledger = ledger_takes sc t o r l serves.system at serves.ledger;
  lanes = λ j. ap (λ f. (f j).forward) (put_here t.lanes o (put (t.lanes o) d lane)) ∙ put_all (λ k (a : LaneState). a.forward ≡ c.lane k) (t.lanes o) d lane serves.lanes (serves.lanes d) j;
  days = λ j. ap (λ f. (f j).from_day) (put_here t.lanes o (put (t.lanes o) d lane)) ∙ put_all (λ k (a : LaneState). a.from_day ≡ c.day k) (t.lanes o) d lane serves.days (serves.days d) j;
  in_hand = ap (λ w. w.hand) (put_here t.owners o owner);
  queued = ap (λ w. w.queue) (put_here t.owners o owner) ∙ serves.queued;
  hand_each = tt;
  queue_each = serves.queue_each;
  beside = beside_both o s t owner (put (t.lanes o) d lane) serves.beside;
})
  where
    d : ℕ
    d = r.device

    lane : LaneState
    lane = record (t.lanes o d) { took = (t.lanes o d).took + 1 }

    owner : OwnerState
    owner = record (t.owners o) { hand = None }

    y : System × Reply
    y = (with_lane t o d lane, reply.Taken d r.lane)

    judged : Result Unit TapFault
    judged = tap_judged (knows_device sc d) (t.lanes o d).took (is_of_closed_day sc.start (t.lanes o d).closed (slice_get (numbered_for t o d) (r.lane - 1))) r.lane (t.lanes o d).retired

    works : (t.lanes o d).retired ≡ false
    works = sym (serves.ledger.retired d) ∙ working

    never : judged ≢ Err tap_fault.Retired
    never = subst (λ b. tap_judged (knows_device sc d) (t.lanes o d).took (is_of_closed_day sc.start (t.lanes o d).closed (slice_get (numbered_for t o d) (r.lane - 1))) r.lane b ≢ Err tap_fault.Retired) (sym works) (never_retired (knows_device sc d) (t.lanes o d).took (is_of_closed_day sc.start (t.lanes o d).closed (slice_get (numbered_for t o d) (r.lane - 1))) r.lane)

    first : step sc t (event.Take o) ≡ take_tap t o d r.lane judged
    first = take_is sc t o (Lane_of d r.lane) known serves.in_hand

    here : step sc t (event.Take o) ≡ y
    here = first ∙ tap_is t o d r.lane judged never (subst (λ z. IsOrderly (event.Take o) z.1) first (moves_step sc t (event.Take o) serves.system).orderly)

    run : Runs (t.lanes o d).took (r.lane ∷ lane_numbers d (t.owners o).queue) (t.lanes o d).forward
    run = subst (λ ns. Runs (t.lanes o d).took ns (t.lanes o d).forward) (ap (λ h. lane_numbers d (kept.behind h (t.owners o).queue)) serves.in_hand ∙ lane_number_here d r.lane (t.owners o).queue) ((serves.system.lanes o d).run works)

    at : IsAt (numbered_for t o d) ((t.lanes o d).took + 1) r
    at = subst (λ n. IsAt (numbered_for t o d) n r) run.0 serves.hand_each

-- in an orderly answer a statement is taken, or it was before
statement_is : (t : System) (o d day : ℕ) (P : System × Reply → Type 0) (known b : Bool) (n : ℕ) → IsOrderly (event.Take o) (take_statement t o d day (statement_judged known (if b then Some n else None) n false)).1
    → (b ≡ false → P (with_lane t o d (record (t.lanes o d) { stated = put (t.lanes o d).stated day true }), reply.Stated d day (stated_count t o d day)))
    → (b ≡ true → P (take_statement t o d day (Err statement_fault.Repeated)))
    → P (take_statement t o d day (statement_judged known (if b then Some n else None) n false))
statement_is t o d day P false b n fine new again = absurd (fine.mine refl)
statement_is t o d day P true false n fine new again = new refl
statement_is t o d day P true true n fine new again = if_all (n == n) (λ j. IsOrderly (event.Take o) (take_statement t o d day j).1 → P (take_statement t o d day j)) (Err statement_fault.Repeated) (Err statement_fault.Conflict) (λ _ f. again refl) (λ _ f. absurd (f.alone refl)) fine

serves_take_statement : (sc : SchemeValue) (s : System) (o : ℕ) (x : OutboxValue) (l : LedgerValue) (c : Cursors) (v : StatementValue) (queue : List Item) (t : System) → knows_owner sc o ≡ true → IsWorking l v.device
    → Serves sc s o x l c (Some (item.Stated v)) queue t → Serves sc s o x (given l (item.Stated v)) c None queue (step sc t (event.Take o)).0
serves_take_statement sc s o x l c v queue t known working serves =
    subst (λ z. Serves sc s o x (given l (item.Stated v)) c None queue z.0) (sym first)
    (statement_is t o d v.day (λ z. step sc t (event.Take o) ≡ z → Serves sc s o x (given l (item.Stated v)) c None queue z.0) (knows_device sc d) ((t.lanes o d).stated v.day) (stated_count t o d v.day)
    (subst (λ z. IsOrderly (event.Take o) z.1) first (moves_step sc t (event.Take o) serves.system).orderly) new again first)
  where
    d : ℕ
    d = v.device

    owner : OwnerState
    owner = record (t.owners o) { hand = None }

    lane : LaneState
    lane = record (t.lanes o d) { stated = put (t.lanes o d).stated v.day true }

    count : v.count ≡ stated_count t o d v.day
    count = ap (λ (z : StatementValue). z.count) serves.hand_each.is

    first : step sc t (event.Take o) ≡ take_statement t o d v.day (statement_judged (knows_device sc d) (taken_count t o d v.day) (stated_count t o d v.day) false)
    first = take_is sc t o (Day_of d v.day) known serves.in_hand ∙ ap (λ b. take_statement t o d v.day (statement_judged (knows_device sc d) (taken_count t o d v.day) (stated_count t o d v.day) b)) (sym (serves.ledger.retired d) ∙ working)

    new : (t.lanes o d).stated v.day ≡ false → step sc t (event.Take o) ≡ (with_lane t o d lane, reply.Stated d v.day (stated_count t o d v.day)) → Serves sc s o x (given l (item.Stated v)) c None queue (with_lane t o d lane)
    new fresh here = record {
      system = system_answered sc t (event.Take o) (with_lane t o d lane, reply.Stated d v.day (stated_count t o d v.day)) here serves.system;
      outbox = outbox_same t (with_lane t o d lane) x refl (put2_all (λ p j (a : LaneState). a.gone ≡ (t.lanes p j).gone) t.lanes o d lane (λ p j. refl) refl) refl refl refl serves.outbox;
      ledger = ledger_states sc t o v l count serves.ledger;
      lanes = λ j. ap (λ f. (f j).forward) (put_here t.lanes o (put (t.lanes o) d lane)) ∙ put_all (λ k (a : LaneState). a.forward ≡ c.lane k) (t.lanes o) d lane serves.lanes (serves.lanes d) j;
      days = λ j. ap (λ f. (f j).from_day) (put_here t.lanes o (put (t.lanes o) d lane)) ∙ put_all (λ k (a : LaneState). a.from_day ≡ c.day k) (t.lanes o) d lane serves.days (serves.days d) j;
      in_hand = ap (λ w. w.hand) (put_here t.owners o owner);
      queued = ap (λ w. w.queue) (put_here t.owners o owner) ∙ serves.queued;
      hand_each = tt;
      queue_each = serves.queue_each;
      beside = beside_both o s t owner (put (t.lanes o) d lane) serves.beside;
    }

    again : (t.lanes o d).stated v.day ≡ true → step sc t (event.Take o) ≡ take_statement t o d v.day (Err statement_fault.Repeated) → Serves sc s o x (given l (item.Stated v)) c None queue (emptied t o)
    again stated here = record {
      system = system_answered sc t (event.Take o) (take_statement t o d v.day (Err statement_fault.Repeated)) here serves.system;
      outbox = outbox_same t (emptied t o) x refl (λ p j. refl) refl refl refl serves.outbox;
      ledger = record {
        ledger = record { id = serves.ledger.ledger.id; made = record { start = serves.ledger.ledger.made.start; knows = serves.ledger.ledger.made.knows } };
        taken = serves.ledger.taken;
        stated = put_all (λ j (f : ℕ → Option ℕ). (k : ℕ) → f k ≡ taken_count t o j k) l.stated d (put (l.stated d) v.day (Some v.count)) serves.ledger.stated
            (put_all (λ k a. a ≡ taken_count t o d k) (l.stated d) v.day (Some v.count) (serves.ledger.stated d) (ap Some count ∙ sym (ap (λ b. if b then Some (stated_count t o d v.day) else None) stated)));
        closed = serves.ledger.closed;
        retired = serves.ledger.retired;
      };
      lanes = serves.lanes;
      days = serves.days;
      in_hand = ap (λ w. w.hand) (put_here t.owners o owner);
      queued = ap (λ w. w.queue) (put_here t.owners o owner) ∙ serves.queued;
      hand_each = tt;
      queue_each = serves.queue_each;
      beside = beside_owner o s t owner serves.beside;
    }

pub serves_take : (sc : SchemeValue) (s : System) (o : ℕ) (x : OutboxValue) (l : LedgerValue) (c : Cursors) (i : Item) (queue : List Item) (t : System) → knows_owner sc o ≡ true → IsWorking l (device_of i)
    → Serves sc s o x l c (Some i) queue t → Serves sc s o x (given l i) c None queue (step sc t (event.Take o)).0
serves_take sc s o x l c (item.Tap r) queue t known working serves = serves_take_tap sc s o x l c r queue t known working serves
serves_take sc s o x l c (item.Stated v) queue t known working serves = serves_take_statement sc s o x l c v queue t known working serves

-- RESTART
pub serves_restart : (sc : SchemeValue) (s : System) (o : ℕ) (x : OutboxValue) (l : LedgerValue) → knows_owner sc o ≡ true → IsSystem sc s → ShowsOutbox s x → ShowsLedger sc s o l → Serves sc s o x l (behind_ledger sc l) None [] (step sc s (event.RestartOwner o)).0
serves_restart sc s o x l known h outbox ledger = answered sc s o x l (behind_ledger sc l) None [] s (event.RestartOwner o) y here (record {
  system = system_answered sc s (event.RestartOwner o) y here h;
  outbox = outbox_same s y.0 x refl (put_all (λ p (ls : ℕ → LaneState). (j : ℕ) → (ls j).gone ≡ (s.lanes p j).gone) s.lanes o lanes (λ p j. refl) (λ j. refl)) refl refl refl outbox;
  ledger = ledger_same sc s y.0 o l refl (λ j. ap (λ f. (f j).took) is) (λ j. ap (λ f. (f j).stated) is) (λ j. ap (λ f. (f j).closed) is) (λ j. ap (λ f. (f j).retired) is) ledger;
  lanes = λ j. ap (λ f. (f j).forward) is ∙ sym (ap length (ledger.taken j) ∙ length-take-le (s.lanes o j).took (numbered_for s o j) (took_numbered sc s o j h));
  days = λ j. ap (λ f. (f j).from_day) is ∙ sym (ap (λ n. sc.start + n) (ledger.closed j));
  in_hand = ap (λ w. w.hand) (put_here s.owners o fresh_owner);
  queued = ap (λ w. w.queue) (put_here s.owners o fresh_owner);
  hand_each = tt;
  queue_each = tt;
  beside = beside_both o s s fresh_owner lanes (beside_self o s);
})
  where
    lanes : ℕ → LaneState
    lanes d = routed_again sc (s.lanes o d)

    is : put s.lanes o lanes o ≡ lanes
    is = put_here s.lanes o lanes

    y : System × Reply
    y = (owner_again sc s o, reply.Restarted)

    here : step sc s (event.RestartOwner o) ≡ y
    here = λ k. if known k then (owner_again sc s o, reply.Restarted) else (s, reply.Refused UnknownOwner)

-- PRUNE
length-rows : (sc : SchemeValue) (t : System) (o d : ℕ) → IsSystem sc t → (t.lanes o d).took ≤ length (arrived_of o (t.devices d))
length-rows sc t o d h =
    let l = h.lanes o d in
    omega (arith, l.took, l.forward)

pub serves_prune : (sc : SchemeValue) (s : System) (o : ℕ) (x : OutboxValue) (l : LedgerValue) (c : Cursors) (hand : Option Item) (queue : List Item) (t : System) (d : ℕ) → knows_owner sc o ≡ true → knows_device sc d ≡ true
    → Serves sc s o x l c hand queue t → Serves sc s o (pruned_to x o l d) l c hand queue (step sc t (event.Prune o d)).0
serves_prune sc s o x l c hand queue t d known registered serves = answered sc s o (pruned_to x o l d) l c hand queue t (event.Prune o d) y here (record {
  system = after_it;
  outbox = subst (ShowsOutbox (pruned t o d)) same (outbox_prunes sc t o d x serves.system serves.outbox);
  ledger = ledger_same sc t (pruned t o d) o l refl
      (put2_all (λ p j (a : LaneState). a.took ≡ (t.lanes p j).took) t.lanes o d lane (λ p j. refl) refl o)
      (put2_all (λ p j (a : LaneState). a.stated ≡ (t.lanes p j).stated) t.lanes o d lane (λ p j. refl) refl o)
      (put2_all (λ p j (a : LaneState). a.closed ≡ (t.lanes p j).closed) t.lanes o d lane (λ p j. refl) refl o)
      (put2_all (λ p j (a : LaneState). a.retired ≡ (t.lanes p j).retired) t.lanes o d lane (λ p j. refl) refl o)
      serves.ledger;
  lanes = λ j. ap (λ f. (f j).forward) (put_here t.lanes o (put (t.lanes o) d lane)) ∙ put_all (λ k (a : LaneState). a.forward ≡ c.lane k) (t.lanes o) d lane serves.lanes (serves.lanes d) j;
  days = λ j. ap (λ f. (f j).from_day) (put_here t.lanes o (put (t.lanes o) d lane)) ∙ put_all (λ k (a : LaneState). a.from_day ≡ c.day k) (t.lanes o) d lane serves.days (serves.days d) j;
  in_hand = serves.in_hand;
  queued = serves.queued;
  hand_each = serves.hand_each;
  queue_each = serves.queue_each;
  beside = beside_lanes o s (record t { rows = t.rows - ((t.lanes o d).took - (t.lanes o d).gone) }) (put (t.lanes o) d lane) (beside_rows o s t (t.rows - ((t.lanes o d).took - (t.lanes o d).gone)) serves.beside);
})
  where
    h : IsSystem sc t
    h = serves.system

    lane : LaneState
    lane = record (t.lanes o d) { gone = (t.lanes o d).took }

    y : System × Reply
    y = (pruned t o d, reply.Pruned ((t.lanes o d).took - (t.lanes o d).gone))

    here : step sc t (event.Prune o d) ≡ y
    here = λ k. if known k then (if registered k then (pruned t o d, reply.Pruned ((t.lanes o d).took - (t.lanes o d).gone)) else (t, reply.Refused UnknownDevice)) else (t, reply.Refused UnknownOwner)

    after_it : IsSystem sc (pruned t o d)
    after_it = system_answered sc t (event.Prune o d) y here h

    took : (t.lanes o d).took ≡ length (l.taken d)
    took = sym (ap length (serves.ledger.taken d) ∙ length-take-le (t.lanes o d).took (numbered_for t o d) (took_numbered sc t o d h))

    same : outbox.pruned o d (t.lanes o d).took x ≡ pruned_to x o l d
    same = ap (λ n. outbox.pruned o d n x) took
