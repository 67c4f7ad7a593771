-- What a world shows after a forward, a fetch, a take, a close, a retire and a prune.
use Rattle.std.proofs.Common.{◌≡◌, ℕ, ◌+◌, ◌-◌, ◌<◌, ◌≤◌, List, [], ◌∷◌, ◌++◌, length, take, drop, set, get_or, Some, None, Bool, true, false, refl, sym, ap, ◌∙◌, subst, arith, inl, inr}
use Rattle.std.specs.Prelude.{◌==◌, ◌&&◌, ◌⊎◌, slice_get, if◌then◌else◌, Option, Result, Ok, Err, option_map, is_some, IsSome, nat_lt, nat_le, not}
use Rattle.std.proofs.lemmas.Bool.Decides.{nat_tests, Decides-eqb}
use Rattle.std.proofs.lemmas.List.{take-append-drop, length-take-le}
use Rattle.std.proofs.lemmas.List.Elements.{filter-append}
use Rattle.std.proofs.lemmas.Option.{slice_get_read, slice_get_within, same_Some}
use Rattle.fare_record.specs.Limits.{IsDay}
use Rattle.fare_record.specs.Values.{RecordValue, StatementValue}
use Rattle.fare_record.specs.Lanes.{part, day_count}
use Rattle.fare_record.specs.declared.item.Item.{Item}
use Rattle.fare_record.specs.declared.item.Item.TheVariants as item
use Rattle.fare_scheme.specs.Values.{SchemeValue}
use Rattle.fare_scheme.specs.Words.{position_of_device, position_of_owner}
use Rattle.fare_owner.specs.TapJudged.{tap_judged}
use Rattle.fare_owner.specs.StatementJudged.{statement_judged}
use Rattle.fare_owner.specs.CloseJudged.{close_judged}
use Rattle.fare_owner.specs.declared.tap.TapFault.{TapFault}
use Rattle.fare_owner.specs.declared.statement.StatementFault.{StatementFault}
use Rattle.fare_owner.specs.declared.closing.CloseFault.{CloseFault}
use Rattle.fare_owner.specs.RetireJudged.{retire_judged}
use Rattle.fare_owner.specs.declared.retiring.RetireFault.{RetireFault}
use Rattle.fare_owner.specs.declared.retiring.RetireFault.TheVariants as retiring
use Rattle.fare_route.specs.declared.cursor.Cursor.{Cursor}
use Rattle.fare_route.specs.Routing.{NoRow, IsNext}
use Rattle.fare_store.specs.OutboxWords.{IsNextRow, behind, rows_upto}
use Rattle.fare_store.specs.OutboxWords as outbox
use Rattle.fare_store.specs.LedgerWords.{LedgerValue, is_mine, take_judged, state_judged, close_of, retire_of}
use Rattle.fare_store.specs.LedgerWords as ledger
use Rattle.fare_event.specs.declared.event.Event.TheVariants as event
use Rattle.fare_event.specs.declared.reply.Refusal.{Refusal}
use Rattle.fare_event.specs.declared.reply.Refusal.TheVariants.{UnknownDevice, UnknownOwner, Busy, HandFull, Retired}
use Rattle.fare_event.specs.declared.reply.Reply.{Reply}
use Rattle.fare_event.specs.declared.reply.Reply.TheVariants as reply
use Rattle.fare_event.specs.declared.reply.Reply.TheVariants.{Idle, Empty, Refused, Taken, Closed, Count, Pruned}
use Rattle.fare_store.specs.Tables.{put, put2}
use Rattle.fare_world.specs.System.{Routed, Lane_of, Day_of, OwnerState, LaneState, System, numbered_for, arrived_of}
use Rattle.fare_side.specs.OpenDays.{is_closed}
use Rattle.fare_world.specs.Steps.{count}
use Rattle.fare_world.specs.Arriving.{is_full}
use Rattle.fare_world.specs.Knowing.{knows_device}
use Rattle.fare_world.specs.ItemReplies.{forwarded_item, fetched_item}
use Rattle.fare_world.specs.Owning.{lane_room, next_routed, passed, forwarded_reply, forwarded, forward_item, forward_on, forward, fetched_reply, fetch_from, fetch, emptied, with_lane, is_of_closed_day, tap_refusal, take_tap, statement_refusal, take_statement, take_from, take_event, close_refusal, closed_day, close_by, close_on, close, retired_lane, retire_refusal, retire_on, retire, pruned, prune}
use Rattle.fare_world.specs.Shown.{IsAt, IsRoutedOf, IsLedgerOf, IsOwnerOf, OwnerShape, Both, Each2, entry, Shape, Shows, row_at, count_of}
use Rattle.fare_world.specs.Kept.{IsSystem}
use Rattle.fare_world.specs.Whole.{Seen, shape}
use Rattle.fare_store.proofs.Entries.{if_all, above, not_below, put_all, put2_all, put_both, put_here}
use Rattle.fare_world.proofs.RowPlaces.{row_here, row_held, row_pruned, rows_pruned}
use Rattle.fare_world.proofs.Lists.{IfSome-weaken, slice_get-past, length-Each2, has_room, has_no_room, Each2-push, Each2-nil, Each2-cons, Both-none, Both-some, take-one_more}
use Rattle.fare_side.proofs.Positions.{element_at}
use Rattle.fare_world.proofs.Places.{slice_get-front}
use Rattle.fare_world.proofs.TableLemmas.{entry-set, owners_apart}
use Rattle.fare_world.proofs.Kept.{moves_step}
use Rattle.fare_world.proofs.KeptParts.{took_numbered}
use Rattle.fare_world.proofs.NextDay.{day_found, next_day_is, no_statement_found}
use Rattle.fare_world.proofs.Showing.{Answers, answers_by, put_other, shows_owner, owner_shown, lane_tap_at, routed_is, routed_states}

-- what was taken was stored
pub took_arrived : (sc : SchemeValue) (s : System) (o d : ℕ) → IsSystem sc s → (s.lanes o d).took ≤ length (arrived_of o (s.devices d))
took_arrived sc s o d is = omega (arith, (is.lanes o d).took, (is.lanes o d).forward)

-- and what was pruned was forwarded
gone_forwarded : (sc : SchemeValue) (s : System) (o d : ℕ) → IsSystem sc s → (s.lanes o d).gone ≤ (s.lanes o d).forward
gone_forwarded sc s o d is = omega (arith, (is.lanes o d).gone, (is.lanes o d).took)

-- one owner and its lanes with others in their place
pub shows_owner_put : (sc : SchemeValue) (h : Shape) (s : System) (o : ℕ) (side : OwnerState) (lanes : ℕ → LaneState) (x : OwnerShape) → ((d : ℕ) → (lanes d).gone ≡ (s.lanes o d).gone) → Shows sc h s → IsSystem sc (record s { owners = put s.owners o side; lanes = put s.lanes o lanes }) → IsOwnerOf sc s.devices o side lanes x
    → Shows sc (record h { owners = put h.owners o (Some x) }) (record s { owners = put s.owners o side; lanes = put s.lanes o lanes })
shows_owner_put sc h s o side lanes x gone w is here =
    shows_owner sc h s o (put s.owners o side) (put s.lanes o lanes) x w is (put_other s.owners o side) (put_other s.lanes o lanes) (put_all (λ j f. (d : ℕ) → (f d).gone ≡ (s.lanes j d).gone) s.lanes o lanes (λ j d. refl) gone)
    (subst (λ (q : OwnerState × (ℕ → LaneState)). IsOwnerOf sc s.devices o q.0 q.1 x) (λ i. (sym (put_here s.owners o side) i, sym (put_here s.lanes o lanes) i)) here)

-- one owner with another in its place, and the same lanes
shows_side_put : (sc : SchemeValue) (h : Shape) (s : System) (o : ℕ) (side : OwnerState) (x : OwnerShape) → Shows sc h s → IsSystem sc (record s { owners = put s.owners o side }) → IsOwnerOf sc s.devices o side (s.lanes o) x
    → Shows sc (record h { owners = put h.owners o (Some x) }) (record s { owners = put s.owners o side })
shows_side_put sc h s o side x w is here =
    shows_owner sc h s o (put s.owners o side) s.lanes x w is (put_other s.owners o side) (λ j apart. refl) (λ j d. refl)
    (subst (λ q. IsOwnerOf sc s.devices o q (s.lanes o) x) (sym (put_here s.owners o side)) here)

-- FORWARD
pub shown_unknown_owner : (sc : SchemeValue) (h : Shape) (s : System) (o d : ℕ) → Shows sc h s → position_of_owner sc o ≡ None → Answers sc h (forward sc s o d) (Refused UnknownOwner)
shown_unknown_owner sc h s o d w none =
    answers_by sc h (Refused UnknownOwner) (forward sc s o d) (s, Refused UnknownOwner) (ap (λ p. if is_some p then known else (s, Refused UnknownOwner)) none) refl w
  where
    known : System × Reply
    known = if knows_device sc d then forward_on sc s o d else (s, Refused UnknownDevice)

pub shown_forward_unknown : (sc : SchemeValue) (h : Shape) (s : System) (o d a : ℕ) → Shows sc h s → position_of_owner sc o ≡ Some a → is_some (position_of_device sc d) ≡ false → Answers sc h (forward sc s o d) (Refused UnknownDevice)
shown_forward_unknown sc h s o d a w owner none =
    answers_by sc h (Refused UnknownDevice) (forward sc s o d) (s, Refused UnknownDevice) (λ i. known (is_some (owner i)) (none i)) refl w
  where
    known : Bool → Bool → System × Reply
    known p q = if p then (if q then forward_on sc s o d else (s, Refused UnknownDevice)) else (s, Refused UnknownOwner)

-- where the owner and the device are registered
forward_by : (sc : SchemeValue) (s : System) (o d a k : ℕ) (retired : Bool) → position_of_owner sc o ≡ Some a → position_of_device sc d ≡ Some k → (s.lanes o d).retired ≡ retired → forward sc s o d ≡ (if retired then (s, Refused Retired) else forward_item sc s o d (next_routed s o d))
forward_by sc s o d a k retired owner device is = λ i. known (is_some (owner i)) (is_some (device i)) (is i)
  where
    known : Bool → Bool → Bool → System × Reply
    known p q r = if p then (if q then (if r then (s, Refused Retired) else forward_item sc s o d (next_routed s o d)) else (s, Refused UnknownDevice)) else (s, Refused UnknownOwner)

forward_known : (sc : SchemeValue) (s : System) (o d a k : ℕ) → position_of_owner sc o ≡ Some a → position_of_device sc d ≡ Some k → (s.lanes o d).retired ≡ false → forward sc s o d ≡ forward_item sc s o d (next_routed s o d)
forward_known sc s o d a k owner device works = forward_by sc s o d a k false owner device works

-- a lane is retired in the model where it is in the ledger
pub retired_there : (sc : SchemeValue) (h : Shape) (s : System) (o d : ℕ) (x : OwnerShape) (retired : Bool) → Shows sc h s → h.owners o ≡ Some x → x.ledger.retired d ≡ retired → (s.lanes o d).retired ≡ retired
retired_there sc h s o d x retired w e is = sym ((owner_shown sc h s o x w e).retired d) ∙ is

pub shown_forward_retired : (sc : SchemeValue) (h : Shape) (s : System) (o d a k : ℕ) → Shows sc h s → position_of_owner sc o ≡ Some a → position_of_device sc d ≡ Some k → (s.lanes o d).retired ≡ true → Answers sc h (forward sc s o d) (Refused Retired)
shown_forward_retired sc h s o d a k w owner device is = answers_by sc h (Refused Retired) (forward sc s o d) (s, Refused Retired) (forward_by sc s o d a k true owner device is) refl w

-- no row after the cursor is none that was not forwarded
none_left_of : (sc : SchemeValue) (h : Shape) (s : System) (o d c : ℕ) → Shows sc h s → c ≡ (s.lanes o d).forward → NoRow h.outbox o d c → length (arrived_of o (s.devices d)) ≤ (s.lanes o d).forward
none_left_of sc h s o d c w cursor none = omega (arith, slice_get-past rows c empty, cursor)
  where
    rows : List RecordValue
    rows = arrived_of o (s.devices d)

    empty : slice_get rows c ≡ None
    empty =
        let place : c + 1 - 1 ≡ c = omega arith in
        ap (slice_get rows) (sym place) ∙ sym (row_here (s.lanes o d).gone rows (c + 1) (omega (arith, cursor, gone_forwarded sc s o d w.system))) ∙ sym (w.rows o d (c + 1)) ∙ none (c + 1) (omega arith)

-- the row of least lane number after the cursor is the lane's next
next_row_is : (sc : SchemeValue) (h : Shape) (s : System) (o d c : ℕ) (r : RecordValue) → Shows sc h s → c ≡ (s.lanes o d).forward → IsNextRow h.outbox.rows o d c (Some r) → (slice_get (arrived_of o (s.devices d)) c ≡ Some r) × (r.lane ≡ c + 1)
next_row_is sc h s o d c r w cursor next =
    let held = row_held gone rows r.lane r (sym (w.rows o d r.lane) ∙ next.is_held) in
    let within = slice_get_within rows (r.lane - 1) r held.1 in
    by (nat_lt (c + 1) r.lane) refl held.1 (omega (arith, within, next.behind, held.0))
  where
    rows : List RecordValue
    rows = arrived_of o (s.devices d)

    gone : ℕ
    gone = (s.lanes o d).gone

    by : (b : Bool) → nat_lt (c + 1) r.lane ≡ b → slice_get rows (r.lane - 1) ≡ Some r → c < length rows → (slice_get rows c ≡ Some r) × (r.lane ≡ c + 1)
    by true t at more =
        let above : c + 1 < r.lane = grind (arith, nat_tests) in
        let found = element_at rows c more in
        let place : c + 1 - 1 ≡ c = omega arith in
        let none : None ≡ Some found.0 = sym (next.least (c + 1) (omega arith) above) ∙ w.rows o d (c + 1) ∙ row_here gone rows (c + 1) (omega (arith, cursor, gone_forwarded sc s o d w.system)) ∙ ap (slice_get rows) place ∙ found.1 in
        absurd (cc)
    by false t at more =
        let le : r.lane ≤ c + 1 = grind (arith, nat_tests) in
        let is : r.lane ≡ c + 1 = omega (arith, le, next.behind) in
        let place : c ≡ r.lane - 1 = omega (arith, is) in
        (ap (slice_get rows) place ∙ at, is)

part_front : (o n k : ℕ) (taps : List RecordValue) (r : RecordValue) → slice_get (part o (take n taps)) k ≡ Some r → slice_get (part o taps) k ≡ Some r
part_front o n k taps r e =
    ap (λ l. slice_get l k) (sym (ap (part o) (take-append-drop n taps)) ∙ filter-append (λ q. q.owner == o) (take n taps) (drop n taps))
    ∙ slice_get-front (part o (take n taps)) (part o (drop n taps)) k r e

-- THE NEXT ITEM
-- where the forwarder's cursor stands
pub cursor_stands : (sc : SchemeValue) (h : Shape) (s : System) (o d a : ℕ) (x : OwnerShape) (c : ℕ × ℕ) → Shows sc h s → position_of_owner sc o ≡ Some a → is_some (position_of_device sc d) ≡ true → h.owners o ≡ Some x → x.cursors d ≡ Some c → (c.0 ≡ (s.lanes o d).forward) × (c.1 ≡ (s.lanes o d).from_day)
cursor_stands sc h s o d a x c w owner known e f =
    let p = (owner_shown sc h s o x w e).cursors d c known f in
    (ap (λ (q : ℕ × ℕ). q.0) p, ap (λ (q : ℕ × ℕ). q.1) p)

-- a row comes first
row_routed : (s : System) (o d : ℕ) → (s.lanes o d).forward < length (arrived_of o (s.devices d)) → next_routed s o d ≡ Some (Lane_of d ((s.lanes o d).forward + 1))
row_routed s o d more = let t : nat_lt (s.lanes o d).forward (length (arrived_of o (s.devices d))) ≡ true = grind (arith, nat_tests) in ap (λ b. if b then Some (Lane_of d ((s.lanes o d).forward + 1)) else option_map (Day_of d) (day_found s o d)) t

-- where there is none, a statement
no_row_routed : (s : System) (o d : ℕ) → length (arrived_of o (s.devices d)) ≤ (s.lanes o d).forward → next_routed s o d ≡ option_map (Day_of d) (day_found s o d)
no_row_routed s o d past = let t : nat_lt (s.lanes o d).forward (length (arrived_of o (s.devices d))) ≡ false = grind (arith, nat_tests) in ap (λ b. if b then Some (Lane_of d ((s.lanes o d).forward + 1)) else option_map (Day_of d) (day_found s o d)) t

-- what the forwarder finds behind its cursor is what comes next
pub next_found : (sc : SchemeValue) (h : Shape) (s : System) (o d : ℕ) (c : Cursor) (y : Option Item) → IsDay sc.start → Shows sc h s → c.lane ≡ (s.lanes o d).forward → c.day ≡ (s.lanes o d).from_day → IsNext h.outbox o d c y → Both (IsRoutedOf s.devices o) (next_routed s o d) y
next_found sc h s o d c (Some (item.Tap r)) first w lane day next =
    let found = next_row_is sc h s o d c.lane r w lane next in
    let at : slice_get (arrived_of o (s.devices d)) (s.lanes o d).forward ≡ Some r = ap (slice_get (arrived_of o (s.devices d))) (sym lane) ∙ found.0 in
    let less : (s.lanes o d).forward + 1 - 1 ≡ (s.lanes o d).forward = omega arith in
    let is : IsAt (numbered_for s o d) ((s.lanes o d).forward + 1) r = record { positive = omega arith; here = ap (slice_get (numbered_for s o d)) less ∙ part_front o (s.devices d).upto (s.lanes o d).forward (s.devices d).taps r at } in
    subst (λ x. Both (IsRoutedOf s.devices o) x (Some (item.Tap r))) (sym (row_routed s o d (slice_get_within (arrived_of o (s.devices d)) (s.lanes o d).forward r at))) is
next_found sc h s o d c (Some (item.Stated x)) first w lane day next =
    let is = next_day_is sc s h.outbox.stated o d c.day x w.system (w.stated o d) day next.1 in
    subst (λ z. Both (IsRoutedOf s.devices o) z (Some (item.Stated x))) (sym (no_row_routed s o d (none_left_of sc h s o d c.lane w lane next.0) ∙ ap (option_map (Day_of d)) is.0)) is.1
next_found sc h s o d c None first w lane day next =
    let none = no_statement_found sc h s o d c.day first w day next.1 in
    subst (λ z. Both (IsRoutedOf s.devices o) z None) (sym (no_row_routed s o d (none_left_of sc h s o d c.lane w lane next.0) ∙ ap (option_map (Day_of d)) none)) tt

pub shown_idle : (sc : SchemeValue) (h : Shape) (s : System) (o d a k : ℕ) → Shows sc h s → position_of_owner sc o ≡ Some a → position_of_device sc d ≡ Some k → (s.lanes o d).retired ≡ false → Both (IsRoutedOf s.devices o) (next_routed s o d) None → Answers sc h (forward sc s o d) Idle
shown_idle sc h s o d a k w owner device works next = answers_by sc h Idle (forward sc s o d) (s, Idle) (forward_known sc s o d a k owner device works ∙ ap (forward_item sc s o d) (Both-none (IsRoutedOf s.devices o) (next_routed s o d) next)) refl w

-- what is to be forwarded, where something is
forward_goes : (sc : SchemeValue) (s : System) (o d a k : ℕ) (x : Routed) (full : Bool) → position_of_owner sc o ≡ Some a → position_of_device sc d ≡ Some k → (s.lanes o d).retired ≡ false → next_routed s o d ≡ Some x → is_full (lane_room sc o) (s.owners o).queue ≡ full → forward sc s o d ≡ (if full then (s, Refused Busy) else (forwarded s o d x, forwarded_reply x))
forward_goes sc s o d a k x full owner device works next is = forward_known sc s o d a k owner device works ∙ ap (forward_item sc s o d) next ∙ ap (λ b. if b then (s, Refused Busy) else (forwarded s o d x, forwarded_reply x)) is

-- an item that finds the lane queue full
pub shown_forward_busy : (sc : SchemeValue) (h : Shape) (s : System) (o d a k : ℕ) (x : OwnerShape) (y : Item) → Shows sc h s → position_of_owner sc o ≡ Some a → position_of_device sc d ≡ Some k → h.owners o ≡ Some x → (s.lanes o d).retired ≡ false → Both (IsRoutedOf s.devices o) (next_routed s o d) (Some y) → lane_room sc o ≤ length x.queue
    → Answers sc h (forward sc s o d) (Refused Busy)
shown_forward_busy sc h s o d a k x y w owner device e works next full =
    let found = Both-some (IsRoutedOf s.devices o) (next_routed s o d) y next in
    answers_by sc h (Refused Busy) (forward sc s o d) (s, Refused Busy)
    (forward_goes sc s o d a k found.0 true owner device works found.1 (has_no_room (lane_room sc o) (s.owners o).queue (omega (arith, full, length-Each2 (IsRoutedOf s.devices o) (s.owners o).queue x.queue (owner_shown sc h s o x w e).queue)))) refl w

-- where a cursor goes with an item
abbrev pub cursor_past : ℕ × ℕ → Item → ℕ × ℕ
cursor_past p (item.Tap r) = (r.lane, p.1)
cursor_past p (item.Stated x) = (p.0, x.day + 1)

-- and a lane with it, and what is replied
routed_past : (sc : SchemeValue) (s : System) (o d : ℕ) (l : LaneState) (x : Routed) (y : Item) → IsSystem sc s → IsRoutedOf s.devices o x y → next_routed s o d ≡ Some x → (forwarded_item y ≡ forwarded_reply x) × (cursor_past (l.forward, l.from_day) y ≡ ((passed l x).forward, (passed l x).from_day))
routed_past sc s o d l (Lane_of e n) (item.Tap r) is at next = let t = lane_tap_at sc s o e n r is at in (ap reply.Forwarded t.lane, (λ i. (t.lane i, l.from_day)))
routed_past sc s o d l (Lane_of e n) (item.Stated y) is at next = absurd at
routed_past sc s o d l (Day_of e day) (item.Tap r) is at next = absurd at
routed_past sc s o d l (Day_of e day) (item.Stated y) is at next = let on : y.day ≡ day = ap (λ (q : StatementValue). q.day) at.is in (ap reply.ForwardedDay on, (λ i. (l.forward, on i + 1)))

-- a lane that passed an item has taken what it had
passed_keeps : (l : LaneState) (x : Routed) → ((passed l x).took ≡ l.took) × ((passed l x).gone ≡ l.gone) × ((passed l x).stated ≡ l.stated) × ((passed l x).closed ≡ l.closed) × ((passed l x).retired ≡ l.retired)
passed_keeps l (Lane_of d n) = (refl, refl, refl, refl, refl)
passed_keeps l (Day_of d day) = (refl, refl, refl, refl, refl)

pub shown_forward : (sc : SchemeValue) (h : Shape) (s : System) (o d a k : ℕ) (x : OwnerShape) (y : Item) (c : ℕ × ℕ) → Shows sc h s → position_of_owner sc o ≡ Some a → position_of_device sc d ≡ Some k → h.owners o ≡ Some x → x.cursors d ≡ Some c → (s.lanes o d).retired ≡ false → Both (IsRoutedOf s.devices o) (next_routed s o d) (Some y) → length x.queue < lane_room sc o
    → Answers sc (record h { owners = put h.owners o (Some (record x { queue = x.queue ++ y ∷ []; cursors = put x.cursors d (Some (cursor_past c y)) })) }) (forward sc s o d) (forwarded_item y)
shown_forward sc h s o d a k x y c w owner device e f works next room =
    answers_by sc (record h { owners = put h.owners o (Some new) }) (forwarded_item y) (forward sc s o d) (forwarded s o d z, forwarded_reply z) goes past.0
    (shows_owner_put sc h s o side lanes new (put_all (λ j b. b.gone ≡ (s.lanes o j).gone) (s.lanes o) d after (λ j. refl) keeps.1) w (subst (λ (q : System × Reply). IsSystem sc q.0) goes (moves_step sc s (event.Forward o d) w.system).system)
    (record {
      ledger = p.ledger;
      taken = λ j. p.taken j ∙ put_all (λ i b. take (s.lanes o i).took (numbered_for s o i) ≡ take b.took (numbered_for s o i)) (s.lanes o) d after (λ i. refl) (ap (λ n. take n (numbered_for s o d)) (sym keeps.0)) j;
      stated = λ j day. p.stated j day ∙ put_all (λ i b. count_of ((s.lanes o i).stated day) (numbered_for s o i) day ≡ count_of (b.stated day) (numbered_for s o i) day) (s.lanes o) d after (λ i. refl) (ap (λ (g : ℕ → Bool). count_of (g day) (numbered_for s o d) day) (sym keeps.2)) j;
      closed = λ j. p.closed j ∙ put_all (λ i b. (s.lanes o i).closed ≡ b.closed) (s.lanes o) d after (λ i. refl) (sym keeps.3) j;
      retired = λ j. p.retired j ∙ put_all (λ i b. (s.lanes o i).retired ≡ b.retired) (s.lanes o) d after (λ i. refl) (sym keeps.4) j;
      queue = Each2-push (IsRoutedOf s.devices o) (s.owners o).queue x.queue z y p.queue found.2;
      hand = p.hand;
      cursors = put_both (λ j b q. (n : ℕ × ℕ) → IsSome (position_of_device sc j) → b ≡ Some n → n ≡ (q.forward, q.from_day)) x.cursors (s.lanes o) d (Some (cursor_past c y)) after p.cursors (λ n known is. sym (same_place (cursor_past c y) n is) ∙ ap (λ q. cursor_past q y) (p.cursors d c known f) ∙ past.1);
    }))
  where
    l : LaneState
    l = s.lanes o d

    p : IsOwnerOf sc s.devices o (s.owners o) (s.lanes o) x
    p = owner_shown sc h s o x w e

    found : (z : Routed) × (next_routed s o d ≡ Some z) × IsRoutedOf s.devices o z y
    found = Both-some (IsRoutedOf s.devices o) (next_routed s o d) y next

    z : Routed
    z = found.0

    same_place : (m n : ℕ × ℕ) → Some m ≡ Some n → m ≡ n
    same_place m n q = cc

    past : (forwarded_item y ≡ forwarded_reply z) × (cursor_past (l.forward, l.from_day) y ≡ ((passed l z).forward, (passed l z).from_day))
    past = routed_past sc s o d l z y w.system found.2 found.1

    keeps : ((passed l z).took ≡ l.took) × ((passed l z).gone ≡ l.gone) × ((passed l z).stated ≡ l.stated) × ((passed l z).closed ≡ l.closed) × ((passed l z).retired ≡ l.retired)
    keeps = passed_keeps l z

    side : OwnerState
    side = record (s.owners o) { queue = (s.owners o).queue ++ z ∷ [] }

    after : LaneState
    after = passed l z

    lanes : ℕ → LaneState
    lanes = put (s.lanes o) d after

    new : OwnerShape
    new = record x { queue = x.queue ++ y ∷ []; cursors = put x.cursors d (Some (cursor_past c y)) }

    goes : forward sc s o d ≡ (forwarded s o d z, forwarded_reply z)
    goes = forward_goes sc s o d a k z false owner device works found.1 (has_room (lane_room sc o) (s.owners o).queue (omega (arith, room, length-Each2 (IsRoutedOf s.devices o) (s.owners o).queue x.queue p.queue)))

-- FETCH
fetch_known : (sc : SchemeValue) (s : System) (o a : ℕ) → position_of_owner sc o ≡ Some a → fetch sc s o ≡ fetch_from s o (s.owners o).queue (s.owners o).hand
fetch_known sc s o a at = ap (λ p. if is_some p then fetch_from s o (s.owners o).queue (s.owners o).hand else (s, Refused UnknownOwner)) at

pub shown_fetch_full : (sc : SchemeValue) (h : Shape) (s : System) (o a : ℕ) (x : OwnerShape) (y : Item) → Shows sc h s → position_of_owner sc o ≡ Some a → h.owners o ≡ Some x → x.hand ≡ Some y → Answers sc h (fetch sc s o) (Refused HandFull)
shown_fetch_full sc h s o a x y w at e f =
    let p = owner_shown sc h s o x w e in
    let found = Both-some (IsRoutedOf s.devices o) (s.owners o).hand y (subst (Both (IsRoutedOf s.devices o) (s.owners o).hand) f p.hand) in
    answers_by sc h (Refused HandFull) (fetch sc s o) (s, Refused HandFull) (fetch_known sc s o a at ∙ ap (fetch_from s o (s.owners o).queue) found.1) refl w

pub shown_fetch_empty : (sc : SchemeValue) (h : Shape) (s : System) (o a : ℕ) (x : OwnerShape) → Shows sc h s → position_of_owner sc o ≡ Some a → h.owners o ≡ Some x → x.hand ≡ None → x.queue ≡ [] → Answers sc h (fetch sc s o) Empty
shown_fetch_empty sc h s o a x w at e f g =
    let p = owner_shown sc h s o x w e in
    let hand = Both-none (IsRoutedOf s.devices o) (s.owners o).hand (subst (Both (IsRoutedOf s.devices o) (s.owners o).hand) f p.hand) in
    let queue = Each2-nil (IsRoutedOf s.devices o) (s.owners o).queue (subst (Each2 (IsRoutedOf s.devices o) (s.owners o).queue) g p.queue) in
    answers_by sc h Empty (fetch sc s o) (s, Empty) (fetch_known sc s o a at ∙ (λ i. fetch_from s o (queue i) (hand i))) refl w

-- what is replied of an item that is fetched
fetched_by : (sc : SchemeValue) (s : System) (o : ℕ) (x : Routed) (y : Item) → IsSystem sc s → IsRoutedOf s.devices o x y → fetched_item y ≡ fetched_reply x
fetched_by sc s o (Lane_of d n) (item.Tap r) is at = let t = lane_tap_at sc s o d n r is at in (λ i. reply.Fetched (t.device i) (t.lane i))
fetched_by sc s o (Lane_of d n) (item.Stated y) is at = absurd at
fetched_by sc s o (Day_of d day) (item.Tap r) is at = absurd at
fetched_by sc s o (Day_of d day) (item.Stated y) is at = λ i. reply.FetchedDay (at.is i).device (at.is i).day

pub shown_fetch : (sc : SchemeValue) (h : Shape) (s : System) (o a : ℕ) (x : OwnerShape) (y : Item) (rest : List Item) → Shows sc h s → position_of_owner sc o ≡ Some a → h.owners o ≡ Some x → x.hand ≡ None → x.queue ≡ y ∷ rest
    → Answers sc (record h { owners = put h.owners o (Some (record x { queue = rest; hand = Some y })) }) (fetch sc s o) (fetched_item y)
shown_fetch sc h s o a x y rest w at e f g =
    let p = owner_shown sc h s o x w e in
    let hand = Both-none (IsRoutedOf s.devices o) (s.owners o).hand (subst (Both (IsRoutedOf s.devices o) (s.owners o).hand) f p.hand) in
    let found = Each2-cons (IsRoutedOf s.devices o) (s.owners o).queue y rest (subst (Each2 (IsRoutedOf s.devices o) (s.owners o).queue) g p.queue) in
    let side : OwnerState = record { queue = found.1; hand = Some found.0 } in
    let goes : fetch sc s o ≡ (record s { owners = put s.owners o side }, fetched_reply found.0) = fetch_known sc s o a at ∙ (λ i. fetch_from s o (found.2 i) (hand i)) in
    answers_by sc (record h { owners = put h.owners o (Some (record x { queue = rest; hand = Some y })) }) (fetched_item y) (fetch sc s o) (record s { owners = put s.owners o side }, fetched_reply found.0) goes (fetched_by sc s o found.0 y w.system found.3)
    (shows_side_put sc h s o side (record x { queue = rest; hand = Some y }) w (subst (λ (y : System × Reply). IsSystem sc y.0) goes (moves_step sc s (event.Fetch o) w.system).system)
    (record { ledger = p.ledger; taken = p.taken; stated = p.stated; closed = p.closed; retired = p.retired; queue = found.4; hand = found.3; cursors = p.cursors }))

pub shown_fetch_unknown : (sc : SchemeValue) (h : Shape) (s : System) (o : ℕ) → Shows sc h s → position_of_owner sc o ≡ None → Answers sc h (fetch sc s o) (Refused UnknownOwner)
shown_fetch_unknown sc h s o w none = answers_by sc h (Refused UnknownOwner) (fetch sc s o) (s, Refused UnknownOwner) (ap (λ p. if is_some p then fetch_from s o (s.owners o).queue (s.owners o).hand else (s, Refused UnknownOwner)) none) refl w

-- TAKE
take_known : (sc : SchemeValue) (s : System) (o a : ℕ) → position_of_owner sc o ≡ Some a → take_event sc s o ≡ take_from sc s o (s.owners o).hand
take_known sc s o a at = ap (λ p. if is_some p then take_from sc s o (s.owners o).hand else (s, Refused UnknownOwner)) at

pub shown_take_idle : (sc : SchemeValue) (h : Shape) (s : System) (o a : ℕ) (x : OwnerShape) → Shows sc h s → position_of_owner sc o ≡ Some a → h.owners o ≡ Some x → x.hand ≡ None → Answers sc h (take_event sc s o) Idle
shown_take_idle sc h s o a x w at e f =
    let p = owner_shown sc h s o x w e in
    let hand = Both-none (IsRoutedOf s.devices o) (s.owners o).hand (subst (Both (IsRoutedOf s.devices o) (s.owners o).hand) f p.hand) in
    answers_by sc h Idle (take_event sc s o) (s, Idle) (take_known sc s o a at ∙ ap (take_from sc s o) hand) refl w

pub shown_take_unknown : (sc : SchemeValue) (h : Shape) (s : System) (o : ℕ) → Shows sc h s → position_of_owner sc o ≡ None → Answers sc h (take_event sc s o) (Refused UnknownOwner)
shown_take_unknown sc h s o w none = answers_by sc h (Refused UnknownOwner) (take_event sc s o) (s, Refused UnknownOwner) (ap (λ p. if is_some p then take_from sc s o (s.owners o).hand else (s, Refused UnknownOwner)) none) refl w

-- what is in the owner's hand
hand_of : (sc : SchemeValue) (h : Shape) (s : System) (o : ℕ) (x : OwnerShape) (y : Item) → Shows sc h s → h.owners o ≡ Some x → x.hand ≡ Some y → (z : Routed) × ((s.owners o).hand ≡ Some z) × IsRoutedOf s.devices o z y
hand_of sc h s o x y w e f = Both-some (IsRoutedOf s.devices o) (s.owners o).hand y (subst (Both (IsRoutedOf s.devices o) (s.owners o).hand) f (owner_shown sc h s o x w e).hand)

-- how many taps of a device were taken
pub taken_count : (sc : SchemeValue) (h : Shape) (s : System) (o d : ℕ) (x : OwnerShape) → Shows sc h s → h.owners o ≡ Some x → length (x.ledger.taken d) ≡ (s.lanes o d).took
taken_count sc h s o d x w e = ap length ((owner_shown sc h s o x w e).taken d) ∙ length-take-le (s.lanes o d).took (numbered_for s o d) (took_numbered sc s o d w.system)

-- an item of the owner is its ledger's own where the device is known
mine : (sc : SchemeValue) (h : Shape) (s : System) (o d owner : ℕ) (x : OwnerShape) → Shows sc h s → h.owners o ≡ Some x → owner ≡ o → is_mine x.ledger owner d ≡ knows_device sc d
mine sc h s o d owner x w e same =
    let p = owner_shown sc h s o x w e in
    let own : (owner == x.ledger.owner) ≡ true = (Decides-eqb owner x.ledger.owner).1 (same ∙ sym p.ledger.id) in
    ap (λ b. b && x.ledger.knows d) own ∙ p.ledger.made.knows d

-- a day is closed in the ledger where it is in the model
closed_there : (sc : SchemeValue) (h : Shape) (s : System) (o d day : ℕ) (x : OwnerShape) → Shows sc h s → h.owners o ≡ Some x → ledger.is_closed x.ledger d day ≡ is_closed sc.start (s.lanes o d).closed day
closed_there sc h s o d day x w e = let p = owner_shown sc h s o x w e in (λ i. nat_le (p.ledger.made.start i) day && nat_lt day (p.ledger.made.start i + p.closed d i))

-- the hand is empty
abbrev with_empty_hand : Shape → ℕ → OwnerShape → LedgerValue → Shape
with_empty_hand h o x v = record h { owners = put h.owners o (Some (record x { ledger = v; hand = None })) }

-- what is seen where the hand is emptied, and one lane of it changes, whose forwarding and pruning go on where they were
took_shows : (sc : SchemeValue) (h : Shape) (s : System) (o d : ℕ) (x : OwnerShape) (l : LaneState) (v : LedgerValue) → Shows sc h s → h.owners o ≡ Some x → IsSystem sc (with_lane s o d l) → l.forward ≡ (s.lanes o d).forward → l.from_day ≡ (s.lanes o d).from_day → l.gone ≡ (s.lanes o d).gone → IsLedgerOf sc o v
    → ((j : ℕ) → v.taken j ≡ take (put (s.lanes o) d l j).took (numbered_for s o j)) → ((j day : ℕ) → v.stated j day ≡ count_of ((put (s.lanes o) d l j).stated day) (numbered_for s o j) day) → ((j : ℕ) → v.closed j ≡ (put (s.lanes o) d l j).closed) → ((j : ℕ) → v.retired j ≡ (put (s.lanes o) d l j).retired)
    → Shows sc (with_empty_hand h o x v) (with_lane s o d l)
took_shows sc h s o d x l v w e is forward from gone of taken stated closed retired =
    shows_owner_put sc h s o (record (s.owners o) { hand = None }) (put (s.lanes o) d l) (record x { ledger = v; hand = None }) (put_all (λ j b. b.gone ≡ (s.lanes o j).gone) (s.lanes o) d l (λ j. refl) gone) w is
    (record {
      ledger = of;
      taken = taken;
      stated = stated;
      closed = closed;
      retired = retired;
      queue = p.queue;
      hand = tt;
      cursors = put_all (λ j b. (n : ℕ × ℕ) → IsSome (position_of_device sc j) → x.cursors j ≡ Some n → n ≡ (b.forward, b.from_day)) (s.lanes o) d l p.cursors (λ n known f. p.cursors d n known f ∙ (λ i. (sym forward i, sym from i)));
    })
  where
    p : IsOwnerOf sc s.devices o (s.owners o) (s.lanes o) x
    p = owner_shown sc h s o x w e

-- a refusal empties the hand
refused_take : (sc : SchemeValue) (h : Shape) (s : System) (o : ℕ) (x : OwnerShape) (why : Refusal) → Shows sc h s → h.owners o ≡ Some x → take_event sc s o ≡ (emptied s o, reply.Refused why) → Answers sc (with_empty_hand h o x x.ledger) (take_event sc s o) (Refused why)
refused_take sc h s o x why w e goes =
    let p = owner_shown sc h s o x w e in
    answers_by sc (with_empty_hand h o x x.ledger) (Refused why) (take_event sc s o) (emptied s o, Refused why) goes refl
    (shows_side_put sc h s o (record (s.owners o) { hand = None }) (record x { hand = None }) w
    (subst (λ (y : System × Reply). IsSystem sc y.0) goes (moves_step sc s (event.Take o) w.system).system)
    (record { ledger = p.ledger; taken = p.taken; stated = p.stated; closed = p.closed; retired = p.retired; queue = p.queue; hand = tt; cursors = p.cursors }))

-- A TAP IS TAKEN
-- the step judges as the ledger does
tap_goes : (sc : SchemeValue) (h : Shape) (s : System) (o a : ℕ) (x : OwnerShape) (r : RecordValue) → Shows sc h s → position_of_owner sc o ≡ Some a → h.owners o ≡ Some x → x.hand ≡ Some (item.Tap r) → (take_event sc s o ≡ take_tap s o r.device r.lane (take_judged x.ledger r)) × IsAt (numbered_for s o r.device) r.lane r
tap_goes sc h s o a x r w at e f =
    let found = hand_of sc h s o x (item.Tap r) w e f in
    let is = routed_is sc s o found.0 r w.system found.2 in
    let p = owner_shown sc h s o x w e in
    let of_day : is_of_closed_day sc.start (s.lanes o r.device).closed (slice_get (numbered_for s o r.device) (r.lane - 1)) ≡ ledger.is_closed x.ledger r.device r.tap.day = ap (is_of_closed_day sc.start (s.lanes o r.device).closed) is.2.here ∙ sym (closed_there sc h s o r.device r.tap.day x w e) in (
      take_known sc s o a at ∙ ap (take_from sc s o) (found.1 ∙ ap Some is.0)
          ∙ (λ i. take_tap s o r.device r.lane (tap_judged (sym (mine sc h s o r.device r.owner x w e is.1) i) (sym (taken_count sc h s o r.device x w e) i) (of_day i) r.lane (sym (p.retired r.device) i))),
      is.2,
    )

took_one : (sc : SchemeValue) (h : Shape) (s : System) (o a : ℕ) (x : OwnerShape) (r : RecordValue) → Shows sc h s → position_of_owner sc o ≡ Some a → h.owners o ≡ Some x → x.hand ≡ Some (item.Tap r) → take_judged x.ledger r ≡ Ok tt → r.lane ≡ length (x.ledger.taken r.device) + 1
    → Answers sc (with_empty_hand h o x (ledger.took r x.ledger)) (take_event sc s o) (Taken r.device r.lane)
took_one sc h s o a x r w at e f judged did =
    answers_by sc (with_empty_hand h o x (ledger.took r x.ledger)) (Taken r.device r.lane) (take_event sc s o) (with_lane s o d after, Taken d r.lane) goes refl
    (took_shows sc h s o d x after (ledger.took r x.ledger) w e (subst (λ (y : System × Reply). IsSystem sc y.0) goes (moves_step sc s (event.Take o) w.system).system) refl refl refl
    (record { id = p.ledger.id; made = record { start = p.ledger.made.start; knows = p.ledger.made.knows } })
    (put_both (λ i b q. b ≡ take q.took (numbered_for s o i)) x.ledger.taken (s.lanes o) d (x.ledger.taken d ++ r ∷ []) after p.taken (ap (λ t. t ++ r ∷ []) (p.taken d) ∙ sym (take-one_more (numbered_for s o d) l.took r here)))
    (λ j day. p.stated j day ∙ put_all (λ i b. count_of ((s.lanes o i).stated day) (numbered_for s o i) day ≡ count_of (b.stated day) (numbered_for s o i) day) (s.lanes o) d after (λ i. refl) refl j)
    (λ j. p.closed j ∙ put_all (λ i b. (s.lanes o i).closed ≡ b.closed) (s.lanes o) d after (λ i. refl) refl j)
    (λ j. p.retired j ∙ put_all (λ i b. (s.lanes o i).retired ≡ b.retired) (s.lanes o) d after (λ i. refl) refl j))
  where
    d : ℕ
    d = r.device

    l : LaneState
    l = s.lanes o d

    after : LaneState
    after = record l { took = l.took + 1 }

    p : IsOwnerOf sc s.devices o (s.owners o) (s.lanes o) x
    p = owner_shown sc h s o x w e

    found : (take_event sc s o ≡ take_tap s o r.device r.lane (take_judged x.ledger r)) × IsAt (numbered_for s o r.device) r.lane r
    found = tap_goes sc h s o a x r w at e f

    next : r.lane ≡ l.took + 1
    next = did ∙ ap (λ n. n + 1) (taken_count sc h s o d x w e)

    here : slice_get (numbered_for s o d) l.took ≡ Some r
    here = let less : l.took ≡ r.lane - 1 = omega (arith, next) in ap (slice_get (numbered_for s o d)) less ∙ found.1.here

    goes : take_event sc s o ≡ (with_lane s o d after, Taken d r.lane)
    goes = found.0 ∙ ap (take_tap s o d r.lane) judged

-- what is seen after a take that was judged so
abbrev pub TakeSeen : SchemeValue → Shape → System → ℕ → OwnerShape → RecordValue → Result Unit TapFault → Type 0
TakeSeen sc h s o x r (Ok _) = Answers sc (with_empty_hand h o x (ledger.took r x.ledger)) (take_event sc s o) (Taken r.device r.lane)
TakeSeen sc h s o x r (Err why) = Answers sc (with_empty_hand h o x x.ledger) (take_event sc s o) (Refused (tap_refusal why))

-- where the ledger takes a tap it is the next
taken_next : (v : LedgerValue) (r : RecordValue) → take_judged v r ≡ Ok tt → r.lane ≡ length (v.taken r.device) + 1
taken_next v r judged =
    if_all (not (is_mine v r.owner r.device)) (λ (q : Result Unit TapFault). q ≡ Ok tt → r.lane ≡ length (v.taken r.device) + 1) _ _ (λ _ q. absurd (cc))
    (λ _. if_all (v.retired r.device) (λ (q : Result Unit TapFault). q ≡ Ok tt → r.lane ≡ length (v.taken r.device) + 1) _ _ (λ _ q. absurd (cc))
    (λ _. if_all (nat_le r.lane (length (v.taken r.device))) (λ (q : Result Unit TapFault). q ≡ Ok tt → r.lane ≡ length (v.taken r.device) + 1) _ _ (λ _ q. absurd (cc))
    (λ b. if_all (nat_lt (length (v.taken r.device) + 1) r.lane) (λ (q : Result Unit TapFault). q ≡ Ok tt → r.lane ≡ length (v.taken r.device) + 1) _ _ (λ _ q. absurd (cc))
    (λ c q. omega (arith, above _ _ b, not_below _ _ c))))) judged

pub shown_take : (sc : SchemeValue) (h : Shape) (s : System) (o a : ℕ) (x : OwnerShape) (r : RecordValue) (judged : Result Unit TapFault) → Shows sc h s → position_of_owner sc o ≡ Some a → h.owners o ≡ Some x → x.hand ≡ Some (item.Tap r) → take_judged x.ledger r ≡ judged → TakeSeen sc h s o x r judged
shown_take sc h s o a x r (Ok u) w at e f is = took_one sc h s o a x r w at e f (is ∙ ap Ok (unit_is u)) (taken_next x.ledger r (is ∙ ap Ok (unit_is u)))
  where
    unit_is : (u : Unit {0}) → u ≡ tt
    unit_is u = refl
shown_take sc h s o a x r (Err why) w at e f is = refused_take sc h s o x (tap_refusal why) w e ((tap_goes sc h s o a x r w at e f).0 ∙ ap (take_tap s o r.device r.lane) is)

-- A STATEMENT IS TAKEN
statement_goes : (sc : SchemeValue) (h : Shape) (s : System) (o a : ℕ) (x : OwnerShape) (y : StatementValue) → Shows sc h s → position_of_owner sc o ≡ Some a → h.owners o ≡ Some x → x.hand ≡ Some (item.Stated y) → (take_event sc s o ≡ take_statement s o y.device y.day (state_judged x.ledger y)) × (y.count ≡ day_count (numbered_for s o y.device) y.day)
statement_goes sc h s o a x y w at e f =
    let found = hand_of sc h s o x (item.Stated y) w e f in
    let is = routed_states s.devices o found.0 y found.2 in
    let count : y.count ≡ day_count (numbered_for s o y.device) y.day = ap (λ (q : StatementValue). q.count) is.2.is in (
      take_known sc s o a at ∙ ap (take_from sc s o) (found.1 ∙ ap Some is.0)
          ∙ (λ i. take_statement s o y.device y.day (statement_judged (sym (mine sc h s o y.device y.owner x w e is.1) i) (sym ((owner_shown sc h s o x w e).stated y.device y.day) i) (sym count i) (sym ((owner_shown sc h s o x w e).retired y.device) i))),
      count,
    )

stated_one : (sc : SchemeValue) (h : Shape) (s : System) (o a : ℕ) (x : OwnerShape) (y : StatementValue) → Shows sc h s → position_of_owner sc o ≡ Some a → h.owners o ≡ Some x → x.hand ≡ Some (item.Stated y) → state_judged x.ledger y ≡ Ok tt
    → Answers sc (with_empty_hand h o x (ledger.with_statement y x.ledger)) (take_event sc s o) (reply.Stated y.device y.day y.count)
stated_one sc h s o a x y w at e f judged =
    answers_by sc (with_empty_hand h o x (ledger.with_statement y x.ledger)) (reply.Stated y.device y.day y.count) (take_event sc s o) (with_lane s o d after, reply.Stated d y.day (day_count (numbered_for s o d) y.day)) goes (ap (reply.Stated d y.day) found.1)
    (took_shows sc h s o d x after (ledger.with_statement y x.ledger) w e (subst (λ (y : System × Reply). IsSystem sc y.0) goes (moves_step sc s (event.Take o) w.system).system) refl refl refl
    (record { id = p.ledger.id; made = record { start = p.ledger.made.start; knows = p.ledger.made.knows } })
    (λ j. p.taken j ∙ put_all (λ i b. take (s.lanes o i).took (numbered_for s o i) ≡ take b.took (numbered_for s o i)) (s.lanes o) d after (λ i. refl) refl j)
    (put_both (λ j (b : ℕ → Option ℕ) q. (day : ℕ) → b day ≡ count_of (q.stated day) (numbered_for s o j) day) x.ledger.stated (s.lanes o) d (put (x.ledger.stated d) y.day (Some y.count)) after p.stated
    (put_both (λ day (b : Option ℕ) (q : Bool). b ≡ count_of q (numbered_for s o d) day) (x.ledger.stated d) l.stated y.day (Some y.count) true (p.stated d) (ap Some found.1)))
    (λ j. p.closed j ∙ put_all (λ i b. (s.lanes o i).closed ≡ b.closed) (s.lanes o) d after (λ i. refl) refl j)
    (λ j. p.retired j ∙ put_all (λ i b. (s.lanes o i).retired ≡ b.retired) (s.lanes o) d after (λ i. refl) refl j))
  where
    d : ℕ
    d = y.device

    l : LaneState
    l = s.lanes o d

    after : LaneState
    after = record l { stated = put l.stated y.day true }

    p : IsOwnerOf sc s.devices o (s.owners o) (s.lanes o) x
    p = owner_shown sc h s o x w e

    found : (take_event sc s o ≡ take_statement s o y.device y.day (state_judged x.ledger y)) × (y.count ≡ day_count (numbered_for s o y.device) y.day)
    found = statement_goes sc h s o a x y w at e f

    goes : take_event sc s o ≡ (with_lane s o d after, reply.Stated d y.day (day_count (numbered_for s o d) y.day))
    goes = found.0 ∙ ap (take_statement s o d y.day) judged

abbrev pub StateSeen : SchemeValue → Shape → System → ℕ → OwnerShape → StatementValue → Result Unit StatementFault → Type 0
StateSeen sc h s o x y (Ok _) = Answers sc (with_empty_hand h o x (ledger.with_statement y x.ledger)) (take_event sc s o) (reply.Stated y.device y.day y.count)
StateSeen sc h s o x y (Err why) = Answers sc (with_empty_hand h o x x.ledger) (take_event sc s o) (Refused (statement_refusal why))

pub shown_statement : (sc : SchemeValue) (h : Shape) (s : System) (o a : ℕ) (x : OwnerShape) (y : StatementValue) (judged : Result Unit StatementFault) → Shows sc h s → position_of_owner sc o ≡ Some a → h.owners o ≡ Some x → x.hand ≡ Some (item.Stated y) → state_judged x.ledger y ≡ judged → StateSeen sc h s o x y judged
shown_statement sc h s o a x y (Ok u) w at e f is = stated_one sc h s o a x y w at e f (is ∙ ap Ok (unit_is u))
  where
    unit_is : (u : Unit {0}) → u ≡ tt
    unit_is u = refl
shown_statement sc h s o a x y (Err why) w at e f is = refused_take sc h s o x (statement_refusal why) w e ((statement_goes sc h s o a x y w at e f).0 ∙ ap (take_statement s o y.device y.day) is)

-- CLOSE
close_known : (sc : SchemeValue) (s : System) (o d day a : ℕ) → position_of_owner sc o ≡ Some a → is_some (position_of_device sc d) ≡ true → close sc s o d day ≡ close_on sc s o d day
close_known sc s o d day a owner device = λ i. known (is_some (owner i)) (device i)
  where
    known : Bool → Bool → System × Reply
    known p q = if p then (if q then close_on sc s o d day else (s, Refused UnknownDevice)) else (s, Refused UnknownOwner)

pub shown_close_unknown_owner : (sc : SchemeValue) (h : Shape) (s : System) (o d day : ℕ) → Shows sc h s → position_of_owner sc o ≡ None → Answers sc h (close sc s o d day) (Refused UnknownOwner)
shown_close_unknown_owner sc h s o d day w none =
    let known : System × Reply = if knows_device sc d then close_on sc s o d day else (s, Refused UnknownDevice) in
    answers_by sc h (Refused UnknownOwner) (close sc s o d day) (s, Refused UnknownOwner) (ap (λ p. if is_some p then known else (s, Refused UnknownOwner)) none) refl w

pub shown_close_unknown : (sc : SchemeValue) (h : Shape) (s : System) (o d day a : ℕ) → Shows sc h s → position_of_owner sc o ≡ Some a → is_some (position_of_device sc d) ≡ false → Answers sc h (close sc s o d day) (Refused UnknownDevice)
shown_close_unknown sc h s o d day a w owner none = answers_by sc h (Refused UnknownDevice) (close sc s o d day) (s, Refused UnknownDevice) (λ i. if is_some (owner i) then (if none i then close_on sc s o d day else (s, Refused UnknownDevice)) else (s, Refused UnknownOwner)) refl w

-- the step judges as the ledger does
close_goes : (sc : SchemeValue) (h : Shape) (s : System) (o d day a : ℕ) (x : OwnerShape) → Shows sc h s → position_of_owner sc o ≡ Some a → is_some (position_of_device sc d) ≡ true → h.owners o ≡ Some x → close sc s o d day ≡ close_by s o d day (close_of x.ledger d day)
close_goes sc h s o d day a x w owner device e =
    close_known sc s o d day a owner device
    ∙ (λ i. close_by s o d day (close_judged (sym (p.stated d day) i) (sym (closed_there sc h s o d day x w e) i) (day == sym p.ledger.made.start i + sym (p.closed d) i) (day_count (sym (p.taken d) i) day) (sym (p.retired d) i)))
  where
    p : IsOwnerOf sc s.devices o (s.owners o) (s.lanes o) x
    p = owner_shown sc h s o x w e

-- what is seen after a close that was judged so
abbrev pub CloseSeen : SchemeValue → Shape → System → ℕ → ℕ → ℕ → OwnerShape → Result Unit CloseFault → Type 0
CloseSeen sc h s o d day x (Ok _) = Answers sc (record h { owners = put h.owners o (Some (record x { ledger = ledger.with_close d x.ledger })) }) (close sc s o d day) (Closed d day)
CloseSeen sc h s o d day x (Err why) = Answers sc h (close sc s o d day) (Refused (close_refusal why))

closed_one : (sc : SchemeValue) (h : Shape) (s : System) (o d day a : ℕ) (x : OwnerShape) → Shows sc h s → position_of_owner sc o ≡ Some a → h.owners o ≡ Some x → close sc s o d day ≡ (closed_day s o d, Closed d day) → CloseSeen sc h s o d day x (Ok tt)
closed_one sc h s o d day a x w owner e goes =
    answers_by sc (record h { owners = put h.owners o (Some new) }) (Closed d day) (close sc s o d day) (closed_day s o d, Closed d day) goes refl
    (shows_owner sc h s o s.owners (put2 s.lanes o d after) new w (subst (λ (y : System × Reply). IsSystem sc y.0) goes (moves_step sc s (event.Close o d day) w.system).system) (λ j apart. refl) (put_other s.lanes o (put (s.lanes o) d after))
    (put2_all (λ j i b. b.gone ≡ (s.lanes j i).gone) s.lanes o d after (λ j i. refl) refl)
    (subst (λ (q : ℕ → LaneState). IsOwnerOf sc s.devices o (s.owners o) q new) (sym (put_here s.lanes o (put (s.lanes o) d after)))
    (record {
      ledger = record { id = p.ledger.id; made = record { start = p.ledger.made.start; knows = p.ledger.made.knows } };
      taken = λ j. p.taken j ∙ put_all (λ i b. take (s.lanes o i).took (numbered_for s o i) ≡ take b.took (numbered_for s o i)) (s.lanes o) d after (λ i. refl) refl j;
      stated = λ j k. p.stated j k ∙ put_all (λ i b. count_of ((s.lanes o i).stated k) (numbered_for s o i) k ≡ count_of (b.stated k) (numbered_for s o i) k) (s.lanes o) d after (λ i. refl) refl j;
      closed = put_both (λ j (b : ℕ) q. b ≡ q.closed) x.ledger.closed (s.lanes o) d (x.ledger.closed d + 1) after p.closed (ap (λ n. n + 1) (p.closed d));
      retired = λ j. p.retired j ∙ put_all (λ i b. (s.lanes o i).retired ≡ b.retired) (s.lanes o) d after (λ i. refl) refl j;
      queue = p.queue;
      hand = p.hand;
      cursors = put_all (λ j b. (n : ℕ × ℕ) → IsSome (position_of_device sc j) → x.cursors j ≡ Some n → n ≡ (b.forward, b.from_day)) (s.lanes o) d after p.cursors (p.cursors d);
    })))
  where
    l : LaneState
    l = s.lanes o d

    after : LaneState
    after = record l { closed = l.closed + 1 }

    new : OwnerShape
    new = record x { ledger = ledger.with_close d x.ledger }

    p : IsOwnerOf sc s.devices o (s.owners o) (s.lanes o) x
    p = owner_shown sc h s o x w e

pub shown_close : (sc : SchemeValue) (h : Shape) (s : System) (o d day a : ℕ) (x : OwnerShape) (judged : Result Unit CloseFault) → Shows sc h s → position_of_owner sc o ≡ Some a → is_some (position_of_device sc d) ≡ true → h.owners o ≡ Some x → close_of x.ledger d day ≡ judged → CloseSeen sc h s o d day x judged
shown_close sc h s o d day a x (Ok u) w owner device e is = closed_one sc h s o d day a x w owner e (close_goes sc h s o d day a x w owner device e ∙ ap (close_by s o d day) is)
shown_close sc h s o d day a x (Err why) w owner device e is = answers_by sc h (Refused (close_refusal why)) (close sc s o d day) (s, Refused (close_refusal why)) (close_goes sc h s o d day a x w owner device e ∙ ap (close_by s o d day) is) refl w

-- RETIRE
pub shown_retire_unknown_owner : (sc : SchemeValue) (h : Shape) (s : System) (o d : ℕ) → Shows sc h s → position_of_owner sc o ≡ None → Answers sc h (retire sc s o d) (Refused UnknownOwner)
shown_retire_unknown_owner sc h s o d w none =
    let known : System × Reply = if knows_device sc d then retire_on s o d else (s, Refused UnknownDevice) in
    answers_by sc h (Refused UnknownOwner) (retire sc s o d) (s, Refused UnknownOwner) (ap (λ p. if is_some p then known else (s, Refused UnknownOwner)) none) refl w

pub shown_retire_unknown : (sc : SchemeValue) (h : Shape) (s : System) (o d a : ℕ) → Shows sc h s → position_of_owner sc o ≡ Some a → is_some (position_of_device sc d) ≡ false → Answers sc h (retire sc s o d) (Refused UnknownDevice)
shown_retire_unknown sc h s o d a w owner none = answers_by sc h (Refused UnknownDevice) (retire sc s o d) (s, Refused UnknownDevice) (λ i. if is_some (owner i) then (if none i then retire_on s o d else (s, Refused UnknownDevice)) else (s, Refused UnknownOwner)) refl w

-- where the owner and the device are registered
retire_known : (sc : SchemeValue) (h : Shape) (s : System) (o d a : ℕ) (x : OwnerShape) → Shows sc h s → position_of_owner sc o ≡ Some a → is_some (position_of_device sc d) ≡ true → h.owners o ≡ Some x → retire sc s o d ≡ (if x.ledger.retired d then (s, Refused Retired) else (retired_lane s o d, reply.Retired d))
retire_known sc h s o d a x w owner device e = λ i. known (is_some (owner i)) (device i) (sym ((owner_shown sc h s o x w e).retired d) i)
  where
    known : Bool → Bool → Bool → System × Reply
    known p q r = if p then (if q then (if r then (s, Refused Retired) else (retired_lane s o d, reply.Retired d)) else (s, Refused UnknownDevice)) else (s, Refused UnknownOwner)

-- a lane that is retired is refused
pub shown_retire_again : (sc : SchemeValue) (h : Shape) (s : System) (o d a : ℕ) (x : OwnerShape) → Shows sc h s → position_of_owner sc o ≡ Some a → is_some (position_of_device sc d) ≡ true → h.owners o ≡ Some x → x.ledger.retired d ≡ true → Answers sc h (retire sc s o d) (Refused Retired)
shown_retire_again sc h s o d a x w owner device e is =
    answers_by sc h (Refused Retired) (retire sc s o d) (s, Refused Retired) (retire_known sc h s o d a x w owner device e ∙ ap (λ b. if b then (s, Refused Retired) else (retired_lane s o d, reply.Retired d)) is) refl w

-- and one that isn't, is retired
pub shown_retire : (sc : SchemeValue) (h : Shape) (s : System) (o d a : ℕ) (x : OwnerShape) → Shows sc h s → position_of_owner sc o ≡ Some a → is_some (position_of_device sc d) ≡ true → h.owners o ≡ Some x → x.ledger.retired d ≡ false
    → Answers sc (record h { owners = put h.owners o (Some (record x { ledger = ledger.with_retired d x.ledger })) }) (retire sc s o d) (reply.Retired d)
shown_retire sc h s o d a x w owner device e works =
    answers_by sc (record h { owners = put h.owners o (Some new) }) (reply.Retired d) (retire sc s o d) (retired_lane s o d, reply.Retired d) goes refl
    (shows_owner sc h s o s.owners (put2 s.lanes o d after) new w (subst (λ (y : System × Reply). IsSystem sc y.0) goes (moves_step sc s (event.Retire o d) w.system).system) (λ j apart. refl) (put_other s.lanes o (put (s.lanes o) d after))
    (put2_all (λ j i b. b.gone ≡ (s.lanes j i).gone) s.lanes o d after (λ j i. refl) refl)
    (subst (λ (q : ℕ → LaneState). IsOwnerOf sc s.devices o (s.owners o) q new) (sym (put_here s.lanes o (put (s.lanes o) d after)))
    (record {
      ledger = record { id = p.ledger.id; made = record { start = p.ledger.made.start; knows = p.ledger.made.knows } };
      taken = λ j. p.taken j ∙ put_all (λ i b. take (s.lanes o i).took (numbered_for s o i) ≡ take b.took (numbered_for s o i)) (s.lanes o) d after (λ i. refl) refl j;
      stated = λ j k. p.stated j k ∙ put_all (λ i b. count_of ((s.lanes o i).stated k) (numbered_for s o i) k ≡ count_of (b.stated k) (numbered_for s o i) k) (s.lanes o) d after (λ i. refl) refl j;
      closed = λ j. p.closed j ∙ put_all (λ i b. (s.lanes o i).closed ≡ b.closed) (s.lanes o) d after (λ i. refl) refl j;
      retired = put_both (λ j (b : Bool) q. b ≡ q.retired) x.ledger.retired (s.lanes o) d true after p.retired refl;
      queue = p.queue;
      hand = p.hand;
      cursors = put_all (λ j b. (n : ℕ × ℕ) → IsSome (position_of_device sc j) → x.cursors j ≡ Some n → n ≡ (b.forward, b.from_day)) (s.lanes o) d after p.cursors (p.cursors d);
    })))
  where
    after : LaneState
    after = record (s.lanes o d) { retired = true }

    new : OwnerShape
    new = record x { ledger = ledger.with_retired d x.ledger }

    p : IsOwnerOf sc s.devices o (s.owners o) (s.lanes o) x
    p = owner_shown sc h s o x w e

    goes : retire sc s o d ≡ (retired_lane s o d, reply.Retired d)
    goes = retire_known sc h s o d a x w owner device e ∙ ap (λ b. if b then (s, Refused Retired) else (retired_lane s o d, reply.Retired d)) works

-- what is seen after a retire that was judged so
abbrev pub RetireSeen : SchemeValue → Shape → System → ℕ → ℕ → OwnerShape → Result Unit RetireFault → Type 0
RetireSeen sc h s o d x (Ok _) = Answers sc (record h { owners = put h.owners o (Some (record x { ledger = ledger.with_retired d x.ledger })) }) (retire sc s o d) (reply.Retired d)
RetireSeen sc h s o d x (Err why) = Answers sc h (retire sc s o d) (Refused (retire_refusal why))

-- a lane that the ledger knows is refused only where it is retired
retire_parts : (known retired : Bool) (judged : Result Unit RetireFault) → known ≡ true → retire_judged known retired ≡ judged → ((judged ≡ Ok tt) × (retired ≡ false)) ⊎ ((judged ≡ Err retiring.Retired) × (retired ≡ true))
retire_parts true true judged is judges = inr (sym judges, refl)
retire_parts true false judged is judges = inl (sym judges, refl)
retire_parts false retired judged is judges =
    let both : false ≡ true = is in
    absurd (cc)

shown_retiring : (sc : SchemeValue) (h : Shape) (s : System) (o d a : ℕ) (x : OwnerShape) (judged : Result Unit RetireFault) → Shows sc h s → position_of_owner sc o ≡ Some a → is_some (position_of_device sc d) ≡ true → h.owners o ≡ Some x → retire_of x.ledger d ≡ judged → RetireSeen sc h s o d x judged
shown_retiring sc h s o d a x judged w owner device e is =
    elim (retire_parts (x.ledger.knows d) (x.ledger.retired d) judged ((owner_shown sc h s o x w e).ledger.made.knows d ∙ device) is) [
      | inl goes ↦ subst (RetireSeen sc h s o d x) (sym goes.0) (shown_retire sc h s o d a x w owner device e goes.1)
      | inr again ↦ subst (RetireSeen sc h s o d x) (sym again.0) (shown_retire_again sc h s o d a x w owner device e again.1)
    ]

-- COUNT
pub shown_count : (sc : SchemeValue) (h : Shape) (s : System) (o d a : ℕ) (x : OwnerShape) (n : ℕ) → Shows sc h s → position_of_owner sc o ≡ Some a → is_some (position_of_device sc d) ≡ true → h.owners o ≡ Some x → n ≡ length (x.ledger.taken d) → Answers sc h (count sc s o d) (Count n)
shown_count sc h s o d a x n w owner device e counted = answers_by sc h (Count n) (count sc s o d) (s, Count (s.lanes o d).took) (λ i. known (is_some (owner i)) (device i)) (ap Count (counted ∙ taken_count sc h s o d x w e)) w
  where
    known : Bool → Bool → System × Reply
    known p q = if p then (if q then (s, Count (s.lanes o d).took) else (s, Refused UnknownDevice)) else (s, Refused UnknownOwner)

pub shown_count_unknown_owner : (sc : SchemeValue) (h : Shape) (s : System) (o d : ℕ) → Shows sc h s → position_of_owner sc o ≡ None → Answers sc h (count sc s o d) (Refused UnknownOwner)
shown_count_unknown_owner sc h s o d w none =
    let known : System × Reply = if knows_device sc d then (s, Count (s.lanes o d).took) else (s, Refused UnknownDevice) in
    answers_by sc h (Refused UnknownOwner) (count sc s o d) (s, Refused UnknownOwner) (ap (λ p. if is_some p then known else (s, Refused UnknownOwner)) none) refl w

pub shown_count_unknown : (sc : SchemeValue) (h : Shape) (s : System) (o d a : ℕ) → Shows sc h s → position_of_owner sc o ≡ Some a → is_some (position_of_device sc d) ≡ false → Answers sc h (count sc s o d) (Refused UnknownDevice)
shown_count_unknown sc h s o d a w owner none = answers_by sc h (Refused UnknownDevice) (count sc s o d) (s, Refused UnknownDevice) (λ i. if is_some (owner i) then (if none i then (s, Count (s.lanes o d).took) else (s, Refused UnknownDevice)) else (s, Refused UnknownOwner)) refl w

-- PRUNE
pub shown_prune_unknown_owner : (sc : SchemeValue) (h : Shape) (s : System) (o d : ℕ) → Shows sc h s → position_of_owner sc o ≡ None → Answers sc h (prune sc s o d) (Refused UnknownOwner)
shown_prune_unknown_owner sc h s o d w none =
    let known : System × Reply = if knows_device sc d then (pruned s o d, Pruned ((s.lanes o d).took - (s.lanes o d).gone)) else (s, Refused UnknownDevice) in
    answers_by sc h (Refused UnknownOwner) (prune sc s o d) (s, Refused UnknownOwner) (ap (λ p. if is_some p then known else (s, Refused UnknownOwner)) none) refl w

pub shown_prune_unknown : (sc : SchemeValue) (h : Shape) (s : System) (o d a : ℕ) → Shows sc h s → position_of_owner sc o ≡ Some a → is_some (position_of_device sc d) ≡ false → Answers sc h (prune sc s o d) (Refused UnknownDevice)
shown_prune_unknown sc h s o d a w owner none = answers_by sc h (Refused UnknownDevice) (prune sc s o d) (s, Refused UnknownDevice) (λ i. if is_some (owner i) then (if none i then (pruned s o d, Pruned ((s.lanes o d).took - (s.lanes o d).gone)) else (s, Refused UnknownDevice)) else (s, Refused UnknownOwner)) refl w

prune_known : (sc : SchemeValue) (s : System) (o d a : ℕ) → position_of_owner sc o ≡ Some a → is_some (position_of_device sc d) ≡ true → prune sc s o d ≡ (pruned s o d, Pruned ((s.lanes o d).took - (s.lanes o d).gone))
prune_known sc s o d a owner device = λ i. known (is_some (owner i)) (device i)
  where
    known : Bool → Bool → System × Reply
    known p q = if p then (if q then (pruned s o d, Pruned ((s.lanes o d).took - (s.lanes o d).gone)) else (s, Refused UnknownDevice)) else (s, Refused UnknownOwner)

pub shown_prune : (sc : SchemeValue) (h : Shape) (s : System) (o d a : ℕ) (x : OwnerShape) (n : ℕ) → Shows sc h s → position_of_owner sc o ≡ Some a → is_some (position_of_device sc d) ≡ true → h.owners o ≡ Some x → n ≡ length (x.ledger.taken d)
    → Answers sc (record h { outbox = outbox.pruned o d n h.outbox }) (prune sc s o d) (Pruned (rows_upto n (h.outbox.rows o d)))
shown_prune sc h s o d a x n w owner device e counted =
    answers_by sc (record h { outbox = outbox.pruned o d n h.outbox }) (Pruned (rows_upto n (h.outbox.rows o d))) (prune sc s o d) (pruned s o d, Pruned (l.took - l.gone)) (prune_known sc s o d a owner device) (ap Pruned many)
    (record {
      system = subst (λ (y : System × Reply). IsSystem sc y.0) (prune_known sc s o d a owner device) (moves_step sc s (event.Prune o d) w.system).system;
      devices = w.devices;
      stations = w.stations;
      air = w.air;
      inbox = w.inbox;
      hand = w.hand;
      upto = w.upto;
      rows = put_both (λ p (f : ℕ → ℕ → Option RecordValue) (lanes : ℕ → LaneState). (j k : ℕ) → f j k ≡ row_at (lanes j).gone (arrived_of p (s.devices j)) k) h.outbox.rows s.lanes o _ _ w.rows
          (put_both (λ j (f : ℕ → Option RecordValue) (b : LaneState). (k : ℕ) → f k ≡ row_at b.gone (arrived_of o (s.devices j)) k) (h.outbox.rows o) (s.lanes o) d (behind n (h.outbox.rows o d)) after (w.rows o) left);
      row_count = (λ i. w.row_count i - many i);
      stated = w.stated;
      stated_count = w.stated_count;
      owners = λ p. IfSome-weaken (IsOwnerOf sc s.devices p (s.owners p) (s.lanes p)) (IsOwnerOf sc s.devices p (s.owners p) (put2 s.lanes o d after p)) (kept p) (h.owners p) (w.owners p);
    })
  where
    l : LaneState
    l = s.lanes o d

    after : LaneState
    after = record l { gone = l.took }

    is : n ≡ l.took
    is = counted ∙ taken_count sc h s o d x w e

    within : l.took ≤ length (arrived_of o (s.devices d))
    within = took_arrived sc s o d w.system

    many : rows_upto n (h.outbox.rows o d) ≡ l.took - l.gone
    many = (λ i. rows_upto n (λ k. w.rows o d k i)) ∙ rows_pruned l.gone (arrived_of o (s.devices d)) n (omega (arith, is, within)) ∙ ap (λ m. m - l.gone) is

    left : (k : ℕ) → behind n (h.outbox.rows o d) k ≡ row_at l.took (arrived_of o (s.devices d)) k
    left k = (λ i. behind n (λ j. w.rows o d j i) k) ∙ row_pruned l.gone n (arrived_of o (s.devices d)) k (omega (arith, is, (w.system.lanes o d).gone)) ∙ ap (λ m. row_at m (arrived_of o (s.devices d)) k) is

    kept : (p : ℕ) (y : OwnerShape) → IsOwnerOf sc s.devices p (s.owners p) (s.lanes p) y → IsOwnerOf sc s.devices p (s.owners p) (put2 s.lanes o d after p) y
    kept p y q = record {
      ledger = q.ledger;
      taken = λ j. q.taken j ∙ ap (λ m. take m (part p (s.devices j).taps)) (sym (put2_all (λ v e b. b.took ≡ (s.lanes v e).took) s.lanes o d after (λ v e. refl) refl p j));
      stated = λ j day. q.stated j day ∙ ap (λ (g : ℕ → Bool). count_of (g day) (part p (s.devices j).taps) day) (sym (put2_all (λ v e b. b.stated ≡ (s.lanes v e).stated) s.lanes o d after (λ v e. refl) refl p j));
      closed = λ j. q.closed j ∙ sym (put2_all (λ v e b. b.closed ≡ (s.lanes v e).closed) s.lanes o d after (λ v e. refl) refl p j);
      retired = λ j. q.retired j ∙ sym (put2_all (λ v e b. b.retired ≡ (s.lanes v e).retired) s.lanes o d after (λ v e. refl) refl p j);
      queue = q.queue;
      hand = q.hand;
      cursors = λ j m known f. q.cursors j m known f ∙ sym (put2_all (λ v e b. ◌≡◌ {A = ℕ × ℕ} (b.forward, b.from_day) ((s.lanes v e).forward, (s.lanes v e).from_day)) s.lanes o d after (λ v e. refl) refl p j);
    }

-- THE CODE'S TABLES
-- an owner that the code read
pub owner_read : (w : Seen) (o a : ℕ) (y : OwnerShape) → position_of_owner w.scheme o ≡ Some a → a < length w.owners → y ≡ get_or w.owners a y → (shape w).owners o ≡ Some y
owner_read w o a y at within e = ap (λ p. entry p w.owners) at ∙ slice_get_read w.owners (length w.owners) a y refl within e

-- and wrote
pub owner_write : (w : Seen) (o a : ℕ) (y : OwnerShape) → position_of_owner w.scheme o ≡ Some a → a < length w.owners → (λ j. entry (position_of_owner w.scheme j) (set w.owners a y)) ≡ put (shape w).owners o (Some y)
owner_write w o a y at within = λ i j. entry-set (position_of_owner w.scheme) (owners_apart w.scheme) w.owners o a y at within j i

-- what is seen where the code wrote an owner
pub owner_written : (w : Seen) (o a : ℕ) (new : OwnerShape) (x : OwnerShape) (y : System × Reply) (r : Reply) → position_of_owner w.scheme o ≡ Some a → a < length w.owners → new ≡ x → Answers w.scheme (record (shape w) { owners = put (shape w).owners o (Some x) }) y r
    → Answers w.scheme (record (shape w) { owners = λ j. entry (position_of_owner w.scheme j) (set w.owners a new) }) y r
owner_written w o a new x y r at within is =
    subst (λ f. Answers w.scheme (record (shape w) { owners = f }) y r) (ap (λ z. put (shape w).owners o (Some z)) (sym is) ∙ sym (owner_write w o a new at within))

-- and where it wrote one that means what it meant
pub owner_kept : (w : Seen) (o a : ℕ) (old new : OwnerShape) → position_of_owner w.scheme o ≡ Some a → a < length w.owners → old ≡ get_or w.owners a old → new ≡ old
    → (λ j. entry (position_of_owner w.scheme j) (set w.owners a new)) ≡ (shape w).owners
owner_kept w o a old new at within read same =
    owner_write w o a new at within ∙ ap (λ z. put (shape w).owners o (Some z)) same
    ∙ (λ i j. put_all (λ e b. b ≡ (shape w).owners e) (shape w).owners o (Some old) (λ e. refl) (sym (owner_read w o a old at within read)) j i)

-- two reads of one owner
pub same_owner : (w : Seen) (a : ℕ) (x y : OwnerShape) → a < length w.owners → x ≡ get_or w.owners a x → y ≡ get_or w.owners a y → x ≡ y
same_owner w a x y within e f = same_Some x y (sym (slice_get_read w.owners (length w.owners) a x refl within e) ∙ slice_get_read w.owners (length w.owners) a y refl within f)

-- an owner with an item more in its queue, past which the cursor went
pub world_forwarded : (w : Seen) (s : System) (o d a k : ℕ) (y new : OwnerShape) (x : Item) (c : ℕ × ℕ) (r : Reply) → Shows w.scheme (shape w) s → position_of_owner w.scheme o ≡ Some a → position_of_device w.scheme d ≡ Some k → a < length w.owners → y ≡ get_or w.owners a y → y.cursors d ≡ Some c → (s.lanes o d).retired ≡ false → Both (IsRoutedOf s.devices o) (next_routed s o d) (Some x) → length y.queue < lane_room w.scheme o
    → new ≡ record y { queue = y.queue ++ x ∷ []; cursors = put y.cursors d (Some (cursor_past c x)) } → r ≡ forwarded_item x
    → Answers w.scheme (record (shape w) { owners = λ j. entry (position_of_owner w.scheme j) (set w.owners a new) }) (forward w.scheme s o d) r
world_forwarded w s o d a k y new x c r sh owner device within read cursor works next room seen same =
    owner_written w o a new (record y { queue = y.queue ++ x ∷ []; cursors = put y.cursors d (Some (cursor_past c x)) }) (forward w.scheme s o d) r owner within seen
    (subst (Answers w.scheme (record (shape w) { owners = put (shape w).owners o (Some (record y { queue = y.queue ++ x ∷ []; cursors = put y.cursors d (Some (cursor_past c x)) })) }) (forward w.scheme s o d)) (sym same)
    (shown_forward w.scheme (shape w) s o d a k y x c sh owner device (owner_read w o a y owner within read) cursor works next room))

pub world_fetched : (w : Seen) (s : System) (o a : ℕ) (y new : OwnerShape) (x : Item) (r : Reply) → Shows w.scheme (shape w) s → position_of_owner w.scheme o ≡ Some a → a < length w.owners → y ≡ get_or w.owners a y → y.hand ≡ None → y.queue ≡ x ∷ new.queue → new.ledger ≡ y.ledger → new.hand ≡ Some x → new.cursors ≡ y.cursors → r ≡ fetched_item x
    → Answers w.scheme (record (shape w) { owners = λ j. entry (position_of_owner w.scheme j) (set w.owners a new) }) (fetch w.scheme s o) r
world_fetched w s o a y new x r sh owner within read empty front ledger hand cursors same =
    owner_written w o a new (record y { queue = new.queue; hand = Some x }) (fetch w.scheme s o) r owner within
    (λ i. record { ledger = ledger i; queue = new.queue; hand = hand i; cursors = cursors i })
    (subst (Answers w.scheme (record (shape w) { owners = put (shape w).owners o (Some (record y { queue = new.queue; hand = Some x })) }) (fetch w.scheme s o)) (sym same)
    (shown_fetch w.scheme (shape w) s o a y x new.queue sh owner (owner_read w o a y owner within read) empty front))

-- a take that was judged so
pub world_take : (w : Seen) (s : System) (o a : ℕ) (y : OwnerShape) (r : RecordValue) (judged : Result Unit TapFault) → Shows w.scheme (shape w) s → position_of_owner w.scheme o ≡ Some a → a < length w.owners → y ≡ get_or w.owners a y → y.hand ≡ Some (item.Tap r) → take_judged y.ledger r ≡ judged → TakeSeen w.scheme (shape w) s o y r judged
world_take w s o a y r judged sh owner within read held is = shown_take w.scheme (shape w) s o a y r judged sh owner (owner_read w o a y owner within read) held is

pub world_statement : (w : Seen) (s : System) (o a : ℕ) (y : OwnerShape) (x : StatementValue) (judged : Result Unit StatementFault) → Shows w.scheme (shape w) s → position_of_owner w.scheme o ≡ Some a → a < length w.owners → y ≡ get_or w.owners a y → y.hand ≡ Some (item.Stated x) → state_judged y.ledger x ≡ judged → StateSeen w.scheme (shape w) s o y x judged
world_statement w s o a y x judged sh owner within read held is = shown_statement w.scheme (shape w) s o a y x judged sh owner (owner_read w o a y owner within read) held is

-- a close that was judged so
pub world_close : (w : Seen) (s : System) (o d day a : ℕ) (y : OwnerShape) (judged : Result Unit CloseFault) → Shows w.scheme (shape w) s → position_of_owner w.scheme o ≡ Some a → is_some (position_of_device w.scheme d) ≡ true → a < length w.owners → y ≡ get_or w.owners a y → close_of y.ledger d day ≡ judged → CloseSeen w.scheme (shape w) s o d day y judged
world_close w s o d day a y judged sh owner device within read is = shown_close w.scheme (shape w) s o d day a y judged sh owner device (owner_read w o a y owner within read) is

-- a retire that was judged so
pub world_retire : (w : Seen) (s : System) (o d a : ℕ) (y : OwnerShape) (judged : Result Unit RetireFault) → Shows w.scheme (shape w) s → position_of_owner w.scheme o ≡ Some a → is_some (position_of_device w.scheme d) ≡ true → a < length w.owners → y ≡ get_or w.owners a y → retire_of y.ledger d ≡ judged → RetireSeen w.scheme (shape w) s o d y judged
world_retire w s o d a y judged sh owner device within read is = shown_retiring w.scheme (shape w) s o d a y judged sh owner device (owner_read w o a y owner within read) is
