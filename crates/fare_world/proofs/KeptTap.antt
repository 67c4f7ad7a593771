-- A tap that gets a device's next numbers, and a turn of its open day, lead to a system.
use Rattle.std.proofs.Common.{◌≡◌, ℕ, ◌+◌, ◌<◌, ◌≤◌, List, [], ◌∷◌, ◌++◌, length, take, Some, None, true, false, refl, sym, ap, ◌∙◌, subst, arith, inl, inr}
use Rattle.std.specs.Prelude.{◌==◌, slice_get, unwrap_or, Option, is_some, nat_le, nat_lt, ◌⊎◌, IsSome, Bool}
use Rattle.std.proofs.lemmas.List.{take-append-le, append-nil, length_push}
use Rattle.std.proofs.lemmas.Option.{slice_get_within}
use Rattle.std.proofs.Math.Seq.{take-length}
use Rattle.std.proofs.lemmas.Bool.Decides.{nat_tests}
use Rattle.fare_record.specs.Values.{RecordValue}
use Rattle.fare_record.specs.Lanes.{part, of_device, day_count}
use Rattle.fare_scheme.specs.Values.{SchemeValue}
use Rattle.fare_scheme.specs.Words.{owner_of, station_of}
use Rattle.fare_event.specs.declared.event.Event.{Event}
use Rattle.fare_event.specs.declared.event.Event.TheVariants as event
use Rattle.fare_event.specs.declared.reply.Refusal.TheVariants.{UnknownDevice, BadMoment, UnknownProduct, DayClosed, DayAhead, NumbersSpent, BufferFull, LastDay, StatementsFull}
use Rattle.fare_event.specs.declared.reply.Reply.TheVariants.{Refused, Recorded, Opened}
use Rattle.fare_store.specs.Tables.{put}
use Rattle.fare_world.specs.System.{DeviceState, System, day_of, numbered_for, arrived_of}
use Rattle.fare_side.specs.OpenDays.{is_closed}
use Rattle.fare_world.specs.Knowing.{knows_device}
use Rattle.fare_world.specs.Storing.{are_all_held}
use Rattle.fare_world.specs.Tapping.{is_waiting, next_record, with_tap, room_of, waiting_count, tap_for, tap_on, tap, turned, turn}
use Rattle.fare_world.specs.Headline.{record_of, numbered_by, with_first, Lane, IsLaneStep, lane_at}
use Rattle.fare_world.specs.Kept.{IsNumbered, IsDated, IsTurned, IsDevice, IsStatement, pending, lane_numbers, IsLane, IsSystem}
use Rattle.fare_world.proofs.Known.{station_where_placed}
use Rattle.fare_world.proofs.Places.{slice_get-push_cases}
use Rattle.fare_world.proofs.Lists.{AllByRecursion-weaken, AllByRecursion-push, part-push, take-part-push}
use Rattle.fare_world.proofs.Waiting.{waits_more, waits_last}
use Rattle.fare_store.proofs.Entries.{is_one, if_all, above, not_below, put_all, put_apart}
use Rattle.fare_world.proofs.Lanes.{day_count-other}
use Rattle.fare_world.proofs.Orderly.{orderly}
use Rattle.fare_world.proofs.KeptParts.{took_numbered, statement_grows, turned_grows, parts_grow, device_changes}
use Rattle.fare_world.proofs.Told.{untold}
use Rattle.fare_world.proofs.KeptMoves.{Moves, stays}

-- a tap at the end of the numbered ones
numbered_push : (sc : SchemeValue) (d : ℕ) (taps : List RecordValue) (r : RecordValue) → ((k : ℕ) (x : RecordValue) → slice_get taps k ≡ Some x → IsNumbered sc d taps k x) → IsNumbered sc d taps (length taps) r → (k : ℕ) (x : RecordValue) → slice_get (taps ++ r ∷ []) k ≡ Some x → IsNumbered sc d (taps ++ r ∷ []) k x
numbered_push sc d taps r h new k x e =
    elim (slice_get-push_cases taps r k x e) [
      | inl p ↦ earlier p (h k x p)
      | inr p ↦ last p.0 p.1
    ]
  where
    earlier : slice_get taps k ≡ Some x → IsNumbered sc d taps k x → IsNumbered sc d (taps ++ r ∷ []) k x
    earlier at was =
        let lt = slice_get_within taps k x at in
        record { of_device = was.of_device; link = was.link; lane = was.lane ∙ ap (λ l. length (part x.owner l) + 1) (sym (take-append-le k taps (r ∷ []) (omega arith))); owned = was.owned }

    last : k ≡ length taps → r ≡ x → IsNumbered sc d (taps ++ r ∷ []) k x
    last at same =
        let is : IsNumbered sc d (taps ++ r ∷ []) (length taps) r = record { of_device = new.of_device; link = new.link; lane = new.lane ∙ ap (λ l. length (part r.owner l) + 1) (sym (take-append-le (length taps) taps (r ∷ []) (omega arith))); owned = new.owned } in
        subst (λ q. IsNumbered sc d (taps ++ r ∷ []) q x) (sym at) (subst (IsNumbered sc d (taps ++ r ∷ []) (length taps)) same is)

-- a registered device has a station
has_station : (sc : SchemeValue) (d : ℕ) → knows_device sc d ≡ true → station_of sc d ≡ None → ⊥
has_station sc d knows none =
    let both : true ≡ false = sym knows ∙ station_where_placed sc d ∙ ap is_some none in
    absurd (cc)

-- a tap of the open day that gets the device's next numbers
numbers : (sc : SchemeValue) (s : System) (d o p t m day : ℕ) (route : Option ℕ) → IsSystem sc s → knows_device sc d ≡ true → owner_of sc p ≡ Some o → day_of sc m ≡ Some day → day ≡ (s.devices d).day → length (s.devices d).taps < 1099511627775
    → Moves sc s (event.Tap d p route t m) (with_tap s d (next_record s d o (record { product = p; token = t; moment = m; day = day; route = unwrap_or route 0 })), Recorded (length (s.devices d).taps + 1) (length (numbered_for s o d) + 1))
numbers sc s d o p t m day route h knows owned dated current lt = record {
  system = parts_grow sc s (put s.devices d new) s.held h
      (record {
        taps = put_all (λ j a. length (s.devices j).taps ≤ length a.taps) s.devices d new (λ j. omega arith) (omega (arith, longer));
        arrived = λ q. put_all (λ j a. length (arrived_of q (s.devices j)) ≤ length (arrived_of q a)) s.devices d new (λ j. omega arith) (omega (arith, same_arrived q));
        upto = put_all (λ j a. (s.devices j).upto ≤ a.upto) s.devices d new (λ j. omega arith) (omega arith);
        day = same_day;
        held = λ q e k is. is;
      })
      (put_all (IsDevice sc) s.devices d new h.devices numbered_device)
      (λ q e k holds. statement_grows sc s.devices (put s.devices d new) same_day e k q (h.held q e k holds))
      (λ q. put_all (λ e a. IsLane sc.start (part q a.taps) (length (arrived_of q a)) (s.held q e) (lane_numbers e (pending (s.owners q))) (s.lanes q e)) s.devices d new (h.lanes q) (lane_here q));
  lane = λ q. put_all (λ e a. IsLaneStep sc.start (lane_at sc s q e) (side q e a)) s.devices d new (λ e. inr (inr (inr (inr (inr refl))))) (here q);
  taps = λ e. added e ∙ sym (ap (λ x. (s.devices e).taps ++ of_device e (with_first x [])) named);
  told = λ p j. untold sc.start (s.lanes p j);
  orderly = orderly (event.Tap d p route t m) (Recorded (length v.taps + 1) (length (numbered_for s o d) + 1)) refl;
  days = λ kept. put_all (λ e a. (k : ℕ) → IsSome (station_of sc e) → IsTurned sc.start a.day k → (is_waiting a.waiting k ≡ true) ⊎ (are_all_held sc s.held e k ≡ true)) s.devices d new kept (kept d);
}
  where
    v : DeviceState
    v = s.devices d

    is : IsDevice sc d v
    is = h.devices d

    r : RecordValue
    r = next_record s d o (record { product = p; token = t; moment = m; day = day; route = unwrap_or route 0 })

    new : DeviceState
    new = record v { taps = v.taps ++ r ∷ [] }

    longer : length (v.taps ++ r ∷ []) ≡ length v.taps + 1
    longer = length_push v.taps r

    numbered_device : IsDevice sc d new
    numbered_device = record {
      base = is.base;
      cursor = omega (arith, is.cursor, longer);
      stored = is.stored;
      upto = omega (arith, is.upto, longer);
      first = is.first;
      next = omega (arith, is.next, longer);
      few = omega (arith, longer);
      numbered = numbered_push sc d v.taps r is.numbered (record { of_device = refl; link = refl; lane = ap (λ l. length (part o l) + 1) (sym (take-length v.taps)); owned = owned });
      known = λ none. absurd (has_station sc d knows none);
      days = record { first = is.days.first; last = is.days.last; dated = AllByRecursion-push (IsDated sc.start v.day) v.taps r is.days.dated (record { first = omega (arith, is.days.first, current); last = omega (arith, current) }); waiting = is.days.waiting; few = is.days.few };
    }

    same_arrived : (q : ℕ) → length (arrived_of q new) ≡ length (arrived_of q v)
    same_arrived q = ap (λ l. length (part q l)) (take-append-le v.upto v.taps (r ∷ []) is.upto)

    same_day : (e : ℕ) → (s.devices e).day ≤ (put s.devices d new e).day
    same_day = put_all (λ j a. (s.devices j).day ≤ a.day) s.devices d new (λ j. omega arith) (omega arith)

    -- the tap is of none of the days that were turned
    uncounted : (q k : ℕ) → IsStatement sc s.devices d k q → day_count (part q (v.taps ++ r ∷ [])) k ≡ day_count (part q v.taps) k
    uncounted q k of =
        if_all (r.owner == q) (λ l. (part q (v.taps ++ r ∷ []) ≡ l) → day_count (part q (v.taps ++ r ∷ [])) k ≡ day_count (part q v.taps) k) (part q v.taps ++ r ∷ []) (part q v.taps)
        (λ _ e. ap (λ l. day_count l k) e ∙ day_count-other (part q v.taps) r k (λ same. omega (arith, same, current, of.turned.past)))
        (λ _ e. ap (λ l. day_count l k) e)
        (part-push q v.taps r)

    -- what the device numbered for an owner has the counts of its closed days
    lane_here : (q : ℕ) → IsLane sc.start (part q (v.taps ++ r ∷ [])) (length (arrived_of q new)) (s.held q d) (lane_numbers d (pending (s.owners q))) (s.lanes q d)
    lane_here q =
        let l = h.lanes q d in
        record {
          gone = l.gone;
          took = l.took;
          run = l.run;
          forward = omega (arith, l.forward, same_arrived q);
          stated = l.stated;
          closed = l.closed;
          counted = λ k closed. ap (λ x. day_count x k) (take-part-push (s.lanes q d).took q v.taps r (took_numbered sc s q d h)) ∙ l.counted k closed ∙ sym (uncounted q k (h.held q d k (l.stated k (l.closed k closed))));
        }

    side : ℕ → ℕ → DeviceState → Lane
    side q e a = record { numbered = part q a.taps; taken = take (s.lanes q e).took (part q a.taps); closed = is_closed sc.start (s.lanes q e).closed; day = a.day; retired = (s.lanes q e).retired }

    named : numbered_by sc (event.Tap d p route t m) (Recorded (length v.taps + 1) (length (numbered_for s o d) + 1)) ≡ Some r
    named = λ i. record_of d p t m (unwrap_or route 0) (length v.taps + 1) (length (numbered_for s o d) + 1) (owned i) (dated i)

    added : (e : ℕ) → (put s.devices d new e).taps ≡ (s.devices e).taps ++ of_device e (r ∷ [])
    added = put_apart (λ e a. a.taps ≡ (s.devices e).taps ++ of_device e (r ∷ [])) s.devices d new (λ e apart. grind (arith, nat_tests, append-nil (s.devices e).taps)) (grind (arith, nat_tests))

    here : (q : ℕ) → IsLaneStep sc.start (lane_at sc s q d) (side q d new)
    here q =
        let kept = take-part-push (s.lanes q d).took q v.taps r (took_numbered sc s q d h) in
        if_all (r.owner == q) (λ l. (part q (v.taps ++ r ∷ []) ≡ l) → IsLaneStep sc.start (lane_at sc s q d) (side q d new)) (part q v.taps ++ r ∷ []) (part q v.taps)
        (λ _ e. inl (record { tap = r; of_day = current; is = λ i. record { numbered = e i; taken = kept i; closed = is_closed sc.start (s.lanes q d).closed; day = v.day; retired = (s.lanes q d).retired } }))
        (λ _ e. inr (inr (inr (inr (inr (λ i. record { numbered = e i; taken = kept i; closed = is_closed sc.start (s.lanes q d).closed; day = v.day; retired = (s.lanes q d).retired }))))))
        (part-push q v.taps r)

pub moves_tap : (sc : SchemeValue) (s : System) (d p t m : ℕ) (route : Option ℕ) → IsSystem sc s → Moves sc s (event.Tap d p route t m) (tap sc s d p t m (unwrap_or route 0))
moves_tap sc s d p t m route h = if_all (knows_device sc d) (Moves sc s e) (tap_on sc s d p t m (unwrap_or route 0) (day_of sc m)) (s, Refused UnknownDevice) (λ knows. on knows (day_of sc m) refl) (λ _. stays sc s e (Refused UnknownDevice) refl refl h)
  where
    e : Event
    e = event.Tap d p route t m

    of_owner : (day : ℕ) → knows_device sc d ≡ true → day_of sc m ≡ Some day → (o : Option ℕ) → owner_of sc p ≡ o → Moves sc s e (tap_for s d (room_of sc d) (record { product = p; token = t; moment = m; day = day; route = unwrap_or route 0 }) o)
    of_owner day knows dated None owned = stays sc s e (Refused UnknownProduct) refl refl h
    of_owner day knows dated (Some o) owned =
        if_all (nat_lt day (s.devices d).day) (Moves sc s e) _ _ (λ _. stays sc s e (Refused DayClosed) refl refl h)
        (λ a. if_all (nat_lt (s.devices d).day day) (Moves sc s e) _ _ (λ _. stays sc s e (Refused DayAhead) refl refl h)
        (λ b. if_all (nat_le 1099511627775 (length (s.devices d).taps)) (Moves sc s e) _ _ (λ _. stays sc s e (Refused NumbersSpent) refl refl h)
        (λ c. if_all (nat_le (room_of sc d) (waiting_count s d)) (Moves sc s e) _ _ (λ _. stays sc s e (Refused BufferFull) refl refl h)
        (λ _. numbers sc s d o p t m day route h knows owned dated (omega (arith, not_below _ _ a, not_below _ _ b)) (above _ _ c)))))

    on : knows_device sc d ≡ true → (o : Option ℕ) → day_of sc m ≡ o → Moves sc s e (tap_on sc s d p t m (unwrap_or route 0) o)
    on knows None dated = stays sc s e (Refused BadMoment) refl refl h
    on knows (Some day) dated = of_owner day knows dated (owner_of sc p) refl

-- TURN
pub moves_turn : (sc : SchemeValue) (s : System) (d : ℕ) → IsSystem sc s → Moves sc s (event.Turn d) (turn sc s d)
moves_turn sc s d h =
    if_all (knows_device sc d) (Moves sc s e) _ _
    (λ _. if_all (nat_le 100000 v.day) (Moves sc s e) _ _ (λ _. stays sc s e (Refused LastDay) refl refl h)
    (λ early. if_all (nat_le 8 (length v.waiting)) (Moves sc s e) _ _ (λ _. stays sc s e (Refused StatementsFull) refl refl h) (λ room. goes (above _ _ early) (above _ _ room))))
    (λ _. stays sc s e (Refused UnknownDevice) refl refl h)
  where
    e : Event
    e = event.Turn d

    v : DeviceState
    v = s.devices d

    is : IsDevice sc d v
    is = h.devices d

    new : DeviceState
    new = record v { day = v.day + 1; waiting = v.waiting ++ v.day ∷ [] }

    side : ℕ → ℕ → DeviceState → Lane
    side q j a = record { numbered = part q a.taps; taken = take (s.lanes q j).took (part q a.taps); closed = is_closed sc.start (s.lanes q j).closed; day = a.day; retired = (s.lanes q j).retired }

    goes : v.day < 100000 → length v.waiting < 8 → Moves sc s e (turned s d, Opened (v.day + 1))
    goes early room = record {
      system = device_changes sc s d new h (record { taps = refl; upto = omega arith; day = omega arith }) device;
      lane = λ q. put_all (λ j a. IsLaneStep sc.start (lane_at sc s q j) (side q j a)) s.devices d new (λ j. inr (inr (inr (inr (inr refl))))) (inr (inl refl));
      taps = λ j. put_all (λ i a. a.taps ≡ (s.devices i).taps) s.devices d new (λ i. refl) refl j ∙ sym (append-nil (s.devices j).taps);
      told = λ p j. untold sc.start (s.lanes p j);
      orderly = orderly e (Opened (v.day + 1)) refl;
      days = λ kept. put_all (λ j a. (k : ℕ) → IsSome (station_of sc j) → IsTurned sc.start a.day k → (is_waiting a.waiting k ≡ true) ⊎ (are_all_held sc s.held j k ≡ true)) s.devices d new kept (λ k known turned. here k turned (k == v.day) refl (kept d k known));
    }
      where
        -- the old day waits, and each day before it waits on or is held
        here : (k : ℕ) → IsTurned sc.start (v.day + 1) k → (b : Bool) → (k == v.day) ≡ b → (IsTurned sc.start v.day k → (is_waiting v.waiting k ≡ true) ⊎ (are_all_held sc s.held d k ≡ true)) → (is_waiting (v.waiting ++ v.day ∷ []) k ≡ true) ⊎ (are_all_held sc s.held d k ≡ true)
        here k turned true same before = inl (ap (is_waiting (v.waiting ++ v.day ∷ [])) (is_one k v.day same) ∙ waits_last v.waiting v.day)
        here k turned false other before =
            elim (before (record { first = turned.first; past = less k v.day turned.past other })) [
              | inl w ↦ inl (waits_more v.waiting v.day k w)
              | inr all ↦ inr all
            ]
          where
            less : (a b : ℕ) → a < b + 1 → (a == b) ≡ false → a < b
            less a b lt other = grind (arith, nat_tests)

        device : IsDevice sc d new
        device = record {
          base = is.base;
          cursor = is.cursor;
          stored = is.stored;
          upto = is.upto;
          first = is.first;
          next = is.next;
          few = is.few;
          numbered = is.numbered;
          known = is.known;
          days = record {
            first = omega (arith, is.days.first);
            last = λ le. omega (arith, early);
            dated = AllByRecursion-weaken (IsDated sc.start v.day) (IsDated sc.start (v.day + 1)) (λ r was. record { first = was.first; last = omega (arith, was.last) }) v.taps is.days.dated;
            waiting = AllByRecursion-push (IsTurned sc.start (v.day + 1)) v.waiting v.day (AllByRecursion-weaken (IsTurned sc.start v.day) (IsTurned sc.start (v.day + 1)) (λ k was. turned_grows sc.start v.day (v.day + 1) k (omega arith) was) v.waiting is.days.waiting) (record { first = is.days.first; past = omega arith });
            few = omega (arith, room, length_push v.waiting v.day);
          };
        }
