-- The stores that a system shows agree with what its devices numbered.
use Rattle.std.proofs.Common.{◌≡◌, ℕ, ◌-◌, ◌≤◌, List, [], ◌∷◌, ◌++◌, length, take, drop, zero, suc, Some, None, Bool, true, false, refl, sym, ap, ◌∙◌, subst, arith}
use Rattle.std.specs.Prelude.{◌==◌, Option}
use Rattle.std.specs.List.{AllByRecursion}
use Rattle.std.proofs.lemmas.List.{length-take-le, take-append-le, take-append-drop}
use Rattle.std.proofs.lemmas.List.Elements.{filter-append}
use Rattle.fare_record.specs.Values.{RecordValue}
use Rattle.fare_record.specs.Lanes.{part, day_count}
use Rattle.fare_record.specs.declared.item.Item.{Item}
use Rattle.fare_record.specs.declared.item.Item.TheVariants as item
use Rattle.fare_scheme.specs.Values.{SchemeValue}
use Rattle.fare_store.specs.OutboxWords.{OutboxValue}
use Rattle.fare_store.specs.LedgerWords as own
use Rattle.fare_store.specs.LedgerWords.{LedgerValue}
use Rattle.fare_world.specs.Headline.{IsPrefixOf}
use Rattle.fare_world.specs.Kept.{IsSystem, IsLane, pending, lane_numbers}
use Rattle.fare_world.specs.Shown.{IsAt, IsArrivedOf, row_at, count_of}
use Rattle.fare_world.specs.System.{Arrived, Tap_of, Statement_of, System, numbered_for, arrived_of}
use Rattle.fare_side.specs.OpenDays.{is_closed}
use Rattle.fare_world.proofs.KeptParts.{took_numbered}
use Rattle.fare_history.specs.Serving.{in_hand}
use Rattle.fare_history.specs.Gathering.{items_of}
use Rattle.fare_history.specs.Stores.{StoresValue, stores_after, stores_after_all}
use Rattle.fare_refinement.specs.Gathered.{Given, items, SentEntry, givens_of, hand_given, sent_by, told_entries, told_hand, arrived_for, IsGiven}
use Rattle.fare_refinement.specs.Sessions as sent
use Rattle.fare_refinement.specs.Sessions.{ShowsStores}
use Rattle.fare_refinement.specs.ShownStores.{ShowsOutbox, ShowsLedger}
use Rattle.fare_agreement.specs.Agreeing.{AreNumberedLists, IsOf, AreCountsOf, lane_agrees, IsStranger, Agrees, numbered_by_devices}
use Rattle.fare_agreement.specs.Stopping.{IsSessionOf, AreSessionsOf}
use Rattle.fare_agreement.specs.Told.{told_session, told_sessions}
use Rattle.fare_agreement.proofs.Prefixes.{part_front}
use Rattle.fare_agreement.proofs.Unregistered.{part_none, prefix_none, row_of_none, sold_by_another}

pub devices_numbered : (sc : SchemeValue) (s : System) → IsSystem sc s → AreNumberedLists (numbered_by_devices s)
devices_numbered sc s is = record {
  numbered = λ d place r at. let one = (is.devices d).numbered place r at in record { of_device = one.of_device; link = one.link; lane = one.lane };
}

-- what has arrived is what its number names in the device's list
pub arrived_of_lists : (sc : SchemeValue) (s : System) (x : Arrived) (i : Item) → IsSystem sc s → IsArrivedOf s.devices x i → IsOf (numbered_by_devices s) i
arrived_of_lists sc s (Tap_of d k) (item.Tap r) is at =
    let one = (is.devices d).numbered (k - 1) r at.here in
    let link : k ≡ r.link = omega (arith, one.link, at.positive) in
    subst (λ j. IsAt (s.devices j).taps r.link r) (sym one.of_device) (subst (λ n. IsAt (s.devices d).taps n r) link at)
arrived_of_lists sc s (Tap_of d k) (item.Stated v) is at = absurd at
arrived_of_lists sc s (Statement_of d day o) (item.Tap r) is at = absurd at
arrived_of_lists sc s (Statement_of d day o) (item.Stated v) is at = subst (λ z. IsOf (numbered_by_devices s) (item.Stated z)) (sym at.is) refl

-- a front of an owner's part, no longer than the owner's part of a front, is a prefix of that
front_is : (o n u : ℕ) (taps : List RecordValue) → n ≤ length (part o (take u taps)) → IsPrefixOf (take n (part o taps)) (part o (take u taps))
front_is o n u taps le =
    (drop n (part o (take u taps)), ap (λ l. l ++ drop n (part o (take u taps))) same ∙ take-append-drop n (part o (take u taps)))
  where
    cut : part o taps ≡ part o (take u taps) ++ part o (drop u taps)
    cut = sym (ap (part o) (take-append-drop u taps)) ∙ filter-append (λ (r : RecordValue). r.owner == o) (take u taps) (drop u taps)

    same : take n (part o taps) ≡ take n (part o (take u taps))
    same = ap (take n) cut ∙ take-append-le n (part o (take u taps)) (part o (drop u taps)) le

counts_of : (records : List RecordValue) (stated : ℕ → Option ℕ) (told : ℕ → Bool) → ((day : ℕ) → stated day ≡ count_of (told day) records day) → AreCountsOf records stated
counts_of records stated told are = record { counted = λ day c e. by day c (told day) (sym (are day) ∙ e) }
  where
    by : (day c : ℕ) (b : Bool) → count_of b records day ≡ Some c → c ≡ day_count records day
    by day c true e = let same : day_count records day ≡ c = cc in sym same
    by day c false e = absurd (cc)

module _ (sc : SchemeValue) (s : System) (system : IsSystem sc s) (x : OutboxValue) (shown : ShowsOutbox s x) where
  -- a lane of an owner's ledger
  lane_shown : (o d : ℕ) (l : LedgerValue) → ShowsLedger sc s o l → lane_agrees (numbered_by_devices s) x l o d
  lane_shown o d l owner = record {
    all = l.taken d;
    all_are = subst (λ t. IsPrefixOf t (part o (take (x.upto d) (s.devices d).taps))) (sym (owner.taken d))
        (front_is o took (x.upto d) (s.devices d).taps (subst (λ u. took ≤ length (part o (take u (s.devices d).taps))) (sym (shown.upto d)) within));
    taken_are = record { gone = 0; few = omega arith; are = refl; past = λ k r less at. absurd (omega (arith, less)) };
    rows_are = record {
      gone = (s.lanes o d).gone;
      few = omega (arith, lane.gone, ap length (owner.taken d) ∙ length-take-le took (numbered_for s o d) (took_numbered sc s o d system));
      are = λ k. shown.rows o d k ∙ ap (λ u. row_at (s.lanes o d).gone (part o (take u (s.devices d).taps)) k) (sym (shown.upto d));
    };
    stated_are = counts_of (numbered_for s o d) (l.stated d) (s.lanes o d).stated (owner.stated d);
    closed_are = record {
      whole = λ day shut. ap (λ t. day_count t day) (owner.taken d) ∙ lane.counted day (shut_is day shut);
      met = λ day shut le. owner.stated d day ∙ ap (λ b. count_of b (numbered_for s o d) day) (lane.closed day (shut_is day shut)) ∙ ap Some (sym (lane.counted day (shut_is day shut)) ∙ ap (λ t. day_count t day) (sym (owner.taken d)));
    };
  }
    where
      lane : IsLane sc.start (numbered_for s o d) (length (arrived_of o (s.devices d))) (s.held o d) (lane_numbers d (pending (s.owners o))) (s.lanes o d)
      lane = system.lanes o d

      shut_is : (day : ℕ) → own.is_closed l d day ≡ true → is_closed sc.start (s.lanes o d).closed day ≡ true
      shut_is day shut = (λ i. is_closed (sym owner.ledger.made.start i) (sym (owner.closed d) i) day) ∙ shut

      took : ℕ
      took = (s.lanes o d).took

      -- what was taken, the outbox has had
      within : took ≤ length (arrived_of o (s.devices d))
      within = omega (arith, lane.took, lane.forward)

pub system_agrees : (sc : SchemeValue) (s : System) (h : StoresValue) → IsSystem sc s → ShowsStores sc s h → Agrees sc (numbered_by_devices s) h
system_agrees sc s h system shown = record {
  lanes = λ o d known. lane_shown sc s system h.outbox shown.outbox o d (h.ledgers o) (shown.ledgers o known);
  stated = λ o d. counts_of (part o (s.devices d).taps) (h.outbox.stated o d) (s.held o d) (shown.outbox.stated o d);
  untaken = λ o d known none. (shown.ledgers o known).taken d ∙ ap (λ l. take (s.lanes o d).took (part o l)) ((system.devices d).known none) ∙ take_none (s.lanes o d).took;
  waiting = λ o d stranger. record {
    gone = 0;
    few = omega arith;
    are = λ k.
        shown.outbox.rows o d k ∙ ap (λ l. row_at (s.lanes o d).gone l k) (none_arrived o d (s.devices d).upto stranger) ∙ row_of_none (s.lanes o d).gone k
        ∙ sym (ap (λ l. row_at 0 l k) (none_arrived o d (h.outbox.upto d) stranger) ∙ row_of_none 0 k);
  };
}
  where
    take_none : (n : ℕ) → ◌≡◌ {A = List RecordValue} (take n []) []
    take_none zero = refl
    take_none (suc n) = refl

    -- no device numbered a tap for a stranger
    none_arrived : (o d n : ℕ) → IsStranger sc o → part o (take n (s.devices d).taps) ≡ []
    none_arrived o d n stranger =
        prefix_none (part o (take n (s.devices d).taps)) (part o (s.devices d).taps) (part_front o n (s.devices d).taps)
        (part_none o (s.devices d).taps (λ k r at. sold_by_another sc o r.owner r.tap.product stranger ((system.devices d).numbered k r at).owned))

-- SESSIONS
-- items of packets are of the lists, told one by one
told_append : (es : List SentEntry) (gs : List Given) → items (givens_of es ++ gs) ≡ items_of (told_entries es) ++ items gs
told_append [] gs = refl
told_append (e ∷ es) gs = ap (λ l. e.given.item ∷ l) (told_append es gs)

told_rest : (hand : Option Given) (inbox : List Given) → items (hand_given hand ++ inbox) ≡ in_hand (told_hand hand) ++ items inbox
told_rest None inbox = refl
told_rest (Some g) inbox = refl

items_of_lists : (sc : SchemeValue) (s : System) → IsSystem sc s → (gs : List Given) → AllByRecursion (IsGiven s) gs → AllByRecursion (IsOf (numbered_by_devices s)) (items gs)
items_of_lists sc s system [] each = tt
items_of_lists sc s system (g ∷ gs) each = (arrived_of_lists sc s (arrived_for g.item) g.item system each.0.named, items_of_lists sc s system gs each.1)

session_of_lists : (sc : SchemeValue) (s : System) → IsSystem sc s → (h : StoresValue) (q : sent.Session) → sent.IsSession sc s h q → IsSessionOf sc (numbered_by_devices s) h (told_session q)
session_of_lists sc s system h (sent.Collects g) is = (subst (AllByRecursion (IsOf (numbered_by_devices s))) (told_append g.entries (hand_given g.hand ++ g.inbox) ∙ ap (λ l. items_of (told_entries g.entries) ++ l) (told_rest g.hand g.inbox)) (items_of_lists sc s system (sent_by g) is.0), is.1)
session_of_lists sc s system h (sent.Serves_owner o v) is = is
session_of_lists sc s system h (sent.Closes_day o d day) is = (is.0, is.2, is.3)
session_of_lists sc s system h (sent.Retires_lane o d) is = (is.0, is.2)

same_after : (h : StoresValue) (q : sent.Session) → stores_after h (told_session q) ≡ sent.stores_after h q
same_after h (sent.Collects g) = refl
same_after h (sent.Serves_owner o v) = refl
same_after h (sent.Closes_day o d day) = refl
same_after h (sent.Retires_lane o d) = refl

pub sessions_of_lists : (sc : SchemeValue) (s : System) → IsSystem sc s → (h : StoresValue) (qs : List sent.Session) → sent.AreSessions sc s h qs → AreSessionsOf sc (numbered_by_devices s) h (told_sessions qs)
sessions_of_lists sc s system h [] is = tt
sessions_of_lists sc s system h (q ∷ qs) is =
    (session_of_lists sc s system h q is.0, subst (λ k. AreSessionsOf sc (numbered_by_devices s) k (told_sessions qs)) (sym (same_after h q)) (sessions_of_lists sc s system (sent.stores_after h q) qs is.1))

pub same_after_all : (h : StoresValue) (qs : List sent.Session) → stores_after_all h (told_sessions qs) ≡ sent.stores_after_all h qs
same_after_all h [] = refl
same_after_all h (q ∷ qs) = ap (λ k. stores_after_all k (told_sessions qs)) (same_after h q) ∙ same_after_all (sent.stores_after h q) qs
