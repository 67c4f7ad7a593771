-- A run so far, and one event more.
use Rattle.std.proofs.Common.{◌≡◌, ◌+◌, ◌-◌, ◌<◌, ◌≤◌, ℕ, zero, suc, true, List, [], ◌∷◌, ◌++◌, length, take, drop, get_or, refl, sym, ap, ◌∙◌, subst, arith, inl, inr}
use Rattle.std.specs.Prelude.{◌&&◌, ◌||◌, not, if◌then◌else◌, Some, map, option_map, slice_get}
use Rattle.std.proofs.lemmas.Option.{slice_get-map, slice_get_read}
use Rattle.std.proofs.lemmas.List.{take_more, length_push, length-take-le}
use Rattle.fare_record.specs.Values.{RecordValue}
use Rattle.fare_record.specs.Lanes.{part, lane_of}
use Rattle.fare_scheme.specs.Values.{SchemeValue}
use Rattle.fare_event.specs.declared.event.Event.{Event}
use Rattle.fare_event.specs.declared.reply.Reply.{Reply}
use Rattle.fare_world.specs.declared.world.World.{World}
use Rattle.fare_world.specs.System.{LaneState, System, start, arrived_of}
use Rattle.fare_world.specs.Steps.{step, after, replies, may_fail}
use Rattle.fare_world.specs.Restarts.{Rose}
use Rattle.std.specs.List.{flat_map}
use Rattle.fare_scheme.specs.declared.entry.Placement.{Placement}
use Rattle.fare_cap.specs.Fares.{week_start}
use Rattle.fare_cap.specs.Bills.{bill_of}
use Rattle.fare_settle.specs.Settling.{settlement_of}
use Rattle.fare_event.specs.declared.reply.Reply.TheVariants as reply
use Rattle.fare_world.specs.Billing.{takes, retires, closes, took_before, was_retired, was_closed, basis_told, short_told, bill_told, settlement_told, IsMet, BillsExactly}
use Rattle.fare_world.specs.Headline.{of_days, numbered, numbered_by, with_first, IsOrderly, EachAnswer, IsAnswered, TakesNoneAfterClose}
use Rattle.fare_world.specs.Shown.{entry, Shape, Shows, IsDeviceOf, IsOwnerOf}
use Rattle.fare_store.specs.declared.fault.Fault.{Fault}
use Rattle.fare_store.specs.declared.fault.Fault.TheVariants as fault
use Rattle.fare_store.specs.Standing.{Standing}
use Rattle.fare_store.specs.OutboxWords.{OutboxValue}
use Rattle.fare_store.specs.LedgerWords.{LedgerValue}
use Rattle.fare_world.specs.Whole.{owner_seen, seen, shape, SameCounts, CountsFailure, AreLive, StandsAt, IsStepped, IsUnchanged, HasRun, WasStopped, TakenInOrder, beyond, AreRowsFrom, KeepsEachTap}
use Rattle.fare_world.proofs.Showing.{device_shown, owner_shown, waits_behind}
use Rattle.fare_world.proofs.ShowForward.{took_arrived}
use Rattle.fare_world.proofs.Closing.{none_after_close}
use Rattle.fare_world.proofs.Billed.{bills_exactly}
use Rattle.fare_world.proofs.Keeping.{lane_in_three, taken_of_arrived}
use Rattle.fare_world.proofs.RowPlaces.{row_here}
use Rattle.fare_world.proofs.Lists.{slice_get-drop}
use Rattle.fare_world.proofs.Stepping.{taken_is_prefix, taps_after, start_is, orderly_run}

after-push : (sc : SchemeValue) (s : System) (es : List Event) (e : Event) → after sc s (es ++ e ∷ []) ≡ (step sc (after sc s es) e).0
after-push sc s [] e = refl
after-push sc s (f ∷ es) e = after-push sc (step sc s f).0 es e

replies-push : (sc : SchemeValue) (s : System) (es : List Event) (e : Event) → replies sc s (es ++ e ∷ []) ≡ replies sc s es ++ (step sc (after sc s es) e).1 ∷ []
replies-push sc s [] e = refl
replies-push sc s (f ∷ es) e = ap (λ l. (step sc s f).1 ∷ l) (replies-push sc (step sc s f).0 es e)

numbered-take : (sc : SchemeValue) (es : List Event) (rs : List Reply) → numbered sc (take (length rs) es) rs ≡ numbered sc es rs
numbered-take sc [] [] = refl
numbered-take sc (e ∷ es) [] = refl
numbered-take sc [] (r ∷ rs) = refl
numbered-take sc (e ∷ es) (r ∷ rs) = ap (with_first (numbered_by sc e r)) (numbered-take sc es rs)

-- what holds of each answer of the answered events holds of each answer
each-take : (P : Event → Reply → Type 0) (es : List Event) (rs : List Reply) → EachAnswer P (take (length rs) es) rs → EachAnswer P es rs
each-take P [] [] h = tt
each-take P (e ∷ es) [] h = tt
each-take P [] (r ∷ rs) h = tt
each-take P (e ∷ es) (r ∷ rs) h = (h.0, each-take P es rs h.1)

event-take : (es : List Event) (rs : List Reply) (place : ℕ) (e : Event) (r : Reply) → slice_get es place ≡ Some e → slice_get rs place ≡ Some r → slice_get (take (length rs) es) place ≡ Some e
event-take es [] place e r at answered = absurd (cc)
event-take [] (q ∷ rs) place e r at answered = absurd (cc)
event-take (x ∷ es) (q ∷ rs) zero e r at answered = at
event-take (x ∷ es) (q ∷ rs) (suc n) e r at answered = event-take es rs n e r at answered

answered-take : (es : List Event) (rs : List Reply) (place : ℕ) {e : Event} {r : Reply} → IsAnswered es rs place e r → IsAnswered (take (length rs) es) rs place e r
answered-take es rs place {e} {r} h = record { event = event-take es rs place e r h.event h.reply; reply = h.reply }

-- what the answered events alone tell is what all of them tell
took-take : (es : List Event) (rs : List Reply) (place o d : ℕ) → took_before (take (length rs) es) rs place o d ≡ took_before es rs place o d
took-take [] [] place o d = refl
took-take [] (r ∷ rs) place o d = refl
took-take (e ∷ es) [] place o d = refl
took-take (e ∷ es) (r ∷ rs) zero o d = refl
took-take (e ∷ es) (r ∷ rs) (suc place) o d = ap (λ n. (if takes e r o d then 1 else 0) + n) (took-take es rs place o d)

retired-take : (es : List Event) (rs : List Reply) (place o d : ℕ) → was_retired (take (length rs) es) rs place o d ≡ was_retired es rs place o d
retired-take [] [] place o d = refl
retired-take [] (r ∷ rs) place o d = refl
retired-take (e ∷ es) [] place o d = refl
retired-take (e ∷ es) (r ∷ rs) zero o d = refl
retired-take (e ∷ es) (r ∷ rs) (suc place) o d = ap (λ b. retires e r o d || b) (retired-take es rs place o d)

closed-take : (es : List Event) (rs : List Reply) (place o d day : ℕ) → was_closed (take (length rs) es) rs place o d day ≡ was_closed es rs place o d day
closed-take [] [] place o d day = refl
closed-take [] (r ∷ rs) place o d day = refl
closed-take (e ∷ es) [] place o d day = refl
closed-take (e ∷ es) (r ∷ rs) zero o d day = refl
closed-take (e ∷ es) (r ∷ rs) (suc place) o d day = ap (λ b. closes e r o d day || b) (closed-take es rs place o d day)

basis-take : (sc : SchemeValue) (es : List Event) (rs : List Reply) (place o day : ℕ) → basis_told sc (take (length rs) es) rs place o day ≡ basis_told sc es rs place o day
basis-take sc es rs place o day = λ i. flat_map (λ (d : ℕ × Placement). of_days (week_start sc day) day (if retired-take es rs place o d.0 i then take (took-take es rs place o d.0 i) (lane_of o d.0 (numbered-take sc es rs i)) else lane_of o d.0 (numbered-take sc es rs i))) sc.devices

short-take : (es : List Event) (rs : List Reply) (place o day : ℕ) (ds : List (ℕ × Placement)) → short_told (take (length rs) es) rs place o day ds ≡ short_told es rs place o day ds
short-take es rs place o day [] = refl
short-take es rs place o day (d ∷ ds) = λ i. if retired-take es rs place o d.0 i && not (closed-take es rs place o d.0 day i) then d.0 ∷ short-take es rs place o day ds i else short-take es rs place o day ds i

bill_same : (sc : SchemeValue) (es : List Event) (rs : List Reply) (place o day : ℕ) → bill_told sc (take (length rs) es) rs place o day ≡ bill_told sc es rs place o day
bill_same sc es rs place o day = λ i. reply.Bill o day (bill_of sc (basis-take sc es rs place o day i) day) (short-take es rs place o day sc.devices i)

settlement_same : (sc : SchemeValue) (es : List Event) (rs : List Reply) (place o day : ℕ) → settlement_told sc (take (length rs) es) rs place o day ≡ settlement_told sc es rs place o day
settlement_same sc es rs place o day = λ i. reply.Settlement o day (settlement_of sc (basis-take sc es rs place o day i) day) (short-take es rs place o day sc.devices i)

met_in : (sc : SchemeValue) (es : List Event) (rs : List Reply) (o day place : ℕ) → IsMet sc es rs place o day → IsMet sc (take (length rs) es) rs place o day
met_in sc es rs o day place met = record {
  known = met.known;
  first = met.first;
  settled = λ d there. (λ i. closed-take es rs place o d.0 day i || retired-take es rs place o d.0 i) ∙ met.settled d there;
}

module _ {O L : Type 0} (out : O → Standing OutboxValue) (led : L → Standing LedgerValue) where
  -- no store was called
  no_counts : (w : World O L) → SameCounts out led w w
  no_counts w = record { outbox_same = refl; ledgers_same = record { forth = λ k x e. (x, e, refl); back = λ k x e. (x, e, refl) } }

  -- counts that stayed, twice
  counts_then : (old mid new : World O L) → SameCounts out led old mid → SameCounts out led mid new → SameCounts out led old new
  counts_then old mid new h g = record {
    outbox_same = g.outbox_same ∙ h.outbox_same;
    ledgers_same = record {
      forth = λ k x e. let y = h.ledgers_same.forth k x e in let z = g.ledgers_same.forth k y.0 y.1 in (z.0, z.1, z.2 ∙ y.2);
      back = λ k z e. let y = g.ledgers_same.back k z e in let x = h.ledgers_same.back k y.0 y.1 in (x.0, x.1, y.2 ∙ x.2);
    };
  }

  -- a count that rose after others stayed
  counts_rise : (old mid new : World O L) → SameCounts out led old mid → CountsFailure out led mid new → CountsFailure out led old new
  counts_rise old mid new h (inl rose) = inl (subst (λ n. Rose n (out new.outbox).failures) h.outbox_same rose)
  counts_rise old mid new h (inr failed) =
      let was = h.ledgers_same.back failed.place failed.before failed.was in
      inr (record { place = failed.place; before = was.0; now = failed.now; was = was.1; is = failed.is; rose = subst (λ n. Rose n (led failed.now.ledger).failures) was.2 failed.rose })

  -- nothing has run
  pub run_of_none : (w : World O L) (events : List Event) → HasRun out led w w events []
  run_of_none w events = record { scheme = refl; within = omega arith; answers = λ s at live. refl; stands = λ s at. at; live = λ h. h; clean = λ h. h; stays = λ h c. h; counts = no_counts w }

  -- one event more has
  pub one_more : (old mid new : World O L) (events : List Event) (rs now : List Reply) (e : Event) (r : Reply) → HasRun out led old mid events rs → length rs < length events → e ≡ get_or events (length rs) e → IsStepped out led mid new e r → now ≡ rs ++ r ∷ [] → HasRun out led old new events now
  one_more old mid new events rs now e r h lt is did pushed = subst (HasRun out led old new events) (sym pushed) (record {
    scheme = did.scheme ∙ h.scheme;
    within = omega (arith, long);
    answers = λ s at live. (λ i. h.answers s at (did.stores.live live) i ++ reply s at live i ∷ []) ∙ sym (ap (λ n. replies sc s (take n events)) long ∙ ap (replies sc s) more ∙ replies-push sc s so_far e);
    stands = λ s at. subst (StandsAt out led new) (sym (ap (λ n. after sc s (take n events)) long ∙ ap (after sc s) more ∙ after-push sc s so_far e)) (subst (λ q. StandsAt out led new (step q (after sc s so_far) e).0) h.scheme (did.stands (after sc s so_far) (h.stands s at)));
    live = λ live. h.live (did.stores.live live);
    clean = λ clean. h.clean (did.stores.clean clean);
    stays = λ live clean. did.stores.stays refl (h.stays live (did.stores.clean clean)) clean;
    counts = counts_then old mid new h.counts (did.stores.counts (λ is. absurd (cc)));
  })
    where
      sc : SchemeValue
      sc = old.scheme

      so_far : List Event
      so_far = take (length rs) events

      long : length (rs ++ r ∷ []) ≡ length rs + 1
      long = length_push rs r

      more : take (length rs + 1) events ≡ so_far ++ e ∷ []
      more = take_more events (length rs) e lt ∙ ap (λ x. so_far ++ x ∷ []) (sym is)

      reply : (s : System) → StandsAt out led old s → AreLive out led new → r ≡ (step sc (after sc s so_far) e).1
      reply s at live = did.reply (after sc s so_far) (h.stands s at) live ∙ ap (λ q. (step q (after sc s so_far) e).1) h.scheme

  -- an event that failed: what was so before it is so still, as far as the stores are live
  pub none_more : (old mid new : World O L) (events : List Event) (rs : List Reply) (e : Event) (f : Fault) → HasRun out led old mid events rs → length rs < length events → e ≡ get_or events (length rs) e → IsUnchanged out led mid new e f → WasStopped out led old new events rs f
  none_more old mid new events rs e f h lt is same = record {
    scheme = same.scheme ∙ h.scheme;
    within = h.within;
    answers = λ s at live. h.answers s at (same.stores.live live);
    stands = λ s at. still (h.stands s at);
    fails = λ s at live. inr (e, slice_get_read events (length events) (length rs) e refl lt is, subst (λ q. may_fail q (after old.scheme s (take (length rs) events)) e ≡ true) h.scheme (same.fails (after old.scheme s (take (length rs) events)) (h.stands s at) live));
    live = λ live. h.live (same.stores.live live);
    clean = λ clean. h.clean (same.stores.clean clean);
    cause = λ store. counts_rise old mid new h.counts (same.stores.cause (ap Some store));
  }
    where
      still : {s : System} → StandsAt out led mid s → StandsAt out led new s
      still {s} at = record {
        lawful = λ live. (same.seen_is live (at.lawful (same.stores.live live))).0;
        shows = λ live. let before = same.stores.live live in subst (λ (q : SchemeValue × Shape). Shows q.0 q.1 s) (λ i. (sym same.scheme i, sym (same.seen_is live (at.lawful before)).1 i)) (at.shows before);
      }

  -- no memory for the replies
  pub none_stopped : (old : World O L) (events : List Event) → WasStopped out led old old events [] fault.Memory
  none_stopped old events = record {
    scheme = refl;
    within = omega arith;
    answers = λ s at live. refl;
    stands = λ s at. at;
    fails = λ s at live. inl (refl, refl);
    live = λ h. h;
    clean = λ h. h;
    cause = λ is. absurd (cc);
  }

  -- what a run left, whether it went on to the end or was stopped
  pub record HasLeft (old new : World O L) (events : List Event) (answered : List Reply) : Type 0 where
    pub scheme : new.scheme ≡ old.scheme
    pub answers : (s : System) → StandsAt out led old s → AreLive out led new → answered ≡ replies old.scheme s (take (length answered) events)
    pub stands : (s : System) → StandsAt out led old s → StandsAt out led new (after old.scheme s (take (length answered) events))

  pub ran_left : (old new : World O L) (events : List Event) (rs : List Reply) → HasRun out led old new events rs → HasLeft old new events rs
  ran_left old new events rs h = record { scheme = h.scheme; answers = h.answers; stands = h.stands }

  pub stopped_left : (old new : World O L) (events : List Event) (rs : List Reply) (f : Fault) → WasStopped out led old new events rs f → HasLeft old new events rs
  stopped_left old new events rs f h = record { scheme = h.scheme; answers = h.answers; stands = h.stands }

  -- no reply of a run from the start is disorderly
  pub orderly_replies : (old new : World O L) (events : List Event) (rs : List Reply) → HasLeft old new events rs → StandsAt out led old (start old.scheme) → AreLive out led new → EachAnswer IsOrderly events rs
  orderly_replies old new events rs h fresh live =
      let sc = old.scheme in
      each-take IsOrderly events rs (subst (EachAnswer IsOrderly (take (length rs) events)) (sym (h.answers (start sc) fresh live)) (orderly_run sc (start sc) (take (length rs) events) (start_is sc)))

  -- and none takes a tap of a day that was closed before
  pub unclosed_replies : (old new : World O L) (events : List Event) (rs : List Reply) → HasLeft old new events rs → StandsAt out led old (start old.scheme) → AreLive out led new → TakesNoneAfterClose old.scheme events rs
  unclosed_replies old new events rs h fresh live o d day lane i j lt first later =
      let sc = old.scheme in
      let all = subst (TakesNoneAfterClose sc (take (length rs) events)) (sym (h.answers (start sc) fresh live)) (none_after_close sc (take (length rs) events)) in
      let found = all o d day lane i j lt (answered-take events rs i first) (answered-take events rs j later) in
      (found.0, ap (λ l. slice_get (lane_of o d l) (lane - 1)) (sym (numbered-take sc events rs)) ∙ found.1, found.2)

  -- and each bill is of what was numbered, and of retired lanes of what was taken
  pub billed_replies : (old new : World O L) (events : List Event) (rs : List Reply) → HasLeft old new events rs → StandsAt out led old (start old.scheme) → AreLive out led new → BillsExactly old.scheme events rs
  billed_replies old new events rs h fresh live =
      let sc = old.scheme in
      let es = take (length rs) events in
      let all = subst (BillsExactly sc es) (sym (h.answers (start sc) fresh live)) (bills_exactly sc es) in
      record {
        bills = λ o day i b short at. all.bills o day i b short (answered-take events rs i at) ∙ bill_same sc events rs i o day;
        settlements = λ o day i shares short at. all.settlements o day i shares short (answered-take events rs i at) ∙ settlement_same sc events rs i o day;
        met = λ o day i r at met. all.met o day i r (answered-take events rs i at) (met_in sc events rs o day i met) ∙ bill_same sc events rs i o day;
        met_settlement = λ o day i r at met. all.met_settlement o day i r (answered-take events rs i at) (met_in sc events rs o day i met) ∙ settlement_same sc events rs i o day;
      }

  -- what a run from the start numbered, by the replies that it had
  same_numbered : (old new : World O L) (events : List Event) (rs : List Reply) → HasLeft old new events rs → StandsAt out led old (start old.scheme) → AreLive out led new
      → numbered old.scheme (take (length rs) events) (replies old.scheme (start old.scheme) (take (length rs) events)) ≡ numbered new.scheme events rs
  same_numbered old new events rs h fresh live =
      let sc = old.scheme in
      ap (numbered sc (take (length rs) events)) (sym (h.answers (start sc) fresh live)) ∙ numbered-take sc events rs ∙ ap (λ q. numbered q events rs) (sym h.scheme)

  -- what was taken after a run from the start
  pub taken_in_order : (old new : World O L) (events : List Event) (rs : List Reply) → HasLeft old new events rs → StandsAt out led old (start old.scheme) → AreLive out led new → TakenInOrder led new events rs
  taken_in_order old new events rs h fresh live o d k x at here =
      let begins = taken_is_prefix sc es o d in
      (begins.0, ap (λ l. l ++ begins.0) (owner.taken d) ∙ begins.1 ∙ ap (lane_of o d) (same_numbered old new events rs h fresh live))
    where
      sc : SchemeValue
      sc = old.scheme

      es : List Event
      es = take (length rs) events

      s : System
      s = after sc (start sc) es

      found : (shape (seen out led new)).owners o ≡ Some (owner_seen led x)
      found = ap (λ p. entry p (map (owner_seen led) new.owners.items)) at ∙ slice_get-map (owner_seen led) new.owners.items k ∙ ap (option_map (owner_seen led)) here

      owner : IsOwnerOf new.scheme s.devices o (s.owners o) (s.lanes o) (owner_seen led x)
      owner = owner_shown new.scheme (shape (seen out led new)) s o (owner_seen led x) ((h.stands (start sc) fresh).shows live) found

  -- where each numbered tap is after a run from the start
  pub each_kept : (old new : World O L) (events : List Event) (rs : List Reply) → HasLeft old new events rs → StandsAt out led old (start old.scheme) → AreLive out led new → KeepsEachTap out led new events rs
  each_kept old new events rs h fresh live o d k j x v at here device_at device_here = (drop l.took rows, rows_behind, sym lane ∙ in_three)
    where
      sc : SchemeValue
      sc = old.scheme

      es : List Event
      es = take (length rs) events

      s : System
      s = after sc (start sc) es

      l : LaneState
      l = s.lanes o d

      rows : List RecordValue
      rows = arrived_of o (s.devices d)

      shown : Shows new.scheme (shape (seen out led new)) s
      shown = (h.stands (start sc) fresh).shows live

      found : (shape (seen out led new)).owners o ≡ Some (owner_seen led x)
      found = ap (λ p. entry p (map (owner_seen led) new.owners.items)) at ∙ slice_get-map (owner_seen led) new.owners.items k ∙ ap (option_map (owner_seen led)) here

      owner : IsOwnerOf new.scheme s.devices o (s.owners o) (s.lanes o) (owner_seen led x)
      owner = owner_shown new.scheme (shape (seen out led new)) s o (owner_seen led x) shown found

      device : IsDeviceOf new.scheme d (s.devices d) v
      device = device_shown new.scheme (shape (seen out led new)) s d v shown (ap (λ p. entry p new.devices.items) device_at ∙ device_here)

      lane : part o (s.devices d).taps ≡ lane_of o d (numbered new.scheme events rs)
      lane = ap (part o) (taps_after sc (start sc) es d (start_is sc)) ∙ ap (lane_of o d) (same_numbered old new events rs h fresh live)

      took : l.took ≤ length rows
      took = took_arrived new.scheme s o d shown.system

      long : length ((led x.ledger).value.taken d) ≡ l.took
      long = ap length (owner.taken d ∙ taken_of_arrived o l.took (s.devices d) took) ∙ length-take-le l.took rows took

      rows_behind : AreRowsFrom ((out new.outbox).value.rows o d) (length ((led x.ledger).value.taken d) + 1) (drop l.took rows)
      rows_behind n =
          let number : length ((led x.ledger).value.taken d) + 1 + n ≡ l.took + n + 1 = omega (arith, long) in
          let place : l.took + n + 1 - 1 ≡ l.took + n = omega arith in
          ap ((out new.outbox).value.rows o d) number ∙ shown.rows o d (l.took + n + 1) ∙ row_here l.gone rows (l.took + n + 1) (omega (arith, (shown.system.lanes o d).gone)) ∙ ap (slice_get rows) place ∙ sym (slice_get-drop l.took rows n)

      in_three : part o (s.devices d).taps ≡ (led x.ledger).value.taken d ++ (drop l.took rows ++ part o (beyond ((out new.outbox).value.upto d) v.waiting))
      in_three =
          lane_in_three new.scheme o d l.took (s.devices d) (shown.system.devices d) took
          ∙ (λ i. sym (owner.taken d) i ++ (drop l.took rows ++ part o (beyond (sym (shown.upto d) i) (sym (waits_behind new.scheme d (s.devices d) v device) i))))
