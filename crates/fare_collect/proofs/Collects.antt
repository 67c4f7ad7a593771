-- A session of which the threads ran, in the words of sessions.
use Rattle.std.proofs.Common.{◌≡◌, ℕ, ◌+◌, ◌<◌, ◌==◌, Bool, true, false, if◌then◌else◌, List, [], ◌∷◌, ◌++◌, length, map, slice_index_or, Some, None, is_some, refl, sym, ap, ◌∙◌, subst, append_assoc, inl, inr, arith}
use Rattle.std.specs.Prelude.{◌⊎◌, fold, Option, option_map, Ok}
use Rattle.std.specs.List.{AllByRecursion}
use Rattle.std.proofs.lemmas.List.{append-nil, map-append, length-map}
use Rattle.std.proofs.lemmas.List.Elements.{filter-append}
use Rattle.std.proofs.lemmas.Bool.Decides.{nat_tests}
use Rattle.fare_frame.specs.declared.frame.Frame.{Frame}
use Rattle.fare_record.specs.declared.item.Item.{Item}
use Rattle.fare_record.specs.declared.ack_item.AckItem.{AckItem}
use Rattle.fare_scheme.specs.Values.{SchemeValue}
use Rattle.fare_scheme.specs.Words.{station_of, position_of_station}
use Rattle.fare_collector.specs.Collecting.{is_id, next_in}
use Rattle.fare_store.specs.declared.fault.Fault.TheVariants as fault
use Rattle.fare_store.specs.Standing.{Standing, Counted, IsSound}
use Rattle.fare_store.specs.OutboxWords.{OutboxValue}
use Rattle.fare_history.specs.Serving as serving
use Rattle.fare_history.specs.Gathering as history
use Rattle.fare_history.specs.AcceptedLinks as links
use Rattle.fare_history.specs.Plainly.{IsRefusedByOutbox}
use Rattle.fare_history.specs.Holding.{MayHold}
use Rattle.fare_history.proofs.Stations.{stations_count}
use Rattle.fare_history.proofs.LinkByLink.{arrivals_count_up}
use Rattle.fare_source.specs.Talking.{Talk}
use Rattle.fare_session.specs.Served.{Rose}
use Rattle.fare_inbox_queue.specs.Inbox.{of_station}
use Rattle.fare_inbox_queue.specs.declared.arrived.Arrived.{Arrived}
use Rattle.fare_inbox_queue.specs.declared.arrived.Arrived.TheVariants as arrived
use Rattle.fare_inbox_queue.specs.LinePasses.{put_list}
use Rattle.fare_writer.specs.declared.tally.Tally.{Tally}
use Rattle.fare_writer.specs.declared.fault.WriterFault.{WriterFault}
use Rattle.fare_writer.specs.declared.fault.WriterFault.TheVariants as writer
use Rattle.fare_collect.specs.declared.fault.StationFault.{StationFault}
use Rattle.fare_collect.specs.declared.fault.StationFault.TheVariants.{Source, Unexpected}
use Rattle.fare_collect.specs.declared.station.Station.{Station}
use Rattle.fare_writer.specs.declared.teller.Teller.{Teller}
use Rattle.fare_inbox_queue.specs.declared.ack_passes.HearPass.{HearPass}
use Rattle.fare_writer.specs.declared.halt.Halt.{Halt}
use Rattle.fare_writer.specs.Entries.{item_of, Entry, items_of, storing_all, AreEntries, new_count, in_hand, told_to}
use Rattle.fare_collect.specs.Arriving.{arrivals}
use Rattle.fare_writer.specs.Arriving.{IsUnexpected}
use Rattle.fare_writer.specs.Writing.{store_fault, LeavesOutbox}
use Rattle.fare_collect.specs.Stations.{AreExpected, SourceCounted, frame_for, held_list}
use Rattle.fare_writer.specs.Handling.{hand_of, fault_of, RefusedBy, IsRefusedItem}
use Rattle.fare_collect.specs.Resting.{IsNoneOf}
use Rattle.fare_collect.specs.Ending.{AreSomeOf, HasHanded, last_answers}
use Rattle.fare_collect.specs.Noting.{days_named}
use Rattle.fare_writer.specs.Noting.{noting}
use Rattle.fare_collect.specs.Resuming.{AreStations, resumed_next, HaveBegun, HaveResumed}
use Rattle.fare_collect.specs.Session.{HasGathered, HasEnded, HasSession}
use Rattle.fare_collect.specs.Collected.{fault_of_halt, HaveDevices, first_links, IsFitting, IsStoredBy, SaysOfGathering, HasTalked, IsCollected}
use Rattle.fare_collect.proofs.Served.{element}
use Rattle.fare_collect.proofs.Handed.{keeps_append, handed_then}
use Rattle.fare_collect.proofs.Read.{expected_kept}
use Rattle.fare_collect.proofs.Named.{Knows, known_all, AreNamed, named_arrivals, by_parts, named_part, items_arrive}
use Rattle.fare_collect.proofs.Gathers.{entry_of, items_are, storing_is, new_is, stored_is, told_is, gathering_of, accepted_is, tried_first, left_length}
use Rattle.fare_collect.proofs.Opens.{HaveOpened, opened, opened_stations, resumed_first, first_known, here_or_not}

-- LISTS
named_front : (sc : SchemeValue) (xs ys : List Arrived) → AreNamed sc (xs ++ ys) → AreNamed sc xs
named_front sc [] ys all = tt
named_front sc (a ∷ xs) ys all = (all.0, named_front sc xs ys all.1)

have_stations : (sc : SchemeValue) (xs : List Arrived) → AreNamed sc xs → AllByRecursion (λ i. is_some (station_of sc (serving.device_of i)) ≡ true) (map item_of xs)
have_stations sc [] all = tt
have_stations sc (a ∷ xs) all = (ap is_some all.0, have_stations sc xs all.1)

keeps_all : (xs : List AckItem) → AreSomeOf xs (map frame_for xs)
keeps_all [] = refl
keeps_all (a ∷ xs) = inl (map frame_for xs, refl, keeps_all xs)

keeps_none : (xs : List AckItem) → AreSomeOf xs []
keeps_none [] = refl
keeps_none (a ∷ xs) = inr (keeps_none xs)

-- WHAT BEGAN
-- where the threads ran, an outbox that has kept what was committed was live, and the stations went on behind it
pub record HasBegun {S : Type 0} (sc : SchemeValue) (a b : Standing OutboxValue) (before after : List (Station S)) : Type 0 where
  pub live : a.live
  pub lawful : a.lawful
  pub going : b.live
  pub fits : b.lawful
  pub same : b.value ≡ a.value
  pub next : (k : ℕ) (d : Station S) → k < length before → next_in (slice_index_or after k d).collector ≡ first_links sc a.value (slice_index_or before k d).collector.station

has_begun : {S : Type 0} (sc : SchemeValue) (a b : Standing OutboxValue) (before begun after : List (Station S)) → HaveDevices sc before → HaveBegun before begun → HaveResumed sc a b begun after (Ok tt) → b.clean → (a.live → a.lawful) → HasBegun sc a b before after
has_begun {S} sc a b before begun after devices first then_ clean lawful =
    let going = then_.begun refl clean in
    let live = then_.wrote.live going in
    let value = then_.wrote.value going (lawful live) in
    record {
      live = live;
      lawful = lawful live;
      going = going;
      fits = value.0;
      same = value.1;
      next = λ k d lt i device.
          let at : k < length begun = let l = first.len in omega (arith, lt, l) in
          let station = (slice_index_or before k d).collector.station in
          let one : slice_index_or begun k d ≡ record (slice_index_or before k d) { end = record { held = None; ended = false; fault = None } } = first.each k d lt in
          let P : Station S → Type 0 = λ t. next_in (slice_index_or after k d).collector device ≡ resumed_next sc a.value.upto t.collector.station (next_in t.collector) device in
          let goes = subst P one (then_.next refl going (lawful live) k d device at) in
          (goes ∙ resumed_first sc a.value station (next_in (slice_index_or before k d).collector) device (devices.each k d device lt)) i;
    }

-- ALL ITEMS
section_part : {S : Type 0} (sc : SchemeValue) (talks : S → Talk) (b c : Standing OutboxValue) (n0 n1 : Tally) (mid after : List (Station S)) (left : ℕ) (halt : Option Halt) (s : HasSession sc talks b c n0 n1 mid after left halt) (k : ℕ) (d : Station S) → k < length mid
    → (fs : List Frame) × (of_station (slice_index_or mid k d).collector.station (s.all ++ s.inbox) ≡ arrivals sc (slice_index_or mid k d).collector.station (next_in (slice_index_or mid k d).collector) fs)
section_part sc talks b c n0 n1 mid after left halt s k d lt =
    let t = element s.tellers_new k (let e = s.even.1 in omega (arith, lt, e)) in
    let h = element s.hears k (let e = s.even.2 in omega (arith, lt, e)) in
    let got = (s.each k d t h lt).gathered in
    (got.frames, filter-append _ s.all s.inbox ∙ got.part)

pub all_named : {S : Type 0} (sc : SchemeValue) (talks : S → Talk) (a b c : Standing OutboxValue) (n0 n1 : Tally) (before mid after : List (Station S)) (left : ℕ) (halt : Option Halt) (s : HasSession sc talks b c n0 n1 mid after left halt)
    → AreStations sc mid → HaveOpened sc a b before mid → HasBegun sc a b before mid → AreNamed sc (s.all ++ s.inbox)
all_named {S} sc talks a b c n0 n1 before mid after left halt s are o begun = by_parts sc (s.all ++ s.inbox) (λ station. part station (here_or_not sc mid station are))
  where
    part : (station : ℕ) → ((k : ℕ) × (k < length mid) × ((d : Station S) → station ≡ (slice_index_or mid k d).collector.station)) ⊎ IsNoneOf station mid → AreNamed sc (of_station station (s.all ++ s.inbox))
    part station (inl at) =
        let d = element mid at.0 at.1 in
        let p = section_part sc talks b c n0 n1 mid after left halt s at.0 d at.1 in
        let within : at.0 < length before = (let l = o.len in let lt = at.1 in omega (arith, lt, l)) in
        let id = (slice_index_or mid at.0 d).collector.station in
        let next = next_in (slice_index_or mid at.0 d).collector in
        let knows : Knows next (λ device. is_id (station_of sc device) id) = λ device.
        ap (λ (n : ℕ → Option ℕ). is_some (n device)) (begun.next at.0 d within) ∙ (first_known sc a.value (slice_index_or before at.0 d).collector.station device ∙ ap (is_id (station_of sc device)) (sym (o.each at.0 d within).1)) in
        subst (AreNamed sc) (sym (ap (λ n. of_station n (s.all ++ s.inbox)) (at.2 d) ∙ p.1)) (named_arrivals sc id next p.0 knows)
    part station (inr none) =
        let both = s.others station none in
        subst (AreNamed sc) (sym (filter-append _ s.all s.inbox ∙ λ i. both.0 i ++ both.1 i)) tt

-- of a station here, those of its devices are what it accepts of its frames
part_accepted : {S : Type 0} (sc : SchemeValue) (talks : S → Talk) (a b c : Standing OutboxValue) (n0 n1 : Tally) (before mid after : List (Station S)) (left : ℕ) (halt : Option Halt) (s : HasSession sc talks b c n0 n1 mid after left halt)
    → HaveOpened sc a b before mid → HasBegun sc a b before mid → AreNamed sc (s.all ++ s.inbox) → (k : ℕ) (d : Station S) → k < length before → (fs : List Frame)
    → (of_station (slice_index_or mid k d).collector.station (s.all ++ s.inbox) ≡ arrivals sc (slice_index_or mid k d).collector.station (next_in (slice_index_or mid k d).collector) fs)
    → history.of_station sc (slice_index_or before k d).collector.station (map item_of (s.all ++ s.inbox)) ≡ links.arrivals sc (first_links sc a.value (slice_index_or before k d).collector.station) fs
part_accepted {S} sc talks a b c n0 n1 before mid after left halt s o begun named k d lt fs part =
    let id = (slice_index_or before k d).collector.station in
    let same : (slice_index_or mid k d).collector.station ≡ id = (o.each k d lt).1 in
    named_part sc id (s.all ++ s.inbox) named
    ∙ (ap (map item_of) (ap (λ n. of_station n (s.all ++ s.inbox)) (sym same) ∙ part)
    ∙ (items_arrive sc (slice_index_or mid k d).collector.station (next_in (slice_index_or mid k d).collector) fs
    ∙ ap (λ (next : ℕ → Option ℕ). links.arrivals sc next fs) (begun.next k d lt)))

no_part : (sc : SchemeValue) (station : ℕ) (xs : List Arrived) → AreNamed sc xs → of_station station xs ≡ [] → history.of_station sc station (map item_of xs) ≡ []
no_part sc station xs named none = named_part sc station xs named ∙ ap (map item_of) none

own_first : (sc : SchemeValue) (x : OutboxValue) (station device : ℕ) → station_of sc device ≡ Some station → first_links sc x station device ≡ Some (x.upto device + 1)
own_first sc x station device of =
    let own : (station == station) ≡ true = grind (arith, nat_tests) in
    ap (λ (b : Bool). if b then Some (x.upto device + 1) else None) (ap (λ (o : Option ℕ). is_id o station) of ∙ own)

-- the links that were accepted follow the outbox's
all_counted : {S : Type 0} (sc : SchemeValue) (talks : S → Talk) (a b c : Standing OutboxValue) (n0 n1 : Tally) (before mid after : List (Station S)) (left : ℕ) (halt : Option Halt) (s : HasSession sc talks b c n0 n1 mid after left halt)
    → AreStations sc before → AreStations sc mid → HaveOpened sc a b before mid → HasBegun sc a b before mid → AreNamed sc (s.all ++ s.inbox) → (device : ℕ) → history.CountsFrom (a.value.upto device + 1) (history.links_of device (map item_of (s.all ++ s.inbox)))
all_counted {S} sc talks a b c n0 n1 before mid after left halt s are are_mid o begun named =
    stations_count sc (λ device. a.value.upto device + 1) (map item_of (s.all ++ s.inbox)) (have_stations sc (s.all ++ s.inbox) named) (λ device station of. part device station of (here_or_not sc before station are))
  where
    part : (device station : ℕ) → station_of sc device ≡ Some station → ((k : ℕ) × (k < length before) × ((d : Station S) → station ≡ (slice_index_or before k d).collector.station)) ⊎ IsNoneOf station before
        → history.CountsFrom (a.value.upto device + 1) (history.links_of device (history.of_station sc station (map item_of (s.all ++ s.inbox))))
    part device station of (inl at) =
        let d = element before at.0 at.1 in
        let id = (slice_index_or before at.0 d).collector.station in
        let p = section_part sc talks b c n0 n1 mid after left halt s at.0 d (let l = o.len in let lt = at.1 in omega (arith, lt, l)) in
        let is = ap (λ n. history.of_station sc n (map item_of (s.all ++ s.inbox))) (at.2 d) ∙ part_accepted sc talks a b c n0 n1 before mid after left halt s o begun named at.0 d at.1 p.0 p.1 in
        subst (λ (l : List Item). history.CountsFrom (a.value.upto device + 1) (history.links_of device l)) (sym is)
        (arrivals_count_up sc (first_links sc a.value id) device (a.value.upto device) p.0 (own_first sc a.value id device (of ∙ ap Some (at.2 d))))
    part device station of (inr none) =
        let none_mid : IsNoneOf station mid = λ k d lt same. (let l = o.len in none k d (omega (arith, lt, l)) (same ∙ (o.each k d (omega (arith, lt, l))).1)) in
        let both = s.others station none_mid in
        let empty : of_station station (s.all ++ s.inbox) ≡ [] = filter-append _ s.all s.inbox ∙ λ i. both.0 i ++ both.1 i in
        subst (λ (l : List Item). history.CountsFrom (a.value.upto device + 1) (history.links_of device l)) (sym (no_part sc station (s.all ++ s.inbox) named empty)) tt

-- WHAT IT SAYS
refused_by : (x : OutboxValue) (hand : Option Arrived) (w : WriterFault) → w ≡ writer.Refused → IsRefusedItem x w hand → (i : Item) × (option_map item_of hand ≡ Some i) × IsRefusedByOutbox x i
refused_by x hand w is refused = by hand (subst (λ (f : WriterFault). IsRefusedItem x f hand) is refused)
  where
    by : (hand : Option Arrived) → IsRefusedItem x writer.Refused hand → (i : Item) × (option_map item_of hand ≡ Some i) × IsRefusedByOutbox x i
    by None r = absurd r
    by (Some (arrived.Tap st row)) (inl e) = (item_of (arrived.Tap st row), refl, (_, e))
    by (Some (arrived.Tap st row)) (inr (inl e)) = (item_of (arrived.Tap st row), refl, (_, e))
    by (Some (arrived.Tap st row)) (inr (inr e)) = (item_of (arrived.Tap st row), refl, (_, e))
    by (Some (arrived.Stated st v)) r = (item_of (arrived.Stated st v), refl, r)

refused_in : (x : OutboxValue) (halt : Option Halt) → fault_of_halt halt ≡ Some writer.Refused → RefusedBy x halt → (i : Item) × (option_map item_of (hand_of halt) ≡ Some i) × IsRefusedByOutbox x i
refused_in x None e r = absurd (cc)
refused_in x (Some h) e r = let is : h.fault ≡ writer.Refused = cc in refused_by x h.hand h.fault is r

no_fault : (halt : Option Halt) → fault_of_halt halt ≡ Some writer.Refused → fault_of halt ≡ None
no_fault None e = refl
no_fault (Some h) e = let is : h.fault ≡ writer.Refused = cc in ap store_fault is

no_halt : (halt : Option Halt) → fault_of_halt halt ≡ None → halt ≡ None
no_halt None e = refl
no_halt (Some h) e = absurd (cc)

store_halt : (halt : Option Halt) → fault_of_halt halt ≡ Some writer.Store → fault_of halt ≡ Some fault.Store
store_halt None e = absurd (cc)
store_halt (Some h) e = let is : h.fault ≡ writer.Store = cc in ap store_fault is

pub section_says : {S : Type 0} (sc : SchemeValue) (talks : S → Talk) (a b c : Standing OutboxValue) (n0 n1 : Tally) → n0.stored ≡ 0 → n0.days.keys ≡ [] → (before mid after : List (Station S)) (left : ℕ) (halt : Option Halt) (s : HasSession sc talks b c n0 n1 mid after left halt)
    → AreStations sc before → HaveOpened sc a b before mid → HasBegun sc a b before mid → c.clean → SaysOfGathering sc before (gathering_of s.written.entries (hand_of halt) (s.written.behind ++ s.inbox) s.last) n1.stored (fault_of_halt halt) a.value
section_says {S} sc talks a b c n0 n1 zero_count unnoted before mid after left halt s are o begun clean =
    let es = s.written.entries in
    let are_mid = opened_stations sc a b before mid are o in
    let named = all_named sc talks a b c n0 n1 before mid after left halt s are_mid o begun in
    let accepted = accepted_is es (hand_of halt) s.written.behind s.all s.inbox s.last s.written.all in
    let in_all : AreNamed sc s.all = named_front sc s.all s.inbox named in
    let in_entries : AreNamed sc (items_of es) = named_front sc (items_of es) (in_hand (hand_of halt) ++ s.written.behind) (subst (AreNamed sc) s.written.all in_all) in
    let value : history.storing_all a.value (map entry_of es) ≡ storing_all b.value es = storing_is a.value es ∙ ap (λ x. storing_all x es) (sym begun.same) in
    record {
      gathering = record {
        counted = λ device. subst (λ (l : List Item). history.CountsFrom (a.value.upto device + 1) (history.links_of device l)) (sym accepted) (all_counted sc talks a b c n0 n1 before mid after left halt s are are_mid o begun named device);
        stored = stored_is sc a.value es in_entries (subst (λ x. AreEntries sc x es) begun.same (s.written.wrote.known clean begun.going begun.fits));
        room = (let f = s.few in let l = length-map (s.written.behind ++ s.inbox) item_of in omega (arith, f, l));
        last = subst (λ x. AllByRecursion (history.IsAnswerFrom sc x) s.last) (sym value) (s.from clean (λ live. begun.fits));
      };
      stored = (
          let m = s.written.counted clean begun.going begun.fits in
          let n = new_is a.value es ∙ ap (λ x. new_count x es) (sym begun.same) in
          omega (arith, m, n, zero_count)
          );
      others = λ station none.
          let none_mid : IsNoneOf station mid = λ k d lt same. (let l = o.len in none k d (omega (arith, lt, l)) (same ∙ (o.each k d (omega (arith, lt, l))).1)) in
          let both = s.others station none_mid in
          ap (history.of_station sc station) accepted ∙ no_part sc station (s.all ++ s.inbox) named (filter-append _ s.all s.inbox ∙ λ i. both.0 i ++ both.1 i);
      known = subst (AllByRecursion (λ i. is_some (station_of sc (serving.device_of i)) ≡ true)) (sym accepted) (have_stations sc (s.all ++ s.inbox) named);
      refused = λ e.
          let live = s.written.wrote.stays (no_fault halt e) begun.going clean in
          let r = refused_in (storing_all b.value es) halt e (s.written.refused live begun.fits) in
          (r.0, r.1, subst (λ x. IsRefusedByOutbox x r.0) (sym value) r.2);
      last = λ e. s.whole (no_halt halt e) clean (λ live. begun.fits) ∙ λ i. last_answers sc (days (no_halt halt e) i) (sym value i);
    }
  where
    -- what is noted are the days of the items that were handled
    days : halt ≡ None → n1.days.keys ≡ days_named sc (history.items_of (map entry_of s.written.entries))
    days none =
        s.written.noted none
        ∙ λ i. fold (noting sc) (unnoted i) ((ap (map item_of) (s.written.all ∙ ((λ j. items_of s.written.entries ++ (in_hand (hand_of (none j)) ++ s.written.alone (ap hand_of none) j)) ∙ append-nil (items_of s.written.entries))) ∙ sym (items_are s.written.entries)) i)

-- WHAT IT LEAVES
leaves_by : (x : OutboxValue) (es : List Entry) (hand : Option Arrived) (behind inbox : List Arrived) (last : List AckItem) (v : OutboxValue) → (hand ≡ None → behind ≡ []) → LeavesOutbox x es (in_hand hand ++ behind) v → IsStoredBy (gathering_of es hand (behind ++ inbox) last) x v
leaves_by x es hand behind inbox last v alone is = tried_first (history.storing_all x (map entry_of es)) v hand behind inbox alone (subst (λ y. history.HasFirst y (map item_of (in_hand hand ++ behind)) v) (sym (storing_is x es)) is)

-- A STATION
held_is : (s : Standing OutboxValue) → IsSound s → s.live → s.lawful → (x : OutboxValue) → MayHold s x → x ≡ s.value
held_is s sound live lawful x (inl now) = now.1
held_is s sound live lawful x (inr leaves) = sound.settled live lawful x leaves

-- what a station was told, and what was sent to it last
answers_are : (sc : SchemeValue) (x : OutboxValue) (es : List Entry) (hand : Option Arrived) (inbox : List Arrived) (last : List AckItem) (station place : ℕ) → position_of_station sc station ≡ Some place → AreNamed sc (items_of es) → AreEntries sc x es
    → history.answers_to sc station (history.all_answers (gathering_of es hand inbox last)) ≡ told_to sc place es ++ history.answers_to sc station last
answers_are sc x es hand inbox last station place at named are =
    filter-append _ (history.answers_of (map entry_of es)) last ∙ ap (λ l. l ++ history.answers_to sc station last) (sym (told_is sc x es station place at named are))

-- what the source kept of them
pub record IsToldAll {S : Type 0} (sc : SchemeValue) (talks : S → Talk) (told last : List AckItem) (old new : Station S) : Type 0 where
  pub frames : List Frame
  pub held : Option Frame
  pub given : (talks new.source).given ≡ (talks old.source).given ++ (frames ++ held_list held)
  pub kept : List Frame
  pub answered : (talks new.source).answered ≡ (talks old.source).answered ++ kept
  pub keeps : AreSomeOf (told ++ last) kept
  pub whole : new.end.fault ≡ None → kept ≡ map frame_for (told ++ last)
  pub named : new.collector.station ≡ old.collector.station
  pub devices : (device : ℕ) → is_some (next_in new.collector device) ≡ is_some (next_in old.collector device)
  pub ended : new.end.fault ≡ None → new.end.ended ≡ true → (talks new.source).ended
  pub cause : new.end.fault ≡ Some Source → Rose (talks old.source).failures (talks new.source).failures
  pub unexpected : new.end.fault ≡ Some Unexpected → (front : List Frame) × (f : Frame) × (frames ≡ front ++ f ∷ []) × IsUnexpected f
  pub expected : AreExpected new.end.fault (frames ++ held_list held)
  pub failed : new.end.fault ≡ None → (talks new.source).failures ≡ (talks old.source).failures
  pub none_held : new.end.ended ≡ true → held ≡ None

told_all : {S : Type 0} (sc : SchemeValue) (talks : S → Talk) (all : List Arrived) (left : ℕ → List Arrived) (t : Teller) (h : HearPass) (last : List AckItem) (told : List AckItem) (old new : Station S) → HasEnded sc talks all left t h last old new → put_list t.pass ≡ told → IsToldAll sc talks told last old new
told_all {S} sc talks all left t h last told old new e put = record {
  frames = g.frames;
  held = e.middle.end.held;
  given = e.answered.handed.given ∙ (e.line.handed.handed.given ∙ g.given);
  kept = (map frame_for g.handed ++ one) ++ two;
  answered =
      e.answered.handed.answered
      ∙ (ap (λ l. l ++ two) (e.line.handed.handed.answered ∙ ap (λ l. l ++ one) g.answered ∙ append_assoc (talks old.source).answered (map frame_for g.handed) one)
      ∙ append_assoc (talks old.source).answered (map frame_for g.handed ++ one) two);
  keeps = subst (λ (l : List AckItem). AreSomeOf (l ++ last) ((map frame_for g.handed ++ one) ++ two)) parts
      (keeps_append (g.handed ++ (g.lost ++ e.line.items)) last (map frame_for g.handed ++ one) two
      (keeps_append g.handed (g.lost ++ e.line.items) (map frame_for g.handed) one (keeps_all g.handed) (keeps_append g.lost e.line.items [] one (keeps_none g.lost) e.line.handed.handed.keeps))
      e.answered.handed.keeps);
  whole = λ none.
      let last_one = e.answered.handed.whole none in
      let line_one = e.line.handed.handed.whole last_one.0 in
      let lost = g.kept (λ m. let both = sym line_one.0 ∙ m in absurd (cc)) in
      (λ i. (map frame_for g.handed ++ line_one.1 i) ++ last_one.1 i)
      ∙ ((λ i. sym (map-append frame_for g.handed e.line.items) i ++ map frame_for last)
      ∙ (sym (map-append frame_for (g.handed ++ e.line.items) last)
      ∙ ap (λ l. map frame_for (l ++ last)) (ap (λ l. g.handed ++ (l ++ e.line.items)) (sym lost) ∙ parts)));
  named = ap (λ c. c.station) e.answered.collector ∙ (ap (λ c. c.station) e.line.handed.collector ∙ g.named);
  devices = λ device. ap (λ c. is_some (next_in c device)) (e.answered.collector ∙ e.line.handed.collector) ∙ (ap (λ (n : ℕ → Option ℕ). is_some (n device)) g.next ∙ known_all sc (next_in old.collector) (λ d. is_some (next_in old.collector d)) g.frames (λ d. refl) device);
  ended = λ none at_end.
      let mid : e.middle.end.ended ≡ true = sym (e.answered.at_end ∙ e.line.handed.at_end) ∙ at_end in
      e.answered.handed.ended (e.line.handed.handed.ended (g.ended mid).0);
  cause = λ is. rose e.middle.end.fault refl is;
  unexpected = λ is. g.unexpected (unexpected_at e.middle.end.fault refl is);
  expected = expected_kept e.middle.end.fault new.end.fault (g.frames ++ held_list e.middle.end.held) both.first g.expected;
  failed = λ none. both.failed none ∙ subst (λ (w : Option StationFault). SourceCounted (talks old.source).failures (talks e.middle.source).failures w) (both.whole none).0 g.cause;
  none_held = λ at_end. (g.ended (sym (e.answered.at_end ∙ e.line.handed.at_end) ∙ at_end)).1;
}
  where
    g : HasGathered sc talks all left h old e.middle
    g = e.gathered

    one : List Frame
    one = e.line.handed.handed.kept

    two : List Frame
    two = e.answered.handed.kept

    both : HasHanded (talks e.middle.source) (talks new.source) (e.line.items ++ last) e.middle.end.fault new.end.fault
    both = handed_then (talks e.middle.source) (talks e.closed.source) (talks new.source) e.line.items last e.middle.end.fault e.closed.end.fault new.end.fault e.line.handed.handed e.answered.handed

    -- a fault that the threads met stays
    kept : (w : StationFault) → e.middle.end.fault ≡ Some w → new.end.fault ≡ e.middle.end.fault
    kept w is = both.first (λ none. let q : ◌≡◌ {A = Option StationFault} (Some w) None = sym is ∙ none in absurd (cc))

    rose : (m : Option StationFault) → e.middle.end.fault ≡ m → new.end.fault ≡ Some Source → Rose (talks old.source).failures (talks new.source).failures
    rose None is end =
        let same : (talks e.middle.source).failures ≡ (talks old.source).failures = subst (λ (w : Option StationFault). SourceCounted (talks old.source).failures (talks e.middle.source).failures w) is g.cause in
        subst (λ (n : ℕ). Rose n (talks new.source).failures) same (both.cause is end)
    rose (Some w) is end = grown (subst (λ (v : Option StationFault). SourceCounted (talks old.source).failures (talks e.middle.source).failures v) (sym (kept w is) ∙ end) g.cause)
      where
        grown : SourceCounted (talks old.source).failures (talks e.middle.source).failures (Some Source) → Rose (talks old.source).failures (talks new.source).failures
        grown (inl lt) = let more = both.rises in inl (omega (arith, lt, more))
        grown (inr full) = inr full

    unexpected_at : (m : Option StationFault) → e.middle.end.fault ≡ m → new.end.fault ≡ Some Unexpected → e.middle.end.fault ≡ Some Unexpected
    unexpected_at None is end = absurd (both.other is end)
    unexpected_at (Some w) is end = sym (kept w is) ∙ end

    parts : g.handed ++ (g.lost ++ e.line.items) ≡ told
    parts = sym (append_assoc g.handed g.lost e.line.items) ∙ (ap (λ l. l ++ e.line.items) (sym g.took) ∙ (e.line.all ∙ put))

pub station_told : {S : Type 0} (sc : SchemeValue) (talks : S → Talk) (b c : Standing OutboxValue) (n0 n1 : Tally) (mid after : List (Station S)) (left : ℕ) (halt : Option Halt) (s : HasSession sc talks b c n0 n1 mid after left halt) (k : ℕ) (d : Station S) → k < length mid
    → (w : IsToldAll sc talks (told_to sc k s.written.entries) (history.answers_to sc (slice_index_or mid k d).collector.station s.last) (slice_index_or mid k d) (slice_index_or after k d))
    × (of_station (slice_index_or mid k d).collector.station (s.all ++ s.inbox) ≡ arrivals sc (slice_index_or mid k d).collector.station (next_in (slice_index_or mid k d).collector) w.frames)
unfolding told_all
station_told sc talks b c n0 n1 mid after left halt s k d lt =
    let t = element s.tellers_new k (let e = s.even.1 in omega (arith, lt, e)) in
    let h = element s.hears k (let e = s.even.2 in omega (arith, lt, e)) in
    let e = s.each k d t h lt in
    let put = s.written.told.each k t (let n = s.even.0 in omega (arith, lt, n)) ∙ ap (λ l. l ++ told_to sc k s.written.entries) (s.untold k t lt) in
    (told_all sc talks s.all (λ station. of_station station s.inbox) (slice_index_or s.tellers_new k t) (slice_index_or s.hears k h) (history.answers_to sc (slice_index_or mid k d).collector.station s.last) (told_to sc k s.written.entries) (slice_index_or mid k d) (slice_index_or after k d) e put, filter-append _ s.all s.inbox ∙ e.gathered.part)

station_talks : {S : Type 0} (sc : SchemeValue) (talks : S → Talk) (a b c : Standing OutboxValue) (n0 n1 : Tally) (before begun mid after : List (Station S)) (left : ℕ) (halt : Option Halt) (s : HasSession sc talks b c n0 n1 mid after left halt)
    → IsSound a → AreStations sc before → HaveDevices sc before → HaveBegun before begun → HaveResumed sc a b begun mid (Ok tt) → HaveOpened sc a b before mid → (k : ℕ) (d : Station S) → k < length before
    → (w : IsToldAll sc talks (told_to sc k s.written.entries) (history.answers_to sc (slice_index_or mid k d).collector.station s.last) (slice_index_or mid k d) (slice_index_or after k d))
    → of_station (slice_index_or mid k d).collector.station (s.all ++ s.inbox) ≡ arrivals sc (slice_index_or mid k d).collector.station (next_in (slice_index_or mid k d).collector) w.frames
    → HasTalked sc talks a c (gathering_of s.written.entries (hand_of halt) (s.written.behind ++ s.inbox) s.last) (slice_index_or before k d) (slice_index_or after k d)
station_talks {S} sc talks a b c n0 n1 before begun mid after left halt s sound are devices first then_ o k d lt w part = record {
  frames = w.frames;
  held = w.held;
  given = w.given ∙ ap (λ (q : S). (talks q).given ++ (w.frames ++ held_list w.held)) (o.each k d lt).0;
  accepted = λ fit x may.
      let start = starts fit in
      ap (history.of_station sc id) (accepted_is s.written.entries (hand_of halt) s.written.behind s.all s.inbox s.last s.written.all)
      ∙ (part_accepted sc talks a b c n0 n1 before mid after left halt s o start (named fit) k d lt w.frames part
      ∙ ap (λ y. links.arrivals sc (first_links sc y id) w.frames) (sym (held_is a sound start.live start.lawful x may)));
  kept = w.kept;
  answered = w.answered ∙ ap (λ (q : S). (talks q).answered ++ w.kept) (o.each k d lt).0;
  keeps = λ fit. subst (λ (l : List AckItem). AreSomeOf l w.kept) (sym (answers fit)) w.keeps;
  whole = λ fit none. w.whole none ∙ ap (map frame_for) (sym (answers fit));
  named = w.named ∙ (o.each k d lt).1;
  devices = λ device. w.devices device ∙ o.devices k d device lt;
  cause = λ is. subst (λ (q : S). Rose (talks q).failures (talks (slice_index_or after k d).source).failures) (o.each k d lt).0 (w.cause is);
  unexpected = w.unexpected;
  expected = w.expected;
  failed = λ none. w.failed none ∙ ap (λ (q : S). (talks q).failures) (o.each k d lt).0;
  none_held = w.none_held;
}
  where
    id : ℕ
    id = (slice_index_or before k d).collector.station

    starts : IsFitting a c → HasBegun sc a b before mid
    starts fit = has_begun sc a b before begun mid devices first then_ (s.written.wrote.clean fit.clean) fit.lawful

    named : IsFitting a c → AreNamed sc (s.all ++ s.inbox)
    named fit = all_named sc talks a b c n0 n1 before mid after left halt s (opened_stations sc a b before mid are o) o (starts fit)

    answers : IsFitting a c → history.answers_to sc id (history.all_answers (gathering_of s.written.entries (hand_of halt) (s.written.behind ++ s.inbox) s.last)) ≡ told_to sc k s.written.entries ++ history.answers_to sc (slice_index_or mid k d).collector.station s.last
    answers fit =
        let es = s.written.entries in
        let in_entries = named_front sc (items_of es) (in_hand (hand_of halt) ++ s.written.behind) (subst (AreNamed sc) s.written.all (named_front sc s.all s.inbox (named fit))) in
        answers_are sc b.value es (hand_of halt) (s.written.behind ++ s.inbox) s.last id k (are.each k d lt) in_entries (s.written.wrote.known fit.clean (starts fit).going (starts fit).fits)
        ∙ ap (λ (n : ℕ). told_to sc k es ++ history.answers_to sc n s.last) (sym (o.each k d lt).1)

station_talked : {S : Type 0} (sc : SchemeValue) (talks : S → Talk) (a b c : Standing OutboxValue) (n0 n1 : Tally) (before begun mid after : List (Station S)) (left : ℕ) (halt : Option Halt) (s : HasSession sc talks b c n0 n1 mid after left halt)
    → IsSound a → AreStations sc before → HaveDevices sc before → HaveBegun before begun → HaveResumed sc a b begun mid (Ok tt) → (k : ℕ) (d : Station S) → k < length before
    → HasTalked sc talks a c (gathering_of s.written.entries (hand_of halt) (s.written.behind ++ s.inbox) s.last) (slice_index_or before k d) (slice_index_or after k d)
station_talked {S} sc talks a b c n0 n1 before begun mid after left halt s sound are devices first then_ k d lt =
    let o = opened sc a b before begun mid (Ok tt) first then_ in
    let both = station_told sc talks b c n0 n1 mid after left halt s k d (let l = o.len in omega (arith, lt, l)) in
    station_talks sc talks a b c n0 n1 before begun mid after left halt s sound are devices first then_ o k d lt both.0 both.1

-- ALL OF IT
pub ran : {S : Type 0} (sc : SchemeValue) (talks : S → Talk) (a b c : Standing OutboxValue) (n0 n1 : Tally) → n0.stored ≡ 0 → n0.days.keys ≡ [] → (before begun mid after : List (Station S)) (left : ℕ) (halt : Option Halt) → IsSound a → AreStations sc before → HaveDevices sc before
    → HaveBegun before begun → HaveResumed sc a b begun mid (Ok tt) → HasSession sc talks b c n0 n1 mid after left halt → IsCollected sc talks a c before after n1.stored left (fault_of_halt halt)
ran {S} sc talks a b c n0 n1 zero_count unnoted before begun mid after left halt sound are devices first then_ s = record {
  g = gathering_of es hand (s.written.behind ++ s.inbox) s.last;
  says = λ fit x may.
      let start = starts fit.clean fit.lawful in
      subst (SaysOfGathering sc before (gathering_of es hand (s.written.behind ++ s.inbox) s.last) n1.stored (fault_of_halt halt)) (sym (held_is a sound start.live start.lawful x may)) (section_says sc talks a b c n0 n1 zero_count unnoted before mid after left halt s are o start fit.clean);
  outbox = λ fit. record {
    leads = λ v may.
        let start = starts fit.clean fit.lawful in
        (a.value, inl (start.live, refl), leads fit start v may);
  };
  holds = λ fit live. let start = starts fit.clean fit.lawful in (s.written.wrote.value live start.fits).1 ∙ value start;
  len = s.len ∙ o.len;
  each = station_talked sc talks a b c n0 n1 before begun mid after left halt s sound are devices first then_;
  left_is = s.count ∙ sym (left_length hand (s.written.behind ++ s.inbox));
  finished = λ e. (ap (λ (h : Option Halt). option_map item_of (hand_of h)) (no_halt halt e), λ i. map item_of (s.written.alone (ap hand_of (no_halt halt e)) i ++ s.empty (no_halt halt e) i));
  read = λ e k d lt none.
      let within : k < length mid = (let l = o.len in omega (arith, lt, l)) in
      (station_told sc talks b c n0 n1 mid after left halt s k d within).0.ended none ((s.read (no_halt halt e)).each k d within (let l = s.len in omega (arith, within, l)) none);
  at_end = λ e k d lt none.
      let within : k < length mid = (let l = o.len in omega (arith, lt, l)) in
      (s.read (no_halt halt e)).each k d within (let l = s.len in omega (arith, within, l)) none;
  cause = λ e. subst (λ n. Rose n c.failures) then_.wrote.cause (subst (Counted b.failures c.failures) (store_halt halt e) s.written.wrote.cause);
  stays = λ e clean. s.written.wrote.stays (ap fault_of (no_halt halt e)) (then_.begun refl (s.written.wrote.clean clean)) clean;
  follows = record {
    clean = λ clean. then_.wrote.clean (s.written.wrote.clean clean);
    live = λ live. then_.wrote.live (s.written.wrote.live live);
    lawful = λ live lawful. (s.written.wrote.value live (then_.wrote.value (s.written.wrote.live live) lawful).0).0;
    lasts = λ clean lawful lasting. s.written.wrote.lasts clean (λ live. (then_.wrote.value live (lawful (then_.wrote.live live))).0) (then_.wrote.lasts (s.written.wrote.clean clean) lawful lasting);
  };
}
  where
    es : List Entry
    es = s.written.entries

    hand : Option Arrived
    hand = hand_of halt

    o : HaveOpened sc a b before mid
    o = opened sc a b before begun mid (Ok tt) first then_

    starts : c.clean → (a.live → a.lawful) → HasBegun sc a b before mid
    starts clean lawful = has_begun sc a b before begun mid devices first then_ (s.written.wrote.clean clean) lawful

    value : HasBegun sc a b before mid → storing_all b.value es ≡ history.storing_all a.value (map entry_of es)
    value start = ap (λ x. storing_all x es) start.same ∙ sym (storing_is a.value es)

    leads : IsFitting a c → HasBegun sc a b before mid → (v : OutboxValue) → MayHold c v → IsStoredBy (gathering_of es hand (s.written.behind ++ s.inbox) s.last) a.value v
    leads fit start v (inl now) = record { count = 0; new = tt; value = now.1 ∙ ((s.written.wrote.value now.0 start.fits).1 ∙ value start) }
    leads fit start v (inr leaves) = leaves_by a.value es hand s.written.behind s.inbox s.last v s.written.alone (subst (λ x. LeavesOutbox x es (in_hand hand ++ s.written.behind) v) start.same (s.written.wrote.stop fit.clean start.going start.fits v leaves))
