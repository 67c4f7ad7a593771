-- How a session begins.
use Rattle.std.proofs.Common.{◌≡◌, ℕ, ◌+◌, ◌<◌, Bool, true, false, if◌then◌else◌, List, [], length, slice_index_or, Some, None, is_some, refl, sym, ap, ◌∙◌, inl, inr, arith}
use Rattle.std.specs.Prelude.{◌⊎◌, ◌≢◌, nat_lt, Option, option_map, Result, Ok, Err}
use Rattle.std.proofs.lemmas.List.{append-nil}
use Rattle.std.proofs.lemmas.Bool.Decides.{nat_tests}
use Rattle.fare_scheme.specs.Values.{SchemeValue}
use Rattle.fare_scheme.specs.Words.{station_of, position_of_station}
use Rattle.fare_collector.specs.Collecting.{is_id, next_in}
use Rattle.fare_store.specs.declared.fault.Fault.{Fault}
use Rattle.fare_store.specs.declared.fault.Fault.TheVariants as fault
use Rattle.fare_store.specs.Standing.{Standing}
use Rattle.fare_store.specs.OutboxWords.{OutboxValue}
use Rattle.fare_source.specs.Talking.{Talk}
use Rattle.fare_session.specs.Served.{Rose}
use Rattle.fare_writer.specs.declared.fault.WriterFault.{WriterFault}
use Rattle.fare_writer.specs.declared.fault.WriterFault.TheVariants as writer
use Rattle.fare_collect.specs.declared.fault.StationFault.{StationFault}
use Rattle.fare_collect.specs.declared.fault.StationFault.TheVariants.{Source, Unexpected}
use Rattle.fare_collect.specs.declared.station.Station.{Station}
use Rattle.fare_writer.specs.Writing.{as_writer, Wrote}
use Rattle.fare_collect.specs.Resting.{IsNoneOf}
use Rattle.fare_collect.specs.Resuming.{AreStations, resumed_next, HaveBegun, HaveResumed}
use Rattle.fare_collect.specs.Collected.{first_links, IsCollected}
use Rattle.fare_writer.proofs.Wrote.{none_more}
use Rattle.fare_collect.proofs.Places.{same_by_place}
use Rattle.fare_collect.proofs.Gathers.{gathering_of}

-- The stations are still their own, and go on behind what the opening outbox has had of their devices.
pub record HaveOpened {S : Type 0} (sc : SchemeValue) (old new : Standing OutboxValue) (before after : List (Station S)) : Type 0 where
  pub len : length after ≡ length before
  pub each : (k : ℕ) (d : Station S) → k < length before → ((slice_index_or after k d).source ≡ (slice_index_or before k d).source) × ((slice_index_or after k d).collector.station ≡ (slice_index_or before k d).collector.station) × ((slice_index_or after k d).end.fault ≡ None)
  pub devices : (k : ℕ) (d : Station S) (device : ℕ) → k < length before → is_some (next_in (slice_index_or after k d).collector device) ≡ is_some (next_in (slice_index_or before k d).collector device)

pub begun_stations : {S : Type 0} (sc : SchemeValue) (before after : List (Station S)) → AreStations sc before → HaveBegun before after → AreStations sc after
begun_stations {S} sc before after are begun = record {
  each = λ k d lt.
      let at : k < length before = let l = begun.len in omega (arith, lt, l) in
      ap (λ (t : Station S). position_of_station sc t.collector.station) (begun.each k d at) ∙ are.each k d at;
}

pub opened : {S : Type 0} (sc : SchemeValue) (a b : Standing OutboxValue) (before begun after : List (Station S)) (result : Result Unit Fault) → HaveBegun before begun → HaveResumed sc a b begun after result → HaveOpened sc a b before after
opened {S} sc a b before begun after result first then_ = record {
  len = then_.len ∙ first.len;
  each = λ k d lt.
      let at : k < length begun = let l = first.len in omega (arith, lt, l) in
      let one = first.each k d lt in
      let two = then_.each k d at in
      (two.0 ∙ ap (λ (t : Station S). t.source) one, two.1 ∙ ap (λ (t : Station S). t.collector.station) one, ap (λ e. e.fault) (then_.ends k d at) ∙ ap (λ (t : Station S). t.end.fault) one);
  devices = λ k d device lt. then_.devices k d device (let l = first.len in omega (arith, lt, l)) ∙ ap (λ (t : Station S). is_some (next_in t.collector device)) (first.each k d lt);
}

-- after a resume they are still the scheme's
pub opened_stations : {S : Type 0} (sc : SchemeValue) (a b : Standing OutboxValue) (before after : List (Station S)) → AreStations sc before → HaveOpened sc a b before after → AreStations sc after
opened_stations sc a b before after are o = record {
  each = λ k d lt.
      let at : k < length before = let l = o.len in omega (arith, lt, l) in
      ap (position_of_station sc) (o.each k d at).1 ∙ are.each k d at;
}

-- FIRST LINKS
first_is : (b : Bool) (o : Option ℕ) (n : ℕ) → is_some o ≡ b → (if b then option_map (λ _. n) o else o) ≡ (if b then Some n else None)
first_is true None n e = absurd (cc)
first_is true (Some m) n e = refl
first_is false None n e = refl
first_is false (Some m) n e = absurd (cc)

pub resumed_first : (sc : SchemeValue) (x : OutboxValue) (station : ℕ) (next : ℕ → Option ℕ) (device : ℕ) → is_some (next device) ≡ is_id (station_of sc device) station → resumed_next sc x.upto station next device ≡ first_links sc x station device
resumed_first sc x station next device known = first_is (is_id (station_of sc device) station) (next device) (x.upto device + 1) known

some_if : (b : Bool) (n : ℕ) → is_some (if b then Some n else None) ≡ b
some_if true n = refl
some_if false n = refl

pub first_known : (sc : SchemeValue) (x : OutboxValue) (station device : ℕ) → is_some (first_links sc x station device) ≡ is_id (station_of sc device) station
first_known sc x station device = some_if (is_id (station_of sc device) station) (x.upto device + 1)

-- A STATION IS HERE, OR NOT
pub here_or_not : {S : Type 0} (sc : SchemeValue) (stations : List (Station S)) (station : ℕ) → AreStations sc stations → ((k : ℕ) × (k < length stations) × ((d : Station S) → station ≡ (slice_index_or stations k d).collector.station)) ⊎ IsNoneOf station stations
here_or_not {S} sc stations station are = by (position_of_station sc station) refl
  where
    at_place : (k p : ℕ) (d : Station S) → k < length stations → position_of_station sc station ≡ Some p → station ≡ (slice_index_or stations k d).collector.station → k ≡ p
    at_place k p d lt at same =
        let both : ◌≡◌ {A = Option ℕ} (Some k) (Some p) = sym (are.each k d lt) ∙ (ap (position_of_station sc) (sym same) ∙ at) in
        cc

    by : (o : Option ℕ) → position_of_station sc station ≡ o → ((k : ℕ) × (k < length stations) × ((d : Station S) → station ≡ (slice_index_or stations k d).collector.station)) ⊎ IsNoneOf station stations
    by None at = inr (λ k d lt same. let both : ◌≡◌ {A = Option ℕ} (Some k) None = sym (are.each k d lt) ∙ (ap (position_of_station sc) (sym same) ∙ at) in absurd (cc))
    by (Some p) at = within (nat_lt p (length stations)) refl
      where
        within : (b : Bool) → nat_lt p (length stations) ≡ b → ((k : ℕ) × (k < length stations) × ((d : Station S) → station ≡ (slice_index_or stations k d).collector.station)) ⊎ IsNoneOf station stations
        within true e =
            let lt : p < length stations = grind (arith, nat_tests) in
            inl (p, lt, λ d. same_by_place sc stations p p station d are lt at refl)
        within false e = inr (λ k d lt same.
            let is = at_place k p d lt at same in
            let not_less : length stations < p + 1 = grind (arith, nat_tests) in
            absurd (omega (arith, is, lt, not_less)))

-- NO THREAD RAN
pub nothing : {S : Type 0} (sc : SchemeValue) (talks : S → Talk) (a b : Standing OutboxValue) (f : Option Fault) (before after : List (Station S)) (w : WriterFault)
    → Wrote sc a b [] [] f → HaveOpened sc a b before after → (w ≢ writer.Refused) → (w ≡ writer.Store → Rose a.failures b.failures) → IsCollected sc talks a b before after 0 0 (Some w)
nothing {S} sc talks a b f before after w wrote o other rose = record {
  g = gathering_of [] None [] [];
  says = λ fit x holds. record {
    gathering = record { counted = λ device. tt; stored = tt; room = omega arith; last = tt };
    stored = omega arith;
    others = λ station none. refl;
    known = tt;
    refused = λ e. let is : w ≡ writer.Refused = cc in absurd (other is);
    last = λ e. absurd (cc);
  };
  outbox = λ fit. record {
    leads = λ v may. elim may [
      | inl now ↦ (a.value, inl (wrote.live now.0, refl), none_more a.value [] v (now.1 ∙ (wrote.value now.0 (fit.lawful (wrote.live now.0))).1))
      | inr leaves ↦ elim (wrote.shut fit.clean fit.lawful v leaves) [
        | inl before ↦ (v, inr before, none_more v [] v refl)
        | inr live ↦ (a.value, inl (live, refl), wrote.stop fit.clean live (fit.lawful live) v leaves)
      ]
    ];
  };
  holds = λ fit live. (wrote.value live (fit.lawful (wrote.live live))).1;
  len = o.len;
  each = λ k d lt.
      let e = o.each k d lt in
      record {
        frames = [];
        held = None;
        given = ap (λ (s : S). (talks s).given) e.0 ∙ sym (append-nil (talks (slice_index_or before k d).source).given);
        accepted = λ fit x may. refl;
        kept = [];
        answered = ap (λ (s : S). (talks s).answered) e.0 ∙ sym (append-nil (talks (slice_index_or before k d).source).answered);
        keeps = λ fit. refl;
        whole = λ fit none. refl;
        named = e.1;
        devices = λ device. o.devices k d device lt;
        cause = λ is. absurd (let q : ◌≡◌ {A = Option StationFault} None (Some Source) = sym e.2 ∙ is in cc);
        unexpected = λ is. absurd (let q : ◌≡◌ {A = Option StationFault} None (Some Unexpected) = sym e.2 ∙ is in cc);
        expected = tt;
        failed = λ none. ap (λ (s : S). (talks s).failures) e.0;
        none_held = λ at_end. refl;
      };
  left_is = refl;
  finished = λ e. absurd (cc);
  read = λ e. absurd (cc);
  at_end = λ e. absurd (cc);
  cause = λ e. let is : w ≡ writer.Store = cc in rose is;
  stays = λ e. absurd (cc);
  follows = record { clean = wrote.clean; live = wrote.live; lawful = λ live lawful. (wrote.value live lawful).0; lasts = wrote.lasts };
}

-- the outbox failed before the stations had gone on
pub unread : {S : Type 0} (sc : SchemeValue) (talks : S → Talk) (a b : Standing OutboxValue) (before begun after : List (Station S)) (f : Fault) → HaveBegun before begun → HaveResumed sc a b begun after (Err f) → IsCollected sc talks a b before after 0 0 (Some (as_writer f))
unread sc talks a b before begun after fault.Memory first then_ = nothing sc talks a b (Some fault.Memory) before after writer.Memory then_.wrote (opened sc a b before begun after (Err fault.Memory) first then_) (λ e. absurd (cc)) (λ e. absurd (cc))
unread sc talks a b before begun after fault.Store first then_ = nothing sc talks a b (Some fault.Store) before after writer.Store then_.wrote (opened sc a b before begun after (Err fault.Store) first then_) (λ e. absurd (cc)) (λ e. then_.wrote.cause)

-- there was no memory for the queues
pub no_memory : {S : Type 0} (sc : SchemeValue) (talks : S → Talk) (a b : Standing OutboxValue) (before begun after : List (Station S)) → HaveBegun before begun → HaveResumed sc a b begun after (Ok tt) → IsCollected sc talks a b before after 0 0 (Some writer.Memory)
no_memory sc talks a b before begun after first then_ = nothing sc talks a b None before after writer.Memory then_.wrote (opened sc a b before begun after (Ok tt) first then_) (λ e. absurd (cc)) (λ e. absurd (cc))
