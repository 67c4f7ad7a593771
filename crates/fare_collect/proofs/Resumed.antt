-- The stations go on device by device, in order of registration.
use Rattle.std.proofs.Common.{◌≡◌, ℕ, ◌+◌, ◌<◌, ◌==◌, Bool, true, false, if◌then◌else◌, nat_lt, List, [], length, set, slice_index_or, Some, None, is_some, refl, sym, ap, ◌∙◌, subst, inl, inr, arith}
use Rattle.std.specs.Prelude.{◌≤◌, ◌≢◌, IsSome, nat_eq, Option, option_map, Ok, Err}
use Rattle.std.specs.Map.{keys_of}
use Rattle.std.proofs.lemmas.List.{get_or_default, get_or-set_same, get_or-set_other, length-set}
use Rattle.std.proofs.lemmas.List.Quantifiers.{position-Some}
use Rattle.std.proofs.lemmas.Map.Entries.{length-keys_of}
use Rattle.std.proofs.lemmas.Bool.Decides.{nat_tests, Decides-eqb}
use Rattle.fare_scheme.specs.Values.{SchemeValue}
use Rattle.fare_scheme.specs.Words.{station_of, position_of_device, position_of_station}
use Rattle.fare_scheme.specs.declared.entry.Placement.{Placement}
use Rattle.fare_scheme.proofs.Known.{id_at_place, part_found}
use Rattle.fare_collector.specs.Collecting.{is_id, next_in, changed}
use Rattle.fare_collector.proofs.Making.{is_before}
use Rattle.fare_store.specs.declared.fault.Fault.{Fault}
use Rattle.fare_store.specs.Standing.{Standing, IsSound}
use Rattle.fare_store.specs.OutboxWords.{OutboxValue}
use Rattle.fare_collect.specs.declared.station.Station.{Station}
use Rattle.fare_writer.specs.Writing.{Wrote}
use Rattle.fare_collect.specs.Resuming.{AreStations, resumed_next, HaveResumed}
use Rattle.fare_writer.proofs.Written.{wrote_none}
use Rattle.fare_collect.proofs.Last.{Reads_upto, read_ok, read_err}
use Rattle.fare_collect.proofs.Posted.{same_or_apart}
use Rattle.fare_collect.proofs.Places.{apart_by_place, same_by_place}

-- ONE STATION
-- what it accepts next of a device, where it goes on for the devices before a position
abbrev pub resuming_next : SchemeValue → (ℕ → ℕ) → ℕ → ℕ → (ℕ → Option ℕ) → ℕ → Option ℕ
resuming_next sc upto station position next device = if is_before (position_of_device sc device) position then resumed_next sc upto station next device else next device

by_test : (sc : SchemeValue) (upto : ℕ → ℕ) (station position : ℕ) (next : ℕ → Option ℕ) (device : ℕ) (b : Bool) → is_before (position_of_device sc device) position ≡ b → resuming_next sc upto station position next device ≡ (if b then resumed_next sc upto station next device else next device)
by_test sc upto station position next device b is = ap (λ t. if t then resumed_next sc upto station next device else next device) is

not_yet : (sc : SchemeValue) (upto : ℕ → ℕ) (station position : ℕ) (next : ℕ → Option ℕ) (device : ℕ) → position_of_device sc device ≡ Some position → resuming_next sc upto station position next device ≡ next device
not_yet sc upto station position next device at =
    let past : nat_lt position position ≡ false = grind (arith, nat_tests) in
    by_test sc upto station position next device false (ap (λ p. is_before p position) at ∙ past)

here : (sc : SchemeValue) (upto : ℕ → ℕ) (station p position : ℕ) (next : ℕ → Option ℕ) (device : ℕ) → position_of_device sc device ≡ Some p → p < position → resuming_next sc upto station position next device ≡ resumed_next sc upto station next device
here sc upto station p position next device at lt =
    let before : nat_lt p position ≡ true = grind (arith, nat_tests) in
    by_test sc upto station position next device true (ap (λ q. is_before q position) at ∙ before)

same_device : (sc : SchemeValue) (d e k : ℕ) → position_of_device sc d ≡ Some k → position_of_device sc e ≡ Some k → d ≡ e
same_device sc d e k p q = let both : ◌≡◌ {A = Option ℕ} (Some d) (Some e) = sym (id_at_place sc.devices d k p) ∙ id_at_place sc.devices e k q in cc

elsewhere : (sc : SchemeValue) (k device other : ℕ) → position_of_device sc device ≡ Some k → (other == device) ≡ false → is_before (position_of_device sc other) (k + 1) ≡ is_before (position_of_device sc other) k
elsewhere sc k device other at differ = by (position_of_device sc other) refl
  where
    not_same : other ≡ device → ⊥
    not_same same = absurd (grind (arith, nat_tests))

    by : (o : Option ℕ) → position_of_device sc other ≡ o → is_before o (k + 1) ≡ is_before o k
    by None _ = refl
    by (Some p) there =
        let apart : p ≡ k → ⊥ = λ same. not_same (same_device sc other device k (there ∙ ap Some same) at) in
        grind (arith, nat_tests, apart)

resumed_by : (sc : SchemeValue) (upto : ℕ → ℕ) (station : ℕ) (one two : ℕ → Option ℕ) (device : ℕ) → one device ≡ two device → resumed_next sc upto station one device ≡ resumed_next sc upto station two device
resumed_by sc upto station one two device same = ap (λ (o : Option ℕ). if is_id (station_of sc device) station then option_map (λ _. upto device + 1) o else o) same

-- one device more
one_resumed : (sc : SchemeValue) (upto : ℕ → ℕ) (station k device : ℕ) (old now new : ℕ → Option ℕ) → position_of_device sc device ≡ Some k
    → ((d : ℕ) → now d ≡ resuming_next sc upto station k old d) → new device ≡ resumed_next sc upto station now device → ((d : ℕ) → (d == device) ≡ false → new d ≡ now d)
    → (d : ℕ) → new d ≡ resuming_next sc upto station (k + 1) old d
one_resumed sc upto station k device old now new at before this others d = by (d == device) refl
  where
    by : (b : Bool) → (d == device) ≡ b → new d ≡ resuming_next sc upto station (k + 1) old d
    by true same =
        let is : d ≡ device = (Decides-eqb d device).0 same in
        let was : now device ≡ old device = before device ∙ not_yet sc upto station k old device at in
        ap new is ∙ (this ∙ (resumed_by sc upto station now old device was ∙ (sym (here sc upto station k (k + 1) old device at (omega arith)) ∙ sym (ap (resuming_next sc upto station (k + 1) old) is))))
    by false differ = others d differ ∙ (before d ∙ ap (λ t. if t then resumed_next sc upto station old d else old d) (sym (elsewhere sc k device d at differ)))

-- none of them
none_resumed : (sc : SchemeValue) (upto : ℕ → ℕ) (station : ℕ) (old : ℕ → Option ℕ) (device : ℕ) → old device ≡ resuming_next sc upto station 0 old device
none_resumed sc upto station old device = by (position_of_device sc device) refl
  where
    by : (o : Option ℕ) → position_of_device sc device ≡ o → old device ≡ resuming_next sc upto station 0 old device
    by None at = sym (by_test sc upto station 0 old device false (ap (λ p. is_before p 0) at))
    by (Some p) at =
        let past : nat_lt p 0 ≡ false = grind (arith, nat_tests) in
        sym (by_test sc upto station 0 old device false (ap (λ p. is_before p 0) at ∙ past))

-- all of them; a device that isn't registered has no station
all_resumed : (sc : SchemeValue) (upto : ℕ → ℕ) (station n : ℕ) (old : ℕ → Option ℕ) (device : ℕ) → length sc.devices ≤ n → resuming_next sc upto station n old device ≡ resumed_next sc upto station old device
all_resumed sc upto station n old device le = by (position_of_device sc device) refl
  where
    none : (o : Option ℕ) → (IsSome o → IsSome (position_of_device sc device)) → position_of_device sc device ≡ None → old device ≡ (if is_id o station then option_map (λ _. upto device + 1) (old device) else old device)
    none None _ _ = refl
    none (Some s) found absent = absurd (let h : true ≡ false = sym (found refl) ∙ ap is_some absent in cc)

    by : (o : Option ℕ) → position_of_device sc device ≡ o → resuming_next sc upto station n old device ≡ resumed_next sc upto station old device
    by None at = by_test sc upto station n old device false (ap (λ p. is_before p n) at) ∙ none (station_of sc device) (part_found (λ (d : Placement). d.station) sc.devices device).0 at
    by (Some p) at =
        let below : p < length (keys_of sc.devices) = (position-Some (nat_eq device) (keys_of sc.devices) p 0 at).0 in
        here sc upto station p n old device at (omega (arith, below, le, length-keys_of sc.devices))

-- a device's own station goes on, and no other
own_goes : (sc : SchemeValue) (upto : ℕ → ℕ) (station device u : ℕ) (now new : ℕ → Option ℕ) → station_of sc device ≡ Some station → u ≡ upto device
    → ((d : ℕ) → new d ≡ changed (λ _. u + 1) now device d) → new device ≡ resumed_next sc upto station now device
own_goes sc upto station device u now new of is after =
    let self : (device == device) ≡ true = (Decides-eqb device device).1 refl in
    let own : (station == station) ≡ true = (Decides-eqb station station).1 refl in
    after device ∙ (ap (λ t. if t then option_map (λ _. u + 1) (now device) else now device) self
    ∙ (ap (λ n. option_map (λ _. n + 1) (now device)) is
    ∙ sym (ap (λ o. if is_id o station then option_map (λ _. upto device + 1) (now device) else now device) of ∙ ap (λ t. if t then option_map (λ _. upto device + 1) (now device) else now device) own)))

others_stay : (device u : ℕ) (now new : ℕ → Option ℕ) → ((d : ℕ) → new d ≡ changed (λ _. u + 1) now device d) → (d : ℕ) → (d == device) ≡ false → new d ≡ now d
others_stay device u now new after d differ = after d ∙ ap (λ t. if t then option_map (λ _. u + 1) (now d) else now d) differ

other_stays : (sc : SchemeValue) (upto : ℕ → ℕ) (station id device : ℕ) (now : ℕ → Option ℕ) → station_of sc device ≡ Some id → (id ≡ station → ⊥) → now device ≡ resumed_next sc upto station now device
other_stays sc upto station id device now of apart =
    let differ : (id == station) ≡ false = grind (arith, nat_tests, apart) in
    sym (ap (λ o. if is_id o station then option_map (λ _. upto device + 1) (now device) else now device) of ∙ ap (λ t. if t then option_map (λ _. upto device + 1) (now device) else now device) differ)

-- it knows the same devices, whatever it accepts of one
known_changed : (f : ℕ → ℕ) (next : ℕ → Option ℕ) (key device : ℕ) → is_some (changed f next key device) ≡ is_some (next device)
known_changed f next key device = by (device == key) (next device)
  where
    by : (b : Bool) (o : Option ℕ) → is_some (if b then option_map f o else o) ≡ is_some o
    by true None = refl
    by true (Some n) = refl
    by false o = refl

-- ALL STATIONS
-- they go on for the devices before a position
pub record AreResuming {S : Type 0} (sc : SchemeValue) (old new : Standing OutboxValue) (before after : List (Station S)) (position : ℕ) : Type 0 where
  pub wrote : Wrote sc old new [] [] None
  pub len : length after ≡ length before
  pub each : (k : ℕ) (d : Station S) → k < length before → ((slice_index_or after k d).source ≡ (slice_index_or before k d).source) × ((slice_index_or after k d).collector.station ≡ (slice_index_or before k d).collector.station)
  pub ends : (k : ℕ) (d : Station S) → k < length before → (slice_index_or after k d).end ≡ (slice_index_or before k d).end
  pub devices : (k : ℕ) (d : Station S) (device : ℕ) → k < length before → is_some (next_in (slice_index_or after k d).collector device) ≡ is_some (next_in (slice_index_or before k d).collector device)
  pub begun : 0 < position → new.clean → new.live
  pub next : new.live → old.lawful → (k : ℕ) (d : Station S) (device : ℕ) → k < length before
      → next_in (slice_index_or after k d).collector device ≡ resuming_next sc old.value.upto (slice_index_or before k d).collector.station position (next_in (slice_index_or before k d).collector) device

pub resuming_none : {S : Type 0} (sc : SchemeValue) (s : Standing OutboxValue) (stations : List (Station S)) → IsSound s → AreResuming sc s s stations stations 0
resuming_none sc s stations sound = record {
  wrote = wrote_none sc s sound;
  len = refl;
  each = λ k d lt. (refl, refl);
  ends = λ k d lt. refl;
  devices = λ k d device lt. refl;
  begun = λ lt clean. absurd (omega (arith, lt));
  next = λ live lawful k d device lt. none_resumed sc s.value.upto (slice_index_or stations k d).collector.station (next_in (slice_index_or stations k d).collector) device;
}

pub resuming_failed : {S : Type 0} (sc : SchemeValue) (a b c : Standing OutboxValue) (first now : List (Station S)) (position device : ℕ) (f : Fault) → IsSound b → AreResuming sc a b first now position → Reads_upto b c device (Err f) → HaveResumed sc a c first now (Err f)
resuming_failed sc a b c first now position device f sound was read = record {
  wrote = read_err sc a b c device f sound was.wrote read;
  len = was.len;
  each = was.each;
  ends = was.ends;
  devices = was.devices;
  begun = λ ok. absurd (cc);
  next = λ ok. absurd (cc);
}

pub resumed_all : {S : Type 0} (sc : SchemeValue) (a b : Standing OutboxValue) (first now : List (Station S)) (position : ℕ) → 1 ≤ length sc.devices → length sc.devices ≤ position → AreResuming sc a b first now position → HaveResumed sc a b first now (Ok tt)
resumed_all sc a b first now position some le was = record {
  wrote = was.wrote;
  len = was.len;
  each = was.each;
  ends = was.ends;
  devices = was.devices;
  begun = λ ok clean. was.begun (omega (arith, some, le)) clean;
  next = λ ok live lawful k d device lt. was.next live lawful k d device lt ∙ all_resumed sc a.value.upto (slice_index_or first k d).collector.station position (next_in (slice_index_or first k d).collector) device le;
}

-- a device of a station that isn't here
pub resuming_past : {S : Type 0} (sc : SchemeValue) (a b c : Standing OutboxValue) (first now : List (Station S)) (position device u id place : ℕ) → IsSound b → AreStations sc first → AreResuming sc a b first now position → Reads_upto b c device (Ok u)
    → position_of_device sc device ≡ Some position → station_of sc device ≡ Some id → position_of_station sc id ≡ Some place → length now ≤ place → AreResuming sc a c first now (position + 1)
resuming_past {S} sc a b c first now position device u id place sound are was read at of stands beyond = record {
  wrote = read_ok sc a b c device u sound was.wrote read;
  len = was.len;
  each = was.each;
  ends = was.ends;
  devices = was.devices;
  begun = λ lt clean. read.stays refl clean;
  next = λ live lawful k d dev lt.
      let station = (slice_index_or first k d).collector.station in
      let then_ = next_in (slice_index_or now k d).collector in
      let before = was.next (read.live live) lawful k d in
      let differ : k ≢ place = (let l = was.len in λ e. absurd (omega (arith, e, lt, beyond, l))) in
      one_resumed sc a.value.upto station position device (next_in (slice_index_or first k d).collector) then_ then_ at (λ e. before e lt)
      (other_stays sc a.value.upto station id device then_ of (apart_by_place sc first k place id d are lt stands differ)) (λ e _. refl) dev;
}

-- its station goes on
pub resuming_more : {S : Type 0} (sc : SchemeValue) (a b c : Standing OutboxValue) (first now : List (Station S)) (position device u id place : ℕ) (x y : Station S) → IsSound b → AreStations sc first → AreResuming sc a b first now position → Reads_upto b c device (Ok u)
    → position_of_device sc device ≡ Some position → station_of sc device ≡ Some id → position_of_station sc id ≡ Some place → place < length now → x ≡ slice_index_or now place x → y.source ≡ x.source → y.end ≡ x.end → y.collector.station ≡ x.collector.station
    → ((other : ℕ) → next_in y.collector other ≡ changed (λ _. u + 1) (next_in x.collector) device other) → AreResuming sc a c first (set now place y) (position + 1)
resuming_more {S} sc a b c first now position device u id place x y sound are was read at of stands within here_ source ends named goes = record {
  wrote = read_ok sc a b c device u sound was.wrote read;
  len = length-set now place y ∙ was.len;
  each = λ k d below. elim (same_or_apart k place) [
    | inl e ↦
        let w = was.each k d below in
        let one : x ≡ slice_index_or now k d = here_ ∙ (get_or_default now place x d within ∙ ap (λ j. slice_index_or now j d) (sym e)) in
        let two : y ≡ slice_index_or (set now place y) k d = sym (ap (λ j. slice_index_or (set now place y) j d) e ∙ get_or-set_same now place y d within) in (
          sym (ap (λ (t : Station S). t.source) two) ∙ (source ∙ (ap (λ (t : Station S). t.source) one ∙ w.0)),
          sym (ap (λ (t : Station S). t.collector.station) two) ∙ (named ∙ (ap (λ (t : Station S). t.collector.station) one ∙ w.1)),
        )
    | inr differ ↦
        let w = was.each k d below in
        let same = get_or-set_other now place k y d differ in
        (ap (λ (t : Station S). t.source) same ∙ w.0, ap (λ (t : Station S). t.collector.station) same ∙ w.1)
  ];
  ends = λ k d below. elim (same_or_apart k place) [
    | inl e ↦
        let w = was.ends k d below in
        let one : x ≡ slice_index_or now k d = here_ ∙ (get_or_default now place x d within ∙ ap (λ j. slice_index_or now j d) (sym e)) in
        let two : y ≡ slice_index_or (set now place y) k d = sym (ap (λ j. slice_index_or (set now place y) j d) e ∙ get_or-set_same now place y d within) in
        sym (ap (λ (t : Station S). t.end) two) ∙ (ends ∙ (ap (λ (t : Station S). t.end) one ∙ w))
    | inr differ ↦ ap (λ (t : Station S). t.end) (get_or-set_other now place k y d differ) ∙ was.ends k d below
  ];
  devices = λ k d dev below. elim (same_or_apart k place) [
    | inl e ↦
        let one : x ≡ slice_index_or now k d = here_ ∙ (get_or_default now place x d within ∙ ap (λ j. slice_index_or now j d) (sym e)) in
        let two : y ≡ slice_index_or (set now place y) k d = sym (ap (λ j. slice_index_or (set now place y) j d) e ∙ get_or-set_same now place y d within) in
        ap (λ (t : Station S). is_some (next_in t.collector dev)) (sym two)
        ∙ (ap is_some (goes dev)
        ∙ (known_changed (λ _. u + 1) (next_in x.collector) device dev
        ∙ (ap (λ (t : Station S). is_some (next_in t.collector dev)) one ∙ was.devices k d dev below)))
    | inr differ ↦ ap (λ (t : Station S). is_some (next_in t.collector dev)) (get_or-set_other now place k y d differ) ∙ was.devices k d dev below
  ];
  begun = λ lt clean. read.stays refl clean;
  next = λ live lawful k d dev lt.
      let station = (slice_index_or first k d).collector.station in
      let old = next_in (slice_index_or first k d).collector in
      let then_ = next_in (slice_index_or now k d).collector in
      let new = next_in (slice_index_or (set now place y) k d).collector in
      let before = was.next (read.live live) lawful k d in
      elim (same_or_apart k place) [
        | inl e ↦
            let one : x ≡ slice_index_or now k d = here_ ∙ (get_or_default now place x d within ∙ ap (λ j. slice_index_or now j d) (sym e)) in
            let two : y ≡ slice_index_or (set now place y) k d = sym (ap (λ j. slice_index_or (set now place y) j d) e ∙ get_or-set_same now place y d within) in
            let P : Station S × Station S → Type 0 = λ q. (other : ℕ) → next_in q.1.collector other ≡ changed (λ _. u + 1) (next_in q.0.collector) device other in
            let after : P (slice_index_or now k d, slice_index_or (set now place y) k d) = subst P (λ i. (one i, two i)) goes in
            let value = was.wrote.value (read.live live) lawful in
            let is : u ≡ a.value.upto device = (read.value live value.0).1.1 ∙ ap (λ (v : OutboxValue). v.upto device) value.1 in
            let own : station_of sc device ≡ Some station = of ∙ ap Some (same_by_place sc first k place id d are lt stands e) in
            one_resumed sc a.value.upto station position device old then_ new at (λ q. before q lt)
            (own_goes sc a.value.upto station device u then_ new own is after) (others_stay device u then_ new after) dev
        | inr differ ↦
            let same : new ≡ then_ = ap (λ (t : Station S). next_in t.collector) (get_or-set_other now place k y d differ) in
            ap (λ (n : ℕ → Option ℕ). n dev) same ∙ one_resumed sc a.value.upto station position device old then_ then_ at (λ q. before q lt)
            (other_stays sc a.value.upto station id device then_ of (apart_by_place sc first k place id d are lt stands differ)) (λ q _. refl) dev
      ];
}
