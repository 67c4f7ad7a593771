-- The last acknowledgements, one more.
use Rattle.std.proofs.Common.{◌≡◌, ℕ, zero, suc, ◌+◌, ◌<◌, ◌≤◌, ◌==◌, Bool, true, false, List, [], ◌∷◌, ◌++◌, length, set, take, slice_index_or, Some, None, is_some, refl, sym, ap, ◌∙◌, subst, inl, inr, arith}
use Rattle.std.specs.Prelude.{◌≢◌, ◌⊎◌, Option, Result, Ok, Err, if◌then◌else◌, map, filter}
use Rattle.std.specs.List.{AllByRecursion}
use Rattle.std.proofs.lemmas.List.{get_or_default, get_or-set_same, get_or-set_other, length-set, take_all, map-append}
use Rattle.std.proofs.lemmas.List.Elements.{filter-append}
use Rattle.std.proofs.lemmas.Bool.Decides.{nat_tests}
use Rattle.fare_scheme.specs.Values.{SchemeValue}
use Rattle.fare_scheme.specs.Words.{id_at, station_of, position_of_station}
use Rattle.fare_collector.specs.Collecting.{is_id}
use Rattle.fare_store.specs.declared.fault.Fault.{Fault}
use Rattle.fare_store.specs.Standing.{Standing, IsSound, Reads, fault_of}
use Rattle.fare_session.proofs.StoreCalls.{called}
use Rattle.fare_store.specs.OutboxWords.{OutboxValue}
use Rattle.fare_record.specs.declared.ack_item.AckItem.{AckItem}
use Rattle.fare_record.specs.declared.ack_item.AckItem.TheVariants.{Upto}
use Rattle.fare_history.specs.Gathering.{device_answered, answers_to, IsAnswerFrom}
use Rattle.fare_collect.specs.declared.station.Station.{Station}
use Rattle.fare_source.specs.Talking.{Talk}
use Rattle.fare_writer.specs.Writing.{Wrote, Asks}
use Rattle.fare_collect.specs.Resuming.{AreStations}
use Rattle.fare_store.specs.Keys.{Key}
use Rattle.fare_route.specs.Stating.{are_all_stated}
use Rattle.fare_collect.specs.Noting.{day_ack, day_acks}
use Rattle.fare_collect.specs.Ending.{IsHanded, last_ack, acks_of, last_acks, AreSent, HaveSent, HaveLast}
use Rattle.fare_writer.proofs.Written.{wrote_none}
use Rattle.fare_writer.proofs.Wrote.{wrote_then, wrote_read}
use Rattle.fare_collect.proofs.Handed.{handed_none, handed_then}
use Rattle.fare_collect.proofs.Posted.{same_or_apart}
use Rattle.fare_collect.proofs.Places.{apart_by_place, same_by_place}

abbrev pub Reads_upto : Standing OutboxValue → Standing OutboxValue → ℕ → Result ℕ Fault → Type 0
Reads_upto b c device r = Reads b c (λ u. u ≡ b.value.upto device) r

pub read_ok : (sc : SchemeValue) (a b c : Standing OutboxValue) (device u : ℕ) → IsSound b → Wrote sc a b [] [] None → Reads_upto b c device (Ok u) → Wrote sc a c [] [] None
read_ok sc a b c device u sound was read = wrote_then sc a b c [] [] [] None was (wrote_read sc b c None (u ≡ b.value.upto device) sound (called b c None ((c.value ≡ b.value) × (u ≡ b.value.upto device)) (λ v. ⊥) read))

pub read_err : (sc : SchemeValue) (a b c : Standing OutboxValue) (device : ℕ) (f : Fault) → IsSound b → Wrote sc a b [] [] None → Reads_upto b c device (Err f) → Wrote sc a c [] [] (Some f)
read_err sc a b c device f sound was read = wrote_then sc a b c [] [] [] (Some f) was (wrote_read sc b c (Some f) (Unit {0}) sound (called b c (Some f) ((c.value ≡ b.value) × Unit {0}) (λ v. ⊥) read))

-- ANSWERS TO THE STATIONS
pub nothing_handed : {S : Type 0} (talks : S → Talk) (s : Station S) → IsHanded talks [] s s
nothing_handed talks s = record { handed = handed_none _ _; collector = refl; held = refl; at_end = refl }

pub sent_none : {S : Type 0} (sc : SchemeValue) (talks : S → Talk) (stations : List (Station S)) → AreSent sc talks [] stations stations
sent_none sc talks stations = record { len = refl; each = λ k d lt. nothing_handed talks (slice_index_or stations k d) }

pub sent_then : {S : Type 0} (sc : SchemeValue) (talks : S → Talk) (xs ys : List AckItem) (a b c : List (Station S)) → AreSent sc talks xs a b → AreSent sc talks ys b c → AreSent sc talks (xs ++ ys) a c
sent_then {S} sc talks xs ys a b c first second = record {
  len = second.len ∙ first.len;
  each = λ k d lt.
      let one = first.each k d lt in
      let two = second.each k d (let l = first.len in omega (arith, lt, l)) in
      let station = (slice_index_or a k d).collector.station in
      let same : (slice_index_or b k d).collector.station ≡ station = ap (λ c. c.station) one.collector in
      let there : IsHanded talks (answers_to sc station ys) (slice_index_or b k d) (slice_index_or c k d) = subst (λ (n : ℕ). IsHanded talks (answers_to sc n ys) (slice_index_or b k d) (slice_index_or c k d)) same two in
      subst (λ (l : List AckItem). IsHanded talks l (slice_index_or a k d) (slice_index_or c k d)) (sym (filter-append _ xs ys))
      (record {
        handed = handed_then _ _ _ (answers_to sc station xs) (answers_to sc station ys) _ _ _ one.handed there.handed;
        collector = there.collector ∙ one.collector;
        held = there.held ∙ one.held;
        at_end = there.at_end ∙ one.at_end;
      });
}

own_answer : (sc : SchemeValue) (id station : ℕ) (item : AckItem) → station_of sc (device_answered item) ≡ Some id → id ≡ station → answers_to sc station (item ∷ []) ≡ item ∷ []
own_answer sc id station item of same =
    let is : (id == station) ≡ true = grind (arith, nat_tests, same) in
    ap (λ (b : Bool). if b then item ∷ [] else []) (ap (λ (o : Option ℕ). is_id o station) of ∙ is)

no_answer : (sc : SchemeValue) (id station : ℕ) (item : AckItem) → station_of sc (device_answered item) ≡ Some id → (id ≡ station → ⊥) → answers_to sc station (item ∷ []) ≡ []
no_answer sc id station item of apart =
    let is : (id == station) ≡ false = grind (arith, nat_tests, apart) in
    ap (λ (b : Bool). if b then item ∷ [] else []) (ap (λ (o : Option ℕ). is_id o station) of ∙ is)

-- an answer to a device of a station that isn't here
pub sent_past : {S : Type 0} (sc : SchemeValue) (talks : S → Talk) (now : List (Station S)) (item : AckItem) (id place : ℕ) → AreStations sc now → station_of sc (device_answered item) ≡ Some id → position_of_station sc id ≡ Some place → length now ≤ place → AreSent sc talks (item ∷ []) now now
sent_past {S} sc talks now item id place are of stands beyond = record {
  len = refl;
  each = λ k d lt.
      let differ : k ≢ place = λ e. absurd (omega (arith, e, lt, beyond)) in
      subst (λ (l : List AckItem). IsHanded talks l (slice_index_or now k d) (slice_index_or now k d)) (sym (no_answer sc id (slice_index_or now k d).collector.station item of (apart_by_place sc now k place id d are lt stands differ))) (nothing_handed talks (slice_index_or now k d));
}

-- an answer that its device's station was handed
pub sent_one : {S : Type 0} (sc : SchemeValue) (talks : S → Talk) (now : List (Station S)) (item : AckItem) (id place : ℕ) (x y : Station S) → AreStations sc now → station_of sc (device_answered item) ≡ Some id → position_of_station sc id ≡ Some place
    → place < length now → x ≡ slice_index_or now place x → IsHanded talks (item ∷ []) x y → AreSent sc talks (item ∷ []) now (set now place y)
sent_one {S} sc talks now item id place x y are of stands within here hand = record {
  len = length-set now place y;
  each = λ k d lt. elim (same_or_apart k place) [
    | inl e ↦
        let one : x ≡ slice_index_or now k d = here ∙ (get_or_default now place x d within ∙ ap (λ j. slice_index_or now j d) (sym e)) in
        let two : y ≡ slice_index_or (set now place y) k d = sym (ap (λ j. slice_index_or (set now place y) j d) e ∙ get_or-set_same now place y d within) in
        let own : item ∷ [] ≡ answers_to sc (slice_index_or now k d).collector.station (item ∷ []) = sym (own_answer sc id (slice_index_or now k d).collector.station item of (same_by_place sc now k place id d are lt stands e)) in
        let P : List AckItem × (Station S × Station S) → Type 0 = λ q. IsHanded talks q.0 q.1.0 q.1.1 in
        subst P (λ i. (own i, (one i, two i))) hand
    | inr differ ↦
        let same : slice_index_or now k d ≡ slice_index_or (set now place y) k d = sym (get_or-set_other now place k y d differ) in
        let none : [] ≡ answers_to sc (slice_index_or now k d).collector.station (item ∷ []) = sym (no_answer sc id (slice_index_or now k d).collector.station item of (apart_by_place sc now k place id d are lt stands differ)) in
        let P : List AckItem × Station S → Type 0 = λ q. IsHanded talks q.0 (slice_index_or now k d) q.1 in
        subst P (λ i. (none i, same i)) (nothing_handed talks (slice_index_or now k d))
  ];
}

-- the stations stay the scheme's
pub stations_after : {S : Type 0} (sc : SchemeValue) (talks : S → Talk) (answers : List AckItem) (first now : List (Station S)) → AreStations sc first → AreSent sc talks answers first now → AreStations sc now
stations_after sc talks answers first now are sent = record {
  each = λ k d lt.
      let at : k < length first = let l = sent.len in omega (arith, lt, l) in
      ap (λ c. position_of_station sc c.station) (sent.each k d at).collector ∙ are.each k d at;
}

-- WHAT IS SENT
all_append : (sc : SchemeValue) (x : OutboxValue) (xs ys : List AckItem) → AllByRecursion (IsAnswerFrom sc x) xs → AllByRecursion (IsAnswerFrom sc x) ys → AllByRecursion (IsAnswerFrom sc x) (xs ++ ys)
all_append sc x [] ys first second = second
all_append sc x (a ∷ xs) ys first second = (first.0, all_append sc x xs ys first.1 second)

pub have_none : {S : Type 0} (sc : SchemeValue) (talks : S → Talk) (s : Standing OutboxValue) (stations : List (Station S)) → IsSound s → HaveSent sc talks s s stations stations (λ x. []) (Ok tt)
have_none sc talks s stations sound = record { wrote = wrote_none sc s sound; answers = []; sent = sent_none sc talks stations; began = inl refl; from = λ clean lawful. tt; whole = λ e clean lawful. refl }

-- what was due, and then more
pub have_more : {S : Type 0} (sc : SchemeValue) (talks : S → Talk) (a b c : Standing OutboxValue) (first now next : List (Station S)) (due more : OutboxValue → List AckItem) (result : Result Unit Fault)
    → HaveSent sc talks a b first now due (Ok tt) → HaveLast sc talks b c now next more result → HaveLast sc talks a c first next (λ x. due x ++ more x) result
have_more {S} sc talks a b c first now next due more result was then_ = record {
  have = record {
    wrote = wrote_then sc a b c [] [] [] (fault_of result) was.wrote then_.have.wrote;
    answers = was.answers ++ then_.have.answers;
    sent = sent_then sc talks was.answers then_.have.answers first now next was.sent then_.have.sent;
    began = elim then_.have.began [
      | inl none ↦ elim was.began [
        | inl nothing ↦ inl (λ i. nothing i ++ none i)
        | inr live ↦ inr (λ clean. live (then_.have.wrote.clean clean))
      ]
      | inr live ↦ inr (λ clean. was.wrote.live (live clean))
    ];
    from = λ clean lawful. all_append sc a.value was.answers then_.have.answers (was.from (then_.have.wrote.clean clean) lawful) (later clean lawful then_.have.began);
    whole = λ e clean lawful.
        (λ i. was.whole refl (then_.have.wrote.clean clean) lawful i ++ then_.have.whole e clean (λ live. (same lawful live).0) i)
        ∙ ap (λ x. due a.value ++ more x) (same lawful (then_.read e clean)).1;
  };
  read = λ e clean. was.wrote.live (then_.read e clean);
}
  where
    same : (a.live → a.lawful) → b.live → b.lawful × (b.value ≡ a.value)
    same lawful live = was.wrote.value live (lawful (was.wrote.live live))

    later : c.clean → (a.live → a.lawful) → (then_.have.answers ≡ []) ⊎ (c.clean → b.live) → AllByRecursion (IsAnswerFrom sc a.value) then_.have.answers
    later clean lawful (inl none) = subst (λ (l : List AckItem). AllByRecursion (IsAnswerFrom sc a.value) l) (sym none) tt
    later clean lawful (inr live) = subst (λ (x : OutboxValue). AllByRecursion (IsAnswerFrom sc x) then_.have.answers) (same lawful (live clean)).1 (then_.have.from clean (λ alive. (same lawful alive).0))

-- the same, said otherwise
pub have_same : {S : Type 0} (sc : SchemeValue) (talks : S → Talk) (a b : Standing OutboxValue) (first now : List (Station S)) (due more : OutboxValue → List AckItem) (result : Result Unit Fault)
    → ((x : OutboxValue) → due x ≡ more x) → HaveSent sc talks a b first now due result → HaveSent sc talks a b first now more result
have_same sc talks a b first now due more result same was = record { wrote = was.wrote; answers = was.answers; sent = was.sent; began = was.began; from = was.from; whole = λ e clean lawful. was.whole e clean lawful ∙ same a.value }

-- and then the outbox failed
pub have_failed : {S : Type 0} (sc : SchemeValue) (talks : S → Talk) (a b c : Standing OutboxValue) (first now : List (Station S)) (due more : OutboxValue → List AckItem) (f : Fault)
    → HaveSent sc talks a b first now due (Ok tt) → Wrote sc b c [] [] (Some f) → HaveSent sc talks a c first now more (Err f)
have_failed sc talks a b c first now due more f was reads = record {
  wrote = wrote_then sc a b c [] [] [] (Some f) was.wrote reads;
  answers = was.answers;
  sent = was.sent;
  began = elim was.began [ inl none ↦ inl none | inr live ↦ inr (λ clean. live (reads.clean clean)) ];
  from = λ clean lawful. was.from (reads.clean clean) lawful;
  whole = λ e. absurd (cc);
}

pub no_last : {S : Type 0} (sc : SchemeValue) (talks : S → Talk) (a b : Standing OutboxValue) (first now : List (Station S)) (due : OutboxValue → List AckItem) (f : Fault) → HaveSent sc talks a b first now due (Err f) → HaveLast sc talks a b first now due (Err f)
no_last sc talks a b first now due f have = record { have = have; read = λ e. absurd (cc) }

-- EACH DAY
asked_read : (sc : SchemeValue) (b c : Standing OutboxValue) (k : Key) (held : Bool) → IsSound b → Asks b c (λ all. all ≡ are_all_stated sc b.value k.1 k.2) (Ok held) → Wrote sc b c [] [] None
asked_read sc b c k held sound asks = wrote_read sc b c None (held ≡ are_all_stated sc b.value k.1 k.2) sound asks

pub asked_failed : (sc : SchemeValue) (b c : Standing OutboxValue) (k : Key) (f : Fault) → IsSound b → Asks b c (λ all. all ≡ are_all_stated sc b.value k.1 k.2) (Err f) → Wrote sc b c [] [] (Some f)
asked_failed sc b c k f sound asks = wrote_read sc b c (Some f) (Unit {0}) sound asks

-- its acknowledgement, where the outbox holds the statements of all owners
one_day : (sc : SchemeValue) (x : OutboxValue) (k : Key) (held : Bool) → are_all_stated sc x k.1 k.2 ≡ held → day_acks sc x (k ∷ []) ≡ (if held then day_ack k ∷ [] else [])
one_day sc x k true e = ap (λ (b : Bool). map day_ack (if b then k ∷ [] else [])) e
one_day sc x k false e = ap (λ (b : Bool). map day_ack (if b then k ∷ [] else [])) e

pub day_told : {S : Type 0} (sc : SchemeValue) (talks : S → Talk) (b c : Standing OutboxValue) (now next : List (Station S)) (k : Key) → IsSound b → Asks b c (λ all. all ≡ are_all_stated sc b.value k.1 k.2) (Ok true) → (c.clean → b.live)
    → is_some (station_of sc k.1) ≡ true → AreSent sc talks (day_ack k ∷ []) now next → HaveLast sc talks b c now next (λ x. day_acks sc x (k ∷ [])) (Ok tt)
day_told sc talks b c now next k sound asks live known sent = record {
  have = record {
    wrote = asked_read sc b c k true sound asks;
    answers = day_ack k ∷ [];
    sent = sent;
    began = inr live;
    from = λ clean lawful. ((known, held clean lawful), tt);
    whole = λ e clean lawful. sym (one_day sc b.value k true (held clean lawful));
  };
  read = λ e. live;
}
  where
    held : c.clean → (b.live → b.lawful) → are_all_stated sc b.value k.1 k.2 ≡ true
    held clean lawful = let on = live clean in sym (asks.value (asks.stays refl on clean) (lawful on)).1.1

pub day_untold : {S : Type 0} (sc : SchemeValue) (talks : S → Talk) (b c : Standing OutboxValue) (now : List (Station S)) (k : Key) → IsSound b → Asks b c (λ all. all ≡ are_all_stated sc b.value k.1 k.2) (Ok false) → (c.clean → b.live)
    → HaveLast sc talks b c now now (λ x. day_acks sc x (k ∷ [])) (Ok tt)
day_untold sc talks b c now k sound asks live = record {
  have = record {
    wrote = asked_read sc b c k false sound asks;
    answers = [];
    sent = sent_none sc talks now;
    began = inl refl;
    from = λ clean lawful. tt;
    whole = λ e clean lawful. let on = live clean in sym (one_day sc b.value k false (sym (asks.value (asks.stays refl on clean) (lawful on)).1.1));
  };
  read = λ e. live;
}

pub days_append : (sc : SchemeValue) (x : OutboxValue) (days more : List Key) → day_acks sc x days ++ day_acks sc x more ≡ day_acks sc x (days ++ more)
days_append sc x days more = sym (map-append day_ack (filter (λ k. are_all_stated sc x k.1 k.2) days) (filter (λ k. are_all_stated sc x k.1 k.2) more)) ∙ ap (map day_ack) (sym (filter-append _ days more))

-- EACH DEVICE
acks_next : {P : Type 0} (x : OutboxValue) (ds : List (ℕ × P)) (n device : ℕ) → id_at ds n ≡ Some device → acks_of x (take n ds) ++ last_ack x device ∷ [] ≡ acks_of x (take (suc n) ds)
acks_next x [] n device e = absurd (cc)
acks_next x (d ∷ ds) zero device e = let same : d.0 ≡ device = cc in ap (λ n. last_ack x n ∷ []) (sym same)
acks_next x (d ∷ ds) (suc n) device e = ap (λ l. last_ack x d.0 ∷ l) (acks_next x ds n device e)

-- those of the devices before a position were sent
pub record AreAnswering {S : Type 0} (sc : SchemeValue) (talks : S → Talk) (old new : Standing OutboxValue) (before after : List (Station S)) (position : ℕ) : Type 0 where
  pub have : HaveSent sc talks old new before after (λ x. acks_of x (take position sc.devices)) (Ok tt)
  pub read : 0 < position → new.clean → old.live

pub answering_none : {S : Type 0} (sc : SchemeValue) (talks : S → Talk) (s : Standing OutboxValue) (stations : List (Station S)) → IsSound s → AreAnswering sc talks s s stations stations 0
answering_none sc talks s stations sound = record { have = have_none sc talks s stations sound; read = λ lt. absurd (omega (arith, lt)) }

device_told : {S : Type 0} (sc : SchemeValue) (talks : S → Talk) (b c : Standing OutboxValue) (now next : List (Station S)) (device u : ℕ) → IsSound b → Reads_upto b c device (Ok u)
    → is_some (station_of sc device) ≡ true → AreSent sc talks (Upto (record { device = device; upto = u }) ∷ []) now next → HaveLast sc talks b c now next (λ x. last_ack x device ∷ []) (Ok tt)
device_told sc talks b c now next device u sound read known sent = record {
  have = record {
    wrote = wrote_read sc b c None (u ≡ b.value.upto device) sound (called b c None ((c.value ≡ b.value) × (u ≡ b.value.upto device)) (λ v. ⊥) read);
    answers = Upto (record { device = device; upto = u }) ∷ [];
    sent = sent;
    began = inr live;
    from = λ clean lawful. ((known, answer clean lawful), tt);
    whole = λ e clean lawful. ap (λ (n : ℕ). Upto (record { device = device; upto = n }) ∷ []) (answer clean lawful);
  };
  read = λ e. live;
}
  where
    live : c.clean → b.live
    live clean = read.live (read.stays refl clean)

    answer : c.clean → (b.live → b.lawful) → u ≡ b.value.upto device
    answer clean lawful = (read.value (read.stays refl clean) (lawful (live clean))).1.1

pub answering_more : {S : Type 0} (sc : SchemeValue) (talks : S → Talk) (a b c : Standing OutboxValue) (first now next : List (Station S)) (position device u : ℕ) → IsSound b → AreAnswering sc talks a b first now position → Reads_upto b c device (Ok u)
    → id_at sc.devices position ≡ Some device → is_some (station_of sc device) ≡ true → AreSent sc talks (Upto (record { device = device; upto = u }) ∷ []) now next → AreAnswering sc talks a c first next (position + 1)
unfolding have_more
answering_more {S} sc talks a b c first now next position device u sound was read at known sent = record {
  have = have_same sc talks a c first next (λ x. acks_of x (take position sc.devices) ++ last_ack x device ∷ []) (λ x. acks_of x (take (position + 1) sc.devices)) (Ok tt) (λ x. acks_next x sc.devices position device at ∙ ap (λ m. acks_of x (take m sc.devices)) next_is) both.have;
  read = λ lt. both.read refl;
}
  where
    next_is : suc position ≡ position + 1
    next_is = omega arith

    both : HaveLast sc talks a c first next (λ x. acks_of x (take position sc.devices) ++ last_ack x device ∷ []) (Ok tt)
    both = have_more sc talks a b c first now next (λ x. acks_of x (take position sc.devices)) (λ x. last_ack x device ∷ []) (Ok tt) was.have (device_told sc talks b c now next device u sound read known sent)

pub answering_failed : {S : Type 0} (sc : SchemeValue) (talks : S → Talk) (a b c : Standing OutboxValue) (first now : List (Station S)) (position device : ℕ) (f : Fault) → IsSound b → AreAnswering sc talks a b first now position → Reads_upto b c device (Err f) → HaveLast sc talks a c first now (last_acks sc) (Err f)
answering_failed sc talks a b c first now position device f sound was read = no_last sc talks a c first now (last_acks sc) f (have_failed sc talks a b c first now (λ x. acks_of x (take position sc.devices)) (last_acks sc) f was.have
    (wrote_read sc b c (Some f) (Unit {0}) sound (called b c (Some f) ((c.value ≡ b.value) × Unit {0}) (λ v. ⊥) read)))

pub answered_all : {S : Type 0} (sc : SchemeValue) (talks : S → Talk) (a b : Standing OutboxValue) (first now : List (Station S)) (position : ℕ) → 1 ≤ length sc.devices → length sc.devices ≤ position → AreAnswering sc talks a b first now position → HaveLast sc talks a b first now (last_acks sc) (Ok tt)
answered_all sc talks a b first now position some le was = record {
  have = have_same sc talks a b first now (λ x. acks_of x (take position sc.devices)) (last_acks sc) (Ok tt) (λ x. ap (acks_of x) (take_all position sc.devices le)) was.have;
  read = λ e. was.read (omega (arith, some, le));
}
