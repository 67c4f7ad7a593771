-- The rest of all sources.
use Rattle.std.proofs.Common.{◌≡◌, ◌≢◌, ℕ, ◌+◌, ◌<◌, List, [], ◌∷◌, ◌++◌, length, set, slice_index_or, Some, None, true, false, refl, sym, ap, ◌∙◌, subst, append_assoc, arith, inl, inr}
use Rattle.std.specs.Prelude.{Option, Bool, Result, Ok, Err, ◌==◌, if◌then◌else◌}
use Rattle.std.proofs.lemmas.Bool.Decides.{nat_tests}
use Rattle.std.proofs.lemmas.List.{append-nil, get_or_default, get_or-set_same, get_or-set_other, length-set}
use Rattle.std.proofs.lemmas.List.Elements.{filter-append}
use Rattle.fare_frame.specs.declared.frame.Frame.{Frame}
use Rattle.fare_frame.specs.declared.frame.Frame.TheVariants.{Tapped, Stated, Acked, DayAcked, Greeted}
use Rattle.fare_scheme.specs.Values.{SchemeValue}
use Rattle.fare_collector.specs.Collecting.{next_in}
use Rattle.fare_store.specs.Standing.{Standing, IsSound}
use Rattle.fare_store.specs.OutboxWords.{OutboxValue}
use Rattle.fare_inbox_queue.specs.declared.arrived.Arrived.{Arrived}
use Rattle.fare_inbox_queue.specs.declared.arrived.Arrived.TheVariants as arrived
use Rattle.fare_inbox_queue.specs.Inbox.{station_in, of_station}
use Rattle.fare_writer.specs.declared.tally.Tally.{Tally}
use Rattle.fare_collect.specs.declared.station.Station.{Station}
use Rattle.fare_inbox_queue.specs.declared.ack_passes.HearPass.{HearPass}
use Rattle.fare_collect.specs.declared.fault.StationFault.{StationFault}
use Rattle.fare_collect.specs.declared.fault.StationFault.TheVariants.{Memory}
use Rattle.fare_writer.specs.declared.halt.Halt.{Halt}
use Rattle.fare_source.specs.Talking.{Talk}
use Rattle.fare_history.specs.AcceptedLinks.{next_links, tap_judged, stating_judged, next_links_all}
use Rattle.fare_collect.specs.Arriving.{arrivals}
use Rattle.fare_writer.specs.Arriving.{arrived_if, arrived_of}
use Rattle.fare_collect.specs.Stations.{held_list, AreExpected, SourceCounted}
use Rattle.fare_collect.specs.Resting.{HasRested, IsRestOf, HaveRested, AreApart}
use Rattle.fare_collect.specs.Session.{HasGathered}
use Rattle.fare_collect.proofs.Read.{arrivals_append, next_append, expected_append, expected_front}
use Rattle.fare_collect.proofs.Rested.{kept_none, kept_then}
use Rattle.fare_collect.proofs.Posted.{same_or_apart}

-- WHAT A STATION ACCEPTS NAMES IT
same_number : (n : ℕ) → (n == n) ≡ true
same_number n = grind (arith, nat_tests)

other_number : (n m : ℕ) → n ≢ m → (n == m) ≡ false
other_number n m apart = grind (arith, nat_tests)

own_one : {E : Type 0} (n : ℕ) (j : Result Unit E) (a : Arrived) → (station_in a == n) ≡ true → of_station n (arrived_if j a) ≡ arrived_if j a
own_one n (Ok x) a e = ap (λ (b : Bool). if b then a ∷ [] else []) e
own_one n (Err x) a e = refl

no_one : {E : Type 0} (n : ℕ) (j : Result Unit E) (a : Arrived) → (station_in a == n) ≡ false → of_station n (arrived_if j a) ≡ []
no_one n (Ok x) a e = ap (λ (b : Bool). if b then a ∷ [] else []) e
no_one n (Err x) a e = refl

own_frame : (sc : SchemeValue) (n : ℕ) (next : ℕ → Option ℕ) (f : Frame) → of_station n (arrived_of sc n next f) ≡ arrived_of sc n next f
own_frame sc n next (Tapped r) = own_one n (tap_judged sc next r) (arrived.Tap n r) (same_number n)
own_frame sc n next (Stated s) = own_one n (stating_judged sc next s) (arrived.Stated n s) (same_number n)
own_frame sc n next (Acked a) = refl
own_frame sc n next (DayAcked a) = refl
own_frame sc n next (Greeted h) = refl

no_frame : (sc : SchemeValue) (n m : ℕ) (next : ℕ → Option ℕ) (f : Frame) → n ≢ m → of_station m (arrived_of sc n next f) ≡ []
no_frame sc n m next (Tapped r) apart = no_one m (tap_judged sc next r) (arrived.Tap n r) (other_number n m apart)
no_frame sc n m next (Stated s) apart = no_one m (stating_judged sc next s) (arrived.Stated n s) (other_number n m apart)
no_frame sc n m next (Acked a) apart = refl
no_frame sc n m next (DayAcked a) apart = refl
no_frame sc n m next (Greeted h) apart = refl

pub own_arrivals : (sc : SchemeValue) (n : ℕ) (next : ℕ → Option ℕ) (fs : List Frame) → of_station n (arrivals sc n next fs) ≡ arrivals sc n next fs
own_arrivals sc n next [] = refl
own_arrivals sc n next (f ∷ fs) = filter-append _ (arrived_of sc n next f) (arrivals sc n (next_links sc next f) fs) ∙ λ i. own_frame sc n next f i ++ own_arrivals sc n (next_links sc next f) fs i

pub no_arrivals : (sc : SchemeValue) (n m : ℕ) (next : ℕ → Option ℕ) (fs : List Frame) → n ≢ m → of_station m (arrivals sc n next fs) ≡ []
no_arrivals sc n m next [] apart = refl
no_arrivals sc n m next (f ∷ fs) apart = filter-append _ (arrived_of sc n next f) (arrivals sc n (next_links sc next f) fs) ∙ λ i. no_frame sc n m next f apart i ++ no_arrivals sc n m (next_links sc next f) fs apart i

-- ONE STATION
rest_same : {S : Type 0} (sc : SchemeValue) (talks : S → Talk) (items : List Arrived) (s : Station S) → of_station s.collector.station items ≡ [] → IsRestOf sc talks items s s
rest_same sc talks items s none = record { passed = []; more = []; given = sym (append-nil (talks s.source).given); frames = sym (append-nil (held_list s.end.held)); part = none; next = refl; named = refl; answered = refl; faulted = λ n. refl; idle = λ n. refl; ended = λ p e. p e; cause = λ n c. c; unexpected = λ e. inl e; expected = λ front fine. subst (λ (l : List Frame). AreExpected s.end.fault (l ++ held_list s.end.held)) (sym (append-nil front)) fine }

rest_then : {S : Type 0} (sc : SchemeValue) (talks : S → Talk) (xs ys : List Arrived) (s t u : Station S) → IsRestOf sc talks xs s t → IsRestOf sc talks ys t u → IsRestOf sc talks (xs ++ ys) s u
rest_then sc talks xs ys s t u first second =
    let n = s.collector.station in
    record {
      passed = first.passed ++ second.passed;
      more = first.more ++ second.more;
      given = second.given ∙ (ap (λ l. l ++ second.more) first.given ∙ append_assoc (talks s.source).given first.more second.more);
      frames =
          append_assoc first.passed second.passed (held_list u.end.held)
          ∙ (ap (λ l. first.passed ++ l) second.frames
          ∙ (sym (append_assoc first.passed (held_list t.end.held) second.more)
          ∙ (ap (λ l. l ++ second.more) first.frames
          ∙ append_assoc (held_list s.end.held) first.more second.more)));
      part =
          filter-append _ xs ys
          ∙ ((λ i. first.part i ++ (ap (λ (m : ℕ). of_station m ys) (sym first.named) ∙ (second.part ∙ ap (λ (m : ℕ). arrivals sc m (next_in t.collector) second.passed) first.named ∙ ap (λ (q : ℕ → Option ℕ). arrivals sc n q second.passed) first.next)) i)
          ∙ sym (arrivals_append sc n (next_in s.collector) first.passed second.passed));
      next = second.next ∙ (ap (λ (q : ℕ → Option ℕ). next_links_all sc q second.passed) first.next ∙ sym (next_append sc (next_in s.collector) first.passed second.passed));
      named = second.named ∙ first.named;
      answered = second.answered ∙ first.answered;
      faulted = λ n. second.faulted (λ e. n (sym (first.faulted n) ∙ e)) ∙ first.faulted n;
      idle = λ n. (λ i. first.idle n i ++ second.idle (λ e. n (sym (first.faulted n) ∙ e)) i);
      ended = λ p e. second.ended (first.ended p) e;
      cause = λ n c. second.cause n (first.cause n c);
      unexpected = λ e. elim (second.unexpected e) [
        | inl before ↦ elim (first.unexpected before) [
          | inl start ↦ inl start
          | inr one ↦ inr (one.0, one.1, ap (λ l. first.passed ++ l) (second.idle (λ z. let q = sym before ∙ z in absurd (cc q))) ∙ append-nil first.passed ∙ one.2, one.3)
        ]
        | inr one ↦ inr (first.passed ++ one.0, one.1, ap (λ l. first.passed ++ l) one.2 ∙ sym (append_assoc first.passed one.0 (one.1 ∷ [])), one.3)
      ];
      expected = λ front fine. subst (λ (l : List Frame). AreExpected u.end.fault (l ++ held_list u.end.held)) (append_assoc front first.passed second.passed) (second.expected (front ++ first.passed) (first.expected front fine));
    }

rest_own : {S : Type 0} (sc : SchemeValue) (talks : S → Talk) (a b : Standing OutboxValue) (n0 n1 : Tally) (s t : Station S) (halt : Option Halt) (r : HasRested sc talks s.collector.station a b n0 n1 s t halt) → IsRestOf sc talks r.items s t
rest_own sc talks a b n0 n1 s t halt r = record {
  passed = held_list s.end.held ++ r.more;
  more = r.more;
  given = r.given;
  frames = ap (λ h. (held_list s.end.held ++ r.more) ++ held_list h) r.held ∙ append-nil (held_list s.end.held ++ r.more);
  part = ap (λ (l : List Arrived). of_station s.collector.station l) r.arrived ∙ own_arrivals sc s.collector.station (next_in s.collector) (held_list s.end.held ++ r.more);
  next = r.next;
  named = r.named;
  answered = r.answered;
  faulted = λ n. absurd (n r.start);
  idle = λ n. absurd (n r.start);
  ended = λ p e. let z = r.at_end e in (z.0, r.held, z.1);
  cause = λ n c. subst (λ m. SourceCounted m (talks t.source).failures t.end.fault) (subst (λ f. SourceCounted n (talks s.source).failures f) r.start c) r.cause;
  unexpected = λ e. inr (r.unexpected e);
  expected = λ front fine.
      let held = held_list s.end.held in
      let before : AreExpected None front = expected_front front held (subst (λ (w : Option StationFault). AreExpected w (front ++ held)) r.start fine) in
      subst (λ (l : List Frame). AreExpected t.end.fault l) (sym (ap (λ h. (front ++ (held ++ r.more)) ++ held_list h) r.held ∙ append-nil (front ++ (held ++ r.more)))) (expected_append t.end.fault front (held ++ r.more) before r.expected);
}

-- ALL
pub have_none : {S : Type 0} (sc : SchemeValue) (talks : S → Talk) (s : Standing OutboxValue) (n : Tally) (stations : List (Station S)) → IsSound s → HaveRested sc talks s s n n stations stations 0 None
have_none sc talks s n stations sound = record { read = λ e. record { each = λ k d lt. absurd (omega (arith, lt)) }; items = []; kept = kept_none sc s n sound; len = refl; each = λ k d lt. rest_same sc talks [] (slice_index_or stations k d) refl; others = λ m none. refl }

-- one station more
pub have_more : {S : Type 0} (sc : SchemeValue) (talks : S → Talk) (a b c : Standing OutboxValue) (n0 n1 n2 : Tally) (first now : List (Station S)) (place : ℕ) (x y : Station S) (halt : Option Halt)
    → AreApart first → HaveRested sc talks a b n0 n1 first now place None → place < length now → x ≡ slice_index_or now place x → HasRested sc talks x.collector.station b c n1 n2 x y halt
    → HaveRested sc talks a c n0 n2 first (set now place y) (place + 1) halt
have_more {S} sc talks a b c n0 n1 n2 first now place x y halt apart was lt here r = record {
  read = λ none. record {
    each = λ k d below within fine. elim (same_or_apart k place) [
      | inl e ↦
          let two : slice_index_or (set now place y) k d ≡ y = ap (λ j. slice_index_or (set now place y) j d) e ∙ get_or-set_same now place y d lt in
          ap (λ (t : Station S). t.end.ended) two ∙ (r.whole none (sym (ap (λ (t : Station S). t.end.fault) two) ∙ fine)).0
      | inr differ ↦
          let two : slice_index_or (set now place y) k d ≡ slice_index_or now k d = get_or-set_other now place k y d differ in
          ap (λ (t : Station S). t.end.ended) two ∙ (was.read refl).each k d (grind (arith, nat_tests, below, differ)) (omega (arith, within, length-set now place y)) (sym (ap (λ (t : Station S). t.end.fault) two) ∙ fine)
    ];
  };
  items = was.items ++ r.items;
  kept = kept_then sc a b c was.items r.items n0 n1 n2 halt was.kept r.kept;
  len = length-set now place y ∙ was.len;
  each = λ k d below. elim (same_or_apart k place) [
    | inl e ↦
        let one : x ≡ slice_index_or now k d = here ∙ (get_or_default now place x d lt ∙ ap (λ j. slice_index_or now j d) (sym e)) in
        let two : y ≡ slice_index_or (set now place y) k d = sym (ap (λ j. slice_index_or (set now place y) j d) e ∙ get_or-set_same now place y d lt) in
        let P : Station S × Station S → Type 0 = λ q. IsRestOf sc talks r.items q.0 q.1 in
        rest_then sc talks was.items r.items (slice_index_or first k d) (slice_index_or now k d) (slice_index_or (set now place y) k d) (was.each k d below)
        (subst P (λ i. (one i, two i)) (rest_own sc talks b c n1 n2 x y halt r))
    | inr differ ↦
        let two : slice_index_or now k d ≡ slice_index_or (set now place y) k d = sym (get_or-set_other now place k y d differ) in
        let at : place < length first = let l = was.len in omega (arith, lt, l) in
        let own : x.collector.station ≡ (slice_index_or first place d).collector.station = ap (λ (t : Station S). t.collector.station) (here ∙ get_or_default now place x d lt) ∙ (was.each place d at).named in
        let mine : (slice_index_or now k d).collector.station ≡ (slice_index_or first k d).collector.station = (was.each k d below).named in
        let other : x.collector.station ≢ (slice_index_or now k d).collector.station = λ e. apart.each k place d below at differ (sym mine ∙ (sym e ∙ own)) in
        let none : of_station (slice_index_or now k d).collector.station r.items ≡ [] =
        ap (λ (l : List Arrived). of_station (slice_index_or now k d).collector.station l) r.arrived ∙ no_arrivals sc x.collector.station (slice_index_or now k d).collector.station (next_in x.collector) (held_list x.end.held ++ r.more) other in
        rest_then sc talks was.items r.items (slice_index_or first k d) (slice_index_or now k d) (slice_index_or (set now place y) k d) (was.each k d below)
        (subst (λ (t : Station S). IsRestOf sc talks r.items (slice_index_or now k d) t) two (rest_same sc talks r.items (slice_index_or now k d) none))
  ];
  others = λ m none.
      let at : place < length first = let l = was.len in omega (arith, lt, l) in
      let own : x.collector.station ≡ (slice_index_or first place x).collector.station = ap (λ (t : Station S). t.collector.station) here ∙ (was.each place x at).named in
      let other : x.collector.station ≢ m = λ e. none place x at (sym e ∙ own) in
      let rest : of_station m r.items ≡ [] = ap (λ (l : List Arrived). of_station m l) r.arrived ∙ no_arrivals sc x.collector.station m (next_in x.collector) (held_list x.end.held ++ r.more) other in
      filter-append _ was.items r.items ∙ λ i. was.others m none i ++ rest i;
}

-- a station whose source is at its end, or that met a fault
pub have_skip : {S : Type 0} (sc : SchemeValue) (talks : S → Talk) (a b : Standing OutboxValue) (n0 n1 : Tally) (first now : List (Station S)) (place : ℕ) → HaveRested sc talks a b n0 n1 first now place None
    → ((d : Station S) → (slice_index_or now place d).end.fault ≡ None → (slice_index_or now place d).end.ended ≡ true) → HaveRested sc talks a b n0 n1 first now (place + 1) None
have_skip {S} sc talks a b n0 n1 first now place was skips = record {
  read = λ none. record {
    each = λ k d below within fine. elim (same_or_apart k place) [
      | inl e ↦ ap (λ j. (slice_index_or now j d).end.ended) e ∙ skips d (sym (ap (λ j. (slice_index_or now j d).end.fault) e) ∙ fine)
      | inr differ ↦ (was.read none).each k d (grind (arith, nat_tests, below, differ)) within fine
    ];
  };
  items = was.items;
  kept = was.kept;
  len = was.len;
  each = was.each;
  others = was.others;
}

-- all of them
pub have_all : {S : Type 0} (sc : SchemeValue) (talks : S → Talk) (a b : Standing OutboxValue) (n0 n1 : Tally) (first now : List (Station S)) (p q : ℕ) (halt : Option Halt) → p ≡ q → HaveRested sc talks a b n0 n1 first now p halt → HaveRested sc talks a b n0 n1 first now q halt
have_all sc talks a b n0 n1 first now p q halt e was = subst (λ (n : ℕ). HaveRested sc talks a b n0 n1 first now n halt) e was

-- where the writer halted
pub have_halted : {S : Type 0} (sc : SchemeValue) (talks : S → Talk) (a b : Standing OutboxValue) (n0 n1 : Tally) (first now : List (Station S)) (p q : ℕ) (halt : Halt) → HaveRested sc talks a b n0 n1 first now p (Some halt) → HaveRested sc talks a b n0 n1 first now q (Some halt)
have_halted sc talks a b n0 n1 first now p q halt was = record { read = λ e. absurd (cc); items = was.items; kept = was.kept; len = was.len; each = was.each; others = was.others }

-- and so all of a station is gathered
pub gathered_rest : {S : Type 0} (sc : SchemeValue) (talks : S → Talk) (all items : List Arrived) (left : ℕ → List Arrived) (h : HearPass) (old mid new : Station S)
    → HasGathered sc talks all left h old mid → IsRestOf sc talks items mid new → left old.collector.station ≡ [] → HasGathered sc talks (all ++ items) left h old new
gathered_rest sc talks all items left h old mid new was rest none =
    let n = old.collector.station in
    let before : of_station n all ≡ arrivals sc n (next_in old.collector) was.frames = sym (ap (λ l. of_station n all ++ l) none ∙ append-nil (of_station n all)) ∙ was.part in
    let more : of_station n items ≡ arrivals sc n (next_links_all sc (next_in old.collector) was.frames) rest.passed =
    ap (λ (m : ℕ). of_station m items) (sym was.named) ∙ (rest.part ∙ (ap (λ (m : ℕ). arrivals sc m (next_in mid.collector) rest.passed) was.named ∙ ap (λ (q : ℕ → Option ℕ). arrivals sc n q rest.passed) was.next)) in
    record {
      frames = was.frames ++ rest.passed;
      given =
          rest.given ∙ (ap (λ l. l ++ rest.more) was.given
          ∙ (append_assoc (talks old.source).given (was.frames ++ held_list mid.end.held) rest.more
          ∙ ap (λ l. (talks old.source).given ++ l)
          (append_assoc was.frames (held_list mid.end.held) rest.more ∙ (ap (λ l. was.frames ++ l) (sym rest.frames) ∙ sym (append_assoc was.frames rest.passed (held_list new.end.held))))));
      part =
          ap (λ l. of_station n (all ++ items) ++ l) none
          ∙ (append-nil (of_station n (all ++ items))
          ∙ (filter-append _ all items
          ∙ ((λ i. before i ++ more i) ∙ sym (arrivals_append sc n (next_in old.collector) was.frames rest.passed))));
      next = rest.next ∙ (ap (λ (q : ℕ → Option ℕ). next_links_all sc q rest.passed) was.next ∙ sym (next_append sc (next_in old.collector) was.frames rest.passed));
      named = rest.named ∙ was.named;
      handed = was.handed;
      lost = was.lost;
      took = was.took;
      answered = rest.answered ∙ was.answered;
      kept = λ n. was.kept (λ e. n (rest.faulted (some_is e) ∙ e));
      ended = λ e. rest.ended was.ended e;
      cause = rest.cause (talks old.source).failures was.cause;
      unexpected = λ e. elim (rest.unexpected e) [
        | inl before ↦ let one = was.unexpected before in (one.0, one.1, ap (λ l. was.frames ++ l) (rest.idle (λ z. let q = sym before ∙ z in absurd (cc q))) ∙ append-nil was.frames ∙ one.2, one.3)
        | inr one ↦ (was.frames ++ one.0, one.1, ap (λ l. was.frames ++ l) one.2 ∙ sym (append_assoc was.frames one.0 (one.1 ∷ [])), one.3)
      ];
      expected = rest.expected was.frames was.expected;
    }
  where
    some_is : mid.end.fault ≡ Some Memory → mid.end.fault ≢ None
    some_is e z = let f = sym e ∙ z in absurd (cc f)

pub apart_after : {S : Type 0} (old new : List (Station S)) → AreApart old → length new ≡ length old → ((k : ℕ) (d : Station S) → k < length old → (slice_index_or new k d).collector.station ≡ (slice_index_or old k d).collector.station) → AreApart new
apart_after old new apart len named = record {
  each = λ j k d jt kt differ e.
      let j0 : j < length old = omega (arith, jt, len) in
      let k0 : k < length old = omega (arith, kt, len) in
      apart.each j k d j0 k0 differ (sym (named j d j0) ∙ (e ∙ named k d k0));
}
