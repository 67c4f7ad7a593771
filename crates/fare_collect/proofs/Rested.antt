-- What the call itself did after the joins, one step more.
use Rattle.std.proofs.Common.{◌≡◌, ◌==◌, ℕ, ◌+◌, List, [], ◌∷◌, ◌++◌, Some, None, true, false, refl, sym, ap, ◌∙◌, subst, append_assoc, arith, inl, inr, length-append}
use Rattle.std.specs.Prelude.{Option, Ok, Err, ◌⊎◌}
use Rattle.std.proofs.lemmas.List.{append-nil}
use Rattle.std.proofs.lemmas.List.Elements.{filter-append}
use Rattle.fare_frame.specs.declared.frame.Frame.{Frame}
use Rattle.fare_scheme.specs.Values.{SchemeValue}
use Rattle.fare_collector.specs.Collecting.{next_in}
use Rattle.fare_collector.specs.declared.collector.Collector.{Collector}
use Rattle.fare_store.specs.Standing.{Standing, IsSound}
use Rattle.fare_store.specs.OutboxWords.{OutboxValue}
use Rattle.fare_inbox_queue.specs.declared.arrived.Arrived.{Arrived}
use Rattle.fare_inbox_queue.specs.declared.inbox_ended.InboxEnded.{InboxEnded}
use Rattle.fare_inbox_queue.specs.Inbox.{of_station, station_in}
use Rattle.fare_inbox_queue.specs.InboxPasses.{left_of}
use Rattle.fare_writer.specs.declared.tally.Tally.{Tally}
use Rattle.fare_collect.specs.declared.fault.StationFault.{StationFault}
use Rattle.fare_collect.specs.declared.fault.StationFault.TheVariants.{Unexpected}
use Rattle.fare_collect.specs.declared.station.Station.{Station}
use Rattle.fare_collect.specs.declared.station.End.{End}
use Rattle.fare_writer.specs.declared.halt.Halt.{Halt}
use Rattle.fare_source.specs.Talking.{Talk, Waits}
use Rattle.fare_history.specs.AcceptedLinks.{next_links, next_links_all}
use Rattle.fare_collect.specs.Arriving.{arrivals}
use Rattle.fare_writer.specs.Arriving.{arrived_of}
use Rattle.fare_collect.specs.Stations.{held_list, AreExpected, EndUnexpected, SourceCounted}
use Rattle.fare_collect.specs.Resting.{HasKeepingLeft, HasKeptLeft, HasNext, HasPassed, HasReadOn, HasRested, HasRestedBatch, IsGoing}
use Rattle.fare_writer.specs.Keeping.{HasKept, HasKeptBatch}
use Rattle.fare_writer.specs.Judging.{items_in, HasJudged}
use Rattle.fare_writer.specs.declared.judging.UnexpectedFrame.{UnexpectedFrame}
use Rattle.fare_writer.proofs.Written.{written_none, written_then}
use Rattle.fare_collect.proofs.Read.{arrivals_append, next_append, expected_append}

pub kept_none : (sc : SchemeValue) (s : Standing OutboxValue) (n : Tally) → IsSound s → HasKept sc s s [] n n None
kept_none sc s n sound = record { each = λ t. written_none sc s t n sound }

pub kept_then : (sc : SchemeValue) (a b c : Standing OutboxValue) (xs ys : List Arrived) (n0 n1 n2 : Tally) (halt : Option Halt) → HasKept sc a b xs n0 n1 None → HasKept sc b c ys n1 n2 halt → HasKept sc a c (xs ++ ys) n0 n2 halt
kept_then sc a b c xs ys n0 n1 n2 halt first second = record { each = λ t. written_then sc a b c xs ys t t t n0 n1 n2 halt (first.each t) (second.each t) }

-- WHAT WAS LEFT
pub keeping_none : (sc : SchemeValue) (s : Standing OutboxValue) (e : InboxEnded) (n : Tally) → IsSound s → HasKeepingLeft sc s s e e n n None
keeping_none sc s e n sound = record { items = []; parts = λ station. refl; kept = kept_none sc s n sound; count = omega arith }

batch_parts : (e1 e2 e3 : InboxEnded) (item : Arrived) (more : List Arrived) → ((station : ℕ) → left_of e1 station ≡ of_station station (item ∷ []) ++ left_of e2 station) → ((station : ℕ) → left_of e2 station ≡ of_station station more ++ left_of e3 station)
    → (station : ℕ) → left_of e1 station ≡ of_station station (item ∷ more) ++ left_of e3 station
batch_parts e1 e2 e3 item more first rest station =
    first station ∙ (ap (λ l. of_station station (item ∷ []) ++ l) (rest station)
    ∙ (sym (append_assoc (of_station station (item ∷ [])) (of_station station more) (left_of e3 station))
    ∙ ap (λ l. l ++ left_of e3 station) (sym (filter-append (λ (a : Arrived). station_in a == station) (item ∷ []) more))))

pub keeping_more : (sc : SchemeValue) (a b c : Standing OutboxValue) (e0 e1 e2 e3 : InboxEnded) (item : Arrived) (n0 n1 n2 : Tally) (halt : Option Halt) → HasKeepingLeft sc a b e0 e1 n0 n1 None
    → ((station : ℕ) → left_of e1 station ≡ of_station station (item ∷ []) ++ left_of e2 station) → e1.left ≡ e2.left + 1 → HasKeptBatch sc b c item e2 e3 n1 n2 halt → HasKeepingLeft sc a c e0 e3 n0 n2 halt
keeping_more sc a b c e0 e1 e2 e3 item n0 n1 n2 halt was next fewer batch = record {
  items = was.items ++ item ∷ batch.more;
  parts = λ station.
      was.parts station ∙ (ap (λ l. of_station station was.items ++ l) (batch_parts e1 e2 e3 item batch.more next batch.from.parts station)
      ∙ (sym (append_assoc (of_station station was.items) (of_station station (item ∷ batch.more)) (left_of e3 station))
      ∙ ap (λ l. l ++ left_of e3 station) (sym (filter-append _ was.items (item ∷ batch.more)))));
  kept = kept_then sc a b c was.items (item ∷ batch.more) n0 n1 n2 halt was.kept batch.kept;
  count = let l = length-append was.items (item ∷ batch.more) in let w = was.count in let k = batch.from.count in omega (arith, l, w, k, fewer);
}

pub keeping_end : (sc : SchemeValue) (a b : Standing OutboxValue) (e0 e1 e2 : InboxEnded) (n0 n1 : Tally) → HasKeepingLeft sc a b e0 e1 n0 n1 None
    → ((station : ℕ) → (left_of e1 station ≡ []) × (left_of e2 station ≡ [])) → (e1.left ≡ 0) × (e2.left ≡ 0) → HasKeptLeft sc a b e0 e2 n0 n1 None
keeping_end sc a b e0 e1 e2 n0 n1 was none zero = record {
  some = record {
    items = was.items;
    parts = λ station. was.parts station ∙ ap (λ l. of_station station was.items ++ l) ((none station).0 ∙ sym (none station).1);
    kept = was.kept;
    count = let w = was.count in let z = zero.0 in let y = zero.1 in omega (arith, w, z, y);
  };
  whole = λ h station. (none station).1;
  none = λ h. zero.1;
}

pub keeping_halt : (sc : SchemeValue) (a b : Standing OutboxValue) (e0 e1 : InboxEnded) (n0 n1 : Tally) (halt : Halt) → HasKeepingLeft sc a b e0 e1 n0 n1 (Some halt) → HasKeptLeft sc a b e0 e1 n0 n1 (Some halt)
keeping_halt sc a b e0 e1 n0 n1 halt was = record { some = was; whole = λ h. absurd (cc); none = λ h. absurd (cc) }

-- THE REST OF A SOURCE
-- nothing more came of it
pub passed_none : {S : Type 0} (sc : SchemeValue) (talks : S → Talk) (id : ℕ) (t u : Station S) → IsGoing t.end → Waits (talks t.source) (talks u.source) → u.end ≡ t.end → u.collector ≡ t.collector → HasPassed sc talks id t u []
passed_none sc talks id t u going waits end collector =
    let fault : u.end.fault ≡ None = ap (λ (e : End). e.fault) end ∙ going.0 in
    record {
      more = [];
      given = waits.given ∙ sym (append-nil (talks t.source).given);
      passed = [];
      frames = ap (λ (e : End). held_list e.held) end ∙ sym (append-nil (held_list t.end.held));
      start = going;
      answered = waits.answered;
      arrived = refl;
      next = ap next_in collector;
      named = ap (λ c. c.station) collector;
      at_end = λ e. absurd (let z : true ≡ false = sym e ∙ ap (λ (e : End). e.ended) end ∙ going.1 in cc);
      unexpected = λ e. absurd (let z : ◌≡◌ {A = Option StationFault} None (Some Unexpected) = sym fault ∙ e in cc);
      expected = tt;
      cause = subst (λ k. SourceCounted (talks t.source).failures (talks u.source).failures k) (sym fault) waits.failures;
    }

-- first these items, and then those
pub passed_then : {S : Type 0} (sc : SchemeValue) (talks : S → Talk) (id : ℕ) (t0 t1 t2 : Station S) (xs ys : List Arrived) → HasPassed sc talks id t0 t1 xs → IsGoing t1.end → HasPassed sc talks id t1 t2 ys → HasPassed sc talks id t0 t2 (xs ++ ys)
passed_then sc talks id t0 t1 t2 xs ys was going next = record {
  more = was.more ++ next.more;
  given = next.given ∙ (ap (λ l. l ++ next.more) was.given ∙ append_assoc (talks t0.source).given was.more next.more);
  passed = was.passed ++ next.passed;
  frames =
      append_assoc was.passed next.passed (held_list t2.end.held)
      ∙ (ap (λ l. was.passed ++ l) next.frames
      ∙ (sym (append_assoc was.passed (held_list t1.end.held) next.more)
      ∙ (ap (λ l. l ++ next.more) was.frames
      ∙ append_assoc (held_list t0.end.held) was.more next.more)));
  start = was.start;
  answered = next.answered ∙ was.answered;
  arrived =
      ap (λ l. l ++ ys) was.arrived
      ∙ (ap (λ l. arrivals sc id (next_in t0.collector) was.passed ++ l) (next.arrived ∙ ap (λ (n : ℕ → Option ℕ). arrivals sc id n next.passed) was.next)
      ∙ sym (arrivals_append sc id (next_in t0.collector) was.passed next.passed));
  next = next.next ∙ (ap (λ (n : ℕ → Option ℕ). next_links_all sc n next.passed) was.next ∙ sym (next_append sc (next_in t0.collector) was.passed next.passed));
  named = next.named ∙ was.named;
  at_end = next.at_end;
  unexpected = λ e. later (next.unexpected e);
  expected = expected_append t2.end.fault was.passed next.passed (subst (λ k. AreExpected k was.passed) going.0 was.expected) next.expected;
  cause = subst (λ n. SourceCounted n (talks t2.source).failures t2.end.fault) (subst (λ k. SourceCounted (talks t0.source).failures (talks t1.source).failures k) going.0 was.cause) next.cause;
}
  where
    later : EndUnexpected next.passed → EndUnexpected (was.passed ++ next.passed)
    later (front, f, is, wrong) = (was.passed ++ front, f, ap (λ l. was.passed ++ l) is ∙ sym (append_assoc was.passed front (f ∷ [])), wrong)

-- a frame went to the collector, which said what it accepts of it
pub passed_frame : {S : Type 0} (sc : SchemeValue) (talks : S → Talk) (id : ℕ) (t1 t2 : Station S) (k : Collector) (f : Frame) (accepted : Option Arrived)
    → IsGoing t1.end → HasNext (talks t1.source) (talks t2.source) t1.end t2.end (Some f) → t2.collector ≡ t1.collector → HasJudged sc id f t2.collector k (Ok accepted)
    → HasPassed sc talks id t1 (record t2 { collector = k }) (items_in (Ok accepted)) × IsGoing t2.end
passed_frame sc talks id t1 t2 k f accepted going next coll judged =
    let goes = next.going going.0 f refl in (
      record {
        more = next.more;
        given = next.given;
        passed = f ∷ [];
        frames = ap (λ (h : Option Frame). (f ∷ []) ++ held_list h) next.held ∙ next.frame;
        start = going;
        answered = next.answered;
        arrived = sym judged.arrived ∙ (ap (λ (c : Collector). arrived_of sc id (next_in c) f) coll ∙ sym (append-nil (arrived_of sc id (next_in t1.collector) f)));
        next = judged.next ∙ ap (λ (c : Collector). next_links sc (next_in c) f) coll;
        named = judged.named ∙ ap (λ c. c.station) coll;
        at_end = λ e. absurd (let z : true ≡ false = sym e ∙ goes.1 ∙ going.1 in cc);
        unexpected = λ e. absurd (let z : ◌≡◌ {A = Option StationFault} None (Some Unexpected) = sym goes.0 ∙ e in cc);
        expected = (λ wrong. absurd (let is : false ≡ true = judged.expected wrong in cc is), tt);
        cause = next.cause going.0;
      },
      (goes.0, goes.1 ∙ going.1),
    )

-- a frame came that no device sends
pub passed_unexpected : {S : Type 0} (sc : SchemeValue) (talks : S → Talk) (id : ℕ) (t1 t2 t3 : Station S) (k : Collector) (f : Frame) (unexpected : UnexpectedFrame)
    → IsGoing t1.end → HasNext (talks t1.source) (talks t2.source) t1.end t2.end (Some f) → t2.collector ≡ t1.collector → HasJudged sc id f t2.collector k (Err unexpected)
    → t3.source ≡ t2.source → t3.collector ≡ k → t3.end.held ≡ t2.end.held → t3.end.fault ≡ Some Unexpected → t3.end.ended ≡ t2.end.ended
    → HasPassed sc talks id t1 t3 []
passed_unexpected sc talks id t1 t2 t3 k f unexpected going next coll judged source collector held fault ended =
    let goes = next.going going.0 f refl in
    let same : talks t3.source ≡ talks t2.source = ap talks source in
    record {
      more = next.more;
      given = ap (λ (t : Talk). t.given) same ∙ next.given;
      passed = f ∷ [];
      frames = ap (λ (h : Option Frame). (f ∷ []) ++ held_list h) (held ∙ next.held) ∙ next.frame;
      start = going;
      answered = ap (λ (t : Talk). t.answered) same ∙ next.answered;
      arrived = sym judged.arrived ∙ (ap (λ (c : Collector). arrived_of sc id (next_in c) f) coll ∙ sym (append-nil (arrived_of sc id (next_in t1.collector) f)));
      next = ap next_in collector ∙ (judged.next ∙ ap (λ (c : Collector). next_links sc (next_in c) f) coll);
      named = ap (λ c. c.station) collector ∙ (judged.named ∙ ap (λ c. c.station) coll);
      at_end = λ e. absurd (let z : true ≡ false = sym e ∙ ended ∙ goes.1 ∙ going.1 in cc);
      unexpected = λ e. ([], f, refl, judged.unexpected refl);
      expected = (λ wrong. (refl, fault), tt);
      cause = subst (λ c. SourceCounted (talks t1.source).failures (talks t3.source).failures c) (sym fault) (ap (λ (t : Talk). t.failures) same ∙ subst (λ c. SourceCounted (talks t1.source).failures (talks t2.source).failures c) goes.0 (next.cause going.0));
    }

-- the source gave no frame more
pub passed_end : {S : Type 0} (sc : SchemeValue) (talks : S → Talk) (id : ℕ) (t1 t2 : Station S)
    → IsGoing t1.end → HasNext (talks t1.source) (talks t2.source) t1.end t2.end None → t2.collector ≡ t1.collector
    → HasPassed sc talks id t1 t2 [] × (t2.end.fault ≡ None → t2.end.ended ≡ true)
passed_end sc talks id t1 t2 going next coll = (
  record {
    more = next.more;
    given = next.given;
    passed = [];
    frames = ap held_list next.held ∙ next.frame;
    start = going;
    answered = next.answered;
    arrived = refl;
    next = ap next_in coll;
    named = ap (λ c. c.station) coll;
    at_end = λ e. stopped (next.at_end going.0 refl) e;
    unexpected = λ e. absurd (next.other going.0 e);
    expected = tt;
    cause = next.cause going.0;
  },
  λ fault. ends (next.at_end going.0 refl) fault,
)
  where
    stopped : ((t2.end.ended ≡ true) × (talks t2.source).ended × (t2.end.fault ≡ None)) ⊎ ((f : StationFault) × (t2.end.fault ≡ Some f) × (t2.end.ended ≡ t1.end.ended)) → t2.end.ended ≡ true → (talks t2.source).ended × (t2.end.fault ≡ None)
    stopped (inl is) e = (is.1, is.2)
    stopped (inr is) e = absurd (let z : true ≡ false = sym e ∙ is.2 ∙ going.1 in cc)

    ends : ((t2.end.ended ≡ true) × (talks t2.source).ended × (t2.end.fault ≡ None)) ⊎ ((f : StationFault) × (t2.end.fault ≡ Some f) × (t2.end.ended ≡ t1.end.ended)) → t2.end.fault ≡ None → t2.end.ended ≡ true
    ends (inl is) fault = is.0
    ends (inr is) fault = let e = sym is.1 ∙ fault in absurd (cc e)

-- these items were stored
pub rested : {S : Type 0} (sc : SchemeValue) (talks : S → Talk) (id : ℕ) (a b : Standing OutboxValue) (n0 n1 : Tally) (t0 t1 : Station S) (items : List Arrived) (halt : Option Halt)
    → HasPassed sc talks id t0 t1 items → t1.end.held ≡ None → HasKept sc a b items n0 n1 halt → (halt ≡ None → t1.end.fault ≡ None → t1.end.ended ≡ true) → HasRested sc talks id a b n0 n1 t0 t1 halt
rested sc talks id a b n0 n1 t0 t1 items halt was held kept whole =
    let all : was.passed ≡ held_list t0.end.held ++ was.more = sym (append-nil was.passed) ∙ (ap (λ (h : Option Frame). was.passed ++ held_list h) (sym held) ∙ was.frames) in
    record {
      more = was.more;
      given = was.given;
      held = held;
      start = was.start.0;
      unended = was.start.1;
      answered = was.answered;
      items = items;
      arrived = was.arrived ∙ ap (λ l. arrivals sc id (next_in t0.collector) l) all;
      next = was.next ∙ ap (λ l. next_links_all sc (next_in t0.collector) l) all;
      named = was.named;
      kept = kept;
      whole = λ none fine. let e = whole none fine in (e, (was.at_end e).0);
      at_end = was.at_end;
      unexpected = λ e. subst EndUnexpected all (was.unexpected e);
      expected = subst (AreExpected t1.end.fault) all was.expected;
      cause = was.cause;
    }

pub read_none : {S : Type 0} (sc : SchemeValue) (talks : S → Talk) (id : ℕ) (t : Station S) (first : List Arrived) → IsGoing t.end → HasReadOn sc talks id t t first first
read_none sc talks id t first going = record { more = []; items_are = sym (append-nil first); passed = passed_none sc talks id t t going (record { given = refl; answered = refl; failures = refl; ended = λ e. e }) refl refl }

pub read_then : {S : Type 0} (sc : SchemeValue) (talks : S → Talk) (id : ℕ) (t0 t1 t2 : Station S) (first items xs : List Arrived) → HasReadOn sc talks id t0 t1 first items → IsGoing t1.end → HasPassed sc talks id t1 t2 xs → HasReadOn sc talks id t0 t2 first (items ++ xs)
read_then sc talks id t0 t1 t2 first items xs was going next = record {
  more = was.more ++ xs;
  items_are = ap (λ l. l ++ xs) was.items_are ∙ append_assoc first was.more xs;
  passed = passed_then sc talks id t0 t1 t2 was.more xs was.passed going next;
}

-- an item more, and those that came behind it in its batch
pub rested_more : {S : Type 0} (sc : SchemeValue) (talks : S → Talk) (id : ℕ) (a b c : Standing OutboxValue) (n0 n1 n2 : Tally) (t0 t1 t2 t3 : Station S) (items : List Arrived) (item : Arrived) (halt : Option Halt)
    → HasPassed sc talks id t0 t1 items → IsGoing t1.end → HasKept sc a b items n0 n1 None → HasPassed sc talks id t1 t2 (item ∷ []) → IsGoing t2.end → HasRestedBatch sc talks id b c item n1 n2 t2 t3 halt
    → (all : List Arrived) × HasPassed sc talks id t0 t3 all × HasKept sc a c all n0 n2 halt
rested_more sc talks id a b c n0 n1 n2 t0 t1 t2 t3 items item halt was going kept next goes batch = (
  items ++ item ∷ batch.more,
  passed_then sc talks id t0 t1 t3 items (item ∷ batch.more) was going (passed_then sc talks id t1 t2 t3 (item ∷ []) batch.more next goes batch.passed),
  kept_then sc a b c items (item ∷ batch.more) n0 n1 n2 halt kept batch.kept,
)
