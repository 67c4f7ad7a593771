-- A whole session, from its parts.
use Rattle.std.proofs.Common.{◌≡◌, ℕ, ◌+◌, ◌-◌, ◌<◌, ◌≤◌, zero, suc, take, List, [], ◌∷◌, ◌++◌, length, length-append, slice_index_or, Some, None, refl, sym, ap, ◌∙◌, subst, inl, inr, arith}
use Rattle.std.specs.Prelude.{Option, Result, Ok, Err}
use Rattle.std.specs.List.{AllByRecursion}
use Rattle.std.proofs.lemmas.List.{append-nil, nil_from_length}
use Rattle.fare_scheme.specs.Values.{SchemeValue}
use Rattle.fare_scheme.specs.Words.{position_of_station}
use Rattle.fare_store.specs.declared.fault.Fault.{Fault}
use Rattle.fare_store.specs.declared.fault.Fault.TheVariants as fault
use Rattle.fare_store.specs.Standing.{Standing}
use Rattle.fare_store.specs.OutboxWords.{OutboxValue}
use Rattle.fare_record.specs.declared.ack_item.AckItem.{AckItem}
use Rattle.fare_history.specs.Gathering.{answers_to, IsAnswerFrom}
use Rattle.fare_inbox_queue.specs.declared.arrived.Arrived.{Arrived}
use Rattle.fare_inbox_queue.specs.declared.ack_line.AckLine.{AckLine}
use Rattle.fare_inbox_queue.specs.declared.ack_passes.HearPass.{HearPass}
use Rattle.fare_writer.specs.declared.tally.Tally.{Tally}
use Rattle.fare_collect.specs.declared.station.Station.{Station}
use Rattle.fare_writer.specs.declared.teller.Teller.{Teller}
use Rattle.fare_writer.specs.declared.halt.Halt.{Halt}
use Rattle.fare_source.specs.Talking.{Talk}
use Rattle.fare_writer.specs.Entries.{Entry, items_of, in_hand, storing_all}
use Rattle.fare_writer.specs.Writing.{Wrote, as_writer}
use Rattle.fare_writer.specs.Handling.{HasWritten, RefusedBy, hand_of, behind_of, batch_of, fault_of}
use Rattle.fare_collect.specs.Opening.{AreNew}
use Rattle.fare_collect.specs.Session.{HaveGathered, HasSession}
use Rattle.fare_collect.specs.Ending.{IsHanded, AreHandedLeft, last_answers, HaveLast}
use Rattle.fare_collect.specs.Resuming.{AreStations}
use Rattle.fare_collect.specs.Resting.{AreRead}
use Rattle.fare_collect.proofs.Served.{element}
use Rattle.fare_writer.proofs.Wrote.{wrote_then}
use Rattle.fare_collect.proofs.Handed.{handed_none}

-- What the reads at the end came to.
pub record IsLastRead (sc : SchemeValue) (old new : Standing OutboxValue) (result : Result Unit Fault) (halt : Option Halt) : Type 0 where
  pub wrote : Wrote sc old new [] [] (fault_of halt)
  pub hand : hand_of halt ≡ None
  pub behind : behind_of halt ≡ 0
  pub fine : halt ≡ None → result ≡ Ok tt
  pub refused : (x : OutboxValue) → RefusedBy x halt

pub last_fine : {S : Type 0} (sc : SchemeValue) (talks : S → Talk) (b c : Standing OutboxValue) (s2 s3 : List (Station S)) (due : OutboxValue → List AckItem) → HaveLast sc talks b c s2 s3 due (Ok tt) → IsLastRead sc b c (Ok tt) None
last_fine sc talks b c s2 s3 due last = record { wrote = last.have.wrote; hand = refl; behind = refl; fine = λ e. refl; refused = λ x. tt }

pub last_bad : {S : Type 0} (sc : SchemeValue) (talks : S → Talk) (b c : Standing OutboxValue) (s2 s3 : List (Station S)) (due : OutboxValue → List AckItem) (f : Fault) → HaveLast sc talks b c s2 s3 due (Err f) → IsLastRead sc b c (Err f) (Some (record { hand = None; behind = 0; fault = as_writer f }))
last_bad sc talks b c s2 s3 due fault.Memory last = record { wrote = last.have.wrote; hand = refl; behind = refl; fine = λ e. absurd (cc); refused = λ x. tt }
last_bad sc talks b c s2 s3 due fault.Store last = record { wrote = last.have.wrote; hand = refl; behind = refl; fine = λ e. absurd (cc); refused = λ x. tt }

-- what was written, and then only read
pub written_read : (sc : SchemeValue) (a b c : Standing OutboxValue) (xs : List Arrived) (t u : List Teller) (n0 n1 : Tally) (result : Result Unit Fault) (halt : Option Halt) → HasWritten sc a b xs t u n0 n1 None → IsLastRead sc b c result halt → HasWritten sc a c xs t u n0 n1 halt
written_read sc a b c xs t u n0 n1 result halt first reads = record {
  entries = first.entries;
  behind = [];
  all = first.all ∙ (λ i. items_of first.entries ++ (in_hand (sym reads.hand i) ++ first.alone refl i));
  wrote = subst (λ (l : List Arrived). Wrote sc a c first.entries l (fault_of halt)) (λ i. in_hand (sym reads.hand i) ++ [])
      (subst (λ (es : List Entry). Wrote sc a c es [] (fault_of halt)) (append-nil first.entries) (wrote_then sc a b c first.entries [] [] (fault_of halt) (subst (λ (l : List Arrived). Wrote sc a b first.entries l None) (first.alone refl) first.wrote) reads.wrote));
  behind_is = sym reads.behind;
  alone = λ e. refl;
  few = omega arith;
  told = first.told;
  refused = λ live lawful. reads.refused (storing_all a.value first.entries);
  counted = λ clean live lawful. first.counted (reads.wrote.clean clean) live lawful;
  noted = λ e. first.noted refl;
}

-- what is left behind the one in the hand and in the inbox is no more than the inbox may hold
room_left : (sc : SchemeValue) (behind inbox : List Arrived) → length behind ≤ batch_of sc - 1 → length inbox ≤ sc.inbox_capacity - (batch_of sc - 1) → length (behind ++ inbox) ≤ sc.inbox_capacity
room_left sc behind inbox few low = let l = length-append behind inbox in omega (arith, few, low, l)

pub halted : {S : Type 0} (sc : SchemeValue) (talks : S → Talk) (a b : Standing OutboxValue) (lines : List AckLine) (t0 t1 : List Teller) (h0 h1 : List HearPass) (n0 n1 : Tally) (s0 s1 s2 : List (Station S)) (left in_all : ℕ) (halt : Option Halt)
    → AreNew (length s0) lines t0 h0 → HaveGathered sc talks a b t0 t1 n0 n1 s0 s1 h1 (sc.inbox_capacity - (batch_of sc - 1)) left halt → AreHandedLeft talks t1 h1 s1 s2 → length t1 ≡ length s0 → length h1 ≡ length s0 → (halt ≡ None → ⊥)
    → in_all ≡ left + (length (in_hand (hand_of halt)) + behind_of halt) → HasSession sc talks a b n0 n1 s0 s2 in_all halt
halted sc talks a b lines t0 t1 h0 h1 n0 n1 s0 s1 s2 left in_all halt made got handed len hears halts sum = record {
  read = λ e. absurd (halts e);
  all = got.all;
  inbox = got.inbox;
  last = [];
  tellers_old = t0;
  tellers_new = t1;
  hears = h1;
  even = (made.tellers_len, len, hears);
  len = handed.len ∙ got.len;
  written = got.written;
  untold = made.put;
  others = got.others;
  few = room_left sc got.written.behind got.inbox got.written.few got.few;
  empty = λ e. absurd (halts e);
  count = (
      let c = got.count in
      let b = got.written.behind_is in
      let l = length-append (in_hand (hand_of halt)) (got.written.behind ++ got.inbox) in
      let m = length-append got.written.behind got.inbox in
      omega (arith, sum, c, l, m, b)
      );
  from = λ clean lawful. tt;
  whole = λ e. absurd (halts e);
  each = λ k d t h lt. record {
    middle = slice_index_or s1 k d;
    closed = slice_index_or s2 k d;
    gathered = got.each k d h lt;
    line = handed.each k d t h (omega (arith, lt, len));
    answered = record { handed = handed_none _ _; collector = refl; held = refl; at_end = refl };
  };
}

pub ended_well : {S : Type 0} (sc : SchemeValue) (talks : S → Talk) (a b c : Standing OutboxValue) (lines : List AckLine) (t0 t1 : List Teller) (h0 h1 : List HearPass) (n0 n1 : Tally) (s0 s1 s2 s3 : List (Station S)) (left : ℕ) (result : Result Unit Fault) (halt : Option Halt)
    → AreNew (length s0) lines t0 h0 → HaveGathered sc talks a b t0 t1 n0 n1 s0 s1 h1 (sc.inbox_capacity - (batch_of sc - 1)) left None → AreHandedLeft talks t1 h1 s1 s2 → length t1 ≡ length s0 → length h1 ≡ length s0 → HaveLast sc talks b c s2 s3 (last_answers sc n1.days.keys) result → IsLastRead sc b c result halt → AreRead s1 (length s0) → left ≡ 0
    → HasSession sc talks a c n0 n1 s0 s3 left halt
unfolding written_read
ended_well {S} sc talks a b c lines t0 t1 h0 h1 n0 n1 s0 s1 s2 s3 left result halt made got handed len hears last reads read zero_left = record {
  read = λ e. record {
    each = λ k d below within fine.
        let h2 = (handed.each k d (element t1 k (omega (arith, below, len))) (element h0 k (let e = made.hears_len in omega (arith, below, e))) (omega (arith, below, len))).handed in
        let w = last.have.sent.each k d (let l = handed.len in let g = got.len in omega (arith, below, l, g)) in
        let two = (w.handed.whole fine).0 in
        let one = (h2.handed.whole two).0 in
        w.at_end ∙ (h2.at_end ∙ read.each k d below (let g = got.len in omega (arith, below, g)) one);
  };
  all = got.all;
  inbox = got.inbox;
  last = last.have.answers;
  tellers_old = t0;
  tellers_new = t1;
  hears = h1;
  even = (made.tellers_len, len, hears);
  len = last.have.sent.len ∙ (handed.len ∙ got.len);
  written = written_read sc a b c got.all t0 t1 n0 n1 result halt got.written reads;
  untold = made.put;
  each = λ k d t h lt.
      let l = handed.len in
      let g = got.len in
      let w = last.have.sent.each k d (omega (arith, lt, l, g)) in
      let first = got.each k d h lt in
      let line = handed.each k d t h (omega (arith, lt, len)) in
      let same : (slice_index_or s2 k d).collector.station ≡ (slice_index_or s0 k d).collector.station = ap (λ c. c.station) line.handed.collector ∙ first.named in
      record {
        middle = slice_index_or s1 k d;
        closed = slice_index_or s2 k d;
        gathered = first;
        line = line;
        answered = subst (λ (n : ℕ). IsHanded talks (answers_to sc n last.have.answers) (slice_index_or s2 k d) (slice_index_or s3 k d)) same w;
      };
  others = got.others;
  few = room_left sc [] got.inbox (omega arith) got.few;
  empty = λ e. nil_from_length got.inbox (sym got.count ∙ zero_left);
  count = let n = got.count in let e = ap (λ h. length (in_hand h ++ got.inbox)) reads.hand in omega (arith, n, e);
  from = λ clean lawful. elim last.have.began [
    | inl none ↦ subst (λ (l : List AckItem). AllByRecursion (IsAnswerFrom sc (storing_all a.value got.written.entries)) l) (sym none) tt
    | inr live ↦ subst (λ (x : OutboxValue). AllByRecursion (IsAnswerFrom sc x) last.have.answers) (holds lawful (live clean)).1 (last.have.from clean (λ alive. (holds lawful alive).0))
  ];
  whole = λ e clean lawful. last.have.whole (reads.fine e) clean (λ alive. (holds lawful alive).0) ∙ ap (last_answers sc n1.days.keys) (holds lawful (last.read (reads.fine e) clean)).1;
}
  where
    holds : (a.live → a.lawful) → b.live → b.lawful × (b.value ≡ storing_all a.value got.written.entries)
    holds lawful live = got.written.wrote.value live (lawful (got.written.wrote.live live))

-- the hand holds one item at most
pub hand_length : (hand : Option Arrived) → length (in_hand hand) ≤ 1
hand_length None = omega arith
hand_length (Some a) = omega arith

-- the stations are still the scheme's
pub stations_closed : {S : Type 0} (sc : SchemeValue) (talks : S → Talk) (a b : Standing OutboxValue) (lines : List AckLine) (t0 t1 : List Teller) (h0 h1 : List HearPass) (n0 n1 : Tally) (s0 s1 s2 : List (Station S)) (room left : ℕ) (halt : Option Halt)
    → AreStations sc s0 → AreNew (length s0) lines t0 h0 → HaveGathered sc talks a b t0 t1 n0 n1 s0 s1 h1 room left halt → AreHandedLeft talks t1 h1 s1 s2 → length t1 ≡ length s0 → AreStations sc s2
stations_closed {S} sc talks a b lines t0 t1 h0 h1 n0 n1 s0 s1 s2 room left halt are made got handed len = record {
  each = λ k d lt.
      let l = handed.len in
      let m = got.len in
      let n = made.hears_len in
      let at : k < length s0 = omega (arith, lt, l, m) in
      let t = element t1 k (omega (arith, at, len)) in
      let h = element h0 k (omega (arith, at, n)) in
      ap (position_of_station sc) (ap (λ c. c.station) (handed.each k d t h (omega (arith, at, len))).handed.collector ∙ (got.each k d h at).named) ∙ are.each k d at;
}

-- what a slice of a whole list writes back
pub take_front : {A : Type 0} (xs ys : List A) (n : ℕ) → length xs ≡ n → take n (xs ++ ys) ≡ xs
take_front [] ys zero e = refl
take_front [] ys (suc n) e = absurd (omega (arith, e))
take_front (x ∷ xs) ys zero e = absurd (omega (arith, e))
take_front (x ∷ xs) ys (suc n) e = ap (λ l. x ∷ l) (take_front xs ys n (omega (arith, e)))
