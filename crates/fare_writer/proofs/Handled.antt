-- One item at the writer.
use Rattle.std.proofs.Common.{◌≡◌, ◌≢◌, ℕ, zero, suc, ◌+◌, ◌<◌, List, [], ◌∷◌, length, set, slice_index_or, Some, None, true, false, refl, sym, ap, ◌∙◌, subst, inl, inr, arith}
use Rattle.std.specs.Prelude.{is_err, IfOk, Result, Option, Bool, Ok, Err, min, ◌⊎◌, if◌then◌else◌}
use Rattle.std.proofs.lemmas.Bool.Decides.{nat_tests}
use Rattle.std.proofs.lemmas.List.{get_or_default, get_or-set_same, get_or-set_other}
use Rattle.fare_record.specs.Values.{RecordValue, StatementValue}
use Rattle.fare_scheme.specs.Values.{SchemeValue}
use Rattle.fare_scheme.specs.Words.{position_of_station}
use Rattle.fare_store.specs.declared.fault.Fault.{Fault}
use Rattle.fare_store.specs.declared.fault.Fault.TheVariants as fault
use Rattle.fare_store.specs.Standing.{Standing, IsSound}
use Rattle.fare_store.specs.OutboxWords.{OutboxValue}
use Rattle.fare_store.specs.Tables.{put}
use Rattle.fare_inbox_queue.specs.declared.arrived.Arrived.{Arrived}
use Rattle.fare_inbox_queue.specs.declared.arrived.Arrived.TheVariants.{Tap, Stated}
use Rattle.fare_record.specs.declared.ack_item.AckItem.{AckItem}
use Rattle.fare_record.specs.declared.ack_item.AckItem.TheVariants.{Upto, Day}
use Rattle.fare_inbox_queue.specs.declared.ack_line.AckLine.{AckLine}
use Rattle.fare_inbox_queue.specs.LinePasses.{IsAckOf}
use Rattle.fare_writer.specs.declared.tally.Tally.{Tally}
use Rattle.fare_writer.specs.declared.fault.WriterFault.TheVariants.{Refused}
use Rattle.fare_writer.specs.declared.teller.Teller.{Teller}
use Rattle.fare_writer.specs.Noting.{noting}
use Rattle.fare_writer.specs.Counting.{most, Rises, Counts}
use Rattle.fare_writer.specs.Entries.{item_of, is_new, done_by, storing, IsAnswerTo}
use Rattle.fare_route.specs.Stating.{are_all_stated}
use Rattle.fare_writer.specs.Writing.{Asks, Puts, as_writer, store_fault, Wrote}
use Rattle.fare_writer.specs.Handling.{AreTellers, HasTold, HasWritten}
use Rattle.fare_writer.proofs.Wrote.{entry, wrote_then, wrote_read, wrote_put, wrote_answered}
use Rattle.fare_writer.proofs.Told.{told_same, told_dropped, told_one, written_one, written_asked}

-- TELLERS
same_or_apart : (k p : ℕ) → (k ≡ p) ⊎ (k ≢ p)
same_or_apart zero zero = inl refl
same_or_apart zero (suc p) = inr (λ e. absurd (cc))
same_or_apart (suc k) zero = inr (λ e. absurd (cc))
same_or_apart (suc k) (suc p) = elim (same_or_apart k p) [ inl e ↦ inl (ap suc e) | inr n ↦ inr (λ e. n (omega (arith, e))) ]

-- a teller is changed that still has its line's pass
pub tellers_set : (lines : List AckLine) (tellers : List Teller) (place : ℕ) (v : Teller) (l0 : AckLine) → AreTellers lines tellers → place < length tellers → l0 ≡ slice_index_or lines place l0 → IsAckOf l0 v.pass → AreTellers lines (set tellers place v)
tellers_set lines tellers place v l0 ready within is ack = record {
  len = length_set tellers place v ∙ ready.len;
  each = λ k l d lt. elim (same_or_apart k place) [
    | inl e ↦
        let line : l0 ≡ slice_index_or lines k l = is ∙ (get_or_default lines place l0 l (subst (λ n. place < n) ready.len within) ∙ ap (λ j. slice_index_or lines j l) (sym e)) in
        let teller : v ≡ slice_index_or (set tellers place v) k d = sym (get_or-set_same tellers place v d within) ∙ ap (λ j. slice_index_or (set tellers place v) j d) (sym e) in
        let P : AckLine × Teller → Type 0 = λ y. IsAckOf y.0 y.1.pass in
        subst P (λ i. (line i, teller i)) ack
    | inr n ↦
        let teller : slice_index_or tellers k d ≡ slice_index_or (set tellers place v) k d = sym (get_or-set_other tellers place k v d n) in
        subst (λ (t : Teller). IsAckOf (slice_index_or lines k l) t.pass) teller (ready.each k l d (subst (λ n. k < n) (length_set tellers place v) lt))
  ];
}
  where
    length_set : (xs : List Teller) (k : ℕ) (v : Teller) → length (set xs k v) ≡ length xs
    length_set [] k v = refl
    length_set (x ∷ xs) zero v = refl
    length_set (x ∷ xs) (suc k) v = ap suc (length_set xs k v)

-- COUNTS
pub when_noted : {E : Type 0} (r : Result Unit E) (P : Type 0) → is_err r ≡ false → IfOk r (λ _. P) → P
when_noted (Ok u) P e p = p
when_noted (Err f) P e p = absurd (cc)

pub counted_new : (sc : SchemeValue) (a : Arrived) (n0 m c n1 : Tally) (new : Bool) → m.days.keys ≡ noting sc n0.days.keys (item_of a) → m.stored ≡ n0.stored → new ≡ true → c.stored ≡ min (m.stored + 1) most → c.days ≡ m.days → n1 ≡ c → Counts sc a n0 n1 new
counted_new sc a n0 m c n1 new notes same is up days end = (inl (is, ap (λ (t : Tally). t.stored) end ∙ (up ∙ ap (λ n. min (n + 1) most) same)), ap (λ (t : Tally). t.days.keys) end ∙ (ap (λ d. d.keys) days ∙ notes))

pub counted_old : (sc : SchemeValue) (a : Arrived) (n0 m n1 : Tally) (new : Bool) → m.days.keys ≡ noting sc n0.days.keys (item_of a) → m.stored ≡ n0.stored → new ≡ false → n1 ≡ m → Counts sc a n0 n1 new
counted_old sc a n0 m n1 new notes same is end = (inr (is, ap (λ (t : Tally). t.stored) end ∙ same), ap (λ (t : Tally). t.days.keys) end ∙ notes)

counts_as : (n0 n1 : ℕ) (new is : Bool) → Rises n0 n1 new → new ≡ is → min n1 most ≡ min (n0 + (if is then 1 else 0)) most
counts_as n0 n1 new true (inl up) e = let u = up.1 in omega (arith, u)
counts_as n0 n1 new false (inl up) e = let f : true ≡ false = sym up.0 ∙ e in absurd (cc f)
counts_as n0 n1 new true (inr same) e = let f : false ≡ true = sym same.0 ∙ e in absurd (cc f)
counts_as n0 n1 new false (inr same) e = let u = same.1 in omega (arith, u)

-- A TAP
put_here : (f : ℕ → ℕ) (d n : ℕ) → put f d n d ≡ n
put_here f d n = grind (arith, nat_tests)

pub tap_answer : (sc : SchemeValue) (x : OutboxValue) (station : ℕ) (r : RecordValue) → is_new x (Tap station r) ≡ true
    → IsAnswerTo sc (storing x (Tap station r)) r.device (Upto (record { device = r.device; upto = r.link }))
tap_answer sc x station r new = record {
  to = refl;
  from = sym (ap (λ (b : Bool). (if b then done_by (Tap station r) x else x).upto r.device) new ∙ put_here x.upto r.device r.link);
}

pub written_tap : (sc : SchemeValue) (a b : Standing OutboxValue) (station : ℕ) (r : RecordValue) (place : Option ℕ) (ack : AckItem) (took : Bool) (t u : List Teller) (n0 n1 : Tally)
    → IsSound b → Puts a b (Tap station r) (Ok true) → place ≡ position_of_station sc station → ack ≡ Upto (record { device = r.device; upto = r.link }) → HasTold place ack t u took → Counts sc (Tap station r) n0 n1 true
    → HasWritten sc a b (Tap station r ∷ []) t u n0 n1 None
written_tap sc a b station r place ack true t u n0 n1 sound puts at is told counts =
    written_one sc a b (Tap station r) (ack ∷ []) t u n0 n1 counts.1
    (wrote_answered sc a b (Tap station r) (ack ∷ []) (wrote_put sc a b (Tap station r) true sound puts)
    (λ live lawful. (subst (λ (k : AckItem). IsAnswerTo sc (storing a.value (Tap station r)) r.device k) (sym is) (tap_answer sc a.value station r (sym (puts.value live lawful).1.0)), tt)))
    (told_one sc (Tap station r) place ack t u at told)
    (λ clean live lawful. counts_as n0.stored n1.stored true (is_new a.value (Tap station r)) counts.0 (puts.value (puts.stays refl live clean) lawful).1.0)
written_tap sc a b station r place ack false t u n0 n1 sound puts at is told counts =
    written_one sc a b (Tap station r) [] t u n0 n1 counts.1
    (wrote_put sc a b (Tap station r) true sound puts)
    (told_dropped sc (Tap station r) place ack t u told)
    (λ clean live lawful. counts_as n0.stored n1.stored true (is_new a.value (Tap station r)) counts.0 (puts.value (puts.stays refl live clean) lawful).1.0)

-- an item of which nothing was told
pub written_untold : (sc : SchemeValue) (a b : Standing OutboxValue) (item : Arrived) (new : Bool) (t : List Teller) (n0 n1 : Tally) → IsSound b → Puts a b item (Ok new) → Counts sc item n0 n1 new
    → HasWritten sc a b (item ∷ []) t t n0 n1 None
written_untold sc a b item new t n0 n1 sound puts counts =
    written_one sc a b item [] t t n0 n1 counts.1 (wrote_put sc a b item new sound puts) (told_same sc item t)
    (λ clean live lawful. counts_as n0.stored n1.stored new (is_new a.value item) counts.0 (puts.value (puts.stays refl live clean) lawful).1.0)

-- A STATEMENT
abbrev All_held : SchemeValue → Standing OutboxValue → StatementValue → Bool → Type 0
All_held sc b s held = held ≡ are_all_stated sc b.value s.device s.day

asked : (sc : SchemeValue) (a b c : Standing OutboxValue) (item : Arrived) (s : StatementValue) (new held : Bool) → IsSound b → Puts a b item (Ok new) → Asks b c (All_held sc b s) (Ok held)
    → Wrote sc a c (entry item [] ∷ []) [] None
asked sc a b c item s new held sound puts reads =
    wrote_then sc a b c (entry item [] ∷ []) [] [] None (wrote_put sc a b item new sound puts) (wrote_read sc b c None (held ≡ are_all_stated sc b.value s.device s.day) sound reads)

pub written_held : (sc : SchemeValue) (a b c : Standing OutboxValue) (station : ℕ) (s : StatementValue) (new : Bool) (place : Option ℕ) (ack : AckItem) (took : Bool) (t u : List Teller) (n0 n1 : Tally)
    → IsSound b → Puts a b (Stated station s) (Ok new) → Asks b c (All_held sc b s) (Ok true) → place ≡ position_of_station sc station → ack ≡ Day (record { device = s.device; day = s.day }) → HasTold place ack t u took → Counts sc (Stated station s) n0 n1 new
    → HasWritten sc a c (Stated station s ∷ []) t u n0 n1 None
written_held sc a b c station s new place ack true t u n0 n1 sound puts reads at is told counts =
    let answer : (x : OutboxValue) → are_all_stated sc x s.device s.day ≡ true → IsAnswerTo sc x s.device (Day (record { device = s.device; day = s.day })) = λ x e. record { to = refl; from = e } in
    written_one sc a c (Stated station s) (ack ∷ []) t u n0 n1 counts.1
    (wrote_answered sc a c (Stated station s) (ack ∷ []) (asked sc a b c (Stated station s) s new true sound puts reads)
    (λ live lawful.
    let one = puts.value (reads.live live) lawful in
    let two = reads.value live one.0 in
    (subst (λ (k : AckItem). IsAnswerTo sc (storing a.value (Stated station s)) s.device k) (sym is) (answer (storing a.value (Stated station s)) (ap (λ (x : OutboxValue). are_all_stated sc x s.device s.day) (sym one.1.2) ∙ sym two.1.1)), tt)))
    (told_one sc (Stated station s) place ack t u at told)
    (λ clean live lawful. counts_as n0.stored n1.stored new (is_new a.value (Stated station s)) counts.0 (puts.value (puts.stays refl live (reads.clean clean)) lawful).1.0)
written_held sc a b c station s new place ack false t u n0 n1 sound puts reads at is told counts =
    written_one sc a c (Stated station s) [] t u n0 n1 counts.1
    (asked sc a b c (Stated station s) s new true sound puts reads)
    (told_dropped sc (Stated station s) place ack t u told)
    (λ clean live lawful. counts_as n0.stored n1.stored new (is_new a.value (Stated station s)) counts.0 (puts.value (puts.stays refl live (reads.clean clean)) lawful).1.0)

pub written_unheld : (sc : SchemeValue) (a b c : Standing OutboxValue) (item : Arrived) (s : StatementValue) (new held : Bool) (t : List Teller) (n0 n1 : Tally)
    → IsSound b → Puts a b item (Ok new) → Asks b c (All_held sc b s) (Ok held) → Counts sc item n0 n1 new
    → HasWritten sc a c (item ∷ []) t t n0 n1 None
written_unheld sc a b c item s new held t n0 n1 sound puts reads counts =
    written_one sc a c item [] t t n0 n1 counts.1 (asked sc a b c item s new held sound puts reads) (told_same sc item t)
    (λ clean live lawful. counts_as n0.stored n1.stored new (is_new a.value item) counts.0 (puts.value (puts.stays refl live (reads.clean clean)) lawful).1.0)

same_fault : (f : Fault) → store_fault (as_writer f) ≡ Some f
same_fault fault.Memory = refl
same_fault fault.Store = refl

not_refused : (f : Fault) → as_writer f ≡ Refused → ⊥
not_refused fault.Memory e = absurd (cc)
not_refused fault.Store e = absurd (cc)

pub written_failed : (sc : SchemeValue) (a b c : Standing OutboxValue) (item : Arrived) (s : StatementValue) (new : Bool) (f : Fault) (t : List Teller) (n0 n1 : Tally)
    → IsSound b → Puts a b item (Ok new) → Asks b c (All_held sc b s) (Err f) → Counts sc item n0 n1 new
    → HasWritten sc a c (item ∷ []) t t n0 n1 (Some (record { hand = None; behind = 0; fault = as_writer f }))
written_failed sc a b c item s new f t n0 n1 sound puts reads counts =
    written_asked sc a c item t n0 n1 (as_writer f)
    (subst (λ (k : Option Fault). Wrote sc a c (entry item [] ∷ []) [] k) (sym (same_fault f))
    (wrote_then sc a b c (entry item [] ∷ []) [] [] (Some f) (wrote_put sc a b item new sound puts) (wrote_read sc b c (Some f) (Unit {0}) sound reads)))
    (λ clean live lawful. counts_as n0.stored n1.stored new (is_new a.value item) counts.0 (puts.value (puts.stays refl live (reads.clean clean)) lawful).1.0)
    (not_refused f)
