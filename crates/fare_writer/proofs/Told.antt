-- What the writer did with one item.
use Rattle.std.proofs.Common.{◌≡◌, ℕ, ◌+◌, List, [], ◌∷◌, ◌++◌, slice_index_or, Some, None, true, false, refl, sym, ap, ◌∙◌, arith}
use Rattle.std.specs.Prelude.{Option, Bool, Err, min, if◌then◌else◌}
use Rattle.std.proofs.lemmas.List.{append-nil}
use Rattle.fare_writer.specs.Noting.{noting}
use Rattle.fare_scheme.specs.Values.{SchemeValue}
use Rattle.fare_scheme.specs.Words.{position_of_station}
use Rattle.fare_collector.specs.Collecting.{is_id}
use Rattle.fare_store.specs.Standing.{Standing, IsSound}
use Rattle.fare_store.specs.OutboxWords.{OutboxValue}
use Rattle.fare_inbox_queue.specs.declared.arrived.Arrived.{Arrived}
use Rattle.fare_record.specs.declared.ack_item.AckItem.{AckItem}
use Rattle.fare_inbox_queue.specs.Inbox.{station_in}
use Rattle.fare_inbox_queue.specs.LinePasses.{put_list}
use Rattle.fare_writer.specs.declared.tally.Tally.{Tally}
use Rattle.fare_writer.specs.declared.fault.WriterFault.{WriterFault}
use Rattle.fare_writer.specs.declared.fault.WriterFault.TheVariants.{Refused, Memory, Store}
use Rattle.fare_writer.specs.declared.teller.Teller.{Teller}
use Rattle.fare_writer.specs.Entries.{item_of, is_new, storing}
use Rattle.fare_writer.specs.Writing.{Puts, Put, store_fault, Wrote}
use Rattle.fare_writer.specs.Handling.{HasTold, HaveBeenTold, HasWritten, RefusedBy}
use Rattle.fare_writer.proofs.Wrote.{entry, wrote_halt, wrote_full}

-- THE LINES
pub told_none : (sc : SchemeValue) (t : List Teller) → HaveBeenTold sc [] t t
told_none sc t = record { len = refl; each = λ k d lt. sym (append-nil (put_list (slice_index_or t k d).pass)) }

abbrev nothing : List AckItem
nothing = []

nothing_of : (b : Bool) → (if b then nothing else nothing) ≡ nothing
nothing_of true = refl
nothing_of false = refl

-- an item of which the line took nothing
pub told_same : (sc : SchemeValue) (a : Arrived) (t : List Teller) → HaveBeenTold sc (entry a [] ∷ []) t t
told_same sc a t = record {
  len = refl;
  each = λ k d lt. sym (ap (λ l. put_list (slice_index_or t k d).pass ++ (l ++ [])) (nothing_of (is_id (position_of_station sc (station_in a)) k)) ∙ append-nil (put_list (slice_index_or t k d).pass));
}

pub told_dropped : (sc : SchemeValue) (a : Arrived) (place : Option ℕ) (item : AckItem) (t u : List Teller) → HasTold place item t u false → HaveBeenTold sc (entry a [] ∷ []) t u
told_dropped sc a place item t u told = record {
  len = told.len;
  each = λ k d lt. told.each k d lt ∙ ap (λ l. put_list (slice_index_or t k d).pass ++ l) (sym (append-nil _ ∙ nothing_of (is_id (position_of_station sc (station_in a)) k)));
}

-- an item of which its station's line took an answer
pub told_one : (sc : SchemeValue) (a : Arrived) (place : Option ℕ) (item : AckItem) (t u : List Teller) → place ≡ position_of_station sc (station_in a) → HasTold place item t u true → HaveBeenTold sc (entry a (item ∷ []) ∷ []) t u
told_one sc a place item t u at told = record {
  len = told.len;
  each = λ k d lt. told.each k d lt ∙ ap (λ l. put_list (slice_index_or t k d).pass ++ l) (ap (λ p. if is_id p k then item ∷ [] else []) at ∙ sym (append-nil (if is_id (position_of_station sc (station_in a)) k then item ∷ [] else [])));
}

-- ITEMS
-- an item that was stored, or had been before
pub written_one : (sc : SchemeValue) (a b : Standing OutboxValue) (item : Arrived) (answers : List AckItem) (t u : List Teller) (n0 n1 : Tally) → n1.days.keys ≡ noting sc n0.days.keys (item_of item)
    → Wrote sc a b (entry item answers ∷ []) [] None → HaveBeenTold sc (entry item answers ∷ []) t u
    → (b.clean → a.live → a.lawful → min n1.stored 18446744073709551615 ≡ min (n0.stored + (if is_new a.value item then 1 else 0)) 18446744073709551615)
    → HasWritten sc a b (item ∷ []) t u n0 n1 None
written_one sc a b item answers t u n0 n1 notes wrote told counts = record {
  entries = entry item answers ∷ [];
  behind = [];
  all = refl;
  wrote = wrote;
  behind_is = refl;
  alone = λ e. refl;
  few = omega arith;
  told = told;
  refused = λ live lawful. tt;
  counted = λ clean live lawful. let c = counts clean live lawful in omega (arith, c);
  noted = λ e. notes;
}

-- the same, and then the outbox failed
pub written_asked : (sc : SchemeValue) (a b : Standing OutboxValue) (item : Arrived) (t : List Teller) (n0 n1 : Tally) (f : WriterFault)
    → Wrote sc a b (entry item [] ∷ []) [] (store_fault f)
    → (b.clean → a.live → a.lawful → min n1.stored 18446744073709551615 ≡ min (n0.stored + (if is_new a.value item then 1 else 0)) 18446744073709551615)
    → (f ≡ Refused → ⊥)
    → HasWritten sc a b (item ∷ []) t t n0 n1 (Some (record { hand = None; behind = 0; fault = f }))
written_asked sc a b item t n0 n1 f wrote counts failed = record {
  entries = entry item [] ∷ [];
  behind = [];
  all = refl;
  wrote = wrote;
  behind_is = refl;
  alone = λ e. refl;
  few = omega arith;
  told = told_same sc item t;
  refused = λ live lawful. not_refused f (storing a.value item) failed;
  counted = λ clean live lawful. let c = counts clean live lawful in omega (arith, c);
  noted = λ e. absurd (cc);
}
  where
    not_refused : (f : WriterFault) (x : OutboxValue) → (f ≡ Refused → ⊥) → RefusedBy x (Some (record { hand = None; behind = 0; fault = f }))
    not_refused Refused x never = absurd (never refl)
    not_refused Memory x never = tt
    not_refused Store x never = tt

-- one that was refused, or failed
pub written_halt : (sc : SchemeValue) (a b : Standing OutboxValue) (item : Arrived) (t : List Teller) (n0 n1 : Tally) (f : WriterFault) → n1.stored ≡ n0.stored → IsSound a → Puts a b item (Err f)
    → HasWritten sc a b (item ∷ []) t t n0 n1 (Some (record { hand = Some item; behind = 0; fault = f }))
written_halt sc a b item t n0 n1 f same sound puts = record {
  entries = [];
  behind = [];
  all = refl;
  wrote = wrote_halt sc a b item f sound puts;
  behind_is = refl;
  alone = λ e. refl;
  few = omega arith;
  told = told_none sc t;
  refused = λ live lawful. is_refused f (puts.value live lawful).1;
  counted = λ clean live lawful. omega (arith, same);
  noted = λ e. absurd (cc);
}
  where
    is_refused : (f : WriterFault) → Put a.value b.value item (Err f) → RefusedBy a.value (Some (record { hand = Some item; behind = 0; fault = f }))
    is_refused Refused p = p.0
    is_refused Memory p = tt
    is_refused Store p = tt

-- one that was not given to the outbox, since there was no memory to note its day
pub written_full : (sc : SchemeValue) (s : Standing OutboxValue) (item : Arrived) (t : List Teller) (n0 n1 : Tally) → n1.stored ≡ n0.stored → IsSound s
    → HasWritten sc s s (item ∷ []) t t n0 n1 (Some (record { hand = Some item; behind = 0; fault = Memory }))
written_full sc s item t n0 n1 same sound = record {
  entries = [];
  behind = [];
  all = refl;
  wrote = wrote_full sc s item sound;
  behind_is = refl;
  alone = λ e. refl;
  few = omega arith;
  told = told_none sc t;
  refused = λ live lawful. tt;
  counted = λ clean live lawful. omega (arith, same);
  noted = λ e. absurd (cc);
}
