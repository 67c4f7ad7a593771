-- What items, one after the other, make of an outbox.
use Rattle.std.proofs.Common.{◌≡◌, List, [], ◌∷◌, ◌++◌, length, map, take, Some, None, true, refl, sym, ap, ◌∙◌, subst, inl, inr, arith}
use Rattle.std.specs.Prelude.{Option, Bool, Ok, Err, if◌then◌else◌}
use Rattle.std.proofs.lemmas.Bool.{cases_lt}
use Rattle.std.proofs.lemmas.List.{take-append-le, take_all}
use Rattle.std.specs.List.{AllByRecursion}
use Rattle.fare_scheme.specs.Values.{SchemeValue}
use Rattle.fare_store.specs.declared.fault.Fault.{Fault}
use Rattle.fare_store.specs.declared.fault.Fault.TheVariants as fault
use Rattle.fare_store.specs.Standing.{Standing, Counted, IsSound}
use Rattle.fare_session.specs.Stores.{Called}
use Rattle.fare_store.specs.OutboxWords.{OutboxValue}
use Rattle.fare_inbox_queue.specs.declared.arrived.Arrived.{Arrived}
use Rattle.fare_record.specs.declared.ack_item.AckItem.{AckItem}
use Rattle.fare_writer.specs.declared.fault.WriterFault.{WriterFault}
use Rattle.fare_writer.specs.declared.fault.WriterFault.TheVariants.{Refused, Memory, Store}
use Rattle.fare_record.specs.declared.item.Item.{Item}
use Rattle.fare_history.specs.Gathering as history
use Rattle.fare_history.specs.Gathering.{HasFirst}
use Rattle.fare_writer.specs.Entries.{item_of, is_new, storing, done_by, device_of, Entry, storing_all, AreEntries, IsAnswerTo}
use Rattle.fare_writer.specs.Writing.{store_fault, Put, Puts, LeavesOutbox, Wrote}

abbrev pub entry : Arrived → List AckItem → Entry
entry a answers = record { item = a; answers = answers }

-- LISTS OF ENTRIES
pub storing_append : (x : OutboxValue) (es fs : List Entry) → storing_all x (es ++ fs) ≡ storing_all (storing_all x es) fs
storing_append x [] fs = refl
storing_append x (e ∷ es) fs = storing_append (storing x e.item) es fs

pub entries_append : (sc : SchemeValue) (x : OutboxValue) (es fs : List Entry) → AreEntries sc x es → AreEntries sc (storing_all x es) fs → AreEntries sc x (es ++ fs)
entries_append sc x [] fs first second = second
entries_append sc x (e ∷ es) fs first second = (first.0, entries_append sc (storing x e.item) es fs first.1 second)

-- CALLS
-- nothing more was stored
pub none_more : (x : OutboxValue) (is : List Item) (v : OutboxValue) → v ≡ x → HasFirst x is v
none_more x is v same = record { count = 0; new = tt; value = same }

-- one was
pub one_more : (x : OutboxValue) (a : Arrived) (behind : List Arrived) (v : OutboxValue) → is_new x a ≡ true → v ≡ done_by a x → HasFirst x (map item_of (a ∷ behind)) v
one_more x a behind v new is = record { count = 1; new = (new, tt); value = is ∙ ap (λ (b : Bool). if b then done_by a x else x) (sym new) }

-- what was tried is part of what is left
pub first_more : (x : OutboxValue) (is more : List Item) (y : OutboxValue) → HasFirst x is y → HasFirst x (is ++ more) y
first_more x is more y first = elim (cases_lt (length is) first.count) [
  | inl high ↦ (
      let own : take first.count is ≡ is = take_all first.count is (omega (arith, high)) in
      let same : take (length is) (is ++ more) ≡ is = take-append-le (length is) is more (omega arith) ∙ take_all (length is) is (omega arith) in
      record { count = length is; new = subst (history.AreNew x) (own ∙ sym same) first.new; value = first.value ∙ ap (λ l. history.storing_all x (history.unanswered l)) (own ∙ sym same) })
  | inr low ↦ (
      let same : take first.count (is ++ more) ≡ take first.count is = take-append-le first.count is more low in
      record { count = first.count; new = subst (history.AreNew x) (sym same) first.new; value = first.value ∙ ap (λ l. history.storing_all x (history.unanswered l)) (sym same) })
]

leaves_on : (o m : OutboxValue) (es fs : List Entry) (tried : List Arrived) (v : OutboxValue) → m ≡ storing_all o es → LeavesOutbox m fs tried v → LeavesOutbox o (es ++ fs) tried v
leaves_on o m es fs tried v is l = subst (λ x. HasFirst x (map item_of tried) v) (ap (λ x. storing_all x fs) is ∙ sym (storing_append o es fs)) l

-- some items with no fault, and then some
pub wrote_then : (sc : SchemeValue) (o m n : Standing OutboxValue) (es fs : List Entry) (tried : List Arrived) (f : Option Fault) → Wrote sc o m es [] None → Wrote sc m n fs tried f → Wrote sc o n (es ++ fs) tried f
wrote_then sc o m n es fs tried f first second = record {
  value = λ live lawful.
      let one = first.value (second.live live) lawful in
      let two = second.value live one.0 in
      (two.0, two.1 ∙ (ap (λ x. storing_all x fs) one.1 ∙ sym (storing_append o.value es fs)));
  known = λ clean live lawful.
      let ok = first.stays refl live (second.clean clean) in
      let one = first.value ok lawful in
      entries_append sc o.value es fs (first.known (second.clean clean) live lawful) (subst (λ x. AreEntries sc x fs) one.1 (second.known clean ok one.0));
  stop = λ clean live lawful v leaves.
      let ok = first.stays refl live (second.clean clean) in
      let one = first.value ok lawful in
      leaves_on o.value m.value es fs tried v one.1 (second.stop clean ok one.0 v leaves);
  shut = λ clean lawful v leaves. elim (second.shut clean (λ live. (first.value live (lawful (first.live live))).0) v leaves) [
    | inl before ↦ first.shut (second.clean clean) lawful v before
    | inr live ↦ inr (first.live live)
  ];
  lasts = λ clean lawful lasting. second.lasts clean (λ live. (first.value live (lawful (first.live live))).0) (first.lasts (second.clean clean) lawful lasting);
  clean = λ h. first.clean (second.clean h);
  live = λ h. first.live (second.live h);
  stays = λ e live clean. second.stays e (first.stays refl live (second.clean clean)) clean;
  cause = subst (λ k. Counted k n.failures f) first.cause second.cause;
}

-- a read, whatever it answered
pub wrote_read : (sc : SchemeValue) (s t : Standing OutboxValue) (f : Option Fault) (P : Type 0) → IsSound s → Called s t f ((t.value ≡ s.value) × P) (λ v. ⊥) → Wrote sc s t [] [] f
wrote_read sc s t f P sound c = record {
  value = λ live lawful. let is = c.value live lawful in (is.0, is.1.0);
  known = λ clean live lawful. tt;
  stop = λ clean live lawful v leaves. elim (c.stop clean (λ l. lawful) v leaves) [
    | inl before ↦ none_more s.value [] v (sound.settled live lawful v before)
    | inr none ↦ absurd none.1
  ];
  shut = λ clean lawful v leaves. elim (c.stop clean lawful v leaves) [
    | inl before ↦ inl before
    | inr none ↦ absurd none.1
  ];
  lasts = c.lasts;
  clean = c.clean;
  live = c.live;
  stays = c.stays;
  cause = c.cause;
}

-- an item that was stored, or had been before
pub wrote_put : (sc : SchemeValue) (s t : Standing OutboxValue) (a : Arrived) (new : Bool) → IsSound t → Puts s t a (Ok new) → Wrote sc s t (entry a [] ∷ []) [] None
wrote_put sc s t a new sound c = record {
  value = λ live lawful. let is = c.value live lawful in (is.0, is.1.2);
  known = λ clean live lawful. let is = c.value (c.stays refl live clean) lawful in (record { handled = is.1.1; answers = tt }, tt);
  stop = λ clean live lawful v leaves.
      let ok = c.stays refl live clean in
      let is = c.value ok lawful in
      none_more (storing s.value a) [] v (sound.settled ok is.0 v leaves ∙ is.1.2);
  shut = λ clean lawful v leaves. elim (c.stop clean lawful v leaves) [
    | inl before ↦ inl before
    | inr done ↦ inr done.0
  ];
  lasts = c.lasts;
  clean = c.clean;
  live = c.live;
  stays = c.stays;
  cause = c.cause;
}

same_put : (old new : OutboxValue) (a : Arrived) (f : WriterFault) → Put old new a (Err f) → new ≡ old
same_put old new a Refused p = p.1
same_put old new a Memory p = p
same_put old new a Store p = p

-- one that was refused, or failed
pub wrote_halt : (sc : SchemeValue) (s t : Standing OutboxValue) (a : Arrived) (f : WriterFault) → IsSound s → Puts s t a (Err f) → Wrote sc s t [] (a ∷ []) (store_fault f)
wrote_halt sc s t a f sound c = record {
  value = λ live lawful. let is = c.value live lawful in (is.0, same_put s.value t.value a f is.1);
  known = λ clean live lawful. tt;
  stop = λ clean live lawful v leaves. elim (c.stop clean (λ l. lawful) v leaves) [
    | inl before ↦ none_more s.value (item_of a ∷ []) v (sound.settled live lawful v before)
    | inr done ↦ one_more s.value a [] v done.1.0 done.1.1
  ];
  shut = λ clean lawful v leaves. elim (c.stop clean lawful v leaves) [
    | inl before ↦ inl before
    | inr done ↦ inr done.0
  ];
  lasts = c.lasts;
  clean = c.clean;
  live = c.live;
  stays = c.stays;
  cause = c.cause;
}

-- one that was not given to it
pub wrote_full : (sc : SchemeValue) (s : Standing OutboxValue) (a : Arrived) → IsSound s → Wrote sc s s [] (a ∷ []) (Some fault.Memory)
wrote_full sc s a sound = record {
  value = λ live lawful. (lawful, refl);
  known = λ clean live lawful. tt;
  stop = λ clean live lawful v leaves. none_more s.value (item_of a ∷ []) v (sound.settled live lawful v leaves);
  shut = λ clean lawful v leaves. inl leaves;
  lasts = λ clean lawful lasting. lasting;
  clean = λ h. h;
  live = λ h. h;
  stays = λ e. absurd (cc);
  cause = refl;
}

-- the same item with what was answered
pub wrote_answered : (sc : SchemeValue) (s t : Standing OutboxValue) (a : Arrived) (answers : List AckItem) → Wrote sc s t (entry a [] ∷ []) [] None
    → (t.live → s.lawful → AllByRecursion (IsAnswerTo sc (storing s.value a) (device_of a)) answers) → Wrote sc s t (entry a answers ∷ []) [] None
wrote_answered sc s t a answers w from = record {
  value = w.value;
  known = λ clean live lawful. (record { handled = (w.known clean live lawful).0.handled; answers = from (w.stays refl live clean) lawful }, tt);
  stop = w.stop;
  shut = w.shut;
  lasts = w.lasts;
  clean = w.clean;
  live = w.live;
  stays = w.stays;
  cause = w.cause;
}
