-- Several items at the writer: taken, stored all at once, and told.
use Rattle.std.proofs.Common.{◌≡◌, ℕ, ◌+◌, ◌-◌, ◌≤◌, List, [], ◌∷◌, ◌++◌, length, map, take, drop, Some, None, true, false, refl, sym, ap, ◌∙◌, subst, append_assoc, inl, inr, arith}
use Rattle.std.specs.Prelude.{Option, Result, Ok, Err, Bool, min, ◌⊎◌, if◌then◌else◌, fold, IfOk}
use Rattle.std.specs.List.{AllByRecursion}
use Rattle.std.proofs.lemmas.List.{append-nil, map-append, take-map, take-take, take-append-drop, length-take-le}
use Rattle.std.proofs.Math.Seq.{take-add}
use Rattle.fare_record.specs.Values.{RecordValue}
use Rattle.fare_record.specs.declared.item.Item.TheVariants as item
use Rattle.fare_record.specs.declared.ack_item.AckItem.{AckItem}
use Rattle.fare_record.specs.declared.ack_item.AckItem.TheVariants.{Upto}
use Rattle.fare_scheme.specs.Values.{SchemeValue}
use Rattle.fare_scheme.specs.Words.{position_of_station}
use Rattle.fare_store.specs.declared.fault.Fault.{Fault}
use Rattle.fare_store.specs.declared.fault.Fault.TheVariants as fault
use Rattle.fare_store.specs.Standing.{Standing, IsSound}
use Rattle.fare_store.specs.Standing as store
use Rattle.fare_store.specs.Keys.{Key}
use Rattle.fare_store.specs.OutboxWords.{OutboxValue, store_judged, stored}
use Rattle.fare_store.specs.Batches.{done_all, DoesSome, IsPartDone, WritesFirst}
use Rattle.fare_history.specs.Gathering as history
use Rattle.fare_history.proofs.Entries.{all-append, all-weaken}
use Rattle.fare_history.proofs.GoingOnAtOnce.{new_taps}
use Rattle.fare_session.proofs.Takes.{called_say}
use Rattle.fare_inbox_queue.specs.InboxPasses.{taken_list}
use Rattle.fare_inbox_queue.specs.declared.arrived.Arrived.{Arrived}
use Rattle.fare_inbox_queue.specs.declared.arrived.Arrived.TheVariants.{Tap, Stated}
use Rattle.fare_inbox_queue.specs.declared.inbox_passes.WriterPass.{WriterPass}
use Rattle.fare_writer.specs.declared.tally.Tally.{Tally}
use Rattle.fare_writer.specs.declared.fault.WriterFault.{WriterFault}
use Rattle.fare_writer.specs.declared.fault.WriterFault.TheVariants.{Refused, Memory, Store}
use Rattle.fare_writer.specs.declared.teller.Teller.{Teller}
use Rattle.fare_writer.specs.declared.halt.Halt.{Halt}
use Rattle.fare_writer.specs.Noting.{noting}
use Rattle.fare_writer.specs.Entries.{item_of, device_of, storing, IsAnswerTo, Entry, items_of, storing_all, AreEntries, new_count, in_hand}
use Rattle.fare_writer.specs.Writing.{store_fault, as_writer, Wrote}
use Rattle.fare_writer.specs.Handling.{HasTold, HasWritten, IsRefusedItem, batch_of}
use Rattle.fare_writer.specs.Batches.{HasTakenMore, AreTaps, BeginWithTaps, AreStoredFirst, StoredFirst, StoresFirst, AreOwn, HaveTold, HaltsBefore}
use Rattle.fare_writer.proofs.Handled.{tap_answer}
use Rattle.fare_writer.proofs.Wrote.{entry, none_more, first_more}
use Rattle.fare_writer.proofs.Told.{told_none, told_same, told_dropped, told_one}
use Rattle.fare_writer.proofs.Written.{items_append, told_then, written_then}

-- TAKING
pub taken_none : (p : WriterPass) (first : List Arrived) → HasTakenMore p p first first
taken_none p first = record { more = []; items_are = sym (append-nil first); took = sym (append-nil (taken_list p)) }

pub taken_one : (o m n : WriterPass) (first xs : List Arrived) (a : Arrived) → HasTakenMore o m first xs → taken_list n ≡ taken_list m ++ a ∷ [] → HasTakenMore o n first (xs ++ a ∷ [])
taken_one o m n first xs a before took = record {
  more = before.more ++ a ∷ [];
  items_are = ap (λ l. l ++ a ∷ []) before.items_are ∙ append_assoc first before.more (a ∷ []);
  took = took ∙ (ap (λ l. l ++ a ∷ []) before.took ∙ append_assoc (taken_list o) before.more (a ∷ []));
}

-- STORING
tap_rows : (items : List Arrived) (rows : List RecordValue) (count n : ℕ) → map item_of (take count items) ≡ map item.Tap (take count rows) → n ≤ count → map item_of (take n items) ≡ map item.Tap (take n (take count rows))
tap_rows items rows count n same low =
    ap (map item_of) (sym (take-take n count items low)) ∙ (sym (take-map item_of n (take count items)) ∙ (ap (take n) same ∙ take-map item.Tap n (take count rows)))

begins : (items : List Arrived) (rows : List RecordValue) (count n : ℕ) → AreTaps items rows count → n ≤ count → BeginWithTaps items n
begins items rows count n taps low = record { few = (let f = taps.few in omega (arith, low, f)); rows = take n (take count rows); same = tap_rows items rows count n taps.same low }

pub begin_with_taps : (items : List Arrived) (rows : List RecordValue) (count : ℕ) (r : Result ℕ Fault) → AreTaps items rows count → IfOk r (λ n. n ≤ length (take count rows)) → count ≤ length rows → IfOk r (BeginWithTaps items)
begin_with_taps items rows count (Ok n) taps low room = begins items rows count n taps (let l = length-take-le count rows room in omega (arith, low, l))
begin_with_taps items rows count (Err f) taps low room = tt

-- what was stored of the rows is what was stored of the items
stored_first : (x y : OutboxValue) (items : List Arrived) (rows : List RecordValue) (n : ℕ) → map item_of (take n items) ≡ map item.Tap rows → history.AreNew x (map item.Tap rows) × (done_all stored rows x ≡ history.storing_all x (history.unanswered (map item.Tap rows))) → y ≡ done_all stored rows x → AreStoredFirst x items n y
stored_first x y items rows n same new is = record {
  new = subst (history.AreNew x) (sym same) new.0;
  value = is ∙ (new.1 ∙ ap (λ l. history.storing_all x (history.unanswered l)) (sym same));
}

pub stores_first : (a b : Standing OutboxValue) (items : List Arrived) (rows : List RecordValue) (count : ℕ) (r : Result ℕ Fault) → AreTaps items rows count → count ≤ length rows → WritesFirst store_judged stored a b (take count rows) r → StoresFirst a b items r
stores_first a b items rows count r taps room call =
    called_say a b (store.fault_of r) (store.fault_of r) (DoesSome store_judged stored a.value b.value (take count rows) r) (StoredFirst a.value b.value items r) (IsPartDone store_judged stored a.value (take count rows)) (history.HasFirst a.value (map item_of items)) refl (did r) part call
  where
    within : (n : ℕ) → n ≤ length (take count rows) → n ≤ count
    within n low = let l = length-take-le count rows room in omega (arith, low, l)

    did : (q : Result ℕ Fault) → DoesSome store_judged stored a.value b.value (take count rows) q → StoredFirst a.value b.value items q
    did (Ok n) is = stored_first a.value b.value items (take n (take count rows)) n (tap_rows items rows count n taps.same (within n is.few)) (new_taps a.value (take n (take count rows)) is.accepted) is.value
    did (Err f) is = is

    part : (v : OutboxValue) → IsPartDone store_judged stored a.value (take count rows) v → history.HasFirst a.value (map item_of items) v
    part v is =
        let s = stored_first a.value v items (take is.count (take count rows)) is.count (tap_rows items rows count is.count taps.same (within is.count is.few)) (new_taps a.value (take is.count (take count rows)) is.accepted) is.value in
        let at = take-map item_of is.count items in
        record {
          count = is.count;
          new = subst (history.AreNew a.value) (sym at) s.new;
          value = s.value ∙ ap (λ l. history.storing_all a.value (history.unanswered l)) (sym at);
        }

-- TELLING
pub told_nothing : (sc : SchemeValue) (t : List Teller) → HaveTold sc [] t t
told_nothing sc t = record { entries = []; items_are = refl; own = tt; told = told_none sc t }

pub told_more : (sc : SchemeValue) (xs ys : List Arrived) (t u v : List Teller) → HaveTold sc xs t u → HaveTold sc ys u v → HaveTold sc (xs ++ ys) t v
told_more sc xs ys t u v first second = record {
  entries = first.entries ++ second.entries;
  items_are = items_append first.entries second.entries ∙ λ i. first.items_are i ++ second.items_are i;
  own = all-append (λ (e : Entry). AreOwn e.item e.answers) first.entries second.entries first.own second.own;
  told = told_then sc first.entries second.entries t u v first.told second.told;
}

pub told_tap : (sc : SchemeValue) (station : ℕ) (r : RecordValue) (place : Option ℕ) (ack : AckItem) (took : Bool) (t u : List Teller) → place ≡ position_of_station sc station → ack ≡ Upto (record { device = r.device; upto = r.link }) → HasTold place ack t u took → HaveTold sc (Tap station r ∷ []) t u
told_tap sc station r place ack true t u at is told = record { entries = entry (Tap station r) (ack ∷ []) ∷ []; items_are = refl; own = ((is, tt), tt); told = told_one sc (Tap station r) place ack t u at told }
told_tap sc station r place ack false t u at is told = record { entries = entry (Tap station r) [] ∷ []; items_are = refl; own = (tt, tt); told = told_dropped sc (Tap station r) place ack t u told }

pub told_statement : (sc : SchemeValue) (a : Arrived) (t : List Teller) → HaveTold sc (a ∷ []) t t
told_statement sc a t = record { entries = entry a [] ∷ []; items_are = refl; own = (none a, tt); told = told_same sc a t }
  where
    none : (b : Arrived) → AreOwn b []
    none (Tap station r) = tt
    none (Stated station s) = refl

-- WHAT CAME OF THEM
own_right : (sc : SchemeValue) (x : OutboxValue) (a : Arrived) (answers : List AckItem) → history.is_new x (item_of a) ≡ true → AreOwn a answers → AllByRecursion (IsAnswerTo sc (storing x a) (device_of a)) answers
own_right sc x (Tap station r) answers new own = all-weaken (λ (k : AckItem). k ≡ Upto (record { device = r.device; upto = r.link })) (IsAnswerTo sc (storing x (Tap station r)) r.device) (λ k is. subst (IsAnswerTo sc (storing x (Tap station r)) r.device) (sym is) (tap_answer sc x station r new)) answers own
own_right sc x (Stated station s) answers new own = subst (AllByRecursion (IsAnswerTo sc (storing x (Stated station s)) (device_of (Stated station s)))) (sym own) tt

entries_right : (sc : SchemeValue) (x : OutboxValue) (es : List Entry) → history.AreNew x (map item_of (items_of es)) → AllByRecursion (λ (e : Entry). AreOwn e.item e.answers) es → AreEntries sc x es
entries_right sc x [] new own = tt
entries_right sc x (e ∷ es) new own = (record { handled = inl new.0; answers = own_right sc x e.item e.answers new.0 own.0 }, entries_right sc (storing x e.item) es new.1 own.1)

storing_entries : (x : OutboxValue) (es : List Entry) → history.storing_all x (history.unanswered (map item_of (items_of es))) ≡ storing_all x es
storing_entries x [] = refl
storing_entries x (e ∷ es) = storing_entries (storing x e.item) es

all_count : (x : OutboxValue) (es : List Entry) → history.AreNew x (map item_of (items_of es)) → new_count x es ≡ length (items_of es)
all_count x [] new = refl
all_count x (e ∷ es) new =
    let more = all_count (storing x e.item) es new.1 in
    let one : ◌≡◌ {A = ℕ} (if history.is_new x (item_of e.item) then 1 else 0) 1 = ap (λ (b : Bool). if b then 1 else 0) new.0 in
    omega (arith, more, one)

taps_unnoted : (sc : SchemeValue) (days : List Key) (rows : List RecordValue) → fold (noting sc) days (map item.Tap rows) ≡ days
taps_unnoted sc days [] = refl
taps_unnoted sc days (r ∷ rows) = taps_unnoted sc days rows

-- the first of them were stored all at once, and told
pub written_first : (sc : SchemeValue) (a b : Standing OutboxValue) (items : List Arrived) (n : ℕ) (t u : List Teller) (n0 n1 : Tally) → IsSound b → StoresFirst a b items (Ok n) → BeginWithTaps items n → HaveTold sc (take n items) t u
    → min n1.stored 18446744073709551615 ≡ min (n0.stored + length (take n items)) 18446744073709551615 → n1.days ≡ n0.days → HasWritten sc a b (take n items) t u n0 n1 None
written_first sc a b items n t u n0 n1 sound c taps told count days = record {
  entries = es;
  behind = [];
  all = sym told.items_are ∙ sym (append-nil (items_of es));
  wrote = record {
    value = λ live lawful. let is = c.value live lawful in (is.0, value is.1);
    known = λ clean live lawful. entries_right sc a.value es (new (c.value (c.stays refl live clean) lawful).1) told.own;
    stop = λ clean live lawful v leaves.
        let ok = c.stays refl live clean in
        let is = c.value ok lawful in
        none_more (storing_all a.value es) [] v (sound.settled ok is.0 v leaves ∙ value is.1);
    shut = λ clean lawful v leaves. elim (c.stop clean lawful v leaves) [
      | inl before ↦ inl before
      | inr done ↦ inr done.0
    ];
    lasts = c.lasts;
    clean = c.clean;
    live = c.live;
    stays = c.stays;
    cause = c.cause;
  };
  behind_is = refl;
  alone = λ e. refl;
  few = omega arith;
  told = told.told;
  refused = λ live lawful. tt;
  counted = λ clean live lawful.
      let m = all_count a.value es (new (c.value (c.stays refl live clean) lawful).1) in
      let l = ap length told.items_are in
      omega (arith, count, m, l);
  noted = λ e. ap (λ d. d.keys) days ∙ sym (ap (fold (noting sc) n0.days.keys) taps.same ∙ taps_unnoted sc n0.days.keys taps.rows);
}
  where
    es : List Entry
    es = told.entries

    same : map item_of (take n items) ≡ map item_of (items_of es)
    same = ap (map item_of) (sym told.items_are)

    new : AreStoredFirst a.value items n b.value → history.AreNew a.value (map item_of (items_of es))
    new is = subst (history.AreNew a.value) same is.new

    value : AreStoredFirst a.value items n b.value → b.value ≡ storing_all a.value es
    value is = is.value ∙ (ap (λ l. history.storing_all a.value (history.unanswered l)) same ∙ storing_entries a.value es)

some_fault : (f : Fault) → store_fault (as_writer f) ≡ Some f
some_fault fault.Memory = refl
some_fault fault.Store = refl

not_refused : (x : OutboxValue) (hand : Option Arrived) (f : Fault) → IsRefusedItem x (as_writer f) hand
not_refused x hand fault.Memory = tt
not_refused x hand fault.Store = tt

-- the call failed: the first one is in the hand, and the others behind it
pub written_unstored : (sc : SchemeValue) (a b : Standing OutboxValue) (first : Arrived) (rest : List Arrived) (behind : ℕ) (t : List Teller) (n : Tally) (f : Fault) (w : WriterFault) → w ≡ as_writer f → behind ≡ length rest → length rest ≤ batch_of sc - 1 → IsSound a → StoresFirst a b (first ∷ rest) (Err f)
    → HasWritten sc a b (first ∷ rest) t t n n (Some (record { hand = Some first; behind = behind; fault = w }))
written_unstored sc a b first rest behind t n f w is long low sound c = record {
  entries = [];
  behind = rest;
  all = refl;
  wrote = record {
    value = λ live lawful. c.value live lawful;
    known = λ clean live lawful. tt;
    stop = λ clean live lawful v leaves. elim (c.stop clean (λ l. lawful) v leaves) [
      | inl before ↦ none_more a.value (map item_of (first ∷ rest)) v (sound.settled live lawful v before)
      | inr done ↦ done.1
    ];
    shut = λ clean lawful v leaves. elim (c.stop clean lawful v leaves) [
      | inl before ↦ inl before
      | inr done ↦ inr done.0
    ];
    lasts = c.lasts;
    clean = c.clean;
    live = c.live;
    stays = λ e. absurd (let some : ◌≡◌ {A = Option Fault} (Some f) None = sym (ap store_fault is ∙ some_fault f) ∙ e in cc);
    cause = subst (λ z. store.Counted a.failures b.failures z) (sym (ap store_fault is ∙ some_fault f)) c.cause;
  };
  behind_is = sym long;
  alone = λ e. absurd (cc);
  few = low;
  told = told_none sc t;
  refused = λ live lawful. subst (λ z. IsRefusedItem a.value z (Some first)) (sym is) (not_refused a.value (Some first) f);
  counted = λ clean live lawful. omega arith;
  noted = λ e. absurd (cc);
}

-- HALTING
refused_still : (x : OutboxValue) (f g : WriterFault) (h k : Option Arrived) → g ≡ f → (h ≡ None) ⊎ (k ≡ h) → IsRefusedItem x f h → IsRefusedItem x g k
refused_still x f g h k same from is = subst (λ z. IsRefusedItem x z k) (sym same) (by f from is)
  where
    by : (z : WriterFault) → (h ≡ None) ⊎ (k ≡ h) → IsRefusedItem x z h → IsRefusedItem x z k
    by Refused (inl none) r = absurd (subst (IsRefusedItem x Refused) none r)
    by Refused (inr own) r = subst (IsRefusedItem x Refused) (sym own) r
    by Memory at r = tt
    by Store at r = tt

wrote_more : (sc : SchemeValue) (s t : Standing OutboxValue) (es : List Entry) (tried more : List Arrived) (f : Option Fault) → Wrote sc s t es tried f → Wrote sc s t es (tried ++ more) f
wrote_more sc s t es tried more f w = record {
  value = w.value;
  known = w.known;
  stop = λ clean live lawful v leaves. subst (λ l. history.HasFirst (storing_all s.value es) l v) (sym (map-append item_of tried more)) (first_more (storing_all s.value es) (map item_of tried) (map item_of more) v (w.stop clean live lawful v leaves));
  shut = w.shut;
  lasts = w.lasts;
  clean = w.clean;
  live = w.live;
  stays = w.stays;
  cause = w.cause;
}

nil_from_none : {A : Type 0} (xs : List A) → length xs ≡ 0 → xs ≡ []
nil_from_none [] e = refl
nil_from_none (x ∷ xs) e = absurd (omega (arith, e))

pub written_halted : (sc : SchemeValue) (a b : Standing OutboxValue) (first : Arrived) (rest : List Arrived) (t u : List Teller) (n0 n1 : Tally) (halt result : Halt) → halt.behind ≡ 0 → length rest ≤ batch_of sc - 1 → HaltsBefore halt rest result
    → HasWritten sc a b (first ∷ []) t u n0 n1 (Some halt) → HasWritten sc a b (first ∷ rest) t u n0 n1 (Some result)
written_halted sc a b first rest t u n0 n1 halt result zero_behind low h w = record {
  entries = w.entries;
  behind = h.behind;
  all = ap (λ l. l ++ rest) w.all ∙ (append_assoc (items_of w.entries) (in_hand halt.hand ++ w.behind) rest ∙ ap (λ l. items_of w.entries ++ l) items);
  wrote = subst (λ l. Wrote sc a b w.entries l (store_fault result.fault)) items (subst (λ z. Wrote sc a b w.entries ((in_hand halt.hand ++ w.behind) ++ rest) (store_fault z)) (sym h.fault) (wrote_more sc a b w.entries (in_hand halt.hand ++ w.behind) rest (store_fault halt.fault) w.wrote));
  behind_is = h.count;
  alone = h.alone;
  few = (let f = h.few in omega (arith, f, low));
  told = w.told;
  refused = λ live lawful. refused_still (storing_all a.value w.entries) halt.fault result.fault halt.hand result.hand h.fault h.hand (w.refused live lawful);
  counted = w.counted;
  noted = λ e. absurd (cc);
}
  where
    none : w.behind ≡ []
    none = nil_from_none w.behind (w.behind_is ∙ zero_behind)

    items : (in_hand halt.hand ++ w.behind) ++ rest ≡ in_hand result.hand ++ h.behind
    items = ap (λ l. (in_hand halt.hand ++ l) ++ rest) none ∙ (ap (λ l. l ++ rest) (append-nil (in_hand halt.hand)) ∙ h.items)

-- what the writer has taken then
pub taken_behind : (o m n : WriterPass) (first : Arrived) (more : List Arrived) → taken_list m ≡ taken_list o ++ first ∷ [] → taken_list n ≡ taken_list m ++ more → taken_list n ≡ taken_list o ++ first ∷ more
taken_behind o m n first more one then_ = then_ ∙ (ap (λ l. l ++ more) one ∙ append_assoc (taken_list o) (first ∷ []) more)

-- ONE AFTER THE OTHER
-- where no tap was first, nothing was stored of these
pub none_first : (sc : SchemeValue) (a b : Standing OutboxValue) (items : List Arrived) (n : ℕ) (t : List Teller) (k : Tally) → n ≡ 0 → IsSound b → StoresFirst a b items (Ok n) → BeginWithTaps items n → HasWritten sc a b [] t t k k None
none_first sc a b items n t k none sound call taps =
    let long : length (take n items) ≡ 0 = ap (λ m. length (take m items)) none in
    subst (λ m. HasWritten sc a b (take m items) t t k k None) none
    (written_first sc a b items n t t k k sound call taps (subst (λ m. HaveTold sc (take m items) t t) (sym none) (told_nothing sc t)) (omega (arith, long)) refl)

-- the first of these was stored alone
pub alone_first : (sc : SchemeValue) (a b c : Standing OutboxValue) (items : List Arrived) (first : Arrived) (n : ℕ) (t u : List Teller) (k m : Tally) → n ≡ 0 → IsSound b → StoresFirst a b items (Ok n) → BeginWithTaps items n
    → take 1 items ≡ first ∷ [] → HasWritten sc b c (first ∷ []) t u k m None → HasWritten sc a c (take 1 items) t u k m None
alone_first sc a b c items first n t u k m none sound call taps is one =
    subst (λ l. HasWritten sc a c l t u k m None) (sym is)
    (written_then sc a b c [] (first ∷ []) t t u k k m None (none_first sc a b items n t k none sound call taps) one)

-- or it ended the writer
pub alone_halted : (sc : SchemeValue) (a b c : Standing OutboxValue) (items : List Arrived) (first : Arrived) (rest : List Arrived) (n : ℕ) (t u : List Teller) (k m : Tally) (halt result : Halt) → n ≡ 0 → IsSound b → StoresFirst a b items (Ok n) → BeginWithTaps items n
    → items ≡ first ∷ rest → halt.behind ≡ 0 → length items ≤ batch_of sc → HaltsBefore halt rest result → HasWritten sc b c (first ∷ []) t u k m (Some halt) → HasWritten sc a c items t u k m (Some result)
alone_halted sc a b c items first rest n t u k m halt result none sound call taps is alone few h one =
    let l = ap length is in
    subst (λ xs. HasWritten sc a c xs t u k m (Some result)) (sym is)
    (written_then sc a b c [] (first ∷ rest) t t u k k m (Some result) (none_first sc a b items n t k none sound call taps)
    (written_halted sc b c first rest t u k m halt result alone (omega (arith, l, few)) h one))

-- a first part, and what came of those behind it
pub on_from : (sc : SchemeValue) (a b c : Standing OutboxValue) (items part : List Arrived) (place n : ℕ) (t u v : List Teller) (k m o : Tally) → part ≡ drop place items → HasWritten sc a b (take place items) t u k m None → HasWritten sc b c (take n part) u v m o None
    → HasWritten sc a c (take (place + n) items) t v k o None
on_from sc a b c items part place n t u v k m o is before one =
    subst (λ xs. HasWritten sc a c xs t v k o None) (sym (take-add place n items ∙ ap (λ l. take place items ++ take n l) (sym is)))
    (written_then sc a b c (take place items) (take n part) t u v k m o None before one)

pub halted_from : (sc : SchemeValue) (a b c : Standing OutboxValue) (items part : List Arrived) (place : ℕ) (t u v : List Teller) (k m o : Tally) (halt : Halt) → part ≡ drop place items → HasWritten sc a b (take place items) t u k m None → HasWritten sc b c part u v m o (Some halt)
    → HasWritten sc a c items t v k o (Some halt)
halted_from sc a b c items part place t u v k m o halt is before one =
    subst (λ xs. HasWritten sc a c xs t v k o (Some halt)) (ap (λ l. take place items ++ l) is ∙ take-append-drop place items)
    (written_then sc a b c (take place items) part t u v k m o (Some halt) before one)

-- what no line was told of
pub told_silently : (sc : SchemeValue) (items : List Arrived) (t : List Teller) → HaveTold sc items t t
told_silently sc [] t = told_nothing sc t
told_silently sc (a ∷ rest) t = told_more sc (a ∷ []) rest t t t (told_statement sc a t) (told_silently sc rest t)
