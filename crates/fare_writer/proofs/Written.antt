-- What the writer did with items, one after the other.
use Rattle.std.proofs.Common.{◌≡◌, ℕ, ◌+◌, ◌<◌, List, [], ◌∷◌, ◌++◌, slice_index_or, None, refl, sym, ap, ◌∙◌, subst, append_assoc, arith, inl}
use Rattle.std.specs.Prelude.{Option, map, fold}
use Rattle.std.proofs.lemmas.List.{append-nil, map-append}
use Rattle.std.proofs.lemmas.List.Sums.{fold-append}
use Rattle.fare_store.specs.Keys.{Key}
use Rattle.fare_writer.specs.Noting.{noting}
use Rattle.fare_scheme.specs.Values.{SchemeValue}
use Rattle.fare_store.specs.Standing.{Standing, IsSound}
use Rattle.fare_store.specs.OutboxWords.{OutboxValue}
use Rattle.fare_inbox_queue.specs.declared.arrived.Arrived.{Arrived}
use Rattle.fare_inbox_queue.specs.LinePasses.{put_list}
use Rattle.fare_writer.specs.declared.tally.Tally.{Tally}
use Rattle.fare_writer.specs.declared.teller.Teller.{Teller}
use Rattle.fare_writer.specs.declared.halt.Halt.{Halt}
use Rattle.fare_writer.specs.Entries.{item_of, storing, Entry, items_of, in_hand, storing_all, new_count, told_to, told_of}
use Rattle.fare_writer.specs.Writing.{Wrote}
use Rattle.fare_writer.specs.Handling.{noting_all, HaveBeenTold, HasWritten, RefusedBy, hand_of, fault_of}
use Rattle.fare_writer.proofs.Wrote.{storing_append, wrote_then, none_more}
use Rattle.fare_writer.proofs.Told.{told_none}

-- LISTS OF ENTRIES
pub items_append : (es fs : List Entry) → items_of (es ++ fs) ≡ items_of es ++ items_of fs
items_append [] fs = refl
items_append (e ∷ es) fs = ap (λ l. e.item ∷ l) (items_append es fs)

-- CALLS
-- no call
pub wrote_none : (sc : SchemeValue) (s : Standing OutboxValue) → IsSound s → Wrote sc s s [] [] None
wrote_none sc s sound = record {
  value = λ live lawful. (lawful, refl);
  known = λ clean live lawful. tt;
  stop = λ clean live lawful v leaves. none_more s.value [] v (sound.settled live lawful v leaves);
  shut = λ clean lawful v leaves. inl leaves;
  lasts = λ clean lawful lasting. lasting;
  clean = λ h. h;
  live = λ h. h;
  stays = λ e live clean. live;
  cause = refl;
}

-- WHAT THE LINES WERE TOLD
pub told_append : (sc : SchemeValue) (place : ℕ) (es fs : List Entry) → told_to sc place (es ++ fs) ≡ told_to sc place es ++ told_to sc place fs
told_append sc place [] fs = refl
told_append sc place (e ∷ es) fs = ap (λ l. told_of sc place e ++ l) (told_append sc place es fs) ∙ sym (append_assoc (told_of sc place e) (told_to sc place es) (told_to sc place fs))

pub told_then : (sc : SchemeValue) (es fs : List Entry) (a b c : List Teller) → HaveBeenTold sc es a b → HaveBeenTold sc fs b c → HaveBeenTold sc (es ++ fs) a c
told_then sc es fs a b c first second = record {
  len = second.len ∙ first.len;
  each = λ k d lt.
      second.each k d (subst (λ n. k < n) (sym first.len) lt)
      ∙ (ap (λ l. l ++ told_to sc k fs) (first.each k d lt)
      ∙ (append_assoc (put_list (slice_index_or a k d).pass) (told_to sc k es) (told_to sc k fs)
      ∙ ap (λ l. put_list (slice_index_or a k d).pass ++ l) (sym (told_append sc k es fs))));
}

-- THE COUNT
pub count_append : (x : OutboxValue) (es fs : List Entry) → new_count x (es ++ fs) ≡ new_count x es + new_count (storing_all x es) fs
count_append x [] fs = omega arith
count_append x (e ∷ es) fs = let more = count_append (storing x e.item) es fs in omega (arith, more)

-- THE DAYS
noted_append : (sc : SchemeValue) (days : List Key) (xs ys : List Arrived) → noting_all sc days (xs ++ ys) ≡ noting_all sc (noting_all sc days xs) ys
noted_append sc days xs ys = ap (fold (noting sc) days) (map-append item_of xs ys) ∙ fold-append (noting sc) days (map item_of xs) (map item_of ys)

-- ITEMS
pub written_none : (sc : SchemeValue) (s : Standing OutboxValue) (t : List Teller) (n : Tally) → IsSound s → HasWritten sc s s [] t t n n None
written_none sc s t n sound = record {
  entries = [];
  behind = [];
  all = refl;
  wrote = wrote_none sc s sound;
  behind_is = refl;
  alone = λ e. refl;
  few = omega arith;
  told = told_none sc t;
  refused = λ live lawful. tt;
  counted = λ clean live lawful. omega arith;
  noted = λ e. refl;
}

pub written_then : (sc : SchemeValue) (a b c : Standing OutboxValue) (xs ys : List Arrived) (t u v : List Teller) (n0 n1 n2 : Tally) (halt : Option Halt)
    → HasWritten sc a b xs t u n0 n1 None → HasWritten sc b c ys u v n1 n2 halt → HasWritten sc a c (xs ++ ys) t v n0 n2 halt
written_then sc a b c xs ys t u v n0 n1 n2 halt first second = record {
  entries = first.entries ++ second.entries;
  behind = second.behind;
  all =
      ap (λ l. l ++ ys) (first.all ∙ (ap (λ l. items_of first.entries ++ l) (first.alone refl) ∙ append-nil (items_of first.entries)))
      ∙ (ap (λ l. items_of first.entries ++ l) second.all
      ∙ (sym (append_assoc (items_of first.entries) (items_of second.entries) (in_hand (hand_of halt) ++ second.behind))
      ∙ ap (λ l. l ++ (in_hand (hand_of halt) ++ second.behind)) (sym (items_append first.entries second.entries))));
  wrote = wrote_then sc a b c first.entries second.entries (in_hand (hand_of halt) ++ second.behind) (fault_of halt) (subst (λ (l : List Arrived). Wrote sc a b first.entries l None) (first.alone refl) first.wrote) second.wrote;
  behind_is = second.behind_is;
  alone = second.alone;
  few = second.few;
  told = told_then sc first.entries second.entries t u v first.told second.told;
  refused = λ live lawful.
      let one = first.wrote.value (second.wrote.live live) lawful in
      subst (λ x. RefusedBy x halt) (ap (λ x. storing_all x second.entries) one.1 ∙ sym (storing_append a.value first.entries second.entries)) (second.refused live one.0);
  counted = λ clean live lawful.
      let ok = first.wrote.stays refl live (second.wrote.clean clean) in
      let one = first.wrote.value ok lawful in
      let m = first.counted (second.wrote.clean clean) live lawful in
      let n = second.counted clean ok one.0 in
      let e = ap (λ x. new_count x second.entries) one.1 in
      let more = count_append a.value first.entries second.entries in
      omega (arith, m, n, e, more);
  noted = λ e. second.noted e ∙ (ap (λ (days : List Key). noting_all sc days ys) (first.noted refl) ∙ sym (noted_append sc n0.days.keys xs ys));
}
