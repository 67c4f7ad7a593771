-- One answer more.
use Rattle.std.proofs.Common.{◌≡◌, ℕ, zero, suc, Some, ◌+◌, ◌<◌, ◌≤◌, List, [], ◌∷◌, ◌++◌, length, set, slice_index_or, arith, length-append, None, refl, sym, ap, ◌∙◌, subst, append_assoc, inl, inr}
use Rattle.std.specs.Prelude.{◌⊎◌, Option}
use Rattle.std.proofs.lemmas.List.{append-nil, map-append, get_or_default, get_or-set_same, get_or-set_other, get_or_append_left, length-set}
use Rattle.fare_frame.specs.declared.frame.Frame.{Frame}
use Rattle.fare_record.specs.declared.ack_item.AckItem.{AckItem}
use Rattle.fare_collect.specs.declared.fault.StationFault.{StationFault}
use Rattle.fare_collect.specs.declared.fault.StationFault.TheVariants.{Source, Unexpected}
use Rattle.fare_source.specs.Talking.{Talk}
use Rattle.fare_session.specs.Served.{Rose}
use Rattle.fare_collect.specs.Stations.{frame_for}
use Rattle.fare_inbox_queue.specs.declared.ack_passes.HearPass.{HearPass}
use Rattle.fare_collect.specs.declared.station.Station.{Station}
use Rattle.fare_writer.specs.declared.teller.Teller.{Teller}
use Rattle.fare_collect.specs.Ending.{AreSomeOf, HasHanded, IsHandedLeft, AreBeingHanded}
use Rattle.fare_collect.proofs.Posted.{same_or_apart, last_at}

pub handed_none : (t : Talk) (f : Option StationFault) → HasHanded t t [] f f
handed_none t f = record { kept = []; keeps = refl; answered = sym (append-nil t.answered); given = refl; ended = λ e. e; first = λ n. refl; whole = λ e. (e, refl); rises = omega arith; cause = λ e z. absurd (let q : ◌≡◌ {A = Option StationFault} None (Some Source) = sym e ∙ z in cc); failed = λ e. refl; other = λ e z. absurd (let q : ◌≡◌ {A = Option StationFault} None (Some Unexpected) = sym e ∙ z in cc) }

pub keeps_append : (xs ys : List AckItem) (fs gs : List Frame) → AreSomeOf xs fs → AreSomeOf ys gs → AreSomeOf (xs ++ ys) (fs ++ gs)
keeps_append [] ys fs gs none more = subst (λ l. AreSomeOf ys (l ++ gs)) (sym none) more
keeps_append (a ∷ xs) ys fs gs (inl k) more = inl (k.0 ++ gs, ap (λ l. l ++ gs) k.1, keeps_append xs ys k.0 gs k.2 more)
keeps_append (a ∷ xs) ys fs gs (inr k) more = inr (keeps_append xs ys fs gs k more)

-- a count that rises from or to the greatest, or stands there
rose_or_full : (a c b : ℕ) → a ≤ b → b ≤ c → 18446744073709551615 ≤ b → Rose a c
rose_or_full a c b le more full = elim (less_or_same a b le) [
  | inl lt ↦ inl (omega (arith, lt, more))
  | inr same ↦ inr (omega (arith, same, full))
]
  where
    less_or_same : (a b : ℕ) → a ≤ b → (a < b) ⊎ (a ≡ b)
    less_or_same zero zero le = inr refl
    less_or_same zero (suc b) le = inl (omega arith)
    less_or_same (suc a) zero le = absurd (omega (arith, le))
    less_or_same (suc a) (suc b) le = elim (less_or_same a b (omega (arith, le))) [ inl lt ↦ inl (omega (arith, lt)) | inr same ↦ inr (ap suc same) ]

pub handed_then : (a b c : Talk) (xs ys : List AckItem) (f g h : Option StationFault) → HasHanded a b xs f g → HasHanded b c ys g h → HasHanded a c (xs ++ ys) f h
handed_then a b c xs ys f g h first second = record {
  kept = first.kept ++ second.kept;
  keeps = keeps_append xs ys first.kept second.kept first.keeps second.keeps;
  answered = second.answered ∙ (ap (λ l. l ++ second.kept) first.answered ∙ append_assoc a.answered first.kept second.kept);
  given = second.given ∙ first.given;
  ended = λ e. second.ended (first.ended e);
  first = λ n. second.first (λ e. n (sym (first.first n) ∙ e)) ∙ first.first n;
  whole = λ e. let two = second.whole e in let one = first.whole two.0 in (one.0, (λ i. one.1 i ++ two.1 i) ∙ sym (map-append frame_for xs ys));
  rises = let a = first.rises in let b = second.rises in omega (arith, a, b);
  cause = λ e z. by g refl e z;
  failed = λ e. second.failed e ∙ first.failed (second.whole e).0;
  other = λ e z. not_by g refl e z;
}
  where
    by : (m : Option StationFault) → g ≡ m → f ≡ None → h ≡ Some Source → Rose a.failures c.failures
    by None is e z = later first.rises (second.cause is z)
      where
        later : a.failures ≤ b.failures → Rose b.failures c.failures → Rose a.failures c.failures
        later le (inl lt) = inl (omega (arith, le, lt))
        later le (inr full) = let more = second.rises in rose_or_full a.failures c.failures b.failures le more full
    by (Some w) is e z =
        let same : g ≡ Some Source = sym (second.first (λ n. let q : ◌≡◌ {A = Option StationFault} (Some w) None = sym is ∙ n in absurd (cc))) ∙ z in
        grown (first.cause e same)
      where
        grown : Rose a.failures b.failures → Rose a.failures c.failures
        grown (inl lt) = let more = second.rises in inl (omega (arith, lt, more))
        grown (inr full) = inr full

    not_by : (m : Option StationFault) → g ≡ m → f ≡ None → h ≡ Some Unexpected → ⊥
    not_by None is e z = second.other is z
    not_by (Some w) is e z = first.other e (sym (second.first (λ n. let q : ◌≡◌ {A = Option StationFault} (Some w) None = sym is ∙ n in absurd (cc))) ∙ z)

-- EACH LINE
pub handing_none : {S : Type 0} (talks : S → Talk) (ts : List Teller) (hs : List HearPass) (old : List (Station S)) → length hs ≡ length ts → length ts ≤ length old → AreBeingHanded talks ts ts hs hs old old
handing_none talks ts hs old even room = record { few = omega arith; even = even; room = room; same = λ k t lt. refl; hears_same = λ k h lt. refl; len = refl; todo = λ k d lt. refl; done = λ k d t h le lt. absurd (omega (arith, le, lt)) }

pub handing_more : {S : Type 0} (talks : S → Talk) (ts tl tl' : List Teller) (hs hl hl' : List HearPass) (old new : List (Station S)) (t : Teller) (h : HearPass) (n : ℕ) (x y : Station S)
    → AreBeingHanded talks ts tl hs hl old new → tl ≡ tl' ++ t ∷ [] → hl ≡ hl' ++ h ∷ [] → n ≡ length tl' → x ≡ slice_index_or new n x → IsHandedLeft talks t h x y
    → AreBeingHanded talks ts tl' hs hl' old (set new n y)
handing_more {S} talks ts tl tl' hs hl hl' old new t h n x y was tellers hears at here one =
    let pn : length tl ≡ length tl' + 1 = ap length tellers ∙ length-append tl' (t ∷ []) in
    let hn : length hl ≡ length hl' + 1 = ap length hears ∙ length-append hl' (h ∷ []) in
    let even : length hl' ≡ length tl' = let e = was.even in omega (arith, pn, hn, e) in
    let below : n < length tl = omega (arith, pn, at) in
    let within : n < length new = let f = was.few in let w = was.room in let l = was.len in omega (arith, below, f, w, l) in
    record {
      few = let f = was.few in omega (arith, f, pn);
      even = even;
      room = was.room;
      same = λ k d lt. sym (ap (λ l. slice_index_or l k d) tellers ∙ get_or_append_left tl' (t ∷ []) d k lt) ∙ was.same k d (omega (arith, lt, pn));
      hears_same = λ k d lt. sym (ap (λ l. slice_index_or l k d) hears ∙ get_or_append_left hl' (h ∷ []) d k (omega (arith, lt, even))) ∙ was.hears_same k d (omega (arith, lt, pn));
      len = length-set new n y ∙ was.len;
      todo = λ k d lt. get_or-set_other new n k y d (λ e. omega (arith, lt, e, at)) ∙ was.todo k d (omega (arith, lt, pn));
      done = λ k d dt dh le lt. elim (same_or_apart k n) [
        | inl e ↦
            let station : x ≡ slice_index_or old k d = here ∙ (get_or_default new n x d within ∙ (was.todo n d below ∙ ap (λ j. slice_index_or old j d) (sym e))) in
            let teller : t ≡ slice_index_or ts k dt = sym (ap (λ l. slice_index_or l k dt) tellers ∙ last_at tl' t k dt (e ∙ at)) ∙ was.same k dt (omega (arith, e, below)) in
            let hear : h ≡ slice_index_or hs k dh = sym (ap (λ l. slice_index_or l k dh) hears ∙ last_at hl' h k dh (e ∙ (at ∙ sym even))) ∙ was.hears_same k dh (omega (arith, e, below)) in
            let now : y ≡ slice_index_or (set new n y) k d = sym (ap (λ j. slice_index_or (set new n y) j d) e ∙ get_or-set_same new n y d within) in
            let P : Teller × (HearPass × (Station S × Station S)) → Type 0 = λ q. IsHandedLeft talks q.0 q.1.0 q.1.1.0 q.1.1.1 in
            subst P (λ i. (teller i, (hear i, (station i, now i)))) one
        | inr apart ↦
            let more : length tl ≤ k = omega (arith, le, apart, at, pn) in
            subst (λ (s : Station S). IsHandedLeft talks (slice_index_or ts k dt) (slice_index_or hs k dh) (slice_index_or old k d) s) (sym (get_or-set_other new n k y d apart)) (was.done k d dt dh more lt)
      ];
    }
