-- Posts, one more.
use Rattle.std.proofs.Common.{◌≡◌, ◌≢◌, ℕ, zero, suc, ◌+◌, ◌<◌, ◌≤◌, List, [], ◌∷◌, ◌++◌, length, set, slice_index_or, refl, sym, ap, ◌∙◌, subst, inl, inr, arith, length-append}
use Rattle.std.specs.Prelude.{◌⊎◌}
use Rattle.std.proofs.lemmas.List.{get_or_default, get_or-set_same, get_or-set_other, get_or_append_left, length-set}
use Rattle.std.proofs.Math.Seq.{get_or-append_seam}
use Rattle.fare_inbox_queue.specs.declared.ack_line.AckLine.{AckLine}
use Rattle.fare_inbox_queue.specs.declared.ack_passes.HearPass.{HearPass}
use Rattle.fare_inbox_queue.specs.declared.inbox_passes.StationPass.{StationPass}
use Rattle.fare_inbox_queue.specs.LinePasses.{put_list, heard_list, IsAckOf, IsHearOf}
use Rattle.fare_collect.specs.declared.station.Station.{Station}
use Rattle.fare_writer.specs.declared.teller.Teller.{Teller}
use Rattle.fare_collect.specs.Opening.{AreNew, posted, ArePosting, IsRelieved, AreRelieving}

pub same_or_apart : (k p : ℕ) → (k ≡ p) ⊎ (k ≢ p)
same_or_apart zero zero = inl refl
same_or_apart zero (suc p) = inr (λ e. absurd (cc))
same_or_apart (suc k) zero = inr (λ e. absurd (cc))
same_or_apart (suc k) (suc p) = elim (same_or_apart k p) [ inl e ↦ inl (ap suc e) | inr n ↦ inr (λ e. n (omega (arith, e))) ]

-- the last of a list, at its place
pub last_at : {A : Type 0} (xs : List A) (x : A) (k : ℕ) (d : A) → k ≡ length xs → slice_index_or (xs ++ x ∷ []) k d ≡ x
last_at xs x k d e = ap (λ j. slice_index_or (xs ++ x ∷ []) j d) e ∙ get_or-append_seam xs x [] d

-- POSTING
pub posting_more : {S : Type 0} (ps pl pl' : List StationPass) (hs hl hl' : List HearPass) (old new : List (Station S)) (p : StationPass) (h : HearPass) (n : ℕ) (x : Station S)
    → ArePosting ps pl hs hl old new → pl ≡ pl' ++ p ∷ [] → hl ≡ hl' ++ h ∷ [] → n ≡ length pl' → x ≡ slice_index_or new n x
    → ArePosting ps pl' hs hl' old (set new n (posted x p h))
posting_more {S} ps pl pl' hs hl hl' old new p h n x was passes hears at here =
    let pn : length pl ≡ length pl' + 1 = ap length passes ∙ length-append pl' (p ∷ []) in
    let hn : length hl ≡ length hl' + 1 = ap length hears ∙ length-append hl' (h ∷ []) in
    let even : length hl' ≡ length pl' = let e = was.even in omega (arith, pn, hn, e) in
    let below : n < length pl = omega (arith, pn, at) in
    let within : n < length new = let f = was.few in let w = was.whole in let l = was.len in omega (arith, below, f, w, l) in
    record {
      whole = was.whole;
      hears_whole = was.hears_whole;
      few = let f = was.few in omega (arith, f, pn);
      even = even;
      same = λ k d lt. sym (ap (λ l. slice_index_or l k d) passes ∙ get_or_append_left pl' (p ∷ []) d k lt) ∙ was.same k d (omega (arith, lt, pn));
      hears_same = λ k d lt. sym (ap (λ l. slice_index_or l k d) hears ∙ get_or_append_left hl' (h ∷ []) d k (omega (arith, lt, even))) ∙ was.hears_same k d (omega (arith, lt, pn));
      len = length-set new n (posted x p h) ∙ was.len;
      todo = λ k d lt. get_or-set_other new n k (posted x p h) d (λ e. less k lt e) ∙ was.todo k d (omega (arith, lt, pn));
      done = λ k d dp dh le lt. elim (same_or_apart k n) [
        | inl e ↦
            let station : x ≡ slice_index_or old k d = here ∙ (get_or_default new n x d within ∙ (was.todo n d below ∙ ap (λ j. slice_index_or old j d) (sym e))) in
            let pass : p ≡ slice_index_or ps k dp = sym (ap (λ l. slice_index_or l k dp) passes ∙ last_at pl' p k dp (e ∙ at)) ∙ was.same k dp (omega (arith, e, below)) in
            let hear : h ≡ slice_index_or hs k dh = sym (ap (λ l. slice_index_or l k dh) hears ∙ last_at hl' h k dh (e ∙ (at ∙ sym even))) ∙ was.hears_same k dh (omega (arith, e, below)) in
            ap (λ j. slice_index_or (set new n (posted x p h)) j d) e ∙ (get_or-set_same new n (posted x p h) d within ∙ λ i. posted (station i) (pass i) (hear i))
        | inr apart ↦ get_or-set_other new n k (posted x p h) d apart ∙ was.done k d dp dh (more k le apart) lt
      ];
    }
  where
    less : (k : ℕ) → k < length pl' → k ≡ n → ⊥
    less k lt e = omega (arith, lt, e, at)

    more : (k : ℕ) → length pl' ≤ k → k ≢ n → length pl ≤ k
    more k le apart = let pn : length pl ≡ length pl' + 1 = ap length passes ∙ length-append pl' (p ∷ []) in omega (arith, le, apart, at, pn)

-- RELIEVING
pub relieving_none : {S : Type 0} (old : List (Station S)) → AreRelieving 0 old [] [] old
relieving_none old = record { len = refl; passes_len = refl; hears_len = refl; todo = λ k d le. refl; done = λ k d p h lt. absurd (omega (arith, lt)) }

pub relieving_more : {S : Type 0} (n : ℕ) (old new : List (Station S)) (ps : List StationPass) (hs : List HearPass) (p : StationPass) (h : HearPass) (x y : Station S)
    → AreRelieving n old ps hs new → n < length old → x ≡ slice_index_or new n x → IsRelieved x p h y → AreRelieving (n + 1) old (ps ++ p ∷ []) (hs ++ h ∷ []) (set new n y)
relieving_more {S} n old new ps hs p h x y was lt here back =
    let within : n < length new = let l = was.len in omega (arith, lt, l) in
    record {
      len = length-set new n y ∙ was.len;
      passes_len = length-append ps (p ∷ []) ∙ ap (λ m. m + 1) was.passes_len;
      hears_len = length-append hs (h ∷ []) ∙ ap (λ m. m + 1) was.hears_len;
      todo = λ k d le. get_or-set_other new n k y d (λ e. omega (arith, le, e)) ∙ was.todo k d (omega (arith, le));
      done = λ k d dp dh below. elim (same_or_apart k n) [
        | inl e ↦
            let one : x ≡ slice_index_or old k d = here ∙ (get_or_default new n x d within ∙ (was.todo n d (omega arith) ∙ ap (λ j. slice_index_or old j d) (sym e))) in
            let two : p ≡ slice_index_or (ps ++ p ∷ []) k dp = sym (last_at ps p k dp (e ∙ sym was.passes_len)) in
            let three : h ≡ slice_index_or (hs ++ h ∷ []) k dh = sym (last_at hs h k dh (e ∙ sym was.hears_len)) in
            let four : y ≡ slice_index_or (set new n y) k d = sym (ap (λ j. slice_index_or (set new n y) j d) e ∙ get_or-set_same new n y d within) in
            let P : Station S × (StationPass × (HearPass × Station S)) → Type 0 = λ q. IsRelieved q.0 q.1.0 q.1.1.0 q.1.1.1 in
            subst P (λ i. (one i, (two i, (three i, four i)))) back
        | inr apart ↦
            let before : k < n = omega (arith, below, apart) in
            let two : slice_index_or ps k dp ≡ slice_index_or (ps ++ p ∷ []) k dp = sym (get_or_append_left ps (p ∷ []) dp k (let l = was.passes_len in omega (arith, before, l))) in
            let three : slice_index_or hs k dh ≡ slice_index_or (hs ++ h ∷ []) k dh = sym (get_or_append_left hs (h ∷ []) dh k (let l = was.hears_len in omega (arith, before, l))) in
            let four : slice_index_or new k d ≡ slice_index_or (set new n y) k d = sym (get_or-set_other new n k y d apart) in
            let P : StationPass × (HearPass × Station S) → Type 0 = λ q. IsRelieved (slice_index_or old k d) q.0 q.1.0 q.1.1 in
            subst P (λ i. (two i, (three i, four i))) (was.done k d dp dh before)
      ];
    }

-- LINES
pub new_more : (n : ℕ) (lines : List AckLine) (ts : List Teller) (hs : List HearPass) (line : AckLine) (t : Teller) (h : HearPass)
    → AreNew n lines ts hs → IsAckOf line t.pass → IsHearOf line h → put_list t.pass ≡ [] → heard_list h ≡ [] → AreNew (n + 1) (lines ++ line ∷ []) (ts ++ t ∷ []) (hs ++ h ∷ [])
new_more n lines ts hs line t h was ack hear put heard = record {
  lines_len = length-append lines (line ∷ []) ∙ ap (λ m. m + 1) was.lines_len;
  tellers_len = length-append ts (t ∷ []) ∙ ap (λ m. m + 1) was.tellers_len;
  hears_len = length-append hs (h ∷ []) ∙ ap (λ m. m + 1) was.hears_len;
  acks = λ k l d lt. elim (same_or_apart k n) [
    | inl e ↦
        let one : line ≡ slice_index_or (lines ++ line ∷ []) k l = sym (last_at lines line k l (e ∙ sym was.lines_len)) in
        let two : t ≡ slice_index_or (ts ++ t ∷ []) k d = sym (last_at ts t k d (e ∙ sym was.tellers_len)) in
        let P : AckLine × Teller → Type 0 = λ q. IsAckOf q.0 q.1.pass in
        subst P (λ i. (one i, two i)) ack
    | inr apart ↦
        let before : k < n = omega (arith, lt, apart) in
        let one : slice_index_or lines k l ≡ slice_index_or (lines ++ line ∷ []) k l = sym (get_or_append_left lines (line ∷ []) l k (let m = was.lines_len in omega (arith, before, m))) in
        let two : slice_index_or ts k d ≡ slice_index_or (ts ++ t ∷ []) k d = sym (get_or_append_left ts (t ∷ []) d k (let m = was.tellers_len in omega (arith, before, m))) in
        let P : AckLine × Teller → Type 0 = λ q. IsAckOf q.0 q.1.pass in
        subst P (λ i. (one i, two i)) (was.acks k l d before)
  ];
  hear = λ k l d lt. elim (same_or_apart k n) [
    | inl e ↦
        let one : line ≡ slice_index_or (lines ++ line ∷ []) k l = sym (last_at lines line k l (e ∙ sym was.lines_len)) in
        let two : h ≡ slice_index_or (hs ++ h ∷ []) k d = sym (last_at hs h k d (e ∙ sym was.hears_len)) in
        let P : AckLine × HearPass → Type 0 = λ q. IsHearOf q.0 q.1 in
        subst P (λ i. (one i, two i)) hear
    | inr apart ↦
        let before : k < n = omega (arith, lt, apart) in
        let one : slice_index_or lines k l ≡ slice_index_or (lines ++ line ∷ []) k l = sym (get_or_append_left lines (line ∷ []) l k (let m = was.lines_len in omega (arith, before, m))) in
        let two : slice_index_or hs k d ≡ slice_index_or (hs ++ h ∷ []) k d = sym (get_or_append_left hs (h ∷ []) d k (let m = was.hears_len in omega (arith, before, m))) in
        let P : AckLine × HearPass → Type 0 = λ q. IsHearOf q.0 q.1 in
        subst P (λ i. (one i, two i)) (was.hear k l d before)
  ];
  put = λ k d lt. elim (same_or_apart k n) [
    | inl e ↦ ap (λ (q : Teller). put_list q.pass) (last_at ts t k d (e ∙ sym was.tellers_len)) ∙ put
    | inr apart ↦ let before : k < n = omega (arith, lt, apart) in ap (λ (q : Teller). put_list q.pass) (get_or_append_left ts (t ∷ []) d k (let m = was.tellers_len in omega (arith, before, m))) ∙ was.put k d before
  ];
  heard = λ k d lt. elim (same_or_apart k n) [
    | inl e ↦ ap heard_list (last_at hs h k d (e ∙ sym was.hears_len)) ∙ heard
    | inr apart ↦ let before : k < n = omega (arith, lt, apart) in ap heard_list (get_or_append_left hs (h ∷ []) d k (let m = was.hears_len in omega (arith, before, m))) ∙ was.heard k d before
  ];
}
