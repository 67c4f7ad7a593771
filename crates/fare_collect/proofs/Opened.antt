-- The queues of a session, as they are made.
use Rattle.std.proofs.Common.{◌≡◌, ◌≢◌, ℕ, zero, suc, ◌<◌, List, [], ◌∷◌, length, map, slice_index_or, All, true, false, refl, sym, ap, ◌∙◌, arith, inl, inr, nat_eq}
use Rattle.std.specs.Prelude.{◌⊎◌}
use Rattle.std.specs.List.{AllByRecursion, IsDistinct}
use Rattle.std.proofs.lemmas.Bool.Decides.{nat_tests}
use Rattle.std.proofs.lemmas.List.Elements.{All-get_or}
use Rattle.fare_inbox_queue.specs.declared.inbox_passes.StationPass.{StationPass}
use Rattle.fare_inbox_queue.specs.declared.inbox.Inbox.{Inbox}
use Rattle.fare_inbox_queue.specs.InboxPasses.{station_of, sent_list, IsStationOf}
use Rattle.fare_collect.specs.declared.station.Station.{Station}
use Rattle.fare_collect.specs.Resting.{AreApart}
use Rattle.fare_collect.specs.Session.{AreReady, id_of}

-- lists that agree in their ids agree place by place
same_len : {S : Type 0} (ps : List StationPass) (ts : List (Station S)) → map station_of ps ≡ map id_of ts → length ps ≡ length ts
same_len [] [] e = refl
same_len [] (t ∷ ts) e = absurd (cc)
same_len (p ∷ ps) [] e = absurd (cc)
same_len (p ∷ ps) (t ∷ ts) e = let more : map station_of ps ≡ map id_of ts = cc in ap suc (same_len ps ts more)

same_ids : {S : Type 0} (ps : List StationPass) (ts : List (Station S)) (k : ℕ) (p0 : StationPass) (t0 : Station S) → map station_of ps ≡ map id_of ts → k < length ts → station_of (slice_index_or ps k p0) ≡ id_of (slice_index_or ts k t0)
same_ids ps [] k p0 t0 e lt = absurd (omega (arith, lt))
same_ids [] (t ∷ ts) k p0 t0 e lt = absurd (cc)
same_ids (p ∷ ps) (t ∷ ts) zero p0 t0 e lt = cc
same_ids (p ∷ ps) (t ∷ ts) (suc k) p0 t0 e lt = let more : map station_of ps ≡ map id_of ts = cc in same_ids ps ts k p0 t0 more (omega (arith, lt))

pub ready : {S : Type 0} (inbox : Inbox) (ps : List StationPass) (ts : List (Station S)) → map station_of ps ≡ map id_of ts → All (IsStationOf inbox) ps → All (λ p. sent_list p ≡ []) ps → AreReady inbox ts ps
ready inbox ps ts same passes sent = record {
  len = same_len ps ts same;
  each = λ k d p lt.
      let at : k < length ps = let l = same_len ps ts same in omega (arith, lt, l) in
      (All-get_or (IsStationOf inbox) ps k p at passes, All-get_or (λ q. sent_list q ≡ []) ps k p at sent, same_ids ps ts k p d same lt);
}

-- ids that are distinct stand at one place each
unlike : {S : Type 0} (x : ℕ) (ts : List (Station S)) (k : ℕ) (d : Station S) → AllByRecursion (λ y. nat_eq x y ≡ false) (map id_of ts) → k < length ts → x ≢ id_of (slice_index_or ts k d)
unlike x [] k d all lt e = omega (arith, lt)
unlike x (t ∷ ts) zero d all lt e = let f = all.0 in let g : nat_eq x x ≡ false = ap (nat_eq x) e ∙ f in let h : nat_eq x x ≡ true = grind (arith, nat_tests) in absurd (cc (sym h ∙ g))
unlike x (t ∷ ts) (suc k) d all lt e = unlike x ts k d all.1 (omega (arith, lt)) e

below : {S : Type 0} (ts : List (Station S)) (j k : ℕ) (d : Station S) → IsDistinct nat_eq (map id_of ts) → j < k → k < length ts → id_of (slice_index_or ts j d) ≢ id_of (slice_index_or ts k d)
unfolding IsDistinct
below [] j k d dist less lt e = omega (arith, lt)
below (t ∷ ts) j zero d dist less lt e = omega (arith, less)
below (t ∷ ts) zero (suc k) d dist less lt e = unlike (id_of t) ts k d dist.0 (omega (arith, lt)) e
below (t ∷ ts) (suc j) (suc k) d dist less lt e = below ts j k d dist.1 (omega (arith, less)) (omega (arith, lt)) e

order : (j k : ℕ) → j ≢ k → (j < k) ⊎ (k < j)
order zero zero n = absurd (n refl)
order zero (suc k) n = inl (omega arith)
order (suc j) zero n = inr (omega arith)
order (suc j) (suc k) n = elim (order j k (λ e. n (ap suc e))) [ inl l ↦ inl (omega (arith, l)) | inr l ↦ inr (omega (arith, l)) ]

pub apart : {S : Type 0} (ts : List (Station S)) → IsDistinct nat_eq (map id_of ts) → AreApart ts
apart ts dist = record {
  each = λ j k d jt kt differ e. elim (order j k differ) [ inl l ↦ below ts j k d dist l kt e | inr l ↦ below ts k j d dist l jt (sym e) ];
}
