-- The stations anew, one more; and the list of their faults.
use Rattle.std.proofs.Common.{◌≡◌, ℕ, zero, suc, ◌+◌, ◌<◌, ◌≤◌, List, [], ◌∷◌, ◌++◌, length, set, take, slice_index_or, refl, sym, ap, ◌∙◌, append_assoc, inl, inr, arith}
use Rattle.std.proofs.lemmas.List.{append-nil, get_or_default, get_or-set_same, get_or-set_other, length-set, take_all}
use Rattle.fare_collect.specs.declared.station.Station.{Station}
use Rattle.fare_collect.specs.Resuming.{anew, HaveBegun}
use Rattle.fare_collect.specs.Collected.{faults_at, station_faults}
use Rattle.fare_collect.proofs.Posted.{same_or_apart}

-- those before a place have begun anew
pub record AreBeginning {S : Type 0} (place : ℕ) (before after : List (Station S)) : Type 0 where
  pub len : length after ≡ length before
  pub done : (k : ℕ) (d : Station S) → k < place → k < length before → slice_index_or after k d ≡ anew (slice_index_or before k d)
  pub todo : (k : ℕ) (d : Station S) → place ≤ k → slice_index_or after k d ≡ slice_index_or before k d

pub beginning_none : {S : Type 0} (stations : List (Station S)) → AreBeginning 0 stations stations
beginning_none stations = record { len = refl; done = λ k d lt within. absurd (omega (arith, lt)); todo = λ k d le. refl }

pub beginning_more : {S : Type 0} (before now : List (Station S)) (place : ℕ) (x y : Station S) → AreBeginning place before now → place < length now → x ≡ slice_index_or now place x → y ≡ anew x → AreBeginning (place + 1) before (set now place y)
beginning_more {S} before now place x y was lt here is = record {
  len = length-set now place y ∙ was.len;
  done = λ k d below within. elim (same_or_apart k place) [
    | inl e ↦
        let one : x ≡ slice_index_or before k d = here ∙ (get_or_default now place x d lt ∙ (was.todo place d (omega arith) ∙ ap (λ j. slice_index_or before j d) (sym e))) in
        ap (λ j. slice_index_or (set now place y) j d) e ∙ (get_or-set_same now place y d lt ∙ (is ∙ ap anew one))
    | inr differ ↦ get_or-set_other now place k y d differ ∙ was.done k d (omega (arith, below, differ)) within
  ];
  todo = λ k d le. get_or-set_other now place k y d (λ e. omega (arith, e, le)) ∙ was.todo k d (omega (arith, le));
}

pub beginning_all : {S : Type 0} (before after : List (Station S)) (place : ℕ) → length before ≤ place → AreBeginning place before after → HaveBegun before after
beginning_all before after place le was = record { len = was.len; each = λ k d lt. was.done k d (omega (arith, lt, le)) lt }

-- FAULTS
pub faults_next : {S : Type 0} (ts : List (Station S)) (place : ℕ) (x : Station S) → place < length ts → x ≡ slice_index_or ts place x → station_faults (take (place + 1) ts) ≡ station_faults (take place ts) ++ faults_at x.collector.station x.end.fault
faults_next {S = S} ts place x lt here = let n : place + 1 ≡ suc place = omega arith in ap (λ m. station_faults (take m ts)) n ∙ go ts place lt here
  where
    go : (ts : List (Station S)) (place : ℕ) → place < length ts → x ≡ slice_index_or ts place x → station_faults (take (suc place) ts) ≡ station_faults (take place ts) ++ faults_at x.collector.station x.end.fault
    go [] place lt here = absurd (omega (arith, lt))
    go (t ∷ ts) zero lt here = append-nil (faults_at t.collector.station t.end.fault) ∙ ap (λ (q : Station S). faults_at q.collector.station q.end.fault) (sym here)
    go (t ∷ ts) (suc place) lt here = ap (λ l. faults_at t.collector.station t.end.fault ++ l) (go ts place (omega (arith, lt)) here) ∙ sym (append_assoc (faults_at t.collector.station t.end.fault) (station_faults (take place ts)) (faults_at x.collector.station x.end.fault))

pub faults_done : {S : Type 0} (ts : List (Station S)) (place : ℕ) → length ts ≤ place → station_faults (take place ts) ≡ station_faults ts
faults_done ts place le = ap station_faults (take_all place ts le)
