-- Agreement through a list of sessions, by way of the stores at each boundary.
use Rattle.std.proofs.Common.{◌≡◌, ℕ, zero, suc, ◌<◌, ◌≤◌, List, [], ◌∷◌, ◌++◌, length, slice_index_or, Some, false, refl, sym, ap, ◌∙◌, subst, arith, inl, inr}
use Rattle.std.specs.Prelude.{◌⊎◌, slice_get, Option, Vec, is_some}
use Rattle.std.specs.Global.{Global}
use Rattle.std.specs.List.{AllByRecursion}
use Rattle.std.proofs.lemmas.List.{append-nil}
use Rattle.std.proofs.lemmas.Bool.{cases_lt}
use Rattle.fare_record.specs.Values.{RecordValue}
use Rattle.fare_record.specs.declared.ack_item.AckItem.TheVariants as ack
use Rattle.fare_frame.specs.declared.frame.Frame.{Frame}
use Rattle.fare_frame.specs.declared.frame.Frame.TheVariants as frame
use Rattle.fare_scheme.specs.Values.{SchemeValue}
use Rattle.fare_source.specs.Talking.{Talk}
use Rattle.fare_store.specs.OutboxWords.{OutboxValue}
use Rattle.fare_history.specs.Gathering.{accepted_by, all_answers, answers_to, of_station}
use Rattle.fare_history.specs.Plainly.{IsCovered}
use Rattle.fare_history.specs.Stores as history
use Rattle.fare_history.specs.Stores.{StoresValue}
use Rattle.fare_history.proofs.Entries.{all-append, all-left, all-weaken}
use Rattle.fare_collect.specs.Collected.{source_of, first_links}
use Rattle.fare_collect.specs.Resuming.{AreStations}
use Rattle.fare_collect.specs.Resting.{IsNoneOf}
use Rattle.fare_collect.specs.Session.{id_of}
use Rattle.fare_collect.specs.Stations.{held_list}
use Rattle.fare_collect.specs.declared.station.Station.{Station}
use Rattle.fare_collect.proofs.Opens.{here_or_not}
use Rattle.fare_agreement.specs.Agreeing.{AreNumberedLists, IsOf, Agrees}
use Rattle.fare_agreement.specs.Growing.{OutboxGrew, StoresGrew}
use Rattle.fare_agreement.specs.Stopping.{AreAnswered, lets_go}
use Rattle.fare_agreement.proofs.Collecting.{covered_still}
use Rattle.fare_agreement.proofs.Sessions.{stores_self, stores_trans, kept_still, IsSafe, stop_safe}
use Rattle.fare_sessions.specs.declared.session.Session.{Session}
use Rattle.fare_sessions.specs.declared.session.Session.TheVariants.{Collect, Serve}
use Rattle.fare_sessions.specs.Course.{Counts, Tally}
use Rattle.fare_sessions.specs.Running.{IsRunnable, AreRunnable}
use Rattle.fare_sessions.specs.Boundaries.{CollectedBetween, LedBetween, HasLedAt, HaveLed}
use Rattle.fare_sessions.specs.Promises.{IsFrameOf, IsFrameCovered, GaveOf}
use Rattle.fare_sessions.proofs.Follow.{all_at}
use Rattle.fare_sessions.proofs.Listed.{IsOfIfKnown, arrivals_are, by_station, all_known, all-filter, kept_covered}

-- what is covered stays so
frame_still : (sc : SchemeValue) (x y : OutboxValue) → OutboxGrew x y → (f : Frame) → IsFrameCovered sc x f → IsFrameCovered sc y f
frame_still sc x y grew (frame.Acked a) is = covered_still sc x y grew (ack.Upto a) is
frame_still sc x y grew (frame.DayAcked a) is = covered_still sc x y grew (ack.Day a) is
frame_still sc x y grew (frame.Tapped r) is = absurd is
frame_still sc x y grew (frame.Stated v) is = absurd is
frame_still sc x y grew (frame.Greeted d) is = absurd is

answered_still : (sc : SchemeValue) (h k : StoresValue) → StoresGrew h k → (q : history.Session) → AreAnswered sc h q → AreAnswered sc k q
answered_still sc h k grew (history.Collects g) is = kept_still sc h k grew (history.Collects g) is
answered_still sc h k grew (history.Serves_owner o v) is = kept_still sc h k grew (history.Serves_owner o v) is
answered_still sc h k grew (history.Closes_day o d day) is = tt
answered_still sc h k grew (history.Retires_lane o d) is = tt
answered_still sc h k grew (history.Forgets o d day) is = tt

module _ {S : Type 0} (sc : SchemeValue) (talks : S → Talk) (lists : ℕ → List RecordValue) (numbered : AreNumberedLists lists) where
  -- each frame that a source gave is of the lists
  abbrev Gave : S → S → Type 0
  Gave old new = (more : List Frame) → (talks new).given ≡ (talks old).given ++ more → AllByRecursion (IsFrameOf sc lists) more

  -- each acknowledgement that it was answered is covered
  abbrev Covered : OutboxValue → S → S → Type 0
  Covered x old new = (more : List Frame) × ((talks new).answered ≡ (talks old).answered ++ more) × AllByRecursion (IsFrameCovered sc x) more

  covered_on : (x y : OutboxValue) → OutboxGrew x y → (old new : S) → Covered x old new → Covered y old new
  covered_on x y grew old new is = (is.0, is.1, all-weaken (IsFrameCovered sc x) (IsFrameCovered sc y) (frame_still sc x y grew) is.0 is.2)

  -- ONE SESSION
  -- the items that the stations accepted are of the lists
  accepted_are : (h k : StoresValue) (before after : List (Station S)) (c : Counts) (qs : List history.Session) (s : CollectedBetween sc talks h k before after c qs) → AreStations sc before
      → ((place : ℕ) (d : Station S) → place < length before → Gave (source_of (slice_index_or before place d)) (source_of (slice_index_or after place d))) → AllByRecursion (IsOf lists) (accepted_by s.g)
  accepted_are h k before after c qs s are gave = all_known sc lists (accepted_by s.g) s.came.1.known (by_station sc (IsOfIfKnown sc lists) (accepted_by s.g) s.came.1.known (λ station. at station (here_or_not sc before station are)))
    where
      at : (station : ℕ) → ((k : ℕ) × (k < length before) × ((d : Station S) → station ≡ (slice_index_or before k d).collector.station)) ⊎ IsNoneOf station before → AllByRecursion (IsOfIfKnown sc lists) (of_station sc station (accepted_by s.g))
      at station (inr none) = subst (AllByRecursion (IsOfIfKnown sc lists)) (sym (s.came.1.others station none)) tt
      at station (inl here) =
          let d = some_element before here.0 here.1 in
          let t = s.stations here.0 d here.1 in
          let frames = all-left (IsFrameOf sc lists) t.frames (held_list t.held) (gave here.0 d here.1 (t.frames ++ held_list t.held) t.given) in
          subst (AllByRecursion (IsOfIfKnown sc lists)) (sym (ap (λ n. of_station sc n (accepted_by s.g)) (here.2 d) ∙ t.accepted))
          (arrivals_are sc lists (first_links sc h.outbox (id_of (slice_index_or before here.0 d))) t.frames frames)
        where
          some_element : (xs : List (Station S)) (place : ℕ) → place < length xs → Station S
          some_element [] place lt = absurd (omega (arith, lt))
          some_element (x ∷ xs) place lt = x

  -- what a session made of stores that agree
  pub record IsKept (h k : StoresValue) (qs : List history.Session) : Type 0 where
    pub agrees : Agrees sc lists k
    pub grew : StoresGrew h k
    pub answered : AllByRecursion (AreAnswered sc k) qs

  kept_none : (h k : StoresValue) (qs : List history.Session) → Agrees sc lists h → k ≡ h → qs ≡ [] → IsKept h k qs
  kept_none h k qs is same none = record {
    agrees = subst (Agrees sc lists) (sym same) is;
    grew = subst (StoresGrew h) (sym same) (stores_self h);
    answered = subst (AllByRecursion (AreAnswered sc k)) (sym none) tt;
  }

  kept_one : (h k : StoresValue) (q : history.Session) (qs : List history.Session) → IsSafe sc lists numbered h k q → lets_go q ≡ false → qs ≡ q ∷ [] → IsKept h k qs
  kept_one h k q qs safe none one = record { agrees = safe.agrees; grew = safe.grew none; answered = subst (AllByRecursion (AreAnswered sc k)) (sym one) (safe.kept, tt) }

  abbrev GaveIn : Session S → Session S → Type 0
  GaveIn (Collect before) (Collect after) = (place : ℕ) (d : Station S) → place < length before.items → Gave (source_of (slice_index_or before.items place d)) (source_of (slice_index_or after.items place d))
  GaveIn (Collect before) (Serve owner) = Unit {0}
  GaveIn (Serve owner) r = Unit {0}

  step_kept : (s r : Session S) (h k : StoresValue) (c : Counts) (qs : List history.Session) → LedBetween sc talks s r h k c qs → IsRunnable sc s → GaveIn s r → Agrees sc lists h → IsKept h k qs
  step_kept (Collect before) (Collect after) h k c qs (inl s) can gave is =
      kept_one h k (history.Collects s.g) qs (stop_safe sc lists numbered h k (history.Collects s.g) is (accepted_are h k before.items after.items c qs s can.1 gave, s.came.1.gathering) s.left) refl s.session
  step_kept (Collect before) (Collect after) h k c qs (inr n) can gave is = kept_none h k qs is n.stores n.none
  step_kept (Collect before) (Serve owner) h k c qs led can gave is = absurd led
  step_kept (Serve owner) (Collect after) h k c qs led can gave is = absurd led
  step_kept (Serve owner) (Serve other) h k c qs led can gave is =
      let s = led.1 in
      kept_one h k (history.Serves_owner owner s.v) qs (stop_safe sc lists numbered h k (history.Serves_owner owner s.v) is (ap is_some can.1, s.says.service) s.left) refl s.session

  -- and what its sources were answered
  step_covered : (before after : Vec (Station S) Global) (h k : StoresValue) (c : Counts) (qs : List history.Session) → LedBetween sc talks (Collect before) (Collect after) h k c qs → AllByRecursion (AreAnswered sc k) qs
      → (place : ℕ) (d : Station S) → place < length before.items → Covered k.outbox (source_of (slice_index_or before.items place d)) (source_of (slice_index_or after.items place d))
  step_covered before after h k c qs (inl s) answered place d lt =
      let t = s.stations place d lt in
      let told : AllByRecursion (IsCovered sc k.outbox) (all_answers s.g) = (subst (AllByRecursion (AreAnswered sc k)) s.session answered).0.0 in
      (t.kept, t.answered, kept_covered sc k.outbox (answers_to sc (id_of (slice_index_or before.items place d)) (all_answers s.g)) t.kept t.keeps (all-filter (IsCovered sc k.outbox) _ (all_answers s.g) told))
  step_covered before after h k c qs (inr n) answered place d lt =
      ([], ap (λ (ts : List (Station S)). (talks (source_of (slice_index_or ts place d))).answered) n.stations ∙ sym (append-nil (talks (source_of (slice_index_or before.items place d))).answered), tt)

  -- A LIST OF SESSIONS
  -- what the sources of the first so many sessions were answered is covered
  abbrev CoveredUpto : List (Session S) → List (Session S) → ℕ → OutboxValue → Type 0
  CoveredUpto olds news n x = (session : ℕ) → session < n → (before after : Vec (Station S) Global) → slice_get olds session ≡ Some (Collect before) → slice_get news session ≡ Some (Collect after)
      → (place : ℕ) (d : Station S) → place < length before.items → Covered x (source_of (slice_index_or before.items place d)) (source_of (slice_index_or after.items place d))

  pub record AreKept (olds news : List (Session S)) (n : ℕ) (h k : StoresValue) (qs : List history.Session) : Type 0 where
    pub kept : IsKept h k qs
    pub covered : CoveredUpto olds news n k.outbox

  gave_in : (olds news : List (Session S)) (n : ℕ) (s r : Session S) → slice_get olds n ≡ Some s → slice_get news n ≡ Some r → GaveOf talks sc lists olds news → GaveIn s r
  gave_in olds news n (Collect before) (Collect after) was is gave = gave.of n before after was is
  gave_in olds news n (Collect before) (Serve owner) was is gave = tt
  gave_in olds news n (Serve owner) r was is gave = tt

  list_next : (olds news : List (Session S)) (n : ℕ) (h m k : StoresValue) (c : Counts) (ps rs qs : List history.Session) → AreKept olds news n h m ps → HasLedAt sc talks olds news n m k c rs → qs ≡ ps ++ rs → AreRunnable sc olds → GaveOf talks sc lists olds news → AreKept olds news (suc n) h k qs
  list_next olds news n h m k c ps rs qs first at all can gave = record {
    kept = record {
      agrees = one.agrees;
      grew = stores_trans h m k first.kept.grew one.grew;
      answered = subst (AllByRecursion (AreAnswered sc k)) (sym all) (all-append (AreAnswered sc k) ps rs (all-weaken (AreAnswered sc m) (AreAnswered sc k) (answered_still sc m k one.grew) ps first.kept.answered) one.answered);
    };
    covered = covered;
  }
    where
      one : IsKept m k rs
      one = step_kept at.before at.after m k c rs at.led (all_at (IsRunnable sc) olds can n at.before at.was) (gave_in olds news n at.before at.after at.was at.is gave) first.kept.agrees

      covered : CoveredUpto olds news (suc n) k.outbox
      covered session lt before after was now place d below = by (cases_lt session n)
        where
          by : (session < n) ⊎ (n ≤ session) → Covered k.outbox (source_of (slice_index_or before.items place d)) (source_of (slice_index_or after.items place d))
          by (inl less) = covered_on m.outbox k.outbox one.grew.outbox _ _ (first.covered session less before after was now place d below)
          by (inr le) =
              let here : session ≡ n = omega (arith, lt, le) in
              let old : ◌≡◌ {A = Option (Session S)} (Some at.before) (Some (Collect before)) = sym at.was ∙ (ap (slice_get olds) (sym here) ∙ was) in
              let new : ◌≡◌ {A = Option (Session S)} (Some at.after) (Some (Collect after)) = sym at.is ∙ (ap (slice_get news) (sym here) ∙ now) in
              let same_old : at.before ≡ Collect before = cc in
              let same_new : at.after ≡ Collect after = cc in
              let led_here = subst (λ (p : Session S × Session S). LedBetween sc talks p.0 p.1 m k c rs) (λ i. (same_old i, same_new i)) at.led in
              step_covered before after m k c rs led_here one.answered place d below

  pub list_kept : (olds news : List (Session S)) (n : ℕ) (h k : StoresValue) (t : Tally) (qs : List history.Session) → HaveLed sc talks olds news n h k t qs → AreRunnable sc olds → GaveOf talks sc lists olds news → Agrees sc lists h → AreKept olds news n h k qs
  list_kept olds news zero h k t qs led can gave is = record { kept = kept_none h k qs is led.0 led.2; covered = λ session lt before after was now place d below. absurd (omega (arith, lt)) }
  list_kept olds news (suc n) h k t qs led can gave is = list_next olds news n h led.0 k led.3 led.2 led.4 qs (list_kept olds news n h led.0 led.1 led.2 led.5 can gave is) led.6 led.8 can gave
