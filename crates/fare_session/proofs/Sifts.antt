-- The lanes that a ledger hasn't retired, asked for one by one.
use Rattle.std.proofs.Common.{◌≡◌, ℕ, ◌+◌, ◌<◌, ◌≤◌, Some, None, Bool, true, false, List, [], ◌∷◌, ◌++◌, length, refl, sym, ap, ◌∙◌, inl, inr, arith, length-append}
use Rattle.std.specs.Prelude.{◌⊎◌, slice_get, get_or, nat_eq, Option, Result, Ok, Err}
use Rattle.std.specs.Map.{keys_of}
use Rattle.std.proofs.lemmas.Map.Keys.{IsDistinct-from_apart}
use Rattle.std.proofs.lemmas.Map.Entries.{length-keys_of}
use Rattle.std.proofs.lemmas.Bool.Decides.{nat_tests}
use Rattle.std.proofs.lemmas.Option.{slice_get_within, slice_get-get_or}
use Rattle.fare_store.specs.declared.fault.Fault.{Fault}
use Rattle.fare_store.specs.declared.fault.Fault.TheVariants as fault
use Rattle.fare_store.specs.Standing.{Standing, IsSound}
use Rattle.fare_store.specs.LedgerWords.{LedgerValue}
use Rattle.fare_history.specs.Serving.{IsWorking}
use Rattle.fare_session.specs.Stores.{HasStood, Stays}
use Rattle.fare_session.specs.Forwarding.{AreApart}
use Rattle.fare_session.specs.Asking.{AreSifted}
use Rattle.fare_session.proofs.StoreCalls.{stays_none, stays_then, stood_first, stood_then, stood_value}
use Rattle.fare_session.proofs.Forwards.{apart_at}
use Rattle.fare_session.proofs.Asks.{push_cases, push_before, push_last, key_of, unlike}

-- those of the lanes before a place
pub record InSift (lo ln : Standing LedgerValue) (lanes working : List (ℕ × ℕ)) (place : ℕ) : Type 0 where
  pub stays : Stays lo ln None
  pub among : (k : ℕ) (p : ℕ × ℕ) → slice_get working k ≡ Some p → (j : ℕ) × (j < place) × (slice_get lanes j ≡ Some p)
  pub apart : (i k : ℕ) (p q : ℕ × ℕ) → i < k → slice_get working i ≡ Some p → slice_get working k ≡ Some q → p.0 ≡ q.0 → ⊥
  pub works : HasStood lo ln → (k : ℕ) (p : ℕ × ℕ) → slice_get working k ≡ Some p → IsWorking lo.value p.0
  pub all : HasStood lo ln → (j : ℕ) (p : ℕ × ℕ) → j < place → slice_get lanes j ≡ Some p → IsWorking lo.value p.0 → (k : ℕ) × (slice_get working k ≡ Some p)

nowhere : (working : List (ℕ × ℕ)) (k : ℕ) (p : ℕ × ℕ) → working ≡ [] → slice_get working k ≡ Some p → ⊥
nowhere working k p none at = let e : ◌≡◌ {A = Option (ℕ × ℕ)} None (Some p) = sym (ap (λ (l : List (ℕ × ℕ)). slice_get l k) none) ∙ at in cc

pub sift_none : (l : Standing LedgerValue) (lanes working : List (ℕ × ℕ)) → IsSound l → working ≡ [] → InSift l l lanes working 0
sift_none l lanes working sound none = record {
  stays = stays_none l sound;
  among = λ k p at. absurd (nowhere working k p none at);
  apart = λ i k p q lt at there. absurd (nowhere working i p none at);
  works = λ keeps k p at. absurd (nowhere working k p none at);
  all = λ keeps j p lt. absurd (omega (arith, lt));
}

-- one lane more, of which the ledger answered
module _ (lo lm ln : Standing LedgerValue) (lanes working : List (ℕ × ℕ)) (place : ℕ) (lane : ℕ × ℕ) (retired : Bool) (here : slice_get lanes place ≡ Some lane) (apart : AreApart lanes) (now : InSift lo lm lanes working place) (read : Stays lm ln None) (told : HasStood lm ln → retired ≡ lm.value.retired lane.0) where
  both : Stays lo ln None
  both = stays_then lo lm ln None now.stays read

  earlier : HasStood lo ln → HasStood lo lm
  earlier keeps = stood_first lo lm ln None lm.value (λ w. w ≡ lm.value) read keeps

  told_first : HasStood lo ln → retired ≡ lo.value.retired lane.0
  told_first keeps =
      told (stood_then lo lm ln None lm.value lo.value (λ w. w ≡ lm.value) (λ w. w ≡ lo.value) now.stays read keeps)
      ∙ ap (λ (l : LedgerValue). l.retired lane.0) (stood_value lo lm lo.value (λ w. w ≡ lo.value) now.stays (earlier keeps))

  before_or_here : (j : ℕ) → j < place + 1 → (j < place) ⊎ (j ≡ place)
  before_or_here j lt = grind (arith, nat_tests)

  this_lane : (j : ℕ) (p : ℕ × ℕ) → j ≡ place → slice_get lanes j ≡ Some p → lane ≡ p
  this_lane j p is at = let same : Some lane ≡ Some p = sym here ∙ ap (slice_get lanes) (sym is) ∙ at in cc

  -- its lane is retired
  pub sift_left : retired ≡ true → InSift lo ln lanes working (place + 1)
  sift_left ended = record {
    stays = both;
    among = λ k p at. let was = now.among k p at in (was.0, omega (arith, was.1), was.2);
    apart = now.apart;
    works = λ keeps k p at. now.works (earlier keeps) k p at;
    all = λ keeps j p lt at works. elim (before_or_here j lt) [
      | inl less ↦ now.all (earlier keeps) j p less at works
      | inr is ↦ absurd (let e : true ≡ false = sym ended ∙ told_first keeps ∙ ap (λ (q : ℕ × ℕ). lo.value.retired q.0) (this_lane j p is at) ∙ works in cc)
    ];
  }

  -- it goes on with it
  pub sift_more : retired ≡ false → InSift lo ln lanes (working ++ lane ∷ []) (place + 1)
  sift_more works_on = record {
    stays = both;
    among = λ k p at. elim (push_cases working lane p k at) [
      | inl old ↦ let was = now.among k p old in (was.0, omega (arith, was.1), was.2)
      | inr last ↦ (place, omega arith, here ∙ ap {B = Option (ℕ × ℕ)} Some last.1)
    ];
    apart = λ i k p q lt at there same. elim (push_cases working lane p i at) [
      | inr last ↦ absurd (let within = slice_get_within (working ++ lane ∷ []) k q there in omega (arith, lt, within, last.0, length-append working (lane ∷ [])))
      | inl old ↦ elim (push_cases working lane q k there) [
        | inl before ↦ now.apart i k p q lt old before same
        | inr last ↦ let was = now.among i p old in apart_at lanes was.0 place p lane apart was.1 was.2 here (same ∙ ap (λ (z : ℕ × ℕ). z.0) (sym last.1))
      ]
    ];
    works = λ keeps k p at. elim (push_cases working lane p k at) [
      | inl old ↦ now.works (earlier keeps) k p old
      | inr last ↦ sym (ap (λ (q : ℕ × ℕ). lo.value.retired q.0) last.1) ∙ sym (told_first keeps) ∙ works_on
    ];
    all = λ keeps j p lt at works. elim (before_or_here j lt) [
      | inl less ↦ let was = now.all (earlier keeps) j p less at works in (was.0, push_before working lane p was.0 was.1)
      | inr is ↦ (length working, push_last working lane ∙ ap {B = Option (ℕ × ℕ)} Some (this_lane j p is at))
    ];
  }

pub sift_failed : (lo lm ln : Standing LedgerValue) (lanes working : List (ℕ × ℕ)) (f : Fault) → Stays lo lm None → Stays lm ln (Some f) → AreSifted lo ln lanes working (Err f)
sift_failed lo lm ln lanes working f first read = record {
  faulted = Some f;
  stays = stays_then lo lm ln (Some f) first read;
  cause = λ e. let is : ◌≡◌ {A = Result (Unit {0}) Fault} (Err f) (Err fault.Store) = e in cc;
  none = tt;
  told = tt;
}

pub sifted : (lo ln : Standing LedgerValue) (lanes working : List (ℕ × ℕ)) (place : ℕ) → length lanes ≤ place → InSift lo ln lanes working place → AreSifted lo ln lanes working (Ok tt)
sifted lo ln lanes working place le now = record {
  faulted = None;
  stays = now.stays;
  cause = λ e. absurd (let same : ◌≡◌ {A = Result (Unit {0}) Fault} (Ok tt) (Err fault.Store) = e in cc);
  none = refl;
  told = record {
    among = λ k p at. let was = now.among k p at in (was.0, was.2);
    apart = IsDistinct-from_apart nat_eq (keys_of working) each;
    works = now.works;
    all = λ keeps j p at works. now.all keeps j p (let within = slice_get_within lanes j p at in omega (arith, le, within)) at works;
  };
}
  where
    at_place : (k : ℕ) → k < length (keys_of working) → slice_get working k ≡ Some (get_or working k (0, 0))
    at_place k lt = slice_get-get_or working k (0, 0) (omega (arith, lt, length-keys_of working))

    each : (i j d : ℕ) → i < j → j < length (keys_of working) → nat_eq (get_or (keys_of working) i d) (get_or (keys_of working) j d) ≡ false
    each i j d lt within =
        let p : ℕ × ℕ = get_or working i (0, 0) in
        let q : ℕ × ℕ = get_or working j (0, 0) in
        let at = at_place i (omega (arith, lt, within)) in
        let there = at_place j within in
        (λ k. nat_eq (key_of working i d p at k) (key_of working j d q there k)) ∙ unlike p.0 q.0 (now.apart i j p q lt at there)
