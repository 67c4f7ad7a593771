-- What each change makes of one lane that agrees.
use Rattle.std.proofs.Common.{◌≡◌, ◌≢◌, ℕ, ◌+◌, ◌-◌, ◌≤◌, List, [], ◌∷◌, ◌++◌, length, Some, None, Bool, true, false, refl, sym, ap, ◌∙◌, subst, arith, length-append, inl, inr}
use Rattle.std.specs.Prelude.{slice_get, Option, ◌⊎◌, ◌==◌, max, nat_le, nat_lt, if◌then◌else◌, Result, Ok, Err}
use Rattle.std.proofs.lemmas.Bool.Decides.{nat_tests}
use Rattle.std.proofs.lemmas.List.Sums.{prefix_len-le-length}
use Rattle.fare_record.specs.Limits.{IsDay}
use Rattle.fare_record.specs.Values.{RecordValue}
use Rattle.fare_record.specs.Lanes.{day_count}
use Rattle.fare_owner.specs.CloseJudged.{close_judged}
use Rattle.fare_owner.specs.declared.closing.CloseFault.{CloseFault}
use Rattle.fare_owner.specs.declared.closing.CloseFault.TheVariants.{CountsShort, CountsOver}
use Rattle.fare_store.specs.Tables.{put}
use Rattle.fare_store.specs.OutboxWords.{behind}
use Rattle.fare_store.specs.LedgerWords.{let_go, is_past, front, stated_from}
use Rattle.fare_world.specs.Headline.{IsPrefixOf}
use Rattle.fare_world.proofs.Lanes.{day_count-other, day_count-same}
use Rattle.fare_world.proofs.RowPlaces.{row_push, row_pruned, row_held}
use Rattle.fare_store.proofs.Entries.{put_all, not_below}
use Rattle.fare_agreement.specs.Agreeing.{LaneAgrees}
use Rattle.fare_agreement.proofs.Prefixes.{prefix_trans, prefix_more, prefix_push, prefix_length, prefix_at, prefix_count}
use Rattle.fare_agreement.proofs.LettingGo.{length_let_go, held_length, held_push, held_count, held_forgotten}

some_same : (a b : ℕ) → Some a ≡ Some b → a ≡ b
some_same a b e = cc

module _ (numbered arrived : List RecordValue) (rows : ℕ → Option RecordValue) (taken : List RecordValue) (stated : ℕ → Option ℕ) (closed : ℕ → Bool) (from open_day : ℕ) (retired : Bool) (is : LaneAgrees numbered arrived rows taken stated closed from open_day retired) where
  pub lane_length : length taken ≡ length is.all
  lane_length = held_length is.all from open_day retired taken is.taken_are

  gone_few : is.rows_are.gone ≤ length arrived
  gone_few = omega (arith, is.rows_are.few, lane_length, prefix_length is.all arrived is.all_are)

  -- the outbox stores the lane's next tap
  pub lane_stored : (r : RecordValue) (lane : ℕ) → lane ≡ length arrived + 1 → LaneAgrees numbered (arrived ++ r ∷ []) (put rows lane (Some r)) taken stated closed from open_day retired
  lane_stored r lane next = record {
    all = is.all;
    all_are = prefix_trans is.all arrived (arrived ++ r ∷ []) is.all_are (prefix_more arrived (r ∷ []));
    taken_are = is.taken_are;
    rows_are = record {
      gone = is.rows_are.gone;
      few = is.rows_are.few;
      are = λ l. ap (λ (o : Option RecordValue). if l == lane then Some r else o) (is.rows_are.are l) ∙ row_push is.rows_are.gone arrived r lane l gone_few next;
    };
    stated_are = is.stated_are;
    closed_are = is.closed_are;
  }

  -- a row of the number behind what was taken is the next tap
  pub lane_next : (r : RecordValue) (lane : ℕ) → lane ≡ length taken + 1 → rows lane ≡ Some r → slice_get arrived (length taken) ≡ Some r
  lane_next r lane next held =
      let place : lane - 1 ≡ length taken = omega (arith, next) in
      ap (slice_get arrived) (sym place) ∙ (row_held is.rows_are.gone arrived lane r (sym (is.rows_are.are lane) ∙ held)).1

  -- the next tap joins all that were taken
  all_more : (r : RecordValue) → slice_get arrived (length taken) ≡ Some r → IsPrefixOf (is.all ++ r ∷ []) arrived
  all_more r at = prefix_push is.all arrived r is.all_are (ap (slice_get arrived) (sym lane_length) ∙ at)

  -- the next tap is of no closed day
  pub lane_open : (r : RecordValue) (day : ℕ) → IsPrefixOf arrived numbered → slice_get arrived (length taken) ≡ Some r → closed day ≡ true → r.tap.day ≢ day
  lane_open r day front at shut same = omega (arith, day_count-same is.all r day same, prefix_count (is.all ++ r ∷ []) numbered day (prefix_trans (is.all ++ r ∷ []) arrived numbered (all_more r at) front), is.closed_are.whole day shut)

  -- the ledger takes the next tap
  pub lane_took : (r : RecordValue) → IsPrefixOf arrived numbered → slice_get arrived (length taken) ≡ Some r → LaneAgrees numbered arrived rows (taken ++ r ∷ []) stated closed from open_day retired
  lane_took r front at = record {
    all = is.all ++ r ∷ [];
    all_are = all_more r at;
    taken_are = held_push is.all from open_day retired taken is.taken_are r;
    rows_are = record { gone = is.rows_are.gone; few = omega (arith, is.rows_are.few, length-append taken (r ∷ [])); are = is.rows_are.are };
    stated_are = is.stated_are;
    closed_are = record {
      whole = λ day shut. day_count-other is.all r day (lane_open r day front at shut) ∙ is.closed_are.whole day shut;
      met = λ day shut le. is.closed_are.met day shut le ∙ ap Some (sym (day_count-other is.all r day (lane_open r day front at shut)));
    };
  }

  -- the ledger takes a statement of the day's count
  pub lane_stated : (day count : ℕ) → count ≡ day_count numbered day → LaneAgrees numbered arrived rows taken (put stated day (Some count)) closed from open_day retired
  lane_stated day count right = record {
    all = is.all;
    all_are = is.all_are;
    taken_are = is.taken_are;
    rows_are = is.rows_are;
    stated_are = record { counted = put_all (λ j (o : Option ℕ). (c : ℕ) → o ≡ Some c → c ≡ day_count numbered j) stated day (Some count) is.stated_are.counted (λ c e. sym (some_same count c e) ∙ right) };
    closed_are = record {
      whole = is.closed_are.whole;
      met = put_all (λ j (o : Option ℕ). closed j ≡ true → from ≤ j → o ≡ Some (day_count is.all j)) stated day (Some count) is.closed_are.met (λ shut le. ap Some (right ∙ sym (is.closed_are.whole day shut)));
    };
  }

  -- its rows go up to what was taken
  pub lane_pruned : LaneAgrees numbered arrived (behind (length taken) rows) taken stated closed from open_day retired
  lane_pruned = record {
    all = is.all;
    all_are = is.all_are;
    taken_are = is.taken_are;
    rows_are = record {
      gone = length taken;
      few = omega arith;
      are = λ l. ap (λ (o : Option RecordValue). if nat_le l (length taken) then None else o) (is.rows_are.are l) ∙ row_pruned is.rows_are.gone (length taken) arrived l is.rows_are.few;
    };
    stated_are = is.stated_are;
    closed_are = is.closed_are;
  }

  -- the day that is open is closed, once its stated count is met
  pub lane_closed : (more : ℕ → Bool) → retired ≡ false → IsDay open_day → stated open_day ≡ Some (day_count taken open_day) → ((day : ℕ) → more day ≡ true → (closed day ≡ true) ⊎ (day ≡ open_day)) → LaneAgrees numbered arrived rows taken stated more from (open_day + 1) retired
  lane_closed more working dated met each = record {
    all = is.all;
    all_are = is.all_are;
    taken_are = record { gone = is.taken_are.gone; few = is.taken_are.few; are = is.taken_are.are; past = λ k r less at. let p = is.taken_are.past k r less at in (p.0, λ works. let before = p.1 works in omega (arith, before)) };
    rows_are = is.rows_are;
    stated_are = is.stated_are;
    closed_are = record {
      whole = λ day shut. elim (each day shut) [
        | inl before ↦ is.closed_are.whole day before
        | inr now ↦ subst (λ j. day_count is.all j ≡ day_count numbered j) (sym now) (sym same ∙ is.stated_are.counted open_day (day_count taken open_day) met)
      ];
      met = λ day shut le. elim (each day shut) [
        | inl before ↦ is.closed_are.met day before le
        | inr now ↦ subst (λ j. stated j ≡ Some (day_count is.all j)) (sym now) (met ∙ ap Some same)
      ];
    };
  }
    where
      same : day_count taken open_day ≡ day_count is.all open_day
      same = held_count is.all from open_day retired taken is.taken_are working dated

  -- what is of the days before one goes, where these are closed or the lane is retired
  pub lane_forgotten : (day : ℕ) → ((k : ℕ) (r : RecordValue) → slice_get arrived k ≡ Some r → 1 ≤ r.lane) → (retired ≡ false → day ≤ open_day) → LaneAgrees numbered arrived rows (let_go (front day taken) taken) (stated_from day stated) closed (max from day) open_day retired
  lane_forgotten day numbers le = record {
    all = is.all;
    all_are = is.all_are;
    taken_are = held_forgotten is.all from open_day retired taken is.taken_are day le (λ k r at. numbers k r (prefix_at is.all arrived k r is.all_are at));
    rows_are = record { gone = is.rows_are.gone; few = omega (arith, is.rows_are.few, length_let_go (front day taken) taken (prefix_len-le-length (is_past day) taken)); are = is.rows_are.are };
    stated_are = record { counted = λ e c at. stays e c (nat_lt e day) refl at };
    closed_are = record { whole = is.closed_are.whole; met = λ e shut later. still e later ∙ is.closed_are.met e shut (omega (arith, later)) };
  }
    where
      stays : (e c : ℕ) (b : Bool) → nat_lt e day ≡ b → (if b then None else stated e) ≡ Some c → c ≡ day_count numbered e
      stays e c true h at = absurd (cc)
      stays e c false h at = is.stated_are.counted e c at

      still : (e : ℕ) → max from day ≤ e → stated_from day stated e ≡ stated e
      still e later = ap (λ b. if◌then◌else◌ {A = Option ℕ} b None (stated e)) {x = nat_lt e day} {y = false} (let at : day ≤ e = omega (arith, later) in grind (arith, nat_tests))

  -- the lane is retired
  pub lane_retired : LaneAgrees numbered arrived rows taken stated closed from open_day true
  lane_retired = record {
    all = is.all;
    all_are = is.all_are;
    taken_are = record { gone = is.taken_are.gone; few = is.taken_are.few; are = is.taken_are.are; past = λ k r less at. ((is.taken_are.past k r less at).0, λ works. absurd (cc)) };
    rows_are = is.rows_are;
    stated_are = is.stated_are;
    closed_are = is.closed_are;
  }

-- a close that is judged right
abbrev pub by_tests : ℕ → ℕ → Bool → Bool → Result Unit CloseFault
by_tests stated taken short over = if short then Err (CountsShort stated taken) else (if over then Err (CountsOver stated taken) else Ok tt)

pub close_right : (stated : Option ℕ) (closed next : Bool) (taken : ℕ) (retired : Bool) → close_judged stated closed next taken retired ≡ Ok tt → (stated ≡ Some taken) × (next ≡ true) × (retired ≡ false)
close_right stated closed next taken true e = absurd (cc)
close_right None closed next taken false e = absurd (cc)
close_right (Some s) true next taken false e = absurd (cc)
close_right (Some s) false false taken false e = absurd (cc)
close_right (Some s) false true taken false e = by (nat_lt taken s) (nat_lt s taken) refl refl e
  where
    by : (a b : Bool) → nat_lt taken s ≡ a → nat_lt s taken ≡ b → by_tests s taken a b ≡ Ok tt → (Some s ≡ Some taken) × (true ≡ true) × (false ≡ false)
    by true b p q f = absurd (cc)
    by false true p q f = absurd (cc)
    by false false p q f =
        let same : s ≡ taken = omega (arith, not_below taken s p, not_below s taken q) in
        (ap Some same, refl, refl)
