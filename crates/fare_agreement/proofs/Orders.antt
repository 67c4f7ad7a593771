-- Why the order of commits matters: what is pruned before its take is committed is lost, and a day that is closed too soon is short.
use Rattle.std.proofs.Common.{◌≡◌, ℕ, ◌+◌, ◌-◌, ◌≤◌, ◌<◌, List, [], ◌∷◌, ◌++◌, length, take, Some, None, Bool, true, false, refl, sym, ap, ◌∙◌, subst, arith}
use Rattle.std.specs.Prelude.{slice_get, Option, Err, ◌==◌, ◌&&◌, nat_le, nat_lt, if◌then◌else◌}
use Rattle.std.proofs.lemmas.Bool.Decides.{nat_tests}
use Rattle.fare_record.specs.Values.{RecordValue}
use Rattle.fare_record.specs.Lanes.{part, day_count}
use Rattle.fare_scheme.specs.Values.{SchemeValue}
use Rattle.fare_owner.specs.CloseJudged.{close_judged}
use Rattle.fare_owner.specs.declared.closing.CloseFault.TheVariants as closing
use Rattle.fare_store.specs.Tables.{put}
use Rattle.fare_store.specs.OutboxWords.{OutboxValue, behind, pruned}
use Rattle.fare_store.specs.LedgerWords.{is_closed, close_of, with_close}
use Rattle.fare_world.specs.Knowing.{knows_owner}
use Rattle.fare_world.specs.Shown.{row_at, IsAt}
use Rattle.fare_world.proofs.Places.{slice_get-end}
use Rattle.fare_world.proofs.RowPlaces.{row_here, row_past}
use Rattle.fare_history.specs.Stores.{StoresValue}
use Rattle.fare_store.proofs.Entries.{put_here, put2_here, put3_here, is_one, is_self}
use Rattle.fare_agreement.specs.Agreeing.{AreNumberedLists, had, Agrees, lane_agrees}
use Rattle.fare_agreement.specs.Stopping.{with_link_alone, with_row_alone}
use Rattle.fare_agreement.proofs.LaneSteps.{by_tests, lane_length}
use Rattle.fare_agreement.proofs.LettingGo.{held_least}
use Rattle.fare_agreement.proofs.Numbers.{part_take_next}
use Rattle.fare_agreement.proofs.Prefixes.{prefix_length}

-- NO TAP IS LOST
pub row_kept : (sc : SchemeValue) (lists : ℕ → List RecordValue) (h : StoresValue) (owner device k : ℕ) (r : RecordValue) → Agrees sc lists h → knows_owner sc owner ≡ true → length ((h.ledgers owner).taken device) ≤ k → slice_get (had lists h.outbox owner device) k ≡ Some r → h.outbox.rows owner device (k + 1) ≡ Some r
row_kept sc lists h owner device k r is known late at =
    let lane = is.lanes owner device known in
    let place : k + 1 - 1 ≡ k = omega arith in
    lane.rows_are.are (k + 1) ∙ row_here lane.rows_are.gone (had lists h.outbox owner device) (k + 1) (omega (arith, lane.rows_are.few, late)) ∙ ap (slice_get (had lists h.outbox owner device)) place ∙ at

-- A ROW PRUNED BEFORE ITS TAKE IS COMMITTED
cut_row : (owner device n : ℕ) (x : OutboxValue) → (pruned owner device n x).rows owner device n ≡ None
cut_row owner device n x =
    ap (λ f. f n) (put2_here x.rows owner device (behind n (x.rows owner device)))
    ∙ ap (λ b. if b then None else x.rows owner device n) (self n)
  where
    self : (m : ℕ) → nat_le m m ≡ true
    self m = grind (arith, nat_tests)

pub pruned_too_soon : (sc : SchemeValue) (lists : ℕ → List RecordValue) (h : StoresValue) (owner device : ℕ) (r : RecordValue) → knows_owner sc owner ≡ true → slice_get (had lists h.outbox owner device) (length ((h.ledgers owner).taken device)) ≡ Some r → Agrees sc lists (record h { outbox = pruned owner device (length ((h.ledgers owner).taken device) + 1) h.outbox }) → ⊥
pruned_too_soon sc lists h owner device r known at is =
    let n = length ((h.ledgers owner).taken device) in
    let kept = row_kept sc lists (record h { outbox = pruned owner device (n + 1) h.outbox }) owner device n r is known (omega arith) at in
    let both : None ≡ Some r = sym (cut_row owner device (n + 1) h.outbox) ∙ kept in
    absurd (cc)

-- A CLOSE THAT WAS REFUSED
-- what a short count tells
short_tells : (stated : Option ℕ) (closed next : Bool) (taken : ℕ) (retired : Bool) (s t : ℕ) → close_judged stated closed next taken retired ≡ Err (closing.CountsShort s t) → (stated ≡ Some s) × (taken < s) × (next ≡ true)
short_tells stated closed next taken true s t e = absurd (cc)
short_tells None closed next taken false s t e = absurd (cc)
short_tells (Some k) true next taken false s t e = absurd (cc)
short_tells (Some k) false false taken false s t e = absurd (cc)
short_tells (Some k) false true taken false s t e = by (nat_lt taken k) (nat_lt k taken) refl e
  where
    by : (a b : Bool) → nat_lt taken k ≡ a → by_tests k taken a b ≡ Err (closing.CountsShort s t) → (Some k ≡ Some s) × (taken < s) × (true ≡ true)
    by true b p f =
        let same : k ≡ s = cc in
        let less : taken < k = grind (arith, nat_tests) in
        (ap Some same, omega (arith, same, less), refl)
    by false true p f = absurd (cc)
    by false false p f = absurd (cc)

pub closed_short : (sc : SchemeValue) (lists : ℕ → List RecordValue) (h : StoresValue) (owner device day s t : ℕ) → knows_owner sc owner ≡ true → close_of (h.ledgers owner) device day ≡ Err (closing.CountsShort s t) → (h.ledgers owner).from device ≤ day → Agrees sc lists (record h { ledgers = put h.ledgers owner (with_close device (h.ledgers owner)) }) → ⊥
closed_short sc lists h owner device day s t known judged held is =
    let l = h.ledgers owner in
    let tells = short_tells (l.stated device day) (is_closed l device day) (day == l.start + l.closed device) (day_count (l.taken device) day) (l.retired device) s t judged in
    let next : day ≡ l.start + l.closed device = is_one day (l.start + l.closed device) tells.2 in
    let lane = subst (λ m. lane_agrees lists h.outbox m owner device) (put_here h.ledgers owner (with_close device l)) (is.lanes owner device known) in
    let closed : (nat_le l.start day && nat_lt day (l.start + (put l.closed device (l.closed device + 1) device))) ≡ true = ap (λ n. nat_le l.start day && nat_lt day (l.start + n)) (put_here l.closed device (l.closed device + 1)) ∙ last l.start (l.closed device) day next in
    let counted : s ≡ day_count (part owner (lists device)) day = lane.stated_are.counted day s tells.0 in
    let least : day_count lane.all day ≤ day_count (l.taken device) day = held_least lane.all (l.from device) _ _ (l.taken device) lane.taken_are day held in
    omega (arith, counted, lane.closed_are.whole day closed, least, tells.1)
  where
    last : (start n day : ℕ) → day ≡ start + n → (nat_le start day && nat_lt day (start + (n + 1))) ≡ true
    last start n day e = grind (arith, nat_tests)

-- A TAP STORED IN TWO PARTS
module _ (sc : SchemeValue) (lists : ℕ → List RecordValue) (h : StoresValue) (r : RecordValue) (all : AreNumberedLists lists) (is : Agrees sc lists h) (known : knows_owner sc r.owner ≡ true) (at : IsAt (lists r.device) r.link r) (next : r.link ≡ h.outbox.upto r.device + 1) where
  here : slice_get (lists r.device) (h.outbox.upto r.device) ≡ Some r
  here = let place : h.outbox.upto r.device ≡ r.link - 1 = omega (arith, next) in ap (slice_get (lists r.device)) place ∙ at.here

  lane : r.lane ≡ length (had lists h.outbox r.owner r.device) + 1
  lane = (all.numbered r.device (h.outbox.upto r.device) r here).lane

  no_row : (gone : ℕ) → row_at gone (had lists h.outbox r.owner r.device) r.lane ≡ None
  no_row gone = row_past gone (had lists h.outbox r.owner r.device) r.lane (omega (arith, lane))

  pub link_alone : Agrees sc lists (record h { outbox = with_link_alone r h.outbox }) → ⊥
  link_alone torn =
      let n = length (had lists h.outbox r.owner r.device) in
      let own = is.lanes r.owner r.device known in
      let kept = row_kept sc lists (record h { outbox = with_link_alone r h.outbox }) r.owner r.device n r torn known (omega (arith, lane_length _ _ _ _ _ _ _ _ _ own, prefix_length own.all (had lists h.outbox r.owner r.device) own.all_are)) there in
      let rows = (is.lanes r.owner r.device known).rows_are in
      let both : None ≡ Some r = sym (ap (h.outbox.rows r.owner r.device) (sym lane) ∙ rows.are r.lane ∙ no_row rows.gone) ∙ kept in
      absurd (cc)
    where
      -- it comes next in its lane
      more : part r.owner (take (put h.outbox.upto r.device r.link r.device) (lists r.device)) ≡ had lists h.outbox r.owner r.device ++ r ∷ []
      more =
          ap (λ k. part r.owner (take k (lists r.device))) (put_here h.outbox.upto r.device r.link ∙ next) ∙ part_take_next r.owner (h.outbox.upto r.device) (lists r.device) r here
          ∙ ap (λ b. if b then had lists h.outbox r.owner r.device ++ r ∷ [] else had lists h.outbox r.owner r.device) (is_self r.owner)

      there : slice_get (had lists (with_link_alone r h.outbox) r.owner r.device) (length (had lists h.outbox r.owner r.device)) ≡ Some r
      there = ap (λ l. slice_get l (length (had lists h.outbox r.owner r.device))) more ∙ slice_get-end (had lists h.outbox r.owner r.device) r

  pub row_alone : Agrees sc lists (record h { outbox = with_row_alone r h.outbox }) → ⊥
  row_alone torn =
      let rows = (torn.lanes r.owner r.device known).rows_are in
      let both : None ≡ Some r = sym (rows.are r.lane ∙ no_row rows.gone) ∙ put3_here h.outbox.rows r.owner r.device r.lane (Some r) in
      absurd (cc)
