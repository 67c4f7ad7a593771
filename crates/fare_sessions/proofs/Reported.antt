-- What the report of a list of sessions says, and what the list promises.
use Rattle.std.proofs.Common.{◌≡◌, ℕ, zero, suc, ◌+◌, ◌<◌, ◌≤◌, List, [], ◌∷◌, ◌++◌, length, slice_index_or, Some, Bool, true, false, refl, sym, ap, ◌∙◌, subst, arith, inl, inr}
use Rattle.std.specs.Prelude.{◌⊎◌, min, nat_lt, slice_get, Option, Vec, IsTrue, ◌↔◌, option_map, unwrap_or, if◌then◌else◌}
use Rattle.std.specs.Global.{Global}
use Rattle.std.specs.List.{AllByRecursion}
use Rattle.std.proofs.lemmas.Bool.{cases_lt}
use Rattle.std.proofs.lemmas.Bool.Decides.{nat_tests}
use Rattle.std.proofs.lemmas.List.{append-nil}
use Rattle.fare_record.specs.Values.{RecordValue}
use Rattle.fare_scheme.specs.Facts.{IsScheme}
use Rattle.fare_source.specs.Talking.{Talk}
use Rattle.fare_store.specs.Standing.{Standing, IsSound}
use Rattle.fare_store.specs.OutboxWords.{OutboxValue}
use Rattle.fare_store.specs.LedgerWords.{LedgerValue}
use Rattle.fare_history.specs.Stores as history
use Rattle.fare_history.specs.Stores.{StoresValue}
use Rattle.fare_history.specs.Serving.{in_hand}
use Rattle.fare_session.specs.declared.fault.SessionFault.{SessionFault}
use Rattle.fare_collect.specs.declared.station.Station.{Station}
use Rattle.fare_collect.specs.Collected.{source_of, station_faults}
use Rattle.fare_agreement.specs.Agreeing.{AreNumberedLists, Agrees}
use Rattle.fare_agreement.specs.Totals.{had_by}
use Rattle.fare_sessions.specs.declared.hub.Hub.{Hub}
use Rattle.fare_sessions.specs.declared.report.SessionsReport.{SessionsReport}
use Rattle.fare_sessions.specs.declared.session.Session.{Session}
use Rattle.fare_sessions.specs.declared.session.Session.TheVariants.{Collect, Serve}
use Rattle.fare_sessions.specs.Course.{Counts, Tally, numbered, last_place}
use Rattle.fare_sessions.specs.Stores.{AreClean, AreLive, AreSound, MayStandAs, IsAgreed, HasGrown, held_by_all}
use Rattle.fare_sessions.specs.Running.{AreRunnable, HasCollected, HasServed, HasRun, HaveRun, HaveAllRun}
use Rattle.fare_sessions.specs.Boundaries.{HaveLed}
use Rattle.fare_sessions.specs.Promises.{IsFrameCovered, GaveOf, AreCovered, ran, AreInOrder, AreUntouched, IsAdded, CameOf}
use Rattle.fare_sessions.proofs.Follow.{fit, ran_follow, run_scheme, run_sound, clean_back}
use Rattle.fare_sessions.proofs.Steps.{no_writer, no_first, no_owner, run_led}
use Rattle.fare_sessions.proofs.Agreeing.{list_kept}
use Rattle.fare_sessions.proofs.Sums.{Grew, run_stored, run_taken}

-- THE FAULTS
numbered_in_order : (from n : ℕ) (gs : List SessionFault) → from ≤ n → AreInOrder from (numbered n gs) (suc n)
numbered_in_order from n [] le = tt
numbered_in_order from n (g ∷ gs) le = (le, omega arith, numbered_in_order n n gs (omega arith))

more_in_order : (from n : ℕ) (fs : List (ℕ × SessionFault)) (gs : List SessionFault) → AreInOrder from fs n → from ≤ n → AreInOrder from (fs ++ numbered n gs) (suc n)
more_in_order from n [] gs is le = numbered_in_order from n gs le
more_in_order from n (f ∷ fs) gs is le = let lt = is.1 in (is.0, omega (arith, lt), more_in_order f.0 n fs gs is.2 (omega (arith, lt)))

-- no fault is numbered where there is none
none_numbered : (n : ℕ) (gs : List SessionFault) → numbered n gs ≡ [] → gs ≡ []
none_numbered n [] is = refl
none_numbered n (g ∷ gs) is = absurd (cc)

at_most_sum : (a b c : ℕ) → min a 18446744073709551615 ≡ min b 18446744073709551615 → c ≡ min a 18446744073709551615 → c ≡ min b 18446744073709551615
at_most_sum a b c e f = f ∙ e

module _ {S O L : Type 0} (talks : S → Talk) (outbox : O → Standing OutboxValue) (ledger : L → Standing LedgerValue) where
  run_in_order : (start : Hub O L) (olds news : List (Session S)) (n : ℕ) (now : Hub O L) (t : Tally) → HaveRun talks outbox ledger start olds news n now t → AreInOrder 0 t.faults n
  run_in_order start olds news zero now t h = subst (λ (u : Tally). AreInOrder 0 u.faults 0) (sym h.1) tt
  run_in_order start olds news (suc n) now t h = subst (λ (u : Tally). AreInOrder 0 u.faults (suc n)) (sym h.5) (more_in_order 0 n h.1.faults h.2.faults (run_in_order start olds news n h.0 h.1 h.3) (omega arith))

  -- NOTHING IS LEFT
  collected_left : (old new : Hub O L) (before after : List (Station S)) (c : Counts) → HasCollected talks outbox old new before after c → c.faults ≡ [] → c.left ≡ 0
  collected_left old new before after c h none = elim h.came [
    | inr is ↦ is.4
    | inl is ↦ (let done = is.1.finished (no_writer is.0 (station_faults after) (sym is.2 ∙ none)).0 in is.1.left_is ∙ (λ i. length (in_hand (done.0 i) ++ done.1 i)))
  ]

  served_left : (old new : Hub O L) (owner : ℕ) (c : Counts) → HasServed outbox ledger old new owner c → AreClean outbox ledger new → AreSound outbox ledger old → c.faults ≡ [] → c.left ≡ 0
  served_left old new owner c h clean sound none =
      let fits = fit talks outbox ledger old new owner c h clean sound in
      let fine = no_owner h.report.fault (sym h.faults ∙ none) in
      let live = h.served.stays fine fits in
      let x = (outbox old.outbox).value in
      let l = (ledger h.one.own_old).value in
      let done = (h.served.says fits x l (inl (h.served.outbox_follows.live live.0, refl)) (inl (h.served.ledger_follows.live live.1, refl))).whole fine in
      h.left ∙ (h.served.left ∙ (λ i. length (in_hand (done.hand i) ++ done.queue i)))

  ran_left : (old new : Hub O L) (s r : Session S) (c : Counts) → HasRun talks outbox ledger old new s r c → AreClean outbox ledger new → AreSound outbox ledger old → c.faults ≡ [] → c.left ≡ 0
  ran_left old new (Collect before) (Collect after) c h clean sound none = collected_left old new before.items after.items c h none
  ran_left old new (Collect before) (Serve owner) c h clean sound none = absurd h
  ran_left old new (Serve owner) (Collect after) c h clean sound none = absurd h
  ran_left old new (Serve owner) (Serve other) c h clean sound none = served_left old new owner c h.1 clean sound none

  run_left : (start : Hub O L) (olds news : List (Session S)) (n : ℕ) (now : Hub O L) (t : Tally) → HaveRun talks outbox ledger start olds news n now t → AreClean outbox ledger now → AreSound outbox ledger start → t.faults ≡ [] → t.left ≡ 0
  run_left start olds news zero now t h clean sound none = ap (λ (u : Tally). u.left) h.1
  run_left start olds news (suc n) now t h clean sound none =
      let f = ran_follow talks outbox ledger h.0 now h.4.before h.4.after h.2 h.4.ran in
      let before = clean_back outbox ledger h.0 now f clean in
      let parts = no_first h.1.faults (numbered n h.2.faults) (sym (ap (λ (u : Tally). u.faults) h.5) ∙ none) in
      let first = run_left start olds news n h.0 h.1 h.3 before sound parts.0 in
      let one = ran_left h.0 now h.4.before h.4.after h.2 h.4.ran clean (run_sound talks outbox ledger start olds news n h.0 h.1 h.3 before sound) (none_numbered n h.2.faults parts.1) in
      ap (λ (u : Tally). u.left) h.5 ∙ (λ i. first i + one i)

  -- ALL OF IT
  module _ (limit : ℕ) (old new : Hub O L) (olds news : List (Session S)) (report : SessionsReport) (a : HaveAllRun talks outbox ledger limit old new olds news report) where
    pub count_is : ran report (length olds) ≡ a.count
    count_is = by report.gave_up refl
      where
        by : (b : Bool) → report.gave_up ≡ b → (if b then unwrap_or (option_map (λ place. place + 1) (last_place report.faults.items)) 0 else length olds) ≡ a.count
        by false e = sym (a.ended e)
        by true e = ap (λ fs. unwrap_or (option_map (λ (place : ℕ). place + 1) (last_place fs)) 0) a.shows.faults ∙ ap (λ o. unwrap_or o 0) (a.stopped e)

    pub gave_up_exactly : IsTrue report.gave_up ↔ (limit < length report.faults.items)
    gave_up_exactly = by
      where
        is : report.gave_up ≡ nat_lt limit (length report.faults.items)
        is = a.shows.gave_up ∙ ap (λ fs. nat_lt limit (length fs)) (sym a.shows.faults)

        by : IsTrue report.gave_up ↔ (limit < length report.faults.items)
        by = ((λ e. let both : nat_lt limit (length report.faults.items) ≡ true = sym is ∙ e in grind (arith, nat_tests)), (λ lt. is ∙ below lt))
          where
            below : limit < length report.faults.items → nat_lt limit (length report.faults.items) ≡ true
            below lt = grind (arith, nat_tests)

    pub faults_in_order : AreInOrder 0 report.faults.items (ran report (length olds))
    faults_in_order = subst (λ n. AreInOrder 0 report.faults.items n) (sym count_is) (subst (λ fs. AreInOrder 0 fs a.count) (sym a.shows.faults) (run_in_order old olds news a.count new a.tally a.ran))

    pub rest_untouched : AreUntouched (ran report (length olds)) olds news
    rest_untouched = record { len = a.len; same = λ place le. a.rest place (subst (λ n. n ≤ place) count_is le) }

    pub none_left : AreClean outbox ledger new → AreSound outbox ledger old → report.faults.items ≡ [] → report.left ≡ 0
    none_left clean sound none = a.shows.left ∙ ap (λ n. min n 18446744073709551615) (run_left old olds news a.count new a.tally a.ran clean sound (sym a.shows.faults ∙ none))

    -- WHAT WAS ADDED
    module _ (sound_outbox : (x : O) → IsSound (outbox x)) (sound_ledger : (x : L) → IsSound (ledger x)) (valid : IsScheme old.scheme) where
      added : (was is counted told : ℕ) → Grew was is counted → told ≡ min counted 18446744073709551615 → IsAdded was is told
      added was is counted told grew shown = (grew.0, grew.1, shown ∙ grew.2)

      pub stored_is : AreLive outbox ledger new → AreSound outbox ledger old → IsAdded (had_by old.scheme (outbox old.outbox).value) (had_by old.scheme (outbox new.outbox).value) report.stored
      stored_is live sound = added _ _ a.tally.stored report.stored (run_stored talks outbox ledger sound_outbox sound_ledger old olds news a.count new a.tally a.ran valid live sound) a.shows.stored

      pub taken_is : AreLive outbox ledger new → AreSound outbox ledger old → IsAdded (held_by_all ledger old.scheme old.ledgers.items) (held_by_all ledger old.scheme new.ledgers.items) report.taken
      taken_is live sound = added _ _ a.tally.taken report.taken (run_taken talks outbox ledger sound_outbox sound_ledger old olds news a.count new a.tally a.ran valid live sound) a.shows.taken

    -- AGREEMENT
    module _ (can : AreRunnable old.scheme olds) (clean : AreClean outbox ledger new) (sound : AreSound outbox ledger old) where
      from : (k : StoresValue) → MayStandAs outbox ledger new k → (h : StoresValue) × (qs : List history.Session) × MayStandAs outbox ledger old h × HaveLed old.scheme talks olds news a.count h k a.tally qs
      from k may = run_led talks outbox ledger old olds news a.count new a.tally a.ran clean sound k may

      pub agrees : (lists : ℕ → List RecordValue) → AreNumberedLists lists → GaveOf talks old.scheme lists olds news → IsAgreed outbox ledger lists old → IsAgreed outbox ledger lists new
      agrees lists numbered_lists gave is = record {
        agreed = λ k may.
            let was = from k may in
            subst (λ sc. Agrees sc lists k) (sym (run_scheme talks outbox ledger old olds news a.count new a.tally a.ran))
            (list_kept old.scheme talks lists numbered_lists olds news a.count was.0 k a.tally was.1 was.3 can gave (is.agreed was.0 was.2)).kept.agrees;
      }

      pub grows : (lists : ℕ → List RecordValue) → AreNumberedLists lists → GaveOf talks old.scheme lists olds news → IsAgreed outbox ledger lists old → HasGrown outbox ledger old new
      grows lists numbered_lists gave is = record {
        grown = λ k may.
            let was = from k may in
            let grew = (list_kept old.scheme talks lists numbered_lists olds news a.count was.0 k a.tally was.1 was.3 can gave (is.agreed was.0 was.2)).kept.grew in
            (was.0, was.2, grew);
      }

      pub covered : (lists : ℕ → List RecordValue) → AreNumberedLists lists → GaveOf talks old.scheme lists olds news → IsAgreed outbox ledger lists old → (k : StoresValue) → MayStandAs outbox ledger new k → AreCovered talks old.scheme k.outbox olds news
      covered lists numbered_lists gave is k may = record { covered = λ session before after was now place d below. by session before after was now place d below (cases_lt session a.count) }
        where
          by : (session : ℕ) (before after : Vec (Station S) Global) → slice_get olds session ≡ Some (Collect before) → slice_get news session ≡ Some (Collect after) → (place : ℕ) (d : Station S) → place < length before.items
              → (session < a.count) ⊎ (a.count ≤ session)
              → (more : List _) × ((talks (source_of (slice_index_or after.items place d))).answered ≡ (talks (source_of (slice_index_or before.items place d))).answered ++ more) × AllByRecursion (IsFrameCovered old.scheme k.outbox) more
          by session before after was now place d below (inl lt) =
              let came = from k may in
              (list_kept old.scheme talks lists numbered_lists olds news a.count came.0 k a.tally came.1 came.3 can gave (is.agreed came.0 came.2)).covered session lt before after was now place d below
          by session before after was now place d below (inr le) =
              let both : ◌≡◌ {A = Option (Session S)} (Some (Collect after)) (Some (Collect before)) = sym now ∙ (a.rest session le ∙ was) in
              let same : after ≡ before = cc in
              ([], ap (λ (v : Vec (Station S) Global). (talks (source_of (slice_index_or v.items place d))).answered) same ∙ sym (append-nil (talks (source_of (slice_index_or before.items place d))).answered), tt)

      pub came : (k : StoresValue) → MayStandAs outbox ledger new k → CameOf talks outbox ledger old olds news report k
      came k may =
          let was = from k may in
          record {
            h = was.0;
            stood = was.2;
            tally = a.tally;
            qs = was.1;
            led = subst (λ n. HaveLed old.scheme talks olds news n was.0 k a.tally was.1) (sym count_is) was.3;
            stored = a.shows.stored;
            taken = a.shows.taken;
            left = a.shows.left;
            faults = a.shows.faults;
            answered = λ lists numbered_lists gave agreed. (list_kept old.scheme talks lists numbered_lists olds news a.count was.0 k a.tally was.1 was.3 can gave agreed).kept.answered;
          }
