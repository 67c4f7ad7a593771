-- What serving and asking make of the databases in which a scheme's stores lie.
use Rattle.std.proofs.Common.{◌≡◌, ℕ, List, [], Some, None, Ok, Err, refl, sym, ap, ◌∙◌, subst, inl, inr}
use Rattle.std.specs.Prelude.{◌≢◌, ◌↔◌, ◌<◌, ◌≤◌, Bool, Option, OnOk, IfErr, Result, is_some, length, max}
use Rattle.std.specs.Io.KnownBytes.{Appends}
use Rattle.std.specs.List.{AllByRecursion, flat_map}
use Rattle.std.proofs.KnownBytes.{Appends-trans}
use Rattle.sqlite_trees.specs.Tree.{Trees}
use Rattle.sqlite_trees.specs.declared.store.Store.{Ghosts}
use Rattle.fare_record.specs.Values.{RecordValue}
use Rattle.fare_scheme.specs.Facts.{IsScheme}
use Rattle.fare_scheme.specs.Values.{SchemeValue}
use Rattle.fare_scheme.specs.Words.{position_of_owner}
use Rattle.fare_cap.specs.Bills.{bill_of}
use Rattle.fare_settle.specs.Settling.{settlement_of}
use Rattle.fare_source.specs.declared.shift.Shift.{Shift}
use Rattle.fare_net.specs.NetValue.{NetValue}
use Rattle.fare_collect.specs.declared.station.Station.{Station}
use Rattle.fare_outbox.specs.declared.tables.SqlOutbox.{SqlOutbox}
use Rattle.fare_ledger.specs.declared.tables.SqlLedger.{SqlLedger}
use Rattle.fare_history.specs.Stores.{StoresValue}
use Rattle.fare_side.specs.declared.bill_fault.BillFault.TheVariants.{UnknownOwner, BeforeStart}
use Rattle.fare_agreement.specs.Agreeing.{AreNumberedLists, Agrees}
use Rattle.fare_agreement.specs.Growing.{StoresGrew, StoresLast}
use Rattle.fare_agreement.specs.Parts.{parts_of}
use Rattle.fare_agreement.proofs.Lasting.{stores_last}
use Rattle.fare_sessions.specs.declared.billing.BillingFault.TheVariants.{Unbilled}
use Rattle.fare_sessions.specs.Billing.{gone_in, open_in, short_in}
use Rattle.fare_sessions.specs.Reopening.{AreLasting}
use Rattle.fare_sessions.specs.Stores.{AreClean, AreLive, AreSound, HasLedgers, IsAgreed, MayStandAs}
use Rattle.fare_sessions.specs.declared.hub.Hub.{Hub}
use Rattle.fare_sessions.proofs.Follow.{clean_back}
use Rattle.fare_desk.specs.Billing as desk
use Rattle.fare_desk.specs.Closing.{GoesOn, GoesOnLettingGo}
use Rattle.fare_desk.proofs.Going.{letting_goes}
use Rattle.fare_desk.specs.Faults.{name_of}
use Rattle.fare_desk.specs.declared.fault.DeskFault.{DeskFault}
use Rattle.fare_serve.specs.Calls.{IsOfScheme}
use Rattle.fare_serve.specs.Coming.{AreLinesCovered, ComeOfLines}
use Rattle.fare_serve.specs.Counting.{counts_text}
use Rattle.fare_serve.specs.Rounds.{AreCountsOf, IsRound, calls_of}
use Rattle.fare_serve.specs.Pausing.{HasPausedOnly, PauseOf}
use Rattle.fare_serve.specs.Spacing.{AreSpaced}
use Rattle.fare_serve.specs.Serving.{AreAllCovered, HaveTold, IsReadToEnds, KeepsStores, shift_talk}
use Rattle.fare_serve.proofs.Coming.{come_none}
use Rattle.fare_serve.proofs.Held.{calls_keep}
use Rattle.fare_serve.proofs.Rested.{rested_none}
use Rattle.fare_command.specs.declared.words.Question.{Question}
use Rattle.fare_command.specs.declared.words.Question.TheVariants.{Close, Bill, Settle, Stand, Retire, Forget}
use Rattle.fare_databases.specs.Closed.{IsHandedBack}
use Rattle.fare_databases.specs.Held.{AreCleanDisks, Holds, Show, StayStores}
use Rattle.fare_databases.specs.Holding.{HoldStores, LedgersLook, StoresLook}
use Rattle.fare_databases.specs.declared.databases.Databases.{Databases}
use Rattle.fare_databases.proofs.Kept.{agreed_old, clean_new, known, run_keeps, sound_old, stands_ledger, stands_outbox, unopened_keeps}
use Rattle.fare_databases.proofs.Looks.{gone_alike, ledger_self, open_alike, parts_alike, short_alike, stores_agree}
use Rattle.fare_databases.proofs.Now.{now_all, stands_now, unknown_now}
use Rattle.fare_run.specs.Asking.{Answers, FailsBill, FailsOf, GoesOnAsked}
use Rattle.fare_run.specs.Databases.{AnswersIn, IsBilled, IsMadeOf, IsRefusedBill, IsUnbilled, KeepDatabases, KeepsCalls, KeepsIn, LineCall, RefusesIn, ServesIn, StaysAsked, bill_text, settlement_text}
use Rattle.fare_run.specs.Serving.{LeavesStores, ServesOver}
use Rattle.fare_run.specs.declared.serve_failure.ServeFailure.{ServeFailure}

module _ {S : Type 0} (g : Ghosts S) (sc : SchemeValue) (valid : IsScheme sc) (before after : Databases S) where
  -- NOT OPENED
  pub keeps_unopened : (AreGiven : (ℕ → List RecordValue) → Type 0) (IsSo : StoresValue → Type 0) → ((k : StoresValue) → IsSo k) → length before.ledgers.items ≡ length sc.owners → StayStores g sc before after → (Stays : StoresValue → StoresValue → Type 0) → ((h k : StoresValue) → StoresGrew h k → Stays h k) → KeepDatabases g Stays sc before after AreGiven IsSo
  keeps_unopened AreGiven IsSo so count stay Stays weaker = record {
    keeps = λ clean lists numbered given outbox ledgers shows agreed outbox_left ledgers_left leave.
        let kept = unopened_keeps g sc valid before after count stay clean outbox ledgers shows agreed.0 agreed.1 outbox_left ledgers_left leave lists agreed.2 in
        (record { was = kept.was; was_held = kept.was_held; is = kept.is; is_held = kept.is_held; agrees = kept.agrees; stays = weaker kept.was kept.is kept.stays }, so kept.is);
  }

  pub serves_unopened : (most : ℕ) (untold asks : Bool) (written : Option (List ℕ)) (failure : ServeFailure) → length before.ledgers.items ≡ length sc.owners → StayStores g sc before after → ServesIn g sc most untold asks before after written written (Err failure)
  serves_unopened most untold asks written failure count stay = record {
    calls = [];
    came = inl refl;
    lines = come_none sc;
    keeps = keeps_unopened (λ lists. HaveTold sc lists []) (λ k. AreAllCovered sc k.outbox [] × AreLinesCovered sc k.outbox []) (λ k. (tt, tt)) count stay StoresGrew (λ h k grew. grew);
  }

  -- OPENED
  module _ (old new : Hub (SqlOutbox S g) (SqlLedger S g)) (same : old.scheme ≡ sc) (count : HasLedgers old) (holds : AreClean (stands_outbox g) (stands_ledger g) old → Holds g before old) (back : IsHandedBack g new after) where
    -- SERVING
    keeps_calls : (does : PauseOf (SqlOutbox S g) (SqlLedger S g)) (last : Hub (SqlOutbox S g) (SqlLedger S g)) (calls : List LineCall) → AreSpaced shift_talk does (stands_outbox g) (stands_ledger g) old last calls
        → HasPausedOnly does (stands_outbox g) (stands_ledger g) last new → ComeOfLines old.scheme calls → KeepsCalls g sc before after calls
    keeps_calls does last calls held rested come = record {
      keeps = λ clean lists numbered told outbox ledgers shows agreed outbox_left ledgers_left leave.
          let h = agreed.0 in
          let clean_now = clean_new g sc valid before after old new same count holds k.scheme k.follow back clean in
          let sound = sound_old g sc valid before after old new same count holds k.scheme k.follow back clean outbox ledgers shows h agreed.1 in
          let is = agreed_old g sc valid before after old new same count holds k.scheme k.follow back clean outbox ledgers shows h agreed.1 lists agreed.2 in
          let both = k.agrees clean_now sound lists numbered told is in
          let kept = run_keeps g sc valid before after old new same count holds k.scheme k.follow back clean outbox ledgers shows h agreed.1 StoresGrew stores_last lists both.0 both.1.grown outbox_left ledgers_left leave in
          let covered = subst (λ s. AreAllCovered s kept.0.is.outbox calls) same (k.covered clean_now sound lists numbered told is kept.0.is kept.1) in
          let answered = subst (λ s. AreLinesCovered s kept.0.is.outbox calls) same (k.answered clean_now sound lists numbered told is kept.0.is kept.1) in
          (kept.0, (covered, answered));
    }
      where
        k : KeepsStores does (stands_outbox g) (stands_ledger g) old new calls (λ lists. HaveTold sc lists calls)
        k = calls_keep does (stands_outbox g) (stands_ledger g) old last new calls (λ lists. HaveTold sc lists calls) (λ lists told. subst (λ s. HaveTold s lists calls) (sym same) told) held rested come

    pub serves_opened : (does : PauseOf (SqlOutbox S g) (SqlLedger S g)) (most : ℕ) (untold asks : Bool) (written_before written_after : Option (List ℕ)) (r : Result (Unit {0}) ServeFailure) → OnOk r (ServesOver does (stands_outbox g) (stands_ledger g) old new most untold asks written_before written_after) → IfErr r (LeavesStores does (stands_outbox g) (stands_ledger g) old new) → ServesIn g sc most untold asks before after written_before written_after r
    serves_opened does most untold asks written_before written_after (Ok u) over none =
        let held = over.served.held in
        let been = held.held in
        record {
          calls = flat_map calls_of been.rounds;
          came = record {
            ports = over.ports;
            are_ports = over.are_ports;
            rounds = been.rounds;
            counts = over.served.counts;
            are = refl;
            some = subst (λ n. 0 < n) (sym been.many) held.some;
            few = subst (λ n. n ≤ max most 1) (sym been.many) held.few;
            all = λ none. been.many ∙ held.all none;
            each = subst (λ s. AllByRecursion (λ r. (stations : List (Station (Shift NetValue))) × IsRound s r stations) been.rounds) same been.served.each;
            to_ends = λ whole. subst (λ s. AllByRecursion (IsReadToEnds s) been.rounds) same (been.to_ends whole);
            counted = subst (λ s. AreCountsOf s been.rounds over.served.counts) same been.counted;
            written = Appends-trans written_before over.mid written_after over.ports (counts_text over.served.counts) over.told over.served.written;
          };
          lines = subst (λ s. ComeOfLines s (flat_map calls_of been.rounds)) same been.come;
          keeps = keeps_calls does new (flat_map calls_of been.rounds) been.served.held (rested_none does (stands_outbox g) (stands_ledger g) new) been.come;
        }
    serves_opened does most untold asks written_before written_after (Err failure) none (inl still) = record { calls = []; came = inl refl; lines = come_none sc; keeps = keeps_calls does new [] still (rested_none does (stands_outbox g) (stands_ledger g) new) (come_none old.scheme) }
    serves_opened does most untold asks written_before written_after (Err failure) none (inr it) =
        let failed = it.2.failed in
        record {
          calls = failed.calls;
          came = inr (it.0, it.1, failed.ended, subst (λ s. AllByRecursion (IsOfScheme s) failed.calls) same failed.each);
          lines = subst (λ s. ComeOfLines s failed.calls) same it.2.come;
          keeps = keeps_calls does failed.last failed.calls failed.held failed.rested it.2.come;
        }

    -- ASKING
    module _ (goes : GoesOnLettingGo (stands_outbox g) (stands_ledger g) old new) where
      -- however what they held stays
      keeps_as : (Stays : StoresValue → StoresValue → Type 0) → ((w k : StoresValue) → Stays w k → StoresLast w k)
          → (AreClean (stands_outbox g) (stands_ledger g) new → AreSound (stands_outbox g) (stands_ledger g) old → (lists : ℕ → List RecordValue) → AreNumberedLists lists → IsAgreed (stands_outbox g) (stands_ledger g) lists old
          → (k : StoresValue) → MayStandAs (stands_outbox g) (stands_ledger g) new k → (w : StoresValue) × MayStandAs (stands_outbox g) (stands_ledger g) old w × Stays w k)
          → KeepDatabases g Stays sc before after (λ lists. Unit {0}) (λ k. Unit {0})
      keeps_as Stays last stayed = record {
        keeps = λ clean lists numbered given outbox ledgers shows agreed outbox_left ledgers_left leave.
            let h = agreed.0 in
            let clean_now = clean_new g sc valid before after old new same count holds goes.scheme goes.follow back clean in
            let sound = sound_old g sc valid before after old new same count holds goes.scheme goes.follow back clean outbox ledgers shows h agreed.1 in
            let is = agreed_old g sc valid before after old new same count holds goes.scheme goes.follow back clean outbox ledgers shows h agreed.1 lists agreed.2 in
            let kept = run_keeps g sc valid before after old new same count holds goes.scheme goes.follow back clean outbox ledgers shows h agreed.1 Stays last lists (goes.agrees clean_now sound lists numbered is) (stayed clean_now sound lists numbered is) outbox_left ledgers_left leave in
            (kept.0, tt);
      }

      module _ (clean : AreCleanDisks g after) (outbox : Trees) (ledgers : ℕ → Trees) (shows : Show g before outbox ledgers) (h : StoresValue) (held : HoldStores sc outbox ledgers h) where
        is_known : AreLive (stands_outbox g) (stands_ledger g) old × AreSound (stands_outbox g) (stands_ledger g) old × AreLasting (stands_outbox g) (stands_ledger g) old × ((k : StoresValue) → MayStandAs (stands_outbox g) (stands_ledger g) old k → HoldStores sc outbox ledgers k × StoresLook sc h k)
        is_known = known g sc valid before after old new same count holds goes.scheme goes.follow back clean outbox ledgers shows h held

        clean_now : AreClean (stands_outbox g) (stands_ledger g) new
        clean_now = clean_new g sc valid before after old new same count holds goes.scheme goes.follow back clean

        -- what the stores hold now
        abbrev k : StoresValue
        k = now_all (stands_outbox g) (stands_ledger g) sc valid old same count h

        may : MayStandAs (stands_outbox g) (stands_ledger g) old k
        may = stands_now (stands_outbox g) (stands_ledger g) sc valid old same count h is_known.0

        looks : (owner : ℕ) → LedgersLook (h.ledgers owner) (k.ledgers owner)
        looks owner = by (position_of_owner sc owner) refl
          where
            by : (o : Option ℕ) (e : position_of_owner sc owner ≡ o) → LedgersLook (h.ledgers owner) (k.ledgers owner)
            by None e = subst (λ l. LedgersLook (h.ledgers owner) l) (sym (unknown_now (stands_outbox g) (stands_ledger g) sc valid old same count h owner e)) (ledger_self (h.ledgers owner))
            by (Some place) e = (is_known.3 k may).1.ledgers_look owner (ap is_some e)

        refused_bill : (owner day : ℕ) (fault : DeskFault) → FailsBill (stands_outbox g) (stands_ledger g) owner day old new fault → IsRefusedBill sc h owner day (name_of fault)
        refused_bill owner day fault fails =
            let is = fails.1 clean_now is_known.1 in
            record {
              unknown = subst (λ s. (name_of fault ≡ Some (Unbilled UnknownOwner)) ↔ (position_of_owner s owner ≡ None)) same is.unknown;
              early = subst (λ (s : SchemeValue). (name_of fault ≡ Some (Unbilled BeforeStart)) ↔ ((position_of_owner s owner ≢ None) × (day < s.start))) same is.early;
              gone = λ device named.
                  let found : gone_in sc (k.ledgers owner) day ≡ Some device = ap (λ s. gone_in s (k.ledgers owner) day) (sym same) ∙ is.forgotten_of device named k may in
                  sym (gone_alike sc (h.ledgers owner) (k.ledgers owner) day (looks owner)) ∙ found;
              not_closed = λ device named.
                  let here = is.not_closed device named k may in
                  let held : gone_in sc (k.ledgers owner) day ≡ None = ap (λ s. gone_in s (k.ledgers owner) day) (sym same) ∙ here.0 in
                  let found : open_in sc (k.ledgers owner) day ≡ Some device = ap (λ s. open_in s (k.ledgers owner) day) (sym same) ∙ here.1 in
                  (sym (gone_alike sc (h.ledgers owner) (k.ledgers owner) day (looks owner)) ∙ held, sym (open_alike sc (h.ledgers owner) (k.ledgers owner) day (looks owner)) ∙ found);
            }

        is_unbilled : (question : Question) (fault : DeskFault) → FailsOf (stands_outbox g) (stands_ledger g) question old new fault → IsUnbilled sc h question fault
        is_unbilled Close fault fails = tt
        is_unbilled (Bill owner day) fault fails = refused_bill owner day fault fails
        is_unbilled (Settle owner day) fault fails = refused_bill owner day fault fails
        is_unbilled Stand fault fails = tt
        is_unbilled (Retire owner device) fault fails = tt
        is_unbilled (Forget before) fault fails = tt

        module _ (lists : ℕ → List RecordValue) (numbered : AreNumberedLists lists) (agrees : Agrees sc lists h) where
          made_billed : {V : Type 0} (rule : SchemeValue → List RecordValue → ℕ → V) (text : V → List ℕ → List ℕ) (owner day : ℕ) (made : V) (devices : List ℕ) (written_before written_after : Option (List ℕ))
              → desk.IsMadeOf (stands_outbox g) (stands_ledger g) rule old owner day made devices → Appends written_before written_after (text made devices) → IsMadeOf rule text sc lists h owner day written_before written_after
          made_billed rule text owner day made devices written_before written_after m written =
              let closed : open_in sc (k.ledgers owner) day ≡ None = ap (λ s. open_in s (k.ledgers owner) day) (sym same) ∙ m.closed k may in
              let held : gone_in sc (k.ledgers owner) day ≡ None = ap (λ s. gone_in s (k.ledgers owner) day) (sym same) ∙ m.held k may in
              let short : devices ≡ short_in sc (h.ledgers owner) day = m.short k may ∙ ap (λ s. short_in s (k.ledgers owner) day) same ∙ short_alike sc (h.ledgers owner) (k.ledgers owner) day (looks owner) in
              let now : Agrees old.scheme lists k = subst (λ s. Agrees s lists k) (sym same) (stores_agree sc lists h k (is_known.3 k may).1 agrees) in
              let is : made ≡ rule sc (parts_of sc lists (h.ledgers owner) owner) day =
              m.numbered lists k numbered may now ∙ ap (λ s. rule s (parts_of s lists (k.ledgers owner) owner) day) same ∙ ap (λ taps. rule sc taps day) (parts_alike sc lists (h.ledgers owner) (k.ledgers owner) owner (looks owner)) in
              (sym (open_alike sc (h.ledgers owner) (k.ledgers owner) day (looks owner)) ∙ closed, sym (gone_alike sc (h.ledgers owner) (k.ledgers owner) day (looks owner)) ∙ held, subst (λ (z : _ × List ℕ). Appends written_before written_after (text z.0 z.1)) (λ i. (is i, short i)) written)

          pub is_billed : (question : Question) (written_before written_after : Option (List ℕ)) → Answers (stands_outbox g) (stands_ledger g) question old new written_before written_after → IsBilled sc lists h question written_before written_after
          is_billed Close written_before written_after a = tt
          is_billed (Bill owner day) written_before written_after a = made_billed bill_of (bill_text owner day) owner day a.bill a.short written_before written_after (a.made clean_now is_known.1) a.written
          is_billed (Settle owner day) written_before written_after a = made_billed settlement_of (settlement_text owner day) owner day a.shares a.short written_before written_after (a.made clean_now is_known.1) a.written
          is_billed Stand written_before written_after a = tt
          is_billed (Retire owner device) written_before written_after a = tt
          is_billed (Forget day) written_before written_after a = tt

      answers_as : (question : Question) (written_before written_after : Option (List ℕ)) → Answers (stands_outbox g) (stands_ledger g) question old new written_before written_after → AnswersIn g sc question before after written_before written_after
      answers_as question written_before written_after a = record {
        old = old;
        new = new;
        scheme = same;
        back = back;
        answers = a;
        holds = λ clean. holds (clean_back (stands_outbox g) (stands_ledger g) old new goes.follow (clean_new g sc valid before after old new same count holds goes.scheme goes.follow back clean));
        billed = λ clean lists numbered outbox ledgers shows h held agrees. is_billed clean outbox ledgers shows h held lists numbered agrees question written_before written_after a;
      }

      refuses_as : (question : Question) (fault : DeskFault) → FailsOf (stands_outbox g) (stands_ledger g) question old new fault → RefusesIn g sc question before after fault
      refuses_as question fault fails = record {
        old = old;
        new = new;
        scheme = same;
        back = back;
        fails = fails;
        holds = λ clean. holds (clean_back (stands_outbox g) (stands_ledger g) old new goes.follow (clean_new g sc valid before after old new same count holds goes.scheme goes.follow back clean));
        unbilled = λ clean outbox ledgers shows h held. is_unbilled clean outbox ledgers shows h held question fault fails;
      }

    -- by the question
    asked_goes : (question : Question) → GoesOnAsked (stands_outbox g) (stands_ledger g) question old new → GoesOnLettingGo (stands_outbox g) (stands_ledger g) old new
    asked_goes Close goes = letting_goes (stands_outbox g) (stands_ledger g) old new goes
    asked_goes (Bill owner day) goes = letting_goes (stands_outbox g) (stands_ledger g) old new goes
    asked_goes (Settle owner day) goes = letting_goes (stands_outbox g) (stands_ledger g) old new goes
    asked_goes Stand goes = letting_goes (stands_outbox g) (stands_ledger g) old new goes
    asked_goes (Retire owner device) goes = letting_goes (stands_outbox g) (stands_ledger g) old new goes
    asked_goes (Forget day) goes = goes

    keeps_grown : GoesOn (stands_outbox g) (stands_ledger g) old new → KeepDatabases g StoresGrew sc before after (λ lists. Unit {0}) (λ k. Unit {0})
    keeps_grown goes = keeps_as (letting_goes (stands_outbox g) (stands_ledger g) old new goes) StoresGrew stores_last (λ clean sound lists numbered is. (goes.stays clean sound lists numbered is).grown)

    pub keeps_asked : (question : Question) → GoesOnAsked (stands_outbox g) (stands_ledger g) question old new → KeepsIn g sc question before after
    keeps_asked Close goes = keeps_grown goes
    keeps_asked (Bill owner day) goes = keeps_grown goes
    keeps_asked (Settle owner day) goes = keeps_grown goes
    keeps_asked Stand goes = keeps_grown goes
    keeps_asked (Retire owner device) goes = keeps_grown goes
    keeps_asked (Forget day) goes = keeps_as goes StoresLast (λ w k last. last) (λ clean sound lists numbered is. (goes.stays clean sound lists numbered is).lasted)

    pub answers_opened : (question : Question) → GoesOnAsked (stands_outbox g) (stands_ledger g) question old new → (written_before written_after : Option (List ℕ)) → Answers (stands_outbox g) (stands_ledger g) question old new written_before written_after → AnswersIn g sc question before after written_before written_after
    answers_opened question goes written_before written_after a = answers_as (asked_goes question goes) question written_before written_after a

    pub refuses_opened : (question : Question) → GoesOnAsked (stands_outbox g) (stands_ledger g) question old new → (fault : DeskFault) → FailsOf (stands_outbox g) (stands_ledger g) question old new fault → RefusesIn g sc question before after fault
    refuses_opened question goes fault fails = refuses_as (asked_goes question goes) question fault fails

-- what was not opened stays as it was, whatever was asked
pub stays_asked : (question : Question) (h k : StoresValue) → StoresGrew h k → StaysAsked question h k
stays_asked Close h k grew = grew
stays_asked (Bill owner day) h k grew = grew
stays_asked (Settle owner day) h k grew = grew
stays_asked Stand h k grew = grew
stays_asked (Retire owner device) h k grew = grew
stays_asked (Forget day) h k grew = stores_last h k grew
