-- A session stays of its kind, of as many stations or of its owner.
use Rattle.std.proofs.Common.{◌≡◌, ℕ, zero, suc, ◌<◌, List, [], length, Some, refl, sym, ap, ◌∙◌, subst, arith, inl, inr}
use Rattle.std.specs.Prelude.{◌≤◌, slice_get}
use Rattle.fare_source.specs.Talking.{Talk}
use Rattle.fare_store.specs.Standing.{Standing}
use Rattle.fare_store.specs.OutboxWords.{OutboxValue}
use Rattle.fare_store.specs.LedgerWords.{LedgerValue}
use Rattle.fare_sessions.specs.declared.hub.Hub.{Hub}
use Rattle.fare_sessions.specs.declared.session.Session.{Session}
use Rattle.fare_sessions.specs.declared.session.Session.TheVariants.{Collect, Serve}
use Rattle.fare_sessions.specs.declared.report.SessionsReport.{SessionsReport}
use Rattle.fare_sessions.specs.Course.{Counts, Tally}
use Rattle.fare_sessions.specs.Running.{AreStill, IsStill, HasRun, HaveRun, HaveAllRun}
use Rattle.fare_sessions.proofs.Follow.{same_at}
use Rattle.fare_sessions.proofs.Runnable.{below_or_from, last_or_before}

still_self : {S : Type 0} (x : Session S) → IsStill x x
still_self (Collect stations) = refl
still_self (Serve owner) = refl

-- what is the same is still
still_same : {S : Type 0} (x y : Session S) → y ≡ x → IsStill x y
still_same x y is = subst (IsStill x) (sym is) (still_self x)

pub still_none : {S : Type 0} (sessions : List (Session S)) → AreStill sessions sessions
still_none sessions = record { len = refl; each = λ place x y was is. still_same x y (same_at sessions sessions place x y was is refl) }

module _ {S O L : Type 0} (talks : S → Talk) (outbox : O → Standing OutboxValue) (ledger : L → Standing LedgerValue) where
  ran_still : (old new : Hub O L) (before after : Session S) (c : Counts) → HasRun talks outbox ledger old new before after c → IsStill before after
  ran_still old new (Collect before) (Collect after) c ran = elim ran.came [ inl one ↦ one.1.len | inr unread ↦ ap length unread.1 ]
  ran_still old new (Collect before) (Serve owner) c ran = absurd ran
  ran_still old new (Serve owner) (Serve other) c ran = ran.0
  ran_still old new (Serve owner) (Collect after) c ran = absurd ran

  run_still : (start : Hub O L) (olds news : List (Session S)) (n : ℕ) (now : Hub O L) (t : Tally) → HaveRun talks outbox ledger start olds news n now t
      → (place : ℕ) → place < n → (x y : Session S) → slice_get olds place ≡ Some x → slice_get news place ≡ Some y → IsStill x y
  run_still start olds news zero now t h place lt x y was is = absurd (omega (arith, lt))
  run_still start olds news (suc n) now t h place lt x y was is = elim (last_or_before place n lt) [
    | inl last ↦
        let one = h.4 in
        let old_is : one.before ≡ x = same_at olds olds n x one.before (ap (slice_get olds) (sym last) ∙ was) one.was refl in
        let new_is : one.after ≡ y = same_at news news n y one.after (ap (slice_get news) (sym last) ∙ is) one.is refl in
        subst (λ (q : Session S × Session S). IsStill q.0 q.1) (λ i. (old_is i, new_is i)) (ran_still h.0 now one.before one.after h.2 one.ran)
    | inr below ↦ run_still start olds news n h.0 h.1 h.3 place below x y was is
  ]

  pub all_still : (limit : ℕ) (old new : Hub O L) (olds news : List (Session S)) (report : SessionsReport) → HaveAllRun talks outbox ledger limit old new olds news report → AreStill olds news
  all_still limit old new olds news report a = record {
    len = a.len;
    each = λ place x y was is. elim (below_or_from place a.count) [
      | inl below ↦ run_still old olds news a.count new a.tally a.ran place below x y was is
      | inr from ↦ still_same x y (same_at olds olds place x y was (sym (a.rest place from) ∙ is) refl)
    ];
  }
