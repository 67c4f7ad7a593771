-- What stands in stores that were opened again.
use Rattle.std.proofs.Common.{◌≡◌, ℕ, Some, sym, ap, ◌∙◌, subst, arith, inr}
use Rattle.std.specs.Prelude.{slice_get}
use Rattle.fare_scheme.specs.Words.{position_of_owner}
use Rattle.fare_store.specs.Standing.{Standing, IsSound}
use Rattle.fare_store.specs.OutboxWords.{OutboxValue}
use Rattle.fare_store.specs.LedgerWords.{LedgerValue}
use Rattle.fare_history.specs.Stores.{StoresValue}
use Rattle.fare_history.proofs.Entries.{element_at}
use Rattle.fare_sessions.specs.declared.hub.Hub.{Hub}
use Rattle.fare_sessions.specs.Stores.{AreLive, AreSound, MayStandAs}
use Rattle.fare_sessions.specs.Reopening.{AreLasting, AreOwned, HasReopened}
use Rattle.fare_sessions.proofs.Follow.{IsOwn, has_place}
use Rattle.fare_sessions.proofs.Billed.{holds_value}

module _ {O L : Type 0} (outbox : O → Standing OutboxValue) (ledger : L → Standing LedgerValue) (outboxes_sound : (x : O) → IsSound (outbox x)) (ledgers_sound : (x : L) → IsSound (ledger x)) where
  -- stores that are live and lawful
  pub begins : (hub : Hub O L) → AreLive outbox ledger hub → AreSound outbox ledger hub → AreLasting outbox ledger hub × AreOwned outbox ledger hub
  begins hub live sound = (
    record {
      outbox_is = (outboxes_sound hub.outbox).lasting live.outbox_is (sound.lawful.outbox_is live.outbox_is);
      ledgers_are = λ place x at. let up = live.ledgers_are place x at in (ledgers_sound x).lasting up (sound.lawful.ledgers_are place x at up);
    },
    record {
      own = λ owner x of v may.
          let up = live.ledgers_are of.0 x of.2 in
          subst (IsOwn hub.scheme owner) (sym (holds_value (ledger x) (ledgers_sound x) up (sound.lawful.ledgers_are of.0 x of.2 up) v may)) (sound.own owner x of up);
    },
  )

  module _ (old new : Hub O L) (re : HasReopened outbox ledger old new) where
    -- the ledger that stood where one stands now
    before : (place : ℕ) (y : L) → slice_get new.ledgers.items place ≡ Some y → (x : L) × (slice_get old.ledgers.items place ≡ Some x)
    before place y at = let lt = has_place new.ledgers.items place y at in let n = re.count in element_at old.ledgers.items place (omega (arith, lt, n))

    pub stand : (k : StoresValue) → MayStandAs outbox ledger new k → MayStandAs outbox ledger old k
    stand k may = record {
      outbox_may = inr (subst (outbox old.outbox).may_leave (sym (holds_value (outbox new.outbox) (outboxes_sound new.outbox) re.outbox_again.live re.outbox_again.lawful k.outbox may.outbox_may)) re.outbox_again.value);
      ledgers_may = λ owner x of.
          let lt = has_place old.ledgers.items of.0 x of.2 in
          let n = re.count in
          let y = element_at new.ledgers.items of.0 (omega (arith, lt, n)) in
          let again = re.ledgers_again of.0 x y.0 of.2 y.1 in
          let there = may.ledgers_may owner y.0 (of.0, ap (λ sc. position_of_owner sc owner) re.scheme ∙ of.1, y.1) in
          inr (subst (ledger x).may_leave (sym (holds_value (ledger y.0) (ledgers_sound y.0) again.live again.lawful (k.ledgers owner) there)) again.value);
    }

    pub lives : AreLive outbox ledger new
    lives = record { outbox_is = re.outbox_again.live; ledgers_are = λ place y at. let x = before place y at in (re.ledgers_again place x.0 y x.1 at).live }

    pub sound_again : AreOwned outbox ledger old → AreSound outbox ledger new
    sound_again owned = record {
      lawful = record { outbox_is = λ live. re.outbox_again.lawful; ledgers_are = λ place y at live. let x = before place y at in (re.ledgers_again place x.0 y x.1 at).lawful };
      own = λ owner y of live.
          let x = before of.0 y of.2 in
          let was = owned.own owner x.0 (of.0, ap (λ sc. position_of_owner sc owner) (sym re.scheme) ∙ of.1, x.1) (ledger y).value (inr (re.ledgers_again of.0 x.0 y x.1 of.2).value) in
          subst (λ sc. IsOwn sc owner (ledger y).value) (sym re.scheme) was;
    }
