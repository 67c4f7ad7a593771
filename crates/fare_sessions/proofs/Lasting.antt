-- What a stop leaves, through a list of sessions.
use Rattle.std.proofs.Common.{◌≡◌, ℕ, zero, suc, List, ◌++◌, take, Some, sym, ap, ◌∙◌, subst, arith, inl, inr}
use Rattle.std.specs.Prelude.{◌⊎◌, ◌≢◌, slice_get, Bool, Vec}
use Rattle.std.specs.Global.{Global}
use Rattle.fare_record.specs.declared.item.Item.{Item}
use Rattle.fare_scheme.specs.Values.{SchemeValue}
use Rattle.fare_scheme.specs.Words.{position_of_owner}
use Rattle.fare_source.specs.Talking.{Talk}
use Rattle.fare_store.specs.Standing.{Standing}
use Rattle.fare_store.specs.OutboxWords.{OutboxValue}
use Rattle.fare_store.specs.LedgerWords.{LedgerValue}
use Rattle.fare_history.specs.Holding.{MayHold}
use Rattle.fare_history.specs.Serving.{Service, given_all, tried_in}
use Rattle.fare_history.proofs.Entries.{element_at}
use Rattle.fare_session.specs.Served.{IsTakenBy}
use Rattle.fare_sessions.specs.declared.hub.Hub.{Hub}
use Rattle.fare_sessions.specs.declared.session.Session.{Session}
use Rattle.fare_sessions.specs.declared.session.Session.TheVariants.{Collect, Serve}
use Rattle.fare_sessions.specs.Course.{Counts, Tally}
use Rattle.fare_sessions.specs.Stores.{IsLedgerOf, AreClean, AreSound, StoresFollow}
use Rattle.fare_sessions.specs.Reopening.{AreLasting, AreOwned}
use Rattle.fare_sessions.specs.Running.{HasServed, HasRun, HaveRun}
use Rattle.fare_sessions.proofs.Follow.{IsOwn, has_place, given_made, replaced, clean_back, fit, ran_follow, run_follow, run_sound}

given_own : (sc : SchemeValue) (owner : ℕ) (w m : LedgerValue) (items : List Item) → m ≡ given_all w items → IsOwn sc owner w → IsOwn sc owner m
given_own sc owner w m items is was =
    let made = given_made w items in
    subst (IsOwn sc owner) (sym is) (made.0 ∙ was.0, record { start = made.1 ∙ was.1.start; knows = λ device. ap (λ (f : ℕ → Bool). f device) made.2 ∙ was.1.knows device })

taken_own : (sc : SchemeValue) (owner : ℕ) (v : Service) (w m : LedgerValue) → IsTakenBy v w m → IsOwn sc owner w → IsOwn sc owner m
taken_own sc owner v w m is was = given_own sc owner w m (v.taken ++ take is.count (tried_in v.hand v.queue)) is.value was

module _ {O L : Type 0} (outbox : O → Standing OutboxValue) (ledger : L → Standing LedgerValue) where
  -- what a stop leaves of stores that followed from others fits together, where it did of those
  pub lasting_on : (old new : Hub O L) → StoresFollow outbox ledger old new → AreClean outbox ledger new → AreSound outbox ledger old → AreLasting outbox ledger old → AreLasting outbox ledger new
  lasting_on old new f clean sound lasting = record {
    outbox_is = f.outbox_follows.lasts clean.outbox_is sound.lawful.outbox_is lasting.outbox_is;
    ledgers_are = λ place y at.
        let lt = has_place new.ledgers.items place y at in
        let n = f.count in
        let x = element_at old.ledgers.items place (omega (arith, lt, n)) in
        (f.ledgers_follow place x.0 y x.1 at).lasts (clean.ledgers_are place y at) (sound.lawful.ledgers_are place x.0 x.1) (lasting.ledgers_are place x.0 x.1);
  }

module _ {S O L : Type 0} (talks : S → Talk) (outbox : O → Standing OutboxValue) (ledger : L → Standing LedgerValue) where
  served_owned : (old new : Hub O L) (owner : ℕ) (c : Counts) → HasServed outbox ledger old new owner c → AreClean outbox ledger new → AreSound outbox ledger old → AreOwned outbox ledger old → AreOwned outbox ledger new
  served_owned old new owner c h clean sound owned = record { own = own }
    where
      own : (other : ℕ) (y : L) → IsLedgerOf new other y → (m : LedgerValue) → MayHold (ledger y) m → IsOwn new.scheme other m
      own other y of m may = subst (λ sc. IsOwn sc other m) (sym h.one.scheme) (by (replaced outbox ledger old new owner h.one of.0 x.0 y x.1 of.2))
        where
          x : (x : L) × (slice_get old.ledgers.items of.0 ≡ Some x)
          x = let lt = has_place new.ledgers.items of.0 y of.2 in let n = h.one.count in element_at old.ledgers.items of.0 (omega (arith, lt, n))

          was : (v : LedgerValue) → MayHold (ledger x.0) v → IsOwn old.scheme other v
          was = owned.own other x.0 (of.0, ap (λ sc. position_of_owner sc other) (sym h.one.scheme) ∙ of.1, x.1)

          by : ((of.0 ≡ h.one.place) × (x.0 ≡ h.one.own_old) × (y ≡ h.one.own_new)) ⊎ ((of.0 ≢ h.one.place) × (y ≡ x.0)) → IsOwn old.scheme other m
          by (inl is) =
              let led = (h.served.ledger (fit talks outbox ledger old new owner c h clean sound)).leads m (subst (λ z. MayHold (ledger z) m) is.2 may) in
              taken_own old.scheme other h.served.v led.0 m led.2 (was led.0 (subst (λ z. MayHold (ledger z) led.0) (sym is.1) led.1))
          by (inr is) = was m (subst (λ z. MayHold (ledger z) m) is.1 may)

  ran_owned : (old new : Hub O L) (s r : Session S) (c : Counts) → HasRun talks outbox ledger old new s r c → AreClean outbox ledger new → AreSound outbox ledger old → AreOwned outbox ledger old → AreOwned outbox ledger new
  ran_owned old new (Collect b) (Collect a) c h clean sound owned = record {
    own = λ owner y of v may.
        subst (λ sc. IsOwn sc owner v) (sym h.scheme) (owned.own owner y (of.0, ap (λ sc. position_of_owner sc owner) (sym h.scheme) ∙ of.1, ap (λ (v : Vec L Global). slice_get v.items of.0) (sym h.ledgers) ∙ of.2) v may);
  }
  ran_owned old new (Collect b) (Serve o) c h clean sound owned = absurd h
  ran_owned old new (Serve o) (Serve p) c h clean sound owned = served_owned old new o c h.1 clean sound owned
  ran_owned old new (Serve o) (Collect a) c h clean sound owned = absurd h

  pub run_owned : (start : Hub O L) (olds news : List (Session S)) (n : ℕ) (now : Hub O L) (t : Tally) → HaveRun talks outbox ledger start olds news n now t → AreClean outbox ledger now → AreSound outbox ledger start → AreOwned outbox ledger start → AreOwned outbox ledger now
  run_owned start olds news zero now t h clean sound owned = subst (AreOwned outbox ledger) (sym h.0) owned
  run_owned start olds news (suc n) now t h clean sound owned =
      let before = clean_back outbox ledger h.0 now (ran_follow talks outbox ledger h.0 now h.4.before h.4.after h.2 h.4.ran) clean in
      ran_owned h.0 now h.4.before h.4.after h.2 h.4.ran clean (run_sound talks outbox ledger start olds news n h.0 h.1 h.3 before sound) (run_owned start olds news n h.0 h.1 h.3 before sound owned)

  pub run_lasting : (start : Hub O L) (olds news : List (Session S)) (n : ℕ) (now : Hub O L) (t : Tally) → HaveRun talks outbox ledger start olds news n now t → AreClean outbox ledger now → AreSound outbox ledger start → AreLasting outbox ledger start → AreLasting outbox ledger now
  run_lasting start olds news n now t h = lasting_on outbox ledger start now (run_follow talks outbox ledger start olds news n now t h)
