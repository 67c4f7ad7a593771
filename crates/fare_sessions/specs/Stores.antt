-- The stores of a hub.
use Rattle.std.specs.Prelude.{◌≡◌, ◌≢◌, ℕ, ◌+◌, List, [], ◌∷◌, length, slice_get, Some}
use Rattle.fare_record.specs.Values.{RecordValue}
use Rattle.fare_scheme.specs.Values.{SchemeValue}
use Rattle.fare_scheme.specs.Words.{position_of_owner}
use Rattle.fare_store.specs.Standing.{Standing}
use Rattle.fare_store.specs.OutboxWords.{OutboxValue}
use Rattle.fare_store.specs.LedgerWords.{LedgerValue, IsOfScheme}
use Rattle.fare_history.specs.Holding.{MayHold}
use Rattle.fare_history.specs.Stores.{StoresValue}
use Rattle.fare_session.specs.Stores.{Follows}
use Rattle.fare_agreement.specs.Agreeing.{Agrees}
use Rattle.fare_agreement.specs.Growing.{StoresGrew, StoresLast}
use Rattle.fare_agreement.specs.Totals.{held_by}
use Rattle.fare_sessions.specs.declared.hub.Hub.{Hub}

-- this is the ledger of an owner
abbrev pub IsLedgerOf : {O L : Type 0} → Hub O L → ℕ → L → Type 0
IsLedgerOf hub owner x = (place : ℕ) × (position_of_owner hub.scheme owner ≡ Some place) × (slice_get hub.ledgers.items place ≡ Some x)

-- at most the ledger of an owner is another one, and the outbox
pub record ReplacesLedger {O L : Type 0} (old new : Hub O L) (owner : ℕ) : Type 0 where
  pub scheme : new.scheme ≡ old.scheme
  pub place : ℕ
  pub at : position_of_owner old.scheme owner ≡ Some place
  pub own_old : L
  pub own_new : L
  pub was : slice_get old.ledgers.items place ≡ Some own_old
  pub is : slice_get new.ledgers.items place ≡ Some own_new
  pub count : length new.ledgers.items ≡ length old.ledgers.items
  pub others : (other : ℕ) → other ≢ place → slice_get new.ledgers.items other ≡ slice_get old.ledgers.items other

-- there is one ledger for each owner
abbrev pub HasLedgers : {O L : Type 0} → Hub O L → Type 0
HasLedgers hub = length hub.ledgers.items ≡ length hub.scheme.owners

-- how many taps and statements these ledgers hold, of the scheme's devices and of the days that there are
abbrev pub held_by_all : {L : Type 0} → (L → Standing LedgerValue) → SchemeValue → List L → ℕ
held_by_all ledger sc [] = 0
held_by_all ledger sc (x ∷ xs) = held_by sc (ledger x).value + held_by_all ledger sc xs

module _ {O L : Type 0} (outbox : O → Standing OutboxValue) (ledger : L → Standing LedgerValue) where
  -- a fact of each store
  pub record EachStore (P : Standing OutboxValue → Type 0) (Q : Standing LedgerValue → Type 0) (hub : Hub O L) : Type 0 where
    pub outbox_is : P (outbox hub.outbox)
    pub ledgers_are : (place : ℕ) (x : L) → slice_get hub.ledgers.items place ≡ Some x → Q (ledger x)

  -- each has kept what was committed
  abbrev pub AreClean : Hub O L → Type 0
  AreClean hub = EachStore (λ s. s.clean) (λ s. s.clean) hub

  -- and no failure has shut one
  abbrev pub AreLive : Hub O L → Type 0
  AreLive hub = EachStore (λ s. s.live) (λ s. s.live) hub

  -- what each holds fits together, where no failure has shut it; and each owner's ledger is the owner's, made with this scheme
  pub record AreSound (hub : Hub O L) : Type 0 where
    pub lawful : EachStore (λ s. s.live → s.lawful) (λ s. s.live → s.lawful) hub
    pub own : (owner : ℕ) (x : L) → IsLedgerOf hub owner x → (ledger x).live → ((ledger x).value.owner ≡ owner) × IsOfScheme hub.scheme (ledger x).value

  -- each store followed from one: what is spoiled or shut stays so, and what fits together stays so
  pub record StoresFollow (old new : Hub O L) : Type 0 where
    pub outbox_follows : Follows (outbox old.outbox) (outbox new.outbox)
    pub count : length new.ledgers.items ≡ length old.ledgers.items
    pub ledgers_follow : (place : ℕ) (x y : L) → slice_get old.ledgers.items place ≡ Some x → slice_get new.ledgers.items place ≡ Some y → Follows (ledger x) (ledger y)

  -- the outbox and the ledgers of all owners may hold this together: what they hold while they are live, or whatever a stop now would leave
  pub record MayStandAs (hub : Hub O L) (h : StoresValue) : Type 0 where
    pub outbox_may : MayHold (outbox hub.outbox) h.outbox
    pub ledgers_may : (owner : ℕ) (x : L) → IsLedgerOf hub owner x → MayHold (ledger x) (h.ledgers owner)

  -- whatever that is, it agrees with the lists
  pub record IsAgreed (lists : ℕ → List RecordValue) (hub : Hub O L) : Type 0 where
    pub agreed : (h : StoresValue) → MayStandAs hub h → Agrees hub.scheme lists h

  -- whatever may stand now has all of something that might have stood before: no number fell, and no taken tap, statement, closed day or retired lane went
  pub record HasGrown (old new : Hub O L) : Type 0 where
    pub grown : (k : StoresValue) → MayStandAs new k → (h : StoresValue) × MayStandAs old h × StoresGrew h k

  -- the same, but for what was let go of days before the one from which on an owner's ledger holds all
  pub record HasLasted (old new : Hub O L) : Type 0 where
    pub lasted : (k : StoresValue) → MayStandAs new k → (h : StoresValue) × MayStandAs old h × StoresLast h k

  -- whatever may stand now came so of what might have stood before
  pub record ComesOf (old new : Hub O L) (R : StoresValue → StoresValue → Type 0) : Type 0 where
    pub came : AreClean new → AreSound old → (k : StoresValue) → MayStandAs new k → (h : StoresValue) × MayStandAs old h × R h k
