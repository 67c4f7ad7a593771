-- What a world is made of, and why none is made.
use Rattle.std.specs.Prelude.{◌≡◌, ◌⊎◌, ℕ, List, Option, None, Some, length, map, slice_get}
use Rattle.fare_scheme.specs.Values.{SchemeValue}
use Rattle.fare_scheme.specs.Words.{id_at}
use Rattle.fare_store.specs.declared.fault.Fault.{Fault}
use Rattle.fare_store.specs.declared.fault.Fault.TheVariants as fault
use Rattle.fare_store.specs.Standing.{Standing}
use Rattle.fare_store.specs.OutboxWords.{OutboxValue, IsEmptyOutbox}
use Rattle.fare_store.specs.LedgerWords.{LedgerValue, IsOfScheme, IsEmptyLedger}
use Rattle.fare_world.specs.declared.world.World.{World}
use Rattle.fare_world.specs.declared.world.Parts.{Parts}
use Rattle.fare_world.specs.declared.world.WorldFault.{WorldFault}
use Rattle.fare_world.specs.declared.world.WorldFault.TheVariants as world
use Rattle.fare_world.specs.Restarts.{Paired, Rose}

-- a store that was asked whether it is empty, or that was not reached: while it is live it holds what it held, a stop leaves what it could have left, which fits together as before, and its failures are counted as ever
pub record IsKept {V : Type 0} (old new : Standing V) (faulted : Option Fault) : Type 0 where
  pub same : new.live → old.lawful → new.lawful × (new.value ≡ old.value)
  pub stop : new.clean → (old.live → old.lawful) → (v : V) → new.may_leave v → old.may_leave v
  pub lasts : new.clean → (old.live → old.lawful) → old.lasting → new.lasting
  pub live : new.live → old.live
  pub clean : new.clean → old.clean
  pub stays : faulted ≡ None → old.live → new.clean → new.live
  pub counts : (faulted ≡ Some fault.Store → ⊥) → new.failures ≡ old.failures

-- what a store answered that refused, if one did
abbrev pub store_fault : WorldFault → Option Fault
store_fault world.WrongLedgers = None
store_fault world.NotEmpty = None
store_fault world.Memory = Some fault.Memory
store_fault world.Store = Some fault.Store

-- LEDGERS
module _ {L : Type 0} (ledger : L → Standing LedgerValue) where
  -- there is one ledger for each owner of the scheme, in order of registration
  pub record AreOfOwners (sc : SchemeValue) (ledgers : List L) : Type 0 where
    pub count : length ledgers ≡ length sc.owners
    pub each : (k : ℕ) (x : L) → slice_get ledgers k ≡ Some x → id_at sc.owners k ≡ Some (ledger x).value.owner

  -- a fact of each of them
  abbrev pub EachLedger : (Standing LedgerValue → Type 0) → List L → Type 0
  EachLedger Q ledgers = (k : ℕ) (x : L) → slice_get ledgers k ≡ Some x → Q (ledger x)

  abbrev pub AreLedgersKept : List L → List L → Option Fault → Type 0
  AreLedgersKept old new faulted = Paired (λ x y. IsKept (ledger x) (ledger y) faulted) old new

  -- one whose count of failures rose
  pub record LedgerFailed (old new : List L) : Type 0 where
    pub place : ℕ
    pub before : L
    pub now : L
    pub was : slice_get old place ≡ Some before
    pub is : slice_get new place ≡ Some now
    pub rose : Rose (ledger before).failures (ledger now).failures

-- ALL STORES
module _ {O L : Type 0} (outbox : O → Standing OutboxValue) (ledger : L → Standing LedgerValue) where
  -- a fact of the outbox, and one of each ledger
  pub record EachOf (P : Standing OutboxValue → Type 0) (Q : Standing LedgerValue → Type 0) (o : O) (ledgers : List L) : Type 0 where
    pub outbox_is : P (outbox o)
    pub ledgers_are : EachLedger ledger Q ledgers

  abbrev pub AllLive : O → List L → Type 0
  AllLive = EachOf (λ s. s.live) (λ s. s.live)

  abbrev pub AllLawful : O → List L → Type 0
  AllLawful = EachOf (λ s. s.lawful) (λ s. s.lawful)

  abbrev pub AllEmpty : O → List L → Type 0
  AllEmpty = EachOf (λ s. IsEmptyOutbox s.value) (λ s. IsEmptyLedger s.value)

  pub record AreKept (old : O) (olds : List L) (new : O) (news : List L) (faulted : Option Fault) : Type 0 where
    pub outbox_is : IsKept (outbox old) (outbox new) faulted
    pub ledgers_are : AreLedgersKept ledger olds news faulted

  -- some store's count of failures rose
  abbrev pub SomeFailed : O → List L → O → List L → Type 0
  SomeFailed old olds new news = Rose (outbox old).failures (outbox new).failures ⊎ LedgerFailed ledger olds news

  -- as far as they are live, the stores are lawful, and each ledger was made with this scheme
  pub record IsReady (sc : SchemeValue) (o : O) (ledgers : List L) : Type 0 where
    pub outbox_is : (outbox o).live → (outbox o).lawful
    pub ledgers_are : EachLedger ledger (λ s. s.live → s.lawful) ledgers
    pub made : EachLedger ledger (λ s. IsOfScheme sc s.value) ledgers

  -- each owner has its ledger, and as far as the stores are live and were lawful, all of them are empty
  pub record MayBeMade (sc : SchemeValue) (old : O) (olds : List L) (new : O) (news : List L) : Type 0 where
    pub owned : AreOfOwners ledger sc olds
    pub stores : AreKept old olds new news None
    pub empty : AllLive new news → AllLawful old olds → AllEmpty old olds

  -- why there is no world
  abbrev pub WhyRefused : SchemeValue → O → List L → O → List L → WorldFault → Type 0
  WhyRefused sc old olds new news world.WrongLedgers = AreOfOwners ledger sc olds → ⊥
  WhyRefused sc old olds new news world.NotEmpty = AreOfOwners ledger sc olds × (AllLive new news → AllLawful old olds → AllEmpty old olds → ⊥)
  WhyRefused sc old olds new news world.Memory = AreOfOwners ledger sc olds
  WhyRefused sc old olds new news world.Store = AreOfOwners ledger sc olds × SomeFailed old olds new news

  -- what is handed back where there is none
  pub record IsRefused (sc : SchemeValue) (o : O) (ledgers : List L) (parts : Parts O L) (f : WorldFault) : Type 0 where
    pub scheme : parts.scheme ≡ sc
    pub stores : AreKept o ledgers parts.outbox parts.ledgers.items (store_fault f)
    pub why : WhyRefused sc o ledgers parts.outbox parts.ledgers.items f

  -- a world of these stores
  abbrev pub IsMadeOf : SchemeValue → O → List L → World O L → Type 0
  IsMadeOf sc o ledgers w = MayBeMade sc o ledgers w.outbox (map (λ x. x.ledger) w.owners.items)
