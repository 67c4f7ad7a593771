-- What the stores of a live hub hold, together.
use Rattle.std.proofs.Common.{◌≡◌, ℕ, Some, length, refl, sym, ap, ◌∙◌, inl}
use Rattle.std.specs.Prelude.{None, slice_get}
use Rattle.fare_scheme.specs.Facts.{IsScheme}
use Rattle.fare_scheme.specs.Values.{SchemeValue}
use Rattle.fare_scheme.specs.Words.{id_at, position_of_owner}
use Rattle.fare_scheme.proofs.Known.{positions}
use Rattle.fare_store.specs.Standing.{Standing}
use Rattle.fare_store.specs.OutboxWords.{OutboxValue}
use Rattle.fare_store.specs.LedgerWords.{LedgerValue}
use Rattle.fare_history.specs.Stores.{StoresValue}
use Rattle.fare_history.proofs.Entries.{element_at}
use Rattle.fare_sessions.specs.declared.hub.Hub.{Hub}
use Rattle.fare_sessions.specs.Stores.{AreLive, HasLedgers, MayStandAs}
use Rattle.fare_sessions.proofs.Follow.{same_at}
use Rattle.fare_databases.proofs.Owners.{by_owner, by_owner_is, by_owner_none, place_within}

module _ {O L : Type 0} (outbox : O → Standing OutboxValue) (ledger : L → Standing LedgerValue) (sc : SchemeValue) (valid : IsScheme sc) (hub : Hub O L) (same : hub.scheme ≡ sc) (count : HasLedgers hub) (any : StoresValue) where
  -- the ledger at an owner's place
  ledger_at : (place owner : ℕ) → id_at sc.owners place ≡ Some owner → (x : L) × (slice_get hub.ledgers.items place ≡ Some x)
  ledger_at place owner at = element_at hub.ledgers.items place (place_within sc hub.ledgers.items (count ∙ ap (λ (s : SchemeValue). length s.owners) same) place owner at)

  abbrev held_at : (place owner : ℕ) → id_at sc.owners place ≡ Some owner → LedgerValue
  held_at place owner at = (ledger (ledger_at place owner at).0).value

  pub now_all : StoresValue
  now_all = record { outbox = (outbox hub.outbox).value; ledgers = by_owner sc valid any.ledgers held_at }

  now_is : (place owner : ℕ) → id_at sc.owners place ≡ Some owner → (x : L) → slice_get hub.ledgers.items place ≡ Some x → now_all.ledgers owner ≡ (ledger x).value
  unfolding now_all
  now_is place owner at =
      by_owner_is sc valid any.ledgers held_at (λ place owner v. (x : L) → slice_get hub.ledgers.items place ≡ Some x → v ≡ (ledger x).value)
      (λ place owner at x here. let y = ledger_at place owner at in ap (λ z. (ledger z).value) (same_at hub.ledgers.items hub.ledgers.items place x y.0 here y.1 refl))
      place owner at

  pub stands_now : AreLive outbox ledger hub → MayStandAs outbox ledger hub now_all
  unfolding now_all
  stands_now live = record {
    outbox_may = inl (live.outbox_is, refl);
    ledgers_may = λ owner x of. inl (live.ledgers_are of.0 x of.2, now_is of.0 owner (((positions sc valid).owners owner of.0).0 (ap (λ s. position_of_owner s owner) (sym same) ∙ of.1)) x of.2);
  }

  -- of an owner who isn't registered, nothing else
  pub unknown_now : (owner : ℕ) → position_of_owner sc owner ≡ None → now_all.ledgers owner ≡ any.ledgers owner
  unfolding now_all
  unknown_now owner unknown = by_owner_none sc valid any.ledgers held_at owner unknown
