-- The stores of a hub, and what its sessions make of them.
use Rattle.std.specs.Prelude.{◌≡◌, ℕ, Ok, List, [], ◌∷◌}
use Rattle.fare_store.specs.Tables.{put}
use Rattle.fare_store.specs.OutboxWords.{OutboxValue, without_statements}
use Rattle.fare_store.specs.LedgerWords.{LedgerValue, with_close, close_of, with_retired, retire_of, forget_judged, forgotten}
use Rattle.fare_history.specs.Serving.{given_all, pruned_to_all, Service}
use Rattle.fare_history.specs.Gathering.{Gathering, storing_all}

-- the outbox, and the ledger of each owner
pub record StoresValue : Type 0 where
  pub outbox : OutboxValue
  pub ledgers : ℕ → LedgerValue

-- the ledger refuses the close of the device's day by no name
abbrev pub MayClose : LedgerValue → ℕ → ℕ → Type 0
MayClose l device day = close_of l device day ≡ Ok tt

-- nor that its lane of the device is retired
abbrev pub MayRetire : LedgerValue → ℕ → Type 0
MayRetire l device = retire_of l device ≡ Ok tt

-- the ledger refuses by no name to let go of what is of the device's days before this one
abbrev pub MayForget : LedgerValue → ℕ → ℕ → Type 0
MayForget l device day = forget_judged l device day ≡ Ok tt

-- what a hub does from session to session: a session of the stations and the writer, one of an owner, the close of an owner's day of a device, the end of its lane of one, or the letting go of what is of the device's days before one, of its ledger and of the outbox's statements
pub data Session : Type 0 where
  Collects : Gathering → Session
  Serves_owner : ℕ → Service → Session
  Closes_day : ℕ → ℕ → ℕ → Session
  Retires_lane : ℕ → ℕ → Session
  Forgets : ℕ → ℕ → ℕ → Session

-- the stores whose ledger of an owner let go what is of the device's days before this one, and whose outbox did not
abbrev pub forgotten_by_ledger : ℕ → ℕ → ℕ → StoresValue → StoresValue
forgotten_by_ledger owner device day h = record h { ledgers = put h.ledgers owner (forgotten device day (h.ledgers owner)) }

-- what a session makes of the stores
abbrev pub stores_after : StoresValue → Session → StoresValue
stores_after h (Collects g) = record h { outbox = storing_all h.outbox g.entries }
stores_after h (Serves_owner owner v) = record {
  outbox = pruned_to_all h.outbox owner (given_all (h.ledgers owner) v.taken) v.pruned;
  ledgers = put h.ledgers owner (given_all (h.ledgers owner) v.taken);
}
stores_after h (Closes_day owner device day) = record h { ledgers = put h.ledgers owner (with_close device (h.ledgers owner)) }
stores_after h (Retires_lane owner device) = record h { ledgers = put h.ledgers owner (with_retired device (h.ledgers owner)) }
stores_after h (Forgets owner device day) = record {
  outbox = without_statements owner device day h.outbox;
  ledgers = put h.ledgers owner (forgotten device day (h.ledgers owner));
}

-- and what sessions do, one after the other
abbrev pub stores_after_all : StoresValue → List Session → StoresValue
stores_after_all h [] = h
stores_after_all h (q ∷ qs) = stores_after_all (stores_after h q) qs
