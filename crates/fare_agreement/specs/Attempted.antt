-- What a close, a retire and a letting go make of what a ledger may hold, where the call may have failed.
use Rattle.std.specs.Prelude.{◌≡◌, ◌⊎◌, ℕ}
use Rattle.fare_store.specs.LedgerWords.{LedgerValue, with_close, with_retired, forgotten}
use Rattle.fare_history.specs.Stores.{MayClose, MayRetire, MayForget}

-- the ledger m is l, or l with one day of the device more closed, where l may close it
abbrev pub IsClosedFrom : ℕ → ℕ → LedgerValue → LedgerValue → Type 0
IsClosedFrom device day l m = (m ≡ l) ⊎ (MayClose l device day × (m ≡ with_close device l))

-- the ledger m is l, or l with its lane of the device retired, where it wasn't
abbrev pub IsRetiredFrom : ℕ → LedgerValue → LedgerValue → Type 0
IsRetiredFrom device l m = (m ≡ l) ⊎ (MayRetire l device × (m ≡ with_retired device l))

-- the ledger m is l, or l with what is of the device's days before this one let go, where l may let it go
abbrev pub IsForgottenFrom : ℕ → ℕ → LedgerValue → LedgerValue → Type 0
IsForgottenFrom device day l m = (m ≡ l) ⊎ (MayForget l device day × (m ≡ forgotten device day l))
