-- What a plain ledger holds.
use Rattle.std.specs.Prelude.{ℕ, ◌+◌, ◌-◌, ◌++◌, nat_eq, Bool, List, replicate, Option, None, Some, is_some}
use Rattle.std.specs.HashMap as hash
use Rattle.std.specs.HashSet.{contains}
use Rattle.fare_record.specs.Values.{RecordValue}
use Rattle.fare_store.specs.declared.plain_ledger.PlainLedger.{PlainLedger}
use Rattle.fare_store.specs.LedgerWords.{LedgerValue, blank}
use Rattle.fare_store.specs.TapPlaces.{items_of, gone_in, from_in, same_day}

-- how many days are closed, by the last of them
abbrev pub days_closed : ℕ → Option ℕ → ℕ
days_closed start None = 0
days_closed start (Some last) = last + 1 - start

-- the taps that are held, behind a blank for each that was let go
abbrev pub filled : ℕ → List RecordValue → List RecordValue
filled n held = replicate n blank ++ held

-- by the owner, the first day, the known devices, the taps, the stated counts, the last closed days, the retired lanes and the days from which on all is held
abbrev pub written_in : ℕ → ℕ → (ℕ → Bool) → (ℕ → List RecordValue) → (ℕ × ℕ → Option ℕ) → (ℕ → Option ℕ) → (ℕ → Bool) → (ℕ → ℕ) → LedgerValue
written_in owner start knows taken stated closed retired from = record {
  owner = owner;
  start = start;
  knows = knows;
  taken = taken;
  stated = λ device day. stated (device, day);
  closed = λ device. days_closed start (closed device);
  retired = retired;
  from = from;
}

abbrev pub plain_ledger : PlainLedger → LedgerValue
plain_ledger l =
    written_in l.owner l.start (λ device. is_some (hash.get nat_eq l.taken device))
    (λ device. filled (gone_in (hash.get nat_eq l.gone device)) (items_of (hash.get nat_eq l.taken device))) (hash.get same_day l.stated) (hash.get nat_eq l.closed) (contains nat_eq l.retired)
    (λ device. from_in (hash.get nat_eq l.gone device))
