-- How much the stores have had, and how much of a session was new to them.
use Rattle.std.specs.Prelude.{ℕ, zero, suc, ◌+◌, Bool, true, List, [], ◌∷◌, length, Option, is_some, is_none, if◌then◌else◌}
use Rattle.fare_record.specs.declared.item.Item.{Item}
use Rattle.fare_record.specs.declared.item.Item.TheVariants as item
use Rattle.fare_scheme.specs.declared.entry.Placement.{Placement}
use Rattle.fare_scheme.specs.Values.{SchemeValue}
use Rattle.fare_store.specs.OutboxWords.{OutboxValue}
use Rattle.fare_store.specs.LedgerWords.{LedgerValue}
use Rattle.fare_history.specs.Serving.{given}
use Rattle.fare_history.specs.Gathering.{Entry, is_new, storing}

-- TOTALS
-- the sum over these devices
abbrev pub over : List (ℕ × Placement) → (ℕ → ℕ) → ℕ
over [] f = 0
over (d ∷ ds) f = f d.0 + over ds f

-- how many of so many days, from 0 on, are stated
abbrev pub days_stated : ℕ → (ℕ → Option ℕ) → ℕ
days_stated zero stated = 0
days_stated (suc n) stated = days_stated n stated + (if is_some (stated n) then 1 else 0)

-- the sum of the outbox's greatest links, and how many statements it holds
abbrev pub had_by : SchemeValue → OutboxValue → ℕ
had_by sc x = over sc.devices x.upto + x.stated_count

-- how many taps and statements a ledger holds, of the scheme's devices and of the days that there are, 0 to 100,000
abbrev pub held_by : SchemeValue → LedgerValue → ℕ
held_by sc l = over sc.devices (λ d. length (l.taken d) + days_stated 100001 (l.stated d))

-- WHAT IS NEW
-- how many of the entries the outbox stored, one after the other
abbrev pub stored_new : OutboxValue → List Entry → ℕ
stored_new x [] = 0
stored_new x (e ∷ es) = (if is_new x e.item then 1 else 0) + stored_new (storing x e.item) es

-- whether a ledger gets the item, where it takes each but a statement that it holds
abbrev pub is_taken_new : LedgerValue → Item → Bool
is_taken_new l (item.Tap r) = true
is_taken_new l (item.Stated v) = is_none (l.stated v.device v.day)

-- how many of the items the ledger took, one after the other
abbrev pub taken_new : LedgerValue → List Item → ℕ
taken_new l [] = 0
taken_new l (i ∷ is) = (if is_taken_new l i then 1 else 0) + taken_new (given l i) is
