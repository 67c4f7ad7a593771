-- What a forwarder hands on.
use Rattle.std.specs.Prelude.{◌≡◌, ℕ, ◌+◌, ◌<◌, ◌≤◌, ◌==◌, nat_eq, length, slice_get, is_none, if◌then◌else◌, List, Option, Some, None, option_map, option_and_then, Result, Ok, Err}
use Rattle.std.specs.HashMap.{get}
use Rattle.fare_record.specs.Limits.{IsDay}
use Rattle.fare_record.specs.declared.item.Item.{Item}
use Rattle.fare_record.specs.declared.item.Item.TheVariants.{Tap, Stated}
use Rattle.fare_scheme.specs.Values.{SchemeValue}
use Rattle.fare_scheme.specs.Words.{position_of_owner, position_of_device}
use Rattle.fare_store.specs.declared.fault.Refused.{Refused}
use Rattle.fare_store.specs.declared.fault.Refused.TheVariants as refused
use Rattle.fare_store.specs.Standing.{Standing, Calls}
use Rattle.fare_store.specs.OutboxWords.{OutboxValue, IsLeastRow, IsLeastStatement}
use Rattle.fare_route.specs.declared.cursor.Cursor.{Cursor}
use Rattle.fare_route.specs.declared.forwarder.Forwarder.{Forwarder}
use Rattle.fare_route.specs.declared.fault.StartFault.{StartFault}
use Rattle.fare_route.specs.declared.fault.StartFault.TheVariants.{UnknownOwner, Range}

-- how far the lane of a device has been handed on, none for a device that isn't in the scheme
abbrev pub cursor_of : Forwarder → ℕ → Option Cursor
cursor_of f device = get nat_eq f.cursors device

-- START
-- the first day whose statement is handed on: the one after the last closed day
abbrev pub first_day : ℕ → Option ℕ → ℕ
first_day start None = start
first_day start (Some closed) = closed + 1

-- where a ledger stands, by its count of taps and its last closed day
abbrev pub standing_at : ℕ → ℕ × Option ℕ → Cursor
standing_at start p = record { lane = p.0; day = first_day start p.1; before = None }

abbrev pub started : SchemeValue → List (ℕ × Option ℕ) → ℕ → Option Cursor
started scheme counts device = option_and_then (λ place. option_map (standing_at scheme.start) (slice_get counts place)) (position_of_device scheme device)

-- why there is no forwarder, memory apart
abbrev pub start_refusal : SchemeValue → ℕ → ℕ → Option StartFault
start_refusal scheme owner counts =
    if is_none (position_of_owner scheme owner) then Some UnknownOwner
    else (if counts == length scheme.devices then None else Some Range)

-- NEXT
-- no row of a lane stands after a lane number
abbrev pub NoRow : OutboxValue → ℕ → ℕ → ℕ → Type 0
NoRow v owner device after = (lane : ℕ) → after < lane → v.rows owner device lane ≡ None

-- the next row after the cursor, else the next statement from the cursor's day on, else nothing
abbrev pub IsNext : OutboxValue → ℕ → ℕ → Cursor → Option Item → Type 0
IsNext v owner device c None = NoRow v owner device c.lane × ((day : ℕ) → c.day ≤ day → IsDay day → v.stated owner device day ≡ None)
IsNext v owner device c (Some (Tap r)) = IsLeastRow v.rows owner device c.lane r
IsNext v owner device c (Some (Stated s)) = NoRow v owner device c.lane × IsLeastStatement v.stated owner device c.day s

-- of the outbox that is asked: an answer, and nothing changes; a refusal by name comes before it is asked
abbrev pub Asks : {V A R : Type 0} → Standing V → Standing V → (A → Type 0) → Result A (Refused R) → Type 0
Asks old new answer (Ok a) = Calls old new None ((new.value ≡ old.value) × answer a) (λ v. ⊥)
Asks old new answer (Err (refused.Because why)) = Unit {0}
Asks old new answer (Err (refused.Failed f)) = Calls old new (Some f) ((new.value ≡ old.value) × Unit {0}) (λ v. ⊥)

-- the item follows the cursor, if there is one
abbrev pub IsNextOf : OutboxValue → ℕ → ℕ → Option Cursor → Option Item → Type 0
IsNextOf v owner device None item = ⊥
IsNextOf v owner device (Some c) item = IsNext v owner device c item

-- the cursor of one device changes
abbrev pub changed : (Cursor → Cursor) → (ℕ → Option Cursor) → ℕ → ℕ → Option Cursor
changed change cursors device other = if other == device then option_map change (cursors other) else cursors other
