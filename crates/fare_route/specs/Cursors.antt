-- How far a lane has been handed on.
use Rattle.std.specs.Prelude.{ℕ, ◌+◌, Option, Some, None}
use Rattle.fare_record.specs.declared.item.Item.{Item}
use Rattle.fare_record.specs.declared.item.Item.TheVariants.{Tap, Stated}
use Rattle.fare_route.specs.declared.cursor.Cursor.{Cursor}

-- behind what is handed on, at this lane number and day
abbrev pub passed : ℕ → ℕ → Cursor → Cursor
passed lane day c = record { lane = lane; day = day; before = Some (c.lane, c.day) }

-- with nothing to undo
abbrev pub stayed : Cursor → Cursor
stayed c = record { lane = c.lane; day = c.day; before = None }

-- behind an item that is handed on, if there is one
abbrev pub moved : Option Item → Cursor → Cursor
moved None c = stayed c
moved (Some (Tap r)) c = passed r.lane c.day c
moved (Some (Stated s)) c = passed c.lane (s.day + 1) c

abbrev pub back_to : Option (ℕ × ℕ) → Cursor → Cursor
back_to None c = c
back_to (Some b) c = record { lane = b.0; day = b.1; before = None }

-- before the last step, if it handed something on and wasn't undone
abbrev pub undone : Cursor → Cursor
undone c = back_to c.before c
