-- Which days are closed, the first device whose day is open, and the retired devices of which a day is short.
use Rattle.std.specs.Prelude.{ℕ, ◌+◌, ◌&&◌, ◌||◌, not, Bool, false, List, [], ◌∷◌, Option, Some, None, Result, Ok, Err, if◌then◌else◌, nat_le, nat_lt}
use Rattle.fare_scheme.specs.declared.entry.Placement.{Placement}
use Rattle.fare_side.specs.declared.bill_fault.BillFault.{BillFault}
use Rattle.fare_side.specs.declared.bill_fault.BillFault.TheVariants as fault

-- the day is one of so many from the start day on
abbrev pub is_closed : ℕ → ℕ → ℕ → Bool
is_closed start closed day = nat_le start day && nat_lt day (start + closed)

-- a last closed day is this day or a later one
abbrev pub reaches : Option ℕ → ℕ → Bool
reaches None day = false
reaches (Some last) day = nat_le day last

-- the first of these devices, of each of which so many days are closed, whose day is not, and whose lane isn't retired
abbrev pub first_open : ℕ → (ℕ → ℕ) → (ℕ → Bool) → ℕ → List (ℕ × Placement) → Option ℕ
first_open start closed retired day [] = None
first_open start closed retired day (d ∷ ds) = if is_closed start (closed d.0) day || retired d.0 then first_open start closed retired day ds else Some d.0

-- those whose lane is retired, and whose day is not closed
abbrev pub short_devices : ℕ → (ℕ → ℕ) → (ℕ → Bool) → ℕ → List (ℕ × Placement) → List ℕ
short_devices start closed retired day [] = []
short_devices start closed retired day (d ∷ ds) = if retired d.0 && not (is_closed start (closed d.0) day) then d.0 ∷ short_devices start closed retired day ds else short_devices start closed retired day ds

-- whether a day may be billed, where this is the first device whose day is open, or why not
abbrev pub where_open : Option ℕ → Result Unit BillFault
where_open None = Ok tt
where_open (Some device) = Err (fault.NotClosed device)
