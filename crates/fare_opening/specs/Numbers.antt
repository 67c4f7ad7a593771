-- The tables that a store has, in the order in which it makes them.
use Rattle.fare_layout.specs.declared.place.TableNumber.{TableNumber}

-- whose tables these are
abbrev pub Meta : TableNumber
Meta = record { number = 0 }

-- a row for each device
abbrev pub Device : TableNumber
Device = record { number = 1 }

-- the taps
abbrev pub Tap : TableNumber
Tap = record { number = 2 }

-- the statements
abbrev pub Stated : TableNumber
Stated = record { number = 3 }
