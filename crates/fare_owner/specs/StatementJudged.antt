-- What an owner answers to a statement.
use Rattle.std.specs.Prelude.{ℕ, ◌==◌, Bool, true, false, Option, None, Some, if◌then◌else◌, Result, Ok, Err}
use Rattle.fare_owner.specs.declared.statement.StatementFault.{StatementFault}
use Rattle.fare_owner.specs.declared.statement.StatementFault.TheVariants.{NotMine, Retired, Repeated, Conflict}

-- the first refusal that applies, by whose statement it is, the count held for that day, the count stated, and whether the lane is retired
abbrev pub statement_judged : Bool → Option ℕ → ℕ → Bool → Result Unit StatementFault
statement_judged false held count retired = Err NotMine
statement_judged true held count true = Err Retired
statement_judged true None count false = Ok tt
statement_judged true (Some stated) count false = if stated == count then Err Repeated else Err Conflict
