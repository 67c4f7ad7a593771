-- What is said by an answer that may be refused by name.
use Rattle.std.specs.Prelude.{Result, Ok, Err}
use Rattle.fare_store.specs.declared.fault.Refused.{Refused}
use Rattle.fare_store.specs.declared.fault.Refused.TheVariants as refused

-- what an answer says, or a refusal by name; a fault says nothing
abbrev pub Answered : {V R : Type 0} → (Result V R → Type 0) → Result V (Refused R) → Type 0
Answered tells (Ok answer) = tells (Ok answer)
Answered tells (Err (refused.Because why)) = tells (Err why)
Answered tells (Err (refused.Failed f)) = Unit {0}
