-- A route that is 0 is the last fault that a body can have.
use Rattle.std.proofs.Common.{◌≡◌, Bool, true, false, if◌then◌else◌, Some, None, refl}
use Rattle.fare_record.specs.Bodies.{first_fault}
use Rattle.fare_record.specs.declared.fault.RecordFault.TheVariants.{ZeroRoute}

pub last_fault : (id number day route : Bool) → first_fault id number day false ≡ None → first_fault id number day route ≡ (if route then Some ZeroRoute else None)
last_fault true number day route none = absurd cc
last_fault false true day route none = absurd cc
last_fault false false true route none = absurd cc
last_fault false false false route none = refl
