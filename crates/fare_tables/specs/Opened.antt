-- Why an open fails, by the call that failed in it.
use Rattle.fare_store.specs.declared.fault.Fault.{Fault}
use Rattle.fare_store.specs.declared.fault.Fault.TheVariants as fault
use Rattle.fare_tables.specs.declared.opening.OpenFault.{OpenFault}
use Rattle.fare_tables.specs.declared.opening.OpenFault.TheVariants as opening

abbrev pub opening_fault : Fault → OpenFault
opening_fault fault.Memory = opening.Memory
opening_fault fault.Store = opening.Store
