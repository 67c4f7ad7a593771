-- Why stores in files were not opened.
use Rattle.fare_store.specs.declared.fault.Fault.{Fault}
use Rattle.fare_store.specs.declared.fault.Fault.TheVariants as store
use Rattle.fare_run.specs.declared.serve_failure.ServeFailure.{ServeFailure}
use Rattle.fare_run.specs.declared.serve_failure.ServeFailure.TheVariants.{Memory, Store}

-- want of memory, or a store
abbrev pub IsOfStores : ServeFailure → Type 0
IsOfStores Memory = Unit {0}
IsOfStores Store = Unit {0}
IsOfStores _ = ⊥

-- the failure of opening stores
abbrev pub opening_failure : Fault → ServeFailure
opening_failure store.Memory = Memory
opening_failure store.Store = Store
