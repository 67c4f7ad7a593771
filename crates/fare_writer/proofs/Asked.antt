-- A read, as calls of a session.
use Rattle.std.specs.Prelude.{◌≡◌, Result, IfOk}
use Rattle.fare_store.specs.declared.fault.Fault.{Fault}
use Rattle.fare_store.specs.Standing.{Standing, Reads, fault_of}
use Rattle.fare_store.specs.OutboxWords.{OutboxValue}
use Rattle.fare_session.proofs.StoreCalls.{called}
use Rattle.fare_writer.specs.Writing.{Asks}

pub asks_of : {A : Type 0} (a b : Standing OutboxValue) (answer : A → Type 0) (r : Result A Fault) → Reads a b answer r → Asks a b answer r
asks_of a b answer r c = called a b (fault_of r) ((b.value ≡ a.value) × IfOk r answer) (λ v. ⊥) c
