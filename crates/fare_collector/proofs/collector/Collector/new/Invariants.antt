use Rattle.std.proofs.Common.{◌≡◌, ℕ, nat_eq}
use Rattle.std.specs.Prelude.{option_map}
use Rattle.std.specs.HashMap.{get}
use Rattle.fare_link.specs.Values.{ReceiverValue}
use Rattle.fare_collector.proofs.Making.{up_to}
use Rattle.fare_collector.proofs.collector.Collector.new.Given as goal

abbrev pub invariant-loop-device : goal.invariant-loop-device
invariant-loop-device l = (device : ℕ) → option_map (λ (r : ReceiverValue). r.next) (get nat_eq l.receivers device) ≡ up_to l.scheme l.station l.device-index device
