use Rattle.std.proofs.Common.{◌≡◌, ◌+◌, ℕ}
use Rattle.fare_collector.specs.Collecting.{next_in}
use Rattle.fare_side.specs.Resuming.{upto_at}
use Rattle.fare_side.proofs.Resuming.{resumed_to}
use Rattle.fare_side.proofs.station.Station.resume_all.Given as goal

abbrev pub invariant-loop-place : goal.invariant-loop-place
invariant-loop-place l = record {
  nexts : (device : ℕ) → next_in l.self.collector device ≡ resumed_to l.scheme (λ d. upto_at l.scheme l.uptos d + 1) (next_in l.fn.self.collector) l.place device;
  station : l.self.collector.station ≡ l.fn.self.collector.station;
  line : l.self.line ≡ l.fn.self.line;
}
