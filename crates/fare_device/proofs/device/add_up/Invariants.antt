use Rattle.std.proofs.Common.{◌≡◌, ◌+◌, take}
use Rattle.std.specs.List.{sum}
use Rattle.fare_device.proofs.device.add_up.Given as goal

abbrev pub invariant-loop-count : goal.invariant-loop-count
invariant-loop-count l = sum (take l.count-index l.fn.counts) + l.left ≡ l.fn.total
