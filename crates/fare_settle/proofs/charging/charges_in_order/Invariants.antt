use Rattle.std.proofs.Common.{take}
use Rattle.fare_cap.specs.RidesWords.{rides_by}
use Rattle.fare_settle.proofs.ChargeSteps.{AreCharges}
use Rattle.fare_settle.proofs.charging.charges_in_order.Given as goal

abbrev pub invariant-loop-tap : goal.invariant-loop-tap
invariant-loop-tap l = AreCharges l.scheme l.ordered (take l.tap-index l.ordered) l.day (rides_by l.so_far) l.charges.items
