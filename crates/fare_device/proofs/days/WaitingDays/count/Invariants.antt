use Rattle.std.proofs.Common.{◌≡◌, drop, nat_eq}
use Rattle.std.specs.Map.{lookup}
use Rattle.fare_device.proofs.days.WaitingDays.count.Given as goal

-- the day isn't one of those that were seen
abbrev pub invariant-loop-kept : goal.invariant-loop-kept
invariant-loop-kept l = lookup (nat_eq l.fn.day) (drop l.kept-index l.kept-items) ≡ lookup (nat_eq l.fn.day) l.kept-items
