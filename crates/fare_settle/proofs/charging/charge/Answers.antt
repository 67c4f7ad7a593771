use Rattle.std.proofs.Common.{◌≤◌, ◌*◌, arith}
use Rattle.std.proofs.lemmas.Nat.{mul-le}
use Rattle.fare_settle.proofs.charging.charge.Goals as goal

pub overflow_sub-min : goal.overflow_sub-min
overflow_sub-min c =
    let tariff = c.in-Some-Some.tariff in
    let fares : tariff.fare * c.args.before ≤ tariff.fare * c.args.after = mul-le tariff.fare c.args.before tariff.fare c.args.after (omega arith) c.requires.grows in
    omega (arith, fares)
