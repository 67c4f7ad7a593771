use Rattle.std.proofs.Common.{arith}
use Rattle.fare_growth.proofs.Named.{count_is}
use Rattle.fare_growth.proofs.registered.entry_count.Goals as goal

pub returns : goal.returns
returns c = let count = count_is c.args.scheme.now in omega (arith, count)
