use Rattle.std.proofs.Common.{arith}
use Rattle.fare_kept.proofs.Listed.{reads_scheme, puts_scheme, clears_scheme, reads_zone, puts_zone, clears_zone, reads_owner, puts_owner, clears_owner, reads_operator, puts_operator, clears_operator, reads_station, puts_station, clears_station, reads_product, puts_product, clears_product, reads_device, puts_device, clears_device}
use Rattle.fare_kept.proofs.lists.kept_lists.Goals as goal

pub returns-clause-listed : goal.returns-clause-listed
returns-clause-listed c = (record { reads = reads_scheme; puts = puts_scheme; clears = clears_scheme }, (omega arith, (omega arith, (omega arith, (omega arith, (omega arith, (omega arith, tt)))))), (record { reads = reads_zone; puts = puts_zone; clears = clears_zone }, (omega arith, (omega arith, (omega arith, (omega arith, (omega arith, tt))))), (record { reads = reads_owner; puts = puts_owner; clears = clears_owner }, (omega arith, (omega arith, (omega arith, (omega arith, tt)))), (record { reads = reads_operator; puts = puts_operator; clears = clears_operator }, (omega arith, (omega arith, (omega arith, tt))), (record { reads = reads_station; puts = puts_station; clears = clears_station }, (omega arith, (omega arith, tt)), (record { reads = reads_product; puts = puts_product; clears = clears_product }, (omega arith, tt), (record { reads = reads_device; puts = puts_device; clears = clears_device }, tt, tt)))))))
