use Rattle.fare_ledger.proofs.AnyRise.{any_second_rises}
use Rattle.fare_ledger.proofs.laws.second_tables_rise_in_any_order.Goals as goal

pub returns : goal.returns
returns c = any_second_rises
