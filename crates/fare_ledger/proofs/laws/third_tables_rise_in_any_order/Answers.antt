use Rattle.fare_ledger.proofs.ThirdRise.{any_third_rises}
use Rattle.fare_ledger.proofs.laws.third_tables_rise_in_any_order.Goals as goal

pub returns : goal.returns
returns c = any_third_rises
