use Rattle.fare_outbox.proofs.AnyRise.{any_rises}
use Rattle.fare_outbox.proofs.laws.first_tables_rise_in_any_order.Goals as goal

pub returns : goal.returns
returns c = any_rises
