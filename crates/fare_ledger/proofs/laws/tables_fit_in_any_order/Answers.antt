use Rattle.fare_ledger.proofs.AllOrders.{any_order}
use Rattle.fare_ledger.proofs.laws.tables_fit_in_any_order.Goals as goal

pub returns : goal.returns
returns c = any_order
