use Rattle.fare_agreement.proofs.Orders.{row_kept}
use Rattle.fare_agreement.proofs.laws.no_tap_is_lost.Goals as goal

pub returns : goal.returns
returns c = row_kept
