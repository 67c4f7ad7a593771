use Rattle.std.proofs.Common.{refl}
use Rattle.fare_outbox.proofs.design.OutboxDesignDesign.older.Goals as goal

pub returns : goal.returns
returns c = (record { meta = refl; format = refl; tables = refl; missing = refl; texts = refl; moving = refl; unused = refl }, tt)
