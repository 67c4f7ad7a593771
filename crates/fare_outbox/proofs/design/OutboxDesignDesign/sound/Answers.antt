use Rattle.fare_outbox.proofs.Own.{outbox_design, outbox_older}
use Rattle.fare_outbox.proofs.design.OutboxDesignDesign.sound.Goals as goal

pub returns : goal.returns
returns c = record { design = outbox_design; older = outbox_older }
