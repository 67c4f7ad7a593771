use Rattle.fare_kept.proofs.Own.{kept_design}
use Rattle.fare_kept.proofs.design.KeptDesignDesign.sound.Goals as goal

pub returns : goal.returns
returns c = record { design = kept_design; older = tt }
