use Rattle.fare_store_tests.proofs.Shelved.{old_design}
use Rattle.fare_store_tests.proofs.shelf.OldShelfDesign.sound.Goals as goal

pub returns : goal.returns
returns c = record { design = old_design; older = tt }
