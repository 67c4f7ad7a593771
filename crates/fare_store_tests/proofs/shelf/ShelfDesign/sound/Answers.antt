use Rattle.fare_store_tests.proofs.Shelved.{new_design, new_older}
use Rattle.fare_store_tests.proofs.shelf.ShelfDesign.sound.Goals as goal

pub returns : goal.returns
returns c = record { design = new_design; older = new_older }
