use Rattle.fare_ledger.proofs.Own.{ledger_design, ledger_older}
use Rattle.fare_ledger.proofs.design.LedgerDesignDesign.sound.Goals as goal

pub returns : goal.returns
returns c = record { design = ledger_design; older = ledger_older }
