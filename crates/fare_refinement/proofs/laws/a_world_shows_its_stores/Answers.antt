use Rattle.fare_refinement.proofs.ShownWorlds.{outbox_shown, ledger_shown}
use Rattle.fare_refinement.proofs.laws.a_world_shows_its_stores.Goals as goal

pub returns-clause-outbox : goal.returns-clause-outbox
returns-clause-outbox c = outbox_shown

pub returns-clause-ledger : goal.returns-clause-ledger
returns-clause-ledger c = ledger_shown
