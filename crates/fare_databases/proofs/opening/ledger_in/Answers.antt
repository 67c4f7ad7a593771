use Rattle.sqlite.specs.Held.{state}
use Rattle.fare_databases.proofs.Staying.{ledger_stays}
use Rattle.fare_databases.proofs.opening.ledger_in.Goals as goal

pub returns-in-Ok-clause-opened : goal.returns-in-Ok-clause-opened
returns-in-Ok-clause-opened g c =
    let it = c.in-Ok.ensures in
    record {
      own = it.owner;
      scheme = it.scheme;
      alive = it.alive;
      made = it.made;
      kept = it.kept;
      raised = it.raised;
      ours = it.ours;
      again = λ clean w left. let found = it.again clean w left in (it.alive clean, found.0, found.1);
      raised_again = λ clean o has v left. let found = it.raised_again clean o has v left in (it.alive clean, found.0, found.1);
      failures = it.failures;
    }

pub returns-in-Err-default-Memory-clause-stays : goal.returns-in-Err-default-Memory-clause-stays
returns-in-Err-default-Memory-clause-stays g c =
    ledger_stays c.args.scheme.now c.args.owner (state g.S.Store c.args.database) (state g.S.Store c.in-Err-default-Memory.database) c.in-Err-default-Memory.ensures.crash_refused

pub returns-in-Err-default-UnknownOwner : goal.returns-in-Err-default-UnknownOwner
returns-in-Err-default-UnknownOwner g c =
    record { opened = tt; stays = ledger_stays c.args.scheme.now c.args.owner (state g.S.Store c.args.database) (state g.S.Store c.in-Err-default-UnknownOwner.database) c.in-Err-default-UnknownOwner.ensures.crash_refused }
