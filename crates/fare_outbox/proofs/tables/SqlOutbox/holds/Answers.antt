use Rattle.std.proofs.Common.{rules}
use Rattle.fare_tables.proofs.Steps.{read_failed}
use Rattle.fare_outbox.specs.Words.{stands}
use Rattle.fare_outbox.proofs.tables.SqlOutbox.holds.Goals as goal

pub returns-in-Some-clause-does : goal.returns-in-Some-clause-does
returns-in-Some-clause-does g c = search rules

pub returns-in-Some-clause-up : goal.returns-in-Some-clause-up
returns-in-Some-clause-up g c = search rules

pub returns-in-Some-clause-rows : goal.returns-in-Some-clause-rows
returns-in-Some-clause-rows g c = search rules

pub returns-in-Some-clause-statements : goal.returns-in-Some-clause-statements
returns-in-Some-clause-statements g c = search rules

pub returns-in-Some-clause-lane : goal.returns-in-Some-clause-lane
returns-in-Some-clause-lane g c = search rules

pub returns-in-None-clause-does : goal.returns-in-None-clause-does
returns-in-None-clause-does g c = search rules

pub returns-in-None-clause-up : goal.returns-in-None-clause-up
returns-in-None-clause-up g c = search rules

pub returns-in-None-clause-rows : goal.returns-in-None-clause-rows
returns-in-None-clause-rows g c = search rules

pub returns-in-None-clause-statements : goal.returns-in-None-clause-statements
returns-in-None-clause-statements g c = search rules

pub returns-in-None-clause-lane : goal.returns-in-None-clause-lane
returns-in-None-clause-lane g c = search rules

pub overflow_sub-lane : goal.overflow_sub-lane
overflow_sub-lane g c = search rules

pub row_after-requires : goal.row_after-requires
row_after-requires g c = search rules

pub returns-in_err-next-clause-does : goal.returns-in_err-next-clause-does
returns-in_err-next-clause-does g c =
    let a = stands g.S.Store c.args.self.now in
    let b = stands g.S.Store c.row_after.new.self in
    read_failed a b _ _ c.from_residual.result _ c.from_residual.ensures.1 c.in_err-next.ensures.does
