use Rattle.std.proofs.Common.{rules}
use Rattle.fare_tables.proofs.Steps.{read_failed}
use Rattle.fare_outbox.specs.Words.{stands}
use Rattle.fare_outbox.proofs.tables.SqlOutbox.held_count.Goals as goal

pub returns-then-get-clause-does : goal.returns-then-get-clause-does
returns-then-get-clause-does g c = search rules

pub returns-then-get-clause-up : goal.returns-then-get-clause-up
returns-then-get-clause-up g c = search rules

pub returns-then-get-clause-rows : goal.returns-then-get-clause-rows
returns-then-get-clause-rows g c = search rules

pub returns-then-get-clause-statements : goal.returns-then-get-clause-statements
returns-then-get-clause-statements g c = search rules

pub returns-else-get-clause-does : goal.returns-else-get-clause-does
returns-else-get-clause-does g c = search rules

pub returns-else-get-clause-up : goal.returns-else-get-clause-up
returns-else-get-clause-up g c = search rules

pub returns-else-get-clause-rows : goal.returns-else-get-clause-rows
returns-else-get-clause-rows g c = search rules

pub returns-else-get-clause-statements : goal.returns-else-get-clause-statements
returns-else-get-clause-statements g c = search rules

pub returns-in-None-clause-does : goal.returns-in-None-clause-does
returns-in-None-clause-does g c = search rules

pub returns-in-None-clause-up : goal.returns-in-None-clause-up
returns-in-None-clause-up g c = search rules

pub returns-in-None-clause-rows : goal.returns-in-None-clause-rows
returns-in-None-clause-rows g c = search rules

pub returns-in-None-clause-statements : goal.returns-in-None-clause-statements
returns-in-None-clause-statements g c = search rules

pub returns-in_err-next-clause-does : goal.returns-in_err-next-clause-does
returns-in_err-next-clause-does g c =
    let a = stands g.S.Store c.args.self.now in
    let b = stands g.S.Store c.statement_from.new.self in
    read_failed a b _ _ c.from_residual.result _ c.from_residual.ensures.1 c.in_err-next.ensures.does
