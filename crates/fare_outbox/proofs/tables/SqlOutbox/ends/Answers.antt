use Rattle.std.proofs.Common.{◌≡◌, true, sym, ◌∙◌, rules}
use Rattle.fare_tables.proofs.Steps.{read_failed}
use Rattle.fare_outbox.specs.Words.{stands}
use Rattle.fare_outbox.specs.Batches.{any_before}
use Rattle.fare_outbox.proofs.Batches.{known_end, unread}
use Rattle.fare_outbox.proofs.tables.SqlOutbox.ends.Goals as goal

pub returns-then-any_before-clause-does : goal.returns-then-any_before-clause-does
returns-then-any_before-clause-does g c =
    let a = stands g.S.Store c.args.self.now in
    let r = c.args.row.now in
    let rs = c.args.rows.now in
    let before : any_before r rs ≡ true = sym c.any_before.ensures ∙ c.if-any_before.true in
    unread a _ (λ clean. (clean, c.requires clean)) (λ yes ends. known_end a.value r rs ends before)

pub returns-in-Some-clause-does : goal.returns-in-Some-clause-does
returns-in-Some-clause-does g c = search rules

pub returns-in-Some-clause-up : goal.returns-in-Some-clause-up
returns-in-Some-clause-up g c = search rules

pub returns-in-Some-clause-rows : goal.returns-in-Some-clause-rows
returns-in-Some-clause-rows g c = search rules

pub returns-in-Some-clause-lane : goal.returns-in-Some-clause-lane
returns-in-Some-clause-lane g c = search rules

pub returns-in-None-clause-does : goal.returns-in-None-clause-does
returns-in-None-clause-does g c = search rules

pub returns-in-None-clause-up : goal.returns-in-None-clause-up
returns-in-None-clause-up g c = search rules

pub returns-in-None-clause-rows : goal.returns-in-None-clause-rows
returns-in-None-clause-rows g c = search rules

pub returns-in-None-clause-lane : goal.returns-in-None-clause-lane
returns-in-None-clause-lane g c = search rules

pub returns-then-any_before-clause-up : goal.returns-then-any_before-clause-up
returns-then-any_before-clause-up g c = search rules

pub returns-then-any_before-clause-rows : goal.returns-then-any_before-clause-rows
returns-then-any_before-clause-rows g c = search rules

pub returns-then-any_before-clause-lane : goal.returns-then-any_before-clause-lane
returns-then-any_before-clause-lane g c = search rules

pub overflow_sub-before : goal.overflow_sub-before
overflow_sub-before g c = search rules

pub row_after-requires : goal.row_after-requires
row_after-requires g c = search rules

pub returns-in_err-row_after-clause-does : goal.returns-in_err-row_after-clause-does
returns-in_err-row_after-clause-does g c =
    let a = stands g.S.Store c.args.self.now in
    let b = stands g.S.Store c.row_after.new.self in
    read_failed a b _ _ c.from_residual.result _ c.from_residual.ensures.1 c.in_err-row_after.ensures.does
