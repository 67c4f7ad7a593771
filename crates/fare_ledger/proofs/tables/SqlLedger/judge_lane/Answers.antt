use Rattle.std.proofs.Common.{◌≡◌, true, Some, None, sym}
use Rattle.fare_store.specs.Standing.{Calls}
use Rattle.fare_store.specs.LedgerWords.{LedgerValue}
use Rattle.fare_tables.proofs.Steps.{read_then, read_failed}
use Rattle.fare_ledger.specs.Words.{stands}
use Rattle.fare_ledger.proofs.Judged.{read_next, lane_answer}
use Rattle.fare_ledger.proofs.tables.SqlLedger.judge_lane.Goals as goal

pub returns-in_err-retired-clause-does : goal.returns-in_err-retired-clause-does
returns-in_err-retired-clause-does g c =
    let a = stands g.S.Store c.args.self.now in
    let b = stands g.S.Store c.begin.new.self in
    let d = stands g.S.Store c.retired_of.new.self in
    let first : Calls a b None ((b.value ≡ a.value) × Unit {0}) (λ v. ⊥) = c.in_ok-begin.ensures.does in
    read_failed a d _ _ c.from_residual-in_err-retired.result _ c.from_residual-in_err-retired.ensures.1 (read_then a b d (Unit {0}) (Unit {0}) (Some _) first c.in_err-retired.ensures.does)

pub returns-clause-does : goal.returns-clause-does
returns-clause-does g c =
    let a = stands g.S.Store c.args.self.now in
    let b = stands g.S.Store c.begin.new.self in
    let d = stands g.S.Store c.retired_of.new.self in
    let retired = c.in_ok-retired.retired in
    let first : Calls a b None ((b.value ≡ a.value) × Unit {0}) (λ v. ⊥) = c.in_ok-begin.ensures.does in
    let second : Calls b d None ((d.value ≡ b.value) × (retired ≡ b.value.retired c.args.device)) (λ v. ⊥) = c.in_ok-retired.ensures.does in
    lane_answer a d c.args.device true retired c.judge_retire.result (sym c.requires.mine) c.judge_retire.ensures.judged
    (read_next a b d (λ (v : LedgerValue). retired ≡ v.retired c.args.device) first second)
