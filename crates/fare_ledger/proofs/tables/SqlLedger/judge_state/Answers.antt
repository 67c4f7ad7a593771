use Rattle.std.proofs.Common.{◌≡◌, true, Some, None, sym, ap, ◌∙◌}
use Rattle.fare_owner.specs.StatementJudged.{statement_judged}
use Rattle.fare_store.specs.Standing.{Calls}
use Rattle.fare_store.specs.LedgerWords.{LedgerValue}
use Rattle.fare_tables.proofs.Steps.{read_then, read_failed}
use Rattle.fare_ledger.specs.Words.{stands}
use Rattle.fare_ledger.proofs.Judged.{read_next, stated_read, state_answer}
use Rattle.fare_ledger.proofs.tables.SqlLedger.judge_state.Goals as goal

pub returns-in_err-held-clause-does : goal.returns-in_err-held-clause-does
returns-in_err-held-clause-does g c =
    let a = stands g.S.Store c.args.self.now in
    let b = stands g.S.Store c.begin.new.self in
    let d = stands g.S.Store c.stated_of.new.self in
    let first : Calls a b None ((b.value ≡ a.value) × Unit {0}) (λ v. ⊥) = c.in_ok-begin.ensures.does in
    read_failed a d _ _ c.from_residual-in_err-held.result _ c.from_residual-in_err-held.ensures.1 (read_then a b d (Unit {0}) (Unit {0}) (Some _) first c.in_err-held.ensures.does)

pub returns-in_err-retired-clause-does : goal.returns-in_err-retired-clause-does
returns-in_err-retired-clause-does g c =
    let a = stands g.S.Store c.args.self.now in
    let b = stands g.S.Store c.begin.new.self in
    let d = stands g.S.Store c.stated_of.new.self in
    let e = stands g.S.Store c.retired_of.new.self in
    let s = c.args.statement.now in
    let held = c.in_ok-held.held in
    let first : Calls a b None ((b.value ≡ a.value) × Unit {0}) (λ v. ⊥) = c.in_ok-begin.ensures.does in
    let second : Calls b d None ((d.value ≡ b.value) × (held ≡ b.value.stated s.device s.day)) (λ v. ⊥) = rw (c.device.ensures, c.day.ensures) at c.in_ok-held.ensures.does in
    let one = read_next a b d (λ (v : LedgerValue). held ≡ v.stated s.device s.day) first second in
    read_failed a e _ _ c.from_residual-in_err-retired.result _ c.from_residual-in_err-retired.ensures.1 (read_then a d e (held ≡ a.value.stated s.device s.day) (Unit {0}) (Some _) one c.in_err-retired.ensures.does)

pub returns-clause-does : goal.returns-clause-does
returns-clause-does g c =
    let a = stands g.S.Store c.args.self.now in
    let b = stands g.S.Store c.begin.new.self in
    let d = stands g.S.Store c.stated_of.new.self in
    let e = stands g.S.Store c.retired_of.new.self in
    let s = c.args.statement.now in
    let held = c.in_ok-held.held in
    let retired = c.in_ok-retired.retired in
    let first : Calls a b None ((b.value ≡ a.value) × Unit {0}) (λ v. ⊥) = c.in_ok-begin.ensures.does in
    let second : Calls b d None ((d.value ≡ b.value) × (held ≡ b.value.stated s.device s.day)) (λ v. ⊥) = rw (c.device.ensures, c.day.ensures) at c.in_ok-held.ensures.does in
    let third : Calls d e None ((e.value ≡ d.value) × (retired ≡ d.value.retired s.device)) (λ v. ⊥) = rw c.device-2.ensures at c.in_ok-retired.ensures.does in
    state_answer a e s true held retired c.judge_statement.result (sym c.requires.mine) (c.judge_statement.ensures.judged ∙ ap (λ n. statement_judged true held n retired) c.count.ensures.value)
    (stated_read a b d e s.device s.day held retired first second third)
