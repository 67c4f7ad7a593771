use Rattle.std.proofs.Common.{◌≡◌, ◌+◌, ◌&&◌, nat_le, nat_lt, true, Some, None, sym, ap, ◌∙◌}
use Rattle.fare_owner.specs.TapJudged.{tap_judged}
use Rattle.fare_store.specs.Standing.{Calls}
use Rattle.fare_store.specs.LedgerWords.{LedgerValue}
use Rattle.fare_record.specs.Values.{TapValue}
use Rattle.fare_tables.proofs.Steps.{read_then, read_failed}
use Rattle.fare_ledger.specs.Words.{stands, HasNumbers}
use Rattle.fare_ledger.proofs.Judged.{read_next, tap_read, tap_answer, judged_ok, judged_err}
use Rattle.fare_ledger.proofs.tables.SqlLedger.judge_take.Goals as goal

pub returns-in_err-lane-clause-does : goal.returns-in_err-lane-clause-does
returns-in_err-lane-clause-does g c =
    let a = stands g.S.Store c.args.self.now in
    let b = stands g.S.Store c.begin.new.self in
    let d = stands g.S.Store c.numbers_of.new.self in
    let first : Calls a b None ((b.value ≡ a.value) × Unit {0}) (λ v. ⊥) = c.in_ok-begin.ensures.does in
    read_failed a d _ _ c.from_residual-in_err-lane.result _ c.from_residual-in_err-lane.ensures.1 (read_then a b d (Unit {0}) (Unit {0}) (Some _) first c.in_err-lane.ensures.does)

pub returns-in_err-retired-clause-does : goal.returns-in_err-retired-clause-does
returns-in_err-retired-clause-does g c =
    let a = stands g.S.Store c.args.self.now in
    let b = stands g.S.Store c.begin.new.self in
    let d = stands g.S.Store c.numbers_of.new.self in
    let e = stands g.S.Store c.retired_of.new.self in
    let r = c.args.row.now in
    let lane = c.in_ok-lane.lane in
    let first : Calls a b None ((b.value ≡ a.value) × Unit {0}) (λ v. ⊥) = c.in_ok-begin.ensures.does in
    let second : Calls b d None ((d.value ≡ b.value) × HasNumbers b.value r.device lane) (λ v. ⊥) = rw c.device.ensures at c.in_ok-lane.ensures.does in
    let one = read_next a b d (λ (v : LedgerValue). HasNumbers v r.device lane) first second in
    read_failed a e _ _ c.from_residual-in_err-retired.result _ c.from_residual-in_err-retired.ensures.1 (read_then a d e (HasNumbers a.value r.device lane) (Unit {0}) (Some _) one c.in_err-retired.ensures.does)

pub returns-in-Ok-clause-does : goal.returns-in-Ok-clause-does
returns-in-Ok-clause-does g c =
    let a = stands g.S.Store c.args.self.now in
    let b = stands g.S.Store c.begin.new.self in
    let d = stands g.S.Store c.numbers_of.new.self in
    let e = stands g.S.Store c.retired_of.new.self in
    let r = c.args.row.now in
    let lane = c.in_ok-lane.lane in
    let retired = c.in_ok-retired.retired in
    let first : Calls a b None ((b.value ≡ a.value) × Unit {0}) (λ v. ⊥) = c.in_ok-begin.ensures.does in
    let second : Calls b d None ((d.value ≡ b.value) × HasNumbers b.value r.device lane) (λ v. ⊥) = rw c.device.ensures at c.in_ok-lane.ensures.does in
    let third : Calls d e None ((e.value ≡ d.value) × (retired ≡ d.value.retired r.device)) (λ v. ⊥) = rw c.device-2.ensures at c.in_ok-retired.ensures.does in
    let closed : c.is_closed-closed.result ≡ (nat_le a.value.start r.tap.day && nat_lt r.tap.day (a.value.start + lane.closed)) = c.is_closed-closed.ensures ∙ ap (λ y. nat_le a.value.start y && nat_lt y (a.value.start + lane.closed)) (c.day.ensures ∙ ap (λ (t : TapValue). t.day) c.tap.ensures) in
    judged_ok a e r lane retired (λ found. c.in-Ok.ensures.judged ∙ ap (λ n. tap_judged true lane.taken c.is_closed-closed.result n retired) c.lane.ensures.value ∙ tap_answer a.value r lane true c.is_closed-closed.result retired (sym c.requires.mine) closed found)
    (tap_read a b d e r.device lane retired first second third)

pub returns-in-Err-clause-does : goal.returns-in-Err-clause-does
returns-in-Err-clause-does g c =
    let a = stands g.S.Store c.args.self.now in
    let b = stands g.S.Store c.begin.new.self in
    let d = stands g.S.Store c.numbers_of.new.self in
    let e = stands g.S.Store c.retired_of.new.self in
    let r = c.args.row.now in
    let lane = c.in_ok-lane.lane in
    let retired = c.in_ok-retired.retired in
    let first : Calls a b None ((b.value ≡ a.value) × Unit {0}) (λ v. ⊥) = c.in_ok-begin.ensures.does in
    let second : Calls b d None ((d.value ≡ b.value) × HasNumbers b.value r.device lane) (λ v. ⊥) = rw c.device.ensures at c.in_ok-lane.ensures.does in
    let third : Calls d e None ((e.value ≡ d.value) × (retired ≡ d.value.retired r.device)) (λ v. ⊥) = rw c.device-2.ensures at c.in_ok-retired.ensures.does in
    let closed : c.is_closed-closed.result ≡ (nat_le a.value.start r.tap.day && nat_lt r.tap.day (a.value.start + lane.closed)) = c.is_closed-closed.ensures ∙ ap (λ y. nat_le a.value.start y && nat_lt y (a.value.start + lane.closed)) (c.day.ensures ∙ ap (λ (t : TapValue). t.day) c.tap.ensures) in
    judged_err a e r lane retired c.in-Err.why (λ found. c.in-Err.ensures.judged ∙ ap (λ n. tap_judged true lane.taken c.is_closed-closed.result n retired) c.lane.ensures.value ∙ tap_answer a.value r lane true c.is_closed-closed.result retired (sym c.requires.mine) closed found)
    (tap_read a b d e r.device lane retired first second third)
