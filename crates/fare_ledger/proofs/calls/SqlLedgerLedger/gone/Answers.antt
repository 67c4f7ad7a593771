use Rattle.std.proofs.Common.{◌≡◌, Some, None}
use Rattle.fare_store.specs.Standing.{Calls}
use Rattle.fare_store.specs.LedgerWords.{LedgerValue}
use Rattle.fare_tables.proofs.Steps.{read_then, read_failed, says}
use Rattle.fare_ledger.specs.Words.{stands, HasNumbers, IsFront}
use Rattle.fare_ledger.proofs.Judged.{read_next, read_more}
use Rattle.fare_ledger.proofs.Forgot.{upto_front}
use Rattle.fare_ledger.proofs.calls.SqlLedgerLedger.gone.Goals as goal

pub returns : goal.returns
returns g c =
    let a = stands g.S.Store c.args.self.now in
    let b = stands g.S.Store c.begin.new.self in
    let d = stands g.S.Store c.numbers_of.new.self in
    let e = stands g.S.Store c.first_kept.new.self in
    let lane = c.in_ok-lane.lane in
    let kept = c.in_ok-kept.kept in
    let device = c.args.device in
    let first : Calls a b None ((b.value ≡ a.value) × Unit {0}) (λ v. ⊥) = c.in_ok-begin.ensures.does in
    let second : Calls b d None ((d.value ≡ b.value) × HasNumbers b.value device lane) (λ v. ⊥) = c.in_ok-lane.ensures.does in
    let third : Calls d e None ((e.value ≡ d.value) × IsFront d.value device 0 kept) (λ v. ⊥) = c.in_ok-kept.ensures.does in
    let one = read_next a b d (λ (v : LedgerValue). HasNumbers v device lane) first second in
    let two = read_more a d e (λ (v : LedgerValue). HasNumbers v device lane) (λ (v : LedgerValue). IsFront v device 0 kept) one third in
    says a e None _ _ (λ v. ⊥) (λ v. ⊥) (λ lawful p. (p.0, upto_front a.value device 0 lane kept c.count_before.result c.count_before.ensures.value p.1.0 p.1.1)) (λ v none. none) two

pub returns-in_err-lane : goal.returns-in_err-lane
returns-in_err-lane g c =
    let a = stands g.S.Store c.args.self.now in
    let b = stands g.S.Store c.begin.new.self in
    let d = stands g.S.Store c.numbers_of.new.self in
    let first : Calls a b None ((b.value ≡ a.value) × Unit {0}) (λ v. ⊥) = c.in_ok-begin.ensures.does in
    read_failed a d _ _ c.from_residual-in_err-lane.result _ c.from_residual-in_err-lane.ensures.1 (read_then a b d (Unit {0}) (Unit {0}) (Some _) first c.in_err-lane.ensures.does)

pub returns-in_err-kept : goal.returns-in_err-kept
returns-in_err-kept g c =
    let a = stands g.S.Store c.args.self.now in
    let b = stands g.S.Store c.begin.new.self in
    let d = stands g.S.Store c.numbers_of.new.self in
    let e = stands g.S.Store c.first_kept.new.self in
    let lane = c.in_ok-lane.lane in
    let first : Calls a b None ((b.value ≡ a.value) × Unit {0}) (λ v. ⊥) = c.in_ok-begin.ensures.does in
    let second : Calls b d None ((d.value ≡ b.value) × HasNumbers b.value c.args.device lane) (λ v. ⊥) = c.in_ok-lane.ensures.does in
    let one = read_next a b d (λ (v : LedgerValue). HasNumbers v c.args.device lane) first second in
    read_failed a e _ _ c.from_residual-in_err-kept.result _ c.from_residual-in_err-kept.ensures.1 (read_then a d e (HasNumbers a.value c.args.device lane) (Unit {0}) (Some _) one c.in_err-kept.ensures.does)
