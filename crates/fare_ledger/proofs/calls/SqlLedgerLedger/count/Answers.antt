use Rattle.std.proofs.Common.{◌≡◌, Some, None}
use Rattle.fare_store.specs.Standing.{Calls}
use Rattle.fare_tables.proofs.Steps.{read_then, read_failed, says}
use Rattle.fare_ledger.specs.Words.{stands, HasNumbers}
use Rattle.fare_ledger.proofs.Judged.{read_next}
use Rattle.fare_ledger.proofs.calls.SqlLedgerLedger.count.Goals as goal

pub returns : goal.returns
returns g c =
    let a = stands g.S.Store c.args.self.now in
    let b = stands g.S.Store c.begin.new.self in
    let d = stands g.S.Store c.numbers_of.new.self in
    let lane = c.in_ok-lane.lane in
    let device = c.args.device in
    let first : Calls a b None ((b.value ≡ a.value) × Unit {0}) (λ v. ⊥) = c.in_ok-begin.ensures.does in
    let second : Calls b d None ((d.value ≡ b.value) × HasNumbers b.value device lane) (λ v. ⊥) = c.in_ok-lane.ensures.does in
    says a d None _ _ (λ v. ⊥) (λ v. ⊥) (λ lawful p. (p.0, p.1.taken)) (λ v none. none) (read_next a b d (λ v. HasNumbers v device lane) first second)

pub returns-in_err-lane : goal.returns-in_err-lane
returns-in_err-lane g c =
    let a = stands g.S.Store c.args.self.now in
    let b = stands g.S.Store c.begin.new.self in
    let d = stands g.S.Store c.numbers_of.new.self in
    let first : Calls a b None ((b.value ≡ a.value) × Unit {0}) (λ v. ⊥) = c.in_ok-begin.ensures.does in
    read_failed a d _ _ c.from_residual-in_err-lane.result _ c.from_residual-in_err-lane.ensures.1 (read_then a b d (Unit {0}) (Unit {0}) (Some _) first c.in_err-lane.ensures.does)
