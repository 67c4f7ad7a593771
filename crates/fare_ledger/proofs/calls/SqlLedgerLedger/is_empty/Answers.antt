use Rattle.std.proofs.Common.{◌≡◌, Some, None}
use Rattle.std.specs.Prelude.{IsTrue, ◌↔◌}
use Rattle.fare_store.specs.Standing.{Calls}
use Rattle.fare_store.specs.LedgerWords.{LedgerValue}
use Rattle.fare_tables.proofs.Steps.{read_then, read_failed, says}
use Rattle.fare_ledger.specs.Words.{stands, AreUnbegun, AreUncut, AreUnstated, AreUnretired}
use Rattle.fare_ledger.proofs.Judged.{read_next, read_more}
use Rattle.fare_ledger.proofs.Empty.{empty_is}
use Rattle.fare_ledger.proofs.calls.SqlLedgerLedger.is_empty.Goals as goal

pub returns : goal.returns
returns g c =
    let a = stands g.S.Store c.args.self.now in
    let b = stands g.S.Store c.begin.new.self in
    let d = stands g.S.Store c.none_begun.new.self in
    let e = stands g.S.Store c.none_cut.new.self in
    let f = stands g.S.Store c.no_statements.new.self in
    let h = stands g.S.Store c.none_retired.new.self in
    let x = c.in_ok-unbegun.unbegun in
    let y = c.in_ok-uncut.uncut in
    let z = c.in_ok-unstated.unstated in
    let first : Calls a b None ((b.value ≡ a.value) × Unit {0}) (λ v. ⊥) = c.in_ok-begin.ensures.does in
    let second : Calls b d None ((d.value ≡ b.value) × (IsTrue x ↔ AreUnbegun b.value)) (λ v. ⊥) = c.in_ok-unbegun.ensures.does in
    let third : Calls d e None ((e.value ≡ d.value) × (IsTrue y ↔ AreUncut d.value)) (λ v. ⊥) = c.in_ok-uncut.ensures.does in
    let fourth : Calls e f None ((f.value ≡ e.value) × (IsTrue z ↔ AreUnstated e.value)) (λ v. ⊥) = c.in_ok-unstated.ensures.does in
    let P : LedgerValue → Type 0 = λ v. IsTrue x ↔ AreUnbegun v in
    let Q : LedgerValue → Type 0 = λ v. IsTrue y ↔ AreUncut v in
    let R : LedgerValue → Type 0 = λ v. IsTrue z ↔ AreUnstated v in
    let one = read_next a b d P first second in
    let two = read_more a d e P Q one third in
    let three = read_more a e f (λ v. P v × Q v) R two fourth in
    let t = c.in_ok-unretired.unretired in
    let fifth : Calls f h None ((h.value ≡ f.value) × (IsTrue t ↔ AreUnretired f.value)) (λ v. ⊥) = c.in_ok-unretired.ensures.does in
    let T : LedgerValue → Type 0 = λ v. IsTrue t ↔ AreUnretired v in
    let four = read_more a f h (λ v. (P v × Q v) × R v) T three fifth in
    says a h None _ _ (λ v. ⊥) (λ v. ⊥) (λ lawful p. (p.0, empty_is a.value x y z t c.are_nothing.result p.1.0.0.0 p.1.0.0.1 p.1.0.1 p.1.1 c.are_nothing.ensures)) (λ v none. none) four

pub returns-in_err-unretired : goal.returns-in_err-unretired
returns-in_err-unretired g c =
    let a = stands g.S.Store c.args.self.now in
    let b = stands g.S.Store c.begin.new.self in
    let d = stands g.S.Store c.none_begun.new.self in
    let e = stands g.S.Store c.none_cut.new.self in
    let f = stands g.S.Store c.no_statements.new.self in
    let h = stands g.S.Store c.none_retired.new.self in
    let x = c.in_ok-unbegun.unbegun in
    let y = c.in_ok-uncut.uncut in
    let z = c.in_ok-unstated.unstated in
    let first : Calls a b None ((b.value ≡ a.value) × Unit {0}) (λ v. ⊥) = c.in_ok-begin.ensures.does in
    let second : Calls b d None ((d.value ≡ b.value) × (IsTrue x ↔ AreUnbegun b.value)) (λ v. ⊥) = c.in_ok-unbegun.ensures.does in
    let third : Calls d e None ((e.value ≡ d.value) × (IsTrue y ↔ AreUncut d.value)) (λ v. ⊥) = c.in_ok-uncut.ensures.does in
    let fourth : Calls e f None ((f.value ≡ e.value) × (IsTrue z ↔ AreUnstated e.value)) (λ v. ⊥) = c.in_ok-unstated.ensures.does in
    let P : LedgerValue → Type 0 = λ v. IsTrue x ↔ AreUnbegun v in
    let Q : LedgerValue → Type 0 = λ v. IsTrue y ↔ AreUncut v in
    let R : LedgerValue → Type 0 = λ v. IsTrue z ↔ AreUnstated v in
    let one = read_next a b d P first second in
    let two = read_more a d e P Q one third in
    let three = read_more a e f (λ v. P v × Q v) R two fourth in
    read_failed a h _ _ c.from_residual-in_err-unretired.result _ c.from_residual-in_err-unretired.ensures.1 (read_then a f h ((P a.value × Q a.value) × R a.value) (Unit {0}) (Some _) three c.in_err-unretired.ensures.does)

pub returns-in_err-unbegun : goal.returns-in_err-unbegun
returns-in_err-unbegun g c =
    let a = stands g.S.Store c.args.self.now in
    let b = stands g.S.Store c.begin.new.self in
    let d = stands g.S.Store c.none_begun.new.self in
    let first : Calls a b None ((b.value ≡ a.value) × Unit {0}) (λ v. ⊥) = c.in_ok-begin.ensures.does in
    read_failed a d _ _ c.from_residual-in_err-unbegun.result _ c.from_residual-in_err-unbegun.ensures.1 (read_then a b d (Unit {0}) (Unit {0}) (Some _) first c.in_err-unbegun.ensures.does)

pub returns-in_err-uncut : goal.returns-in_err-uncut
returns-in_err-uncut g c =
    let a = stands g.S.Store c.args.self.now in
    let b = stands g.S.Store c.begin.new.self in
    let d = stands g.S.Store c.none_begun.new.self in
    let e = stands g.S.Store c.none_cut.new.self in
    let x = c.in_ok-unbegun.unbegun in
    let first : Calls a b None ((b.value ≡ a.value) × Unit {0}) (λ v. ⊥) = c.in_ok-begin.ensures.does in
    let second : Calls b d None ((d.value ≡ b.value) × (IsTrue x ↔ AreUnbegun b.value)) (λ v. ⊥) = c.in_ok-unbegun.ensures.does in
    let P : LedgerValue → Type 0 = λ v. IsTrue x ↔ AreUnbegun v in
    let one = read_next a b d P first second in
    read_failed a e _ _ c.from_residual-in_err-uncut.result _ c.from_residual-in_err-uncut.ensures.1 (read_then a d e (P a.value) (Unit {0}) (Some _) one c.in_err-uncut.ensures.does)

pub returns-in_err-unstated : goal.returns-in_err-unstated
returns-in_err-unstated g c =
    let a = stands g.S.Store c.args.self.now in
    let b = stands g.S.Store c.begin.new.self in
    let d = stands g.S.Store c.none_begun.new.self in
    let e = stands g.S.Store c.none_cut.new.self in
    let f = stands g.S.Store c.no_statements.new.self in
    let x = c.in_ok-unbegun.unbegun in
    let y = c.in_ok-uncut.uncut in
    let first : Calls a b None ((b.value ≡ a.value) × Unit {0}) (λ v. ⊥) = c.in_ok-begin.ensures.does in
    let second : Calls b d None ((d.value ≡ b.value) × (IsTrue x ↔ AreUnbegun b.value)) (λ v. ⊥) = c.in_ok-unbegun.ensures.does in
    let third : Calls d e None ((e.value ≡ d.value) × (IsTrue y ↔ AreUncut d.value)) (λ v. ⊥) = c.in_ok-uncut.ensures.does in
    let P : LedgerValue → Type 0 = λ v. IsTrue x ↔ AreUnbegun v in
    let Q : LedgerValue → Type 0 = λ v. IsTrue y ↔ AreUncut v in
    let two = read_more a d e P Q (read_next a b d P first second) third in
    read_failed a f _ _ c.from_residual-in_err-unstated.result _ c.from_residual-in_err-unstated.ensures.1 (read_then a e f (P a.value × Q a.value) (Unit {0}) (Some _) two c.in_err-unstated.ensures.does)
