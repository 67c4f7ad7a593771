use Rattle.std.proofs.Common.{◌<◌, None, Some, length, get_or, set, refl, sym, ap, ◌∙◌, subst, arith}
use Rattle.std.specs.Prelude.{◌↔◌, IsTrue, Ok, Err}
use Rattle.std.proofs.lemmas.Option.{slice_get_read}
use Rattle.fare_store.specs.LedgerWords.{IsEmptyLedger}
use Rattle.fare_store.specs.Standing.{Reads}
use Rattle.fare_world.specs.Making.{AreLedgersKept}
use Rattle.fare_world.proofs.Pairs.{one_paired}
use Rattle.fare_world.proofs.Stores.{rose}
use Rattle.fare_world.proofs.Emptiness.{IsFoundEmpty, found_empty, found_other, kept_asked, asked_up_to, failed_at, not_all, all_found, empty_found, fault_is}
use Rattle.fare_world.proofs.world.judging.are_empty.Goals as goal

pub loop-ledger-preserved : goal.loop-ledger-preserved
loop-ledger-preserved g c =
    let led = g.L.Ledger.standing in
    let xs = c.loop-ledger.ledgers in
    let k = c.loop-ledger.ledger-index in
    let x = get_or xs k c.ledger-item.result in
    let y = c.is_empty.new.self in
    let within : k < length xs = omega (arith, c.loop-ledger-test.true, c.loop-ledger.invariant.count) in
    let did : Reads (led x) (led y) (λ empty. IsTrue empty ↔ IsEmptyLedger (led x).value) (Ok c.in_ok-is_empty.field-0) = c.in_ok-is_empty.ensures in
    one_paired (IsFoundEmpty led) c.args.ledgers.now xs k x y c.loop-ledger.invariant (slice_get_read xs (length xs) k c.ledger-item.result refl within c.ledger-item.is ∙ ap Some c.ledger-item.is) (found_empty led x y c.in_ok-is_empty.field-0 did c.if-not-branch.false)

pub returns-in_err-is_empty-clause-kept : goal.returns-in_err-is_empty-clause-kept
returns-in_err-is_empty-clause-kept g c =
    let led = g.L.Ledger.standing in
    let xs = c.loop-ledger.ledgers in
    let k = c.loop-ledger.ledger-index in
    let x = get_or xs k c.ledger-item.result in
    let y = c.is_empty.new.self in
    let f = c.in_err-is_empty.field-0.0 in
    let within : k < length xs = omega (arith, c.loop-ledger-test.true, c.loop-ledger.invariant.count) in
    let did : Reads (led x) (led y) (λ empty. IsTrue empty ↔ IsEmptyLedger (led x).value) (Err f) = c.in_err-is_empty.ensures in
    subst (AreLedgersKept led c.args.ledgers.now (set xs k y)) (sym (fault_is c.from_residual.result f c.from_residual.ensures.1))
    (asked_up_to led c.args.ledgers.now xs k x y (Some f) c.loop-ledger.invariant (slice_get_read xs (length xs) k c.ledger-item.result refl within c.ledger-item.is ∙ ap Some c.ledger-item.is) (kept_asked (led x) (led y) (Some f) (Unit {0}) did))

pub returns-in_err-is_empty-clause-cause : goal.returns-in_err-is_empty-clause-cause
returns-in_err-is_empty-clause-cause g c store =
    let led = g.L.Ledger.standing in
    let xs = c.loop-ledger.ledgers in
    let k = c.loop-ledger.ledger-index in
    let x = get_or xs k c.ledger-item.result in
    let y = c.is_empty.new.self in
    let f = c.in_err-is_empty.field-0.0 in
    let within : k < length xs = omega (arith, c.loop-ledger-test.true, c.loop-ledger.invariant.count) in
    let did : Reads (led x) (led y) (λ empty. IsTrue empty ↔ IsEmptyLedger (led x).value) (Err f) = c.in_err-is_empty.ensures in
    failed_at led c.args.ledgers.now xs k x y c.loop-ledger.invariant (slice_get_read xs (length xs) k c.ledger-item.result refl within c.ledger-item.is ∙ ap Some c.ledger-item.is)
    (rose (led x) (led y) (Some f) _ _ did (sym (fault_is c.from_residual.result f c.from_residual.ensures.1) ∙ store))

pub returns-then-not-branch-clause-kept : goal.returns-then-not-branch-clause-kept
returns-then-not-branch-clause-kept g c =
    let led = g.L.Ledger.standing in
    let xs = c.loop-ledger.ledgers in
    let k = c.loop-ledger.ledger-index in
    let x = get_or xs k c.ledger-item.result in
    let y = c.is_empty.new.self in
    let within : k < length xs = omega (arith, c.loop-ledger-test.true, c.loop-ledger.invariant.count) in
    let did : Reads (led x) (led y) (λ empty. IsTrue empty ↔ IsEmptyLedger (led x).value) (Ok c.in_ok-is_empty.field-0) = c.in_ok-is_empty.ensures in
    asked_up_to led c.args.ledgers.now xs k x y None c.loop-ledger.invariant (slice_get_read xs (length xs) k c.ledger-item.result refl within c.ledger-item.is ∙ ap Some c.ledger-item.is) (kept_asked (led x) (led y) None _ did)

pub returns-then-not-branch-clause-empty : goal.returns-then-not-branch-clause-empty
returns-then-not-branch-clause-empty g c live lawful =
    let led = g.L.Ledger.standing in
    let xs = c.loop-ledger.ledgers in
    let k = c.loop-ledger.ledger-index in
    let x = get_or xs k c.ledger-item.result in
    let y = c.is_empty.new.self in
    let within : k < length xs = omega (arith, c.loop-ledger-test.true, c.loop-ledger.invariant.count) in
    let did : Reads (led x) (led y) (λ empty. IsTrue empty ↔ IsEmptyLedger (led x).value) (Ok c.in_ok-is_empty.field-0) = c.in_ok-is_empty.ensures in
    (λ t. absurd (cc), λ all. absurd (not_all led c.args.ledgers.now xs k x y c.loop-ledger.invariant (slice_get_read xs (length xs) k c.ledger-item.result refl within c.ledger-item.is ∙ ap Some c.ledger-item.is) (found_other led x y c.in_ok-is_empty.field-0 did c.if-not-branch.true) live lawful all))

pub returns-clause-empty : goal.returns-clause-empty
returns-clause-empty g c live lawful =
    let led = g.L.Ledger.standing in
    (λ t. empty_found led c.args.ledgers.now c.loop-ledger.ledgers (all_found led c.args.ledgers.now c.loop-ledger.ledgers c.loop-ledger.ledger-index c.loop-ledger.invariant (omega (arith, c.loop-ledger-test.false))) live lawful, λ all. refl)
