use Rattle.std.proofs.Common.{rules, ◌≡◌, ◌+◌, ◌-◌, ◌<◌, ◌≤◌, ◌∷◌, suc, true, None, Ok, List, length, take, drop, sym, ap, subst, ◌∙◌, arith}
use Rattle.std.proofs.lemmas.List.{take_all, drop_more, length-drop}
use Rattle.fare_record.specs.Values.{RecordValue}
use Rattle.fare_store.specs.Standing.{Calls}
use Rattle.fare_store.specs.LedgerWords.{is_mine, take_judged, took}
use Rattle.fare_tables.proofs.Steps.{first_failed}
use Rattle.fare_ledger.specs.Words.{stands, JudgesTap}
use Rattle.fare_ledger.specs.Batches.{AreFollowing, AreTakable}
use Rattle.fare_ledger.proofs.Batches.{begin_failed, run_takable, written_all, written_failed}
use Rattle.fare_ledger.proofs.calls.SqlLedgerLedger.take_all.Goals as goal

pub returns-in_err-begin-clause-does : goal.returns-in_err-begin-clause-does
returns-in_err-begin-clause-does g c = begin_failed (stands g.S.Store c.args.self.now) (stands g.S.Store c.begin.new.self) c.args.rows.now c.from_residual.result _ (Unit {0}) c.from_residual.ensures.1 c.in_err-begin.ensures.does

pub returns-in_err-begin-2-clause-does : goal.returns-in_err-begin-2-clause-does
returns-in_err-begin-2-clause-does g c = begin_failed (stands g.S.Store c.args.self.now) (stands g.S.Store c.begin-then-not-is_mine.new.self) c.args.rows.now c.from_residual-in_err-begin-2.result _ (Unit {0}) c.from_residual-in_err-begin-2.ensures.1 c.in_err-begin-2.ensures.does

pub returns-in_err-closed-clause-does : goal.returns-in_err-closed-clause-does
returns-in_err-closed-clause-does g c = begin_failed (stands g.S.Store c.args.self.now) (stands g.S.Store c.judge_take.new.self) c.args.rows.now c.from_residual-in_err-closed.result _ (Unit {0}) c.from_residual-in_err-closed.ensures.1 c.in_err-closed.ensures.does

pub returns-clause-does : goal.returns-clause-does
returns-clause-does g c =
    let a = stands g.S.Store c.args.self.now in
    let b = stands g.S.Store c.judge_take.new.self in
    let d = stands g.S.Store c.put_taps.new.self in
    let rows = c.args.rows.now in
    let first = c.index-rows-0.result in
    let closed = c.in-Ok.closed in
    let m = c.run_of-count.result in
    let few = c.run_of-count.ensures.few in
    let l = length-drop 1 rows in
    let some : 0 < length rows = search rules in
    let at : rows ≡ first ∷ drop 1 rows = drop_more rows 0 first some ∙ ap (λ x. x ∷ drop 1 rows) (sym c.index-rows-0.is) in
    let whole : take (length rows - 1) (drop 1 rows) ≡ drop 1 rows = take_all (length rows - 1) (drop 1 rows) (omega (arith, l)) in
    let mine : is_mine a.value first.owner first.device ≡ true = (λ i. is_mine a.value (sym c.owner.ensures i) (sym c.device.ensures i)) ∙ (sym c.is_mine.ensures ∙ c.if-not-is_mine.false) in
    let run : AreFollowing a.value.start closed first 1 (take m (drop 1 rows)) = subst (λ (l : List RecordValue). AreFollowing a.value.start closed first 1 (take m l)) whole c.run_of-count.ensures.run in
    let one : m + 1 ≡ suc m = omega arith in
    let head : take (m + 1) rows ≡ first ∷ take m (drop 1 rows) = ap (take (m + 1)) at ∙ ap (λ n. take n (first ∷ drop 1 rows)) one in
    let P : Type 0 = JudgesTap a.value first (Ok closed) in
    let judged : Calls a b None ((b.value ≡ a.value) × P) (λ v. ⊥) = rw c.in-Ok.is at c.in_ok-closed.ensures.does in
    let short : length (take (length rows - 1) (drop 1 rows)) ≡ length (drop 1 rows) = ap length whole in
    let low : m + 1 ≤ length rows = omega (arith, few, l, short, some) in
    written_all a b d rows (m + 1) closed P low (λ e. omega (arith, e)) (λ p. subst (AreTakable a.value closed) (sym head) (run_takable a.value closed first (take m (drop 1 rows)) mine p run)) judged c.in_ok-put_taps.ensures

pub returns-in_err-put_taps-clause-does : goal.returns-in_err-put_taps-clause-does
returns-in_err-put_taps-clause-does g c =
    let a = stands g.S.Store c.args.self.now in
    let b = stands g.S.Store c.judge_take.new.self in
    let d = stands g.S.Store c.put_taps.new.self in
    let rows = c.args.rows.now in
    let first = c.index-rows-0.result in
    let closed = c.in-Ok.closed in
    let m = c.run_of-count.result in
    let few = c.run_of-count.ensures.few in
    let l = length-drop 1 rows in
    let some : 0 < length rows = search rules in
    let at : rows ≡ first ∷ drop 1 rows = drop_more rows 0 first some ∙ ap (λ x. x ∷ drop 1 rows) (sym c.index-rows-0.is) in
    let whole : take (length rows - 1) (drop 1 rows) ≡ drop 1 rows = take_all (length rows - 1) (drop 1 rows) (omega (arith, l)) in
    let mine : is_mine a.value first.owner first.device ≡ true = (λ i. is_mine a.value (sym c.owner.ensures i) (sym c.device.ensures i)) ∙ (sym c.is_mine.ensures ∙ c.if-not-is_mine.false) in
    let run : AreFollowing a.value.start closed first 1 (take m (drop 1 rows)) = subst (λ (l : List RecordValue). AreFollowing a.value.start closed first 1 (take m l)) whole c.run_of-count.ensures.run in
    let one : m + 1 ≡ suc m = omega arith in
    let head : take (m + 1) rows ≡ first ∷ take m (drop 1 rows) = ap (take (m + 1)) at ∙ ap (λ n. take n (first ∷ drop 1 rows)) one in
    let P : Type 0 = JudgesTap a.value first (Ok closed) in
    let judged : Calls a b None ((b.value ≡ a.value) × P) (λ v. ⊥) = rw c.in-Ok.is at c.in_ok-closed.ensures.does in
    let short : length (take (length rows - 1) (drop 1 rows)) ≡ length (drop 1 rows) = ap length whole in
    let low : m + 1 ≤ length rows = omega (arith, few, l, short, some) in
    first_failed take_judged took a d rows c.from_residual-in_err-put_taps.result c.in_err-put_taps.field-0.0 c.from_residual-in_err-put_taps.ensures.1
    (written_failed a b d rows (m + 1) closed c.in_err-put_taps.field-0.0 P low (λ p. subst (AreTakable a.value closed) (sym head) (run_takable a.value closed first (take m (drop 1 rows)) mine p run)) judged c.in_err-put_taps.ensures)
