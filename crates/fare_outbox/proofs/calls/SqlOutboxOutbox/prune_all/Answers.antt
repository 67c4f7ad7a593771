use Rattle.std.proofs.Common.{◌≡◌, Ok, length, sym, ap, subst, arith}
use Rattle.std.proofs.lemmas.Bool.Decides.{nat_tests}
use Rattle.fare_store.specs.Standing.{Changes}
use Rattle.fare_store.specs.OutboxWords.{OutboxValue, pruned_all}
use Rattle.fare_tables.proofs.Steps.{change_on, change_failed, change_none}
use Rattle.fare_outbox.specs.Words.{stands}
use Rattle.fare_outbox.proofs.PrunedLanes.{no_lanes}
use Rattle.fare_outbox.proofs.calls.SqlOutboxOutbox.prune_all.Goals as goal

pub returns : goal.returns
returns g c = change_on (stands g.S.Store c.args.self.now) (stands g.S.Store c.begin.new.self) (stands g.S.Store c.cut_all.new.self) (pruned_all c.args.owner c.args.lanes.now) c.cut_all.result
    c.in_ok-begin.ensures.does c.cut_all.ensures

pub returns-in_err-begin : goal.returns-in_err-begin
returns-in_err-begin g c = change_failed (stands g.S.Store c.args.self.now) (stands g.S.Store c.begin.new.self) _ _ c.from_residual.result _ c.from_residual.ensures.1 c.in_err-begin.ensures.does

pub returns-then-is_empty : goal.returns-then-is_empty
returns-then-is_empty g c =
    let a = stands g.S.Store c.args.self.now in
    let lanes = c.args.lanes.now in
    let test = c.if-is_empty.ensures in
    let none : length lanes ≡ 0 = grind (arith, nat_tests) in
    subst (λ (done : OutboxValue). Changes a (stands g.S.Store c.begin.new.self) done (Ok (tt {0}))) (ap (λ l. pruned_all c.args.owner l a.value) (sym (no_lanes lanes none)))
    (change_none a (stands g.S.Store c.begin.new.self) _ c.in_ok-begin.ensures.does)
