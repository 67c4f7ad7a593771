use Rattle.std.proofs.Common.{◌≡◌, ◌∷◌, []}
use Rattle.std.specs.Prelude.{IfErr}
use Rattle.std.specs.Result.{result_err}
use Rattle.fare_session.proofs.Takes.{handed}
use Rattle.fare_writer.specs.Keeping.{HasKept}
use Rattle.fare_writer.proofs.Handled.{written_untold}
use Rattle.fare_writer.proofs.keeping.keep.Goals as goal

pub returns-clause-kept : goal.returns-clause-kept
returns-clause-kept g c = record { each = λ t. written_untold c.args.scheme.now (g.O.Outbox.standing c.args.outbox.now) (g.O.Outbox.standing c.store.new.outbox) c.args.item c.in_ok-store.field-0 t c.args.tally.now c.store.new.tally (g.met.O.Outbox.sound c.store.new.outbox) c.in_ok-store.ensures.stored.0 c.in_ok-store.ensures.stored.1 }

pub returns-in_err-store-clause-kept : goal.returns-in_err-store-clause-kept
returns-in_err-store-clause-kept g c =
    let a = g.O.Outbox.standing c.args.outbox.now in
    let b = g.O.Outbox.standing c.store.new.outbox in
    handed (λ z. HasKept c.args.scheme.now a b (c.args.item ∷ []) c.args.tally.now c.store.new.tally (result_err z)) c.from_residual.result c.in_err-store.field-0.0 c.from_residual.ensures.1 c.in_err-store.ensures.halted

pub returns-in_err-store-clause-alone : goal.returns-in_err-store-clause-alone
returns-in_err-store-clause-alone g c = handed (λ z. IfErr z (λ halt. halt.behind ≡ 0)) c.from_residual.result c.in_err-store.field-0.0 c.from_residual.ensures.1 c.in_err-store.ensures.alone
