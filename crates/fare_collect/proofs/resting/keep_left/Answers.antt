use Rattle.std.proofs.Common.{Some, None}
use Rattle.std.specs.Result.{result_err}
use Rattle.fare_session.proofs.Takes.{handed}
use Rattle.fare_collect.specs.Resting.{HasKeptLeft}
use Rattle.fare_collect.proofs.Rested.{keeping_none, keeping_more, keeping_halt}
use Rattle.fare_collect.proofs.resting.keep_left.Goals as goal

pub loop-init : goal.loop-init
loop-init g c = (c.requires, keeping_none _ _ _ _ (g.met.O.Outbox.sound c.args.outbox.now))

pub loop-preserved : goal.loop-preserved
loop-preserved g c =
    let inv = c.loop.invariant in
    let a = g.O.Outbox.standing c.args.outbox.now in
    let b = g.O.Outbox.standing c.loop.outbox in
    let d = g.O.Outbox.standing c.keep_batch.new.outbox in
    let item = c.in-Some-next.item in (
      c.keep_batch.ensures.ended,
      keeping_more c.args.scheme.now a b d c.args.ended.now c.loop.ended c.next-in-loop.new.self c.keep_batch.new.ended item c.args.tally.now c.loop.tally c.keep_batch.new.tally None inv.1 c.in-Some-next.ensures.some c.in-Some-next.ensures.fewer
          c.in_ok-keep_batch.ensures.kept,
    )

pub returns-in_err-keep_batch-clause-kept : goal.returns-in_err-keep_batch-clause-kept
returns-in_err-keep_batch-clause-kept g c =
    let inv = c.loop.invariant in
    let a = g.O.Outbox.standing c.args.outbox.now in
    let b = g.O.Outbox.standing c.loop.outbox in
    let d = g.O.Outbox.standing c.keep_batch.new.outbox in
    let item = c.in-Some-next.item in
    let halt = c.in_err-keep_batch.field-0.0 in
    handed (λ z. HasKeptLeft c.args.scheme.now a d c.args.ended.now c.keep_batch.new.ended c.args.tally.now c.keep_batch.new.tally (result_err z)) c.from_residual.result halt c.from_residual.ensures.1
    (keeping_halt c.args.scheme.now a d c.args.ended.now c.keep_batch.new.ended c.args.tally.now c.keep_batch.new.tally halt
    (keeping_more c.args.scheme.now a b d c.args.ended.now c.loop.ended c.next-in-loop.new.self c.keep_batch.new.ended item c.args.tally.now c.loop.tally c.keep_batch.new.tally (Some halt) inv.1 c.in-Some-next.ensures.some c.in-Some-next.ensures.fewer
    c.in_err-keep_batch.ensures.kept))
