use Rattle.std.proofs.Common.{◌∷◌, Some, None, List, refl, sym, subst, ◌∙◌}
use Rattle.std.specs.Prelude.{Result}
use Rattle.std.specs.Result.{result_err}
use Rattle.fare_inbox_queue.specs.declared.arrived.Arrived.{Arrived}
use Rattle.fare_inbox_queue.specs.InboxPasses.{taken_list}
use Rattle.fare_writer.specs.declared.halt.Halt.{Halt}
use Rattle.fare_writer.specs.Handling.{HasWritten}
use Rattle.fare_writer.proofs.Written.{written_none, written_then}
use Rattle.fare_writer.proofs.Batches.{taken_behind}
use Rattle.fare_collect.proofs.writing.write_all.Goals as goal

pub loop-init : goal.loop-init
loop-init g c = (
  c.requires.queue.0,
  refl,
  c.requires.ready,
  subst (λ (l : List Arrived). HasWritten c.args.floor.now.scheme.now (g.O.Outbox.standing c.args.outbox.now) (g.O.Outbox.standing c.args.outbox.now) l c.args.tellers.now c.args.tellers.now c.args.tally.now c.args.tally.now None) (sym c.requires.queue.1)
      (written_none _ _ _ _ (g.met.O.Outbox.sound c.args.outbox.now)),
)

pub returns-in-Err-clause-written : goal.returns-in-Err-clause-written
returns-in-Err-clause-written g c =
    let inv = c.loop.invariant in
    let item = c.in-Some-take.item in
    let batch = c.handle_batch.ensures.written in
    let took = taken_behind c.loop.writer c.take.new.pass c.handle_batch.new.writer item batch.more c.in-Some-take.ensures.some batch.took in
    let a = g.O.Outbox.standing c.args.outbox.now in
    let b = g.O.Outbox.standing c.loop.outbox in
    let d = g.O.Outbox.standing c.handle_batch.new.outbox in
    subst (λ (l : List Arrived). HasWritten c.args.floor.now.scheme.now a d l c.args.tellers.now c.handle_batch.new.tellers c.args.tally.now c.handle_batch.new.tally (Some c.in-Err.halt)) (sym took)
    (written_then c.args.floor.now.scheme.now a b d (taken_list c.loop.writer) (item ∷ batch.more) c.args.tellers.now c.loop.tellers c.handle_batch.new.tellers c.args.tally.now c.loop.tally c.handle_batch.new.tally (Some c.in-Err.halt) inv.3
    (subst (λ (h : Result (Unit {0}) Halt). HasWritten c.args.floor.now.scheme.now b d (item ∷ batch.more) c.loop.tellers c.handle_batch.new.tellers c.loop.tally c.handle_batch.new.tally (result_err h)) c.in-Err.is batch.written))

pub loop-preserved-in_default : goal.loop-preserved-in_default
loop-preserved-in_default g c =
    let inv = c.loop.invariant in
    let item = c.in-Some-take.item in
    let batch = c.handle_batch.ensures.written in
    let took = taken_behind c.loop.writer c.take.new.pass c.handle_batch.new.writer item batch.more c.in-Some-take.ensures.some batch.took in
    let a = g.O.Outbox.standing c.args.outbox.now in
    let b = g.O.Outbox.standing c.loop.outbox in
    let d = g.O.Outbox.standing c.handle_batch.new.outbox in (
      c.handle_batch.ensures.queue.0,
      c.handle_batch.ensures.queue.1 ∙ (c.take.ensures.stations ∙ inv.1),
      c.handle_batch.ensures.ready,
      subst (λ (l : List Arrived). HasWritten c.args.floor.now.scheme.now a d l c.args.tellers.now c.handle_batch.new.tellers c.args.tally.now c.handle_batch.new.tally None) (sym took)
          (written_then c.args.floor.now.scheme.now a b d (taken_list c.loop.writer) (item ∷ batch.more) c.args.tellers.now c.loop.tellers c.handle_batch.new.tellers c.args.tally.now c.loop.tally c.handle_batch.new.tally None inv.3
          (subst (λ (h : Result (Unit {0}) Halt). HasWritten c.args.floor.now.scheme.now b d (item ∷ batch.more) c.loop.tellers c.handle_batch.new.tellers c.loop.tally c.handle_batch.new.tally (result_err h)) c.in_default.is batch.written)),
    )
