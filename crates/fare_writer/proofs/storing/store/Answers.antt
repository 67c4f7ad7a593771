use Rattle.std.proofs.Common.{◌∙◌, sym}
use Rattle.fare_writer.specs.Counting.{Counts}
use Rattle.fare_writer.proofs.Told.{written_halt, written_full}
use Rattle.fare_writer.proofs.Handled.{when_noted, counted_new, counted_old}
use Rattle.fare_writer.proofs.storing.store.Goals.{then-new, else-new}
use Rattle.fare_writer.proofs.storing.store.Goals as goal

pub returns-after-new-clause-stored : goal.returns-after-new-clause-stored
returns-after-new-clause-stored g c =
    let sc = c.args.scheme.now in
    let item = c.args.item.now in
    let n0 = c.args.tally.now in
    let n1 = c.if-new.tally in
    let new = c.in-Ok.new in
    let notes = when_noted c.note.result _ (sym c.is_err.ensures.value ∙ c.if-is_err.false) c.note.ensures.ok in
    let counts : Counts sc item n0 n1 new = elim c.if-new.branch [
      | then-new w ↦ counted_new sc item n0 c.note.new.self w.count.new.self n1 new notes c.note.ensures.stored w.if-new.true w.count.ensures.stored w.count.ensures.days w.tally-is
      | else-new w ↦ counted_old sc item n0 c.note.new.self n1 new notes c.note.ensures.stored w.if-new.false w.tally-is
    ] in
    (c.in-Ok.ensures, counts)

pub returns-in-Err-clause-halted : goal.returns-in-Err-clause-halted
returns-in-Err-clause-halted g c =
    record { each = λ t. written_halt c.args.scheme.now (g.O.Outbox.standing c.args.outbox.now) (g.O.Outbox.standing c.put_item.new.outbox) c.args.item.now t c.args.tally.now c.note.new.self c.in-Err.fault c.note.ensures.stored (g.met.O.Outbox.sound c.args.outbox.now) c.in-Err.ensures }

pub returns-then-is_err-clause-halted : goal.returns-then-is_err-clause-halted
returns-then-is_err-clause-halted g c =
    record { each = λ t. written_full c.args.scheme.now (g.O.Outbox.standing c.args.outbox.now) c.args.item.now t c.args.tally.now c.note.new.self c.note.ensures.stored (g.met.O.Outbox.sound c.args.outbox.now) }
