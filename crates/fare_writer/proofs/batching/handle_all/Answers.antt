use Rattle.std.proofs.Common.{◌≡◌, ◌-◌, length, take, drop, ap, arith}
use Rattle.std.proofs.lemmas.List.{take_all, length-drop}
use Rattle.std.specs.Result.{result_err}
use Rattle.fare_session.proofs.Takes.{handed}
use Rattle.fare_writer.specs.Handling.{HasWritten}
use Rattle.fare_writer.proofs.Batches.{on_from, halted_from}
use Rattle.fare_writer.proofs.Written.{written_none}
use Rattle.fare_writer.proofs.batching.handle_all.Goals as goal

pub loop-place-init : goal.loop-place-init
loop-place-init g c = record {
  ready = c.requires.ready;
  inside = omega arith;
  room = c.requires.room;
  written = written_none c.args.floor.now.scheme.now (g.O.Outbox.standing c.args.outbox.now) c.args.tellers.now c.args.tally.now (g.met.O.Outbox.sound c.args.outbox.now);
}

pub loop-place-preserved : goal.loop-place-preserved
loop-place-preserved g c =
    let items = c.args.items.now in
    let k = c.loop-place.place in
    let inv = c.loop-place.invariant in
    let long = length-drop k items in
    let part = take (length items - k) (drop k items) in
    let is : part ≡ drop k items = take_all (length items - k) (drop k items) (omega (arith, long)) in
    let same = ap length is in
    let inside = inv.inside in
    let room = inv.room in
    let some = c.in_ok-place.ensures.some in
    let few = some.1 in
    let rows = c.handle_some.auto.rows in
    record {
      ready = c.handle_some.ensures.ready;
      inside = omega (arith, same, long, few, inside);
      room = omega (arith, room, rows);
      written = on_from c.args.floor.now.scheme.now (g.O.Outbox.standing c.args.outbox.now) (g.O.Outbox.standing c.loop-place.outbox) (g.O.Outbox.standing c.handle_some.new.outbox) items part k c.in_ok-place.field-0 c.args.tellers.now c.loop-place.tellers c.handle_some.new.tellers c.args.tally.now c.loop-place.tally c.handle_some.new.tally is inv.written c.in_ok-place.ensures.written;
    }

pub returns-in_err-place-clause-written : goal.returns-in_err-place-clause-written
returns-in_err-place-clause-written g c =
    let items = c.args.items.now in
    let k = c.loop-place.place in
    let inv = c.loop-place.invariant in
    let long = length-drop k items in
    let part = take (length items - k) (drop k items) in
    let is : part ≡ drop k items = take_all (length items - k) (drop k items) (omega (arith, long)) in
    handed (λ z. HasWritten c.args.floor.now.scheme.now (g.O.Outbox.standing c.args.outbox.now) (g.O.Outbox.standing c.handle_some.new.outbox) items c.args.tellers.now c.handle_some.new.tellers c.args.tally.now c.handle_some.new.tally (result_err z)) c.from_residual.result c.in_err-place.field-0.0 c.from_residual.ensures.1
    (halted_from c.args.floor.now.scheme.now (g.O.Outbox.standing c.args.outbox.now) (g.O.Outbox.standing c.loop-place.outbox) (g.O.Outbox.standing c.handle_some.new.outbox) items part k c.args.tellers.now c.loop-place.tellers c.handle_some.new.tellers c.args.tally.now c.loop-place.tally c.handle_some.new.tally c.in_err-place.field-0.0 is inv.written c.in_err-place.ensures.halted)
