use Rattle.std.proofs.Common.{◌≡◌, ◌-◌, length, take, drop, ap, arith}
use Rattle.std.proofs.lemmas.List.{take_all, length-drop}
use Rattle.std.specs.Result.{result_err}
use Rattle.fare_session.proofs.Takes.{handed}
use Rattle.fare_writer.specs.Keeping.{HasKept}
use Rattle.fare_writer.proofs.Batches.{on_from, halted_from}
use Rattle.fare_writer.proofs.Written.{written_none}
use Rattle.fare_writer.proofs.keeping.keep_all.Goals as goal

pub loop-place-init : goal.loop-place-init
loop-place-init g c = record {
  inside = omega arith;
  room = c.requires.room;
  kept = record { each = λ t. written_none c.args.scheme.now (g.O.Outbox.standing c.args.outbox.now) t c.args.tally.now (g.met.O.Outbox.sound c.args.outbox.now) };
}

pub loop-place-preserved : goal.loop-place-preserved
loop-place-preserved g c =
    let items = c.args.items.now in
    let k = c.loop-place.place in
    let inv = c.loop-place.invariant in
    let long = length-drop k items in
    let part = take (length items - k) (drop k items) in
    let is : part ≡ drop k items = take_all (length items - k) (drop k items) (omega (arith, long)) in
    let same = ap length is in
    let inside = inv.inside in
    let room = inv.room in
    let some = c.in_ok-place.ensures.some in
    let few = some.1 in
    let rows = c.keep_some.auto.rows in
    let before = inv.kept in
    let one = c.in_ok-place.ensures.kept in
    record {
      inside = omega (arith, same, long, few, inside);
      room = omega (arith, room, rows);
      kept = record { each = λ t. on_from c.args.scheme.now (g.O.Outbox.standing c.args.outbox.now) (g.O.Outbox.standing c.loop-place.outbox) (g.O.Outbox.standing c.keep_some.new.outbox) items part k c.in_ok-place.field-0 t t t c.args.tally.now c.loop-place.tally c.keep_some.new.tally is (before.each t) (one.each t) };
    }

pub returns-in_err-place : goal.returns-in_err-place
returns-in_err-place g c =
    let items = c.args.items.now in
    let k = c.loop-place.place in
    let inv = c.loop-place.invariant in
    let long = length-drop k items in
    let part = take (length items - k) (drop k items) in
    let is : part ≡ drop k items = take_all (length items - k) (drop k items) (omega (arith, long)) in
    let before = inv.kept in
    let one = c.in_err-place.ensures.halted in
    handed (λ z. HasKept c.args.scheme.now (g.O.Outbox.standing c.args.outbox.now) (g.O.Outbox.standing c.keep_some.new.outbox) items c.args.tally.now c.keep_some.new.tally (result_err z)) c.from_residual.result c.in_err-place.field-0.0 c.from_residual.ensures.1
    (record { each = λ t. halted_from c.args.scheme.now (g.O.Outbox.standing c.args.outbox.now) (g.O.Outbox.standing c.loop-place.outbox) (g.O.Outbox.standing c.keep_some.new.outbox) items part k t t t c.args.tally.now c.loop-place.tally c.keep_some.new.tally c.in_err-place.field-0.0 is (before.each t) (one.each t) })
