use Rattle.std.proofs.Common.{◌≡◌, ◌-◌, length, take, drop, ap, arith}
use Rattle.std.proofs.lemmas.List.{take_all, length-drop}
use Rattle.fare_session.proofs.Batches.{all_on, all_halted}
use Rattle.fare_session.proofs.batching.keep_all.Goals as goal

pub loop-place-preserved : goal.loop-place-preserved
loop-place-preserved g c =
    let items = c.args.items.now in
    let k = c.loop-place.place in
    let inv = c.loop-place.invariant in
    let long = length-drop k items in
    let part = take (length items - k) (drop k items) in
    let is : part ≡ drop k items = take_all (length items - k) (drop k items) (omega (arith, long)) in
    let same = ap length is in
    let inside = inv.inside in
    let room = inv.room in
    let few = c.in-Ok.ensures.took.0 in
    let rows = c.keep_some.auto.rows in
    record {
      inside = omega (arith, same, long, few, inside);
      room = omega (arith, room, rows);
      taken = all_on (g.L.Ledger.standing c.args.ledger.now) (g.L.Ledger.standing c.loop-place.ledger) (g.L.Ledger.standing c.keep_some.new.ledger) items part k c.args.taken.now c.loop-place.taken c.keep_some.new.taken is inv.taken c.in-Ok.kept c.in-Ok.ensures.took;
    }

pub returns-in-Err-clause-taken : goal.returns-in-Err-clause-taken
returns-in-Err-clause-taken g c =
    let items = c.args.items.now in
    let k = c.loop-place.place in
    let inv = c.loop-place.invariant in
    let long = length-drop k items in
    let part = take (length items - k) (drop k items) in
    let is : part ≡ drop k items = take_all (length items - k) (drop k items) (omega (arith, long)) in
    all_halted (g.L.Ledger.standing c.args.ledger.now) (g.L.Ledger.standing c.loop-place.ledger) (g.L.Ledger.standing c.keep_some.new.ledger) items part k c.args.taken.now c.loop-place.taken c.keep_some.new.taken is inv.taken
    (record { fault = c.in-Err.fault; behind = length items - k - 1 }) (omega arith) c.in-Err.ensures.took
