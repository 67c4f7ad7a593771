use Rattle.std.proofs.Common.{◌≡◌, length, arith}
use Rattle.std.proofs.lemmas.Grind.{common_steps}
use Rattle.fare_serve.proofs.Lent.{taking_more, taking_past}
use Rattle.fare_serve.proofs.lending.take_all_back.Goals as goal

pub loop-station-preserved-then-place-seats : goal.loop-station-preserved-then-place-seats
loop-station-preserved-then-place-seats g c =
    let inv = c.loop-station.invariant in
    let len = inv.len in
    let lt = c.if-place-seats.true in
    let here : c.len-place.result ≡ length c.pop.new.self.items = grind (arith, common_steps) in
    taking_more c.args.faults.now c.args.stations.items c.loop-station.stations.items c.pop.new.self.items c.in-Some.station c.args.seats.now c.loop-station.seats c.len-place.result c.index-seats-place.result c.take_back.new.seat inv c.in-Some.ensures.items here (omega (arith, lt, len)) c.take_back.ensures

pub loop-station-preserved : goal.loop-station-preserved
loop-station-preserved g c =
    let inv = c.loop-station.invariant in
    let len = inv.len in
    let past = c.if-place-seats.false in
    let here : c.len-place.result ≡ length c.pop.new.self.items = grind (arith, common_steps) in
    taking_past c.args.faults.now c.args.stations.items c.loop-station.stations.items c.pop.new.self.items c.in-Some.station c.args.seats.now c.loop-station.seats inv c.in-Some.ensures.items (omega (arith, past, len, here))
