use Rattle.std.proofs.Common.{ap, arith, slice_index_or}
use Rattle.fare_collect.specs.declared.station.End.{End}
use Rattle.fare_collect.proofs.Begins.{beginning_none, beginning_more, beginning_all}
use Rattle.fare_collect.proofs.collecting.begin.Goals as goal

pub loop-station-init : goal.loop-station-init
loop-station-init g c = beginning_none c.args.stations.now

pub loop-station-preserved : goal.loop-station-preserved
loop-station-preserved g c =
    let all = c.loop-station.stations in
    let x = slice_index_or all c.loop-station.station-index c.station-item.result in
    let lt = c.loop-station-test.true in
    let l = c.loop-station.invariant.len in
    beginning_more c.args.stations.now all c.loop-station.station-index x _ c.loop-station.invariant (omega (arith, lt, l)) (ap (slice_index_or all c.loop-station.station-index) c.station-item.is) (ap (λ (e : End). record x { end = e }) c.new-station.ensures)

pub returns : goal.returns
returns g c = let n = c.loop-station-test.false in beginning_all c.args.stations.now c.loop-station.stations c.loop-station.station-index (omega (arith, n)) c.loop-station.invariant
