use Rattle.std.proofs.Common.{◌≡◌, ◌++◌, take, append_assoc, sym, ap, ◌∙◌, arith}
use Rattle.fare_collect.specs.Collected.{station_faults, faults_at}
use Rattle.fare_collect.proofs.Begins.{faults_next, faults_done}
use Rattle.fare_collect.proofs.collecting.list_faults.Goals as goal

pub loop-station-preserved : goal.loop-station-preserved
loop-station-preserved g c =
    let inv = c.loop-station.invariant in
    let all = c.args.stations.now in
    let place = c.loop-station.station-index in
    let lt = c.loop-station-test.true in
    let x = c.station-item.result in
    let r = inv.0 in
    let few = c.list_fault.ensures.few in
    let room = c.list_fault.ensures.room in
    let one : faults_at c.station.result x.end.fault ≡ faults_at x.collector.station x.end.fault = λ i. faults_at (c.station.ensures i) x.end.fault in (
      omega (arith, r, few, room),
      c.list_fault.ensures.listed
          ∙ ((λ i. inv.1 i ++ one i)
          ∙ (append_assoc c.args.faults.now.items (station_faults (take place all)) (faults_at x.collector.station x.end.fault)
          ∙ ap (λ l. c.args.faults.now.items ++ l) (sym (faults_next all place x lt c.station-item.is)))),
    )

pub returns : goal.returns
returns g c = let n = c.loop-station-test.false in c.loop-station.invariant.1 ∙ ap (λ l. c.args.faults.now.items ++ l) (faults_done c.args.stations.now c.loop-station.station-index (omega (arith, n)))
