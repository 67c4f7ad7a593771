use Rattle.std.proofs.Common.{◌<◌, Some, length, get_or, refl, ap, ◌∙◌, arith}
use Rattle.std.proofs.lemmas.Option.{slice_get_read}
use Rattle.fare_world.specs.Restarts.{IsStationAgain}
use Rattle.fare_world.proofs.Pairs.{none_paired, one_paired, all_paired}
use Rattle.fare_world.proofs.world.restarting.restart_stations.Goals as goal

pub loop-station-init : goal.loop-station-init
loop-station-init c = none_paired (IsStationAgain c.args.scheme.now c.args.uptos.now) c.args.stations.now

pub loop-station-preserved : goal.loop-station-preserved
loop-station-preserved c =
    let xs = c.loop-station.stations in
    let k = c.loop-station.station-index in
    let x = get_or xs k c.station-item.result in
    let e = c.resume_all.ensures in
    let within : k < length xs = omega (arith, c.loop-station-test.true, c.loop-station.invariant.count) in
    one_paired (IsStationAgain c.args.scheme.now c.args.uptos.now) c.args.stations.now xs k x c.resume_all.new.self c.loop-station.invariant (slice_get_read xs (length xs) k c.station-item.result refl within c.station-item.is ∙ ap Some c.station-item.is)
    (record { resumed = e.resumed; others = e.others; station = e.station; line = e.line ∙ c.clear.ensures })

pub returns : goal.returns
returns c = all_paired (IsStationAgain c.args.scheme.now c.args.uptos.now) c.args.stations.now c.loop-station.stations c.loop-station.station-index c.loop-station.invariant (omega (arith, c.loop-station-test.false))
