use Rattle.std.proofs.Common.{◌≡◌, ◌+◌, List, Some, refl, ap, sym, subst, ◌∙◌, slice_index_or, arith, Err}
use Rattle.std.specs.Prelude.{is_some}
use Rattle.std.proofs.lemmas.Result.{err_from_is_err_and}
use Rattle.fare_scheme.proofs.Slices.{item_at, none_left}
use Rattle.fare_collect.specs.Resuming.{HaveResumed}
use Rattle.fare_scheme.specs.Words.{position_of_device}
use Rattle.fare_collect.specs.declared.station.Station.{Station}
use Rattle.fare_collect.proofs.Resumed.{AreResuming, resuming_none, resuming_failed, resuming_past, resuming_more, resumed_all}
use Rattle.fare_collect.proofs.collecting.resume.Goals.{then-place-stations, else-place-stations}
use Rattle.fare_collect.proofs.collecting.resume.Goals as goal

pub loop-device-init : goal.loop-device-init
loop-device-init g c = resuming_none c.args.scheme.now (g.O.Outbox.standing c.args.outbox.now) c.args.stations.now (g.met.O.Outbox.sound c.args.outbox.now)

pub returns-in_err-upto : goal.returns-in_err-upto
returns-in_err-upto g c =
    let is = err_from_is_err_and c.from_residual.result c.from_residual.ensures.1 in
    subst (HaveResumed c.args.scheme.now (g.O.Outbox.standing c.args.outbox.now) (g.O.Outbox.standing c.upto.new.self) c.args.stations.now c.loop-device.stations) (sym (is.1 ∙ ap Err is.2))
    (resuming_failed c.args.scheme.now (g.O.Outbox.standing c.args.outbox.now) (g.O.Outbox.standing c.loop-device.outbox) (g.O.Outbox.standing c.upto.new.self) c.args.stations.now c.loop-device.stations c.loop-device.device-index c.device-item.result c.in_err-upto.field-0.0
    (g.met.O.Outbox.sound c.loop-device.outbox) c.loop-device.invariant c.in_err-upto.ensures.read)

pub place_of_station-place-requires : goal.place_of_station-place-requires
place_of_station-place-requires g c = ap is_some (c.devices-device-items.ensures.placed c.loop-device.device-index c.device-item.result (item_at c.devices-device-items.result.now c.loop-device.device-index c.device-item.result c.loop-device-test.true c.device-item.is))

pub loop-device-preserved : goal.loop-device-preserved
loop-device-preserved g c =
    let inv = c.loop-device.invariant in
    let sc = c.args.scheme.now in
    let a = g.O.Outbox.standing c.args.outbox.now in
    let b = g.O.Outbox.standing c.loop-device.outbox in
    let d = g.O.Outbox.standing c.upto.new.self in
    let first = c.args.stations.now in
    let all = c.loop-device.stations in
    let position = c.loop-device.device-index in
    let device = c.device-item.result in
    let stands = c.place_of_station-place.ensures in
    let id = stands.0 in
    let place = c.place_of_station-place.result in
    let sound = g.met.O.Outbox.sound c.loop-device.outbox in
    let read = c.in_ok-upto.ensures.read in
    let at : position_of_device sc device ≡ Some position = (c.devices-device-items.ensures.placed c.loop-device.device-index c.device-item.result (item_at c.devices-device-items.result.now c.loop-device.device-index c.device-item.result c.loop-device-test.true c.device-item.is)) in
    let Q : List (Station g.row.S.Denot) → Type 0 = λ l. AreResuming sc a d first l (position + 1) in
    elim c.if-place-stations.branch [
      | then-place-stations w ↦
          let x = slice_index_or all place w.index-stations-place.result in
          subst Q (sym w.stations-is) (resuming_more sc a b d first all position device c.in_ok-upto.upto id place x _ sound c.requires inv read at stands.1 stands.2 w.if-place-stations.true (ap (slice_index_or all place) w.index-stations-place.is) refl refl w.resume.ensures.station w.resume.ensures.next)
      | else-place-stations w ↦
          subst Q (sym w.stations-is) (resuming_past sc a b d first all position device c.in_ok-upto.upto id place sound c.requires inv read at stands.1 stands.2 (let n = w.if-place-stations.false in omega (arith, n)))
    ]

pub returns : goal.returns
returns g c =
    resumed_all c.args.scheme.now (g.O.Outbox.standing c.args.outbox.now) (g.O.Outbox.standing c.loop-device.outbox) c.args.stations.now c.loop-device.stations c.loop-device.device-index
    c.devices-device-items.ensures.valid.has_device (none_left c.args.scheme.now.devices c.devices-device-items.result.now c.loop-device.device-index c.devices-device-items.ensures.value (omega (arith, c.loop-device-test.false))) c.loop-device.invariant
