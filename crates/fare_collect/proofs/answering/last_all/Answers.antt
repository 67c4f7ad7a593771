use Rattle.std.proofs.Common.{◌≡◌, [], ◌∷◌, Some, sym, subst, ◌∙◌, arith, Err, ap}
use Rattle.std.specs.Prelude.{is_some}
use Rattle.std.proofs.lemmas.Result.{err_from_is_err_and}
use Rattle.fare_scheme.proofs.Slices.{entry_at, item_at, none_left}
use Rattle.fare_scheme.specs.Words.{id_at}
use Rattle.fare_record.specs.declared.ack_item.AckItem.TheVariants.{Upto}
use Rattle.fare_collect.specs.Ending.{AreSent, HaveLast, last_acks}
use Rattle.fare_collect.proofs.Last.{answering_none, answering_more, answering_failed, answered_all, stations_after}
use Rattle.fare_collect.proofs.answering.last_all.Goals as goal

pub loop-device-init : goal.loop-device-init
loop-device-init g c = answering_none c.args.scheme.now g.S.Source.talk (g.O.Outbox.standing c.args.outbox.now) c.args.stations.now (g.met.O.Outbox.sound c.args.outbox.now)

pub returns-in_err-upto : goal.returns-in_err-upto
returns-in_err-upto g c =
    let is = err_from_is_err_and c.from_residual.result c.from_residual.ensures.1 in
    subst (HaveLast c.args.scheme.now g.S.Source.talk (g.O.Outbox.standing c.args.outbox.now) (g.O.Outbox.standing c.upto.new.self) c.args.stations.now c.loop-device.stations (last_acks c.args.scheme.now)) (sym (is.1 ∙ ap Err is.2))
    (answering_failed c.args.scheme.now g.S.Source.talk (g.O.Outbox.standing c.args.outbox.now) (g.O.Outbox.standing c.loop-device.outbox) (g.O.Outbox.standing c.upto.new.self) c.args.stations.now c.loop-device.stations c.loop-device.device-index c.device-item.result c.in_err-upto.field-0.0
    (g.met.O.Outbox.sound c.loop-device.outbox) c.loop-device.invariant c.in_err-upto.ensures.read)

pub send-requires-clause-order : goal.send-requires-clause-order
send-requires-clause-order g c = stations_after c.args.scheme.now g.S.Source.talk c.loop-device.invariant.have.answers c.args.stations.now c.loop-device.stations c.requires c.loop-device.invariant.have.sent

pub send-requires-clause-known : goal.send-requires-clause-known
send-requires-clause-known g c = ap is_some (c.devices-device-items.ensures.placed c.loop-device.device-index c.device-item.result (item_at c.devices-device-items.result.now c.loop-device.device-index c.device-item.result c.loop-device-test.true c.device-item.is))

pub loop-device-preserved : goal.loop-device-preserved
loop-device-preserved g c =
    let sc = c.args.scheme.now in
    let talks = g.S.Source.talk in
    let a = g.O.Outbox.standing c.args.outbox.now in
    let b = g.O.Outbox.standing c.loop-device.outbox in
    let d = g.O.Outbox.standing c.upto.new.self in
    let device = c.device-item.result in
    let u = c.in_ok-upto.upto in
    let at : id_at sc.devices c.loop-device.device-index ≡ Some device = entry_at c.args.scheme.now.devices c.devices-device-items.result.now c.loop-device.device-index c.device-item.result c.devices-device-items.ensures.value c.loop-device-test.true c.device-item.is in
    answering_more sc talks a b d c.args.stations.now c.loop-device.stations c.send.new.stations c.loop-device.device-index device u (g.met.O.Outbox.sound c.loop-device.outbox) c.loop-device.invariant c.in_ok-upto.ensures.read at c.send.ensures.known
    (subst (λ (k : _). AreSent sc talks (Upto k ∷ []) c.loop-device.stations c.send.new.stations) c.new.ensures c.send.ensures.sent)

pub returns : goal.returns
returns g c =
    answered_all c.args.scheme.now g.S.Source.talk (g.O.Outbox.standing c.args.outbox.now) (g.O.Outbox.standing c.loop-device.outbox) c.args.stations.now c.loop-device.stations c.loop-device.device-index c.devices-device-items.ensures.valid.has_device (none_left c.args.scheme.now.devices c.devices-device-items.result.now c.loop-device.device-index c.devices-device-items.ensures.value (omega (arith, c.loop-device-test.false))) c.loop-device.invariant
