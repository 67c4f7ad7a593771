use Rattle.std.proofs.Common.{◌≡◌, Some, None, ap, subst, ◌∙◌, slice_index_or, slice_set, arith, ℕ, ◌+◌, length}
use Rattle.std.proofs.lemmas.List.{get_or_default}
use Rattle.std.specs.Result.{result_err}
use Rattle.fare_session.proofs.Takes.{handed}
use Rattle.fare_collect.specs.declared.station.Station.{Station}
use Rattle.fare_collect.specs.Resting.{HasRested, HaveRested}
use Rattle.fare_collect.proofs.RestedAll.{have_none, have_more, have_all, have_halted}
use Rattle.fare_collect.proofs.resting.rest_all.Goals as goal

pub loop-place-init : goal.loop-place-init
loop-place-init g c = have_none c.args.scheme.now g.S.Source.talk (g.O.Outbox.standing c.args.outbox.now) c.args.tally.now c.args.stations.now (g.met.O.Outbox.sound c.args.outbox.now)

pub loop-place-preserved : goal.loop-place-preserved
loop-place-preserved g c =
    let inv = c.loop-place.invariant in
    let sc = c.args.scheme.now in
    let talks = g.S.Source.talk in
    let all = c.loop-place.stations in
    let place = c.loop-place.place in
    let d1 = c.index-stations-place-in-loop-place.result in
    let d2 = c.index-stations-place-in-loop-place-2.result in
    let x = slice_index_or all place d2 in
    let y = c.rest.new.station in
    let a = g.O.Outbox.standing c.args.outbox.now in
    let b = g.O.Outbox.standing c.loop-place.outbox in
    let d = g.O.Outbox.standing c.rest.new.outbox in
    let lt = c.loop-place-test.true in
    let id : c.station-id.result ≡ x.collector.station = c.station-id.ensures ∙ ap (λ (t : Station g.row.S.Denot). t.collector.station) (get_or_default all place d1 d2 (let l = inv.len in omega (arith, l))) in
    have_more sc talks a b d c.args.tally.now c.loop-place.tally c.rest.new.tally c.args.stations.now all place x y None c.requires inv (let l = inv.len in omega (arith, l)) (ap (slice_index_or all place) c.index-stations-place-in-loop-place-2.is)
    (subst (λ (n : ℕ). HasRested sc talks n b d c.loop-place.tally c.rest.new.tally x y None) id c.in_ok-rest.ensures)

pub returns-in_err-rest : goal.returns-in_err-rest
returns-in_err-rest g c =
    let inv = c.loop-place.invariant in
    let sc = c.args.scheme.now in
    let talks = g.S.Source.talk in
    let all = c.loop-place.stations in
    let place = c.loop-place.place in
    let d1 = c.index-stations-place-in-loop-place.result in
    let d2 = c.index-stations-place-in-loop-place-2.result in
    let x = slice_index_or all place d2 in
    let y = c.rest.new.station in
    let a = g.O.Outbox.standing c.args.outbox.now in
    let b = g.O.Outbox.standing c.loop-place.outbox in
    let d = g.O.Outbox.standing c.rest.new.outbox in
    let id : c.station-id.result ≡ x.collector.station = c.station-id.ensures ∙ ap (λ (t : Station g.row.S.Denot). t.collector.station) (get_or_default all place d1 d2 (let l = inv.len in omega (arith, l))) in
    let f = c.in_err-rest.field-0.0 in
    handed (λ z. HaveRested sc talks a d c.args.tally.now c.rest.new.tally c.args.stations.now (slice_set all place y) (length c.args.stations.now) (result_err z)) c.from_residual.result f c.from_residual.ensures.1
    (have_halted sc talks a d c.args.tally.now c.rest.new.tally c.args.stations.now _ (place + 1) (length c.args.stations.now) f
    (have_more sc talks a b d c.args.tally.now c.loop-place.tally c.rest.new.tally c.args.stations.now all place x y (Some f) c.requires inv (let l = inv.len in omega (arith, l)) (ap (slice_index_or all place) c.index-stations-place-in-loop-place-2.is)
    (subst (λ (n : ℕ). HasRested sc talks n b d c.loop-place.tally c.rest.new.tally x y (Some f)) id c.in_err-rest.ensures)))

pub returns : goal.returns
returns g c =
    let inv = c.loop-place.invariant in
    have_all c.args.scheme.now g.S.Source.talk (g.O.Outbox.standing c.args.outbox.now) (g.O.Outbox.standing c.loop-place.outbox) c.args.tally.now c.loop-place.tally c.args.stations.now c.loop-place.stations c.loop-place.place (length c.args.stations.now) None (let l = inv.len in omega (arith, l)) inv
