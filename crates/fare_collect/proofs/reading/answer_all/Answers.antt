use Rattle.std.proofs.Common.{◌≡◌, ◌++◌, ◌∷◌, [], subst}
use Rattle.std.specs.Prelude.{Ok, Err}
use Rattle.std.specs.Result.{result_err}
use Rattle.fare_session.proofs.Takes.{handed}
use Rattle.fare_frame.specs.declared.frame.Frame.{Frame}
use Rattle.fare_inbox_queue.specs.LinePasses.{heard_list}
use Rattle.fare_source.specs.Talking.{Hears}
use Rattle.fare_collect.specs.Stations.{HasAnswered, frame_for, as_station}
use Rattle.fare_collect.proofs.Read.{answered_none, answered_more, answered_failed}
use Rattle.fare_collect.proofs.reading.answer_all.Goals as goal

pub loop-init : goal.loop-init
loop-init g c = (c.requires, answered_none _ _)

pub returns-in_err-answer-clause-answered : goal.returns-in_err-answer-clause-answered
returns-in_err-answer-clause-answered g c =
    let inv = c.loop.invariant in
    let item = c.in-Some-take.item in
    let first = g.S.Source.talk c.args.source.now in
    let before = g.S.Source.talk c.loop.source in
    let now = g.S.Source.talk c.answer.new.self in
    let took : heard_list c.take.new.pass ≡ heard_list c.loop.hear ++ item ∷ [] = c.in-Some-take.ensures.some in
    let heard : Hears before now (frame_for item) (Err c.in_err-answer.field-0.0) = subst (λ (f : Frame). Hears before now f (Err c.in_err-answer.field-0.0)) c.frame_of.ensures c.in_err-answer.ensures in
    handed (λ z. HasAnswered first now (heard_list c.args.hear.now) (heard_list c.take.new.pass) (result_err z)) c.from_residual.result (as_station c.in_err-answer.field-0.0) c.from_residual.ensures.1
    (answered_failed first before now (heard_list c.args.hear.now) (heard_list c.loop.hear) (heard_list c.take.new.pass) item c.in_err-answer.field-0.0 inv.1 took heard)

pub loop-preserved : goal.loop-preserved
loop-preserved g c =
    let inv = c.loop.invariant in
    let item = c.in-Some-take.item in
    let first = g.S.Source.talk c.args.source.now in
    let before = g.S.Source.talk c.loop.source in
    let now = g.S.Source.talk c.answer.new.self in
    let took : heard_list c.take.new.pass ≡ heard_list c.loop.hear ++ item ∷ [] = c.in-Some-take.ensures.some in
    let heard : Hears before now (frame_for item) (Ok tt) = subst (λ (f : Frame). Hears before now f (Ok tt)) c.frame_of.ensures c.in_ok-answer.ensures in
    (c.take.ensures.queue, answered_more first before now (heard_list c.args.hear.now) (heard_list c.loop.hear) (heard_list c.take.new.pass) item inv.1 took heard)
