use Rattle.std.proofs.Common.{◌∷◌, [], Some, None, refl, sym, ap, subst, ◌∙◌}
use Rattle.std.specs.Prelude.{Option, Result, Ok, Err}
use Rattle.fare_frame.specs.declared.frame.Frame.{Frame}
use Rattle.fare_inbox_queue.specs.declared.arrived.Arrived.{Arrived}
use Rattle.fare_writer.specs.Entries.{in_hand}
use Rattle.fare_writer.specs.Judging.{HasJudged}
use Rattle.fare_writer.specs.declared.judging.UnexpectedFrame.{UnexpectedFrame}
use Rattle.fare_collect.specs.declared.fault.StationFault.TheVariants.{Unexpected}
use Rattle.fare_collect.specs.Resting.{HasNext, HasPassed}
use Rattle.fare_collect.proofs.Rested.{passed_none, passed_then, passed_frame, passed_unexpected, passed_end}
use Rattle.fare_collect.proofs.resting.next_item.Goals as goal

pub loop-init : goal.loop-init
loop-init g c = (passed_none c.args.scheme.now g.S.Source.talk c.args.id c.args.station.now c.args.station.now c.requires (record { given = refl; answered = refl; failures = refl; ended = λ e. e }) refl refl, c.requires)

pub returns-in_err-frame-clause-passed : goal.returns-in_err-frame-clause-passed
returns-in_err-frame-clause-passed g c =
    let inv = c.loop.invariant in
    let talks = g.S.Source.talk in
    let t0 = c.args.station.now in
    let t1 = c.loop.station in
    let t2 = c.next_frame.new.station in
    let next : HasNext (talks t1.source) (talks t2.source) t1.end t2.end None = subst (λ (r : Option Frame). HasNext (talks t1.source) (talks t2.source) t1.end t2.end r) c.in_err-frame.was c.next_frame.ensures.0 in
    let last = passed_end c.args.scheme.now talks c.args.id t1 t2 inv.1 next c.next_frame.ensures.1 in
    subst (λ (r : Option Arrived). HasPassed c.args.scheme.now talks c.args.id t0 t2 (in_hand r)) (sym c.from_residual.ensures) (passed_then c.args.scheme.now talks c.args.id t0 t1 t2 [] [] inv.0 inv.1 last.0)

pub returns-in-Err-clause-passed : goal.returns-in-Err-clause-passed
returns-in-Err-clause-passed g c =
    let inv = c.loop.invariant in
    let talks = g.S.Source.talk in
    let t0 = c.args.station.now in
    let t1 = c.loop.station in
    let t2 = c.next_frame.new.station in
    let k = c.judge.new.collector in
    let frame = c.in_ok-frame.frame in
    let next : HasNext (talks t1.source) (talks t2.source) t1.end t2.end (Some frame) = subst (λ (r : Option Frame). HasNext (talks t1.source) (talks t2.source) t1.end t2.end r) c.in_ok-frame.was c.next_frame.ensures.0 in
    let judged : HasJudged c.args.scheme.now c.args.id frame t2.collector k (Err c.in-Err.field-0) = subst (λ (r : Result (Option Arrived) UnexpectedFrame). HasJudged c.args.scheme.now c.args.id frame t2.collector k r) c.in-Err.is c.judge.ensures in
    let t3 = record t2 { collector = k; end = record t2.end { fault = Some Unexpected } } in
    passed_then c.args.scheme.now talks c.args.id t0 t1 t3 [] [] inv.0 inv.1 (passed_unexpected c.args.scheme.now talks c.args.id t1 t2 t3 k frame c.in-Err.field-0 inv.1 next c.next_frame.ensures.1 judged refl refl refl refl refl)

pub loop-preserved : goal.loop-preserved
loop-preserved g c =
    let inv = c.loop.invariant in
    let talks = g.S.Source.talk in
    let t0 = c.args.station.now in
    let t1 = c.loop.station in
    let t2 = c.next_frame.new.station in
    let k = c.judge.new.collector in
    let frame = c.in_ok-frame.frame in
    let next : HasNext (talks t1.source) (talks t2.source) t1.end t2.end (Some frame) = subst (λ (r : Option Frame). HasNext (talks t1.source) (talks t2.source) t1.end t2.end r) c.in_ok-frame.was c.next_frame.ensures.0 in
    let judged : HasJudged c.args.scheme.now c.args.id frame t2.collector k (Ok None) = subst (λ (r : Result (Option Arrived) UnexpectedFrame). HasJudged c.args.scheme.now c.args.id frame t2.collector k r) (c.in-Ok-None.is ∙ ap Ok c.in-Ok-None.field-0-is) c.judge.ensures in
    let step = passed_frame c.args.scheme.now talks c.args.id t1 t2 k frame None inv.1 next c.next_frame.ensures.1 judged in (
      passed_then c.args.scheme.now talks c.args.id t0 t1 (record t2 { collector = k }) [] [] inv.0 inv.1 step.0,
      step.1,
    )

pub returns-in-Ok-Some-clause-passed : goal.returns-in-Ok-Some-clause-passed
returns-in-Ok-Some-clause-passed g c =
    let inv = c.loop.invariant in
    let talks = g.S.Source.talk in
    let t0 = c.args.station.now in
    let t1 = c.loop.station in
    let t2 = c.next_frame.new.station in
    let k = c.judge.new.collector in
    let frame = c.in_ok-frame.frame in
    let item = c.in-Ok-Some.item in
    let next : HasNext (talks t1.source) (talks t2.source) t1.end t2.end (Some frame) = subst (λ (r : Option Frame). HasNext (talks t1.source) (talks t2.source) t1.end t2.end r) c.in_ok-frame.was c.next_frame.ensures.0 in
    let judged : HasJudged c.args.scheme.now c.args.id frame t2.collector k (Ok (Some item)) = subst (λ (r : Result (Option Arrived) UnexpectedFrame). HasJudged c.args.scheme.now c.args.id frame t2.collector k r) (c.in-Ok-Some.is ∙ ap Ok c.in-Ok-Some.field-0-is) c.judge.ensures in
    let step = passed_frame c.args.scheme.now talks c.args.id t1 t2 k frame (Some item) inv.1 next c.next_frame.ensures.1 judged in
    passed_then c.args.scheme.now talks c.args.id t0 t1 (record t2 { collector = k }) [] (item ∷ []) inv.0 inv.1 step.0
