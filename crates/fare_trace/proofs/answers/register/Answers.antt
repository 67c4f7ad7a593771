use Rattle.std.proofs.Common.{Some, None, rules, subst}
use Rattle.fare_world.specs.System.{start}
use Rattle.fare_trace.specs.declared.registering.Registration.{Registration}
use Rattle.fare_trace.specs.Answers.{Drafting, Running, first_stage}
use Rattle.fare_lines.specs.Unread.{IsNext, StopsIn}
use Rattle.fare_trace.specs.Progress.{WritesAnswer}
use Rattle.fare_trace.specs.Registration.{stage_of}
use Rattle.fare_trace.proofs.Progress.{goes_end, goes_line, goes_nothing, goes_stops}
use Rattle.fare_trace.proofs.answers.register.Goals as goal

pub loop-line-init : goal.loop-line-init
loop-line-init c = rw c.new-draft.ensures (goes_nothing first_stage c.args.lines.now c.args.out.now.items)

pub returns-in_err-line-clause-fault : goal.returns-in_err-line-clause-fault
returns-in_err-line-clause-fault c =
    let fault = c.in_err-line.field-0.0 in
    let stops : StopsIn c.args.lines.now fault = goes_stops first_stage (Drafting c.loop-line.draft c.loop-line.used) c.args.lines.now c.loop-line.lines c.args.out.now.items c.loop-line.out.items fault c.loop-line.invariant c.in_err-line.ensures.fault in
    search (rules, stops)

pub returns-in-Sealed-clause-ok : goal.returns-in-Sealed-clause-ok
returns-in-Sealed-clause-ok c =
    let stage = Drafting c.loop-line.draft c.loop-line.used in
    let next : IsNext c.loop-line.lines c.next.new.self (Some c.in-Some.line) = rw c.in-Some.is at c.in_ok-line.ensures.line in
    goes_line first_stage stage (Running c.in-Sealed.scheme (start c.in-Sealed.scheme)) c.args.lines.now c.loop-line.lines c.next.new.self c.args.out.now.items c.loop-line.out.items c.answer_line.new.out.items c.in-Some.line
    c.loop-line.invariant next (subst (λ (r : Registration). WritesAnswer stage c.in-Some.line (stage_of r) c.loop-line.out.items c.answer_line.new.out.items) c.in-Sealed.is c.in_ok-next.ensures)

pub loop-line-preserved : goal.loop-line-preserved
loop-line-preserved c =
    let stage = Drafting c.loop-line.draft c.loop-line.used in
    let next : IsNext c.loop-line.lines c.next.new.self (Some c.in-Some.line) = rw c.in-Some.is at c.in_ok-line.ensures.line in
    goes_line first_stage stage (Drafting c.in-Open.next c.in-Open.now) c.args.lines.now c.loop-line.lines c.next.new.self c.args.out.now.items c.loop-line.out.items c.answer_line.new.out.items c.in-Some.line
    c.loop-line.invariant next (subst (λ (r : Registration). WritesAnswer stage c.in-Some.line (stage_of r) c.loop-line.out.items c.answer_line.new.out.items) c.in-Open.is c.in_ok-next.ensures)

pub returns-clause-ok : goal.returns-clause-ok
returns-clause-ok c =
    let last : IsNext c.loop-line.lines c.next.new.self None = rw c.in_default.is at c.in_ok-line.ensures.line in
    goes_end first_stage (Drafting c.loop-line.draft c.loop-line.used) c.args.lines.now c.loop-line.lines c.next.new.self c.args.out.now.items c.loop-line.out.items c.loop-line.invariant last
