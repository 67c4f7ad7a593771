use Rattle.std.proofs.Common.{Some, None, rules, sym, subst, Vec, ℕ}
use Rattle.std.specs.Global.{Global}
use Rattle.fare_world.specs.System.{start}
use Rattle.fare_trace.specs.Answers.{Running, first_stage}
use Rattle.fare_trace.specs.Faults.{RefusesRun}
use Rattle.fare_trace.specs.Progress.{AnswersText, Registers}
use Rattle.fare_trace.proofs.Progress.{goes_on, text_answered, text_refused}
use Rattle.fare_trace.proofs.answers.answer_text.Goals as goal
use Rattle.fare_trace.proofs.answers.answer_text.Goals.{in-Some+in_ok-run_sealed, in_default}

pub returns-in_err-run_sealed-clause-refused : goal.returns-in_err-run_sealed-clause-refused
returns-in_err-run_sealed-clause-refused c =
    let text = c.args.text.now in
    let sc = c.in-Some.scheme in
    let fault = c.in_err-run_sealed.field-0.0 in
    let registers : Registers c.new-lines.result c.register.new.lines c.in_ok-out.out.items c.register.new.out.items (Some sc) = rw c.in-Some.is at c.in_ok-scheme.ensures.ok in
    let refused : RefusesRun text fault = text_refused text first_stage (Running sc (start sc)) c.new-lines.result c.register.new.lines c.in_ok-out.out.items c.register.new.out.items fault c.new-lines.ensures registers c.in_err-run_sealed.ensures.fault in
    search (rules, refused)

pub returns-clause-answered : goal.returns-clause-answered
returns-clause-answered c =
    let text = c.args.text.now in
    elim c.match-branch-3.branch [
      | in-Some+in_ok-run_sealed w ↦
          let sc = w.in-Some.scheme in
          let registers : Registers c.new-lines.result c.register.new.lines c.in_ok-out.out.items c.register.new.out.items (Some sc) = rw w.in-Some.is at c.in_ok-scheme.ensures.ok in
          subst (λ (o : Vec ℕ Global). AnswersText text o.items) (sym w.out-is)
          (text_answered text c.new-lines.result w.run_sealed.new.lines c.in_ok-out.out.items w.run_sealed.new.out.items c.new-lines.ensures c.in_ok-out.ensures.items
          (goes_on first_stage (Running sc (start sc)) c.new-lines.result c.register.new.lines w.run_sealed.new.lines c.in_ok-out.out.items c.register.new.out.items w.run_sealed.new.out.items registers w.in_ok-run_sealed.ensures.ok))
      | in_default w ↦
          let registers : Registers c.new-lines.result c.register.new.lines c.in_ok-out.out.items c.register.new.out.items None = rw w.in_default.is at c.in_ok-scheme.ensures.ok in
          subst (λ (o : Vec ℕ Global). AnswersText text o.items) (sym w.out-is)
          (text_answered text c.new-lines.result c.register.new.lines c.in_ok-out.out.items c.register.new.out.items c.new-lines.ensures c.in_ok-out.ensures.items registers)
    ]
