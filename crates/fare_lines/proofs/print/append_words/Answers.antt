use Rattle.std.proofs.Common.{◌++◌, sym, ◌∙◌}
use Rattle.fare_lines.proofs.Cuts.{append_nil}
use Rattle.fare_lines.proofs.Words.{line_appended}
use Rattle.fare_lines.proofs.RowLines.{front_behind, front_stays}
use Rattle.fare_lines.proofs.Pieces.{front_named, front_same, one_word}
use Rattle.fare_lines.proofs.print.append_words.Goals as goal

pub loop-word-init : goal.loop-word-init
loop-word-init c = c.in_ok-extend_from_slice.ensures.items ∙ sym (append_nil (c.args.out.now.items ++ c.args.first.now))

pub returns-in_err-push-clause-front : goal.returns-in_err-push-clause-front
returns-in_err-push-clause-front c =
    front_named c.args.out.now.items c.args.first.now _ c.loop-word.out.items c.push.new.self.items c.loop-word.invariant (front_same c.loop-word.out.items c.push.new.self.items c.in_err-push.ensures.items)

pub returns-in_err-extend_from_slice-2-clause-front : goal.returns-in_err-extend_from_slice-2-clause-front
returns-in_err-extend_from_slice-2-clause-front c =
    front_named c.args.out.now.items c.args.first.now _ c.loop-word.out.items c.extend_from_slice-in-loop-word.new.self.items c.loop-word.invariant
    (front_behind c.loop-word.out.items _ c.push.new.self.items c.extend_from_slice-in-loop-word.new.self.items c.in_ok-push.ensures.items (front_same c.push.new.self.items c.extend_from_slice-in-loop-word.new.self.items c.in_err-extend_from_slice-2.ensures.items))

pub returns-in_err-push-2-clause-front : goal.returns-in_err-push-2-clause-front
returns-in_err-push-2-clause-front c =
    front_named c.args.out.now.items c.args.first.now _ c.loop-word.out.items c.push-2.new.self.items c.loop-word.invariant (front_same c.loop-word.out.items c.push-2.new.self.items c.in_err-push-2.ensures.items)

pub returns : goal.returns
returns c =
    let line = line_appended (λ word. word.now) c.args.out.now.items c.loop-word.out.items c.push-2.new.self.items c.args.first.now c.args.rest.now c.loop-word.word-index
    c.loop-word-test.false c.loop-word.invariant c.in_ok-push-2.ensures.items in
    record { appended = line; front = front_stays c.args.out.now.items _ c.push-2.new.self.items line }

pub loop-word-preserved : goal.loop-word-preserved
loop-word-preserved c =
    one_word (λ word. word.now) (c.args.out.now.items ++ c.args.first.now) c.loop-word.out.items c.push.new.self.items c.extend_from_slice-in-loop-word.new.self.items c.args.rest.now c.loop-word.word-index _
    c.loop-word-test.true c.loop-word.invariant c.in_ok-push.ensures.items c.in_ok-extend_from_slice-2.ensures.items
