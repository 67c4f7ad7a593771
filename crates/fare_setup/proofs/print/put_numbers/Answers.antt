use Rattle.std.specs.Fmt.{decimal}
use Rattle.fare_lines.proofs.Words.{line_appended}
use Rattle.fare_setup.proofs.print.put_numbers.Goals as goal

pub returns-clause-appended : goal.returns-clause-appended
returns-clause-appended c =
    line_appended decimal c.args.out.now.items c.loop-number.out.items c.push-2.new.self.items c.args.keyword.now c.args.numbers.now c.loop-number.number-index
    c.loop-number-test.false c.loop-number.invariant c.in_ok-push-2.ensures.items
