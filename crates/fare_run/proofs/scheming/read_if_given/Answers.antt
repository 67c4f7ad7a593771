use Rattle.std.proofs.Common.{rules}
use Rattle.fare_run.proofs.Taken.{none_given}
use Rattle.fare_run.proofs.scheming.read_if_given.Goals as goal

pub returns-then-is_empty-clause-made : goal.returns-then-is_empty-clause-made
returns-then-is_empty-clause-made g c = none_given (g.I.Read.remaining c.args.input.now) c.in_ok-lines.lines.items (search rules) c.in_ok-lines.ensures.lines
