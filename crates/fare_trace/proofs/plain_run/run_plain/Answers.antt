use Rattle.std.proofs.Common.{subst}
use Rattle.fare_world.specs.System.{start}
use Rattle.fare_trace.specs.Answers.{Running}
use Rattle.fare_trace.specs.Progress.{GoesToEnd}
use Rattle.fare_trace.proofs.Stores.{no_failure, plain_live}
use Rattle.fare_trace.proofs.plain_run.run_plain.Goals as goal

pub returns-in-Ok-clause-ok : goal.returns-in-Ok-clause-ok
returns-in-Ok-clause-ok c =
    subst (λ sc. GoesToEnd (Running sc (start sc)) c.args.lines.now c.run_lines.new.lines c.args.out.now.items c.run_lines.new.out.items) c.in_ok-world.ensures.scheme (c.in-Ok.ensures.ok (plain_live c.run_lines.new.world))

pub unreachable-requires : goal.unreachable-requires
unreachable-requires c = no_failure c.in_ok-world.world c.run_lines.new.world (c.in-Err-Store.ensures.cause c.in-Err-Store.field-0-is)
