use Rattle.std.proofs.Common.{subst}
use Rattle.fare_world.specs.System.{start}
use Rattle.fare_trace.specs.Answers.{Running}
use Rattle.fare_trace.specs.Progress.{GoesToEnd}
use Rattle.fare_trace.proofs.Stores.{on_ok, sql_live}
use Rattle.fare_trace.proofs.sql_run.run_in_tables.Goals as goal

pub returns-clause-ok : goal.returns-clause-ok
returns-clause-ok c =
    on_ok c.run_lines.result
    (λ ends. subst (λ sc. GoesToEnd (Running sc (start sc)) c.args.lines.now c.run_lines.new.lines c.args.out.now.items c.run_lines.new.out.items) c.in_ok-world.ensures.scheme (ends (sql_live c.run_lines.new.world)))
    c.run_lines.ensures.ok
