use Rattle.std.proofs.Common.{refl}
use Rattle.std.specs.Prelude.{is_some}
use Rattle.fare_run.specs.Scheming.{given_by}
use Rattle.fare_keeping.proofs.Since.{err_says}
use Rattle.fare_run.specs.Serving.{ServeFails}
use Rattle.fare_run.proofs.Served.{done_over, err_served, failed_over, failed_scheme, failed_stores, fails_scheme, served_of}
use Rattle.fare_run.proofs.serve_job.serve.Goals as goal

pub returns-clause-done : goal.returns-clause-done
returns-clause-done g c =
    done_over (is_some c.args.options.now.ask) c.serve_databases-databases.result.1 (given_by c.args.options.now.scheme (g.I.Read.remaining c.args.input.now)) (g.O.Write.contents c.args.output.now) (g.O.Write.contents c.serve_databases-databases.new.output)
    c.in_ok-scheme.scheme c.in_ok-scheme.scheme refl c.in_ok-scheme.ensures.made c.serve_databases-databases.ensures.served

pub returns-clause-fails : goal.returns-clause-fails
returns-clause-fails g c =
    failed_over (is_some c.args.options.now.ask) c.serve_databases-databases.result.1 (given_by c.args.options.now.scheme (g.I.Read.remaining c.args.input.now)) (g.O.Write.contents c.args.output.now) (g.O.Write.contents c.serve_databases-databases.new.output)
    c.in_ok-scheme.scheme c.in_ok-scheme.ensures.made c.serve_databases-databases.ensures.fails

pub returns-clause-some : goal.returns-clause-some
returns-clause-some g c =
    let some = c.in_ok-scheme.ensures.some in (
      some.0,
      served_of (is_some c.args.options.now.ask) c.serve_databases-databases.result.1 c.args.options.now.scheme some.0 (g.O.Write.contents c.args.output.now) (g.O.Write.contents c.serve_databases-databases.new.output)
          c.in_ok-scheme.scheme some.1 c.serve_databases-databases.ensures.served c.serve_databases-databases.ensures.fails,
    )

pub returns-in_err-scheme-clause-fails : goal.returns-in_err-scheme-clause-fails
returns-in_err-scheme-clause-fails g c =
    let asks = is_some c.args.options.now.ask in
    let known = given_by c.args.options.now.scheme (g.I.Read.remaining c.args.input.now) in
    let old = g.O.Write.contents c.args.output.now in
    let failure = c.in_err-scheme.field-0.0 in
    err_says c.from_residual.result (ServeFails asks known old old) failure c.from_residual.ensures.1 (fails_scheme asks known old failure c.in_err-scheme.ensures.fails)

pub returns-in_err-scheme-clause-some : goal.returns-in_err-scheme-clause-some
returns-in_err-scheme-clause-some g c =
    let asks = is_some c.args.options.now.ask in
    let old = g.O.Write.contents c.args.output.now in
    let some = c.in_err-scheme.ensures.some in
    let failure = c.in_err-scheme.field-0.0 in
    (some.0, err_served asks c.args.options.now.scheme some.0 old old c.from_residual.result failure c.from_residual.ensures.1 (failed_scheme asks c.args.options.now.scheme some.0 old failure some.1))

pub returns-in_err-databases-clause-some : goal.returns-in_err-databases-clause-some
returns-in_err-databases-clause-some g c =
    let asks = is_some c.args.options.now.ask in
    let old = g.O.Write.contents c.args.output.now in
    let some = c.in_ok-scheme.ensures.some in
    let failure = c.in_err-databases.field-0.0 in
    (some.0, err_served asks c.args.options.now.scheme some.0 old old c.from_residual-in_err-databases.result failure c.from_residual-in_err-databases.ensures.1 (failed_stores asks c.args.options.now.scheme some.0 old c.in_ok-scheme.scheme failure some.1 c.in_err-databases.ensures.fails))
