use Rattle.fare_run.specs.Scheming.{given_by}
use Rattle.std.proofs.KnownBytes.{Keeps-refl}
use Rattle.fare_run.proofs.Asked.{asked_done, asked_failed, asked_of, err_asked, gave_none}
use Rattle.fare_run.proofs.Served.{has_given}
use Rattle.fare_run.proofs.ask_job.ask.Goals as goal

pub returns-clause-done : goal.returns-clause-done
returns-clause-done g c =
    asked_done c.args.options.now.question c.in_ok-scheme.scheme (g.O.Write.contents c.args.output.now) (g.O.Write.contents c.ask_databases-databases.new.output) (given_by c.args.options.now.scheme (g.I.Read.remaining c.args.input.now)) c.ask_databases-databases.result.1 c.in_ok-scheme.ensures.made c.ask_databases-databases.ensures.done c.ask_databases-databases.ensures.unasked

pub returns-clause-fails : goal.returns-clause-fails
returns-clause-fails g c =
    asked_failed c.args.options.now.question c.in_ok-scheme.scheme (g.O.Write.contents c.args.output.now) (g.O.Write.contents c.ask_databases-databases.new.output) (given_by c.args.options.now.scheme (g.I.Read.remaining c.args.input.now)) c.ask_databases-databases.result.1 c.in_ok-scheme.ensures.made c.ask_databases-databases.ensures.fails c.ask_databases-databases.ensures.unasked

pub returns-clause-some : goal.returns-clause-some
returns-clause-some g c =
    let some = c.in_ok-scheme.ensures.some in
    (some.0, asked_of c.args.options.now.question c.in_ok-scheme.scheme (g.O.Write.contents c.args.output.now) (g.O.Write.contents c.ask_databases-databases.new.output) c.args.options.now.scheme some.0 c.ask_databases-databases.result.1 some.1 c.ask_databases-databases.ensures.done c.ask_databases-databases.ensures.fails c.ask_databases-databases.ensures.unasked)

pub returns-in_err-databases-clause-some : goal.returns-in_err-databases-clause-some
returns-in_err-databases-clause-some g c =
    let source = c.args.options.now.scheme in
    let old = g.O.Write.contents c.args.output.now in
    let some = c.in_ok-scheme.ensures.some in
    let why = c.in_err-databases.field-0.0 in
    (some.0, err_asked c.args.options.now.question source some.0 old old c.from_residual-in_err-databases.result why c.from_residual-in_err-databases.ensures.1 (Keeps-refl old) (gave_none source some.0 why (has_given source some.0 c.in_ok-scheme.scheme some.1) c.in_err-databases.ensures.fails))
