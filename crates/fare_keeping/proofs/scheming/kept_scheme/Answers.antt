use Rattle.std.proofs.Common.{subst}
use Rattle.sqlite.specs.Held.{state}
use Rattle.fare_opening.proofs.Standing.{matched_some}
use Rattle.fare_trace.specs.Schemes.{MakesNone}
use Rattle.fare_keeping.specs.Keeping.{SaysNoScheme, of_scheme}
use Rattle.fare_keeping.proofs.Since.{err_says}
use Rattle.fare_keeping.proofs.Told.{says_unmade}
use Rattle.fare_keeping.proofs.scheming.kept_scheme.Goals as goal

pub returns-in_err-zoned_scheme_of-in-Some-clause-says : goal.returns-in_err-zoned_scheme_of-in-Some-clause-says
returns-in_err-zoned_scheme_of-in-Some-clause-says g c clean lawful =
    let db = (state g.S.Store c.args.conn.now).now in
    let fault = c.in_err-zoned_scheme_of-in-Some.field-0.0 in
    let keeps = matched_some c.in_ok-lines.field-0 c.in-Some.lines _ _ c.in-Some.is (c.in_ok-lines.ensures.lines clean lawful) in
    let none = subst (λ ls. MakesNone ls fault) c.deref.ensures.value c.in_err-zoned_scheme_of-in-Some.ensures.fails in
    err_says c.from_residual-in_err-zoned_scheme_of-in-Some.result (SaysNoScheme db) (of_scheme fault) c.from_residual-in_err-zoned_scheme_of-in-Some.ensures.1 (says_unmade db c.in-Some.lines.items fault keeps none)
