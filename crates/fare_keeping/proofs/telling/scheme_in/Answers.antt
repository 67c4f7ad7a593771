use Rattle.std.proofs.Common.{subst}
use Rattle.fare_lists.specs.Lists.{told}
use Rattle.fare_opening.proofs.Standing.{matched_some}
use Rattle.fare_trace.specs.Schemes.{MakesNone}
use Rattle.fare_keeping.specs.Keeping.{TellsNone, of_scheme}
use Rattle.fare_keeping.proofs.Since.{err_says}
use Rattle.fare_keeping.proofs.Told.{says_none}
use Rattle.fare_keeping.proofs.telling.scheme_in.Goals as goal

pub returns-in_err-scheme_of-clause-none : goal.returns-in_err-scheme_of-clause-none
returns-in_err-scheme_of-clause-none c =
    let lists = told c.args.lists.now in
    let fault = c.in_err-scheme_of.field-0.0 in
    let tells = matched_some c.in_ok-lines.field-0 c.in-Some.lines _ _ c.in-Some.is c.in_ok-lines.ensures in
    let none = subst (λ ls. MakesNone ls fault) c.deref.ensures.value c.in_err-scheme_of.ensures.fails in
    err_says c.from_residual-in_err-scheme_of.result (TellsNone lists) (of_scheme fault) c.from_residual-in_err-scheme_of.ensures.1 (says_none lists c.in-Some.lines.items fault tells none)
