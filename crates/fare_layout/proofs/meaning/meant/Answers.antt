use Rattle.std.proofs.Common.{◌≡◌, None, Ok, sym, ◌∙◌}
use Rattle.std.proofs.lemmas.Option.{none-some}
use Rattle.sqlite_resolve.specs.Compile.{compiled}
use Rattle.fare_layout.specs.Commands.{essence}
use Rattle.fare_layout.proofs.Creation.{some_is}
use Rattle.fare_layout.proofs.Unread.{no_meaning}
use Rattle.fare_layout.proofs.meaning.meant.Goals as goal

pub returns-in-Some-clause-given : goal.returns-in-Some-clause-given
returns-in-Some-clause-given c command =
    let e : compiled c.args.schema.now c.args.sql.now ≡ Ok c.in-Some.given.compiled = some_is c.in_ok-given.field-0 c.in-Some.given (λ s. compiled c.args.schema.now c.args.sql.now ≡ Ok s.compiled) c.in-Some.is c.in_ok-given.ensures.found in
    rw e (c.plain.ensures command)

pub returns-in-None-clause-given : goal.returns-in-None-clause-given
returns-in-None-clause-given c command =
    let e : essence (compiled c.args.schema.now c.args.sql.now) ≡ None = no_meaning _ (c.in_ok-given.ensures.lacks c.in-None.is) in
    (λ one. absurd (none-some _ one), λ one. absurd (none-some _ (sym e ∙ one)))
