use Rattle.std.proofs.Common.{◌≡◌, ◌↔◌, Some, option_map, sym, ap, subst, ◌∙◌}
use Rattle.std.proofs.lemmas.Option.{none-some, same_Some}
use Rattle.std.proofs.lemmas.Result.{IfOk-weaker}
use Rattle.sqlite_schema.specs.declared.command.Command.{Command}
use Rattle.fare_layout.specs.Commands.{moved, IsMeant, IsSimpleCommand}
use Rattle.fare_layout.proofs.Unread.{command_of}
use Rattle.fare_layout.proofs.meaning.keeps_meaning.Goals as goal

pub returns-in-Some-clause-keeps : goal.returns-in-Some-clause-keeps
returns-in-Some-clause-keeps c =
    let means : (k : Command) → (option_map command_of c.in_ok-wanted.field-0 ≡ Some k) ↔ IsMeant c.args.own.now c.args.sql.now k = c.in_ok-wanted.ensures.given in
    IfOk-weaker c.is_meant.result _ _ (λ right same holds k meant.
    let e : c.in-Some.wanted.compiled.command ≡ k = same_Some _ _ (sym (ap (option_map command_of) c.in-Some.is) ∙ (means k).1 meant) in
    subst (λ w. IsMeant c.args.schema.now c.args.sql.now (moved c.args.place w)) e (same holds)) c.is_meant.ensures.same

pub returns-in-Some-clause-found : goal.returns-in-Some-clause-found
returns-in-Some-clause-found c =
    let means : (k : Command) → (option_map command_of c.in_ok-wanted.field-0 ≡ Some k) ↔ IsMeant c.args.own.now c.args.sql.now k = c.in_ok-wanted.ensures.given in
    IfOk-weaker c.is_meant.result _ _ (λ right found k meant simple keeps.
    let e : k ≡ c.in-Some.wanted.compiled.command = sym (same_Some _ _ (sym (ap (option_map command_of) c.in-Some.is) ∙ (means k).1 meant)) in
    found (subst IsSimpleCommand e simple) (subst (λ w. IsMeant c.args.schema.now c.args.sql.now (moved c.args.place w)) e (keeps k meant))) c.is_meant.ensures.found

pub returns-in-None-clause-found : goal.returns-in-None-clause-found
returns-in-None-clause-found c k meant simple keeps =
    let means : (k : Command) → (option_map command_of c.in_ok-wanted.field-0 ≡ Some k) ↔ IsMeant c.args.own.now c.args.sql.now k = c.in_ok-wanted.ensures.given in
    absurd (none-some _ (sym (ap (option_map command_of) c.in-None.is) ∙ (means k).1 meant))
