use Rattle.std.proofs.Common.{◌≡◌, ◌↔◌, Some, option_map, sym, ap, ◌∙◌}
use Rattle.std.proofs.lemmas.Option.{none-some, same_Some}
use Rattle.sqlite_schema.specs.declared.command.Command.{Command}
use Rattle.fare_layout.specs.Commands.{moved, IsMeant}
use Rattle.fare_layout.proofs.Unread.{command_of}
use Rattle.fare_layout.proofs.meaning.is_meant.Goals as goal

pub returns-in-Some-clause-same : goal.returns-in-Some-clause-same
returns-in-Some-clause-same c right =
    let means : (k : Command) → (option_map command_of c.in_ok-given.field-0 ≡ Some k) ↔ IsMeant c.args.schema.now c.args.sql.now k = c.in_ok-given.ensures.given in
    (means (moved c.args.place c.args.wanted.now)).0 (ap (option_map command_of) c.in-Some.is ∙ ap Some (c.same_command.ensures.same right))

pub returns-in-Some-clause-found : goal.returns-in-Some-clause-found
returns-in-Some-clause-found c simple meant =
    let means : (k : Command) → (option_map command_of c.in_ok-given.field-0 ≡ Some k) ↔ IsMeant c.args.schema.now c.args.sql.now k = c.in_ok-given.ensures.given in
    c.same_command.ensures.found simple (same_Some _ _ (sym (ap (option_map command_of) c.in-Some.is) ∙ (means (moved c.args.place c.args.wanted.now)).1 meant))

pub returns-in-None-clause-found : goal.returns-in-None-clause-found
returns-in-None-clause-found c simple meant =
    let means : (k : Command) → (option_map command_of c.in_ok-given.field-0 ≡ Some k) ↔ IsMeant c.args.schema.now c.args.sql.now k = c.in_ok-given.ensures.given in
    absurd (none-some _ (sym (ap (option_map command_of) c.in-None.is) ∙ (means (moved c.args.place c.args.wanted.now)).1 meant))
