use Rattle.fare_command.proofs.command.stores_command.Goals as goal

pub returns : goal.returns
returns c = c.with_option.ensures _ _ (c.command_with-command.ensures _ c.outbox_arg.ensures) c.scheme_arg.ensures
