use Rattle.fare_command.proofs.command.plain_serve_command.Goals as goal

pub returns : goal.returns
returns c = c.with_option.ensures _ _ (c.with_option-command-2.ensures _ _ (c.with_option-command.ensures _ _ (c.command_with-command.ensures _ c.port_arg.ensures) c.turns_arg.ensures) c.outbox_arg.ensures) c.scheme_arg.ensures
