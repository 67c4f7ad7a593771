use Rattle.fare_command.proofs.command.waiting_serve_command.Goals as goal

pub returns : goal.returns
returns c = c.with_option.ensures _ _ (c.with_option-command.ensures _ _ c.plain_serve_command.ensures c.read_arg.ensures) c.write_arg.ensures
