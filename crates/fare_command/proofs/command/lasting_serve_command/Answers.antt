use Rattle.fare_command.proofs.command.lasting_serve_command.Goals as goal

pub returns : goal.returns
returns c = c.with_option.ensures _ _ (c.with_option-command-3.ensures _ _ (c.with_option-command-2.ensures _ _ (c.with_option-command.ensures _ _ c.waiting_serve_command.ensures c.rounds_arg.ensures) c.until_arg.ensures) c.patience_arg.ensures) c.round_arg.ensures
