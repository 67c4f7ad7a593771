use Rattle.fare_command.proofs.command.serve_command.Goals as goal

pub returns : goal.returns
returns c = c.with_option.ensures _ _ c.lasting_serve_command.ensures c.ask_arg.ensures
