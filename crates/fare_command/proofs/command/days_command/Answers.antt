use Rattle.fare_command.proofs.command.days_command.Goals as goal

pub returns : goal.returns
returns c = c.with_option.ensures _ _ c.stores_command.ensures c.day_arg.ensures
