use Rattle.fare_command.proofs.command.lane_command.Goals as goal

pub returns : goal.returns
returns c = c.with_option.ensures _ _ (c.with_option-command.ensures _ _ c.stores_command.ensures c.owner_arg.ensures) c.device_arg.ensures
