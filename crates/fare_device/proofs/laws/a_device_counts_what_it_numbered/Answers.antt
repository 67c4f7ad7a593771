use Rattle.fare_device.proofs.Numbering.{numbered_fresh, numbered_tap, numbered_turn, numbered_ack, numbered_day_ack, numbered_cursor, numbered_count}
use Rattle.fare_device.proofs.laws.a_device_counts_what_it_numbered.Goals as goal

pub returns-clause-fresh : goal.returns-clause-fresh
returns-clause-fresh c = numbered_fresh

pub returns-clause-tapped : goal.returns-clause-tapped
returns-clause-tapped c = numbered_tap

pub returns-clause-turned : goal.returns-clause-turned
returns-clause-turned c = numbered_turn

pub returns-clause-acknowledged : goal.returns-clause-acknowledged
returns-clause-acknowledged c = numbered_ack

pub returns-clause-day_acknowledged : goal.returns-clause-day_acknowledged
returns-clause-day_acknowledged c = numbered_day_ack

pub returns-clause-sent : goal.returns-clause-sent
returns-clause-sent c = numbered_cursor

pub returns-clause-stated : goal.returns-clause-stated
returns-clause-stated c = numbered_count
