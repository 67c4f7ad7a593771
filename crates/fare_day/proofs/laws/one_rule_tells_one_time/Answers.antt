use Rattle.fare_day.proofs.Rules.{same_offset, same_day, same_day_in_range}
use Rattle.fare_day.proofs.laws.one_rule_tells_one_time.Goals as goal

pub returns-clause-offset : goal.returns-clause-offset
returns-clause-offset c = same_offset

pub returns-clause-day : goal.returns-clause-day
returns-clause-day c = same_day

pub returns-clause-in_range : goal.returns-clause-in_range
returns-clause-in_range c = same_day_in_range
