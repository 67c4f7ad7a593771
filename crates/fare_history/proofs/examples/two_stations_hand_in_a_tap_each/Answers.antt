use Rattle.std.proofs.Common.{refl}
use Rattle.fare_history.proofs.Worked.{gathering_is, none_stores_twice, none_acknowledges_ahead, none_acknowledges_unstated, two_may_be_left, none_has_a_crowded_inbox}
use Rattle.fare_history.proofs.examples.two_stations_hand_in_a_tap_each.Goals as goal

pub returns-clause-whole : goal.returns-clause-whole
returns-clause-whole c = gathering_is

pub returns-clause-rows : goal.returns-clause-rows
returns-clause-rows c = (refl, refl, refl)

pub returns-clause-rest : goal.returns-clause-rest
returns-clause-rest c = (refl, refl, refl, refl)

pub returns-clause-twice : goal.returns-clause-twice
returns-clause-twice c = none_stores_twice

pub returns-clause-ahead : goal.returns-clause-ahead
returns-clause-ahead c = none_acknowledges_ahead

pub returns-clause-unstated : goal.returns-clause-unstated
returns-clause-unstated c = none_acknowledges_unstated

pub returns-clause-left : goal.returns-clause-left
returns-clause-left c = two_may_be_left

pub returns-clause-crowded : goal.returns-clause-crowded
returns-clause-crowded c = none_has_a_crowded_inbox
