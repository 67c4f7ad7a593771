use Rattle.std.proofs.Common.{refl, []}
use Rattle.fare_agreement.specs.WorkedStop.{takes_both}
use Rattle.fare_agreement.proofs.WorkedSteps.{lists_numbered, opening_agrees, takes_begun, taken_agrees, goes_on, too_soon}
use Rattle.fare_agreement.proofs.worked.a_stop_between_take_and_prune.Goals as goal

pub returns-clause-numbered : goal.returns-clause-numbered
returns-clause-numbered c = lists_numbered

pub returns-clause-opening : goal.returns-clause-opening
returns-clause-opening c = opening_agrees

pub returns-clause-begun : goal.returns-clause-begun
returns-clause-begun c = takes_begun

pub returns-clause-left : goal.returns-clause-left
returns-clause-left c = (takes_both, (0, refl), ([], refl))

pub returns-clause-taken : goal.returns-clause-taken
returns-clause-taken c = refl

pub returns-clause-rows : goal.returns-clause-rows
returns-clause-rows c = (refl, refl)

pub returns-clause-agrees : goal.returns-clause-agrees
returns-clause-agrees c = taken_agrees

pub returns-clause-goes_on : goal.returns-clause-goes_on
returns-clause-goes_on c = goes_on

pub returns-clause-gone : goal.returns-clause-gone
returns-clause-gone c = (refl, refl)

pub returns-clause-too_soon : goal.returns-clause-too_soon
returns-clause-too_soon c = too_soon
