use Rattle.std.proofs.Common.{refl}
use Rattle.fare_history.proofs.Worked.{whole_is, whole_is_finished, none_left, cut_is, none_is_passed_over, none_before_the_last, none_of_a_closed_day, none_is_crowded}
use Rattle.fare_history.proofs.examples.an_owner_takes_three_taps_and_their_statement.Goals as goal

pub returns-clause-whole : goal.returns-clause-whole
returns-clause-whole c = λ clock. (whole_is clock, whole_is_finished clock)

pub returns-clause-given : goal.returns-clause-given
returns-clause-given c = (refl, refl, refl, refl, refl)

pub returns-clause-pruned : goal.returns-clause-pruned
returns-clause-pruned c = (none_left, refl, refl, refl)

pub returns-clause-cut : goal.returns-clause-cut
returns-clause-cut c = cut_is

pub returns-clause-kept : goal.returns-clause-kept
returns-clause-kept c = (refl, refl, refl)

pub returns-clause-passed_over : goal.returns-clause-passed_over
returns-clause-passed_over c = none_is_passed_over

pub returns-clause-before_the_last : goal.returns-clause-before_the_last
returns-clause-before_the_last c = none_before_the_last

pub returns-clause-closed : goal.returns-clause-closed
returns-clause-closed c = none_of_a_closed_day

pub returns-clause-crowded : goal.returns-clause-crowded
returns-clause-crowded c = none_is_crowded
