use Rattle.fare_world.proofs.Kept.{moves_step}
use Rattle.fare_world.proofs.laws.each_event_is_a_lane_step.Goals as goal

pub returns-clause-system : goal.returns-clause-system
returns-clause-system c = λ sc s e h. (moves_step sc s e h).system

pub returns-clause-lane : goal.returns-clause-lane
returns-clause-lane c = λ sc s e h. (moves_step sc s e h).lane

pub returns-clause-numbered : goal.returns-clause-numbered
returns-clause-numbered c = λ sc s e h. (moves_step sc s e h).taps
