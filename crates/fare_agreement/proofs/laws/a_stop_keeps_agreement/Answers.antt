use Rattle.fare_agreement.proofs.Sessions.{stop_safe, begun_of}
use Rattle.fare_agreement.proofs.laws.a_stop_keeps_agreement.Goals as goal

pub returns-clause-agrees : goal.returns-clause-agrees
returns-clause-agrees c = λ sc lists h k q all is of left. (stop_safe sc lists all h k q is of left).agrees

pub returns-clause-grew : goal.returns-clause-grew
returns-clause-grew c = λ sc lists h k q all is of left. (stop_safe sc lists all h k q is of left).grew

pub returns-clause-kept : goal.returns-clause-kept
returns-clause-kept c = λ sc lists h k q all is of left. (stop_safe sc lists all h k q is of left).kept

pub returns-clause-begun : goal.returns-clause-begun
returns-clause-begun c = begun_of

pub returns-clause-lasts : goal.returns-clause-lasts
returns-clause-lasts c = λ sc lists h k q all is of left. (stop_safe sc lists all h k q is of left).lasts
