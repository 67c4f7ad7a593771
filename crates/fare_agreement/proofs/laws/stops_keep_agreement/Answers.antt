use Rattle.fare_agreement.proofs.Sessions.{stops_safe}
use Rattle.fare_agreement.proofs.laws.stops_keep_agreement.Goals as goal

pub returns-clause-agrees : goal.returns-clause-agrees
returns-clause-agrees c = λ sc lists h k qs all is left. (stops_safe sc lists all h k qs is left).agrees

pub returns-clause-grew : goal.returns-clause-grew
returns-clause-grew c = λ sc lists h k qs all is left. (stops_safe sc lists all h k qs is left).grew

pub returns-clause-kept : goal.returns-clause-kept
returns-clause-kept c = λ sc lists h k qs all is left. (stops_safe sc lists all h k qs is left).kept

pub returns-clause-lasts : goal.returns-clause-lasts
returns-clause-lasts c = λ sc lists h k qs all is left. (stops_safe sc lists all h k qs is left).lasts

pub returns-clause-still : goal.returns-clause-still
returns-clause-still c = λ sc lists h k qs all is left. (stops_safe sc lists all h k qs is left).last_kept
