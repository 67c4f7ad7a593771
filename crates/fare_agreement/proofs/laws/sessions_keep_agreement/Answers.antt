use Rattle.fare_agreement.proofs.Sessions.{sessions_keep, sessions_kept, sessions_last}
use Rattle.fare_agreement.proofs.laws.sessions_keep_agreement.Goals as goal

pub returns-clause-agrees : goal.returns-clause-agrees
returns-clause-agrees c = λ sc lists h qs all is of. (sessions_keep sc lists all h qs is of).agrees

pub returns-clause-grew : goal.returns-clause-grew
returns-clause-grew c = λ sc lists h qs all is of. (sessions_keep sc lists all h qs is of).grew

pub returns-clause-kept : goal.returns-clause-kept
returns-clause-kept c = λ sc lists h qs all is of. sessions_kept sc lists all h qs is of

pub returns-clause-lasts : goal.returns-clause-lasts
returns-clause-lasts c = λ sc lists h qs all is of. (sessions_keep sc lists all h qs is of).lasts

pub returns-clause-still : goal.returns-clause-still
returns-clause-still c = λ sc lists h qs all is of. sessions_last sc lists all h qs is of
