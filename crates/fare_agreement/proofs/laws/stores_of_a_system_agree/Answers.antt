use Rattle.fare_agreement.proofs.DevicesAgree.{devices_numbered, system_agrees, arrived_of_lists, sessions_of_lists, same_after_all}
use Rattle.fare_agreement.proofs.laws.stores_of_a_system_agree.Goals as goal

pub returns-clause-numbered : goal.returns-clause-numbered
returns-clause-numbered c = devices_numbered

pub returns-clause-agrees : goal.returns-clause-agrees
returns-clause-agrees c = system_agrees

pub returns-clause-arrived : goal.returns-clause-arrived
returns-clause-arrived c = arrived_of_lists

pub returns-clause-sessions : goal.returns-clause-sessions
returns-clause-sessions c = λ sc s h qs system is. sessions_of_lists sc s system h qs is

pub returns-clause-same : goal.returns-clause-same
returns-clause-same c = same_after_all
