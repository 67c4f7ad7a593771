use Rattle.fare_frame.proofs.Places.{rest_is_short, rest_or_fault, one_fault}
use Rattle.fare_frame.proofs.Streams.{frame_or_none}
use Rattle.fare_frame.proofs.laws.a_place_holds_one_thing.Goals as goal

pub returns-clause-rest : goal.returns-clause-rest
returns-clause-rest c = rest_or_fault

pub returns-clause-fault : goal.returns-clause-fault
returns-clause-fault c = one_fault

pub returns-clause-frame : goal.returns-clause-frame
returns-clause-frame c = frame_or_none

pub returns-clause-short : goal.returns-clause-short
returns-clause-short c = rest_is_short
