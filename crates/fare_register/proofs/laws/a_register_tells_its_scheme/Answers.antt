use Rattle.std.proofs.Common.{refl}
use Rattle.fare_register.proofs.Told.{one_register, lines_read, scheme_has_room}
use Rattle.fare_register.proofs.laws.a_register_tells_its_scheme.Goals as goal

pub returns-clause-room : goal.returns-clause-room
returns-clause-room c = scheme_has_room

pub returns-clause-lines : goal.returns-clause-lines
returns-clause-lines c scheme zone = refl

pub returns-clause-one : goal.returns-clause-one
returns-clause-one c = one_register

pub returns-clause-read : goal.returns-clause-read
returns-clause-read c = lines_read
