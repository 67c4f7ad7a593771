use Rattle.std.proofs.Common.{rules}
use Rattle.http.specs.Request.{head_of}
use Rattle.fare_request.proofs.Named.{asks_at}
use Rattle.fare_request.proofs.asking.asked.Goals as goal

pub returns-in-Some : goal.returns-in-Some
returns-in-Some c = asks_at (head_of c.args.request.now) c.in-Some.place c.asked_at.result (search rules) (search rules) c.asked_at.ensures
