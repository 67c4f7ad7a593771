use Rattle.std.proofs.Common.{rules}
use Rattle.http.specs.Request.{head_of}
use Rattle.fare_request.proofs.Named.{named}
use Rattle.fare_request.proofs.asking.named_in.Goals as goal

pub returns : goal.returns
returns c = named c.args.key.now (head_of c.args.request.now) c.in_ok-query.field-0.now c.owner_with.result (search rules) c.owner_with.ensures
