use Rattle.fare_request.proofs.Single.{one_ask}
use Rattle.fare_request.proofs.laws.a_request_asks_for_one_thing.Goals as goal

pub returns : goal.returns
returns c = λ p one other asks told. one_ask p one other asks told
