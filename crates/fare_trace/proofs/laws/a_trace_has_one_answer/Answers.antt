use Rattle.fare_trace.proofs.Clocks.{one_answer, one_output}
use Rattle.fare_trace.proofs.laws.a_trace_has_one_answer.Goals as goal

pub returns-clause-replies : goal.returns-clause-replies
returns-clause-replies c = one_answer

pub returns-clause-output : goal.returns-clause-output
returns-clause-output c = one_output
