use Rattle.std.proofs.Common.{arith}
use Rattle.fare_writer.proofs.Handled.{tellers_set}
use Rattle.fare_writer.proofs.handling.tell.Goals as goal

pub returns-then-is_err-clause-ready : goal.returns-then-is_err-clause-ready
returns-then-is_err-clause-ready g c = tellers_set c.args.lines.now c.args.tellers.now c.in-Some.place _ c.index-lines-place.result c.requires.ready (omega arith) c.index-lines-place.is c.put.ensures.queue

pub returns-clause-ready : goal.returns-clause-ready
returns-clause-ready g c = tellers_set c.args.lines.now c.args.tellers.now c.in-Some.place _ c.index-lines-place.result c.requires.ready (omega arith) c.index-lines-place.is c.put.ensures.queue
