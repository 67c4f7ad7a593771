use Rattle.std.proofs.Common.{None}
use Rattle.fare_inbox_queue.specs.LinePasses.{heard_list, IsHearOf}
use Rattle.fare_collect.specs.Stations.{HasAnswered}
use Rattle.fare_collect.proofs.reading.answer_all.Given as goal

abbrev pub invariant-loop : goal.invariant-loop
invariant-loop g l = IsHearOf l.line l.hear × HasAnswered (g.S.Source.talk l.fn.source) (g.S.Source.talk l.source) (heard_list l.fn.hear) (heard_list l.hear) None
