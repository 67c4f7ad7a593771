use Rattle.std.proofs.Common.{ap, ◌∙◌, arith}
use Rattle.std.proofs.lemmas.List.{length-map}
use Rattle.fare_inbox_queue.specs.declared.ack_rule.View.{View}
use Rattle.fare_inbox_queue.specs.Line.{stored_in}
use Rattle.fare_inbox_queue.proofs.Told.{stored_more}
use Rattle.fare_inbox_queue.proofs.LineSteps.{puts, stands, stands_sent}
use Rattle.fare_inbox_queue.proofs.ack_line.AckLine.put.Goals as goal

pub push_as-requires-clause-rule : goal.push_as-requires-clause-rule
push_as-requires-clause-rule g c = (puts _ _ _ _ c.requires.queue.puts c.requires.stored, stands _ _)

pub returns-in-Ok-clause-stored : goal.returns-in-Ok-clause-stored
returns-in-Ok-clause-stored g c = λ device. ap (λ (v : View). stored_in v.sent device) c.in-Ok.ensures.rule ∙ stored_more _ (record { item = c.args.item; stored = c.args.stored }) device

pub returns-in-Err-clause-enough : goal.returns-in-Err-clause-enough
returns-in-Err-clause-enough g c =
    let held = c.in-Err.ensures.rule.2 in
    let sent = stands_sent _ held.0 c.requires.queue.puts held.2 in simp length-map (omega arith)
