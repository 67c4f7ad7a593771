use Rattle.std.proofs.Common.{◌≡◌, ◌+◌, ◌∷◌, ◌++◌, [], List, sym, ap, ◌∙◌, subst}
use Rattle.fare_inbox_queue.specs.declared.ack_line.AckLine.{AckLine}
use Rattle.fare_inbox_queue.specs.declared.ack_passes.AckPass.{AckPass}
use Rattle.fare_inbox_queue.specs.declared.ack_passes.HearPass.{HearPass}
use Rattle.fare_inbox_queue.specs.LinePasses.{put_list, IsAckOf}
use Rattle.fare_writer.specs.declared.teller.Teller.{Teller}
use Rattle.fare_collect.specs.Opening.{AreNew}
use Rattle.fare_collect.proofs.Posted.{new_more}
use Rattle.fare_collect.proofs.opening.open_lines.Goals as goal

pub loop-index-preserved : goal.loop-index-preserved
loop-index-preserved c =
    let inv = c.loop-index.invariant in
    let teller : Teller = c.new-in-loop-index.result in
    let pass : teller.pass ≡ c.in-Ok.pass = c.new-in-loop-index.ensures.pass in
    let lines : c.push.new.self.items ≡ c.loop-index.lines.items ++ c.in-Ok.line ∷ [] = c.in_ok-push.ensures.items in
    let tellers : c.push-in-loop-index.new.self.items ≡ c.loop-index.tellers.items ++ teller ∷ [] = c.in_ok-push-2.ensures.items in
    let hears : c.push-in-loop-index-2.new.self.items ≡ c.loop-index.hears.items ++ c.in-Ok.hear ∷ [] = c.in_ok-push-3.ensures.items in
    let P : List AckLine × (List Teller × List HearPass) → Type 0 = λ y. AreNew (c.loop-index._index + 1) y.0 y.1.0 y.1.1 in
    subst P (λ i. (sym lines i, (sym tellers i, sym hears i)))
    (new_more c.loop-index._index c.loop-index.lines.items c.loop-index.tellers.items c.loop-index.hears.items c.in-Ok.line teller c.in-Ok.hear inv
    (subst (λ (p : AckPass). IsAckOf c.in-Ok.line p) (sym pass) c.in-Ok.ensures.passes.0) c.in-Ok.ensures.passes.1 (ap put_list pass ∙ c.in-Ok.ensures.lists.0) c.in-Ok.ensures.lists.1)
