use Rattle.std.proofs.Common.{◌≡◌, ◌++◌, ◌∷◌, [], take, length, sym, ap, ◌∙◌, arith}
use Rattle.std.proofs.lemmas.List.{take_more}
use Rattle.std.proofs.Math.Seq.{take-length}
use Rattle.fare_store.specs.OutboxWords.{pruned, pruned_all}
use Rattle.fare_store.specs.PlainOutboxWords.{plain_outbox}
use Rattle.fare_store.proofs.Pruning.{pruned_all-push}
use Rattle.fare_store.proofs.plain_outbox.PlainOutbox.drop_all.Goals as goal

pub loop-place-preserved : goal.loop-place-preserved
loop-place-preserved c =
    let lanes = c.args.lanes.now in
    let k = c.loop-place.place in
    let r = c.index-lanes-place.result in
    let o = plain_outbox c.args.self.now in
    let at = take_more lanes k r (omega arith) ∙ ap (λ x. take k lanes ++ x ∷ []) (sym c.index-lanes-place.is) in
    c.drop_upto.ensures.left ∙ ap (pruned c.args.owner r.0 r.1) c.loop-place.invariant ∙ sym (ap (λ l. pruned_all c.args.owner l o) at ∙ pruned_all-push c.args.owner (take k lanes) r o)

pub returns : goal.returns
returns c =
    let lanes = c.args.lanes.now in
    let past = c.loop-place-test.false in
    let within = c.loop-place.auto.place-end in
    let all : c.loop-place.place ≡ length lanes = omega (arith, past, within) in
    c.loop-place.invariant ∙ ap (λ l. pruned_all c.args.owner l (plain_outbox c.args.self.now)) (ap (λ n. take n lanes) all ∙ take-length lanes)
