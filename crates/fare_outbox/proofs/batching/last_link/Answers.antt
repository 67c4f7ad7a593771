use Rattle.std.proofs.Common.{◌≡◌, ◌+◌, ◌∷◌, [], ◌++◌, ◌==◌, Some, None, true, false, take, sym, ap, ◌∙◌, arith}
use Rattle.std.specs.Prelude.{Bool, if◌then◌else◌}
use Rattle.std.proofs.lemmas.Bool.Decides.{nat_tests}
use Rattle.std.proofs.lemmas.List.{take_more}
use Rattle.fare_outbox.specs.Batches.{link_among}
use Rattle.fare_outbox.proofs.Batches.{among-push}
use Rattle.fare_outbox.proofs.batching.last_link.Goals.{then-eq, else-eq}
use Rattle.fare_outbox.proofs.batching.last_link.Goals as goal

pub loop-row-preserved : goal.loop-row-preserved
loop-row-preserved c =
    let rows = c.args.rows.now in
    let k = c.loop-row.row-index in
    let d = c.args.device in
    let r = c.row-item.result in
    let more : link_among None d (take (k + 1) rows) ≡ (if d == r.device then Some r.link else link_among None d (take k rows)) =
    ap (link_among None d) (take_more rows k r (omega arith) ∙ ap (λ x. take k rows ++ x ∷ []) (sym c.row-item.is)) ∙ among-push None d (take k rows) r in
    elim c.if-eq.branch [
      | then-eq w ↦ (
          let test : (d == r.device) ≡ true = grind (arith, nat_tests, c.eq.ensures, c.device.ensures, w.if-eq.true) in
          w.last-is ∙ (ap Some w.link.ensures.value ∙ sym (more ∙ ap (λ (b : Bool). if b then Some r.link else link_among None d (take k rows)) test)))
      | else-eq w ↦ (
          let test : (d == r.device) ≡ false = grind (arith, nat_tests, c.eq.ensures, c.device.ensures, w.if-eq.false) in
          w.last-is ∙ (c.loop-row.invariant ∙ sym (more ∙ ap (λ (b : Bool). if b then Some r.link else link_among None d (take k rows)) test)))
    ]
