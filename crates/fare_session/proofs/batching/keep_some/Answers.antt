use Rattle.std.proofs.Common.{◌≡◌, ◌∷◌, drop, sym, ap, ◌∙◌, arith}
use Rattle.std.proofs.lemmas.List.{drop_more}
use Rattle.fare_session.specs.Batching.{TakesFirst}
use Rattle.fare_session.proofs.Takes.{handed}
use Rattle.fare_session.proofs.Batches.{one_taken, one_failed}
use Rattle.fare_session.proofs.batching.keep_some.Goals as goal

pub returns-clause-took : goal.returns-clause-took
returns-clause-took g c =
    let items = c.args.items.now in
    let i = c.index-items-0.result in
    let split : items ≡ i ∷ drop 1 items = drop_more items 0 i (omega arith) ∙ ap (λ x. x ∷ drop 1 items) (sym c.index-items-0.is) in
    one_taken (g.L.Ledger.standing c.args.ledger.now) (g.L.Ledger.standing c.keep_lead.new.ledger) (g.L.Ledger.standing c.keep_item.new.ledger) items i (drop 1 items) c.in_ok-kept.kept c.args.taken.now c.keep_lead.new.taken c.keep_item.new.taken
    split (omega arith) c.in_ok-kept.ensures.1 c.in_ok-keep_item.ensures

pub returns-in_err-keep_item-clause-took : goal.returns-in_err-keep_item-clause-took
returns-in_err-keep_item-clause-took g c =
    let items = c.args.items.now in
    let lo = g.L.Ledger.standing c.args.ledger.now in
    let ln = g.L.Ledger.standing c.keep_item.new.ledger in
    let i = c.index-items-0.result in
    let split : items ≡ i ∷ drop 1 items = drop_more items 0 i (omega arith) ∙ ap (λ x. x ∷ drop 1 items) (sym c.index-items-0.is) in
    let f = c.in_err-keep_item.field-0.0 in
    handed (λ z. TakesFirst lo ln items z c.args.taken.now c.keep_item.new.taken) c.from_residual-in_err-keep_item.result f c.from_residual-in_err-keep_item.ensures.1
    (one_failed lo (g.L.Ledger.standing c.keep_lead.new.ledger) ln items i (drop 1 items) c.in_ok-kept.kept c.args.taken.now c.keep_lead.new.taken c.keep_item.new.taken split (omega arith) c.in_ok-kept.ensures.1 f c.in_err-keep_item.ensures)
