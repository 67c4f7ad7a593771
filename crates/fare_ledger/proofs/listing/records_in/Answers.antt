use Rattle.std.proofs.Common.{◌≡◌, ◌+◌, ◌++◌, [], ◌∷◌, take, sym, ap, subst, ◌∙◌}
use Rattle.std.proofs.lemmas.List.{take_more}
use Rattle.fare_ledger.specs.Shown.{ShowRows}
use Rattle.fare_ledger.proofs.Listed.{shows_pushed}
use Rattle.fare_ledger.proofs.listing.records_in.Goals as goal

pub loop-row-preserved : goal.loop-row-preserved
loop-row-preserved c =
    let rows = c.args.rows.now in
    let k = c.loop-row.row-index in
    let r = c.row-item.result in
    let more : take (k + 1) rows ≡ take k rows ++ r ∷ [] = take_more rows k r c.loop-row-test.true ∙ ap (λ x. take k rows ++ x ∷ []) (sym c.row-item.is) in
    subst (λ xs. ShowRows c.args.owner xs c.push.new.self.items) (sym more)
    (subst (ShowRows c.args.owner (take k rows ++ r ∷ [])) (sym c.in_ok-push.ensures.items) (shows_pushed c.args.owner (take k rows) c.loop-row.taps.items r c.in_ok-record.record c.loop-row.invariant c.in_ok-record.ensures))
