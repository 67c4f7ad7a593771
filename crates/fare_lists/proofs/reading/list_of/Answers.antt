use Rattle.std.proofs.Common.{◌≡◌, ◌++◌, ◌∷◌, ◌∙◌, ◌+◌, [], List, map, take, ap, subst, sym}
use Rattle.std.proofs.lemmas.List.{take_more, take_all}
use Rattle.sqlite_value.specs.Order.{Row}
use Rattle.fare_opening.proofs.Standing.{matched_some, matched_none}
use Rattle.fare_lists.specs.Lists.{told_list, cells, behind_ids}
use Rattle.fare_lists.proofs.Numbers.{one_more_row, no_numbers}
use Rattle.fare_lists.proofs.reading.list_of.Goals as goal

pub loop-row-preserved : goal.loop-row-preserved
loop-row-preserved c =
    let rows : List Row = c.args.rows.now in
    let k = c.loop-row.row-index in
    let r : Row = c.row-item.result in
    let more : take (k + 1) rows ≡ take k rows ++ r ∷ [] = take_more rows k r c.loop-row-test.true ∙ ap (λ x. take k rows ++ x ∷ []) (sym c.row-item.is) in
    let is = matched_some c.in_ok-numbers.field-0 c.in-Some.numbers _ _ c.in-Some.is c.in_ok-numbers.ensures in
    subst (λ xs. behind_ids (take (k + 1) rows) ≡ map cells (told_list xs)) (sym c.in_ok-push.ensures.items) (one_more_row rows k r c.loop-row.list.items c.in-Some.numbers more c.loop-row.invariant is)

pub returns-in_default : goal.returns-in_default
returns-in_default c = no_numbers c.args.rows.now c.loop-row.row-index c.row-item.result _ c.loop-row-test.true c.row-item.is (matched_none c.in_ok-numbers.field-0 _ _ c.in_default.is c.in_ok-numbers.ensures)

pub returns : goal.returns
returns c = subst (λ (xs : List Row). behind_ids xs ≡ map cells (told_list c.loop-row.list.items)) (take_all c.loop-row.row-index c.args.rows.now c.loop-row-test.false) c.loop-row.invariant
