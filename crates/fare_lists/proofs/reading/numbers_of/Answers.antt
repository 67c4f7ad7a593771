use Rattle.std.proofs.Common.{◌≡◌, ◌<◌, ◌≤◌, ◌+◌, ◌-◌, length, take, drop, subst, sym}
use Rattle.fare_lists.specs.Lists.{cells}
use Rattle.fare_lists.proofs.Numbers.{one_more_cell, all_cells, no_number}
use Rattle.fare_lists.proofs.reading.numbers_of.Goals as goal

pub loop-at-preserved : goal.loop-at-preserved
loop-at-preserved c =
    let row = c.args.row.now in
    let at = c.loop-at.at in
    let low : at < length row = subst (λ n. at < n) c.column_count-at-end.ensures c.loop-at-test.true in
    subst (λ xs. take (at + 1 - 1) (drop 1 row) ≡ cells xs) (sym c.in_ok-push.ensures.items) (one_more_cell row at c.in-Some.number c.loop-at.numbers.items c.loop-at.auto.at low c.loop-at.invariant c.in-Some.ensures)

pub returns-in_default : goal.returns-in_default
returns-in_default c = no_number c.args.row.now c.loop-at.at c.loop-at.auto.at (subst (λ n. c.loop-at.at < n) c.column_count-at-end.ensures c.loop-at-test.true) c.in_default.ensures

pub returns : goal.returns
returns c = all_cells c.args.row.now c.loop-at.at c.loop-at.numbers.items (subst (λ n. n ≤ c.loop-at.at) c.column_count-at-end.ensures c.loop-at-test.false) c.loop-at.invariant
