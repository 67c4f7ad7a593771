use Rattle.std.proofs.Common.{◌≡◌, ◌++◌, ◌∷◌, ◌∙◌, ◌+◌, [], List, take, ap, sym, subst, refl}
use Rattle.std.proofs.lemmas.List.{take_more, take_all}
use Rattle.sqlite.specs.Held.{state}
use Rattle.sqlite_value.specs.Order.{Row}
use Rattle.fare_opening.proofs.Copied.{AreCopied, none_copied, one_copied}
use Rattle.fare_opening.proofs.moving.put_copies.Goals as goal

pub loop-row-init : goal.loop-row-init
loop-row-init g c = (refl, none_copied (state g.S.Store c.args.tx.now.conn.now) c.args.put.now)

pub loop-row-preserved : goal.loop-row-preserved
loop-row-preserved g c =
    let before = state g.S.Store c.args.tx.now.conn.now in
    let so_far = state g.S.Store c.loop-row.tx.conn.now in
    let after = state g.S.Store c.put_copy.new.tx.conn.now in
    let put = c.args.put.now in
    let rows : List Row = c.args.rows.now in
    let k = c.loop-row.row-index in
    let r : Row = c.row-item.result in
    let more : take (k + 1) rows ≡ take k rows ++ r ∷ [] = take_more rows k r c.loop-row-test.true ∙ ap (λ x. take k rows ++ x ∷ []) (sym c.row-item.is) in
    let one = c.in_ok-put_copy.ensures in
    (one.same_reference ∙ c.loop-row.invariant.0, subst (AreCopied before after put) (sym more) (one_copied before so_far after put (take k rows) c.loop-row.invariant.1 r one.made one.inside one.survives))

pub returns-clause-made : goal.returns-clause-made
returns-clause-made g c =
    let before = state g.S.Store c.args.tx.now.conn.now in
    let after = state g.S.Store c.loop-row.tx.conn.now in
    let rows : List Row = c.args.rows.now in
    let all : AreCopied before after c.args.put.now rows = subst (AreCopied before after c.args.put.now) (take_all c.loop-row.row-index rows c.loop-row-test.false) c.loop-row.invariant.1 in
    all.made
