use Rattle.std.proofs.Common.{◌≡◌, ◌++◌, ◌∷◌, ◌∙◌, ◌+◌, [], List, take, ap, sym, subst, refl, Vec, Global, ℕ}
use Rattle.std.proofs.lemmas.List.{take_more, take_all}
use Rattle.sqlite.specs.Held.{state}
use Rattle.sqlite.specs.Values.{bound}
use Rattle.fare_lists.specs.Lists.{told_list, rows_from, row_at}
use Rattle.fare_lists.proofs.Put.{ArePut, HasPut, none, one_more}
use Rattle.fare_lists.proofs.Rows.{rows_more}
use Rattle.fare_lists.proofs.writing.put_rows.Goals as goal

pub loop-place-init : goal.loop-place-init
loop-place-init g c = (refl, none (state g.S.Store c.args.tx.now.conn.now) c.args.put.now)

pub loop-place-preserved : goal.loop-place-preserved
loop-place-preserved g c =
    let before = state g.S.Store c.args.tx.now.conn.now in
    let so_far = state g.S.Store c.loop-place.tx.conn.now in
    let after = state g.S.Store c.put_row.new.tx.conn.now in
    let put = c.args.put.now in
    let rows : List (Vec ℕ Global) = c.args.rows.now in
    let k = c.loop-place.place in
    let r : Vec ℕ Global = c.index-rows-place.result in
    let more : take (k + 1) rows ≡ take k rows ++ r ∷ [] = take_more rows k r c.loop-place-test.true ∙ ap (λ x. take k rows ++ x ∷ []) (sym c.index-rows-place.is) in
    let all = rows_more rows k r c.loop-place-test.true more in
    let is : bound c.as_slice-in-loop-place.result.now ≡ row_at (k + 1) r.items = ap bound c.as_slice-in-loop-place.ensures.value ∙ c.in_ok-cells.ensures ∙ ap (row_at (k + 1)) c.as_slice.ensures.value in
    let one = c.in_ok-put_row.ensures in
    let made : HasPut so_far after put (row_at (k + 1) r.items ∷ []) = subst (λ x. HasPut so_far after put (x ∷ [])) is one.made in
    (one.same_reference ∙ c.loop-place.invariant.0, subst (ArePut before after put) (sym all) (one_more before so_far after put (rows_from 1 (told_list (take k rows))) c.loop-place.invariant.1 (row_at (k + 1) r.items) made one.inside one.survives))

pub returns-clause-made : goal.returns-clause-made
returns-clause-made g c =
    let before = state g.S.Store c.args.tx.now.conn.now in
    let after = state g.S.Store c.loop-place.tx.conn.now in
    let rows : List (Vec ℕ Global) = c.args.rows.now in
    let all : ArePut before after c.args.put.now (rows_from 1 (told_list rows)) = subst (λ xs. ArePut before after c.args.put.now (rows_from 1 (told_list xs))) (take_all c.loop-place.place rows c.loop-place-test.false) c.loop-place.invariant.1 in
    all.made
