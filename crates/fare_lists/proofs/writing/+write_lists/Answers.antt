use Rattle.std.proofs.Common.{◌∙◌, ℕ, Vec, Global, ap, arith}
use Rattle.sqlite.specs.Held.{state}
use Rattle.sqlite.specs.State.{HasCleanDisk}
use Rattle.fare_tables.proofs.Making.{on_ok}
use Rattle.fare_lists.specs.Lists.{told, told_list, AreReplaced}
use Rattle.fare_lists.proofs.Replaced.{behind, first_listed, first_wide, more_wide, more_can, all_replaced, none_replaced}
use Rattle.fare_lists.proofs.writing.+write_lists.Goals as goal

pub returns-in_default-clause-written : goal.returns-in_default-clause-written
returns-in_default-clause-written g t c clean inside wide p w can =
    let low = c.in_default.len_below in
    (none_replaced p w c.args.tables.now c.args.lists.now (state g.S.Store c.args.tx.now.conn.now).now (λ some more. omega (arith, low, some)) wide can, inside)

pub returns-clause-written : goal.returns-clause-written
returns-clause-written g t c clean inside wide p w can =
    let a = (state g.S.Store c.args.tx.now.conn.now).now in
    let b = (state g.S.Store c.write_list.new.tx.conn.now).now in
    let e = (state g.S.Store c.write_lists.new.tx.conn.now).now in
    let ts = c.args.tables.now in
    let ls = c.args.lists.now in
    let late = clean in
    let before : HasCleanDisk (state g.S.Store c.write_list.new.tx.conn.now) = omega (arith, late, c.write_lists.ensures.survives.clean) in
    let some = c.in-len1-up.len_at_least in
    let more = c.in-len1-up-lists.len_at_least in
    let it = first_listed p w ts _ a some can in
    let is = ap told_list c.as_slice.ensures.value ∙ ap (λ (l : Vec (Vec ℕ Global) Global). told_list l.items) c.list-item.is in
    let one = c.in_ok-write_list.ensures.written before inside p w it can.site can.schema (first_wide ts ls _ _ _ some more is wide) in
    let rest = c.write_lists.ensures.written clean one.1 (more_wide ts ls some more wide) p w (more_can p w ts _ _ a b some can one.0) in
    let all = all_replaced p w ts ls _ _ _ a b e some more can is one.0 in
    on_ok c.write_lists.result (λ (two : AreReplaced w (behind ts) (told (behind ls)) b e × _). (all two.0, two.1)) rest
