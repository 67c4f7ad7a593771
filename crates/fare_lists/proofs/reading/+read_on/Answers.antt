use Rattle.std.proofs.Common.{◌∙◌, IfOk, ap, subst, sym}
use Rattle.sqlite.specs.Held.{state}
use Rattle.sqlite.specs.State.{HasCleanDisk}
use Rattle.fare_tables.specs.Asking.{SameRows}
use Rattle.fare_tables.proofs.Steps.{was_clean}
use Rattle.fare_opening.proofs.Olders.{neither_leaves}
use Rattle.fare_opening.proofs.Standing.{matched_some, matched_none}
use Rattle.fare_lists.specs.Lists.{told, told_list, behind_ids, HasRead, AreLawful}
use Rattle.fare_lists.proofs.Replaced.{behind}
use Rattle.fare_lists.proofs.Read.{first_table, lawful_behind, read_all, told_more, none_told}
use Rattle.fare_lists.proofs.reading.+read_on.Goals as goal

pub returns-in-Some-clause-lists : goal.returns-in-Some-clause-lists
returns-in-Some-clause-lists g t c clean has lawful =
    let a = state g.S.Store c.args.conn.now in
    let b = state g.S.Store c.read_rows.new.conn in
    let e = state g.S.Store c.read_on.new.conn in
    let ts = c.args.tables.now in
    let w = c.args.site.now in
    let some = c.in-len1-up.len_at_least in
    let p = c.requires.0 in
    let before : HasCleanDisk b = was_clean b e _ c.read_on.ensures.crash clean in
    let same : SameRows a b = c.in_ok-rows-in-len1-up.ensures.read before has in
    let it = first_table p w a.now.trees ts _ some c.requires.1 lawful in
    let rows = c.in_ok-rows-in-len1-up.ensures.rows before has p _ _ it.0.reads c.requires.2 it.1 in
    let list = matched_some c.in_ok-list-in-len1-up.field-0 c.in-Some.list _ _ c.in-Some.is c.in_ok-list-in-len1-up.ensures in
    let holds = sym (ap behind_ids (c.as_slice.ensures.value ∙ rows)) ∙ list in
    let later = c.read_on.ensures.lists clean (ap (λ db. db.schema) same.0 ∙ has) (subst (λ db. AreLawful w db.trees (behind ts)) (sym same.0) (lawful_behind w a.now.trees ts some lawful)) in
    let there = subst (λ db. IfOk c.read_on.result (HasRead w db.trees (behind ts) (told c.push.new.self.items) (told c.read_on.new.lists.items))) same.0 later in
    read_all c.read_on.result w a.now.trees ts _ (told_list c.in-Some.list.items) (told c.args.lists.now.items) (told c.push.new.self.items) (told c.read_on.new.lists.items) some holds (told_more c.args.lists.now.items c.push.new.self.items c.in-Some.list c.in_ok-push-in-Some.ensures.items) there

pub returns-in-Some-clause-crash : goal.returns-in-Some-clause-crash
returns-in-Some-clause-crash g t c = neither_leaves (state g.S.Store c.args.conn.now) (state g.S.Store c.read_rows.new.conn) (state g.S.Store c.read_on.new.conn) c.args.site.now.schema (λ before has. c.in_ok-rows-in-len1-up.ensures.read before has) c.in_ok-rows-in-len1-up.ensures.crash c.read_on.ensures.crash

pub returns-clause-lists : goal.returns-clause-lists
returns-clause-lists g t c clean has lawful =
    let a = state g.S.Store c.args.conn.now in
    let ts = c.args.tables.now in
    let w = c.args.site.now in
    let some = c.in-len1-up.len_at_least in
    let p = c.requires.0 in
    let it = first_table p w a.now.trees ts _ some c.requires.1 lawful in
    let rows = c.in_ok-rows-in-len1-up.ensures.rows clean has p _ _ it.0.reads c.requires.2 it.1 in
    none_told w a.now.trees ts _ _ some (c.as_slice.ensures.value ∙ rows) (matched_none c.in_ok-list-in-len1-up.field-0 _ _ c.in-None.is c.in_ok-list-in-len1-up.ensures)
