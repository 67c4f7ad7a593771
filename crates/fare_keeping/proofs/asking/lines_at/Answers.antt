use Rattle.std.proofs.Common.{subst}
use Rattle.sqlite.specs.Held.{state}
use Rattle.fare_lists.specs.Lists.{told}
use Rattle.fare_opening.proofs.Standing.{matched_some, matched_none}
use Rattle.fare_keeping.specs.Keeping.{AreEmpty, TellLines}
use Rattle.fare_keeping.proofs.Lists.{hold_none}
use Rattle.fare_keeping.proofs.Tables.{are_told, can_tell, hold_lists, one_lists}
use Rattle.fare_keeping.proofs.Tables as tables
use Rattle.fare_register.specs.Registers.{IsOfNone}
use Rattle.fare_keeping.proofs.asking.lines_at.Goals as goal

pub returns-in_default-clause-says : goal.returns-in_default-clause-says
returns-in_default-clause-says g c clean at lawful lists hold small r room are =
    let w = c.args.site.now in
    let trees = (state g.S.Store c.args.conn.now).now.trees in
    let ts = c.kept_lists.result.now in
    let columns = are_told ts c.kept_lists.ensures.columns in
    matched_none c.in_ok-kept.field-0 _ _ c.in_default.is (c.in_ok-kept.ensures.lists clean at (tables.lawful w ts columns trees lawful)) (can_tell w ts columns trees lists hold small)

pub returns-then-are_empty-clause-lines : goal.returns-then-are_empty-clause-lines
returns-then-are_empty-clause-lines g c clean at lawful =
    let w = c.args.site.now in
    let trees = (state g.S.Store c.args.conn.now).now.trees in
    let ts = c.kept_lists.result.now in
    let columns = are_told ts c.kept_lists.ensures.columns in
    let held = matched_some c.in_ok-kept.field-0 c.in-Some.kept _ _ c.in-Some.is (c.in_ok-kept.ensures.lists clean at (tables.lawful w ts columns trees lawful)) in
    let empty = subst (λ ls. AreEmpty (told ls)) c.as_slice.ensures.value (c.are_empty.ensures.0 c.if-are_empty.true) in
    hold_none w trees (told c.in-Some.kept.items) empty (hold_lists w ts columns trees (told c.in-Some.kept.items) held)

pub returns-in-Some-2-clause-lines : goal.returns-in-Some-2-clause-lines
returns-in-Some-2-clause-lines g c clean at lawful =
    let w = c.args.site.now in
    let trees = (state g.S.Store c.args.conn.now).now.trees in
    let ts = c.kept_lists.result.now in
    let columns = are_told ts c.kept_lists.ensures.columns in
    let held = matched_some c.in_ok-kept.field-0 c.in-Some.kept _ _ c.in-Some.is (c.in_ok-kept.ensures.lists clean at (tables.lawful w ts columns trees lawful)) in
    let tells = matched_some c.in_ok-lines.field-0 c.in-Some-2.lines _ _ c.in-Some-2.is c.in_ok-lines.ensures in
    (told c.in-Some.kept.items, hold_lists w ts columns trees (told c.in-Some.kept.items) held, subst (λ ls. TellLines (told ls) c.in-Some-2.lines.items) c.as_slice-2.ensures.value tells)

pub returns-clause-says : goal.returns-clause-says
returns-clause-says g c clean at lawful lists hold small =
    let w = c.args.site.now in
    let trees = (state g.S.Store c.args.conn.now).now.trees in
    let ts = c.kept_lists.result.now in
    let columns = are_told ts c.kept_lists.ensures.columns in
    let held = matched_some c.in_ok-kept.field-0 c.in-Some.kept _ _ c.in-Some.is (c.in_ok-kept.ensures.lists clean at (tables.lawful w ts columns trees lawful)) in
    let none = matched_none c.in_ok-lines.field-0 _ _ c.in-None.is c.in_ok-lines.ensures in
    subst IsOfNone (one_lists w ts columns trees (told c.in-Some.kept.items) lists (hold_lists w ts columns trees (told c.in-Some.kept.items) held) hold) (subst (λ ls. IsOfNone (told ls)) c.as_slice-2.ensures.value none)
