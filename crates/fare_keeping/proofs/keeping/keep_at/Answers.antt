use Rattle.std.proofs.Common.{◌≡◌, sym, ap, subst}
use Rattle.sqlite.specs.Effect.{Database}
use Rattle.sqlite.specs.Held.{state}
use Rattle.sqlite.specs.State.{HasCleanDisk}
use Rattle.fare_tables.specs.Asking.{SameRows}
use Rattle.fare_tables.proofs.Steps.{same_rest, was_clean}
use Rattle.fare_lists.specs.Lists.{told}
use Rattle.fare_opening.proofs.Standing.{matched_some, matched_none}
use Rattle.fare_keeping.specs.Keeping.{AreLawfulRows, HoldLists, ListsMayFollow, ListsSay, SaysAt}
use Rattle.fare_keeping.proofs.Tables.{are_told, can_tell, hold_lists, one_lists}
use Rattle.fare_keeping.proofs.Tables as tables
use Rattle.fare_keeping.proofs.Told.{says_at}
use Rattle.fare_keeping.proofs.Since.{never_left, left_since, err_says, for_ok}
use Rattle.fare_keeping.proofs.keeping.keep_at.Goals as goal

pub returns-in_err-kept-clause-crash : goal.returns-in_err-kept-clause-crash
returns-in_err-kept-clause-crash g c = never_left c.args.site.now _ _ c.in_err-kept.ensures.crash

pub returns-in_default-clause-says : goal.returns-in_default-clause-says
returns-in_default-clause-says g c live rest lawful lists hold small =
    let w = c.args.site.now in
    let trees = (state g.S.Store c.args.conn.now).now.trees in
    let ts = c.kept_lists.result.now in
    let columns = are_told ts c.kept_lists.ensures.columns in
    absurd (matched_none c.in_ok-kept.field-0 _ _ c.in_default.is (c.in_ok-kept.ensures.lists live.0 rest.schema_is (tables.lawful w ts columns trees lawful)) (can_tell w ts columns trees lists hold small))

pub returns-in_default-clause-crash : goal.returns-in_default-clause-crash
returns-in_default-clause-crash g c = never_left c.args.site.now _ _ c.in_ok-kept.ensures.crash

pub returns-in_err-check_that_follows-clause-says : goal.returns-in_err-check_that_follows-clause-says
returns-in_err-check_that_follows-clause-says g c live rest lawful =
    let w = c.args.site.now in
    let trees = (state g.S.Store c.args.conn.now).now.trees in
    let ts = c.kept_lists.result.now in
    let columns = are_told ts c.kept_lists.ensures.columns in
    let kept = told c.in-Some.kept.items in
    let held = matched_some c.in_ok-kept.field-0 c.in-Some.kept _ _ c.in-Some.is (c.in_ok-kept.ensures.lists live.0 rest.schema_is (tables.lawful w ts columns trees lawful)) in
    let hold = hold_lists w ts columns trees kept held in
    let says = subst (λ ls. ListsSay (told ls) c.args.scheme.now c.in_err-check_that_follows.field-0.0) c.as_slice.ensures.value c.in_err-check_that_follows.ensures.refused in
    err_says c.from_residual-in_err-check_that_follows.result (SaysAt w trees c.args.scheme.now) c.in_err-check_that_follows.field-0.0 c.from_residual-in_err-check_that_follows.ensures.1
    (says_at w trees kept c.args.scheme.now c.in_err-check_that_follows.field-0.0 hold (λ other there. one_lists w ts columns trees other kept there hold) says)

pub returns-in_err-check_that_follows-clause-crash : goal.returns-in_err-check_that_follows-clause-crash
returns-in_err-check_that_follows-clause-crash g c = never_left c.args.site.now _ _ c.in_ok-kept.ensures.crash

pub returns-clause-put : goal.returns-clause-put
returns-clause-put g c live rest lawful =
    let w = c.args.site.now in
    let old = state g.S.Store c.args.conn.now in
    let mid = state g.S.Store c.read_lists.new.conn in
    let new = state g.S.Store c.put_lists.new.conn in
    let ts = c.kept_lists.result.now in
    let columns = are_told ts c.kept_lists.ensures.columns in
    let kept = told c.in-Some.kept.items in
    let before : HasCleanDisk mid = was_clean mid new _ c.put_lists.ensures.crash live.0 in
    let same : SameRows old mid = c.in_ok-kept.ensures.read before rest.schema_is in
    let trees : old.now.trees ≡ mid.now.trees = sym (ap (λ (db : Database). db.trees) same.0) in
    let held = matched_some c.in_ok-kept.field-0 c.in-Some.kept _ _ c.in-Some.is (c.in_ok-kept.ensures.lists before rest.schema_is (tables.lawful w ts columns old.now.trees lawful)) in
    let hold = subst (λ ls. HoldLists w mid.now.trees (told ls)) (sym c.as_slice-2.ensures.value) (subst (λ t. HoldLists w t kept) trees (hold_lists w ts columns old.now.trees kept held)) in
    c.put_lists.ensures.put live w c.requires.site (same_rest w.schema old mid same rest) (subst (AreLawfulRows w) trees lawful) hold

pub returns-clause-follows : goal.returns-clause-follows
returns-clause-follows g c live rest lawful =
    let w = c.args.site.now in
    let old = state g.S.Store c.args.conn.now in
    let mid = state g.S.Store c.read_lists.new.conn in
    let new = state g.S.Store c.put_lists.new.conn in
    let ts = c.kept_lists.result.now in
    let columns = are_told ts c.kept_lists.ensures.columns in
    let kept = told c.in-Some.kept.items in
    let before : HasCleanDisk mid = was_clean mid new _ c.put_lists.ensures.crash live.0 in
    let held = matched_some c.in_ok-kept.field-0 c.in-Some.kept _ _ c.in-Some.is (c.in_ok-kept.ensures.lists before rest.schema_is (tables.lawful w ts columns old.now.trees lawful)) in
    for_ok c.put_lists.result _ (kept, hold_lists w ts columns old.now.trees kept held, subst (λ ls. ListsMayFollow (told ls) c.args.scheme.now) c.as_slice.ensures.value c.in_ok-check_that_follows.ensures.follows)

pub returns-clause-crash : goal.returns-clause-crash
returns-clause-crash g c =
    left_since c.args.site.now (state g.S.Store c.args.conn.now) (state g.S.Store c.read_lists.new.conn) (state g.S.Store c.put_lists.new.conn) c.requires.site (λ before at. c.in_ok-kept.ensures.read before at) c.in_ok-kept.ensures.crash c.put_lists.ensures.crash
