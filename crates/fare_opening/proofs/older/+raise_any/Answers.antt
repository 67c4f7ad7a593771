use Rattle.std.proofs.Common.{rules}
use Rattle.std.proofs.lemmas.Result.{IfOk-weaker}
use Rattle.sqlite.specs.Held.{state}
use Rattle.sqlite.specs.State.{HasCleanDisk}
use Rattle.fare_tables.proofs.Steps.{was_clean}
use Rattle.fare_layout.proofs.Creation.{some_is}
use Rattle.fare_opening.proofs.Olders.{first_raised, later_raised, first_failed, later_failed, later_lacks, none_told, first_survives, later_survives}
use Rattle.fare_opening.proofs.Standing.{some_weaker, for_err}
use Rattle.fare_opening.proofs.older.+raise_any.Goals as goal

pub returns-in-Some-clause-crash : goal.returns-in-Some-clause-crash
returns-in-Some-clause-crash g t c =
    let old = state g.S.Store c.args.conn.now in
    let new = state g.S.Store c.raise_from.new.conn in
    first_survives g.D.Design.parts c.args.olders.now c.args.owner old new new c.in-len1-up.len_at_least _ c.in_ok-site-in-len1-up.ensures.crash

pub returns-in-None-clause-raised : goal.returns-in-None-clause-raised
returns-in-None-clause-raised g t c live =
    let old = state g.S.Store c.args.conn.now in
    let mid = state g.S.Store c.raise_from.new.conn in
    let new = state g.S.Store c.raise_any.new.conn in
    let before : HasCleanDisk mid = was_clean mid new _ c.raise_any.ensures.crash live.0 in
    IfOk-weaker c.raise_any.result _ _ (λ found. some_weaker found _ _ (λ w later. later_raised g.D.Design.parts c.args.olders.now c.args.owner old mid new c.in-len1-up.len_at_least w (c.in_ok-site-in-len1-up.ensures.refused before c.in-None.is) later)) (c.raise_any.ensures.raised live)

pub returns-in-None-clause-crash : goal.returns-in-None-clause-crash
returns-in-None-clause-crash g t c =
    let old = state g.S.Store c.args.conn.now in
    let mid = state g.S.Store c.raise_from.new.conn in
    let new = state g.S.Store c.raise_any.new.conn in
    later_survives g.D.Design.parts c.args.olders.now c.args.owner old mid new c.in-len1-up.len_at_least _ (λ before. c.in_ok-site-in-len1-up.ensures.refused before c.in-None.is) c.in_ok-site-in-len1-up.ensures.crash c.raise_any.ensures.crash

pub returns-in-None-clause-lacks : goal.returns-in-None-clause-lacks
returns-in-None-clause-lacks g t c clean =
    let old = state g.S.Store c.args.conn.now in
    let mid = state g.S.Store c.raise_from.new.conn in
    let new = state g.S.Store c.raise_any.new.conn in
    let before : HasCleanDisk mid = was_clean mid new _ c.raise_any.ensures.crash clean in
    IfOk-weaker c.raise_any.result _ _ (λ found later none. later_lacks g.D.Design.parts c.args.olders.now c.args.owner old mid new c.in-len1-up.len_at_least _ (c.in_ok-site-in-len1-up.ensures.refused before c.in-None.is) (c.in_ok-site-in-len1-up.ensures.lacks before c.in-None.is) (later none)) (c.raise_any.ensures.lacks clean)

pub returns-in-Some-clause-raised : goal.returns-in-Some-clause-raised
returns-in-Some-clause-raised g t c live =
    let old = state g.S.Store c.args.conn.now in
    let new = state g.S.Store c.raise_from.new.conn in
    first_raised g.D.Design.parts c.args.olders.now c.args.owner old new new c.in-len1-up.len_at_least _ c.in-Some.site (some_is _ c.in-Some.site _ c.in-Some.is (c.in_ok-site-in-len1-up.ensures.raised live))

pub returns-in-None-clause-failed : goal.returns-in-None-clause-failed
returns-in-None-clause-failed g t c live =
    let old = state g.S.Store c.args.conn.now in
    let mid = state g.S.Store c.raise_from.new.conn in
    let new = state g.S.Store c.raise_any.new.conn in
    let before : HasCleanDisk mid = was_clean mid new _ c.raise_any.ensures.crash live.0 in
    later_failed g.D.Design.parts c.args.olders.now c.args.owner old mid new c.in-len1-up.len_at_least c.raise_any.result (c.in_ok-site-in-len1-up.ensures.refused before c.in-None.is) (c.raise_any.ensures.failed live)

pub returns-in_err-site-in-len1-up-clause-failed : goal.returns-in_err-site-in-len1-up-clause-failed
returns-in_err-site-in-len1-up-clause-failed g t c live rest os olders are =
    let old = state g.S.Store c.args.conn.now in
    let new = state g.S.Store c.raise_from.new.conn in
    for_err c.from_residual.result _ (first_failed g.D.Design.parts c.args.olders.now c.args.owner old new new c.in-len1-up.len_at_least _ (c.in_err-site-in-len1-up.ensures.failed live rest) os olders are)

pub returns-in_err-site-in-len1-up-clause-crash : goal.returns-in_err-site-in-len1-up-clause-crash
returns-in_err-site-in-len1-up-clause-crash g t c =
    let old = state g.S.Store c.args.conn.now in
    let new = state g.S.Store c.raise_from.new.conn in
    first_survives g.D.Design.parts c.args.olders.now c.args.owner old new new c.in-len1-up.len_at_least _ c.in_err-site-in-len1-up.ensures.crash

pub returns-in-empty-clause-lacks : goal.returns-in-empty-clause-lacks
returns-in-empty-clause-lacks g t c clean none os olders are o has v w can = none_told c.args.olders.now os o c.in-empty.len_below are has
