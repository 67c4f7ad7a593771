use Rattle.std.proofs.Common.{◌≡◌, sym, subst}
use Rattle.sqlite.specs.Held.{state}
use Rattle.sqlite.proofs.StateLemmas.{survives_weaker}
use Rattle.fare_opening.proofs.Standing.{for_err}
use Rattle.fare_lists.specs.Lists.{told}
use Rattle.fare_lists.proofs.Written as written
use Rattle.fare_kept.specs.Statements.{kept_parts}
use Rattle.fare_keeping.specs.Keeping.{HoldLists}
use Rattle.fare_keeping.proofs.Lists.{same_lists}
use Rattle.fare_keeping.proofs.Left.{nothing_left}
use Rattle.fare_keeping.proofs.Tables.{all_wide, are_told, hold_lists, lawful_rows, leaves_others}
use Rattle.fare_keeping.proofs.Tables as tables
use Rattle.fare_keeping.proofs.keeping.put_lists.Goals as goal

pub returns-then-eq-clause-put : goal.returns-then-eq-clause-put
returns-then-eq-clause-put g c live w site rest lawful hold =
    let same : told c.args.kept.now ≡ told c.args.given.now = same_lists c.args.kept.now c.args.given.now (sym c.if-eq.ensures) in
    (subst (HoldLists w (state g.S.Store c.args.conn.now).now.trees) same hold, lawful)

pub returns-then-eq-clause-leaves : goal.returns-then-eq-clause-leaves
returns-then-eq-clause-leaves g c live w site rest = (nothing_left w (state g.S.Store c.args.conn.now).now rest.schema_is, rest.settled)

pub replace_lists-requires-clause-wide : goal.replace_lists-requires-clause-wide
replace_lists-requires-clause-wide g c = all_wide c.kept_lists.result.now (told c.args.given.now) (are_told c.kept_lists.result.now c.kept_lists.ensures.columns) c.requires.wide

pub returns-in_err-replace_lists-clause-same : goal.returns-in_err-replace_lists-clause-same
returns-in_err-replace_lists-clause-same g c live w site rest =
    for_err c.from_residual.result _ (c.in_err-replace_lists.ensures.same live kept_parts w (record { listed = c.kept_lists.ensures.listed; site = site; schema = rest.schema_is }) rest.settled)

pub returns-in_err-replace_lists-clause-crash : goal.returns-in_err-replace_lists-clause-crash
returns-in_err-replace_lists-clause-crash g c = survives_weaker _ _ _ _ (λ clean trees replaced w site at.
    let it = replaced kept_parts w (record { listed = c.kept_lists.ensures.listed; site = site; schema = at }) in
    (it.0, leaves_others w c.kept_lists.result.now (are_told c.kept_lists.result.now c.kept_lists.ensures.columns) (told c.args.given.now) _ it.0 it.1, it.2)) c.in_err-replace_lists.ensures.crash

pub returns-clause-put : goal.returns-clause-put
returns-clause-put g c live w site rest lawful hold =
    let old = (state g.S.Store c.args.conn.now).now in
    let new = (state g.S.Store c.replace_lists.new.conn).now in
    let ts = c.kept_lists.result.now in
    let columns = are_told ts c.kept_lists.ensures.columns in
    let given = told c.args.given.now in
    let it = (c.in_ok-replace_lists.ensures.replaced live kept_parts w (record { listed = c.kept_lists.ensures.listed; site = site; schema = rest.schema_is })).0 in
    let was = tables.lawful w ts columns old.trees lawful in
    (hold_lists w ts columns new.trees given (written.held w ts given old new was it), lawful_rows w ts columns new.trees (written.lawful w ts given old new was (all_wide ts given columns c.requires.wide) it))

pub returns-clause-leaves : goal.returns-clause-leaves
returns-clause-leaves g c live w site rest =
    let ts = c.kept_lists.result.now in
    let it = c.in_ok-replace_lists.ensures.replaced live kept_parts w (record { listed = c.kept_lists.ensures.listed; site = site; schema = rest.schema_is }) in
    (leaves_others w ts (are_told ts c.kept_lists.ensures.columns) (told c.args.given.now) (state g.S.Store c.args.conn.now).now (state g.S.Store c.replace_lists.new.conn).now it.0, it.1)

pub returns-clause-crash : goal.returns-clause-crash
returns-clause-crash g c = survives_weaker _ _ _ _ (λ clean trees replaced w site at.
    let it = replaced kept_parts w (record { listed = c.kept_lists.ensures.listed; site = site; schema = at }) in
    (it.0, leaves_others w c.kept_lists.result.now (are_told c.kept_lists.result.now c.kept_lists.ensures.columns) (told c.args.given.now) _ it.0 it.1, it.2)) c.in_ok-replace_lists.ensures.crash
