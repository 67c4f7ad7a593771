use Rattle.sqlite.specs.Held.{state}
use Rattle.sqlite.specs.State.{HasCleanDisk}
use Rattle.fare_tables.proofs.Steps.{was_clean}
use Rattle.fare_opening.specs.Raising.{WasRaised}
use Rattle.fare_opening.proofs.Finds.{none_lacks}
use Rattle.fare_opening.proofs.Olders.{raised_since, none_since, survives_since}
use Rattle.fare_layout.proofs.Creation.{some_is}
use Rattle.fare_opening.proofs.Standing.{not_true}
use Rattle.fare_opening.proofs.opening.keep_or_raise.Goals as goal

pub returns-in_err-site-clause-crash : goal.returns-in_err-site-clause-crash
returns-in_err-site-clause-crash g c =
    survives_since g.D.Design.parts c.args.owner (state g.S.Store c.args.conn.now) (state g.S.Store c.has_store.new.conn) (state g.S.Store c.raise.new.conn) _ c.requires.found (λ before. c.in_ok-has_store.ensures.read before c.requires.found) c.in_ok-has_store.ensures.crash
    c.in_err-site.ensures.crash

pub returns-in-Some-clause-opens : goal.returns-in-Some-clause-opens
returns-in-Some-clause-opens g c live =
    let d = g.D.Design.parts in
    let old = state g.S.Store c.args.conn.now in
    let mid = state g.S.Store c.has_store.new.conn in
    let new = state g.S.Store c.raise.new.conn in
    let before : HasCleanDisk mid = was_clean mid new _ c.in_ok-site.ensures.crash live.0 in
    raised_since d c.args.owner old mid new c.in-Some.site (c.in_ok-has_store.ensures.read before c.requires.found) (some_is c.in_ok-site.field-0 c.in-Some.site (WasRaised d c.args.owner mid new) c.in-Some.is (c.in_ok-site.ensures.raised live))

pub returns-in-Some-clause-crash : goal.returns-in-Some-clause-crash
returns-in-Some-clause-crash g c =
    survives_since g.D.Design.parts c.args.owner (state g.S.Store c.args.conn.now) (state g.S.Store c.has_store.new.conn) (state g.S.Store c.raise.new.conn) _ c.requires.found (λ before. c.in_ok-has_store.ensures.read before c.requires.found) c.in_ok-has_store.ensures.crash
    c.in_ok-site.ensures.crash

pub returns-clause-lacks : goal.returns-clause-lacks
returns-clause-lacks g c live none =
    let d = g.D.Design.parts in
    let old = state g.S.Store c.args.conn.now in
    let mid = state g.S.Store c.has_store.new.conn in
    let new = state g.S.Store c.raise.new.conn in
    let before : HasCleanDisk mid = was_clean mid new _ c.in_ok-site.ensures.crash live.0 in
    none_lacks d c.args.owner old c.args.site c.sound.ensures.design c.requires.site c.requires.found (λ is. not_true c.in_ok-has_store.field-0 c.if-branch.false ((c.in_ok-has_store.ensures.ours before c.requires.found).1 is))

pub returns-clause-older : goal.returns-clause-older
returns-clause-older g c live none =
    let d = g.D.Design.parts in
    let old = state g.S.Store c.args.conn.now in
    let mid = state g.S.Store c.has_store.new.conn in
    let new = state g.S.Store c.raise.new.conn in
    let before : HasCleanDisk mid = was_clean mid new _ c.in_ok-site.ensures.crash live.0 in
    none_since d c.args.owner old mid new (c.in_ok-has_store.ensures.read before c.requires.found) (c.in_ok-site.ensures.older live.0 c.in-None.is)

pub returns-clause-crash : goal.returns-clause-crash
returns-clause-crash g c =
    survives_since g.D.Design.parts c.args.owner (state g.S.Store c.args.conn.now) (state g.S.Store c.has_store.new.conn) (state g.S.Store c.raise.new.conn) _ c.requires.found (λ before. c.in_ok-has_store.ensures.read before c.requires.found) c.in_ok-has_store.ensures.crash
    c.in_ok-site.ensures.crash
