use Rattle.std.proofs.Common.{◌≡◌, ◌∙◌, sym, subst}
use Rattle.sqlite.specs.Held.{state}
use Rattle.sqlite.specs.State.{Survives}
use Rattle.fare_opening.specs.Opening.{IsPlaced, Opens, place_in}
use Rattle.fare_opening.specs.Raising as raising
use Rattle.fare_layout.proofs.Creation.{some_is}
use Rattle.fare_ledger.specs.Making.{site_of}
use Rattle.fare_ledger.specs.Opening.{MayOpen}
use Rattle.fare_ledger.specs.Statements.{ledger_parts}
use Rattle.fare_ledger.proofs.Opened.{settles_as, opened_as}
use Rattle.fare_ledger.proofs.opening.settle.Goals as goal

pub returns-in-Some-clause-opens : goal.returns-in-Some-clause-opens
returns-in-Some-clause-opens g c live =
    let old = state g.S.Store c.args.conn.now in
    let new = state g.S.Store c.open_tables.new.conn in
    let placed = some_is c.in_ok-opened.field-0 c.in-Some.opened (IsPlaced ledger_parts old.now.schema) c.in-Some.is c.in_ok-opened.ensures.placed in
    let opens = some_is c.in_ok-opened.field-0 c.in-Some.opened (Opens ledger_parts c.get.result old new) c.in-Some.is (c.in_ok-opened.ensures.opens live) in
    let at : site_of c.at.result ≡ place_in c.in-Some.opened = (λ i. record { schema = c.at.ensures.schema i; places = c.at.ensures.places i }) ∙ c.into_site.ensures in
    settles_as c.args.owner old new c.at.result c.in-Some.opened at placed (subst (λ o. Opens ledger_parts o old new c.in-Some.opened) c.get.ensures.value opens)

pub returns-in-Some-clause-ours : goal.returns-in-Some-clause-ours
returns-in-Some-clause-ours g c live =
    let old = state g.S.Store c.args.conn.now in
    let new = state g.S.Store c.open_tables.new.conn in
    let placed = some_is c.in_ok-opened.field-0 c.in-Some.opened (IsPlaced ledger_parts old.now.schema) c.in-Some.is c.in_ok-opened.ensures.placed in
    let opens = some_is c.in_ok-opened.field-0 c.in-Some.opened (Opens ledger_parts c.get.result old new) c.in-Some.is (c.in_ok-opened.ensures.opens live) in
    let at : site_of c.at.result ≡ place_in c.in-Some.opened = (λ i. record { schema = c.at.ensures.schema i; places = c.at.ensures.places i }) ∙ c.into_site.ensures in
    opened_as c.args.owner old new c.at.result c.in-Some.opened at placed (subst (λ o. Opens ledger_parts o old new c.in-Some.opened) c.get.ensures.value opens)

pub returns-in-Some-clause-crash : goal.returns-in-Some-clause-crash
returns-in-Some-clause-crash g c =
    let old = state g.S.Store c.args.conn.now in
    let new = state g.S.Store c.open_tables.new.conn in
    subst (λ o. Survives old new (MayOpen o old)) c.get.ensures.value c.in_ok-opened.ensures.crash

pub returns-in-None-clause-older : goal.returns-in-None-clause-older
returns-in-None-clause-older g c live none older =
    let old = state g.S.Store c.args.conn.now in
    c.in_ok-opened.ensures.older live c.in-None.is (subst (λ o. raising.IsOlderStore ledger_parts o old) (sym c.get.ensures.value) older)
