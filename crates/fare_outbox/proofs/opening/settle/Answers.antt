use Rattle.std.proofs.Common.{◌≡◌, ◌∙◌, IsTrue, sym}
use Rattle.sqlite.specs.Held.{state}
use Rattle.fare_opening.specs.Opening.{IsPlaced, Opens, place_in}
use Rattle.fare_layout.proofs.Creation.{some_is}
use Rattle.fare_opening.proofs.Standing.{for_err}
use Rattle.fare_outbox_rows.specs.Making.{site_of}
use Rattle.fare_outbox_rows.specs.Statements.{outbox_parts}
use Rattle.fare_outbox.proofs.Opened.{made_as, found_as, opened_as, left_counted, failed_as}
use Rattle.fare_outbox.proofs.Rising.{is_older}
use Rattle.fare_outbox.proofs.opening.settle.Goals as goal

pub returns-then-is_made-clause-opens : goal.returns-then-is_made-clause-opens
returns-then-is_made-clause-opens g c live =
    let old = state g.S.Store c.args.conn.now in
    let new = state g.S.Store c.open_tables.new.conn in
    let it = some_is c.in_ok-opened.field-0 c.in-Some.opened (Opens outbox_parts 0 old new) c.in-Some.is (c.in_ok-opened.ensures.opens live) in
    let placed = some_is c.in_ok-opened.field-0 c.in-Some.opened (IsPlaced outbox_parts old.now.schema) c.in-Some.is c.in_ok-opened.ensures.placed in
    let at : site_of c.at-layout.result ≡ place_in c.in-Some.opened = (λ i. record { schema = c.at-layout.ensures.schema i; places = c.at-layout.ensures.places i }) ∙ c.into_site.ensures in
    made_as old new c.at-layout.result c.in-Some.opened at (sym c.is_made-is_made.ensures ∙ c.if-is_made.true) placed it

pub returns-clause-opens : goal.returns-clause-opens
returns-clause-opens g c live =
    let old = state g.S.Store c.args.conn.now in
    let mid = state g.S.Store c.open_tables.new.conn in
    let it = some_is c.in_ok-opened.field-0 c.in-Some.opened (Opens outbox_parts 0 old mid) c.in-Some.is (c.in_ok-opened.ensures.opens (c.counts.ensures.live live)) in
    let at : site_of c.at-layout.result ≡ place_in c.in-Some.opened = (λ i. record { schema = c.at-layout.ensures.schema i; places = c.at-layout.ensures.places i }) ∙ c.into_site.ensures in
    found_as old mid (state g.S.Store c.counts.new.conn) c.at-layout.result c.in_ok-rows.rows c.in_ok-rows.statements c.in-Some.opened at (sym c.is_made-is_made.ensures ∙ c.if-is_made.false) it (c.in_ok-rows.ensures.counted live) (c.counts.ensures.same live)

pub returns-then-is_made-clause-ours : goal.returns-then-is_made-clause-ours
returns-then-is_made-clause-ours g c live =
    let old = state g.S.Store c.args.conn.now in
    let new = state g.S.Store c.open_tables.new.conn in
    let it = some_is c.in_ok-opened.field-0 c.in-Some.opened (Opens outbox_parts 0 old new) c.in-Some.is (c.in_ok-opened.ensures.opens live) in
    let placed = some_is c.in_ok-opened.field-0 c.in-Some.opened (IsPlaced outbox_parts old.now.schema) c.in-Some.is c.in_ok-opened.ensures.placed in
    let at : site_of c.at-layout.result ≡ place_in c.in-Some.opened = (λ i. record { schema = c.at-layout.ensures.schema i; places = c.at-layout.ensures.places i }) ∙ c.into_site.ensures in
    opened_as old new c.at-layout.result c.in-Some.opened at placed it

pub returns-clause-ours : goal.returns-clause-ours
returns-clause-ours g c live =
    let old = state g.S.Store c.args.conn.now in
    let mid = state g.S.Store c.open_tables.new.conn in
    let it = some_is c.in_ok-opened.field-0 c.in-Some.opened (Opens outbox_parts 0 old mid) c.in-Some.is (c.in_ok-opened.ensures.opens (c.counts.ensures.live live)) in
    let placed = some_is c.in_ok-opened.field-0 c.in-Some.opened (IsPlaced outbox_parts old.now.schema) c.in-Some.is c.in_ok-opened.ensures.placed in
    let at : site_of c.at-layout.result ≡ place_in c.in-Some.opened = (λ i. record { schema = c.at-layout.ensures.schema i; places = c.at-layout.ensures.places i }) ∙ c.into_site.ensures in
    opened_as old mid c.at-layout.result c.in-Some.opened at placed it

pub returns-in_default-clause-first : goal.returns-in_default-clause-first
returns-in_default-clause-first g c live none first =
    let old = state g.S.Store c.args.conn.now in
    c.in_ok-opened.ensures.older live c.in_default.is (is_older old first)

pub returns-in_err-rows-clause-crash : goal.returns-in_err-rows-clause-crash
returns-in_err-rows-clause-crash g c =
    let old = state g.S.Store c.args.conn.now in
    let mid = state g.S.Store c.open_tables.new.conn in
    let at : site_of c.at-layout.result ≡ place_in c.in-Some.opened = (λ i. record { schema = c.at-layout.ensures.schema i; places = c.at-layout.ensures.places i }) ∙ c.into_site.ensures in
    left_counted old mid (state g.S.Store c.counts.new.conn) c.at-layout.result c.in-Some.opened at (sym c.is_made-is_made.ensures ∙ c.if-is_made.false) c.requires.settled c.in_ok-opened.ensures.live
    (λ clean. some_is c.in_ok-opened.field-0 c.in-Some.opened (λ _. IsTrue mid.is_open) c.in-Some.is (c.in_ok-opened.ensures.stays clean))
    (λ live. some_is c.in_ok-opened.field-0 c.in-Some.opened (Opens outbox_parts 0 old mid) c.in-Some.is (c.in_ok-opened.ensures.opens live)) c.in_ok-opened.ensures.crash c.counts.ensures.crash

pub returns-in_err-rows-clause-failed : goal.returns-in_err-rows-clause-failed
returns-in_err-rows-clause-failed g c live settled =
    let old = state g.S.Store c.args.conn.now in
    let mid = state g.S.Store c.open_tables.new.conn in
    let it = some_is c.in_ok-opened.field-0 c.in-Some.opened (Opens outbox_parts 0 old mid) c.in-Some.is (c.in_ok-opened.ensures.opens (c.counts.ensures.live live)) in
    let at : site_of c.at-layout.result ≡ place_in c.in-Some.opened = (λ i. record { schema = c.at-layout.ensures.schema i; places = c.at-layout.ensures.places i }) ∙ c.into_site.ensures in
    for_err c.from_residual-in_err-rows.result _ (failed_as old mid (state g.S.Store c.counts.new.conn) c.at-layout.result c.in-Some.opened at (sym c.is_made-is_made.ensures ∙ c.if-is_made.false) it (c.counts.ensures.same live) settled)
