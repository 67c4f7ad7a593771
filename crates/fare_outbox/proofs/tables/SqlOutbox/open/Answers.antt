use Rattle.std.proofs.Common.{inl, inr}
use Rattle.std.specs.Prelude.{IsTrue}
use Rattle.sqlite.specs.Held.{state}
use Rattle.fare_tables.specs.Asking.{IsLive}
use Rattle.fare_tables.proofs.Reopened.{fit_again}
use Rattle.fare_outbox.specs.First.{IsLawfulFirst}
use Rattle.fare_outbox_rows.specs.Layouts.{schema_in}
use Rattle.fare_outbox.specs.Words.{IsLawful}
use Rattle.fare_outbox.specs.Opening.{IsOpened, Settles}
use Rattle.fare_outbox.proofs.Opened.{new_fits, kept_fits, opened_again, raised_fits, raised_again, left_open, vacant_or_ours, lawful_is_ours}
use Rattle.fare_outbox.proofs.Rising.{lawful_is_first}
use Rattle.fare_outbox.proofs.tables.SqlOutbox.open.Goals as goal

pub returns-in-Ok-Some-clause-made : goal.returns-in-Ok-Some-clause-made
returns-in-Ok-Some-clause-made g c live vacant =
    let new = state g.S.Store c.settle.new.conn in
    let settles : Settles (state g.S.Store c.args.conn) new c.in-Ok-Some.layout c.in-Ok-Some.rows c.in-Ok-Some.statements = rw c.in-Ok-Some.field-0-is at (c.in-Ok-Some.ensures.opens live) in
    let made = settles.made vacant in
    new_fits c.in-Ok-Some.layout (state g.S.Store c.args.conn) new c.in-Ok-Some.rows c.in-Ok-Some.statements made.1 made.2 made.3

pub returns-in-Ok-Some-clause-kept : goal.returns-in-Ok-Some-clause-kept
returns-in-Ok-Some-clause-kept g c live w fit =
    let old = state g.S.Store c.args.conn in
    let new = state g.S.Store c.settle.new.conn in
    let settles : Settles old new c.in-Ok-Some.layout c.in-Ok-Some.rows c.in-Ok-Some.statements = rw c.in-Ok-Some.field-0-is at (c.in-Ok-Some.ensures.opens live) in
    let opened : IsOpened old c.in-Ok-Some.layout = rw c.in-Ok-Some.field-0-is at (c.in-Ok-Some.ensures.ours live) in
    kept_fits old new c.in-Ok-Some.layout w c.in-Ok-Some.rows c.in-Ok-Some.statements settles opened fit (c.in-Ok-Some.ensures.database (c.in-Ok-Some.ensures.live live).1)

pub returns-in-Ok-Some-clause-again : goal.returns-in-Ok-Some-clause-again
returns-in-Ok-Some-clause-again g c clean w left =
    let old = state g.S.Store c.args.conn in
    let new = state g.S.Store c.settle.new.conn in
    let live : IsLive new = (clean, rw c.in-Ok-Some.field-0-is at (c.in-Ok-Some.ensures.stays clean)) in
    let before = c.in-Ok-Some.ensures.live live in
    let settles : Settles old new c.in-Ok-Some.layout c.in-Ok-Some.rows c.in-Ok-Some.statements = rw c.in-Ok-Some.field-0-is at (c.in-Ok-Some.ensures.opens live) in
    let opened : IsOpened old c.in-Ok-Some.layout = rw c.in-Ok-Some.field-0-is at (c.in-Ok-Some.ensures.ours live) in
    let whole : IsTrue c.is_autocommit.result = search in
    opened_again old new c.in-Ok-Some.layout w c.in-Ok-Some.rows c.in-Ok-Some.statements settles opened (c.is_autocommit.ensures.settled whole before.1) (c.in-Ok-Some.ensures.database before.1) left

pub returns-in-Ok-Some-clause-ours : goal.returns-in-Ok-Some-clause-ours
returns-in-Ok-Some-clause-ours g c live =
    let opened : IsOpened (state g.S.Store c.args.conn) c.in-Ok-Some.layout = rw c.in-Ok-Some.field-0-is at (c.in-Ok-Some.ensures.ours live) in
    vacant_or_ours (state g.S.Store c.args.conn) c.in-Ok-Some.layout opened

pub returns-in-Ok-Some-clause-raised : goal.returns-in-Ok-Some-clause-raised
returns-in-Ok-Some-clause-raised g c live v fit =
    let old = state g.S.Store c.args.conn in
    let new = state g.S.Store c.settle.new.conn in
    let settles : Settles old new c.in-Ok-Some.layout c.in-Ok-Some.rows c.in-Ok-Some.statements = rw c.in-Ok-Some.field-0-is at (c.in-Ok-Some.ensures.opens live) in
    let opened : IsOpened old c.in-Ok-Some.layout = rw c.in-Ok-Some.field-0-is at (c.in-Ok-Some.ensures.ours live) in
    raised_fits old new c.in-Ok-Some.layout v c.in-Ok-Some.rows c.in-Ok-Some.statements settles opened fit

pub returns-in-Ok-Some-clause-raised_again : goal.returns-in-Ok-Some-clause-raised_again
returns-in-Ok-Some-clause-raised_again g c clean v left =
    let old = state g.S.Store c.args.conn in
    let new = state g.S.Store c.settle.new.conn in
    let live : IsLive new = (clean, rw c.in-Ok-Some.field-0-is at (c.in-Ok-Some.ensures.stays clean)) in
    let before = c.in-Ok-Some.ensures.live live in
    let settles : Settles old new c.in-Ok-Some.layout c.in-Ok-Some.rows c.in-Ok-Some.statements = rw c.in-Ok-Some.field-0-is at (c.in-Ok-Some.ensures.opens live) in
    let opened : IsOpened old c.in-Ok-Some.layout = rw c.in-Ok-Some.field-0-is at (c.in-Ok-Some.ensures.ours live) in
    let whole : IsTrue c.is_autocommit.result = search in
    raised_again old new c.in-Ok-Some.layout v c.in-Ok-Some.rows c.in-Ok-Some.statements settles opened (c.is_autocommit.ensures.settled whole before.1) (c.in-Ok-Some.ensures.database before.1) left

pub returns-in-Ok-Some-clause-others : goal.returns-in-Ok-Some-clause-others
returns-in-Ok-Some-clause-others g c live settled =
    let old = state g.S.Store c.args.conn in
    let new = state g.S.Store c.settle.new.conn in
    let settles : Settles old new c.in-Ok-Some.layout c.in-Ok-Some.rows c.in-Ok-Some.statements = rw c.in-Ok-Some.field-0-is at (c.in-Ok-Some.ensures.opens live) in
    settles.others settled

pub returns-in-Ok-Some-clause-placed : goal.returns-in-Ok-Some-clause-placed
returns-in-Ok-Some-clause-placed g c live vacant =
    let settles : Settles (state g.S.Store c.args.conn) (state g.S.Store c.settle.new.conn) c.in-Ok-Some.layout c.in-Ok-Some.rows c.in-Ok-Some.statements = rw c.in-Ok-Some.field-0-is at (c.in-Ok-Some.ensures.opens live) in
    (settles.made vacant).0

pub returns-in-Ok-None-clause-found : goal.returns-in-Ok-None-clause-found
returns-in-Ok-None-clause-found g c why live w fit = c.in-Ok-None.ensures.lacks live c.in-Ok-None.field-0-is (lawful_is_ours w (state g.S.Store c.args.conn) fit)

pub returns-in-Ok-None-clause-never : goal.returns-in-Ok-None-clause-never
returns-in-Ok-None-clause-never g c why clean up w left =
    let old = state g.S.Store c.args.conn in
    let whole : IsTrue c.is_autocommit.result = search in
    c.in-Ok-None.ensures.lacks (clean, c.in-Ok-None.ensures.up clean up) c.in-Ok-None.field-0-is (lawful_is_ours w old (fit_again (schema_in w) (IsLawful w) old (c.is_autocommit.ensures.settled whole up) (c.in-Ok-None.ensures.database up) left))

pub returns-in-Ok-None-clause-found_first : goal.returns-in-Ok-None-clause-found_first
returns-in-Ok-None-clause-found_first g c why live v w rises fit = c.in-Ok-None.ensures.first live c.in-Ok-None.field-0-is (lawful_is_first v w (state g.S.Store c.args.conn) rises fit)

pub returns-in-Ok-None-clause-never_first : goal.returns-in-Ok-None-clause-never_first
returns-in-Ok-None-clause-never_first g c why clean up v w rises left =
    let old = state g.S.Store c.args.conn in
    let whole : IsTrue c.is_autocommit.result = search in
    c.in-Ok-None.ensures.first (clean, c.in-Ok-None.ensures.up clean up) c.in-Ok-None.field-0-is
    (lawful_is_first v w old rises (fit_again v.schema (IsLawfulFirst v) old (c.is_autocommit.ensures.settled whole up) (c.in-Ok-None.ensures.database up) left))

pub returns-in-Ok-None-clause-leaves : goal.returns-in-Ok-None-clause-leaves
returns-in-Ok-None-clause-leaves g c clean trees leaves = elim (c.settle.ensures.crash.crash clean trees leaves) [ inl was ↦ inl was | inr may ↦ inr (left_open (state g.S.Store c.args.conn) trees may) ]

pub returns-in-Err-clause-leaves : goal.returns-in-Err-clause-leaves
returns-in-Err-clause-leaves g c clean trees leaves = elim (c.settle.ensures.crash.crash clean trees leaves) [ inl was ↦ inl was | inr may ↦ inr (left_open (state g.S.Store c.args.conn) trees may) ]
