use Rattle.std.proofs.Common.{◌≡◌, inl, inr, sym, ap, subst, ◌∙◌}
use Rattle.std.specs.Prelude.{IsTrue}
use Rattle.sqlite.specs.Held.{state}
use Rattle.fare_tables.specs.Asking.{IsLive}
use Rattle.fare_tables.specs.Tabled.{IsFit, IsLeft}
use Rattle.fare_tables.proofs.Reopened.{fit_again}
use Rattle.fare_ledger.specs.Older.{value_older, IsLawfulOlder}
use Rattle.fare_ledger.specs.Known.{knows}
use Rattle.fare_ledger.specs.Layouts.{schema_in}
use Rattle.fare_ledger.specs.Opening.{IsOpened, Settles}
use Rattle.fare_ledger.specs.Words.{IsLawful, value_at}
use Rattle.fare_ledger.proofs.Opened.{new_fits, kept_fits, opened_again, raised_fits, raised_again, left_open, vacant_or_ours, lawful_is_ours}
use Rattle.fare_ledger.proofs.Rising.{lawful_is_older}
use Rattle.fare_ledger.proofs.tables.SqlLedger.open.Goals as goal

pub returns-in-Ok-Some-clause-made : goal.returns-in-Ok-Some-clause-made
returns-in-Ok-Some-clause-made g c live blank =
    let new = state g.S.Store c.settle.new.conn in
    let known = knows c.in-Ok.devices in
    let settles : Settles c.args.owner (state g.S.Store c.args.conn) new c.in-Ok-Some.layout = rw c.in-Ok-Some.field-0-is at (c.in-Ok-Some.ensures.opens live) in
    let made = settles.made blank in
    new_fits c.in-Ok-Some.layout c.args.owner c.start.result known (state g.S.Store c.args.conn) new made.1

pub returns-in-Ok-Some-clause-kept : goal.returns-in-Ok-Some-clause-kept
returns-in-Ok-Some-clause-kept g c live w fit =
    let old = state g.S.Store c.args.conn in
    let new = state g.S.Store c.settle.new.conn in
    let known = knows c.in-Ok.devices in
    let start : c.start.result ≡ c.args.scheme.now.start = c.start.ensures.value in
    let settles : Settles c.args.owner old new c.in-Ok-Some.layout = rw c.in-Ok-Some.field-0-is at (c.in-Ok-Some.ensures.opens live) in
    let opened : IsOpened c.args.owner old c.in-Ok-Some.layout = rw c.in-Ok-Some.field-0-is at (c.in-Ok-Some.ensures.ours live) in
    let same : IsFit (schema_in w) (IsLawful w c.args.owner c.start.result) old = subst (λ day. IsFit (schema_in w) (IsLawful w c.args.owner day) old) (sym start) fit in
    let kept = kept_fits c.args.owner c.start.result known old new c.in-Ok-Some.layout w settles opened same (c.in-Ok-Some.ensures.database (c.in-Ok-Some.ensures.live live).1) in
    (kept.0, kept.1 ∙ ap (λ day. value_at w c.args.owner day known old.now.trees) start)

pub returns-in-Ok-Some-clause-ours : goal.returns-in-Ok-Some-clause-ours
returns-in-Ok-Some-clause-ours g c live =
    let opened : IsOpened c.args.owner (state g.S.Store c.args.conn) c.in-Ok-Some.layout = rw c.in-Ok-Some.field-0-is at (c.in-Ok-Some.ensures.ours live) in
    vacant_or_ours c.args.owner (state g.S.Store c.args.conn) c.in-Ok-Some.layout opened

pub returns-in-Ok-None-clause-found : goal.returns-in-Ok-None-clause-found
returns-in-Ok-None-clause-found g c why live w fit = c.in-Ok-None.ensures.lacks live c.in-Ok-None.field-0-is (lawful_is_ours w c.args.owner c.args.scheme.now.start (state g.S.Store c.args.conn) fit)

pub returns-in-Ok-Some-clause-again : goal.returns-in-Ok-Some-clause-again
returns-in-Ok-Some-clause-again g c clean w left =
    let old = state g.S.Store c.args.conn in
    let new = state g.S.Store c.settle.new.conn in
    let known = knows c.in-Ok.devices in
    let start : c.start.result ≡ c.args.scheme.now.start = c.start.ensures.value in
    let live : IsLive new = (clean, rw c.in-Ok-Some.field-0-is at (c.in-Ok-Some.ensures.stays clean)) in
    let before = c.in-Ok-Some.ensures.live live in
    let settles : Settles c.args.owner old new c.in-Ok-Some.layout = rw c.in-Ok-Some.field-0-is at (c.in-Ok-Some.ensures.opens live) in
    let opened : IsOpened c.args.owner old c.in-Ok-Some.layout = rw c.in-Ok-Some.field-0-is at (c.in-Ok-Some.ensures.ours live) in
    let whole : IsTrue c.is_autocommit.result = search in
    let same : IsLeft (schema_in w) (IsLawful w c.args.owner c.start.result) old.now.trees = subst (λ day. IsLeft (schema_in w) (IsLawful w c.args.owner day) old.now.trees) (sym start) left in
    let kept = opened_again c.args.owner c.start.result known old new c.in-Ok-Some.layout w settles opened (c.is_autocommit.ensures.settled whole before.1) (c.in-Ok-Some.ensures.database before.1) same in
    (kept.0, kept.1 ∙ ap (λ day. value_at w c.args.owner day known old.now.trees) start)

pub returns-in-Ok-None-clause-never : goal.returns-in-Ok-None-clause-never
returns-in-Ok-None-clause-never g c why clean up w left =
    let old = state g.S.Store c.args.conn in
    let whole : IsTrue c.is_autocommit.result = search in
    c.in-Ok-None.ensures.lacks (clean, c.in-Ok-None.ensures.up clean up) c.in-Ok-None.field-0-is
    (lawful_is_ours w c.args.owner c.args.scheme.now.start old (fit_again (schema_in w) (IsLawful w c.args.owner c.args.scheme.now.start) old (c.is_autocommit.ensures.settled whole up) (c.in-Ok-None.ensures.database up) left))

pub returns-in-Ok-Some-clause-raised : goal.returns-in-Ok-Some-clause-raised
returns-in-Ok-Some-clause-raised g c live o older v fit =
    let old = state g.S.Store c.args.conn in
    let new = state g.S.Store c.settle.new.conn in
    let known = knows c.in-Ok.devices in
    let start : c.start.result ≡ c.args.scheme.now.start = c.start.ensures.value in
    let settles : Settles c.args.owner old new c.in-Ok-Some.layout = rw c.in-Ok-Some.field-0-is at (c.in-Ok-Some.ensures.opens live) in
    let opened : IsOpened c.args.owner old c.in-Ok-Some.layout = rw c.in-Ok-Some.field-0-is at (c.in-Ok-Some.ensures.ours live) in
    let same : IsFit v.schema (IsLawfulOlder o v c.args.owner c.start.result) old = subst (λ day. IsFit v.schema (IsLawfulOlder o v c.args.owner day) old) (sym start) fit in
    let raised = raised_fits c.args.owner c.start.result known old new c.in-Ok-Some.layout o v older settles opened same in
    (raised.0, raised.1 ∙ ap (λ day. value_older o v c.args.owner day known old.now.trees) start)

pub returns-in-Ok-Some-clause-raised_again : goal.returns-in-Ok-Some-clause-raised_again
returns-in-Ok-Some-clause-raised_again g c clean o older v left =
    let old = state g.S.Store c.args.conn in
    let new = state g.S.Store c.settle.new.conn in
    let known = knows c.in-Ok.devices in
    let start : c.start.result ≡ c.args.scheme.now.start = c.start.ensures.value in
    let live : IsLive new = (clean, rw c.in-Ok-Some.field-0-is at (c.in-Ok-Some.ensures.stays clean)) in
    let before = c.in-Ok-Some.ensures.live live in
    let settles : Settles c.args.owner old new c.in-Ok-Some.layout = rw c.in-Ok-Some.field-0-is at (c.in-Ok-Some.ensures.opens live) in
    let opened : IsOpened c.args.owner old c.in-Ok-Some.layout = rw c.in-Ok-Some.field-0-is at (c.in-Ok-Some.ensures.ours live) in
    let whole : IsTrue c.is_autocommit.result = search in
    let same : IsLeft v.schema (IsLawfulOlder o v c.args.owner c.start.result) old.now.trees = subst (λ day. IsLeft v.schema (IsLawfulOlder o v c.args.owner day) old.now.trees) (sym start) left in
    let raised = raised_again c.args.owner c.start.result known old new c.in-Ok-Some.layout o v older settles opened (c.is_autocommit.ensures.settled whole before.1) (c.in-Ok-Some.ensures.database before.1) same in
    (raised.0, raised.1 ∙ ap (λ day. value_older o v c.args.owner day known old.now.trees) start)

pub returns-in-Ok-None-clause-found_older : goal.returns-in-Ok-None-clause-found_older
returns-in-Ok-None-clause-found_older g c why live o older v w rises fit = c.in-Ok-None.ensures.older live c.in-Ok-None.field-0-is (lawful_is_older o v w c.args.owner c.args.scheme.now.start (state g.S.Store c.args.conn) older rises fit)

pub returns-in-Ok-None-clause-never_older : goal.returns-in-Ok-None-clause-never_older
returns-in-Ok-None-clause-never_older g c why clean up o older v w rises left =
    let old = state g.S.Store c.args.conn in
    let whole : IsTrue c.is_autocommit.result = search in
    c.in-Ok-None.ensures.older (clean, c.in-Ok-None.ensures.up clean up) c.in-Ok-None.field-0-is
    (lawful_is_older o v w c.args.owner c.args.scheme.now.start old older rises (fit_again v.schema (IsLawfulOlder o v c.args.owner c.args.scheme.now.start) old (c.is_autocommit.ensures.settled whole up) (c.in-Ok-None.ensures.database up) left))

pub returns-in-Ok-None-clause-leaves : goal.returns-in-Ok-None-clause-leaves
returns-in-Ok-None-clause-leaves g c clean trees leaves = elim (c.settle.ensures.crash.crash clean trees leaves) [ inl was ↦ inl was | inr may ↦ inr (left_open c.args.owner c.args.scheme.now.start (state g.S.Store c.args.conn) trees may) ]

pub returns-in-Err-clause-leaves : goal.returns-in-Err-clause-leaves
returns-in-Err-clause-leaves g c clean trees leaves = elim (c.settle.ensures.crash.crash clean trees leaves) [ inl was ↦ inl was | inr may ↦ inr (left_open c.args.owner c.args.scheme.now.start (state g.S.Store c.args.conn) trees may) ]
