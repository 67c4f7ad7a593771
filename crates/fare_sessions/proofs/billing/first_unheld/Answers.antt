use Rattle.std.proofs.Common.{◌≡◌, ◌+◌, ◌<◌, ◌≤◌, Some, None, true, false, length, refl, sym, ap, ◌∙◌, arith}
use Rattle.std.specs.Prelude.{Ok, Err, nat_le}
use Rattle.fare_scheme.proofs.Slices.{entry_at, none_left}
use Rattle.fare_scheme.specs.Words.{id_at}
use Rattle.fare_store.specs.LedgerWords.{LedgerValue}
use Rattle.fare_store.specs.Standing.{Reads}
use Rattle.fare_agreement.specs.Parts.{first_forgotten}
use Rattle.fare_store.proofs.Readings.{reads_none, reads_since, since_calls, calls_since, reads_say, read_failed}
use Rattle.fare_sessions.proofs.Unheld.{AreHeldBefore, one_held, one_gone, none_gone, not_later, later}
use Rattle.fare_sessions.proofs.billing.first_unheld.Goals as goal

pub loop-device-init : goal.loop-device-init
loop-device-init g c = reads_none (g.L.Ledger.standing c.args.ledger.now) (0 < 0) _ (λ lt. omega (arith, lt)) refl

pub returns-in_err-from : goal.returns-in_err-from
returns-in_err-from g c =
    let first = g.L.Ledger.standing c.args.ledger.now in
    let before = g.L.Ledger.standing c.loop-device.ledger in
    let now = g.L.Ledger.standing c.held_from.new.self in
    let one : Reads before now (λ n. n ≡ before.value.from c.device-item.result) (Err c.in_err-from.field-0.0) = c.in_err-from.ensures in
    read_failed first now _ _ c.from_residual.result c.in_err-from.field-0.0 c.from_residual.ensures.1
    (reads_since first before now (0 < c.loop-device.device-index) (AreHeldBefore first.value.from c.args.day c.args.scheme.now.devices c.loop-device.device-index) (Unit {0}) (Some c.in_err-from.field-0.0) c.loop-device.invariant one)

pub returns-then-gt : goal.returns-then-gt
returns-then-gt g c =
    let first = g.L.Ledger.standing c.args.ledger.now in
    let before = g.L.Ledger.standing c.loop-device.ledger in
    let now = g.L.Ledger.standing c.held_from.new.self in
    let ds = c.args.scheme.now.devices in
    let device = c.device-item.result in
    let day = c.args.day in
    let so = AreHeldBefore first.value.from day ds c.loop-device.device-index in
    let at : id_at ds c.loop-device.device-index ≡ Some device = entry_at c.args.scheme.now.devices c.devices-device-items.result.now c.loop-device.device-index c.device-item.result c.devices-device-items.ensures.value c.loop-device-test.true c.device-item.is in
    let one : Reads before now (λ n. n ≡ before.value.from device) (Ok c.in_ok-from.from) = c.in_ok-from.ensures in
    let late : nat_le c.in_ok-from.from day ≡ false = later c.in_ok-from.from day (sym c.gt.ensures ∙ c.if-gt.true) in
    reads_say first now ((before.value ≡ first.value) × so × (c.in_ok-from.from ≡ before.value.from device)) (Some device ≡ first_forgotten first.value.from day ds) None
    (λ is. (is.0, one_gone first.value.from day ds c.loop-device.device-index device at is.1.1 (ap (λ (v : LedgerValue). nat_le (v.from device) day) (sym is.1.0) ∙ ap (λ n. nat_le n day) (sym is.1.2) ∙ late)))
    (reads_since first before now (0 < c.loop-device.device-index) so (c.in_ok-from.from ≡ before.value.from device) None c.loop-device.invariant one)

pub loop-device-preserved : goal.loop-device-preserved
loop-device-preserved g c =
    let first = g.L.Ledger.standing c.args.ledger.now in
    let before = g.L.Ledger.standing c.loop-device.ledger in
    let now = g.L.Ledger.standing c.held_from.new.self in
    let ds = c.args.scheme.now.devices in
    let device = c.device-item.result in
    let day = c.args.day in
    let so = AreHeldBefore first.value.from day ds c.loop-device.device-index in
    let more = AreHeldBefore first.value.from day ds (c.loop-device.device-index + 1) in
    let at : id_at ds c.loop-device.device-index ≡ Some device = entry_at c.args.scheme.now.devices c.devices-device-items.result.now c.loop-device.device-index c.device-item.result c.devices-device-items.ensures.value c.loop-device-test.true c.device-item.is in
    let one : Reads before now (λ n. n ≡ before.value.from device) (Ok c.in_ok-from.from) = c.in_ok-from.ensures in
    let held : nat_le c.in_ok-from.from day ≡ true = not_later c.in_ok-from.from day (sym c.gt.ensures ∙ c.if-gt.false) in
    since_calls first now (0 < c.loop-device.device-index + 1) more (reads_say first now ((before.value ≡ first.value) × so × (c.in_ok-from.from ≡ before.value.from device)) more None
    (λ is. (is.0, one_held first.value.from day ds c.loop-device.device-index device at is.1.1 (ap (λ (v : LedgerValue). nat_le (v.from device) day) (sym is.1.0) ∙ ap (λ n. nat_le n day) (sym is.1.2) ∙ held)))
    (reads_since first before now (0 < c.loop-device.device-index) so (c.in_ok-from.from ≡ before.value.from device) None c.loop-device.invariant one))

pub returns : goal.returns
returns g c =
    let first = g.L.Ledger.standing c.args.ledger.now in
    let now = g.L.Ledger.standing c.loop-device.ledger in
    let ds = c.args.scheme.now.devices in
    let day = c.args.day in
    let long : length ds ≤ c.loop-device.device-index = none_left c.args.scheme.now.devices c.devices-device-items.result.now c.loop-device.device-index c.devices-device-items.ensures.value (omega (arith, c.loop-device-test.false)) in
    reads_say first now (AreHeldBefore first.value.from day ds c.loop-device.device-index) (None ≡ first_forgotten first.value.from day ds) None
    (λ is. (is.0, none_gone first.value.from day ds c.loop-device.device-index is.1 long))
    (calls_since first now (0 < c.loop-device.device-index) (AreHeldBefore first.value.from day ds c.loop-device.device-index) (omega (arith, long, c.devices-device-items.ensures.valid.has_device)) c.loop-device.invariant)
