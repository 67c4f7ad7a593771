use Rattle.std.proofs.Common.{◌≡◌, ℕ, ◌+◌, ◌<◌, ◌≤◌, Bool, Some, None, length, refl, sym, ap, ◌∙◌, arith}
use Rattle.std.specs.Prelude.{◌||◌, Ok, Option}
use Rattle.fare_scheme.proofs.Slices.{entry_at, none_left}
use Rattle.fare_scheme.specs.Words.{id_at}
use Rattle.fare_store.specs.LedgerWords.{LedgerValue, closed_through}
use Rattle.fare_store.specs.Standing.{Reads}
use Rattle.fare_side.specs.OpenDays.{is_closed, reaches}
use Rattle.fare_side.specs.Weeks.{open_of}
use Rattle.fare_store.proofs.Readings.{reads_none, since_calls, calls_since, reads_say}
use Rattle.fare_side.proofs.Asked.{asked_both}
use Rattle.fare_side.proofs.Opens.{closed_by, ArePassedBefore, one_passed, one_open, none_open}
use Rattle.fare_side.proofs.billing.first_open.Goals as goal

pub loop-device-init : goal.loop-device-init
loop-device-init g c = reads_none (g.L.Ledger.standing c.args.ledger.now) (0 < 0) _ (λ lt. omega (arith, lt)) (λ le. refl)

-- whether the device is passed, by what was told of it
told_is : (v : LedgerValue) (device day : ℕ) (last : Option ℕ) (retired settled : Bool) → v.start ≤ day → last ≡ closed_through v device → retired ≡ v.retired device → settled ≡ (reaches last day || retired) → (is_closed v.start (v.closed device) day || v.retired device) ≡ settled
told_is v device day last retired settled le a b is = sym (is ∙ (λ i. reaches (a i) day || b i) ∙ ap (λ t. t || v.retired device) (closed_by v device day le))

pub returns-then-not-is_settled : goal.returns-then-not-is_settled
returns-then-not-is_settled g c =
    let first = g.L.Ledger.standing c.args.ledger.now in
    let before = g.L.Ledger.standing c.loop-device.ledger in
    let between = g.L.Ledger.standing c.closed_through.new.self in
    let now = g.L.Ledger.standing c.retired.new.self in
    let v = first.value in
    let sc = c.args.scheme.now in
    let device = c.device-item.result in
    let day = c.args.day in
    let last = c.in_ok-last.last in
    let retired = c.in_ok-retired.retired in
    let so = v.start ≤ day → ArePassedBefore v.start v.closed v.retired day sc.devices c.loop-device.device-index in
    let at : id_at sc.devices c.loop-device.device-index ≡ Some device = entry_at c.args.scheme.now.devices c.devices-device-items.result.now c.loop-device.device-index c.device-item.result c.devices-device-items.ensures.value c.loop-device-test.true c.device-item.is in
    let one : Reads before between (λ n. n ≡ closed_through before.value device) (Ok last) = c.in_ok-last.ensures in
    let two : Reads between now (λ r. r ≡ between.value.retired device) (Ok retired) = c.in_ok-retired.ensures in
    reads_say first now (so × (last ≡ closed_through v device) × (retired ≡ v.retired device)) (v.start ≤ day → Some device ≡ open_of v day sc) None
    (λ is. (is.0, λ le. one_open v.start v.closed v.retired day sc.devices c.loop-device.device-index device at (is.1.0 le) (told_is v device day last retired c.is_settled.result le is.1.1 is.1.2 c.is_settled.ensures ∙ c.if-not-is_settled.true)))
    (asked_both first before between (0 < c.loop-device.device-index) so (λ (w : LedgerValue). closed_through w device) last c.loop-device.invariant one now (λ (w : LedgerValue). w.retired device) retired two)

pub loop-device-preserved : goal.loop-device-preserved
loop-device-preserved g c =
    let first = g.L.Ledger.standing c.args.ledger.now in
    let before = g.L.Ledger.standing c.loop-device.ledger in
    let between = g.L.Ledger.standing c.closed_through.new.self in
    let now = g.L.Ledger.standing c.retired.new.self in
    let v = first.value in
    let sc = c.args.scheme.now in
    let device = c.device-item.result in
    let day = c.args.day in
    let last = c.in_ok-last.last in
    let retired = c.in_ok-retired.retired in
    let so = v.start ≤ day → ArePassedBefore v.start v.closed v.retired day sc.devices c.loop-device.device-index in
    let more = v.start ≤ day → ArePassedBefore v.start v.closed v.retired day sc.devices (c.loop-device.device-index + 1) in
    let at : id_at sc.devices c.loop-device.device-index ≡ Some device = entry_at c.args.scheme.now.devices c.devices-device-items.result.now c.loop-device.device-index c.device-item.result c.devices-device-items.ensures.value c.loop-device-test.true c.device-item.is in
    let one : Reads before between (λ n. n ≡ closed_through before.value device) (Ok last) = c.in_ok-last.ensures in
    let two : Reads between now (λ r. r ≡ between.value.retired device) (Ok retired) = c.in_ok-retired.ensures in
    since_calls first now (0 < c.loop-device.device-index + 1) more (reads_say first now (so × (last ≡ closed_through v device) × (retired ≡ v.retired device)) more None
    (λ is. (is.0, λ le. one_passed v.start v.closed v.retired day sc.devices c.loop-device.device-index device at (is.1.0 le) (told_is v device day last retired c.is_settled.result le is.1.1 is.1.2 c.is_settled.ensures ∙ c.if-not-is_settled.false)))
    (asked_both first before between (0 < c.loop-device.device-index) so (λ (w : LedgerValue). closed_through w device) last c.loop-device.invariant one now (λ (w : LedgerValue). w.retired device) retired two))

pub returns : goal.returns
returns g c =
    let first = g.L.Ledger.standing c.args.ledger.now in
    let now = g.L.Ledger.standing c.loop-device.ledger in
    let v = first.value in
    let sc = c.args.scheme.now in
    let day = c.args.day in
    let long : length sc.devices ≤ c.loop-device.device-index = none_left c.args.scheme.now.devices c.devices-device-items.result.now c.loop-device.device-index c.devices-device-items.ensures.value (omega (arith, c.loop-device-test.false)) in
    reads_say first now (v.start ≤ day → ArePassedBefore v.start v.closed v.retired day sc.devices c.loop-device.device-index) (v.start ≤ day → None ≡ open_of v day sc) None
    (λ is. (is.0, λ le. none_open v.start v.closed v.retired day sc.devices c.loop-device.device-index (is.1 le) long))
    (calls_since first now (0 < c.loop-device.device-index) (v.start ≤ day → ArePassedBefore v.start v.closed v.retired day sc.devices c.loop-device.device-index) (omega (arith, long, c.devices-device-items.ensures.valid.has_device)) c.loop-device.invariant)
