use Rattle.std.proofs.Common.{rules, ◌≡◌, ℕ, ◌+◌, ◌<◌, ◌≤◌, ◌++◌, ◌∷◌, [], List, Bool, Some, None, length, refl, sym, ap, ◌∙◌, subst, arith}
use Rattle.std.specs.Prelude.{◌&&◌, not, Ok, Option}
use Rattle.fare_scheme.proofs.Slices.{entry_at, none_left}
use Rattle.fare_scheme.specs.Words.{id_at}
use Rattle.fare_store.specs.LedgerWords.{LedgerValue, closed_through}
use Rattle.fare_store.specs.Standing.{Reads}
use Rattle.fare_side.specs.OpenDays.{is_closed, reaches}
use Rattle.fare_store.proofs.Readings.{Since, reads_none, reads_since, since_calls, calls_since, reads_say, read_failed}
use Rattle.fare_side.proofs.Asked.{one_more, asked_both, unkept}
use Rattle.fare_side.proofs.Opens.{closed_by, AreShortBefore, one_short, one_whole, all_short}
use Rattle.fare_side.specs.Weeks.{short_of}
use Rattle.fare_store.specs.declared.fault.Fault.TheVariants as fault
use Rattle.fare_side.proofs.billing.short_devices.Goals.{then-is_short+in_ok-push, else-is_short}
use Rattle.fare_side.proofs.billing.short_devices.Goals as goal

-- whether the day is short of the device, by what was told of it
told_is : (v : LedgerValue) (device day : ℕ) (last : Option ℕ) (retired short : Bool) → v.start ≤ day → last ≡ closed_through v device → retired ≡ v.retired device → short ≡ (retired && not (reaches last day)) → (v.retired device && not (is_closed v.start (v.closed device) day)) ≡ short
told_is v device day last retired short le a b is = sym (is ∙ (λ i. b i && not (reaches (a i) day)) ∙ ap (λ t. v.retired device && not t) (closed_by v device day le))

pub loop-device-preserved : goal.loop-device-preserved
loop-device-preserved g c =
    let first = g.L.Ledger.standing c.args.ledger.now in
    let before = g.L.Ledger.standing c.loop-device.ledger in
    let between = g.L.Ledger.standing c.closed_through.new.self in
    let now = g.L.Ledger.standing c.retired.new.self in
    let v = first.value in
    let ds = c.args.scheme.now.devices in
    let place = c.loop-device.device-index in
    let device = c.device-item.result in
    let day = c.args.day in
    let last = c.in_ok-last.last in
    let retired = c.in_ok-retired.retired in
    let short = c.loop-device.short.items in
    let so = v.start ≤ day → AreShortBefore v.start v.closed v.retired day ds place short in
    let at : id_at ds place ≡ Some device = entry_at c.args.scheme.now.devices c.devices-device-items.result.now c.loop-device.device-index c.device-item.result c.devices-device-items.ensures.value c.loop-device-test.true c.device-item.is in
    let one : Reads before between (λ n. n ≡ closed_through before.value device) (Ok last) = c.in_ok-last.ensures in
    let two : Reads between now (λ r. r ≡ between.value.retired device) (Ok retired) = c.in_ok-retired.ensures in
    let both = asked_both first before between (0 < place) so (λ (w : LedgerValue). closed_through w device) last c.loop-device.invariant one now (λ (w : LedgerValue). w.retired device) retired two in
    elim c.if-is_short.branch [
      | then-is_short+in_ok-push w ↦
          let more : w.push.new.self.items ≡ short ++ device ∷ [] = search rules in
          let goes_on = v.start ≤ day → AreShortBefore v.start v.closed v.retired day ds (place + 1) (short ++ device ∷ []) in
          subst (λ (l : List ℕ). Since first now (0 < place + 1) (v.start ≤ day → AreShortBefore v.start v.closed v.retired day ds (place + 1) l)) (sym (ap (λ x. x.items) w.short-is ∙ more))
          (since_calls first now (0 < place + 1) goes_on (reads_say first now (so × (last ≡ closed_through v device) × (retired ≡ v.retired device)) goes_on None
          (λ is. (is.0, λ le. one_short v.start v.closed v.retired day ds place device short at (is.1.0 le) (told_is v device day last retired c.is_short.result le is.1.1 is.1.2 c.is_short.ensures ∙ w.if-is_short.true))) both))
      | else-is_short w ↦
          let goes_on = v.start ≤ day → AreShortBefore v.start v.closed v.retired day ds (place + 1) short in
          subst (λ (l : List ℕ). Since first now (0 < place + 1) (v.start ≤ day → AreShortBefore v.start v.closed v.retired day ds (place + 1) l)) (sym (ap (λ x. x.items) w.short-is))
          (since_calls first now (0 < place + 1) goes_on (reads_say first now (so × (last ≡ closed_through v device) × (retired ≡ v.retired device)) goes_on None
          (λ is. (is.0, λ le. one_whole v.start v.closed v.retired day ds place device short at (is.1.0 le) (told_is v device day last retired c.is_short.result le is.1.1 is.1.2 c.is_short.ensures ∙ w.if-is_short.false))) both))
    ]

pub loop-device-init : goal.loop-device-init
loop-device-init g c =
    let v = (g.L.Ledger.standing c.args.ledger.now).value in
    reads_none (g.L.Ledger.standing c.args.ledger.now) (0 < 0) _ (λ lt. omega (arith, lt))
    (λ le. subst (λ (l : List ℕ). AreShortBefore v.start v.closed v.retired c.args.day c.args.scheme.now.devices 0 l) (sym c.new-short.ensures.items) refl)

pub returns-in_err-last : goal.returns-in_err-last
returns-in_err-last g c =
    let first = g.L.Ledger.standing c.args.ledger.now in
    let before = g.L.Ledger.standing c.loop-device.ledger in
    let now = g.L.Ledger.standing c.closed_through.new.self in
    read_failed first now _ _ c.from_residual.result _ c.from_residual.ensures.1 (reads_since first before now (0 < c.loop-device.device-index) _ (Unit {0}) (Some _) c.loop-device.invariant c.in_err-last.ensures)

pub returns-in_err-retired : goal.returns-in_err-retired
returns-in_err-retired g c =
    let first = g.L.Ledger.standing c.args.ledger.now in
    let before = g.L.Ledger.standing c.loop-device.ledger in
    let between = g.L.Ledger.standing c.closed_through.new.self in
    let now = g.L.Ledger.standing c.retired.new.self in
    let device = c.device-item.result in
    let one : Reads before between (λ n. n ≡ closed_through before.value device) (Ok c.in_ok-last.last) = c.in_ok-last.ensures in
    read_failed first now _ _ c.from_residual-in_err-retired.result _ c.from_residual-in_err-retired.ensures.1
    (reads_since first between now (0 < c.loop-device.device-index) _ (Unit {0}) (Some _) (one_more first before between (0 < c.loop-device.device-index) _ (λ (w : LedgerValue). closed_through w device) c.in_ok-last.last c.loop-device.invariant one) c.in_err-retired.ensures)

pub returns-in_err-push : goal.returns-in_err-push
returns-in_err-push g c =
    let first = g.L.Ledger.standing c.args.ledger.now in
    let before = g.L.Ledger.standing c.loop-device.ledger in
    let between = g.L.Ledger.standing c.closed_through.new.self in
    let now = g.L.Ledger.standing c.retired.new.self in
    let device = c.device-item.result in
    let retired = c.in_ok-retired.retired in
    let one : Reads before between (λ n. n ≡ closed_through before.value device) (Ok c.in_ok-last.last) = c.in_ok-last.ensures in
    let two : Reads between now (λ r. r ≡ between.value.retired device) (Ok retired) = c.in_ok-retired.ensures in
    let both = asked_both first before between (0 < c.loop-device.device-index) _ (λ (w : LedgerValue). closed_through w device) c.in_ok-last.last c.loop-device.invariant one now (λ (w : LedgerValue). w.retired device) retired two in
    read_failed first now (Unit {0}) _ c.from_residual-in_err-push.result fault.Memory c.from_residual-in_err-push.ensures.1
    (unkept first now (0 < c.loop-device.device-index + 1) _ (λ (r : List ℕ). Unit {0}) (since_calls first now (0 < c.loop-device.device-index + 1) _ both))

pub returns : goal.returns
returns g c =
    let first = g.L.Ledger.standing c.args.ledger.now in
    let now = g.L.Ledger.standing c.loop-device.ledger in
    let v = first.value in
    let sc = c.args.scheme.now in
    let day = c.args.day in
    let long : length sc.devices ≤ c.loop-device.device-index = none_left c.args.scheme.now.devices c.devices-device-items.result.now c.loop-device.device-index c.devices-device-items.ensures.value (omega (arith, c.loop-device-test.false)) in
    let so = v.start ≤ day → AreShortBefore v.start v.closed v.retired day sc.devices c.loop-device.device-index c.loop-device.short.items in
    reads_say first now so (v.start ≤ day → c.loop-device.short.items ≡ short_of v day sc) None (λ is. (is.0, λ le. all_short v.start v.closed v.retired day sc.devices c.loop-device.device-index c.loop-device.short.items (is.1 le) long))
    (calls_since first now (0 < c.loop-device.device-index) so (omega (arith, long, c.devices-device-items.ensures.valid.has_device)) c.loop-device.invariant)
