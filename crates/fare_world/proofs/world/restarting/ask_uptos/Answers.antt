use Rattle.std.proofs.Common.{◌≡◌, ◌≢◌, ◌+◌, ◌<◌, ℕ, Some, None, length, set, ap, ◌∙◌, subst, arith, inl, inr}
use Rattle.std.specs.Prelude.{Ok, Err}
use Rattle.std.proofs.lemmas.Bool.Decides.{nat_tests}
use Rattle.std.proofs.lemmas.Map.Entries.{length-keys_of}
use Rattle.fare_scheme.proofs.Slices.{item_at}
use Rattle.fare_record.specs.Limits.{IsCount}
use Rattle.fare_store.specs.Standing.{Reads}
use Rattle.fare_store.specs.OutboxWords.{OutboxValue}
use Rattle.fare_side.specs.Resuming.{AreUptos}
use Rattle.fare_side.proofs.Positions.{set_cases}
use Rattle.fare_store.proofs.Readings.{read_failed, reads_none, reads_since, since_calls, calls_since, reads_say}
use Rattle.fare_side.proofs.Told.{ToldTo, one_told, told_all}
use Rattle.fare_world.proofs.world.restarting.ask_uptos.Goals as goal

less : (j place : ℕ) → j < place + 1 → j ≢ place → j < place
less j place lt apart = grind (arith, nat_tests)

pub loop-place-init : goal.loop-place-init
loop-place-init g c = record {
  read = reads_none (g.O.Outbox.standing c.args.outbox.now) (0 < 0) (ToldTo c.args.scheme.now (g.O.Outbox.standing c.args.outbox.now).value.upto 0 c.args.uptos.now) (λ lt. omega (arith, lt)) (record { each = λ d k n lt. absurd (omega (arith, lt)) });
  valid = λ k n lt. absurd (omega (arith, lt));
}

pub loop-place-preserved : goal.loop-place-preserved
loop-place-preserved g c =
    let i = c.loop-place.invariant in
    let sc = c.args.scheme.now in
    let first = g.O.Outbox.standing c.args.outbox.now in
    let before = g.O.Outbox.standing c.loop-place.outbox in
    let now = g.O.Outbox.standing c.upto.new.self in
    let device = c.device-item.result in
    let u = c.in_ok-uptos.field-0 in
    let k = c.loop-place.place in
    let xs = c.loop-place.uptos in
    let one : Reads before now (λ n. n ≡ before.value.upto device) (Ok u) = c.in_ok-uptos.ensures.read in
    record {
      read = since_calls first now (0 < k + 1) (ToldTo sc first.value.upto (k + 1) (set xs k u)) (reads_say first now ((before.value ≡ first.value) × ToldTo sc first.value.upto k xs × (u ≡ before.value.upto device)) (ToldTo sc first.value.upto (k + 1) (set xs k u)) None
          (λ is. (is.0, one_told sc first.value.upto xs k device u is.1.1 (c.devices-device-items.ensures.placed c.loop-place.place c.device-item.result (item_at c.devices-device-items.result.now c.loop-place.place c.device-item.result c.loop-place-test.true c.device-item.is)) (is.1.2 ∙ ap (λ (v : OutboxValue). v.upto device) is.1.0)))
          (reads_since first before now (0 < k) (ToldTo sc first.value.upto k xs) (u ≡ before.value.upto device) None i.read one));
      valid = λ j n lt e. elim (set_cases xs k u j n e) [ inl is ↦ subst IsCount is.1 c.in_ok-uptos.ensures.valid | inr was ↦ i.valid j n (less j k lt was.0) was.1 ];
    }

pub returns-clause-read : goal.returns-clause-read
returns-clause-read g c =
    let i = c.loop-place.invariant in
    let sc = c.args.scheme.now in
    let first = g.O.Outbox.standing c.args.outbox.now in
    let last = g.O.Outbox.standing c.loop-place.outbox in
    reads_say first last (ToldTo sc first.value.upto c.loop-place.place c.loop-place.uptos) (AreUptos sc first.value.upto c.loop-place.uptos) None
    (λ is. (is.0, told_all sc first.value.upto c.loop-place.uptos c.loop-place.place is.1 (omega (arith, c.loop-place-test.false, ap length c.devices-device-items.ensures.value, length-keys_of c.args.scheme.now.devices)) (omega (arith, c.requires))))
    (calls_since first last (0 < c.loop-place.place) (ToldTo sc first.value.upto c.loop-place.place c.loop-place.uptos) (omega (arith, c.loop-place-test.false, ap length c.devices-device-items.ensures.value, length-keys_of c.args.scheme.now.devices, c.devices-device-items.ensures.valid.has_device)) i.read)

pub returns-in_err-uptos-clause-read : goal.returns-in_err-uptos-clause-read
returns-in_err-uptos-clause-read g c =
    let first = g.O.Outbox.standing c.args.outbox.now in
    let before = g.O.Outbox.standing c.loop-place.outbox in
    let now = g.O.Outbox.standing c.upto.new.self in
    let one : Reads before now (λ n. n ≡ before.value.upto c.device-item.result) (Err c.in_err-uptos.field-0.0) = c.in_err-uptos.ensures.read in
    read_failed first now _ _ c.from_residual.result c.in_err-uptos.field-0.0 c.from_residual.ensures.1
    (reads_since first before now (0 < c.loop-place.place) (ToldTo c.args.scheme.now first.value.upto c.loop-place.place c.loop-place.uptos) (Unit {0}) (Some c.in_err-uptos.field-0.0) c.loop-place.invariant.read one)
