use Rattle.std.proofs.Common.{rules, ◌≡◌, [], ◌∷◌, ◌++◌, List, None, ℕ, ◌+◌, length, refl, sym, ap, ◌∙◌, subst, arith, length-append, Err}
use Rattle.std.proofs.lemmas.Result.{err_from_is_err_and}
use Rattle.fare_session.specs.Asking.{IsAsked}
use Rattle.std.specs.Prelude.{Option, Result, Ok, Err}
use Rattle.std.proofs.lemmas.Map.Entries.{length-keys_of}
use Rattle.fare_scheme.proofs.Slices.{item_at}
use Rattle.fare_store.specs.declared.fault.Fault.{Fault}
use Rattle.fare_store.specs.declared.fault.Fault.TheVariants as fault
use Rattle.fare_session.specs.Stores.{Stays}
use Rattle.fare_session.specs.Asking.{IsStanding, AreTold}
use Rattle.fare_session.proofs.Asks.{told_none, told_more, asked_failed, asked_memory, asked_on}
use Rattle.fare_session.proofs.StoreCalls.{stays_none}
use Rattle.fare_session.proofs.asking.ask.Goals as goal

pub loop-device-init : goal.loop-device-init
loop-device-init g c =
    let a = g.L.Ledger.standing c.args.ledger.now in
    record {
      stays = stays_none a (g.met.L.Ledger.sound c.args.ledger.now);
      live = λ lt. absurd (omega (arith, lt));
      told = told_none c.args.scheme.now a c.args.asked.now.standings.items c.args.asked.now.bases.items c.requires.fresh.0 c.requires.fresh.1;
      count = ap length c.requires.fresh.0;
    }

pub returns-in_err-taken : goal.returns-in_err-taken
returns-in_err-taken g c =
    let is = err_from_is_err_and c.from_residual.result c.from_residual.ensures.1 in
    subst (IsAsked c.args.scheme.now (g.L.Ledger.standing c.args.ledger.now) (g.L.Ledger.standing c.standing.new.ledger) c.loop-device.asked.standings.items c.loop-device.asked.bases.items) (sym (is.1 ∙ ap Err is.2))
    (asked_failed c.args.scheme.now (g.L.Ledger.standing c.args.ledger.now) (g.L.Ledger.standing c.loop-device.ledger) (g.L.Ledger.standing c.standing.new.ledger) c.loop-device.asked.standings.items c.loop-device.asked.bases.items c.device-item.result c.in_err-taken.field-0.0 c.loop-device.invariant.stays c.in_err-taken.ensures)

pub returns-then-is_err : goal.returns-then-is_err
returns-then-is_err g c = asked_memory c.args.scheme.now (g.L.Ledger.standing c.args.ledger.now) (g.L.Ledger.standing c.loop-device.ledger) (g.L.Ledger.standing c.standing.new.ledger) c.push.new.self.items c.loop-device.asked.bases.items c.device-item.result (c.in_ok-taken.taken, c.in_ok-taken.closed) c.loop-device.invariant.stays c.in_ok-taken.ensures

pub returns-then-is_err-2 : goal.returns-then-is_err-2
returns-then-is_err-2 g c = asked_memory c.args.scheme.now (g.L.Ledger.standing c.args.ledger.now) (g.L.Ledger.standing c.loop-device.ledger) (g.L.Ledger.standing c.standing.new.ledger) c.push.new.self.items c.push-in-loop-device.new.self.items c.device-item.result (c.in_ok-taken.taken, c.in_ok-taken.closed) c.loop-device.invariant.stays c.in_ok-taken.ensures

pub loop-device-preserved : goal.loop-device-preserved
loop-device-preserved g c =
    let i = c.loop-device.invariant in
    let sc = c.args.scheme.now in
    let a = g.L.Ledger.standing c.args.ledger.now in
    let b = g.L.Ledger.standing c.loop-device.ledger in
    let d = g.L.Ledger.standing c.standing.new.ledger in
    let p : ℕ × Option ℕ = (c.in_ok-taken.taken, c.in_ok-taken.closed) in
    let now : IsStanding b d c.device-item.result (Ok p) = c.in_ok-taken.ensures in
    let ss : c.push.new.self.items ≡ c.loop-device.asked.standings.items ++ p ∷ [] = search rules in
    let bs : c.push-in-loop-device.new.self.items ≡ c.loop-device.asked.bases.items ++ (c.device-item.result, p.0) ∷ [] = search rules in
    let told = told_more sc a b d c.loop-device.asked.standings.items c.loop-device.asked.bases.items c.device-item.result c.loop-device.device-index p i.stays (subst (λ (z : Option Fault). Stays b d z) now.is now.stays) i.count (c.devices-device-items.ensures.placed c.loop-device.device-index c.device-item.result (item_at c.devices-device-items.result.now c.loop-device.device-index c.device-item.result c.loop-device-test.true c.device-item.is)) now.told i.told in
    record {
      stays = asked_on a b d c.device-item.result p i.stays now;
      live = λ lt clean. i.stays.calls.live (now.stays.calls.live (now.live clean));
      told = subst (λ (z : List (ℕ × Option ℕ) × List (ℕ × ℕ)). AreTold sc a d z.0 z.1) (λ j. (sym ss j, sym bs j)) told;
      count = ap length ss ∙ length-append c.loop-device.asked.standings.items (p ∷ []) ∙ ap (λ (n : ℕ). n + 1) i.count;
    }

pub returns : goal.returns
returns g c =
    let i = c.loop-device.invariant in
    let all : length c.devices-device-items.result.now ≡ length c.args.scheme.now.devices = ap length c.devices-device-items.ensures.value ∙ length-keys_of c.args.scheme.now.devices in
    record {
      faulted = None;
      stays = i.stays;
      cause = λ e. absurd (let is : ◌≡◌ {A = Result (Unit {0}) Fault} (Ok tt) (Err fault.Store) = e in cc);
      none = refl;
      live = i.live (omega (arith, all, c.loop-device-test.false, c.devices-device-items.ensures.valid.has_device));
      told = i.told;
      count = omega (arith, i.count, all, c.loop-device-test.false, c.loop-device.auto.device-index-end);
      some = c.devices-device-items.ensures.valid.has_device;
    }
