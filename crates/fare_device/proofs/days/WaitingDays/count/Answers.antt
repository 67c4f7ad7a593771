use Rattle.std.proofs.Common.{◌≡◌, ◌≤◌, ℕ, true, false, List, length, nat_eq, is_some, Some, ◌∙◌, sym, ap, subst, arith}
use Rattle.std.proofs.lemmas.Grind.{common_steps}
use Rattle.std.proofs.lemmas.Option.{slice_get-get_or}
use Rattle.std.specs.Prelude.{slice_get, option_and_then}
use Rattle.std.specs.Map.{lookup}
use Rattle.fare_device.specs.DeviceWords.{AreCounts}
use Rattle.fare_device.specs.Turning.{is_waiting}
use Rattle.fare_device.proofs.Counting.{found_item, found_where_waiting, within_at, ended}
use Rattle.fare_device.proofs.days.WaitingDays.count.Goals as goal

pub returns-then-eq-clause-value : goal.returns-then-eq-clause-value
returns-then-eq-clause-value c =
    let found : lookup (nat_eq c.args.day) c.args.self.now ≡ Some c.kept-item.result.1 = found_item c.deref-kept-items.result.now c.args.self.now c.args.day c.loop-kept.kept-index c.kept.inside.day c.kept-item.result (c.deref-kept-items.ensures.value ∙ c.self.view_is) c.loop-kept-test.true c.kept-item.is c.loop-kept.invariant (ap (λ (e : ℕ × List ℕ). e.0) c.kept.view_is) (sym c.eq.ensures ∙ c.if-eq.true) in
    c.count.ensures ∙ sym (ap (option_and_then (λ ns. slice_get ns c.args.place)) found)

pub returns-then-eq-clause-found : goal.returns-then-eq-clause-found
returns-then-eq-clause-found c =
    let found : lookup (nat_eq c.args.day) c.args.self.now ≡ Some c.kept-item.result.1 = found_item c.deref-kept-items.result.now c.args.self.now c.args.day c.loop-kept.kept-index c.kept.inside.day c.kept-item.result (c.deref-kept-items.ensures.value ∙ c.self.view_is) c.loop-kept-test.true c.kept-item.is c.loop-kept.invariant (ap (λ (e : ℕ × List ℕ). e.0) c.kept.view_is) (sym c.eq.ensures ∙ c.if-eq.true) in
    let counts : AreCounts c.kept-item.result.1 = subst (λ (e : ℕ × List ℕ). AreCounts e.1) c.kept.view_is c.kept.invariant in
    λ small. (
      λ _. sym (found_where_waiting c.args.self.now c.args.day) ∙ ap is_some found,
      λ _. ap is_some (c.count.ensures ∙ slice_get-get_or c.kept-item.result.1 c.args.place 0 (omega (arith, counts.places))),
    )

pub returns-then-eq-clause-valid : goal.returns-then-eq-clause-valid
returns-then-eq-clause-valid c =
    let counts : AreCounts c.kept-item.result.1 = subst (λ (e : ℕ × List ℕ). AreCounts e.1) c.kept.view_is c.kept.invariant in
    within_at 1099511627775 c.kept-item.result.1 c.args.place c.count.result c.count.ensures counts.within

pub returns-clause-found : goal.returns-clause-found
returns-clause-found c =
    let days = c.deref-kept-items.result.now in
    let all : length days ≤ c.loop-kept.kept-index = omega arith in
    let none : is_waiting c.args.self.now c.args.day ≡ false = subst (λ e. is_waiting e c.args.day ≡ false) (c.deref-kept-items.ensures.value ∙ c.self.view_is) (ended days c.args.day c.loop-kept.kept-index all c.loop-kept.invariant) in
    λ small. (λ e. absurd (let h = e in cc), λ w. absurd (let h = sym none ∙ w in cc))
