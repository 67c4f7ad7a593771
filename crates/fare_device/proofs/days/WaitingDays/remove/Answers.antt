use Rattle.std.proofs.Common.{◌≡◌, length, rules, arith}
use Rattle.std.proofs.lemmas.Fn.{filter_same}
use Rattle.std.proofs.lemmas.Grind.{common_steps}
use Rattle.fare_device.specs.Turning.{without}
use Rattle.fare_device.proofs.Without.{shrinks}
use Rattle.fare_device.proofs.days.WaitingDays.remove.Goals as goal

pub returns-clause-gone : goal.returns-clause-gone
returns-clause-gone c = rw (← c.self.view_is) (filter_same _ _ _ (λ x b f' k. search rules) _ _ c.retain.ensures.filtered)

pub returns-clause-value : goal.returns-clause-value
returns-clause-value c =
    let days = c.self.inside.days.items in
    let gone : c.retain.new.self.items ≡ without days c.args.day = filter_same _ _ _ (λ x b f' k. search rules) _ _ c.retain.ensures.filtered in
    let after : c.len.result ≡ length c.retain.new.self.items = grind (arith, common_steps) in
    let before : c.len-before.result ≡ length days = grind (arith, common_steps) in
    rw (after, before, gone, ← c.self.view_is) (shrinks days c.args.day)
