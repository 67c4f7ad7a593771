use Rattle.std.proofs.Common.{◌≡◌, ◌+◌, nat_eq, Some, None, is_some, refl, sym, ap, arith}
use Rattle.std.specs.HashMap.{get}
use Rattle.fare_link.specs.Values.{ReceiverValue}
use Rattle.fare_collector.proofs.Changing.{written, same_numbers, due_number, no_number}
use Rattle.fare_collector.proofs.collector.Collector.accept.Goals as goal

pub returns-in_default-clause-ok : goal.returns-in_default-clause-ok
returns-in_default-clause-ok c =
    let none : get nat_eq c.args.self.now.receivers c.device.result ≡ None = sym c.in_default.ensures.value in
    let none = rw c.device.ensures at none in
    (λ e. absurd (let h = e in cc), λ due. absurd (no_number (get nat_eq c.args.self.now.receivers c.args.tapped.now.device) c.args.tapped.now.link none due.0))

pub returns-then-ne-clause-unchanged : goal.returns-then-ne-clause-unchanged
returns-then-ne-clause-unchanged c =
    let was = c.in-Some.receiver.now in
    let found : get nat_eq c.args.self.now.receivers c.device.result ≡ Some was = sym c.in-Some.ensures.value in
    let there = rw c.device.ensures at found in
    same_numbers c.args.tapped.now.device (get nat_eq c.args.self.now.receivers) (get nat_eq (c.get_mut.follows.lender was)) was there (rw (← c.device.ensures) (λ d. ((c.get_mut.follows.holds was).3 (ap is_some found)).0 d))

pub returns-in-Old-clause-unchanged : goal.returns-in-Old-clause-unchanged
returns-in-Old-clause-unchanged c =
    let was = c.in-Some.receiver.now in
    let found : get nat_eq c.args.self.now.receivers c.device.result ≡ Some was = sym c.in-Some.ensures.value in
    let there = rw c.device.ensures at found in
    same_numbers c.args.tapped.now.device (get nat_eq c.args.self.now.receivers) (get nat_eq (c.get_mut.follows.lender was)) was there (rw (← c.device.ensures) (λ d. ((c.get_mut.follows.holds was).3 (ap is_some found)).0 d))

pub returns-in-Ahead-clause-unchanged : goal.returns-in-Ahead-clause-unchanged
returns-in-Ahead-clause-unchanged c =
    let was = c.in-Some.receiver.now in
    let found : get nat_eq c.args.self.now.receivers c.device.result ≡ Some was = sym c.in-Some.ensures.value in
    let there = rw c.device.ensures at found in
    same_numbers c.args.tapped.now.device (get nat_eq c.args.self.now.receivers) (get nat_eq (c.get_mut.follows.lender was)) was there (rw (← c.device.ensures) (λ d. ((c.get_mut.follows.holds was).3 (ap is_some found)).0 d))

pub returns-in-Old-clause-ok : goal.returns-in-Old-clause-ok
returns-in-Old-clause-ok c =
    let found : get nat_eq c.args.self.now.receivers c.device.result ≡ Some c.in-Some.receiver.now = sym c.in-Some.ensures.value in
    let there = rw c.device.ensures at found in
    let off = c.in-Old.ensures.old.0 refl in
    (λ e. absurd (let h = e in cc), λ due. absurd (let same = due_number (get nat_eq c.args.self.now.receivers c.args.tapped.now.device) c.in-Some.receiver.now c.args.tapped.now.link there due.0 in omega (arith, c.link.ensures.value)))

pub returns-in-Ahead-clause-ok : goal.returns-in-Ahead-clause-ok
returns-in-Ahead-clause-ok c =
    let found : get nat_eq c.args.self.now.receivers c.device.result ≡ Some c.in-Some.receiver.now = sym c.in-Some.ensures.value in
    let there = rw c.device.ensures at found in
    let off = c.in-Ahead.ensures.ahead.0 refl in
    (λ e. absurd (let h = e in cc), λ due. absurd (let same = due_number (get nat_eq c.args.self.now.receivers c.args.tapped.now.device) c.in-Some.receiver.now c.args.tapped.now.link there due.0 in omega (arith, c.link.ensures.value)))

pub returns-in-Next-clause-advanced : goal.returns-in-Next-clause-advanced
returns-in-Next-clause-advanced c =
    let was = c.in-Some.receiver.now in
    let found : get nat_eq c.args.self.now.receivers c.device.result ≡ Some was = sym c.in-Some.ensures.value in
    let there = rw c.device.ensures at found in
    written (λ next. next + 1) c.args.tapped.now.device (get nat_eq c.args.self.now.receivers) (get nat_eq (c.get_mut.follows.lender c.advance.new.self)) was c.advance.new.self there (ap (λ (r : ReceiverValue). r.next) c.advance.ensures)
    (rw (← c.device.ensures) (λ d. ((c.get_mut.follows.holds c.advance.new.self).3 (ap is_some found)).0 d))
