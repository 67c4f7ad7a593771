use Rattle.std.proofs.Common.{◌≡◌, ◌+◌, nat_eq, Some, is_some, sym, ap}
use Rattle.std.specs.HashMap.{get}
use Rattle.fare_link.specs.Values.{ReceiverValue}
use Rattle.fare_collector.proofs.Changing.{written}
use Rattle.fare_collector.proofs.collector.Collector.resume.Goals as goal

pub returns-in-Some-clause-next : goal.returns-in-Some-clause-next
returns-in-Some-clause-next c =
    let there : get nat_eq c.args.self.now.receivers c.args.device ≡ Some c.in-Some.receiver.now = sym c.in-Some.ensures.value in
    written (λ _. c.args.upto + 1) c.args.device (get nat_eq c.args.self.now.receivers) (get nat_eq (c.get_mut.follows.lender c.resume.new.self)) c.in-Some.receiver.now c.resume.new.self there (ap (λ (r : ReceiverValue). r.next) c.resume.ensures)
    ((c.get_mut.follows.holds c.resume.new.self).3 (ap is_some there)).0
