use Rattle.std.proofs.Common.{◌≡◌, nat_eq, Some, is_some, sym, ap, arith}
use Rattle.std.proofs.lemmas.Bool.Decides.{nat_tests}
use Rattle.std.specs.HashMap.{get}
use Rattle.fare_collector.proofs.Changing.{written}
use Rattle.fare_collector.specs.Collecting.{one_back}
use Rattle.fare_collector.proofs.collector.Collector.unaccept.Goals as goal

pub returns-then-next-gt1-clause-next : goal.returns-then-next-gt1-clause-next
returns-then-next-gt1-clause-next c =
    let was = c.in-Some.receiver.now in
    let there : get nat_eq c.args.self.now.receivers c.args.device ≡ Some was = sym c.in-Some.ensures.value in
    let back : c.resume.new.self.next ≡ one_back was.next = grind (arith, nat_tests, c.resume.ensures, c.next-next.ensures.value) in
    written one_back c.args.device (get nat_eq c.args.self.now.receivers) (get nat_eq (c.get_mut.follows.lender c.resume.new.self)) was c.resume.new.self there back
    ((c.get_mut.follows.holds c.resume.new.self).3 (ap is_some there)).0

pub returns-else-next-gt1-clause-next : goal.returns-else-next-gt1-clause-next
returns-else-next-gt1-clause-next c =
    let was = c.in-Some.receiver.now in
    let there : get nat_eq c.args.self.now.receivers c.args.device ≡ Some was = sym c.in-Some.ensures.value in
    let stays : was.next ≡ one_back was.next = grind (arith, nat_tests, c.next-next.ensures.value) in
    written one_back c.args.device (get nat_eq c.args.self.now.receivers) (get nat_eq (c.get_mut.follows.lender was)) was was there stays
    ((c.get_mut.follows.holds was).3 (ap is_some there)).0
