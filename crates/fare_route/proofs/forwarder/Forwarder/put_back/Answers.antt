use Rattle.std.proofs.Common.{◌≡◌, nat_eq, Some, is_some, sym, ap}
use Rattle.std.specs.HashMap.{get}
use Rattle.fare_route.specs.Cursors.{undone}
use Rattle.fare_route.proofs.Writing.{written}
use Rattle.fare_route.proofs.forwarder.Forwarder.put_back.Goals as goal

pub returns-in-Some-clause-cursors : goal.returns-in-Some-clause-cursors
returns-in-Some-clause-cursors c =
    let was = c.in-Some.cursor.now in
    let found : get nat_eq c.args.self.now.cursors c.args.device ≡ Some was = sym c.in-Some.ensures.value in
    written undone c.args.device (get nat_eq c.args.self.now.cursors) (get nat_eq (c.get_mut.follows.lender c.back.result)) was c.back.result found c.back.ensures ((c.get_mut.follows.holds c.back.result).3 (ap is_some found)).0
