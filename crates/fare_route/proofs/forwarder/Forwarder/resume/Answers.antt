use Rattle.std.proofs.Common.{◌≡◌, nat_eq, Some, None, is_some, sym, ap}
use Rattle.std.specs.HashMap.{get}
use Rattle.fare_route.specs.declared.cursor.Cursor.{Cursor}
use Rattle.fare_route.specs.Routing.{standing_at}
use Rattle.fare_route.proofs.Writing.{written}
use Rattle.fare_route.proofs.forwarder.Forwarder.resume.Goals as goal

pub returns-in-Some-clause-cursors : goal.returns-in-Some-clause-cursors
returns-in-Some-clause-cursors c =
    let was = c.in-Some.cursor.now in
    let is : Cursor = record { lane = c.args.taken; day = c.first_day.result; before = None } in
    let found : get nat_eq c.args.self.now.cursors c.args.device ≡ Some was = sym c.in-Some.ensures.value in
    written (λ _. standing_at c.args.scheme.now.start (c.args.taken, c.args.closed)) c.args.device (get nat_eq c.args.self.now.cursors) (get nat_eq (c.get_mut.follows.lender is)) was is found (λ i. record { lane = c.args.taken; day = c.first_day.ensures i; before = None }) ((c.get_mut.follows.holds is).3 (ap is_some found)).0
