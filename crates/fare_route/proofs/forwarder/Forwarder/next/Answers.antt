use Rattle.std.proofs.Common.{◌≡◌, nat_eq, Some, is_some, sym, ap}
use Rattle.std.specs.HashMap.{get}
use Rattle.fare_route.specs.Cursors.{moved}
use Rattle.fare_route.proofs.Writing.{written, kept, on_err}
use Rattle.fare_route.proofs.forwarder.Forwarder.next.Goals as goal

pub returns-in_err-item-clause-unmoved : goal.returns-in_err-item-clause-unmoved
returns-in_err-item-clause-unmoved g c =
    let was = c.in-Some.cursor.now in
    let found : get nat_eq c.args.self.now.cursors c.args.device ≡ Some was = sym c.in-Some.ensures.value in
    on_err c.from_residual.result _ (kept c.args.device (get nat_eq c.args.self.now.cursors) (get nat_eq (c.get_mut.follows.lender was)) was found ((c.get_mut.follows.holds was).3 (ap is_some found)).0)

pub returns-clause-moved : goal.returns-clause-moved
returns-clause-moved g c =
    let was = c.in-Some.cursor.now in
    let is = c.in_ok-item.moved in
    let found : get nat_eq c.args.self.now.cursors c.args.device ≡ Some was = sym c.in-Some.ensures.value in
    written (moved c.in_ok-item.item) c.args.device (get nat_eq c.args.self.now.cursors) (get nat_eq (c.get_mut.follows.lender is)) was is found c.in_ok-item.ensures.moved ((c.get_mut.follows.holds is).3 (ap is_some found)).0
