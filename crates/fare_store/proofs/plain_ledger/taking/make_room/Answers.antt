use Rattle.std.proofs.Common.{◌≡◌, nat_eq, Some, is_some, sym, ap}
use Rattle.std.specs.HashMap.{get}
use Rattle.fare_store.proofs.Lent.{lent_items, lent_known}
use Rattle.fare_store.proofs.plain_ledger.taking.make_room.Goals as goal

pub returns-in_err-reserve-clause-same : goal.returns-in_err-reserve-clause-same
returns-in_err-reserve-clause-same c =
    let found : get nat_eq c.args.taken.now c.args.device ≡ Some c.in-Some.rows.now = sym c.in-Some.ensures.value in
    lent_items c.args.device (get nat_eq c.args.taken.now) (get nat_eq (c.get_mut.follows.lender c.reserve.new.self)) c.in-Some.rows.now c.reserve.new.self found c.in_err-reserve.ensures.items ((c.get_mut.follows.holds c.reserve.new.self).3 (ap is_some found)).0

pub returns-in_err-reserve-clause-known : goal.returns-in_err-reserve-clause-known
returns-in_err-reserve-clause-known c =
    let found : get nat_eq c.args.taken.now c.args.device ≡ Some c.in-Some.rows.now = sym c.in-Some.ensures.value in
    lent_known c.args.device (get nat_eq c.args.taken.now) (get nat_eq (c.get_mut.follows.lender c.reserve.new.self)) c.in-Some.rows.now c.reserve.new.self found ((c.get_mut.follows.holds c.reserve.new.self).3 (ap is_some found)).0

pub returns-in_ok-reserve-clause-same : goal.returns-in_ok-reserve-clause-same
returns-in_ok-reserve-clause-same c =
    let found : get nat_eq c.args.taken.now c.args.device ≡ Some c.in-Some.rows.now = sym c.in-Some.ensures.value in
    lent_items c.args.device (get nat_eq c.args.taken.now) (get nat_eq (c.get_mut.follows.lender c.reserve.new.self)) c.in-Some.rows.now c.reserve.new.self found c.in_ok-reserve.ensures.items ((c.get_mut.follows.holds c.reserve.new.self).3 (ap is_some found)).0

pub returns-in_ok-reserve-clause-known : goal.returns-in_ok-reserve-clause-known
returns-in_ok-reserve-clause-known c =
    let found : get nat_eq c.args.taken.now c.args.device ≡ Some c.in-Some.rows.now = sym c.in-Some.ensures.value in
    lent_known c.args.device (get nat_eq c.args.taken.now) (get nat_eq (c.get_mut.follows.lender c.reserve.new.self)) c.in-Some.rows.now c.reserve.new.self found ((c.get_mut.follows.holds c.reserve.new.self).3 (ap is_some found)).0
