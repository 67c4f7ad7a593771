use Rattle.std.proofs.Common.{◌≡◌, nat_eq, Some, is_some, sym, ap}
use Rattle.std.specs.HashMap.{get}
use Rattle.fare_store.proofs.Lent.{lent_more, lent_known}
use Rattle.fare_store.proofs.plain_ledger.taking.append.Goals as goal

pub returns-in-Ok-clause-known : goal.returns-in-Ok-clause-known
returns-in-Ok-clause-known c =
    let found : get nat_eq c.args.taken.now c.device.result ≡ Some c.in-Some.rows.now = sym c.in-Some.ensures.value in
    let there = rw c.device.ensures at found in
    lent_known c.args.row.now.device (get nat_eq c.args.taken.now) (get nat_eq (c.get_mut.follows.lender c.push.new.self)) c.in-Some.rows.now c.push.new.self there (rw (← c.device.ensures) (λ d. ((c.get_mut.follows.holds c.push.new.self).3 (ap is_some found)).0 d))

pub returns-in-Ok-clause-appended : goal.returns-in-Ok-clause-appended
returns-in-Ok-clause-appended c =
    let found : get nat_eq c.args.taken.now c.device.result ≡ Some c.in-Some.rows.now = sym c.in-Some.ensures.value in
    let there = rw c.device.ensures at found in
    lent_more c.args.row.now.device c.args.row.now (get nat_eq c.args.taken.now) (get nat_eq (c.get_mut.follows.lender c.push.new.self)) c.in-Some.rows.now c.push.new.self there c.in-Ok.ensures.items (rw (← c.device.ensures) (λ d. ((c.get_mut.follows.holds c.push.new.self).3 (ap is_some found)).0 d))
