use Rattle.std.proofs.Common.{nat_eq}
use Rattle.std.specs.HashSet.{contains}
use Rattle.fare_store.specs.PlainLedgerWords.{plain_ledger}
use Rattle.fare_store.proofs.Retired.{retired_put}
use Rattle.fare_store.proofs.plain_ledger.PlainLedger.write_retired.Goals as goal

pub returns-clause-ok : goal.returns-clause-ok
returns-clause-ok c =
    let l = c.args.self.now in
    let p = retired_put c.args.device (contains nat_eq l.retired) (contains nat_eq c.insert.new.self) c.in_ok-insert.ensures.updates.0 in
    λ i. record (plain_ledger l) { retired = λ d. p d i }
