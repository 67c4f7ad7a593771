use Rattle.std.specs.HashMap.{get}
use Rattle.fare_store.specs.TapPlaces.{same_day}
use Rattle.fare_store.specs.PlainLedgerWords.{plain_ledger}
use Rattle.fare_store.proofs.LedgerDays.{stated_put}
use Rattle.fare_store.proofs.plain_ledger.PlainLedger.write_statement.Goals as goal

pub returns-clause-ok : goal.returns-clause-ok
returns-clause-ok c =
    let l = c.args.self.now in
    let s = c.args.statement.now in
    let p = stated_put s.device s.day s.count (get same_day l.stated) (get same_day c.insert.new.self) (rw (c.device.ensures, c.day.ensures, c.count.ensures.value) at c.in_ok-insert.ensures.updates.0) in
    λ i. record (plain_ledger l) { stated = λ d e. p d e i }
