use Rattle.sqlite.specs.Held.{state}
use Rattle.fare_store.specs.LedgerWords.{with_retired}
use Rattle.fare_tables.proofs.Steps.{given_none}
use Rattle.fare_ledger.specs.Layouts.{ours}
use Rattle.fare_ledger.specs.Known.{knows}
use Rattle.fare_ledger.specs.Held.{held_of, with_retired_lane}
use Rattle.fare_ledger.specs.Words.{value_at}
use Rattle.fare_ledger.proofs.Stored.{retired_value, retired_fits}
use Rattle.fare_ledger.proofs.Steps.{makes, over}
use Rattle.fare_ledger.proofs.tables.SqlLedger.put_retired.Goals as goal

pub returns : goal.returns
returns g c =
    let old = state g.S.Store c.args.self.now.conn in
    let new = state g.S.Store c.write_retired-answer.new.conn in
    let self = c.args.self.now in
    let known = knows self.devices in
    let v = value_at self.layout self.owner self.start known old.now.trees in
    let h = held_of (ours self.layout old.now.trees) in
    let call = c.write_retired-answer.ensures in
    given_none (over self.layout self.owner self.start known old self.failures) (over self.layout self.owner self.start known new c.noted.new.failures) _ _ _
    (makes self.layout self.owner self.start known old new self.failures c.noted.new.failures (Unit {0}) (with_retired_lane c.args.device h) (with_retired c.args.device v) c.write_retired-answer.result c.noted.result c.noted.ensures.same c.requires.up
    (λ may fit. (retired_value self.owner self.start known h c.args.device, retired_fits self.owner self.start h c.args.device fit))
    call.value call.same call.crash call.live call.stays c.noted.ensures.counted)
