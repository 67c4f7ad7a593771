use Rattle.std.proofs.Common.{◌+◌}
use Rattle.sqlite.specs.Held.{state}
use Rattle.fare_store.specs.LedgerWords.{with_close}
use Rattle.fare_ledger.specs.Layouts.{ours}
use Rattle.fare_ledger.specs.Known.{knows}
use Rattle.fare_ledger.specs.Held.{held_of, with_numbers}
use Rattle.fare_ledger.specs.Words.{value_at, MayClose}
use Rattle.fare_ledger.proofs.Stored.{close_value, close_fits}
use Rattle.fare_ledger.proofs.Steps.{makes}
use Rattle.fare_ledger.proofs.tables.SqlLedger.put_close.Goals as goal

pub returns : goal.returns
returns g c =
    let old = state g.S.Store c.args.self.now.conn in
    let new = state g.S.Store c.write_numbers-answer.new.conn in
    let self = c.args.self.now in
    let known = knows self.devices in
    let v = value_at self.layout self.owner self.start known old.now.trees in
    let h = held_of (ours self.layout old.now.trees) in
    let call = c.write_numbers-answer.ensures in
    makes self.layout self.owner self.start known old new self.failures c.noted.new.failures (MayClose v c.args.device c.args.lane.now) (with_numbers c.args.device c.args.lane.now.taken (c.args.lane.now.closed + 1) h) (with_close c.args.device v) c.write_numbers-answer.result c.noted.result c.noted.ensures.same c.requires.up
    (λ may fit. (close_value self.owner self.start known h c.args.device c.args.lane.now may fit, close_fits self.owner self.start known h c.args.device c.args.lane.now may fit))
    call.value call.same call.crash call.live call.stays c.noted.ensures.counted
