use Rattle.sqlite.specs.Held.{state}
use Rattle.fare_store.specs.LedgerWords.{took}
use Rattle.fare_ledger.specs.Layouts.{ours}
use Rattle.fare_ledger.specs.Known.{knows}
use Rattle.fare_ledger.specs.Held.{held_of, row_of, with_tap}
use Rattle.fare_ledger.specs.Words.{value_at, MayTake}
use Rattle.fare_ledger.proofs.Stored.{take_value, take_fits}
use Rattle.fare_ledger.proofs.Steps.{makes}
use Rattle.fare_ledger.proofs.tables.SqlLedger.put_tap.Goals as goal

pub returns : goal.returns
returns g c =
    let old = state g.S.Store c.args.self.now.conn in
    let new = state g.S.Store c.write_tap-answer.new.conn in
    let self = c.args.self.now in
    let known = knows self.devices in
    let v = value_at self.layout self.owner self.start known old.now.trees in
    let h = held_of (ours self.layout old.now.trees) in
    let call = c.write_tap-answer.ensures in
    makes self.layout self.owner self.start known old new self.failures c.noted.new.failures (MayTake v c.args.row.now c.args.closed) (with_tap (row_of c.args.row.now) c.args.closed h) (took c.args.row.now v) c.write_tap-answer.result c.noted.result c.noted.ensures.same c.requires.up
    (λ may fit. (take_value self.owner self.start known h c.args.row.now c.args.closed may fit, take_fits self.owner self.start known h c.args.row.now c.args.closed may fit))
    call.value call.same call.crash call.live call.stays c.noted.ensures.counted
