use Rattle.sqlite.specs.Held.{state}
use Rattle.fare_store.specs.LedgerWords.{took}
use Rattle.fare_store.specs.Batches.{done_all}
use Rattle.fare_ledger.specs.Batches.{AreTakable, with_taps}
use Rattle.fare_ledger.proofs.Batches.{all_fits, all_value}
use Rattle.fare_ledger.specs.Layouts.{ours}
use Rattle.fare_ledger.specs.Known.{knows}
use Rattle.fare_ledger.specs.Held.{held_of}
use Rattle.fare_ledger.specs.Words.{value_at}
use Rattle.fare_ledger.proofs.Steps.{makes}
use Rattle.fare_ledger.proofs.tables.SqlLedger.put_taps.Goals as goal

pub returns : goal.returns
returns g c =
    let old = state g.S.Store c.args.self.now.conn in
    let new = state g.S.Store c.write_taps-answer.new.conn in
    let self = c.args.self.now in
    let known = knows self.devices in
    let v = value_at self.layout self.owner self.start known old.now.trees in
    let h = held_of (ours self.layout old.now.trees) in
    let call = c.write_taps-answer.ensures in
    makes self.layout self.owner self.start known old new self.failures c.noted.new.failures (AreTakable v c.args.closed c.args.rows.now) (with_taps c.args.closed c.args.rows.now h) (done_all took c.args.rows.now v) c.write_taps-answer.result c.noted.result c.noted.ensures.same c.requires.up
    (λ may fit. (all_value self.owner self.start known c.args.closed c.args.rows.now h may fit, all_fits self.owner self.start known c.args.closed c.args.rows.now h may fit))
    call.value call.same call.crash call.live call.stays c.noted.ensures.counted
