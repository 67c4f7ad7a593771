use Rattle.std.proofs.Common.{◌≡◌, None}
use Rattle.sqlite.specs.Held.{state}
use Rattle.fare_store.specs.LedgerWords.{with_statement}
use Rattle.fare_ledger.specs.Layouts.{ours}
use Rattle.fare_ledger.specs.Known.{knows}
use Rattle.fare_ledger.specs.Held.{held_of, row_stated, with_stated}
use Rattle.fare_ledger.specs.Words.{value_at}
use Rattle.fare_ledger.proofs.Stored.{state_value, state_fits}
use Rattle.fare_ledger.proofs.Steps.{makes}
use Rattle.fare_ledger.proofs.tables.SqlLedger.put_statement.Goals as goal

pub returns : goal.returns
returns g c =
    let old = state g.S.Store c.args.self.now.conn in
    let new = state g.S.Store c.write_statement-answer.new.conn in
    let self = c.args.self.now in
    let known = knows self.devices in
    let v = value_at self.layout self.owner self.start known old.now.trees in
    let h = held_of (ours self.layout old.now.trees) in
    let call = c.write_statement-answer.ensures in
    makes self.layout self.owner self.start known old new self.failures c.noted.new.failures (v.stated c.args.statement.now.device c.args.statement.now.day ≡ None) (with_stated (row_stated c.args.statement.now) h) (with_statement c.args.statement.now v) c.write_statement-answer.result c.noted.result c.noted.ensures.same c.requires.up
    (λ may fit. (state_value self.owner self.start known h c.args.statement.now may, state_fits self.owner self.start h c.args.statement.now may fit))
    call.value call.same call.crash call.live call.stays c.noted.ensures.counted
