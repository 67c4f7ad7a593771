use Rattle.sqlite.specs.Held.{state}
use Rattle.fare_store.specs.LedgerWords.{forgotten}
use Rattle.fare_ledger.specs.Layouts.{ours}
use Rattle.fare_ledger.specs.Known.{knows}
use Rattle.fare_ledger.specs.Held.{held_of, forgot}
use Rattle.fare_ledger.specs.Words.{value_at, MayForget}
use Rattle.fare_ledger.proofs.Forgot.{forget_value, forget_fits}
use Rattle.fare_ledger.proofs.Steps.{makes}
use Rattle.fare_ledger.proofs.tables.SqlLedger.put_forget.Goals as goal

pub returns : goal.returns
returns g c =
    let old = state g.S.Store c.args.self.now.conn in
    let new = state g.S.Store c.write_cut-answer.new.conn in
    let self = c.args.self.now in
    let known = knows self.devices in
    let v = value_at self.layout self.owner self.start known old.now.trees in
    let h = held_of (ours self.layout old.now.trees) in
    let call = c.write_cut-answer.ensures in
    makes self.layout self.owner self.start known old new self.failures c.noted.new.failures (MayForget v c.args.device c.args.day c.args.cut.now) (forgot c.args.device c.args.cut.now.upto c.args.day c.args.cut.now.since h) (forgotten c.args.device c.args.day v) c.write_cut-answer.result c.noted.result c.noted.ensures.same c.requires.up
    (λ may fit. (forget_value self.owner self.start known h c.args.device c.args.day c.args.cut.now may fit, forget_fits self.owner self.start known h c.args.device c.args.day c.args.cut.now may fit))
    call.value call.same call.crash call.live call.stays c.noted.ensures.counted
