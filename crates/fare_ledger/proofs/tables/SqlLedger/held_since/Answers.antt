use Rattle.std.proofs.Common.{◌≡◌}
use Rattle.sqlite.specs.Held.{state}
use Rattle.fare_tables.proofs.Steps.{up_if}
use Rattle.fare_ledger.specs.Known.{knows}
use Rattle.fare_ledger.specs.Words.{value_at}
use Rattle.fare_ledger.proofs.Stored.{ready}
use Rattle.fare_ledger.proofs.Steps.{reads}
use Rattle.fare_ledger.proofs.tables.SqlLedger.held_since.Goals as goal

pub returns-clause-does : goal.returns-clause-does
returns-clause-does g c =
    let old = state g.S.Store c.args.self.now.conn in
    let new = state g.S.Store c.read_since-answer.new.conn in
    let self = c.args.self.now in
    let known = knows self.devices in
    let v = value_at self.layout self.owner self.start known old.now.trees in
    let call = c.read_since-answer.ensures in
    reads self.layout self.owner self.start known old new self.failures c.noted.new.failures (λ day. day ≡ v.from c.args.device) c.read_since-answer.result c.noted.result c.noted.ensures.same c.requires
    (λ live fit. call.value live (ready self.layout self.owner self.start old fit))
    call.same call.crash call.live call.stays c.noted.ensures.counted

pub returns-clause-up : goal.returns-clause-up
returns-clause-up g c = up_if (state g.S.Store c.read_since-answer.new.conn) c.read_since-answer.result c.noted.result c.noted.ensures.same c.read_since-answer.ensures.stays
