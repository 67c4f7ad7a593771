use Rattle.std.proofs.Common.{◌≡◌, sym, ap, ◌∙◌}
use Rattle.sqlite.specs.Held.{state}
use Rattle.fare_tables.proofs.Steps.{up_if}
use Rattle.fare_ledger.specs.Known.{knows}
use Rattle.fare_ledger.specs.Layouts.{ours}
use Rattle.fare_ledger.specs.Held.{held_of}
use Rattle.std.proofs.lemmas.Result.{IfOk-weaker}
use Rattle.fare_ledger.specs.declared.lane.Lane.{Lane}
use Rattle.fare_ledger.specs.Words.{value_at, HasNumbers}
use Rattle.fare_ledger.proofs.Stored.{ready, shown_length}
use Rattle.fare_ledger.proofs.Steps.{reads}
use Rattle.fare_ledger.proofs.tables.SqlLedger.numbers_of.Goals as goal

pub returns-clause-does : goal.returns-clause-does
returns-clause-does g c =
    let old = state g.S.Store c.args.self.now.conn in
    let new = state g.S.Store c.read_lane-answer.new.conn in
    let self = c.args.self.now in
    let known = knows self.devices in
    let v = value_at self.layout self.owner self.start known old.now.trees in
    let h = held_of (ours self.layout old.now.trees) in
    let call = c.read_lane-answer.ensures in
    reads self.layout self.owner self.start known old new self.failures c.noted.new.failures (HasNumbers v c.args.device) c.read_lane-answer.result c.noted.result c.noted.ensures.same c.requires
    (λ live fit. IfOk-weaker c.read_lane-answer.result (λ lane. lane ≡ h.lanes c.args.device) (HasNumbers v c.args.device) (λ lane is. record { taken = ap (λ (l : Lane). l.taken) is ∙ sym (shown_length self.owner h c.args.device (fit.fits.together.counted c.args.device)); closed = ap (λ (l : Lane). l.closed) is }) (call.value live (ready self.layout self.owner self.start old fit)))
    call.same call.crash call.live call.stays c.noted.ensures.counted

pub returns-clause-up : goal.returns-clause-up
returns-clause-up g c = up_if (state g.S.Store c.read_lane-answer.new.conn) c.read_lane-answer.result c.noted.result c.noted.ensures.same c.read_lane-answer.ensures.stays
