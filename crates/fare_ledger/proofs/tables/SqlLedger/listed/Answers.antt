use Rattle.std.proofs.Common.{arith}
use Rattle.sqlite.specs.Held.{state}
use Rattle.fare_tables.proofs.Steps.{up_if}
use Rattle.fare_ledger.specs.Known.{knows}
use Rattle.fare_ledger.specs.Layouts.{ours}
use Rattle.fare_ledger.specs.Held.{held_of, IsListedOf}
use Rattle.std.proofs.lemmas.Result.{IfOk-weaker}
use Rattle.fare_store.specs.LedgerWords.{AreTapsBetween}
use Rattle.fare_ledger.specs.Words.{value_at}
use Rattle.fare_ledger.proofs.Stored.{ready}
use Rattle.fare_ledger.proofs.Between.{taps_between}
use Rattle.fare_ledger.proofs.Steps.{reads}
use Rattle.fare_ledger.proofs.tables.SqlLedger.listed.Goals as goal

pub returns-clause-does : goal.returns-clause-does
returns-clause-does g c =
    let old = state g.S.Store c.args.self.now.conn in
    let new = state g.S.Store c.read_between-answer.new.conn in
    let self = c.args.self.now in
    let known = knows self.devices in
    let v = value_at self.layout self.owner self.start known old.now.trees in
    let h = held_of (ours self.layout old.now.trees) in
    let call = c.read_between-answer.ensures in
    reads self.layout self.owner self.start known old new self.failures c.noted.new.failures (λ taps. AreTapsBetween v c.args.from c.args.to taps.items) c.read_between-answer.result c.noted.result c.noted.ensures.same c.requires
    (λ live fit. IfOk-weaker c.read_between-answer.result (λ taps. IsListedOf self.owner h.taps c.args.from c.args.to taps.items) (λ taps. AreTapsBetween v c.args.from c.args.to taps.items) (λ taps is. taps_between self.owner self.start known h c.args.from c.args.to taps.items (omega (arith, c.get.ensures.value, c.get.ensures.valid)) fit.fits.together is) (call.value live (ready self.layout self.owner self.start old fit)))
    call.same call.crash call.live call.stays c.noted.ensures.counted

pub returns-clause-up : goal.returns-clause-up
returns-clause-up g c = up_if (state g.S.Store c.read_between-answer.new.conn) c.read_between-answer.result c.noted.result c.noted.ensures.same c.read_between-answer.ensures.stays
