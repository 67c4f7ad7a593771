use Rattle.std.proofs.Common.{◌≡◌, length, sym, ◌∙◌, arith}
use Rattle.sqlite.specs.Held.{state}
use Rattle.fare_tables.proofs.Steps.{up_if}
use Rattle.fare_ledger.specs.Known.{knows}
use Rattle.fare_ledger.specs.Layouts.{ours}
use Rattle.fare_ledger.specs.Held.{held_of, is_on}
use Rattle.std.specs.Prelude.{filter}
use Rattle.std.proofs.lemmas.Result.{IfOk-weaker}
use Rattle.fare_record.specs.Lanes.{day_count}
use Rattle.fare_store.proofs.LettingGo.{count_filled}
use Rattle.fare_ledger.specs.Words.{taken_in, gone_in, value_at}
use Rattle.fare_ledger.proofs.Stored.{ready}
use Rattle.fare_ledger.proofs.Taken.{day_length}
use Rattle.fare_ledger.proofs.Steps.{reads}
use Rattle.fare_ledger.proofs.tables.SqlLedger.count_of_day.Goals as goal

pub returns-clause-does : goal.returns-clause-does
returns-clause-does g c =
    let old = state g.S.Store c.args.self.now.conn in
    let new = state g.S.Store c.count_day-answer.new.conn in
    let self = c.args.self.now in
    let known = knows self.devices in
    let v = value_at self.layout self.owner self.start known old.now.trees in
    let h = held_of (ours self.layout old.now.trees) in
    let call = c.count_day-answer.ensures in
    reads self.layout self.owner self.start known old new self.failures c.noted.new.failures (λ count. count ≡ day_count (v.taken c.args.device) c.args.day) c.count_day-answer.result c.noted.result c.noted.ensures.same c.requires
    (λ live fit. IfOk-weaker c.count_day-answer.result (λ n. n ≡ length (filter (is_on c.args.device c.args.day) h.taps)) (λ count. count ≡ day_count (v.taken c.args.device) c.args.day) (λ n is. is ∙ sym (day_length self.owner c.args.device c.args.day h.taps) ∙ sym (count_filled c.args.day (gone_in self.owner h c.args.device) (taken_in self.owner h.taps c.args.device) (omega (arith, c.get.ensures.value, c.get.ensures.valid)))) (call.value live (ready self.layout self.owner self.start old fit)))
    call.same call.crash call.live call.stays c.noted.ensures.counted

pub returns-clause-up : goal.returns-clause-up
returns-clause-up g c = up_if (state g.S.Store c.count_day-answer.new.conn) c.count_day-answer.result c.noted.result c.noted.ensures.same c.count_day-answer.ensures.stays
