use Rattle.std.proofs.lemmas.Result.{IfOk-weaker}
use Rattle.sqlite.specs.Held.{state}
use Rattle.fare_store.specs.OutboxWords.{IsNextStatement}
use Rattle.fare_tables.proofs.Steps.{noted_read, up_if}
use Rattle.fare_outbox_rows.specs.Layouts.{schema_in, ours}
use Rattle.fare_outbox_rows.specs.Held.{held_of, IsNextStated}
use Rattle.fare_outbox.specs.Words.{stated_key, first_at, count_of, value_at, IsLawful, IsWell}
use Rattle.fare_outbox.proofs.Lanes.{next_day_answer}
use Rattle.fare_outbox.proofs.Stored.{ready}
use Rattle.fare_outbox.proofs.tables.SqlOutbox.statement_from.Goals as goal

pub returns-clause-does : goal.returns-clause-does
returns-clause-does g c =
    let old = state g.S.Store c.args.self.now.conn in
    let new = state g.S.Store c.read_statement-answer.new.conn in
    let self = c.args.self.now in
    let h = held_of (ours self.layout old.now.trees) in
    let call = c.read_statement-answer.ensures in
    noted_read (schema_in self.layout) (value_at self.layout) (IsWell self.layout self.rows self.statements) (IsLawful self.layout) old new self.failures c.noted.new.failures (IsNextStatement (first_at stated_key count_of h.statements) c.args.owner c.args.device c.args.from) c.read_statement-answer.result c.noted.result c.noted.ensures.same c.requires
    (λ live fit. IfOk-weaker c.read_statement-answer.result (IsNextStated h.statements c.args.owner c.args.device c.args.from) (IsNextStatement (first_at stated_key count_of h.statements) c.args.owner c.args.device c.args.from) (λ next is. next_day_answer h c.args.owner c.args.device c.args.from next fit.fits.lawful.together is) (rw (c.from.ensures, c.get.ensures.value) at (call.value live (ready self.layout old self.rows self.statements fit))))
    call.same call.crash call.live call.stays c.noted.ensures.counted

pub returns-clause-up : goal.returns-clause-up
returns-clause-up g c = up_if (state g.S.Store c.read_statement-answer.new.conn) c.read_statement-answer.result c.noted.result c.noted.ensures.same c.read_statement-answer.ensures.stays
