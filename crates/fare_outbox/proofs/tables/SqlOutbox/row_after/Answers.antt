use Rattle.std.proofs.lemmas.Result.{IfOk-weaker}
use Rattle.sqlite.specs.Held.{state}
use Rattle.fare_store.specs.OutboxWords.{IsNextRow}
use Rattle.fare_tables.proofs.Steps.{noted_read, up_if}
use Rattle.fare_outbox_rows.specs.Layouts.{schema_in, ours}
use Rattle.fare_outbox_rows.specs.Held.{held_of, IsNext}
use Rattle.fare_outbox.specs.Words.{tap_key, first_at, itself, value_at, IsLawful, IsWell}
use Rattle.fare_outbox.proofs.Lanes.{next_answer}
use Rattle.fare_outbox.proofs.Stored.{ready}
use Rattle.fare_outbox.proofs.tables.SqlOutbox.row_after.Goals as goal

pub returns-clause-does : goal.returns-clause-does
returns-clause-does g c =
    let old = state g.S.Store c.args.self.now.conn in
    let new = state g.S.Store c.read_next-answer.new.conn in
    let self = c.args.self.now in
    let h = held_of (ours self.layout old.now.trees) in
    let call = c.read_next-answer.ensures in
    noted_read (schema_in self.layout) (value_at self.layout) (IsWell self.layout self.rows self.statements) (IsLawful self.layout) old new self.failures c.noted.new.failures (IsNextRow (first_at tap_key itself h.taps) c.args.owner c.args.device c.args.after) c.read_next-answer.result c.noted.result c.noted.ensures.same c.requires
    (λ live fit. IfOk-weaker c.read_next-answer.result (IsNext h.taps c.args.owner c.args.device c.within-past.result) (IsNextRow (first_at tap_key itself h.taps) c.args.owner c.args.device c.args.after) (λ next is. next_answer h c.args.owner c.args.device c.within-past.result c.args.after next fit.fits.lawful.together c.within-past.ensures.low c.within-past.ensures.which is) (call.value live (ready self.layout old self.rows self.statements fit)))
    call.same call.crash call.live call.stays c.noted.ensures.counted

pub returns-clause-up : goal.returns-clause-up
returns-clause-up g c = up_if (state g.S.Store c.read_next-answer.new.conn) c.read_next-answer.result c.noted.result c.noted.ensures.same c.read_next-answer.ensures.stays
