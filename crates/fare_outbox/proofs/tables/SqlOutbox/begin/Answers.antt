use Rattle.sqlite.specs.Held.{state}
use Rattle.fare_tables.proofs.Steps.{noted_touch, up_if}
use Rattle.fare_outbox_rows.specs.Layouts.{schema_in}
use Rattle.fare_outbox.specs.Words.{value_at, IsLawful, IsWell}
use Rattle.fare_outbox.proofs.tables.SqlOutbox.begin.Goals as goal

pub returns-clause-does : goal.returns-clause-does
returns-clause-does g c =
    let self = c.args.self.now in
    let call = c.touch.ensures in
    noted_touch (schema_in self.layout) (value_at self.layout) (IsWell self.layout self.rows self.statements) (IsLawful self.layout) (state g.S.Store self.conn) (state g.S.Store c.touch.new.conn) self.failures c.noted.new.failures c.touch.result c.noted.result c.noted.ensures.same
    call.same call.crash call.live call.stays c.noted.ensures.counted

pub returns-clause-up : goal.returns-clause-up
returns-clause-up g c = up_if (state g.S.Store c.touch.new.conn) c.touch.result c.noted.result c.noted.ensures.same c.touch.ensures.stays
