use Rattle.std.proofs.Common.{[], ◌∷◌, Ok, sym, ap, ◌∙◌}
use Rattle.sqlite.specs.Held.{state}
use Rattle.sqlite.specs.State.{QueriesRow}
use Rattle.sqlite_value.specs.Order.{column}
use Rattle.fare_tables.specs.Cells.{nat_in, int}
use Rattle.fare_ledger.proofs.Texts.{retired_text, retired_reads}
use Rattle.fare_ledger.specs.Layouts.{ours}
use Rattle.fare_ledger.proofs.Found.{retired_counted, retired_is}
use Rattle.fare_ledger.proofs.reading.read_retired.Goals as goal

pub ask-requires : goal.ask-requires
ask-requires g c = retired_reads c.args.layout.now

pub returns-in_ok-cell_number-in-Some-clause-value : goal.returns-in_ok-cell_number-in-Some-clause-value
returns-in_ok-cell_number-in-Some-clause-value g c live ready =
    let old = state g.S.Store c.args.conn.now in
    let new = state g.S.Store c.ask.new.conn in
    let h : QueriesRow retired_text (int c.args.device ∷ []) old new (Ok c.in-Some.row) = rw (c.parameter.ensures, c.from.ensures, c.get.ensures.value, c.in-Some.is) at (c.in_ok-row.ensures.row live.0 ready.rest) in
    let is = retired_counted c.args.layout.now old new c.args.device c.in-Some.row ready.rest.schema_is ready.fits.retired h in
    retired_is (ours c.args.layout.now old.now.trees 6) c.args.device c.in_ok-cell_number-in-Some.field-0 ready.fits.retired (ap nat_in (sym c.in_ok-cell_number-in-Some.ensures.read ∙ ap (λ r. column r 0) is))
