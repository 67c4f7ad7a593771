use Rattle.std.proofs.Common.{None, refl}
use Rattle.sqlite.specs.Held.{state}
use Rattle.fare_tables.proofs.Steps.{read_step}
use Rattle.fare_ledger.specs.Layouts.{schema_in, ours}
use Rattle.fare_ledger.specs.Held.{held_of}
use Rattle.fare_ledger.specs.Known.{knows}
use Rattle.fare_ledger.proofs.Stored.{ready}
use Rattle.std.specs.Prelude.{IsTrue, ◌↔◌, ◌==◌}
use Rattle.fare_ledger.specs.Words.{value_at, IsLawful, AreUncut}
use Rattle.fare_ledger.proofs.Empty.{uncut}
use Rattle.fare_ledger.proofs.tables.SqlLedger.none_cut.Goals as goal

pub returns-in-Ok-clause-does : goal.returns-in-Ok-clause-does
returns-in-Ok-clause-does g c =
    let old = state g.S.Store c.args.self.now.conn in
    let new = state g.S.Store c.count_later.new.conn in
    let self = c.args.self.now in
    let known = knows self.devices in
    let v = value_at self.layout self.owner self.start known old.now.trees in
    let h = held_of (ours self.layout old.now.trees) in
    read_step (schema_in self.layout) (value_at self.layout self.owner self.start known) (IsLawful self.layout self.owner self.start) (IsLawful self.layout self.owner self.start) old new self.failures self.failures None (IsTrue (c.in-Ok.later == 0) ↔ AreUncut v) c.requires
    (λ live fit. uncut self.owner self.start known h (ours self.layout old.now.trees 9) c.in-Ok.later refl fit.fits.readable.since (c.in-Ok.ensures.value live (ready self.layout self.owner self.start old fit)))
    c.count_later.ensures.same c.count_later.ensures.crash c.count_later.ensures.live (λ e. c.in-Ok.ensures.stays) refl
