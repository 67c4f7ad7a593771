use Rattle.std.proofs.Common.{None, refl, ◌≡◌, ℕ, ◌==◌}
use Rattle.std.specs.Prelude.{IsTrue, ◌↔◌}
use Rattle.sqlite.specs.Held.{state}
use Rattle.fare_tables.specs.Cells.{held}
use Rattle.fare_tables.proofs.Steps.{read_step}
use Rattle.fare_outbox_rows.specs.Layouts.{schema_in, ours}
use Rattle.fare_outbox_rows.specs.Held.{upto_of}
use Rattle.fare_outbox.specs.Words.{value_at, IsLawful, IsWell}
use Rattle.fare_outbox.proofs.Seen.{seen_none}
use Rattle.fare_outbox.proofs.Stored.{ready}
use Rattle.fare_outbox.proofs.tables.SqlOutbox.saw_none.Goals as goal

pub returns-in-Ok-clause-does : goal.returns-in-Ok-clause-does
returns-in-Ok-clause-does g c =
    let old = state g.S.Store c.args.self.now.conn in
    let new = state g.S.Store c.count_seen.new.conn in
    let self = c.args.self.now in
    read_step (schema_in self.layout) (value_at self.layout) (IsWell self.layout self.rows self.statements) (IsLawful self.layout) old new self.failures self.failures None (IsTrue (c.in-Ok.seen == 0) ↔ ((device : ℕ) → upto_of (held (ours self.layout old.now.trees 1) device) ≡ 0)) c.requires
    (λ live fit. seen_none (ours self.layout old.now.trees 1) c.in-Ok.seen fit.fits.lawful.readable.devices (c.in-Ok.ensures.value live (ready self.layout old self.rows self.statements fit)))
    c.count_seen.ensures.same c.count_seen.ensures.crash c.count_seen.ensures.live (λ e. c.in-Ok.ensures.stays) refl
