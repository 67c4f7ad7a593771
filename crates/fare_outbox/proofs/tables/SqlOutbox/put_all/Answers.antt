use Rattle.std.proofs.Common.{◌≡◌, Some, None, refl, arith}
use Rattle.sqlite_trees.specs.Tree.{Trees}
use Rattle.sqlite.specs.Held.{state}
use Rattle.fare_store.specs.OutboxWords.{stored}
use Rattle.fare_store.specs.Batches.{done_all}
use Rattle.fare_tables.proofs.Steps.{write_step, same_database, same_fit, same_at}
use Rattle.fare_outbox_rows.specs.Layouts.{schema_in, ours}
use Rattle.fare_outbox_rows.specs.Held.{MayBecome, IsReady, held_of}
use Rattle.fare_outbox.specs.Words.{value_at, IsLawful, IsWell}
use Rattle.fare_outbox_rows.specs.Batches.{with_taps}
use Rattle.fare_outbox.specs.Batches.{AreWelcome}
use Rattle.fare_outbox.proofs.Stored.{ready}
use Rattle.fare_outbox.proofs.Batches.{all_left, all_written, written_value}
use Rattle.fare_outbox.proofs.tables.SqlOutbox.put_all.Goals as goal

pub returns-in-Ok : goal.returns-in-Ok
returns-in-Ok g c =
    let old = state g.S.Store c.args.self.now.conn in
    let new = state g.S.Store c.write_rows.new.conn in
    let self = c.args.self.now in
    let rs = c.args.rows.now in
    let h = held_of (ours self.layout old.now.trees) in
    let sum = c.saturating_add-self.result in
    write_step (schema_in self.layout) (value_at self.layout) (IsWell self.layout self.rows self.statements) (IsWell self.layout sum self.statements) (IsLawful self.layout) old new self.failures self.failures None (AreWelcome (value_at self.layout old.now.trees) rs) (value_at self.layout new.now.trees ≡ done_all stored rs (value_at self.layout old.now.trees)) (done_all stored rs (value_at self.layout old.now.trees)) (λ (trees : Trees). IsReady self.layout old → MayBecome self.layout (with_taps rs h) trees) c.requires.up
    (λ live known.
    let wrote = c.in-Ok.ensures.value live (ready self.layout old self.rows self.statements known.0) in
    (all_written self.layout old new self.rows sum self.statements rs c.saturating_add-self.ensures (omega arith) known.0 known.1 wrote, written_value self.layout old new rs known.1 wrote.0.value))
    (λ live fit database. (c.in-Ok.ensures.value live (ready self.layout old self.rows self.statements fit)).0.database)
    c.write_rows.ensures.crash
    (λ fit trees wrote may. all_left self.layout h rs trees may fit.fits.lawful.together (wrote (ready self.layout old self.rows self.statements fit)))
    c.write_rows.ensures.live (λ e. c.in-Ok.ensures.stays) refl

pub returns-in-Err : goal.returns-in-Err
returns-in-Err g c =
    let old = state g.S.Store c.args.self.now.conn in
    let new = state g.S.Store c.write_rows.new.conn in
    let self = c.args.self.now in
    let rs = c.args.rows.now in
    let h = held_of (ours self.layout old.now.trees) in
    write_step (schema_in self.layout) (value_at self.layout) (IsWell self.layout self.rows self.statements) (IsWell self.layout self.rows self.statements) (IsLawful self.layout) old new self.failures c.note.new.failures (Some c.note.result) (AreWelcome (value_at self.layout old.now.trees) rs) (value_at self.layout new.now.trees ≡ value_at self.layout old.now.trees) (done_all stored rs (value_at self.layout old.now.trees)) (λ (trees : Trees). IsReady self.layout old → MayBecome self.layout (with_taps rs h) trees) c.requires.up
    (λ live known.
    let same = c.in-Err.ensures.same live (ready self.layout old self.rows self.statements known.0) in
    (same_fit (schema_in self.layout) (value_at self.layout) (IsWell self.layout self.rows self.statements) old new same known.0, same_at (schema_in self.layout) (value_at self.layout) old new same))
    (λ live fit database. same_database old new (c.in-Err.ensures.same live (ready self.layout old self.rows self.statements fit)) database)
    c.write_rows.ensures.crash
    (λ fit trees wrote may. all_left self.layout h rs trees may fit.fits.lawful.together (wrote (ready self.layout old self.rows self.statements fit)))
    c.write_rows.ensures.live (λ e. absurd (cc)) c.note.ensures.counted
