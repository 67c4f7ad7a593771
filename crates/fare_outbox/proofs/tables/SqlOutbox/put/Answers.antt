use Rattle.std.proofs.Common.{◌≡◌, Some, None, refl, ◌+◌, ap, ◌∙◌}
use Rattle.sqlite_trees.specs.Tree.{Trees}
use Rattle.sqlite.specs.Held.{state}
use Rattle.fare_store.specs.OutboxWords.{stored}
use Rattle.fare_tables.proofs.Steps.{write_step, same_database, same_fit, same_at}
use Rattle.fare_outbox_rows.specs.Layouts.{schema_in, ours}
use Rattle.fare_outbox_rows.specs.Held.{MayBecome, IsReady, held_of, with_tap}
use Rattle.fare_outbox.specs.Words.{value_at, value_in, IsLawful, IsWell, MayStore}
use Rattle.fare_outbox.proofs.Stored.{ready, left_held, becomes_left, put_fits}
use Rattle.fare_outbox.proofs.Lanes.{store_fits, store_value}
use Rattle.fare_outbox.proofs.tables.SqlOutbox.put.Goals as goal

pub returns-in-Ok : goal.returns-in-Ok
returns-in-Ok g c =
    let old = state g.S.Store c.args.self.now.conn in
    let new = state g.S.Store c.write_row.new.conn in
    let self = c.args.self.now in
    let r = c.args.row.now in
    let h = held_of (ours self.layout old.now.trees) in
    write_step (schema_in self.layout) (value_at self.layout) (IsWell self.layout self.rows self.statements) (IsWell self.layout (self.rows + 1) self.statements) (IsLawful self.layout) old new self.failures self.failures None (MayStore (value_at self.layout old.now.trees) r) (value_at self.layout new.now.trees ≡ stored r (value_at self.layout old.now.trees)) (stored r (value_at self.layout old.now.trees)) (λ (trees : Trees). IsReady self.layout old → MayBecome self.layout (with_tap r h) trees) c.requires.up
    (λ live known.
    let wrote = c.in-Ok.ensures.value live (ready self.layout old self.rows self.statements known.0) in
    (put_fits self.layout old new self.rows self.statements r c.requires.lane known.0 known.1 wrote, ap value_in wrote.0.value ∙ store_value h r known.1))
    (λ live fit database. (c.in-Ok.ensures.value live (ready self.layout old self.rows self.statements fit)).0.database)
    c.write_row.ensures.crash
    (λ fit trees wrote may. let it = wrote (ready self.layout old self.rows self.statements fit) in (ap value_in (left_held self.layout (with_tap r h) trees it) ∙ store_value h r may, becomes_left self.layout (with_tap r h) trees it (store_fits h r c.requires.lane may fit.fits.lawful.together)))
    c.write_row.ensures.live (λ e. c.in-Ok.ensures.stays) refl

pub returns-in-Err : goal.returns-in-Err
returns-in-Err g c =
    let old = state g.S.Store c.args.self.now.conn in
    let new = state g.S.Store c.write_row.new.conn in
    let self = c.args.self.now in
    let r = c.args.row.now in
    let h = held_of (ours self.layout old.now.trees) in
    write_step (schema_in self.layout) (value_at self.layout) (IsWell self.layout self.rows self.statements) (IsWell self.layout self.rows self.statements) (IsLawful self.layout) old new self.failures c.note.new.failures (Some c.note.result) (MayStore (value_at self.layout old.now.trees) r) (value_at self.layout new.now.trees ≡ value_at self.layout old.now.trees) (stored r (value_at self.layout old.now.trees)) (λ (trees : Trees). IsReady self.layout old → MayBecome self.layout (with_tap r h) trees) c.requires.up
    (λ live known.
    let same = c.in-Err.ensures.same live (ready self.layout old self.rows self.statements known.0) in
    (same_fit (schema_in self.layout) (value_at self.layout) (IsWell self.layout self.rows self.statements) old new same known.0, same_at (schema_in self.layout) (value_at self.layout) old new same))
    (λ live fit database. same_database old new (c.in-Err.ensures.same live (ready self.layout old self.rows self.statements fit)) database)
    c.write_row.ensures.crash
    (λ fit trees wrote may. let it = wrote (ready self.layout old self.rows self.statements fit) in (ap value_in (left_held self.layout (with_tap r h) trees it) ∙ store_value h r may, becomes_left self.layout (with_tap r h) trees it (store_fits h r c.requires.lane may fit.fits.lawful.together)))
    c.write_row.ensures.live (λ e. absurd (cc)) c.note.ensures.counted
