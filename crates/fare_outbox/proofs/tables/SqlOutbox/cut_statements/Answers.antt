use Rattle.std.proofs.Common.{◌≡◌, Some, None, refl, ap, ◌∙◌}
use Rattle.sqlite_trees.specs.Tree.{Trees}
use Rattle.sqlite.specs.Held.{state}
use Rattle.fare_store.specs.OutboxWords.{without_statements, stated_before}
use Rattle.fare_tables.proofs.Steps.{write_step, given_none, same_database, same_fit, same_at}
use Rattle.fare_outbox_rows.specs.Layouts.{schema_in, ours}
use Rattle.fare_outbox_rows.specs.Held.{MayBecome, IsReady, held_of, without_told}
use Rattle.fare_outbox.specs.Words.{stated_key, first_at, count_of, value_at, value_in, IsLawful, IsWell}
use Rattle.fare_outbox.proofs.Stored.{ready}
use Rattle.fare_outbox.proofs.Untold.{told_count, told_value, told_well, told_left}
use Rattle.fare_outbox.proofs.tables.SqlOutbox.cut_statements.Goals as goal

pub returns-in-Ok : goal.returns-in-Ok
returns-in-Ok g c =
    let old = state g.S.Store c.args.self.now.conn in
    let new = state g.S.Store c.write_untold.new.conn in
    let self = c.args.self.now in
    let o = c.args.owner in
    let d = c.args.device in
    let n = c.args.day in
    let h = held_of (ours self.layout old.now.trees) in
    let done = without_statements o d n (value_at self.layout old.now.trees) in
    let count = c.in-Ok.count in
    given_none _ _ _ None _ (write_step (schema_in self.layout) (value_at self.layout) (IsWell self.layout self.rows self.statements) (IsWell self.layout self.rows c.saturating_sub-self.result) (IsLawful self.layout) old new self.failures self.failures None (Unit {0}) ((count ≡ stated_before n (first_at stated_key count_of h.statements o d)) × (value_at self.layout new.now.trees ≡ done)) done
    (λ (trees : Trees). IsReady self.layout old → MayBecome self.layout (without_told o d n h) trees) c.requires
    (λ live known.
    let fit = known.0 in
    let together = fit.fits.lawful.together in
    let wrote = c.in-Ok.ensures.value live (ready self.layout old self.rows self.statements fit) in
    let is = c.in-Ok.ensures.count live (ready self.layout old self.rows self.statements fit) in
    (rw c.saturating_sub-self.ensures (told_well self.layout old new self.rows self.statements o d n count fit wrote is), (is ∙ told_count o d n h.statements together.single, ap value_in wrote.0.value ∙ told_value h o d n together)))
    (λ live fit database. (c.in-Ok.ensures.value live (ready self.layout old self.rows self.statements fit)).0.database)
    c.write_untold.ensures.crash
    (λ fit trees wrote may. told_left self.layout h o d n trees fit.fits.lawful.together (wrote (ready self.layout old self.rows self.statements fit)))
    c.write_untold.ensures.live (λ e. c.in-Ok.ensures.stays) refl)

pub returns-in-Err : goal.returns-in-Err
returns-in-Err g c =
    let old = state g.S.Store c.args.self.now.conn in
    let new = state g.S.Store c.write_untold.new.conn in
    let self = c.args.self.now in
    let o = c.args.owner in
    let d = c.args.device in
    let n = c.args.day in
    let h = held_of (ours self.layout old.now.trees) in
    let done = without_statements o d n (value_at self.layout old.now.trees) in
    given_none _ _ _ (Some c.note.result) _ (write_step (schema_in self.layout) (value_at self.layout) (IsWell self.layout self.rows self.statements) (IsWell self.layout self.rows self.statements) (IsLawful self.layout) old new self.failures c.note.new.failures (Some c.note.result) (Unit {0}) (value_at self.layout new.now.trees ≡ value_at self.layout old.now.trees) done
    (λ (trees : Trees). IsReady self.layout old → MayBecome self.layout (without_told o d n h) trees) c.requires
    (λ live known.
    let same = c.in-Err.ensures.same live (ready self.layout old self.rows self.statements known.0) in
    (same_fit (schema_in self.layout) (value_at self.layout) (IsWell self.layout self.rows self.statements) old new same known.0, same_at (schema_in self.layout) (value_at self.layout) old new same))
    (λ live fit database. same_database old new (c.in-Err.ensures.same live (ready self.layout old self.rows self.statements fit)) database)
    c.write_untold.ensures.crash
    (λ fit trees wrote may. told_left self.layout h o d n trees fit.fits.lawful.together (wrote (ready self.layout old self.rows self.statements fit)))
    c.write_untold.ensures.live (λ e. absurd (cc)) c.note.ensures.counted)
