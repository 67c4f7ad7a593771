use Rattle.std.proofs.Common.{◌≡◌, Some, None, refl, ap, ◌∙◌}
use Rattle.sqlite_trees.specs.Tree.{Trees}
use Rattle.sqlite.specs.Held.{state}
use Rattle.fare_store.specs.OutboxWords.{pruned_all}
use Rattle.fare_tables.proofs.Steps.{write_step, given_none, same_database, same_fit, same_at}
use Rattle.fare_outbox_rows.specs.Layouts.{schema_in, ours}
use Rattle.fare_outbox_rows.specs.Held.{MayBecome, IsReady, held_of, without_lanes}
use Rattle.fare_outbox.specs.Words.{value_at, value_in, IsLawful, IsWell}
use Rattle.fare_outbox.proofs.Stored.{ready}
use Rattle.fare_outbox.proofs.PrunedLanes.{lanes_value, lanes_well, lanes_left}
use Rattle.fare_outbox.proofs.tables.SqlOutbox.cut_all.Goals as goal

pub returns-in-Ok : goal.returns-in-Ok
returns-in-Ok g c =
    let old = state g.S.Store c.args.self.now.conn in
    let new = state g.S.Store c.write_cuts.new.conn in
    let self = c.args.self.now in
    let w = self.layout in
    let o = c.args.owner in
    let lanes = c.args.lanes.now in
    let left = c.in-Ok.left in
    let h = held_of (ours w old.now.trees) in
    let done = pruned_all o lanes (value_at w old.now.trees) in
    given_none _ _ _ None _ (write_step (schema_in w) (value_at w) (IsWell w self.rows self.statements) (IsWell w left self.statements) (IsLawful w) old new self.failures self.failures None (Unit {0}) (value_at w new.now.trees ≡ done) done
    (λ (trees : Trees). IsReady w old → MayBecome w (without_lanes o lanes h) trees) c.requires.up
    (λ live known.
    let fit = known.0 in
    let well = ready w old self.rows self.statements fit in
    let wrote = c.in-Ok.ensures.value live well in
    (lanes_well w old new self.rows self.statements left o lanes fit wrote (c.in-Ok.ensures.left live well fit.fits.rows_are), ap value_in wrote.0.value ∙ lanes_value o lanes h fit.fits.lawful.together))
    (λ live fit database. (c.in-Ok.ensures.value live (ready w old self.rows self.statements fit)).0.database)
    c.write_cuts.ensures.crash
    (λ fit trees wrote may. lanes_left w h o lanes trees fit.fits.lawful.together (wrote (ready w old self.rows self.statements fit)))
    c.write_cuts.ensures.live (λ e. c.in-Ok.ensures.stays) refl)

pub returns-in-Err : goal.returns-in-Err
returns-in-Err g c =
    let old = state g.S.Store c.args.self.now.conn in
    let new = state g.S.Store c.write_cuts.new.conn in
    let self = c.args.self.now in
    let w = self.layout in
    let o = c.args.owner in
    let lanes = c.args.lanes.now in
    let h = held_of (ours w old.now.trees) in
    let done = pruned_all o lanes (value_at w old.now.trees) in
    given_none _ _ _ (Some c.note.result) _ (write_step (schema_in w) (value_at w) (IsWell w self.rows self.statements) (IsWell w self.rows self.statements) (IsLawful w) old new self.failures c.note.new.failures (Some c.note.result) (Unit {0}) (value_at w new.now.trees ≡ value_at w old.now.trees) done
    (λ (trees : Trees). IsReady w old → MayBecome w (without_lanes o lanes h) trees) c.requires.up
    (λ live known.
    let same = c.in-Err.ensures.same live (ready w old self.rows self.statements known.0) in
    (same_fit (schema_in w) (value_at w) (IsWell w self.rows self.statements) old new same known.0, same_at (schema_in w) (value_at w) old new same))
    (λ live fit database. same_database old new (c.in-Err.ensures.same live (ready w old self.rows self.statements fit)) database)
    c.write_cuts.ensures.crash
    (λ fit trees wrote may. lanes_left w h o lanes trees fit.fits.lawful.together (wrote (ready w old self.rows self.statements fit)))
    c.write_cuts.ensures.live (λ e. absurd (cc)) c.note.ensures.counted)
