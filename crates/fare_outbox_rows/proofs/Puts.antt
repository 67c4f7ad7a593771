-- What one INSERT writes, and what the tables then hold.
use Rattle.std.proofs.Common.{◌≡◌, ◌≢◌, ◌⊎◌, inl, inr, ℕ, ◌==◌, pos, List, [], ◌∷◌, map, if◌then◌else◌, Bool, true, false, Option, Some, None, Ok, refl, sym, ap, subst, ◌∙◌}
use Rattle.std.proofs.lemmas.List.{map-append}
use Rattle.sqlite.specs.declared.types.Value.TheVariants.{Null, Int}
use Rattle.sqlite_value.specs.Order.{Row, column}
use Rattle.sqlite.specs.Tree.{Trees, put_row, without_rowid}
use Rattle.sqlite_rules.specs.Edit.{next_rowid}
use Rattle.sqlite.specs.Edit.{edit_of, edited}
use Rattle.sqlite.specs.Rowids.TheVariants.{Chosen}
use Rattle.sqlite.specs.Does.{Does}
use Rattle.sqlite.specs.Rows.{Written, Task}
use Rattle.sqlite_schema.specs.declared.schema.Keys.TheVariants.{Enforced}
use Rattle.sqlite.specs.Listing.{understood}
use Rattle.sqlite.specs.Effect.{Database}
use Rattle.sqlite.specs.State.{State, mode_of, Executes}
use Rattle.sqlite.proofs.Callers.{statement_of, runs_as, one_step}
use Rattle.fare_record.specs.Values.{RecordValue, StatementValue}
use Rattle.fare_tables.specs.Cells.{nat_in, int, id_of, AreRows, held}
use Rattle.fare_tables.proofs.Rows.{appended, rows_put, rows_without, held_put, held_replaced}
use Rattle.fare_tables.proofs.Statements.{made, cast_int, cast_null, went, same_value}
use Rattle.fare_opening.specs.Numbers.{Meta, Device, Tap, Stated}
use Rattle.fare_outbox_rows.specs.declared.layout.Layout.{Layout}
use Rattle.fare_outbox_rows.specs.Layouts.{schema_in, tree_in, ours}
use Rattle.fare_outbox_rows.specs.Statements.{Routed}
use Rattle.fare_outbox_rows.specs.Tables.{routed_table, stated_table}
use Rattle.fare_outbox_rows.specs.Held.{PutsTap, PutsLink, PutsStated, Becomes, AreReadable, IsDevice, IsTap, IsStated, device_row, upto_of, tap_cells, tap_of, stated_cells, stated_of, held_of, with_tap, with_statement}
use Rattle.fare_outbox_rows.specs.Batches.{with_tap_if}
use Rattle.fare_outbox_rows.proofs.Texts.{put_tap_text, put_tap_command, put_tap_meant, put_statement_text, put_statement_command, put_statement_meant}
use Rattle.fare_opening.proofs.Standing.{at_found}
use Rattle.fare_outbox_rows.proofs.Placed.{no_works, routed_placed, stated_placed, each, apart}
use Rattle.fare_outbox_rows.proofs.Found.{device_ids}

pub tap_ids : (r : Row) → IsTap r → column r 0 ≡ int (id_of r)
tap_ids r ok = ap (λ x. column x 0) ok

pub stated_ids : (r : Row) → IsStated r → column r 0 ≡ int (id_of r)
stated_ids r ok = ap (λ x. column x 0) ok

pub puts_tap : (w : Layout) (old new : State) (t : RecordValue) (count : ℕ) → old.now.schema ≡ schema_in w → Executes put_tap_text (tap_cells t) old new (Ok count) → PutsTap w old.now new.now t
unfolding ours
puts_tap w old new t count has h =
    let params = tap_cells t in
    let db = old.now.trees in
    let table = routed_table (tree_in w Routed) in
    let command = put_tap_command w in
    let means = put_tap_meant w in
    let run = runs_as put_tap_text params old new (schema_in w) has command means.command_is means.plain count h in
    let text = statement_of put_tap_text (understood (schema_in w) put_tap_text) in
    let task : Task = record { limit = old.step_limit; keys = Enforced; schema = schema_in w; table = table; params = params } in
    let done = made task (mode_of old) command db run.tally new.now (at_found task (mode_of old) command db _ (run.tally, new.now) (routed_placed w) (subst (λ s. Does old.step_limit (mode_of old) params (record old.now { schema = s }) text None command (Ok (run.tally, new.now))) has run.changed)) in
    let given = went done.wrote in
    let written = went (went given.2).2 in
    let counted = went written.2 in
    let trees : new.now.trees ≡ written.0 = ap (λ (d : Database). d.trees) done.after_is ∙ ap (λ (it : Written). it.trees) (same_value counted.2) ∙ same_value counted.1 in
    let step = one_step (schema_in w) Enforced db written.0 (edit_of db table [] Chosen 0 given.0) (no_works w Routed refl Enforced db (edit_of db table [] Chosen 0 given.0) refl) written.1 in
    let kept = each (λ tree. tree ≢ tree_in w Routed → written.0 tree ≡ db tree) w step.tables in
    let edit : edited db (edit_of db table [] Chosen 0 given.0) ≡ put_row (Int (next_rowid (db (tree_in w Routed))) ∷ tap_cells t) (db (tree_in w Routed)) = ap (λ all. edited db (edit_of db table [] Chosen 0 all)) given.1.1 ∙ simp (cast_int, cast_null) in
    let at : (k : ℕ) → new.now.trees k ≡ written.0 k = λ k. ap (λ (t : Trees). t k) trees in
    record {
      schema = ap (λ (d : Database). d.schema) done.after_is;
      database = run.sound;
      devices = at (tree_in w Device) ∙ kept Device refl (apart w Device Routed refl refl refl);
      taps = at (tree_in w Routed) ∙ step.rows ∙ edit;
      statements = at (tree_in w Stated) ∙ kept Stated refl (apart w Stated Routed refl refl refl);
      meta = at (tree_in w Meta) ∙ kept Meta refl (apart w Meta Routed refl refl refl);
      unused = at (tree_in w Tap) ∙ kept Tap refl (apart w Tap Routed refl refl refl);
    }

pub puts_stated : (w : Layout) (old new : State) (s : StatementValue) (count : ℕ) → old.now.schema ≡ schema_in w → Executes put_statement_text (stated_cells s) old new (Ok count) → PutsStated w old.now new.now s
unfolding ours
puts_stated w old new s count has h =
    let params = stated_cells s in
    let db = old.now.trees in
    let table = stated_table (tree_in w Stated) in
    let command = put_statement_command w in
    let means = put_statement_meant w in
    let run = runs_as put_statement_text params old new (schema_in w) has command means.command_is means.plain count h in
    let text = statement_of put_statement_text (understood (schema_in w) put_statement_text) in
    let task : Task = record { limit = old.step_limit; keys = Enforced; schema = schema_in w; table = table; params = params } in
    let done = made task (mode_of old) command db run.tally new.now (at_found task (mode_of old) command db _ (run.tally, new.now) (stated_placed w) (subst (λ s. Does old.step_limit (mode_of old) params (record old.now { schema = s }) text None command (Ok (run.tally, new.now))) has run.changed)) in
    let given = went done.wrote in
    let written = went (went given.2).2 in
    let counted = went written.2 in
    let trees : new.now.trees ≡ written.0 = ap (λ (d : Database). d.trees) done.after_is ∙ ap (λ (it : Written). it.trees) (same_value counted.2) ∙ same_value counted.1 in
    let step = one_step (schema_in w) Enforced db written.0 (edit_of db table [] Chosen 0 given.0) (no_works w Stated refl Enforced db (edit_of db table [] Chosen 0 given.0) refl) written.1 in
    let kept = each (λ tree. tree ≢ tree_in w Stated → written.0 tree ≡ db tree) w step.tables in
    let edit : edited db (edit_of db table [] Chosen 0 given.0) ≡ put_row (Int (next_rowid (db (tree_in w Stated))) ∷ stated_cells s) (db (tree_in w Stated)) = ap (λ all. edited db (edit_of db table [] Chosen 0 all)) given.1.1 ∙ simp (cast_int, cast_null) in
    let at : (k : ℕ) → new.now.trees k ≡ written.0 k = λ k. ap (λ (t : Trees). t k) trees in
    record {
      schema = ap (λ (d : Database). d.schema) done.after_is;
      database = run.sound;
      devices = at (tree_in w Device) ∙ kept Device refl (apart w Device Stated refl refl refl);
      taps = at (tree_in w Routed) ∙ kept Routed refl (apart w Routed Stated refl refl refl);
      statements = at (tree_in w Stated) ∙ step.rows ∙ edit;
      meta = at (tree_in w Meta) ∙ kept Meta refl (apart w Meta Stated refl refl refl);
      unused = at (tree_in w Tap) ∙ kept Tap refl (apart w Tap Stated refl refl refl);
    }

-- ---- what is held then

upto_if : (d : ℕ) (x : ℕ) (r : Row) (o : Option Row) → upto_of (if d == x then Some r else o) ≡ (if d == x then nat_in (column r 2) else upto_of o)
upto_if d x r o = go (d == x)
  where
    go : (b : Bool) → upto_of (if b then Some r else o) ≡ (if b then nat_in (column r 2) else upto_of o)
    go true = refl
    go false = refl

devices_after : (rows now : List Row) (d u : ℕ) → AreRows IsDevice rows → (now ≡ put_row (device_row d u) rows) ⊎ (now ≡ put_row (device_row d u) (without_rowid (pos d) rows))
    → AreRows IsDevice now × ((x : ℕ) → upto_of (held now x) ≡ (if d == x then u else upto_of (held rows x)))
devices_after rows now d u ok (inl is) = (
  subst (AreRows IsDevice) (sym is) (rows_put IsDevice device_ids rows d (Null ∷ int u ∷ []) refl ok),
  λ x. ap (λ all. upto_of (held all x)) is ∙ ap upto_of (held_put IsDevice device_ids rows d (Null ∷ int u ∷ []) x ok) ∙ upto_if d x (device_row d u) (held rows x),
)
devices_after rows now d u ok (inr is) = (
  subst (AreRows IsDevice) (sym is) (rows_put IsDevice device_ids (without_rowid (pos d) rows) d (Null ∷ int u ∷ []) refl (rows_without IsDevice device_ids rows d ok)),
  λ x. ap (λ all. upto_of (held all x)) is ∙ ap upto_of (held_replaced IsDevice device_ids rows d (Null ∷ int u ∷ []) x ok) ∙ upto_if d x (device_row d u) (held rows x),
)

pub both : (w : Layout) (old mid new : Database) (t : RecordValue) → AreReadable (ours w old.trees) → PutsTap w old mid t → PutsLink w mid new t.device t.link → Becomes w new (with_tap t (held_of (ours w old.trees)))
both w old mid new t ok first second =
    let taps = appended IsTap tap_ids (ours w old.trees 7) (ours w new.trees 7) (tap_cells t) ok.taps (λ n. refl) (second.taps ∙ first.taps) in
    let devices = devices_after (ours w mid.trees 1) (ours w new.trees 1) t.device t.link (subst (AreRows IsDevice) (sym first.devices) ok.devices) second.devices in
    let statements = second.statements ∙ first.statements in
    record {
      schema = second.schema;
      database = second.database;
      readable = record { devices = devices.0; taps = taps.0; statements = subst (AreRows IsStated) (sym statements) ok.statements };
      value = λ i. record {
        upto = λ x. (devices.1 x ∙ ap (λ all. if t.device == x then t.link else upto_of (held all x)) first.devices) i;
        taps = (ap (map tap_of) taps.1 ∙ map-append tap_of (ours w old.trees 7) _) i;
        statements = ap (map stated_of) statements i;
        meta = (second.meta ∙ first.meta) i;
        unused = (second.unused ∙ first.unused) i;
      };
    }

-- the row alone
pub tap_alone : (w : Layout) (old new : Database) (t : RecordValue) → AreReadable (ours w old.trees) → PutsTap w old new t → Becomes w new (with_tap_if false t (held_of (ours w old.trees)))
tap_alone w old new t ok puts =
    let taps = appended IsTap tap_ids (ours w old.trees 7) (ours w new.trees 7) (tap_cells t) ok.taps (λ n. refl) puts.taps in
    record {
      schema = puts.schema;
      database = puts.database;
      readable = record { devices = subst (AreRows IsDevice) (sym puts.devices) ok.devices; taps = taps.0; statements = subst (AreRows IsStated) (sym puts.statements) ok.statements };
      value = λ i. record {
        upto = λ x. upto_of (held (puts.devices i) x);
        taps = (ap (map tap_of) taps.1 ∙ map-append tap_of (ours w old.trees 7) _) i;
        statements = map stated_of (puts.statements i);
        meta = puts.meta i;
        unused = puts.unused i;
      };
    }

pub one_more : (w : Layout) (old new : Database) (s : StatementValue) → AreReadable (ours w old.trees) → PutsStated w old new s → Becomes w new (with_statement s (held_of (ours w old.trees)))
one_more w old new s ok puts =
    let statements = appended IsStated stated_ids (ours w old.trees 5) (ours w new.trees 5) (stated_cells s) ok.statements (λ n. refl) puts.statements in
    record {
      schema = puts.schema;
      database = puts.database;
      readable = record { devices = subst (AreRows IsDevice) (sym puts.devices) ok.devices; taps = subst (AreRows IsTap) (sym puts.taps) ok.taps; statements = statements.0 };
      value = λ i. record {
        upto = λ x. upto_of (held (puts.devices i) x);
        taps = map tap_of (puts.taps i);
        statements = (ap (map stated_of) statements.1 ∙ map-append stated_of (ours w old.trees 5) _) i;
        meta = puts.meta i;
        unused = puts.unused i;
      };
    }
