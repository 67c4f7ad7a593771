-- What one INSERT writes, and what the tables then hold.
use Rattle.std.proofs.Common.{◌≡◌, ◌≢◌, ◌⊎◌, inl, inr, ℕ, ◌==◌, pos, List, [], ◌∷◌, map, if◌then◌else◌, Bool, true, false, Option, Some, None, Ok, refl, sym, ap, subst, ◌∙◌}
use Rattle.std.specs.Prelude.{is_some}
use Rattle.std.proofs.lemmas.List.{map-append}
use Rattle.sqlite.specs.declared.types.Value.TheVariants.{Null, Int}
use Rattle.sqlite_value.specs.Order.{Row, column}
use Rattle.sqlite.specs.Tree.{Trees, put_row, without_rowid}
use Rattle.sqlite_rules.specs.Edit.{next_rowid}
use Rattle.sqlite.specs.Edit.{edit_of, edited}
use Rattle.sqlite.specs.Rowids.TheVariants.{Chosen}
use Rattle.sqlite.specs.Does.{Does}
use Rattle.sqlite.specs.Rows.{Written, Task}
use Rattle.sqlite_schema.specs.declared.schema.Keys.TheVariants.{Enforced}
use Rattle.sqlite.specs.Listing.{understood}
use Rattle.sqlite.specs.Effect.{Database}
use Rattle.sqlite.specs.State.{State, mode_of, Executes}
use Rattle.sqlite.proofs.Callers.{statement_of, runs_as, one_step}
use Rattle.fare_tables.specs.Cells.{int, id_of, AreRows, held}
use Rattle.fare_tables.proofs.Rows.{appended, rows_put, rows_without, held_put, held_replaced}
use Rattle.fare_tables.proofs.Statements.{made, cast_int, cast_null, went, same_value}
use Rattle.fare_opening.specs.Numbers.{Meta, Device, Tap, Stated}
use Rattle.fare_ledger.specs.declared.layout.Layout.{Layout}
use Rattle.fare_ledger.specs.Layouts.{schema_in, tree_in, ours}
use Rattle.fare_ledger.specs.Statements.{Retired, Routed, Since}
use Rattle.fare_ledger.specs.Tables.{routed_table, stated_table, retired_table}
use Rattle.fare_ledger.specs.Held.{TapRow, StatedRow, PutsTap, PutsLane, PutsStated, PutsRetired, PutsSince, Becomes, AreReadable, IsLane, IsTap, IsStated, IsRetired, IsSince, since_row, since_of, retired_row, lane_row, lane_of, tap_cells, tap_of, stated_cells, stated_of, held_of, with_lane, with_tap, with_stated, with_numbers, with_retired_lane, with_since}
use Rattle.fare_ledger.specs.Batches.{with_tap_if}
use Rattle.fare_ledger.proofs.Texts.{put_tap_text, put_tap_command, put_tap_meant, put_stated_text, put_stated_command, put_stated_meant, put_retired_text, put_retired_command, put_retired_meant}
use Rattle.fare_opening.proofs.Standing.{at_found}
use Rattle.fare_ledger.proofs.Placed.{no_works, routed_placed, stated_placed, retired_placed, each, apart}
use Rattle.fare_ledger.proofs.Found.{lane_ids, retired_ids, since_ids}

pub tap_ids : (r : Row) → IsTap r → column r 0 ≡ int (id_of r)
tap_ids r ok = ap (λ x. column x 0) ok

pub stated_ids : (r : Row) → IsStated r → column r 0 ≡ int (id_of r)
stated_ids r ok = ap (λ x. column x 0) ok

pub puts_tap : (w : Layout) (old new : State) (t : TapRow) (count : ℕ) → old.now.schema ≡ schema_in w → Executes put_tap_text (tap_cells t) old new (Ok count) → PutsTap w old.now new.now t
unfolding ours
puts_tap w old new t count has h =
    let params = tap_cells t in
    let db = old.now.trees in
    let table = routed_table (tree_in w Routed) in
    let command = put_tap_command w in
    let means = put_tap_meant w in
    let run = runs_as put_tap_text params old new (schema_in w) has command means.command_is means.plain count h in
    let text = statement_of put_tap_text (understood (schema_in w) put_tap_text) in
    let task : Task = record { limit = old.step_limit; keys = Enforced; schema = schema_in w; table = table; params = params } in
    let done = made task (mode_of old) command db run.tally new.now (at_found task (mode_of old) command db _ (run.tally, new.now) (routed_placed w) (subst (λ s. Does old.step_limit (mode_of old) params (record old.now { schema = s }) text None command (Ok (run.tally, new.now))) has run.changed)) in
    let given = went done.wrote in
    let written = went (went given.2).2 in
    let counted = went written.2 in
    let trees : new.now.trees ≡ written.0 = ap (λ (d : Database). d.trees) done.after_is ∙ ap (λ (it : Written). it.trees) (same_value counted.2) ∙ same_value counted.1 in
    let step = one_step (schema_in w) Enforced db written.0 (edit_of db table [] Chosen 0 given.0) (no_works w Routed refl Enforced db (edit_of db table [] Chosen 0 given.0) refl) written.1 in
    let kept = each (λ tree. tree ≢ tree_in w Routed → written.0 tree ≡ db tree) w step.tables in
    let edit : edited db (edit_of db table [] Chosen 0 given.0) ≡ put_row (Int (next_rowid (db (tree_in w Routed))) ∷ tap_cells t) (db (tree_in w Routed)) = ap (λ all. edited db (edit_of db table [] Chosen 0 all)) given.1.1 ∙ simp (cast_int, cast_null) in
    let at : (k : ℕ) → new.now.trees k ≡ written.0 k = λ k. ap (λ (t : Trees). t k) trees in
    record {
      schema = ap (λ (d : Database). d.schema) done.after_is;
      database = run.sound;
      lanes = at (tree_in w Device) ∙ kept Device refl (apart w Device Routed refl refl refl);
      taps = at (tree_in w Routed) ∙ step.rows ∙ edit;
      statements = at (tree_in w Stated) ∙ kept Stated refl (apart w Stated Routed refl refl refl);
      retired = at (tree_in w Retired) ∙ kept Retired refl (apart w Retired Routed refl refl refl);
      meta = at (tree_in w Meta) ∙ kept Meta refl (apart w Meta Routed refl refl refl);
      since = at (tree_in w Since) ∙ kept Since refl (apart w Since Routed refl refl refl);
      unused = at (tree_in w Tap) ∙ kept Tap refl (apart w Tap Routed refl refl refl);
    }

pub puts_stated : (w : Layout) (old new : State) (s : StatedRow) (count : ℕ) → old.now.schema ≡ schema_in w → Executes put_stated_text (stated_cells s) old new (Ok count) → PutsStated w old.now new.now s
unfolding ours
puts_stated w old new s count has h =
    let params = stated_cells s in
    let db = old.now.trees in
    let table = stated_table (tree_in w Stated) in
    let command = put_stated_command w in
    let means = put_stated_meant w in
    let run = runs_as put_stated_text params old new (schema_in w) has command means.command_is means.plain count h in
    let text = statement_of put_stated_text (understood (schema_in w) put_stated_text) in
    let task : Task = record { limit = old.step_limit; keys = Enforced; schema = schema_in w; table = table; params = params } in
    let done = made task (mode_of old) command db run.tally new.now (at_found task (mode_of old) command db _ (run.tally, new.now) (stated_placed w) (subst (λ s. Does old.step_limit (mode_of old) params (record old.now { schema = s }) text None command (Ok (run.tally, new.now))) has run.changed)) in
    let given = went done.wrote in
    let written = went (went given.2).2 in
    let counted = went written.2 in
    let trees : new.now.trees ≡ written.0 = ap (λ (d : Database). d.trees) done.after_is ∙ ap (λ (it : Written). it.trees) (same_value counted.2) ∙ same_value counted.1 in
    let step = one_step (schema_in w) Enforced db written.0 (edit_of db table [] Chosen 0 given.0) (no_works w Stated refl Enforced db (edit_of db table [] Chosen 0 given.0) refl) written.1 in
    let kept = each (λ tree. tree ≢ tree_in w Stated → written.0 tree ≡ db tree) w step.tables in
    let edit : edited db (edit_of db table [] Chosen 0 given.0) ≡ put_row (Int (next_rowid (db (tree_in w Stated))) ∷ stated_cells s) (db (tree_in w Stated)) = ap (λ all. edited db (edit_of db table [] Chosen 0 all)) given.1.1 ∙ simp (cast_int, cast_null) in
    let at : (k : ℕ) → new.now.trees k ≡ written.0 k = λ k. ap (λ (t : Trees). t k) trees in
    record {
      schema = ap (λ (d : Database). d.schema) done.after_is;
      database = run.sound;
      lanes = at (tree_in w Device) ∙ kept Device refl (apart w Device Stated refl refl refl);
      taps = at (tree_in w Routed) ∙ kept Routed refl (apart w Routed Stated refl refl refl);
      statements = at (tree_in w Stated) ∙ step.rows ∙ edit;
      retired = at (tree_in w Retired) ∙ kept Retired refl (apart w Retired Stated refl refl refl);
      meta = at (tree_in w Meta) ∙ kept Meta refl (apart w Meta Stated refl refl refl);
      since = at (tree_in w Since) ∙ kept Since refl (apart w Since Stated refl refl refl);
      unused = at (tree_in w Tap) ∙ kept Tap refl (apart w Tap Stated refl refl refl);
    }

pub puts_retired : (w : Layout) (old new : State) (d : ℕ) (count : ℕ) → old.now.schema ≡ schema_in w → Executes put_retired_text (int d ∷ []) old new (Ok count) → PutsRetired w old.now new.now d
unfolding ours
puts_retired w old new d count has h =
    let params = int d ∷ [] in
    let db = old.now.trees in
    let table = retired_table (tree_in w Retired) in
    let command = put_retired_command w in
    let means = put_retired_meant w in
    let run = runs_as put_retired_text params old new (schema_in w) has command means.command_is means.plain count h in
    let text = statement_of put_retired_text (understood (schema_in w) put_retired_text) in
    let task : Task = record { limit = old.step_limit; keys = Enforced; schema = schema_in w; table = table; params = params } in
    let done = made task (mode_of old) command db run.tally new.now (at_found task (mode_of old) command db _ (run.tally, new.now) (retired_placed w) (subst (λ s. Does old.step_limit (mode_of old) params (record old.now { schema = s }) text None command (Ok (run.tally, new.now))) has run.changed)) in
    let given = went done.wrote in
    let written = went (went given.2).2 in
    let counted = went written.2 in
    let trees : new.now.trees ≡ written.0 = ap (λ (d : Database). d.trees) done.after_is ∙ ap (λ (it : Written). it.trees) (same_value counted.2) ∙ same_value counted.1 in
    let step = one_step (schema_in w) Enforced db written.0 (edit_of db table [] Chosen 0 given.0) (no_works w Retired refl Enforced db (edit_of db table [] Chosen 0 given.0) refl) written.1 in
    let kept = each (λ tree. tree ≢ tree_in w Retired → written.0 tree ≡ db tree) w step.tables in
    let edit : edited db (edit_of db table [] Chosen 0 given.0) ≡ put_row (retired_row d) (db (tree_in w Retired)) = ap (λ all. edited db (edit_of db table [] Chosen 0 all)) given.1.1 ∙ simp (cast_int, cast_null) in
    let at : (k : ℕ) → new.now.trees k ≡ written.0 k = λ k. ap (λ (t : Trees). t k) trees in
    record {
      schema = ap (λ (d : Database). d.schema) done.after_is;
      database = run.sound;
      lanes = at (tree_in w Device) ∙ kept Device refl (apart w Device Retired refl refl refl);
      taps = at (tree_in w Routed) ∙ kept Routed refl (apart w Routed Retired refl refl refl);
      statements = at (tree_in w Stated) ∙ kept Stated refl (apart w Stated Retired refl refl refl);
      retired = at (tree_in w Retired) ∙ step.rows ∙ edit;
      meta = at (tree_in w Meta) ∙ kept Meta refl (apart w Meta Retired refl refl refl);
      since = at (tree_in w Since) ∙ kept Since refl (apart w Since Retired refl refl refl);
      unused = at (tree_in w Tap) ∙ kept Tap refl (apart w Tap Retired refl refl refl);
    }

-- ---- what is held then

lane_if : (b : Bool) (r : Row) (o : Option Row) → lane_of (if b then Some r else o) ≡ (if b then lane_of (Some r) else lane_of o)
lane_if true r o = refl
lane_if false r o = refl

lanes_after : (rows now : List Row) (d k c : ℕ) → AreRows IsLane rows → (now ≡ put_row (lane_row d k c) rows) ⊎ (now ≡ put_row (lane_row d k c) (without_rowid (pos d) rows))
    → AreRows IsLane now × ((x : ℕ) → lane_of (held now x) ≡ with_lane d k c (λ y. lane_of (held rows y)) x)
lanes_after rows now d k c ok (inl is) = (
  subst (AreRows IsLane) (sym is) (rows_put IsLane lane_ids rows d (Null ∷ int k ∷ int c ∷ []) refl ok),
  λ x. ap (λ all. lane_of (held all x)) is ∙ ap lane_of (held_put IsLane lane_ids rows d (Null ∷ int k ∷ int c ∷ []) x ok) ∙ lane_if (d == x) (lane_row d k c) (held rows x),
)
lanes_after rows now d k c ok (inr is) = (
  subst (AreRows IsLane) (sym is) (rows_put IsLane lane_ids (without_rowid (pos d) rows) d (Null ∷ int k ∷ int c ∷ []) refl (rows_without IsLane lane_ids rows d ok)),
  λ x. ap (λ all. lane_of (held all x)) is ∙ ap lane_of (held_replaced IsLane lane_ids rows d (Null ∷ int k ∷ int c ∷ []) x ok) ∙ lane_if (d == x) (lane_row d k c) (held rows x),
)

pub both : (w : Layout) (old mid new : Database) (t : TapRow) (c : ℕ) → AreReadable (ours w old.trees) → PutsTap w old mid t → PutsLane w mid new t.device t.lane c → Becomes w new (with_tap t c (held_of (ours w old.trees)))
both w old mid new t c ok first second =
    let taps = appended IsTap tap_ids (ours w old.trees 7) (ours w new.trees 7) (tap_cells t) ok.taps (λ n. refl) (second.taps ∙ first.taps) in
    let lanes = lanes_after (ours w mid.trees 1) (ours w new.trees 1) t.device t.lane c (subst (AreRows IsLane) (sym first.lanes) ok.lanes) second.lanes in
    let statements = second.statements ∙ first.statements in
    let retired = second.retired ∙ first.retired in
    let since = second.since ∙ first.since in
    record {
      schema = second.schema;
      database = second.database;
      readable = record { lanes = lanes.0; taps = taps.0; statements = subst (AreRows IsStated) (sym statements) ok.statements; retired = subst (AreRows IsRetired) (sym retired) ok.retired; since = subst (AreRows IsSince) (sym since) ok.since };
      value = λ i. record {
        lanes = λ x. (lanes.1 x ∙ ap (λ all. with_lane t.device t.lane c (λ y. lane_of (held all y)) x) first.lanes) i;
        taps = (ap (map tap_of) taps.1 ∙ map-append tap_of (ours w old.trees 7) _) i;
        statements = ap (map stated_of) statements i;
        retired = λ x. is_some (held (retired i) x);
        since = λ x. since_of (held (since i) x);
        meta = (second.meta ∙ first.meta) i;
        unused = (second.unused ∙ first.unused) i;
      };
    }

-- the tap alone
pub tap_alone : (w : Layout) (old new : Database) (t : TapRow) (c : ℕ) → AreReadable (ours w old.trees) → PutsTap w old new t → Becomes w new (with_tap_if false t c (held_of (ours w old.trees)))
tap_alone w old new t c ok puts =
    let taps = appended IsTap tap_ids (ours w old.trees 7) (ours w new.trees 7) (tap_cells t) ok.taps (λ n. refl) puts.taps in
    record {
      schema = puts.schema;
      database = puts.database;
      readable = record { lanes = subst (AreRows IsLane) (sym puts.lanes) ok.lanes; taps = taps.0; statements = subst (AreRows IsStated) (sym puts.statements) ok.statements; retired = subst (AreRows IsRetired) (sym puts.retired) ok.retired; since = subst (AreRows IsSince) (sym puts.since) ok.since };
      value = λ i. record {
        lanes = λ x. lane_of (held (puts.lanes i) x);
        taps = (ap (map tap_of) taps.1 ∙ map-append tap_of (ours w old.trees 7) _) i;
        statements = map stated_of (puts.statements i);
        retired = λ x. is_some (held (puts.retired i) x);
        since = λ x. since_of (held (puts.since i) x);
        meta = puts.meta i;
        unused = puts.unused i;
      };
    }

pub one_more : (w : Layout) (old new : Database) (s : StatedRow) → AreReadable (ours w old.trees) → PutsStated w old new s → Becomes w new (with_stated s (held_of (ours w old.trees)))
one_more w old new s ok puts =
    let statements = appended IsStated stated_ids (ours w old.trees 4) (ours w new.trees 4) (stated_cells s) ok.statements (λ n. refl) puts.statements in
    record {
      schema = puts.schema;
      database = puts.database;
      readable = record { lanes = subst (AreRows IsLane) (sym puts.lanes) ok.lanes; taps = subst (AreRows IsTap) (sym puts.taps) ok.taps; statements = statements.0; retired = subst (AreRows IsRetired) (sym puts.retired) ok.retired; since = subst (AreRows IsSince) (sym puts.since) ok.since };
      value = λ i. record {
        lanes = λ x. lane_of (held (puts.lanes i) x);
        taps = map tap_of (puts.taps i);
        statements = (ap (map stated_of) statements.1 ∙ map-append stated_of (ours w old.trees 4) _) i;
        retired = λ x. is_some (held (puts.retired i) x);
        since = λ x. since_of (held (puts.since i) x);
        meta = puts.meta i;
        unused = puts.unused i;
      };
    }

pub other_numbers : (w : Layout) (old new : Database) (d k c : ℕ) → AreReadable (ours w old.trees) → PutsLane w old new d k c → Becomes w new (with_numbers d k c (held_of (ours w old.trees)))
other_numbers w old new d k c ok puts =
    let lanes = lanes_after (ours w old.trees 1) (ours w new.trees 1) d k c ok.lanes puts.lanes in
    record {
      schema = puts.schema;
      database = puts.database;
      readable = record { lanes = lanes.0; taps = subst (AreRows IsTap) (sym puts.taps) ok.taps; statements = subst (AreRows IsStated) (sym puts.statements) ok.statements; retired = subst (AreRows IsRetired) (sym puts.retired) ok.retired; since = subst (AreRows IsSince) (sym puts.since) ok.since };
      value = λ i. record {
        lanes = λ x. lanes.1 x i;
        taps = map tap_of (puts.taps i);
        statements = map stated_of (puts.statements i);
        retired = λ x. is_some (held (puts.retired i) x);
        since = λ x. since_of (held (puts.since i) x);
        meta = puts.meta i;
        unused = puts.unused i;
      };
    }

some_if : (b : Bool) (r : Row) (o : Option Row) → is_some (if b then Some r else o) ≡ (if b then true else is_some o)
some_if true r o = refl
some_if false r o = refl

pub one_retired : (w : Layout) (old new : Database) (d : ℕ) → AreReadable (ours w old.trees) → PutsRetired w old new d → Becomes w new (with_retired_lane d (held_of (ours w old.trees)))
one_retired w old new d ok puts =
    let rows = ours w old.trees 6 in
    record {
      schema = puts.schema;
      database = puts.database;
      readable = record {
        lanes = subst (AreRows IsLane) (sym puts.lanes) ok.lanes;
        taps = subst (AreRows IsTap) (sym puts.taps) ok.taps;
        statements = subst (AreRows IsStated) (sym puts.statements) ok.statements;
        retired = subst (AreRows IsRetired) (sym puts.retired) (rows_put IsRetired retired_ids rows d (Null ∷ []) refl ok.retired);
        since = subst (AreRows IsSince) (sym puts.since) ok.since;
      };
      value = λ i. record {
        lanes = λ x. lane_of (held (puts.lanes i) x);
        taps = map tap_of (puts.taps i);
        statements = map stated_of (puts.statements i);
        retired = λ x. (ap (λ all. is_some (held all x)) puts.retired ∙ ap is_some (held_put IsRetired retired_ids rows d (Null ∷ []) x ok.retired) ∙ some_if (d == x) (retired_row d) (held rows x)) i;
        since = λ x. since_of (held (puts.since i) x);
        meta = puts.meta i;
        unused = puts.unused i;
      };
    }

since_if : (b : Bool) (r : Row) (o : Option Row) → since_of (if b then Some r else o) ≡ (if b then since_of (Some r) else since_of o)
since_if true r o = refl
since_if false r o = refl

since_after : (rows now : List Row) (d f : ℕ) → AreRows IsSince rows → (now ≡ put_row (since_row d f) rows) ⊎ (now ≡ put_row (since_row d f) (without_rowid (pos d) rows))
    → AreRows IsSince now × ((x : ℕ) → since_of (held now x) ≡ (if d == x then f else since_of (held rows x)))
since_after rows now d f ok (inl is) = (
  subst (AreRows IsSince) (sym is) (rows_put IsSince since_ids rows d (Null ∷ int f ∷ []) refl ok),
  λ x. ap (λ all. since_of (held all x)) is ∙ ap since_of (held_put IsSince since_ids rows d (Null ∷ int f ∷ []) x ok) ∙ since_if (d == x) (since_row d f) (held rows x),
)
since_after rows now d f ok (inr is) = (
  subst (AreRows IsSince) (sym is) (rows_put IsSince since_ids (without_rowid (pos d) rows) d (Null ∷ int f ∷ []) refl (rows_without IsSince since_ids rows d ok)),
  λ x. ap (λ all. since_of (held all x)) is ∙ ap since_of (held_replaced IsSince since_ids rows d (Null ∷ int f ∷ []) x ok) ∙ since_if (d == x) (since_row d f) (held rows x),
)

pub other_since : (w : Layout) (old new : Database) (d f : ℕ) → AreReadable (ours w old.trees) → PutsSince w old new d f → Becomes w new (with_since d f (held_of (ours w old.trees)))
other_since w old new d f ok puts =
    let after = since_after (ours w old.trees 9) (ours w new.trees 9) d f ok.since puts.since in
    record {
      schema = puts.schema;
      database = puts.database;
      readable = record {
        lanes = subst (AreRows IsLane) (sym puts.lanes) ok.lanes;
        taps = subst (AreRows IsTap) (sym puts.taps) ok.taps;
        statements = subst (AreRows IsStated) (sym puts.statements) ok.statements;
        retired = subst (AreRows IsRetired) (sym puts.retired) ok.retired;
        since = after.0;
      };
      value = λ i. record {
        lanes = λ x. lane_of (held (puts.lanes i) x);
        taps = map tap_of (puts.taps i);
        statements = map stated_of (puts.statements i);
        retired = λ x. is_some (held (puts.retired i) x);
        since = λ x. after.1 x i;
        meta = puts.meta i;
        unused = puts.unused i;
      };
    }
