-- What the removal of a device's taps and statements leaves.
use Rattle.std.proofs.Common.{◌≡◌, ◌≢◌, ℕ, ◌==◌, nat_le, nat_lt, not, List, [], ◌∷◌, map, filter, Bool, true, false, Some, None, Ok, refl, sym, ap, subst, ◌∙◌, pos, arith}
use Rattle.std.specs.Prelude.{is_some}
use Rattle.std.specs.Ordering.{is_lt, int_cmp}
use Rattle.std.specs.List.Sorted.{IsPermutation}
use Rattle.std.proofs.lemmas.Bool.Decides.{nat_tests}
use Rattle.sqlite.specs.declared.types.Value.TheVariants.{Null}
use Rattle.sqlite_value.specs.Order.{Row}
use Rattle.sqlite_value.proofs.OrderLemmas.{value_cmp-Int}
use Rattle.sqlite.specs.Ops.{binary, is_true, from_truth}
use Rattle.sqlite.specs.Collation.TheVariants.{Binary}
use Rattle.sqlite_sql.specs.declared.ops.BinaryOp.TheVariants as by
use Rattle.sqlite_sql.specs.declared.ops.CompareOp.TheVariants as cmp
use Rattle.sqlite.specs.Tree.{Trees}
use Rattle.sqlite_rules.specs.Edit.{without_all}
use Rattle.sqlite_rules.specs.Calls.{ids_of}
use Rattle.sqlite.specs.Query.{IsAnswer, matches_as, end, output}
use Rattle.sqlite.specs.Program.{overlay}
use Rattle.sqlite.specs.Edit.{edit_of}
use Rattle.sqlite.specs.Rowids.TheVariants.{Given}
use Rattle.sqlite.specs.Does.{Does}
use Rattle.sqlite.specs.Rows.{Written, Task}
use Rattle.sqlite_schema.specs.declared.schema.Keys.TheVariants.{Enforced}
use Rattle.sqlite.specs.Listing.{understood}
use Rattle.sqlite.specs.Effect.{Database}
use Rattle.sqlite.specs.State.{State, mode_of, Executes}
use Rattle.sqlite.proofs.Callers.{statement_of, runs_as, one_step}
use Rattle.fare_tables.specs.Cells.{int, id_of, AreRows, held}
use Rattle.fare_tables.proofs.Lists.{filter_of_map}
use Rattle.fare_tables.proofs.Rows.{all_of, rows_filter}
use Rattle.fare_tables.proofs.Removing.{id_shown, left_over}
use Rattle.fare_tables.proofs.Statements.{made, went, same_value}
use Rattle.fare_tables.proofs.Terms.{chosen, matched, eq_holds, le_holds, two_terms}
use Rattle.fare_opening.specs.Numbers.{Meta, Device, Tap, Stated}
use Rattle.fare_opening.proofs.Standing.{at_found}
use Rattle.fare_ledger.specs.declared.layout.Layout.{Layout}
use Rattle.fare_ledger.specs.Layouts.{schema_in, tree_in, ours}
use Rattle.fare_ledger.specs.Statements.{Retired, Routed, Since}
use Rattle.fare_ledger.specs.Tables.{routed_table, stated_table, cut_terms, cut_query, told_terms, told_query}
use Rattle.fare_ledger.specs.Held.{TapRow, StatedRow, AreReadable, Becomes, IsLane, IsTap, IsStated, IsRetired, IsSince, since_of, lane_of, tap_cells, tap_of, stated_cells, stated_of, held_of, is_cut, is_told, without_taps, without_statements}
use Rattle.fare_ledger.proofs.Texts.{cut_text, cut_command, cut_meant, told_text, told_command, told_meant}
use Rattle.fare_ledger.proofs.Placed.{no_works, routed_placed, stated_placed, each, apart}
use Rattle.fare_ledger.proofs.Found.{asked, at_tap, at_stated}
use Rattle.fare_ledger.proofs.Puts.{tap_ids, stated_ids}

-- ---- taps

abbrev goes : ℕ → ℕ → Row → Bool
goes d l r = is_cut d l (tap_of r)

cut_cell : (id : ℕ) (t : TapRow) (d l : ℕ) → matches_as Null (λ _. []) cut_terms end (asked d l ∷ (int id ∷ tap_cells t) ∷ []) ≡ chosen (is_cut d l t) (asked d l ∷ (int id ∷ tap_cells t) ∷ [])
cut_cell id t d l = rw (eq_holds t.device d, le_holds t.lane l) (two_terms (t.device == d) (nat_le t.lane l) (asked d l ∷ (int id ∷ tap_cells t) ∷ []))

cut_each : (d l : ℕ) (r : Row) → IsTap r → matches_as Null (λ _. []) cut_terms end (asked d l ∷ r ∷ []) ≡ chosen (goes d l r) (asked d l ∷ r ∷ [])
cut_each d l r ok = subst (λ x. matches_as Null (λ _. []) cut_terms end (asked d l ∷ x ∷ []) ≡ chosen (goes d l x) (asked d l ∷ x ∷ [])) (sym ok) (cut_cell (id_of r) (tap_of r) d l)

cut_shown : (d l : ℕ) (rows : List Row) → map (output cut_query) (map (λ r. asked d l ∷ r ∷ []) rows) ≡ map id_shown rows
cut_shown d l [] = refl
cut_shown d l (r ∷ rows) = ap (λ more. id_shown r ∷ more) (cut_shown d l rows)

cut_kept : (db : Trees) (d l : ℕ) (out : List Row) → AreRows IsTap (db 7) → (a : IsAnswer cut_query (overlay db []) (asked d l) out) → a.kept ≡ map id_shown (filter (goes d l) (db 7))
cut_kept db d l out ok a =
    a.distinct ∙ ap (map (output cut_query)) (a.grouped ∙ matched IsTap (goes d l) (asked d l) cut_terms (cut_each d l) (db 7) (all_of IsTap (db 7) ok)) ∙ cut_shown d l (filter (goes d l) (db 7))

cut_left : (db : Trees) (d l : ℕ) (out : List Row) → AreRows IsTap (db 7) → IsAnswer cut_query (overlay db []) (asked d l) out → without_all (db 7) (ids_of out) ≡ filter (λ r. not (goes d l r)) (db 7)
cut_left db d l out ok a =
    ap (λ rows. without_all (db 7) (ids_of rows)) a.shown ∙ left_over IsTap tap_ids (goes d l) (db 7) a.ordered ok (subst (λ k. IsPermutation k a.ordered) (cut_kept db d l out ok a) a.same)

pub cuts : (w : Layout) (old new : State) (d l count : ℕ) → old.now.schema ≡ schema_in w → AreReadable (ours w old.now.trees) → Executes cut_text (asked d l) old new (Ok count) → Becomes w new.now (without_taps d l (held_of (ours w old.now.trees)))
unfolding ours
cuts w old new d l count has ok h =
    let db = old.now.trees in
    let all = ours w db in
    let params = asked d l in
    let table = routed_table (tree_in w Routed) in
    let command = cut_command w in
    let means = cut_meant w in
    let run = runs_as cut_text params old new (schema_in w) has command means.command_is means.plain count h in
    let text = statement_of cut_text (understood (schema_in w) cut_text) in
    let task : Task = record { limit = old.step_limit; keys = Enforced; schema = schema_in w; table = table; params = params } in
    let done = made task (mode_of old) command db run.tally new.now (at_found task (mode_of old) command db _ (run.tally, new.now) (routed_placed w) (subst (λ s. Does old.step_limit (mode_of old) params (record old.now { schema = s }) text None command (Ok (run.tally, new.now))) has run.changed)) in
    let it = went done.wrote in
    let step = went it.2 in
    let trees : new.now.trees ≡ step.0 = ap (λ (d : Database). d.trees) done.after_is ∙ ap (λ (x : Written). x.trees) (same_value step.2) in
    let one = one_step (schema_in w) Enforced db step.0 (edit_of db table (ids_of it.0) Given 0 []) (no_works w Routed refl Enforced db (edit_of db table (ids_of it.0) Given 0 []) refl) step.1 in
    let kept = each (λ tree. tree ≢ tree_in w Routed → step.0 tree ≡ db tree) w one.tables in
    let at : (k : ℕ) → new.now.trees k ≡ step.0 k = λ k. ap (λ (t : Trees). t k) trees in
    let answer : IsAnswer cut_query (overlay all []) params it.0 = at_tap w cut_query db params it.0 (it.1.answer Null) in
    let taps : ours w new.now.trees 7 ≡ filter (λ r. not (goes d l r)) (all 7) = at (tree_in w Routed) ∙ one.rows ∙ cut_left all d l it.0 ok.taps answer in
    let lanes : ours w new.now.trees 1 ≡ all 1 = at (tree_in w Device) ∙ kept Device refl (apart w Device Routed refl refl refl) in
    let statements : ours w new.now.trees 4 ≡ all 4 = at (tree_in w Stated) ∙ kept Stated refl (apart w Stated Routed refl refl refl) in
    let retired : ours w new.now.trees 6 ≡ all 6 = at (tree_in w Retired) ∙ kept Retired refl (apart w Retired Routed refl refl refl) in
    let since : ours w new.now.trees 9 ≡ all 9 = at (tree_in w Since) ∙ kept Since refl (apart w Since Routed refl refl refl) in
    let meta : ours w new.now.trees 0 ≡ all 0 = at (tree_in w Meta) ∙ kept Meta refl (apart w Meta Routed refl refl refl) in
    let unused : ours w new.now.trees 2 ≡ all 2 = at (tree_in w Tap) ∙ kept Tap refl (apart w Tap Routed refl refl refl) in
    record {
      schema = ap (λ (d : Database). d.schema) done.after_is;
      database = run.sound;
      readable = record {
        lanes = subst (AreRows IsLane) (sym lanes) ok.lanes;
        taps = subst (AreRows IsTap) (sym taps) (rows_filter IsTap tap_ids _ (all 7) ok.taps);
        statements = subst (AreRows IsStated) (sym statements) ok.statements;
        retired = subst (AreRows IsRetired) (sym retired) ok.retired;
        since = subst (AreRows IsSince) (sym since) ok.since;
      };
      value = λ i. record {
        lanes = λ x. lane_of (held (lanes i) x);
        taps = (ap (map tap_of) taps ∙ sym (filter_of_map tap_of (λ t. not (is_cut d l t)) (all 7))) i;
        statements = map stated_of (statements i);
        retired = λ x. is_some (held (retired i) x);
        since = λ x. since_of (held (since i) x);
        meta = meta i;
        unused = unused i;
      };
    }

-- ---- statements

pos_lt : (a b : ℕ) → is_lt (int_cmp (pos a) (pos b)) ≡ nat_lt a b
pos_lt a b = grind (arith, nat_tests)

truth_of : (b : Bool) → is_true (from_truth (Some b)) ≡ b
truth_of true = refl
truth_of false = refl

lt_holds : (a b : ℕ) → is_true (binary (by.Compare cmp.Lt Binary) (int a) (int b)) ≡ nat_lt a b
unfolding binary
lt_holds a b = rw (value_cmp-Int (pos a) (pos b)) (truth_of (is_lt (int_cmp (pos a) (pos b))) ∙ pos_lt a b)

abbrev tells : ℕ → ℕ → Row → Bool
tells d y r = is_told d y (stated_of r)

told_cell : (id : ℕ) (s : StatedRow) (d y : ℕ) → matches_as Null (λ _. []) told_terms end (asked d y ∷ (int id ∷ stated_cells s) ∷ []) ≡ chosen (is_told d y s) (asked d y ∷ (int id ∷ stated_cells s) ∷ [])
told_cell id s d y = rw (eq_holds s.device d, lt_holds s.day y) (two_terms (s.device == d) (nat_lt s.day y) (asked d y ∷ (int id ∷ stated_cells s) ∷ []))

told_each : (d y : ℕ) (r : Row) → IsStated r → matches_as Null (λ _. []) told_terms end (asked d y ∷ r ∷ []) ≡ chosen (tells d y r) (asked d y ∷ r ∷ [])
told_each d y r ok = subst (λ x. matches_as Null (λ _. []) told_terms end (asked d y ∷ x ∷ []) ≡ chosen (tells d y x) (asked d y ∷ x ∷ [])) (sym ok) (told_cell (id_of r) (stated_of r) d y)

told_shown : (d y : ℕ) (rows : List Row) → map (output told_query) (map (λ r. asked d y ∷ r ∷ []) rows) ≡ map id_shown rows
told_shown d y [] = refl
told_shown d y (r ∷ rows) = ap (λ more. id_shown r ∷ more) (told_shown d y rows)

told_kept : (db : Trees) (d y : ℕ) (out : List Row) → AreRows IsStated (db 4) → (a : IsAnswer told_query (overlay db []) (asked d y) out) → a.kept ≡ map id_shown (filter (tells d y) (db 4))
told_kept db d y out ok a =
    a.distinct ∙ ap (map (output told_query)) (a.grouped ∙ matched IsStated (tells d y) (asked d y) told_terms (told_each d y) (db 4) (all_of IsStated (db 4) ok)) ∙ told_shown d y (filter (tells d y) (db 4))

told_left : (db : Trees) (d y : ℕ) (out : List Row) → AreRows IsStated (db 4) → IsAnswer told_query (overlay db []) (asked d y) out → without_all (db 4) (ids_of out) ≡ filter (λ r. not (tells d y r)) (db 4)
told_left db d y out ok a =
    ap (λ rows. without_all (db 4) (ids_of rows)) a.shown ∙ left_over IsStated stated_ids (tells d y) (db 4) a.ordered ok (subst (λ k. IsPermutation k a.ordered) (told_kept db d y out ok a) a.same)

pub unsays : (w : Layout) (old new : State) (d y count : ℕ) → old.now.schema ≡ schema_in w → AreReadable (ours w old.now.trees) → Executes told_text (asked d y) old new (Ok count) → Becomes w new.now (without_statements d y (held_of (ours w old.now.trees)))
unfolding ours
unsays w old new d y count has ok h =
    let db = old.now.trees in
    let all = ours w db in
    let params = asked d y in
    let table = stated_table (tree_in w Stated) in
    let command = told_command w in
    let means = told_meant w in
    let run = runs_as told_text params old new (schema_in w) has command means.command_is means.plain count h in
    let text = statement_of told_text (understood (schema_in w) told_text) in
    let task : Task = record { limit = old.step_limit; keys = Enforced; schema = schema_in w; table = table; params = params } in
    let done = made task (mode_of old) command db run.tally new.now (at_found task (mode_of old) command db _ (run.tally, new.now) (stated_placed w) (subst (λ s. Does old.step_limit (mode_of old) params (record old.now { schema = s }) text None command (Ok (run.tally, new.now))) has run.changed)) in
    let it = went done.wrote in
    let step = went it.2 in
    let trees : new.now.trees ≡ step.0 = ap (λ (d : Database). d.trees) done.after_is ∙ ap (λ (x : Written). x.trees) (same_value step.2) in
    let one = one_step (schema_in w) Enforced db step.0 (edit_of db table (ids_of it.0) Given 0 []) (no_works w Stated refl Enforced db (edit_of db table (ids_of it.0) Given 0 []) refl) step.1 in
    let kept = each (λ tree. tree ≢ tree_in w Stated → step.0 tree ≡ db tree) w one.tables in
    let at : (k : ℕ) → new.now.trees k ≡ step.0 k = λ k. ap (λ (t : Trees). t k) trees in
    let answer : IsAnswer told_query (overlay all []) params it.0 = at_stated w told_query db params it.0 (it.1.answer Null) in
    let statements : ours w new.now.trees 4 ≡ filter (λ r. not (tells d y r)) (all 4) = at (tree_in w Stated) ∙ one.rows ∙ told_left all d y it.0 ok.statements answer in
    let lanes : ours w new.now.trees 1 ≡ all 1 = at (tree_in w Device) ∙ kept Device refl (apart w Device Stated refl refl refl) in
    let taps : ours w new.now.trees 7 ≡ all 7 = at (tree_in w Routed) ∙ kept Routed refl (apart w Routed Stated refl refl refl) in
    let retired : ours w new.now.trees 6 ≡ all 6 = at (tree_in w Retired) ∙ kept Retired refl (apart w Retired Stated refl refl refl) in
    let since : ours w new.now.trees 9 ≡ all 9 = at (tree_in w Since) ∙ kept Since refl (apart w Since Stated refl refl refl) in
    let meta : ours w new.now.trees 0 ≡ all 0 = at (tree_in w Meta) ∙ kept Meta refl (apart w Meta Stated refl refl refl) in
    let unused : ours w new.now.trees 2 ≡ all 2 = at (tree_in w Tap) ∙ kept Tap refl (apart w Tap Stated refl refl refl) in
    record {
      schema = ap (λ (d : Database). d.schema) done.after_is;
      database = run.sound;
      readable = record {
        lanes = subst (AreRows IsLane) (sym lanes) ok.lanes;
        taps = subst (AreRows IsTap) (sym taps) ok.taps;
        statements = subst (AreRows IsStated) (sym statements) (rows_filter IsStated stated_ids _ (all 4) ok.statements);
        retired = subst (AreRows IsRetired) (sym retired) ok.retired;
        since = subst (AreRows IsSince) (sym since) ok.since;
      };
      value = λ i. record {
        lanes = λ x. lane_of (held (lanes i) x);
        taps = map tap_of (taps i);
        statements = (ap (map stated_of) statements ∙ sym (filter_of_map stated_of (λ s. not (is_told d y s)) (all 4))) i;
        retired = λ x. is_some (held (retired i) x);
        since = λ x. since_of (held (since i) x);
        meta = meta i;
        unused = unused i;
      };
    }
