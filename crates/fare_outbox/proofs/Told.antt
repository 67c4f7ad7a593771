-- What the removal of an owner's statements of a device, before a day, leaves.
use Rattle.std.proofs.Common.{◌≡◌, ◌≢◌, ℕ, ◌==◌, nat_lt, not, List, [], ◌∷◌, map, filter, length, Bool, true, false, Some, None, Ok, refl, sym, ap, subst, ◌∙◌, pos, arith}
use Rattle.std.specs.Prelude.{unwrap_or}
use Rattle.std.specs.Ordering.{is_lt, int_cmp}
use Rattle.std.specs.List.Sorted.{IsPermutation}
use Rattle.std.proofs.lemmas.Bool.Decides.{nat_tests}
use Rattle.std.proofs.lemmas.List.{length-map}
use Rattle.std.proofs.lemmas.List.Sorted.{length_permutation}
use Rattle.sqlite.specs.declared.types.Value.TheVariants.{Null}
use Rattle.sqlite_value.specs.Order.{Row}
use Rattle.sqlite_value.proofs.OrderLemmas.{value_cmp-Int}
use Rattle.sqlite.specs.Ops.{binary, is_true, from_truth}
use Rattle.sqlite.specs.Collation.TheVariants.{Binary}
use Rattle.sqlite_sql.specs.declared.ops.BinaryOp.TheVariants as by
use Rattle.sqlite_sql.specs.declared.ops.CompareOp.TheVariants as cmp
use Rattle.sqlite.specs.Tree.{Trees}
use Rattle.sqlite_rules.specs.Edit.{without_all}
use Rattle.sqlite_rules.specs.Calls.{ids_of}
use Rattle.sqlite.specs.Query.{IsAnswer, matches_as, end, output, Output}
use Rattle.sqlite.specs.Program.{overlay}
use Rattle.sqlite.specs.Edit.{edit_of}
use Rattle.sqlite.specs.Rowids.TheVariants.{Given}
use Rattle.sqlite.specs.Does.{Does}
use Rattle.sqlite.specs.Rows.{Written, Task}
use Rattle.sqlite_schema.specs.declared.schema.Keys.TheVariants.{Enforced}
use Rattle.sqlite.specs.Listing.{understood}
use Rattle.sqlite.specs.Effect.{Database}
use Rattle.sqlite.specs.State.{State, mode_of, Executes}
use Rattle.sqlite.proofs.Callers.{statement_of, runs_as, one_step}
use Rattle.fare_record.specs.Values.{StatementValue}
use Rattle.fare_tables.specs.Cells.{int, id_of, AreRows, held}
use Rattle.fare_tables.proofs.Lists.{filter_of_map}
use Rattle.fare_tables.proofs.Rows.{all_of, rows_filter}
use Rattle.fare_tables.proofs.Removing.{id_shown, left_over}
use Rattle.fare_tables.proofs.Statements.{made, went, same_value}
use Rattle.fare_tables.proofs.Terms.{chosen, matched, eq_holds, three_terms}
use Rattle.fare_opening.specs.Numbers.{Meta, Device, Tap, Stated}
use Rattle.fare_opening.proofs.Standing.{at_found}
use Rattle.fare_outbox_rows.specs.declared.layout.Layout.{Layout}
use Rattle.fare_outbox_rows.specs.Layouts.{schema_in, tree_in, ours}
use Rattle.fare_outbox_rows.specs.Statements.{Routed}
use Rattle.fare_outbox_rows.specs.Tables.{stated_table, told_terms, told_query}
use Rattle.fare_outbox_rows.specs.Held.{AreReadable, Becomes, IsDevice, IsTap, IsStated, upto_of, tap_of, stated_cells, stated_of, held_of, is_told, without_told}
use Rattle.fare_outbox_rows.proofs.Texts.{told_text, told_command, told_meant}
use Rattle.fare_outbox_rows.proofs.Placed.{no_works, stated_placed, each, apart}
use Rattle.fare_outbox_rows.proofs.Found.{asked, at_stated}
use Rattle.fare_outbox_rows.proofs.Puts.{stated_ids}

pos_lt : (a b : ℕ) → is_lt (int_cmp (pos a) (pos b)) ≡ nat_lt a b
pos_lt a b = grind (arith, nat_tests)

truth_of : (b : Bool) → is_true (from_truth (Some b)) ≡ b
truth_of true = refl
truth_of false = refl

lt_holds : (a b : ℕ) → is_true (binary (by.Compare cmp.Lt Binary) (int a) (int b)) ≡ nat_lt a b
unfolding binary
lt_holds a b = rw (value_cmp-Int (pos a) (pos b)) (truth_of (is_lt (int_cmp (pos a) (pos b))) ∙ pos_lt a b)

abbrev tells : ℕ → ℕ → ℕ → Row → Bool
tells o d y r = is_told o d y (stated_of r)

told_cell : (id : ℕ) (s : StatementValue) (o d y : ℕ) → matches_as Null (λ _. []) told_terms end (asked o d y ∷ (int id ∷ stated_cells s) ∷ []) ≡ chosen (is_told o d y s) (asked o d y ∷ (int id ∷ stated_cells s) ∷ [])
told_cell id s o d y = rw (eq_holds s.owner o, eq_holds s.device d, lt_holds s.day y) (three_terms (s.owner == o) (s.device == d) (nat_lt s.day y) (asked o d y ∷ (int id ∷ stated_cells s) ∷ []))

told_each : (o d y : ℕ) (r : Row) → IsStated r → matches_as Null (λ _. []) told_terms end (asked o d y ∷ r ∷ []) ≡ chosen (tells o d y r) (asked o d y ∷ r ∷ [])
told_each o d y r ok = subst (λ x. matches_as Null (λ _. []) told_terms end (asked o d y ∷ x ∷ []) ≡ chosen (tells o d y x) (asked o d y ∷ x ∷ [])) (sym ok) (told_cell (id_of r) (stated_of r) o d y)

shown : (o d y : ℕ) (rows : List Row) → map (output told_query) (map (λ r. asked o d y ∷ r ∷ []) rows) ≡ map id_shown rows
shown o d y [] = refl
shown o d y (r ∷ rows) = ap (λ more. id_shown r ∷ more) (shown o d y rows)

kept_of : (db : Trees) (o d y : ℕ) (out : List Row) → AreRows IsStated (db 5) → (a : IsAnswer told_query (overlay db []) (asked o d y) out) → a.kept ≡ map id_shown (filter (tells o d y) (db 5))
kept_of db o d y out ok a =
    a.distinct ∙ ap (map (output told_query)) (a.grouped ∙ matched IsStated (tells o d y) (asked o d y) told_terms (told_each o d y) (db 5) (all_of IsStated (db 5) ok)) ∙ shown o d y (filter (tells o d y) (db 5))

left : (db : Trees) (o d y : ℕ) (out : List Row) → AreRows IsStated (db 5) → IsAnswer told_query (overlay db []) (asked o d y) out → without_all (db 5) (ids_of out) ≡ filter (λ r. not (tells o d y r)) (db 5)
left db o d y out ok a =
    ap (λ rows. without_all (db 5) (ids_of rows)) a.shown ∙ left_over IsStated stated_ids (tells o d y) (db 5) a.ordered ok (subst (λ k. IsPermutation k a.ordered) (kept_of db o d y out ok a) a.same)

answer_length : (db : Trees) (o d y : ℕ) (out : List Row) → AreRows IsStated (db 5) → IsAnswer told_query (overlay db []) (asked o d y) out → length out ≡ length (filter (is_told o d y) (map stated_of (db 5)))
answer_length db o d y out ok a =
    let same = length_permutation _ _ (subst (λ k. IsPermutation k a.ordered) (kept_of db o d y out ok a) a.same) in
    let rows : length out ≡ length a.ordered = ap length a.shown ∙ length-map a.ordered (λ (p : Output). p.1) in
    rows ∙ same ∙ length-map (filter (tells o d y) (db 5)) id_shown ∙ sym (ap length (filter_of_map stated_of (is_told o d y) (db 5)) ∙ length-map (filter (tells o d y) (db 5)) stated_of)

pub record IsUntold (w : Layout) (old new : Database) (o d y count : ℕ) : Type 0 where
  pub becomes : Becomes w new (without_told o d y (held_of (ours w old.trees)))
  pub counted : count ≡ length (filter (is_told o d y) (held_of (ours w old.trees)).statements)

pub unsays : (w : Layout) (old new : State) (o d y count : ℕ) → old.now.schema ≡ schema_in w → AreReadable (ours w old.now.trees) → Executes told_text (asked o d y) old new (Ok count) → IsUntold w old.now new.now o d y count
unfolding ours
unsays w old new o d y count has ok h =
    let db = old.now.trees in
    let all = ours w db in
    let params = asked o d y in
    let table = stated_table (tree_in w Stated) in
    let command = told_command w in
    let means = told_meant w in
    let run = runs_as told_text params old new (schema_in w) has command means.command_is means.plain count h in
    let text = statement_of told_text (understood (schema_in w) told_text) in
    let task : Task = record { limit = old.step_limit; keys = Enforced; schema = schema_in w; table = table; params = params } in
    let done = made task (mode_of old) command db run.tally new.now (at_found task (mode_of old) command db _ (run.tally, new.now) (stated_placed w) (subst (λ s. Does old.step_limit (mode_of old) params (record old.now { schema = s }) text None command (Ok (run.tally, new.now))) has run.changed)) in
    let it = went done.wrote in
    let step = went it.2 in
    let trees : new.now.trees ≡ step.0 = ap (λ (d : Database). d.trees) done.after_is ∙ ap (λ (x : Written). x.trees) (same_value step.2) in
    let one = one_step (schema_in w) Enforced db step.0 (edit_of db table (ids_of it.0) Given 0 []) (no_works w Stated refl Enforced db (edit_of db table (ids_of it.0) Given 0 []) refl) step.1 in
    let kept = each (λ tree. tree ≢ tree_in w Stated → step.0 tree ≡ db tree) w one.tables in
    let at : (k : ℕ) → new.now.trees k ≡ step.0 k = λ k. ap (λ (t : Trees). t k) trees in
    let answer : IsAnswer told_query (overlay all []) params it.0 = at_stated w told_query db params it.0 (it.1.answer Null) in
    let statements : ours w new.now.trees 5 ≡ filter (λ r. not (tells o d y r)) (all 5) = at (tree_in w Stated) ∙ one.rows ∙ left all o d y it.0 ok.statements answer in
    let devices : ours w new.now.trees 1 ≡ all 1 = at (tree_in w Device) ∙ kept Device refl (apart w Device Stated refl refl refl) in
    let taps : ours w new.now.trees 7 ≡ all 7 = at (tree_in w Routed) ∙ kept Routed refl (apart w Routed Stated refl refl refl) in
    let gone : length done.written.rows ≡ length it.0 = ap (λ (x : Written). length x.rows) (same_value step.2) ∙ length-map (ids_of it.0) _ ∙ length-map it.0 _ in
    record {
      becomes = record {
        schema = ap (λ (d : Database). d.schema) done.after_is;
        database = run.sound;
        readable = record {
          devices = subst (AreRows IsDevice) (sym devices) ok.devices;
          taps = subst (AreRows IsTap) (sym taps) ok.taps;
          statements = subst (AreRows IsStated) (sym statements) (rows_filter IsStated stated_ids _ (all 5) ok.statements);
        };
        value = λ i. record {
          upto = λ x. upto_of (held (devices i) x);
          taps = map tap_of (taps i);
          statements = (ap (map stated_of) statements ∙ sym (filter_of_map stated_of (λ s. not (is_told o d y s)) (all 5))) i;
          meta = (at (tree_in w Meta) ∙ kept Meta refl (apart w Meta Stated refl refl refl)) i;
          unused = (at (tree_in w Tap) ∙ kept Tap refl (apart w Tap Stated refl refl refl)) i;
        };
      };
      counted = run.counted ∙ ap (λ n. unwrap_or n 0) done.told ∙ gone ∙ answer_length all o d y it.0 ok.statements answer;
    }
