-- What the removal of a lane's rows leaves.
use Rattle.std.proofs.Common.{◌≡◌, ◌≢◌, ℕ, ◌==◌, nat_le, not, List, [], ◌∷◌, map, filter, length, Bool, None, Ok, refl, sym, ap, subst, ◌∙◌}
use Rattle.std.specs.Prelude.{unwrap_or}
use Rattle.std.specs.List.Sorted.{IsPermutation}
use Rattle.std.proofs.lemmas.List.{length-map}
use Rattle.std.proofs.lemmas.List.Sorted.{length_permutation}
use Rattle.sqlite.specs.declared.types.Value.TheVariants.{Null}
use Rattle.sqlite_value.specs.Order.{Row}
use Rattle.sqlite.specs.Tree.{Trees}
use Rattle.sqlite_rules.specs.Edit.{without_all}
use Rattle.sqlite_rules.specs.Calls.{ids_of}
use Rattle.sqlite.specs.Query.{IsAnswer, matches_as, end, output, Output}
use Rattle.sqlite.specs.Program.{overlay}
use Rattle.sqlite.specs.Edit.{edit_of}
use Rattle.sqlite.specs.Rowids.TheVariants.{Given}
use Rattle.sqlite.specs.Does.{Does}
use Rattle.sqlite.specs.Rows.{Written, Task}
use Rattle.sqlite_schema.specs.declared.schema.Keys.TheVariants.{Enforced}
use Rattle.sqlite.specs.Listing.{understood}
use Rattle.sqlite.specs.Effect.{Database}
use Rattle.sqlite.specs.State.{State, mode_of, Executes}
use Rattle.sqlite.proofs.Callers.{statement_of, runs_as, one_step}
use Rattle.fare_record.specs.Values.{RecordValue}
use Rattle.fare_tables.specs.Cells.{int, id_of, AreRows, held}
use Rattle.fare_tables.proofs.Lists.{filter_of_map}
use Rattle.fare_tables.proofs.Rows.{all_of, rows_filter}
use Rattle.fare_tables.proofs.Removing.{id_shown, left_over}
use Rattle.fare_tables.proofs.Statements.{made, went, same_value}
use Rattle.fare_tables.proofs.Terms.{chosen, matched, eq_holds, le_holds, three_terms}
use Rattle.fare_opening.specs.Numbers.{Meta, Device, Tap, Stated}
use Rattle.fare_outbox_rows.specs.declared.layout.Layout.{Layout}
use Rattle.fare_outbox_rows.specs.Layouts.{schema_in, tree_in, ours}
use Rattle.fare_outbox_rows.specs.Statements.{Routed}
use Rattle.fare_outbox_rows.specs.Tables.{routed_table, cut_terms, cut_query}
use Rattle.fare_outbox_rows.specs.Held.{AreReadable, Becomes, IsDevice, IsTap, IsStated, upto_of, tap_cells, tap_of, stated_of, held_of, is_cut, without_lane}
use Rattle.fare_outbox_rows.proofs.Texts.{cut_text, cut_command, cut_meant}
use Rattle.fare_opening.proofs.Standing.{at_found}
use Rattle.fare_outbox_rows.proofs.Placed.{no_works, routed_placed, each, apart}
use Rattle.fare_outbox_rows.proofs.Found.{asked, at_tap}
use Rattle.fare_outbox_rows.proofs.Puts.{tap_ids}

abbrev goes : ℕ → ℕ → ℕ → Row → Bool
goes o d l r = is_cut o d l (tap_of r)

cut_cell : (id : ℕ) (t : RecordValue) (o d l : ℕ) → matches_as Null (λ _. []) cut_terms end (asked o d l ∷ (int id ∷ tap_cells t) ∷ []) ≡ chosen (is_cut o d l t) (asked o d l ∷ (int id ∷ tap_cells t) ∷ [])
cut_cell id t o d l = rw (eq_holds t.owner o, eq_holds t.device d, le_holds t.lane l) (three_terms (t.owner == o) (t.device == d) (nat_le t.lane l) (asked o d l ∷ (int id ∷ tap_cells t) ∷ []))

cut_each : (o d l : ℕ) (r : Row) → IsTap r → matches_as Null (λ _. []) cut_terms end (asked o d l ∷ r ∷ []) ≡ chosen (goes o d l r) (asked o d l ∷ r ∷ [])
cut_each o d l r ok = subst (λ x. matches_as Null (λ _. []) cut_terms end (asked o d l ∷ x ∷ []) ≡ chosen (goes o d l x) (asked o d l ∷ x ∷ [])) (sym ok) (cut_cell (id_of r) (tap_of r) o d l)

shown : (o d l : ℕ) (rows : List Row) → map (output cut_query) (map (λ r. asked o d l ∷ r ∷ []) rows) ≡ map id_shown rows
shown o d l [] = refl
shown o d l (r ∷ rows) = ap (λ more. id_shown r ∷ more) (shown o d l rows)

kept_of : (db : Trees) (o d l : ℕ) (out : List Row) → AreRows IsTap (db 7) → (a : IsAnswer cut_query (overlay db []) (asked o d l) out) → a.kept ≡ map id_shown (filter (goes o d l) (db 7))
kept_of db o d l out ok a =
    a.distinct ∙ ap (map (output cut_query)) (a.grouped ∙ matched IsTap (goes o d l) (asked o d l) cut_terms (cut_each o d l) (db 7) (all_of IsTap (db 7) ok)) ∙ shown o d l (filter (goes o d l) (db 7))

left : (db : Trees) (o d l : ℕ) (out : List Row) → AreRows IsTap (db 7) → IsAnswer cut_query (overlay db []) (asked o d l) out → without_all (db 7) (ids_of out) ≡ filter (λ r. not (goes o d l r)) (db 7)
left db o d l out ok a =
    ap (λ rows. without_all (db 7) (ids_of rows)) a.shown ∙ left_over IsTap tap_ids (goes o d l) (db 7) a.ordered ok (subst (λ k. IsPermutation k a.ordered) (kept_of db o d l out ok a) a.same)

answer_length : (db : Trees) (o d l : ℕ) (out : List Row) → AreRows IsTap (db 7) → IsAnswer cut_query (overlay db []) (asked o d l) out → length out ≡ length (filter (is_cut o d l) (map tap_of (db 7)))
answer_length db o d l out ok a =
    let same = length_permutation _ _ (subst (λ k. IsPermutation k a.ordered) (kept_of db o d l out ok a) a.same) in
    let rows : length out ≡ length a.ordered = ap length a.shown ∙ length-map a.ordered (λ (p : Output). p.1) in
    rows ∙ same ∙ length-map (filter (goes o d l) (db 7)) id_shown ∙ sym (ap length (filter_of_map tap_of (is_cut o d l) (db 7)) ∙ length-map (filter (goes o d l) (db 7)) tap_of)

pub record IsCut (w : Layout) (old new : Database) (o d l count : ℕ) : Type 0 where
  pub becomes : Becomes w new (without_lane o d l (held_of (ours w old.trees)))
  pub counted : count ≡ length (filter (is_cut o d l) (held_of (ours w old.trees)).taps)

pub cuts : (w : Layout) (old new : State) (o d l count : ℕ) → old.now.schema ≡ schema_in w → AreReadable (ours w old.now.trees) → Executes cut_text (asked o d l) old new (Ok count) → IsCut w old.now new.now o d l count
unfolding ours
cuts w old new o d l count has ok h =
    let db = old.now.trees in
    let all = ours w db in
    let params = asked o d l in
    let table = routed_table (tree_in w Routed) in
    let command = cut_command w in
    let means = cut_meant w in
    let run = runs_as cut_text params old new (schema_in w) has command means.command_is means.plain count h in
    let text = statement_of cut_text (understood (schema_in w) cut_text) in
    let task : Task = record { limit = old.step_limit; keys = Enforced; schema = schema_in w; table = table; params = params } in
    let done = made task (mode_of old) command db run.tally new.now (at_found task (mode_of old) command db _ (run.tally, new.now) (routed_placed w) (subst (λ s. Does old.step_limit (mode_of old) params (record old.now { schema = s }) text None command (Ok (run.tally, new.now))) has run.changed)) in
    let it = went done.wrote in
    let step = went it.2 in
    let trees : new.now.trees ≡ step.0 = ap (λ (d : Database). d.trees) done.after_is ∙ ap (λ (x : Written). x.trees) (same_value step.2) in
    let one = one_step (schema_in w) Enforced db step.0 (edit_of db table (ids_of it.0) Given 0 []) (no_works w Routed refl Enforced db (edit_of db table (ids_of it.0) Given 0 []) refl) step.1 in
    let kept = each (λ tree. tree ≢ tree_in w Routed → step.0 tree ≡ db tree) w one.tables in
    let at : (k : ℕ) → new.now.trees k ≡ step.0 k = λ k. ap (λ (t : Trees). t k) trees in
    let answer : IsAnswer cut_query (overlay all []) params it.0 = at_tap w cut_query db params it.0 (it.1.answer Null) in
    let taps : ours w new.now.trees 7 ≡ filter (λ r. not (goes o d l r)) (all 7) = at (tree_in w Routed) ∙ one.rows ∙ left all o d l it.0 ok.taps answer in
    let devices : ours w new.now.trees 1 ≡ all 1 = at (tree_in w Device) ∙ kept Device refl (apart w Device Routed refl refl refl) in
    let statements : ours w new.now.trees 5 ≡ all 5 = at (tree_in w Stated) ∙ kept Stated refl (apart w Stated Routed refl refl refl) in
    let gone : length done.written.rows ≡ length it.0 = ap (λ (x : Written). length x.rows) (same_value step.2) ∙ length-map (ids_of it.0) _ ∙ length-map it.0 _ in
    record {
      becomes = record {
        schema = ap (λ (d : Database). d.schema) done.after_is;
        database = run.sound;
        readable = record {
          devices = subst (AreRows IsDevice) (sym devices) ok.devices;
          taps = subst (AreRows IsTap) (sym taps) (rows_filter IsTap tap_ids _ (all 7) ok.taps);
          statements = subst (AreRows IsStated) (sym statements) ok.statements;
        };
        value = λ i. record {
          upto = λ x. upto_of (held (devices i) x);
          taps = (ap (map tap_of) taps ∙ sym (filter_of_map tap_of (λ t. not (is_cut o d l t)) (all 7))) i;
          statements = map stated_of (statements i);
          meta = (at (tree_in w Meta) ∙ kept Meta refl (apart w Meta Routed refl refl refl)) i;
          unused = (at (tree_in w Tap) ∙ kept Tap refl (apart w Tap Routed refl refl refl)) i;
        };
      };
      counted = run.counted ∙ ap (λ n. unwrap_or n 0) done.told ∙ gone ∙ answer_length all o d l it.0 ok.taps answer;
    }
