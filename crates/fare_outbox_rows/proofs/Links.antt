-- What the upsert of a device's greatest link makes of the devices.
use Rattle.std.proofs.Common.{◌≡◌, ◌≢◌, ◌⊎◌, inl, inr, ℕ, ◌==◌, ◌&&◌, ◌||◌, ℤ, pos, List, [], ◌∷◌, map, filter, Bool, true, false, Option, Some, None, Ok, refl, sym, ap, subst, ◌∙◌, arith}
use Rattle.std.specs.List.Sorted.{IsPermutation}
use Rattle.std.proofs.lemmas.Bool.Decides.{nat_tests}
use Rattle.sqlite.specs.declared.types.Value.TheVariants.{Null}
use Rattle.sqlite_value.specs.Order.{Row, column}
use Rattle.sqlite.specs.Term.{lit, col}
use Rattle.sqlite.specs.Query.{IsAnswer, matches_as, end, output, page, Output}
use Rattle.sqlite.specs.Program.{overlay}
use Rattle.sqlite.specs.Tree.{Trees, put_row, rowid, without_rowid}
use Rattle.sqlite_rules.specs.Lists.{Has}
use Rattle.sqlite_rules.specs.Keys.{AreConflicts, conflicts}
use Rattle.sqlite_rules.specs.declared.error.Refusal.{Refusal}
use Rattle.sqlite.specs.Edit.{edit_of, edited}
use Rattle.sqlite.specs.Rowids.TheVariants.{Given}
use Rattle.sqlite_rules.specs.Edit.{with_rowid}
use Rattle.sqlite.specs.Cast.{cast_row}
use Rattle.sqlite.specs.Rows.{nothing, rowids_for, count_of, InsertsOr, Written, Task, Tries, TriesEach, Updates, Puts, Clears, Upserts, Judged, Meets}
use Rattle.sqlite_schema.specs.declared.command.Conflict.TheVariants.{Abort}
use Rattle.sqlite_schema.specs.declared.command.Upsert.{Upsert}
use Rattle.sqlite_rules.specs.Calls.{ids_of}
use Rattle.sqlite.specs.Source.TheVariants.{Values}
use Rattle.sqlite.specs.Does.{Does}
use Rattle.sqlite.specs.Listing.{understood}
use Rattle.sqlite.specs.Effect.{Database}
use Rattle.sqlite.specs.State.{State, mode_of, Executes}
use Rattle.sqlite_schema.specs.declared.schema.Keys.TheVariants.{Enforced}
use Rattle.sqlite_value.specs.Keys.{first_key}
use Rattle.sqlite_schema.specs.declared.schema.Keys.{Keys}
use Rattle.sqlite.proofs.Callers.{statement_of, runs_as, one_step, one_permutation}
use Rattle.fare_tables.specs.Cells.{nat_in, int, id_of, AreRows}
use Rattle.fare_tables.proofs.Lists.{member}
use Rattle.fare_tables.proofs.Rows.{has_none, one_id, all_of, held_one}
use Rattle.fare_tables.proofs.Statements.{made, cast_int, cast_null, went, same_value}
use Rattle.fare_tables.proofs.Terms.{chosen, matched, eq_holds, one_term}
use Rattle.fare_opening.specs.Numbers.{Meta, Device, Tap, Stated}
use Rattle.fare_outbox_rows.specs.declared.layout.Layout.{Layout}
use Rattle.fare_outbox_rows.specs.Layouts.{schema_in, tree_in, ours}
use Rattle.fare_outbox_rows.specs.Layouts.{at_tree}
use Rattle.fare_outbox_rows.specs.Statements.{Routed}
use Rattle.fare_outbox_rows.specs.Tables.{device_table, renew_query}
use Rattle.fare_outbox_rows.specs.Held.{PutsLink, device_row, IsDevice}
use Rattle.fare_outbox_rows.proofs.Texts.{put_link_text, put_link_command, put_link_meant}
use Rattle.fare_opening.proofs.Standing.{at_found}
use Rattle.fare_outbox_rows.proofs.Placed.{no_works, no_shares, device_placed, each, apart}
use Rattle.fare_outbox_rows.proofs.Found.{device_ids, at_device}

-- ---- the row that the update reads

-- what it is given: the parameters, the rowid that is taken, and the row that couldn't go in
abbrev pub given : ℕ → ℕ → Row
given d u = int d ∷ int u ∷ int d ∷ int d ∷ int d ∷ int u ∷ []

renew_cell : (a v d u : ℕ) → matches_as Null (λ _. []) renew_query.filter end (given d u ∷ device_row a v ∷ []) ≡ chosen (a == d) (given d u ∷ device_row a v ∷ [])
renew_cell a v d u = rw (eq_holds a d) (one_term (a == d) (given d u ∷ device_row a v ∷ []))

renew_each : (d u : ℕ) (r : Row) → IsDevice r → matches_as Null (λ _. []) renew_query.filter end (given d u ∷ r ∷ []) ≡ chosen (id_of r == d) (given d u ∷ r ∷ [])
renew_each d u r ok = subst (λ x. matches_as Null (λ _. []) renew_query.filter end (given d u ∷ x ∷ []) ≡ chosen (id_of x == d) (given d u ∷ x ∷ [])) (sym ok) (renew_cell (id_of r) (nat_in (column r 2)) d u)

-- the one row that takes the place of the device's own, with its old rowid first
renews : (db : Trees) (d u : ℕ) (x : Row) (rows : List Row) → AreRows IsDevice (db 1) → Has (db 1) x → id_of x ≡ d → IsAnswer renew_query (overlay db []) (given d u) rows → rows ≡ (int d ∷ int d ∷ Null ∷ int u ∷ []) ∷ []
renews db d u x rows ok has is a =
    let staged : a.staged ≡ map (λ r. given d u ∷ r ∷ []) (filter (λ r. id_of r == d) (db 1)) = a.grouped ∙ matched IsDevice (λ r. id_of r == d) (given d u) renew_query.filter (renew_each d u) (db 1) (all_of IsDevice (db 1) ok) in
    elim (held_one IsDevice device_ids (db 1) d ok) [
      | inl none ↦ absurd (has_none (db 1) x d has is none.0)
      | inr one ↦ (
          let o : Output = ([], column one.0 0 ∷ column one.0 0 ∷ Null ∷ int u ∷ []) in
          let kept : a.kept ≡ o ∷ [] = a.distinct ∙ ap (map (output renew_query)) (staged ∙ ap (map (λ r. given d u ∷ r ∷ [])) one.2) in
          let ordered : a.ordered ≡ o ∷ [] = one_permutation o a.ordered (subst (λ k. IsPermutation k a.ordered) kept a.same) in
          let id : column one.0 0 ≡ int d = device_ids one.0 one.1 ∙ ap int (one_id (db 1) one.0 d one.2) in
          a.shown ∙ ap (λ xs. page renew_query (given d u) (map (λ (p : Output). p.1) xs)) ordered ∙ ap (λ v. (v ∷ v ∷ Null ∷ int u ∷ []) ∷ []) id)
    ]

-- ---- the conflict

conflict_of : (way : Layout) (a v d u : ℕ) → conflicts (Some (0 ∷ [])) (schema_in way).indexes (device_table (tree_in way Device)) (device_row d u) (device_row a v) ≡ (a == d)
unfolding first_key
conflict_of way a v d u = rw (no_shares way (device_row d u) (device_row a v), eq_holds a d) (go (a == d))
  where
    go : (b : Bool) → ((b && true) || false) ≡ b
    go true = refl
    go false = refl

conflict_id : (way : Layout) (r : Row) (d u : ℕ) → IsDevice r → conflicts (Some (0 ∷ [])) (schema_in way).indexes (device_table (tree_in way Device)) (device_row d u) r ≡ true → id_of r ≡ d
conflict_id way r d u ok is =
    let same : (id_of r == d) ≡ true = sym (conflict_of way (id_of r) (nat_in (column r 2)) d u) ∙ subst (λ x. conflicts (Some (0 ∷ [])) (schema_in way).indexes (device_table (tree_in way Device)) (device_row d u) x ≡ true) ok is in
    grind (arith, nat_tests)

-- ---- the ways to put the row in

abbrev pub IsPut : Layout → Trees → Trees → ℕ → ℕ → Type 0
IsPut way db next d u =
    ((ours way next 1 ≡ put_row (device_row d u) (ours way db 1)) ⊎ (ours way next 1 ≡ put_row (device_row d u) (without_rowid (pos d) (ours way db 1)))) × (ours way next 0 ≡ ours way db 0) × (ours way next 2 ≡ ours way db 2) × (ours way next 5 ≡ ours way db 5) × (ours way next 7 ≡ ours way db 7)

module _ (way : Layout) (limit : Option ℕ) (keys : Keys) (d u : ℕ) where
  abbrev pub task : Task
  task = record { limit = limit; keys = keys; schema = schema_in way; table = device_table (tree_in way Device); params = int d ∷ int u ∷ [] }

  puts : (db : Trees) (w : Written) → Puts task (device_row d u) db (Ok w) → IsPut way db w.trees d u
  unfolding ours
  puts db w h =
      let it = went h in
      let edit = edit_of db (device_table (tree_in way Device)) [] Given 0 (device_row d u ∷ []) in
      let next : w.trees ≡ it.0 = ap (λ (x : Written). x.trees) (same_value it.2) in
      let step = one_step (schema_in way) keys db it.0 edit (no_works way Device refl keys db edit refl) it.1 in
      let kept = each (λ tree. tree ≢ tree_in way Device → it.0 tree ≡ db tree) way step.tables in
      let is : edited db edit ≡ put_row (device_row d u) (ours way db 1) = simp (cast_int, cast_null) in (
        inl (ap (λ (t : Trees). ours way t 1) next ∙ step.rows ∙ is),
        ap (λ (t : Trees). ours way t 0) next ∙ kept Meta refl (apart way Meta Device refl refl refl),
        ap (λ (t : Trees). ours way t 2) next ∙ kept Tap refl (apart way Tap Device refl refl refl),
        ap (λ (t : Trees). ours way t 5) next ∙ kept Stated refl (apart way Stated Device refl refl refl),
        ap (λ (t : Trees). ours way t 7) next ∙ kept Routed refl (apart way Routed Device refl refl refl),
      )

  clears : (db : Trees) (w : Written) (found : List Row) → Clears task Abort (device_row d u) db found (Ok w) → IsPut way db w.trees d u
  clears db w [] h = puts db w h
  clears db w (x ∷ more) h = puts db w h

  updates : (db : Trees) (w : Written) (x : Row) → AreRows IsDevice (ours way db 1) → Has (ours way db 1) x → id_of x ≡ d → Updates task (record { lets = []; body = at_tree (tree_in way Device) renew_query }) (given d u) db (Ok w) → IsPut way db w.trees d u
  unfolding ours
  updates db w x ok has is h =
      let it = went h in
      let rows : it.0 ≡ (int d ∷ int d ∷ Null ∷ int u ∷ []) ∷ [] = renews (ours way db) d u x it.0 ok has is (at_device way renew_query db (given d u) it.0 (it.1.answer Null)) in
      let edit = edit_of db (device_table (tree_in way Device)) (ids_of it.0) Given 1 it.0 in
      let done = went it.2 in
      let next : w.trees ≡ done.0 = ap (λ (x : Written). x.trees) (same_value done.2) in
      let step = one_step (schema_in way) keys db done.0 edit (no_works way Device refl keys db edit refl) done.1 in
      let kept = each (λ tree. tree ≢ tree_in way Device → done.0 tree ≡ db tree) way step.tables in
      let is : edited db edit ≡ put_row (device_row d u) (without_rowid (pos d) (ours way db 1)) = ap (λ all. edited db (edit_of db (device_table (tree_in way Device)) (ids_of all) Given 1 all)) rows ∙ simp (cast_int, cast_null) in (
        inr (ap (λ (t : Trees). ours way t 1) next ∙ step.rows ∙ is),
        ap (λ (t : Trees). ours way t 0) next ∙ kept Meta refl (apart way Meta Device refl refl refl),
        ap (λ (t : Trees). ours way t 2) next ∙ kept Tap refl (apart way Tap Device refl refl refl),
        ap (λ (t : Trees). ours way t 5) next ∙ kept Stated refl (apart way Stated Device refl refl refl),
        ap (λ (t : Trees). ours way t 7) next ∙ kept Routed refl (apart way Routed Device refl refl refl),
      )

  abbrev clause : Upsert
  clause = record { target = Some (0 ∷ []); update = Some (record { lets = []; body = at_tree (tree_in way Device) renew_query }) }

  meets : (db : Trees) (w : Written) (found : List Row) → AreRows IsDevice (ours way db 1) → AreConflicts (Some (0 ∷ [])) (schema_in way).indexes (device_table (tree_in way Device)) (ours way db 1) (device_row d u) found
      → Meets task (Upserts task Abort (device_row d u) db []) (device_row d u) db clause found (Ok w) → IsPut way db w.trees d u
  unfolding ours
  meets db w [] ok all h = clears db w h.0 h.2
  meets db w (there ∷ more) ok all h =
      let it = all.sound there (inl refl) in
      let id : id_of it.0 ≡ d = conflict_id way it.0 d u (member IsDevice (ours way db 1) it.0 (all_of IsDevice (ours way db 1) ok) it.1) it.2 in
      let at : rowid there ≡ int d = ap rowid it.3 ∙ ap rowid (member IsDevice (ours way db 1) it.0 (all_of IsDevice (ours way db 1) ok) it.1) ∙ ap int id in
      updates db w it.0 ok it.1 id (subst (λ v. Updates task (record { lets = []; body = at_tree (tree_in way Device) renew_query }) (int d ∷ int u ∷ v ∷ int d ∷ int d ∷ int u ∷ []) db (Ok w)) at h)

  upserts : (db : Trees) (w : Written) → AreRows IsDevice (ours way db 1) → Upserts task Abort (device_row d u) db (clause ∷ []) (Ok w) → IsPut way db w.trees d u
  unfolding ours
  upserts db w ok h = meets db w h.0 ok h.1 h.2

  judged : (db : Trees) (w : Written) (verdict : Option Refusal) → AreRows IsDevice (ours way db 1) → Judged task Abort (clause ∷ []) (device_row d u) db verdict (Ok w) → IsPut way db w.trees d u
  judged db w None ok h = upserts db w ok h
  judged db w (Some why) ok h = absurd (let e = h in cc)

  tries : (db : Trees) (w : Written) → AreRows IsDevice (ours way db 1) → Tries task Abort (clause ∷ []) (device_row d u) db (Ok w) → IsPut way db w.trees d u
  tries db w ok (inl h) = absurd (let e = h.1 in cc)
  tries db w ok (inr h) = judged db w h.0 ok h.2

  new_given : (rows : List Row) (top : ℤ) → with_rowid (rowids_for (device_table (tree_in way Device)) top) rows (cast_row (device_table (tree_in way Device)) (device_row d u)) ≡ device_row d u
  new_given rows top = simp (cast_int, cast_null)

  tries_each : (db : Trees) (done : Written × ℤ) (top : ℤ) → AreRows IsDevice (ours way db 1) → TriesEach task Abort (clause ∷ []) (device_row d u ∷ []) top (nothing db) (Ok done) → IsPut way db done.0.trees d u
  unfolding ours
  tries_each db done top ok h =
      let it = went h in
      let end : done.0.trees ≡ it.0.trees = ap (λ (x : Written × ℤ). x.0.trees) (same_value it.2) in
      let went_in = tries db it.0 ok (subst (λ new. Tries task Abort (clause ∷ []) new db (Ok it.0)) (new_given (ours way db 1) top) it.1) in
      subst (λ t. IsPut way db t d u) (sym end) went_in

  pub inserts_or : (db : Trees) (w : Written) → AreRows IsDevice (ours way db 1) → InsertsOr task Abort (clause ∷ []) (Values (col 0 0 ∷ lit Null ∷ col 0 1 ∷ []) 3) db (Ok w) → IsPut way db w.trees d u
  inserts_or db w ok h =
      let rows = went h in
      let counter = went rows.2 in
      let tried = went counter.2 in
      let counted = went tried.2 in
      let put = tries_each db tried.0 _ ok (subst (λ all. TriesEach task Abort (clause ∷ []) all (count_of counter.0) (nothing db) (Ok tried.0)) rows.1.1 tried.1) in
      let end : w.trees ≡ tried.0.0.trees = ap (λ (x : Written). x.trees) (same_value counted.2) ∙ same_value counted.1 in
      subst (λ t. IsPut way db t d u) (sym end) put

pub puts_link : (way : Layout) (old new : State) (d u : ℕ) (count : ℕ) → old.now.schema ≡ schema_in way → AreRows IsDevice (ours way old.now.trees 1) → Executes put_link_text (int d ∷ int u ∷ []) old new (Ok count) → PutsLink way old.now new.now d u
puts_link way old new d u count has ok h =
    let params = int d ∷ int u ∷ [] in
    let command = put_link_command way in
    let means = put_link_meant way in
    let run = runs_as put_link_text params old new (schema_in way) has command means.command_is means.plain count h in
    let text = statement_of put_link_text (understood (schema_in way) put_link_text) in
    let done = made (task way old.step_limit Enforced d u) (mode_of old) command old.now.trees run.tally new.now (at_found (task way old.step_limit Enforced d u) (mode_of old) command old.now.trees _ (run.tally, new.now) (device_placed way) (subst (λ s. Does old.step_limit (mode_of old) params (record old.now { schema = s }) text None command (Ok (run.tally, new.now))) has run.changed)) in
    let put = inserts_or way old.step_limit Enforced d u old.now.trees done.written ok done.wrote in
    let trees = subst (λ t. IsPut way old.now.trees t d u) (sym (ap (λ (d : Database). d.trees) done.after_is)) put in
    record { schema = ap (λ (d : Database). d.schema) done.after_is; database = run.sound; devices = trees.0; taps = trees.4; statements = trees.3; meta = trees.1; unused = trees.2 }
