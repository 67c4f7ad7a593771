-- What the upsert of the day from which on all of a device is held makes of the days.
use Rattle.std.proofs.Common.{◌≡◌, ◌≢◌, ◌⊎◌, inl, inr, ℕ, ◌==◌, ◌&&◌, ◌||◌, ℤ, pos, List, [], ◌∷◌, map, filter, Bool, true, false, Option, Some, None, Ok, refl, sym, ap, subst, ◌∙◌, arith}
use Rattle.std.specs.List.Sorted.{IsPermutation}
use Rattle.std.proofs.lemmas.Bool.Decides.{nat_tests}
use Rattle.sqlite.specs.declared.types.Value.TheVariants.{Null}
use Rattle.sqlite_value.specs.Order.{Row, column}
use Rattle.sqlite.specs.Query.{IsAnswer, matches_as, end, output, page, Output}
use Rattle.sqlite.specs.Program.{overlay}
use Rattle.sqlite.specs.Tree.{Trees, put_row, rowid, without_rowid}
use Rattle.sqlite_rules.specs.Lists.{Has}
use Rattle.sqlite_rules.specs.Keys.{AreConflicts, conflicts}
use Rattle.sqlite_rules.specs.declared.error.Refusal.{Refusal}
use Rattle.sqlite.specs.Edit.{edit_of, edited}
use Rattle.sqlite.specs.Rowids.TheVariants.{Given}
use Rattle.sqlite_rules.specs.Edit.{with_rowid}
use Rattle.sqlite.specs.Cast.{cast_row}
use Rattle.sqlite.specs.Rows.{nothing, rowids_for, count_of, InsertsOr, Written, Task, Tries, TriesEach, Updates, Puts, Clears, Upserts, Judged, Meets}
use Rattle.sqlite_schema.specs.declared.command.Conflict.TheVariants.{Abort}
use Rattle.sqlite_schema.specs.declared.command.Upsert.{Upsert}
use Rattle.sqlite_rules.specs.Calls.{ids_of}
use Rattle.sqlite.specs.Source.TheVariants.{Values}
use Rattle.sqlite.specs.Does.{Does}
use Rattle.sqlite.specs.Listing.{understood}
use Rattle.sqlite.specs.Effect.{Database}
use Rattle.sqlite.specs.State.{State, mode_of, Executes}
use Rattle.sqlite_schema.specs.declared.schema.Keys.TheVariants.{Enforced}
use Rattle.sqlite_value.specs.Keys.{first_key}
use Rattle.sqlite_schema.specs.declared.schema.Keys.{Keys}
use Rattle.sqlite.proofs.Callers.{statement_of, runs_as, one_step, one_permutation}
use Rattle.fare_tables.specs.Cells.{nat_in, int, id_of, AreRows}
use Rattle.fare_tables.proofs.Lists.{member}
use Rattle.fare_tables.proofs.Rows.{has_none, one_id, all_of, held_one}
use Rattle.fare_tables.proofs.Statements.{made, cast_int, cast_null, went, same_value}
use Rattle.fare_tables.proofs.Terms.{chosen, matched, eq_holds, one_term}
use Rattle.fare_opening.specs.Numbers.{Meta, Device, Tap, Stated}
use Rattle.fare_ledger.specs.declared.layout.Layout.{Layout}
use Rattle.fare_ledger.specs.Layouts.{schema_in, tree_in, ours, at_tree}
use Rattle.fare_ledger.specs.Statements.{Retired, Routed, Since}
use Rattle.fare_ledger.specs.Tables.{held_table, renew_since_query}
use Rattle.fare_ledger.specs.Held.{PutsSince, since_row, IsSince}
use Rattle.fare_ledger.proofs.Texts.{since_terms, put_since_text, put_since_command, put_since_meant}
use Rattle.fare_opening.proofs.Standing.{at_found}
use Rattle.fare_ledger.proofs.Placed.{no_works, since_shares, held_placed, each, apart}
use Rattle.fare_ledger.proofs.Found.{since_ids, at_since}

-- ---- the row that the update reads

-- what it is given: the parameters, the rowid that is taken, and the row that couldn't go in
abbrev pub given : ℕ → ℕ → Row
given d f = int d ∷ int f ∷ int d ∷ int d ∷ int d ∷ int f ∷ []

renew_cell : (a v d f : ℕ) → matches_as Null (λ _. []) renew_since_query.filter end (given d f ∷ since_row a v ∷ []) ≡ chosen (a == d) (given d f ∷ since_row a v ∷ [])
renew_cell a v d f = rw (eq_holds a d) (one_term (a == d) (given d f ∷ since_row a v ∷ []))

renew_each : (d f : ℕ) (r : Row) → IsSince r → matches_as Null (λ _. []) renew_since_query.filter end (given d f ∷ r ∷ []) ≡ chosen (id_of r == d) (given d f ∷ r ∷ [])
renew_each d f r ok = subst (λ x. matches_as Null (λ _. []) renew_since_query.filter end (given d f ∷ x ∷ []) ≡ chosen (id_of x == d) (given d f ∷ x ∷ [])) (sym ok) (renew_cell (id_of r) (nat_in (column r 2)) d f)

-- the one row that takes the place of the device's own, with its old rowid first
renews : (db : Trees) (d f : ℕ) (x : Row) (rows : List Row) → AreRows IsSince (db 9) → Has (db 9) x → id_of x ≡ d → IsAnswer renew_since_query (overlay db []) (given d f) rows → rows ≡ (int d ∷ int d ∷ Null ∷ int f ∷ []) ∷ []
renews db d f x rows ok has is a =
    let staged : a.staged ≡ map (λ r. given d f ∷ r ∷ []) (filter (λ r. id_of r == d) (db 9)) = a.grouped ∙ matched IsSince (λ r. id_of r == d) (given d f) renew_since_query.filter (renew_each d f) (db 9) (all_of IsSince (db 9) ok) in
    elim (held_one IsSince since_ids (db 9) d ok) [
      | inl none ↦ absurd (has_none (db 9) x d has is none.0)
      | inr one ↦ (
          let o : Output = ([], column one.0 0 ∷ column one.0 0 ∷ Null ∷ int f ∷ []) in
          let kept : a.kept ≡ o ∷ [] = a.distinct ∙ ap (map (output renew_since_query)) (staged ∙ ap (map (λ r. given d f ∷ r ∷ [])) one.2) in
          let ordered : a.ordered ≡ o ∷ [] = one_permutation o a.ordered (subst (λ k. IsPermutation k a.ordered) kept a.same) in
          let id : column one.0 0 ≡ int d = since_ids one.0 one.1 ∙ ap int (one_id (db 9) one.0 d one.2) in
          a.shown ∙ ap (λ xs. page renew_since_query (given d f) (map (λ (p : Output). p.1) xs)) ordered ∙ ap (λ v. (v ∷ v ∷ Null ∷ int f ∷ []) ∷ []) id)
    ]

-- ---- the conflict

conflict_of : (way : Layout) (a v d f : ℕ) → conflicts (Some (0 ∷ [])) (schema_in way).indexes (held_table (tree_in way Since)) (since_row d f) (since_row a v) ≡ (a == d)
unfolding first_key
conflict_of way a v d f = rw (since_shares way (since_row d f) (since_row a v), eq_holds a d) (go (a == d))
  where
    go : (b : Bool) → ((b && true) || false) ≡ b
    go true = refl
    go false = refl

conflict_id : (way : Layout) (r : Row) (d f : ℕ) → IsSince r → conflicts (Some (0 ∷ [])) (schema_in way).indexes (held_table (tree_in way Since)) (since_row d f) r ≡ true → id_of r ≡ d
conflict_id way r d f ok is =
    let same : (id_of r == d) ≡ true = sym (conflict_of way (id_of r) (nat_in (column r 2)) d f) ∙ subst (λ x. conflicts (Some (0 ∷ [])) (schema_in way).indexes (held_table (tree_in way Since)) (since_row d f) x ≡ true) ok is in
    grind (arith, nat_tests)

-- ---- the ways to put the row in

abbrev pub IsPut : Layout → Trees → Trees → ℕ → ℕ → Type 0
IsPut way db next d f =
    ((ours way next 9 ≡ put_row (since_row d f) (ours way db 9)) ⊎ (ours way next 9 ≡ put_row (since_row d f) (without_rowid (pos d) (ours way db 9)))) × (ours way next 0 ≡ ours way db 0) × (ours way next 1 ≡ ours way db 1) × (ours way next 2 ≡ ours way db 2) × (ours way next 4 ≡ ours way db 4) × (ours way next 6 ≡ ours way db 6) × (ours way next 7 ≡ ours way db 7)

module _ (way : Layout) (limit : Option ℕ) (keys : Keys) (d f : ℕ) where
  abbrev pub task : Task
  task = record { limit = limit; keys = keys; schema = schema_in way; table = held_table (tree_in way Since); params = int d ∷ int f ∷ [] }

  puts : (db : Trees) (w : Written) → Puts task (since_row d f) db (Ok w) → IsPut way db w.trees d f
  unfolding ours
  puts db w h =
      let it = went h in
      let edit = edit_of db (held_table (tree_in way Since)) [] Given 0 (since_row d f ∷ []) in
      let next : w.trees ≡ it.0 = ap (λ (x : Written). x.trees) (same_value it.2) in
      let step = one_step (schema_in way) keys db it.0 edit (no_works way Since refl keys db edit refl) it.1 in
      let kept = each (λ tree. tree ≢ tree_in way Since → it.0 tree ≡ db tree) way step.tables in
      let is : edited db edit ≡ put_row (since_row d f) (ours way db 9) = simp (cast_int, cast_null) in (
        inl (ap (λ (t : Trees). ours way t 9) next ∙ step.rows ∙ is),
        ap (λ (t : Trees). ours way t 0) next ∙ kept Meta refl (apart way Meta Since refl refl refl),
        ap (λ (t : Trees). ours way t 1) next ∙ kept Device refl (apart way Device Since refl refl refl),
        ap (λ (t : Trees). ours way t 2) next ∙ kept Tap refl (apart way Tap Since refl refl refl),
        ap (λ (t : Trees). ours way t 4) next ∙ kept Stated refl (apart way Stated Since refl refl refl),
        ap (λ (t : Trees). ours way t 6) next ∙ kept Retired refl (apart way Retired Since refl refl refl),
        ap (λ (t : Trees). ours way t 7) next ∙ kept Routed refl (apart way Routed Since refl refl refl),
      )

  clears : (db : Trees) (w : Written) (found : List Row) → Clears task Abort (since_row d f) db found (Ok w) → IsPut way db w.trees d f
  clears db w [] h = puts db w h
  clears db w (x ∷ more) h = puts db w h

  updates : (db : Trees) (w : Written) (x : Row) → AreRows IsSince (ours way db 9) → Has (ours way db 9) x → id_of x ≡ d → Updates task (record { lets = []; body = at_tree (tree_in way Since) renew_since_query }) (given d f) db (Ok w) → IsPut way db w.trees d f
  unfolding ours
  updates db w x ok has is h =
      let it = went h in
      let rows : it.0 ≡ (int d ∷ int d ∷ Null ∷ int f ∷ []) ∷ [] = renews (ours way db) d f x it.0 ok has is (at_since way renew_since_query db (given d f) it.0 (it.1.answer Null)) in
      let edit = edit_of db (held_table (tree_in way Since)) (ids_of it.0) Given 1 it.0 in
      let done = went it.2 in
      let next : w.trees ≡ done.0 = ap (λ (x : Written). x.trees) (same_value done.2) in
      let step = one_step (schema_in way) keys db done.0 edit (no_works way Since refl keys db edit refl) done.1 in
      let kept = each (λ tree. tree ≢ tree_in way Since → done.0 tree ≡ db tree) way step.tables in
      let is : edited db edit ≡ put_row (since_row d f) (without_rowid (pos d) (ours way db 9)) = ap (λ all. edited db (edit_of db (held_table (tree_in way Since)) (ids_of all) Given 1 all)) rows ∙ simp (cast_int, cast_null) in (
        inr (ap (λ (t : Trees). ours way t 9) next ∙ step.rows ∙ is),
        ap (λ (t : Trees). ours way t 0) next ∙ kept Meta refl (apart way Meta Since refl refl refl),
        ap (λ (t : Trees). ours way t 1) next ∙ kept Device refl (apart way Device Since refl refl refl),
        ap (λ (t : Trees). ours way t 2) next ∙ kept Tap refl (apart way Tap Since refl refl refl),
        ap (λ (t : Trees). ours way t 4) next ∙ kept Stated refl (apart way Stated Since refl refl refl),
        ap (λ (t : Trees). ours way t 6) next ∙ kept Retired refl (apart way Retired Since refl refl refl),
        ap (λ (t : Trees). ours way t 7) next ∙ kept Routed refl (apart way Routed Since refl refl refl),
      )

  abbrev clause : Upsert
  clause = record { target = Some (0 ∷ []); update = Some (record { lets = []; body = at_tree (tree_in way Since) renew_since_query }) }

  meets : (db : Trees) (w : Written) (found : List Row) → AreRows IsSince (ours way db 9) → AreConflicts (Some (0 ∷ [])) (schema_in way).indexes (held_table (tree_in way Since)) (ours way db 9) (since_row d f) found
      → Meets task (Upserts task Abort (since_row d f) db []) (since_row d f) db clause found (Ok w) → IsPut way db w.trees d f
  unfolding ours
  meets db w [] ok all h = clears db w h.0 h.2
  meets db w (there ∷ more) ok all h =
      let it = all.sound there (inl refl) in
      let id : id_of it.0 ≡ d = conflict_id way it.0 d f (member IsSince (ours way db 9) it.0 (all_of IsSince (ours way db 9) ok) it.1) it.2 in
      let at : rowid there ≡ int d = ap rowid it.3 ∙ ap rowid (member IsSince (ours way db 9) it.0 (all_of IsSince (ours way db 9) ok) it.1) ∙ ap int id in
      updates db w it.0 ok it.1 id (subst (λ v. Updates task (record { lets = []; body = at_tree (tree_in way Since) renew_since_query }) (int d ∷ int f ∷ v ∷ int d ∷ int d ∷ int f ∷ []) db (Ok w)) at h)

  upserts : (db : Trees) (w : Written) → AreRows IsSince (ours way db 9) → Upserts task Abort (since_row d f) db (clause ∷ []) (Ok w) → IsPut way db w.trees d f
  unfolding ours
  upserts db w ok h = meets db w h.0 ok h.1 h.2

  judged : (db : Trees) (w : Written) (verdict : Option Refusal) → AreRows IsSince (ours way db 9) → Judged task Abort (clause ∷ []) (since_row d f) db verdict (Ok w) → IsPut way db w.trees d f
  judged db w None ok h = upserts db w ok h
  judged db w (Some why) ok h = absurd (let e = h in cc)

  tries : (db : Trees) (w : Written) → AreRows IsSince (ours way db 9) → Tries task Abort (clause ∷ []) (since_row d f) db (Ok w) → IsPut way db w.trees d f
  tries db w ok (inl h) = absurd (let e = h.1 in cc)
  tries db w ok (inr h) = judged db w h.0 ok h.2

  new_given : (rows : List Row) (top : ℤ) → with_rowid (rowids_for (held_table (tree_in way Since)) top) rows (cast_row (held_table (tree_in way Since)) (since_row d f)) ≡ since_row d f
  new_given rows top = simp (cast_int, cast_null)

  tries_each : (db : Trees) (done : Written × ℤ) (top : ℤ) → AreRows IsSince (ours way db 9) → TriesEach task Abort (clause ∷ []) (since_row d f ∷ []) top (nothing db) (Ok done) → IsPut way db done.0.trees d f
  unfolding ours
  tries_each db done top ok h =
      let it = went h in
      let end : done.0.trees ≡ it.0.trees = ap (λ (x : Written × ℤ). x.0.trees) (same_value it.2) in
      let went_in = tries db it.0 ok (subst (λ new. Tries task Abort (clause ∷ []) new db (Ok it.0)) (new_given (ours way db 9) top) it.1) in
      subst (λ t. IsPut way db t d f) (sym end) went_in

  pub inserts_or : (db : Trees) (w : Written) → AreRows IsSince (ours way db 9) → InsertsOr task Abort (clause ∷ []) (Values since_terms 3) db (Ok w) → IsPut way db w.trees d f
  inserts_or db w ok h =
      let rows = went h in
      let counter = went rows.2 in
      let tried = went counter.2 in
      let counted = went tried.2 in
      let put = tries_each db tried.0 _ ok (subst (λ all. TriesEach task Abort (clause ∷ []) all (count_of counter.0) (nothing db) (Ok tried.0)) rows.1.1 tried.1) in
      let end : w.trees ≡ tried.0.0.trees = ap (λ (x : Written). x.trees) (same_value counted.2) ∙ same_value counted.1 in
      subst (λ t. IsPut way db t d f) (sym end) put

pub puts_since : (way : Layout) (old new : State) (d f : ℕ) (count : ℕ) → old.now.schema ≡ schema_in way → AreRows IsSince (ours way old.now.trees 9) → Executes put_since_text (int d ∷ int f ∷ []) old new (Ok count) → PutsSince way old.now new.now d f
puts_since way old new d f count has ok h =
    let params = int d ∷ int f ∷ [] in
    let command = put_since_command way in
    let means = put_since_meant way in
    let run = runs_as put_since_text params old new (schema_in way) has command means.command_is means.plain count h in
    let text = statement_of put_since_text (understood (schema_in way) put_since_text) in
    let done = made (task way old.step_limit Enforced d f) (mode_of old) command old.now.trees run.tally new.now (at_found (task way old.step_limit Enforced d f) (mode_of old) command old.now.trees _ (run.tally, new.now) (held_placed way) (subst (λ s. Does old.step_limit (mode_of old) params (record old.now { schema = s }) text None command (Ok (run.tally, new.now))) has run.changed)) in
    let put = inserts_or way old.step_limit Enforced d f old.now.trees done.written ok done.wrote in
    let trees = subst (λ t. IsPut way old.now.trees t d f) (sym (ap (λ (d : Database). d.trees) done.after_is)) put in
    record { schema = ap (λ (d : Database). d.schema) done.after_is; database = run.sound; lanes = trees.2; taps = trees.6; statements = trees.4; retired = trees.5; since = trees.0; meta = trees.1; unused = trees.3 }
