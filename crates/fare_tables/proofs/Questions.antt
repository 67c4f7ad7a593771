-- What a question answers, and that it changes nothing.
use Rattle.std.proofs.Common.{arith, IfOk, Option, ◌≡◌, inl, inr, ℕ, List, [], true, Some, None, Ok, Err, Result, IsTrue, sym, ap, subst, ◌∙◌}
use Rattle.std.specs.Prelude.{IfErr}
use Rattle.sqlite_value.specs.Order.{Row}
use Rattle.sqlite.specs.Tree.{Trees}
use Rattle.sqlite.specs.Effect.{Database, is_query, RefusesToRead}
use Rattle.sqlite.specs.Listing.{understood}
use Rattle.sqlite.specs.declared.error.Error.{Error}
use Rattle.sqlite.specs.declared.error.Error.TheVariants.{QueryReturnedNoRows}
use Rattle.sqlite_resolve.specs.declared.compiled.Compiled.{Compiled}
use Rattle.sqlite_schema.specs.declared.command.Returning.{Returning}
use Rattle.sqlite_schema.specs.declared.command.Command.{Command}
use Rattle.sqlite_schema.specs.declared.command.Command.TheVariants.{Select}
use Rattle.sqlite_trees.specs.declared.error.StoreError.{StoreError}
use Rattle.sqlite_trees.specs.declared.error.StoreError.TheVariants.{OutOfMemory, Io, Corrupt, Full, Broken, Unstorable}
use Rattle.sqlite.specs.State.{State, HasCleanDisk, ShowsRows, store_error, IsNoStatement, QueriesRow, Shown, Survives, CommitsShowing, IsNotRun, IsUnchanged, Fails, FailsToQuery, FailsToShow}
use Rattle.sqlite.proofs.StateLemmas.{survives_weaker, survives_then}
use Rattle.sqlite.proofs.Callers.{IsPlain, never_commits}
use Rattle.sqlite.specs.Schema.{Schema}
use Rattle.fare_tables.specs.Asking.{IsLive, IsAtRest, SameRows, Reads, is_select}

unchanged_keeps : (old new : State) → IsUnchanged old new → SameRows old new
unchanged_keeps old new h = (h.0.now_is, h.0.committed_is)

fails_keeps : (old new : State) (too_big : Type 0) (e : Error) → old.now ≡ old.committed → IsTrue new.is_open → Fails old new too_big e → SameRows old new
fails_keeps old new too_big e settled live h = let undone = h.3.undone live in (undone.0 ∙ sym settled, undone.1)

-- with no RETURNING a query that fails changes nothing
shows_keeps : (old new : State) (sql : List ℕ) (c : Compiled) (params : Row) (e : Error) (what : Option Returning) → what ≡ None → FailsToShow old new sql c params e what → IsUnchanged old new
shows_keeps old new sql c params e None none h = h.3
shows_keeps old new sql c params e (Some what) none h = absurd cc

shown_keeps : (old new : State) (sql : List ℕ) (c : Compiled) (params : Row) (rows : List Row) (what : Option Returning) → what ≡ None → ShowsRows old new sql c params rows what → IsUnchanged old new
shown_keeps old new sql c params rows None none h = h.3
shown_keeps old new sql c params rows (Some what) none h = absurd cc

no_returning : (sql : List ℕ) (old : State) (c : Compiled) → IsPlain (understood old.now.schema sql) → understood old.now.schema sql ≡ Ok c → c.returning ≡ None
no_returning sql old c plain is = (subst IsPlain is plain).0

shown_unchanged : (sql : List ℕ) (params : Row) (old new : State) (rows : List Row) → IsPlain (understood old.now.schema sql) → Shown sql params old new rows → IsUnchanged old new
unfolding Shown
shown_unchanged sql params old new rows plain h = shown_keeps old new sql h.0 _ rows h.0.returning (no_returning sql old h.0 plain h.1.is) h.2

pub reads_keep : (sql : List ℕ) (params : Row) (old new : State) (r : Result Row Error) → IsPlain (understood old.now.schema sql) → old.now ≡ old.committed → IsTrue new.is_open → QueriesRow sql params old new r
    → SameRows old new
unfolding QueriesRow FailsToQuery IsNotRun
reads_keep sql params old new (Ok row) plain settled live (inl h) = unchanged_keeps old new h.1
reads_keep sql params old new (Ok row) plain settled live (inr h) = unchanged_keeps old new (shown_unchanged sql params old new h.0 plain h.1)
reads_keep sql params old new (Err e) plain settled live (inl (inl (inl h))) = unchanged_keeps old new h.1
reads_keep sql params old new (Err e) plain settled live (inl (inl (inr h))) = fails_keeps old new ⊥ e settled live h
reads_keep sql params old new (Err e) plain settled live (inl (inr h)) = unchanged_keeps old new (shows_keeps old new sql h.0 _ e h.0.returning (no_returning sql old h.0 plain h.1.is) h.2)
reads_keep sql params old new (Err e) plain settled live (inr h) = unchanged_keeps old new (shown_unchanged sql params old new [] plain h.1)

-- where a query says that there is no row, the answer has none
not_run_named : (s : State) (sql : List ℕ) (params : Row) → ¬ IsNoStatement s sql params QueryReturnedNoRows
not_run_named s sql params (inl h) = absurd (let e = h.2 in cc)
not_run_named s sql params (inr (c, is, inl h)) = absurd (let e = h.1 in cc)
not_run_named s sql params (inr (c, is, inr (inl h))) = absurd (let e = h.1 in cc)
not_run_named s sql params (inr (c, is, inr (inr h))) = absurd (let e = h.1 in cc)

fault_named_so : (cause : StoreError) → ¬ (QueryReturnedNoRows ≡ store_error cause)
fault_named_so OutOfMemory e = absurd cc
fault_named_so Io e = absurd cc
fault_named_so Corrupt e = absurd cc
fault_named_so Full e = absurd cc
fault_named_so Broken e = absurd cc
fault_named_so Unstorable e = absurd cc

refusal_named : (limit : Option ℕ) (k : Command) (db : Database) (params : Row) → is_query k ≡ true → ¬ RefusesToRead limit k db params QueryReturnedNoRows
refusal_named limit (Select q names) db params query (inl h) = absurd (let e = h.0 in cc)
refusal_named limit (Select q names) db params query (inr (inl h)) = absurd (let e = h.0 in cc)
refusal_named limit (Select q names) db params query (inr (inr h)) = absurd (let e = h.0 in cc)
refusal_named limit _ db params query h = absurd cc

show_named : (old new : State) (sql : List ℕ) (c : Compiled) (params : Row) (what : Option Returning) → what ≡ None → is_query c.command ≡ true → ¬ FailsToShow old new sql c params QueryReturnedNoRows what
show_named old new sql c params None none query h = refusal_named old.step_limit c.command h.0 params query h.2
show_named old new sql c params (Some what) none query h = absurd cc

pub no_row : (sql : List ℕ) (params : Row) (old new : State) → IsPlain (understood old.now.schema sql) → is_select (understood old.now.schema sql) ≡ true
    → QueriesRow sql params old new (Err QueryReturnedNoRows) → Shown sql params old new []
unfolding QueriesRow FailsToQuery IsNotRun
no_row sql params old new plain query (inr h) = h.1
no_row sql params old new plain query (inl (inl (inl h))) = absurd (not_run_named old sql params h.0)
no_row sql params old new plain query (inl (inl (inr h))) = absurd (fault_named_so h.0 h.1)
no_row sql params old new plain query (inl (inr h)) = absurd (show_named old new sql h.0 _ h.0.returning (no_returning sql old h.0 plain h.1.is) (sym (ap is_select h.1.is) ∙ query) h.2)

fails_open : (old new : State) (sql : List ℕ) (c : Compiled) (params : Row) (e : Error) (what : Option Returning) → IsTrue new.is_open → FailsToShow old new sql c params e what → IsTrue old.is_open
fails_open old new sql c params e None live h = h.3.0.was_open
fails_open old new sql c params e (Some what) live (inl h) = h.1.0.was_open
fails_open old new sql c params e (Some what) live (inr h) = h.3.was_open live

shows_open : (old new : State) (sql : List ℕ) (c : Compiled) (params : Row) (rows : List Row) (what : Option Returning) → ShowsRows old new sql c params rows what → IsTrue old.is_open
shows_open old new sql c params rows None h = h.3.0.was_open
shows_open old new sql c params rows (Some what) h = h.1.shown.was_open

shown_open : (sql : List ℕ) (params : Row) (old new : State) (rows : List Row) → Shown sql params old new rows → IsTrue old.is_open
unfolding Shown
shown_open sql params old new rows h = shows_open old new sql h.0 _ rows h.0.returning h.2

reads_open : (sql : List ℕ) (params : Row) (old new : State) (r : Result Row Error) → IsTrue new.is_open → QueriesRow sql params old new r → IsTrue old.is_open
unfolding QueriesRow FailsToQuery IsNotRun
reads_open sql params old new (Ok row) live (inl h) = h.1.0.was_open
reads_open sql params old new (Ok row) live (inr h) = shown_open sql params old new h.0 h.1
reads_open sql params old new (Err e) live (inl (inl (inl h))) = h.1.0.was_open
reads_open sql params old new (Err e) live (inl (inl (inr h))) = h.3.was_open live
reads_open sql params old new (Err e) live (inl (inr h)) = fails_open old new sql h.0 _ e h.0.returning live h.2
reads_open sql params old new (Err e) live (inr h) = shown_open sql params old new [] h.1

shows_is_open : (old new : State) (sql : List ℕ) (c : Compiled) (params : Row) (rows : List Row) (what : Option Returning) → ShowsRows old new sql c params rows what → IsTrue new.is_open
shows_is_open old new sql c params rows None h = h.3.0.is_open
shows_is_open old new sql c params rows (Some what) h = h.1.shown.is_open

pub shown_is_open : (sql : List ℕ) (params : Row) (old new : State) (rows : List Row) → Shown sql params old new rows → IsTrue new.is_open
unfolding Shown
shown_is_open sql params old new rows h = shows_is_open old new sql h.0 _ rows h.0.returning h.2

pub row_is_open : (sql : List ℕ) (params : Row) (old new : State) (row : Row) → QueriesRow sql params old new (Ok row) → IsTrue new.is_open
unfolding QueriesRow
row_is_open sql params old new row (inl h) = h.1.0.is_open
row_is_open sql params old new row (inr h) = shown_is_open sql params old new h.0 h.1

shows_no_row : (old new : State) (sql : List ℕ) (c : Compiled) (params : Row) (what : Option Returning) → FailsToShow old new sql c params QueryReturnedNoRows what → IsTrue new.is_open
shows_no_row old new sql c params None h = h.3.0.is_open
shows_no_row old new sql c params (Some what) (inl h) = h.1.0.is_open
shows_no_row old new sql c params (Some what) (inr h) = absurd (fault_named_so h.0 h.1)

pub no_row_is_open : (sql : List ℕ) (params : Row) (old new : State) → QueriesRow sql params old new (Err QueryReturnedNoRows) → IsTrue new.is_open
unfolding QueriesRow FailsToQuery IsNotRun
no_row_is_open sql params old new (inr h) = shown_is_open sql params old new [] h.1
no_row_is_open sql params old new (inl (inl (inl h))) = h.1.0.is_open
no_row_is_open sql params old new (inl (inl (inr h))) = absurd (fault_named_so h.0 h.1)
no_row_is_open sql params old new (inl (inr h)) = shows_no_row old new sql h.0 _ h.0.returning h.2

-- ---- what a question leaves, of each kind

was_clean : (old new : State) (P : Trees → Type 0) → Survives old new P → HasCleanDisk new → HasCleanDisk old
was_clean old new P survives clean = let later = survives.clean in let now = clean in omega (arith, later, now)

pub asked_none : (sql : List ℕ) (params : Row) (old new : State) → Reads old.now.schema sql → QueriesRow sql params old new (Err QueryReturnedNoRows) → Shown sql params old new []
asked_none sql params old new reads h = no_row sql params old new reads.0 reads.1 h

pub asked_survives : (sql : List ℕ) (params : Row) (old new : State) → Survives old new (CommitsShowing sql params old) → Survives old new (λ _. ¬ Reads old.now.schema sql)
asked_survives sql params old new = survives_weaker old new _ _ (λ _ db commits reads. never_commits sql params old db reads.0 commits)

pub asked_live : (sql : List ℕ) (params : Row) (old new : State) (r : Result Row Error) → QueriesRow sql params old new r → Survives old new (CommitsShowing sql params old) → IsLive new → IsLive old
asked_live sql params old new r h survives live = (was_clean old new _ survives live.0, reads_open sql params old new r live.1 h)

pub all_same : (sql : List ℕ) (params : Row) (old new : State) (rows : List Row) → Reads old.now.schema sql → Shown sql params old new rows → SameRows old new
all_same sql params old new rows reads h = unchanged_keeps old new (shown_unchanged sql params old new rows reads.0 h)

pub fails_same : (sql : List ℕ) (params : Row) (old new : State) (e : Error) → Reads old.now.schema sql → old.now ≡ old.committed → IsTrue new.is_open → FailsToQuery sql params old new e → SameRows old new
unfolding QueriesRow
fails_same sql params old new e reads settled live h = reads_keep sql params old new (Err e) reads.0 settled live (inl h)

pub all_live : (sql : List ℕ) (params : Row) (old new : State) (rows : List Row) (P : Trees → Type 0) → Shown sql params old new rows → Survives old new P → IsLive new → IsLive old
all_live sql params old new rows P h survives live = (was_clean old new P survives live.0, shown_open sql params old new rows h)

pub fails_live : (sql : List ℕ) (params : Row) (old new : State) (e : Error) (P : Trees → Type 0) → FailsToQuery sql params old new e → Survives old new P → IsLive new → IsLive old
unfolding QueriesRow
fails_live sql params old new e P h survives live = (was_clean old new P survives live.0, reads_open sql params old new (Err e) live.1 (inl h))

-- ---- a text that was compiled shows that the connection is open

not_run_same : (sql : List ℕ) (old new : State) (e : Error) → old.now ≡ old.committed → IsTrue new.is_open → IsNotRun old new sql [] e → SameRows old new × IsTrue old.is_open
unfolding IsNotRun
not_run_same sql old new e settled live (inl h) = ((h.1.0.now_is, h.1.0.committed_is), h.1.0.was_open)
not_run_same sql old new e settled live (inr h) = let undone = h.3.undone live in ((undone.0 ∙ sym settled, undone.1), h.3.was_open live)

not_run_open : (sql : List ℕ) (old new : State) (e : Error) → IsTrue new.is_open → IsNotRun old new sql [] e → IsTrue old.is_open
unfolding IsNotRun
not_run_open sql old new e live (inl h) = h.1.0.was_open
not_run_open sql old new e live (inr h) = h.3.was_open live

pub prepared_same : {A : Type 0} (P : A → Type 0) (sql : List ℕ) (old new : State) (r : Result A Error) → (HasCleanDisk new → IfOk r (λ s. P s × IsUnchanged old new)) → (HasCleanDisk new → IfErr r (λ e. (params : _) → IsNotRun old new sql params e)) → IsLive new → old.now ≡ old.committed → SameRows old new
prepared_same P sql old new (Ok s) ok err live settled = let is = (ok live.0).1 in (is.0.now_is, is.0.committed_is)
prepared_same P sql old new (Err e) ok err live settled = (not_run_same sql old new e settled live.1 (err live.0 [])).0

pub prepared_live : {A : Type 0} (P : A → Type 0) (sql : List ℕ) (old new : State) (r : Result A Error) → (HasCleanDisk new → IfOk r (λ s. P s × IsUnchanged old new)) → (HasCleanDisk new → IfErr r (λ e. (params : _) → IsNotRun old new sql params e)) → Survives old new (λ _. ⊥) → IsLive new → IsLive old
prepared_live P sql old new (Ok s) ok err survives live = let now = live.0 in let clean = survives.clean in (omega (arith, now, clean), (ok live.0).1.0.was_open)
prepared_live P sql old new (Err e) ok err survives live = let now = live.0 in let clean = survives.clean in (omega (arith, now, clean), not_run_open sql old new e live.1 (err live.0 []))

-- ---- over tables of a known schema

pub reads_at : (schema : Schema) (sql : List ℕ) (s : State) → IsAtRest schema s → Reads schema sql → Reads s.now.schema sql
reads_at schema sql s rest reads = subst (λ x. Reads x sql) (sym rest.schema_is) reads

pub rest_survives : (schema : Schema) (sql : List ℕ) (old new : State) → Reads schema sql → Survives old new (λ _. ¬ Reads old.now.schema sql) → Survives old new (λ _. ¬ IsAtRest schema old)
rest_survives schema sql old new reads = survives_weaker old new _ _ (λ _ db commits rest. commits (reads_at schema sql old rest reads))

-- the same, whether or not something is uncommitted
pub schema_survives : (schema : Schema) (sql : List ℕ) (old new : State) → Reads schema sql → Survives old new (λ _. ¬ Reads old.now.schema sql) → Survives old new (λ _. ¬ (old.now.schema ≡ schema))
schema_survives schema sql old new reads = survives_weaker old new _ _ (λ _ db commits has. commits (subst (λ x. Reads x sql) (sym has) reads))

rest_after : (schema : Schema) (a b : State) → IsAtRest schema a → SameRows a b → IsAtRest schema b
rest_after schema a b rest same = record { settled = same.0 ∙ rest.settled ∙ sym same.1; schema_is = ap (λ (d : Database). d.schema) same.0 ∙ rest.schema_is }

-- two questions, one after the other
pub rests_then : (schema : Schema) (a b c : State) → IsAtRest schema a → (IsAtRest schema a → SameRows a b) → (IsAtRest schema b → SameRows b c) → SameRows a c
rests_then schema a b c rest one two =
    let first = one rest in
    let second = two (rest_after schema a b rest first) in (second.0 ∙ first.0, second.1 ∙ first.1)

-- a question on a connection that a question before it found open, where what is committed is what is seen
pub asks_on : (schema : Schema) (a b c : State) → (IsTrue a.is_open → a.now ≡ a.committed) → (IsLive b → IsLive a) → (HasCleanDisk b → IsTrue b.is_open) → (IsLive b → IsAtRest schema a → SameRows a b)
    → Survives a b (λ _. ¬ (a.now.schema ≡ schema)) → Survives b c (λ _. ¬ IsAtRest schema b) → Survives a c (λ _. ¬ (a.now.schema ≡ schema))
asks_on schema a b c settled was is_up same one two =
    survives_then a b c _ _ _ (λ _ db not_ours. not_ours) (λ clean db not_rest has.
    let late : HasCleanDisk c = clean in
    let early : HasCleanDisk b = omega (arith, late, two.clean) in
    let live : IsLive b = (early, is_up early) in
    let rest : IsAtRest schema a = record { settled = settled (was live).1; schema_is = has } in
    not_rest (rest_after schema a b rest (same live rest))) one two
