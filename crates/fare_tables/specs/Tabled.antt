-- How a store in tables stands.
use Rattle.std.specs.Prelude.{◌≡◌, ℕ, Result, Ok, Err}
use Rattle.std.proofs.Common.{sym, ap, subst, ◌∙◌}
use Rattle.sqlite_trees.specs.Tree.{Trees}
use Rattle.sqlite.specs.Effect.{Database, IsDatabase}
use Rattle.sqlite.specs.Schema.{Schema}
use Rattle.sqlite.specs.State.{State, HasCleanDisk}
use Rattle.fare_store.specs.Standing.{Standing}
use Rattle.fare_tables.specs.Asking.{IsLive, IsAtRest}

-- the tables have their schema, nothing is uncommitted, and the rows fit
pub record IsFit (schema : Schema) (Fits : Trees → Type 0) (s : State) : Type 0 where
  pub rest : IsAtRest schema s
  pub fits : Fits s.now.trees

-- and they obey their schema, as the database keeps them
pub record IsLawfulIn (schema : Schema) (Fits : Trees → Type 0) (s : State) : Type 0 where
  pub fit : IsFit schema Fits s
  pub database : IsDatabase s.now

-- trees that an open takes for the store: they list this schema and obey it, and the rows fit
pub record IsLeft (schema : Schema) (Fits : Trees → Type 0) (trees : Trees) : Type 0 where
  pub database : IsDatabase (record { schema = schema; trees = trees })
  pub fits : Fits trees

-- whatever a stop may leave is such
pub record LeavesSuch (schema : Schema) (Fits : Trees → Type 0) (s : State) : Type 0 where
  pub each : (trees : Trees) → s.may_leave trees → IsLeft schema Fits trees

-- by what rows mean, when they fit with what is counted beside them and when alone, and how often a call has answered Store
abbrev pub tabled : {V : Type 0} → Schema → (Trees → V) → (Trees → Type 0) → (Trees → Type 0) → State → ℕ → Standing V
tabled schema value Fits Alone s failures = record {
  value = value s.now.trees;
  clean = HasCleanDisk s;
  live = IsLive s;
  lawful = IsLawfulIn schema Fits s;
  failures = failures;
  may_leave = λ v. (trees : Trees) × s.may_leave trees × (value trees ≡ v);
  lasting = LeavesSuch schema Alone s;
}

-- the trees of a database whose rows fit are such
pub left_of : (schema : Schema) (Fits : Trees → Type 0) (db : Database) (trees : Trees) → db.schema ≡ schema → IsDatabase db → Fits db.trees → trees ≡ db.trees → IsLeft schema Fits trees
left_of schema Fits db trees has database fits is = record {
  database = subst (λ t. IsDatabase (record { schema = schema; trees = t })) (sym is) (subst (λ sc. IsDatabase (record { schema = sc; trees = db.trees })) has database);
  fits = subst Fits (sym is) fits;
}

-- so is what a lawful store shows
pub left_now : (schema : Schema) (Fits Alone : Trees → Type 0) (s : State) → (Fits s.now.trees → Alone s.now.trees) → IsLawfulIn schema Fits s → (trees : Trees) → trees ≡ s.committed.trees → IsLeft schema Alone trees
left_now schema Fits Alone s alone lawful trees is =
    left_of schema Alone s.now trees lawful.fit.rest.schema_is lawful.database (alone lawful.fit.fits) (is ∙ sym (ap (λ (d : Database). d.trees) lawful.fit.rest.settled))

-- a store of which something more is known while it is lawful
abbrev pub given : {V : Type 0} → Type 0 → Standing V → Standing V
given fact s = record s { lawful = s.lawful × fact }
