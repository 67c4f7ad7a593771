-- The tables that a store has.
use Rattle.std.specs.Prelude.{◌≡◌, List, []}
use Rattle.std.specs.List.{AllByRecursion}
use Rattle.sqlite_schema.specs.declared.schema.Column.{Column}
use Rattle.sqlite.specs.Table.{Table}
use Rattle.sqlite.specs.declared.types.Value.{Value}
use Rattle.sqlite.specs.declared.types.Value.TheVariants.{Null, Int, Real, Text, Blob}
use Rattle.sqlite_sql.specs.Term.{Term, lit, col, op1, op2, case}

-- no value, or an integer
abbrev pub IsSimple : Value → Type 0
IsSimple Null = Unit {0}
IsSimple (Int n) = Unit {0}
IsSimple (Real x) = ⊥
IsSimple (Text t) = ⊥
IsSimple (Blob b) = ⊥

-- a term whose literals are simple
abbrev pub IsSimpleTerm : Term → Type 0
IsSimpleTerm (lit v) = IsSimple v
IsSimpleTerm (col slot at) = Unit {0}
IsSimpleTerm (op1 op a) = IsSimpleTerm a
IsSimpleTerm (op2 op a b) = IsSimpleTerm a × IsSimpleTerm b
IsSimpleTerm (case t a b) = IsSimpleTerm t × IsSimpleTerm a × IsSimpleTerm b

abbrev pub AreSimple : List Term → Type 0
AreSimple terms = AllByRecursion IsSimpleTerm terms

abbrev pub AreSimpleColumns : List Column → Type 0
AreSimpleColumns columns = AllByRecursion (λ (c : Column). IsSimple c.default) columns

-- a table that refers to no other and has no default that reads the time
pub record IsSimpleTable (t : Table) : Type 0 where
  pub columns : AreSimpleColumns t.columns
  pub checks : AreSimple t.checks
  pub references : t.references ≡ []
  pub stamps : AreSimple t.stamps.terms
  pub formats : t.stamps.formats ≡ []
