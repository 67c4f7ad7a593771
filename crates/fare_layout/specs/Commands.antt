-- What a statement means under one schema, beside what it means under another.
use Rattle.std.specs.Prelude.{◌≡◌, List, [], map, Option, Some, None, option_map, IfSome, Result, Ok, Err, ℕ}
use Rattle.std.specs.List.{AllByRecursion}
use Rattle.sqlite.specs.Schema.{Schema}
use Rattle.sqlite_sql.specs.Term.{Term}
use Rattle.sqlite_sql.specs.Group.{Aggregate, Grouping}
use Rattle.sqlite_sql.specs.Query.{Query, inner, end}
use Rattle.sqlite_sql.specs.declared.query.Aggregate as written
use Rattle.sqlite_sql.specs.declared.query.SortKey.{SortKey}
use Rattle.sqlite_value.specs.declared.keys.Key.{Key}
use Rattle.sqlite_schema.specs.declared.code.Op.{Op}
use Rattle.sqlite_schema.specs.Code.{term_in}
use Rattle.sqlite_schema.specs.declared.program.Program.{Program}
use Rattle.sqlite_schema.specs.declared.command.Command.{Command}
use Rattle.sqlite_schema.specs.declared.command.Command.TheVariants.{Select, Insert, InsertOr, Update, Delete}
use Rattle.sqlite_schema.specs.declared.command.Source.{Source}
use Rattle.sqlite_schema.specs.declared.command.Source.TheVariants as source
use Rattle.sqlite_schema.specs.declared.command.Upsert.{Upsert}
use Rattle.sqlite_schema.specs.declared.command.Returning.{Returning}
use Rattle.sqlite_resolve.specs.Compile.{compiled}
use Rattle.sqlite_resolve.specs.declared.compiled.Compiled.{Compiled}
use Rattle.sqlite_resolve.specs.declared.error.CompileError.{CompileError}
use Rattle.fare_layout.specs.declared.place.Place.{Place}
use Rattle.fare_layout.specs.Schemas.{IsSimpleTerm, AreSimple}

-- PARTS: what the parts of a plan stand for, as `query_in` has them
abbrev pub aggregate_in : List Op → written.Aggregate → Aggregate
aggregate_in ops a = record { op = a.op; distinct = a.distinct; collation = a.collation; argument = term_in ops a.argument }

abbrev pub sort_key_in : List Op → SortKey → Term × Key
sort_key_in ops k = (term_in ops k.node, k.key)

-- MOVED: a statement over one table, as it reads where that table stands at another place
abbrev pub moved_query : ℕ → Query → Query
moved_query tree q = record q { from = inner tree end }

abbrev pub moved_program : ℕ → Program → Program
moved_program tree p = record p { body = moved_query tree p.body }

abbrev pub moved_upsert : ℕ → Upsert → Upsert
moved_upsert tree u = record u { update = option_map (moved_program tree) u.update }

abbrev pub moved : Place → Command → Command
moved p (Select q names) = Select (moved_program p.tree q) names
moved p (Insert at rows) = Insert p.at rows
moved p (InsertOr at by rows upserts) = InsertOr p.at by rows (map (moved_upsert p.tree) upserts)
moved p (Update at q) = Update p.at (moved_program p.tree q)
moved p (Delete at q) = Delete p.at (moved_program p.tree q)
moved p c = c

-- SIMPLE: what the statements of a store are made of
abbrev pub IsSimpleAggregate : Aggregate → Type 0
IsSimpleAggregate a = IsSimpleTerm a.argument

abbrev pub AreSimpleAggregates : List Aggregate → Type 0
AreSimpleAggregates all = AllByRecursion IsSimpleAggregate all

abbrev pub IsSimpleKey : Term × Key → Type 0
IsSimpleKey k = IsSimpleTerm k.0

abbrev pub AreSimpleKeys : List (Term × Key) → Type 0
AreSimpleKeys keys = AllByRecursion IsSimpleKey keys

pub record IsSimpleGrouping (g : Grouping) : Type 0 where
  pub keys : AreSimple g.keys
  pub aggregates : AreSimpleAggregates g.aggregates
  pub having : AreSimple g.having

pub record IsSimpleQuery (q : Query) : Type 0 where
  pub filter : AreSimple q.filter
  pub group : IfSome q.group IsSimpleGrouping
  pub project : AreSimple q.project
  pub order : AreSimpleKeys q.order
  pub limit : IsSimpleTerm q.limit
  pub offset : IsSimpleTerm q.offset

-- a query that computes no table first
pub record IsSimpleProgram (p : Program) : Type 0 where
  pub lets : p.lets ≡ []
  pub body : IsSimpleQuery p.body

abbrev pub IsSimpleSource : Source → Type 0
IsSimpleSource (source.Values terms width) = AreSimple terms
IsSimpleSource (source.Query p) = ⊥

abbrev pub IsSimpleUpsert : Upsert → Type 0
IsSimpleUpsert u = IfSome u.update IsSimpleProgram

abbrev pub AreSimpleUpserts : List Upsert → Type 0
AreSimpleUpserts upserts = AllByRecursion IsSimpleUpsert upserts

abbrev pub IsSimpleCommand : Command → Type 0
IsSimpleCommand (Select q names) = IsSimpleProgram q
IsSimpleCommand (Insert at rows) = IsSimpleSource rows
IsSimpleCommand (InsertOr at by rows upserts) = IsSimpleSource rows × AreSimpleUpserts upserts
IsSimpleCommand (Update at q) = IsSimpleProgram q
IsSimpleCommand (Delete at q) = IsSimpleProgram q
IsSimpleCommand c = ⊥

-- MEANT: what a text means, as far as it is used: the command, with no RETURNING and no time
abbrev pub Essence : Type 0
Essence = Command × Option Returning × List (List ℕ)

abbrev pub essence : Result Compiled CompileError → Option Essence
essence (Ok c) = Some (c.command, c.returning, c.formats)
essence (Err e) = None

abbrev pub IsMeant : Schema → List ℕ → Command → Type 0
IsMeant schema sql command = essence (compiled schema sql) ≡ Some (command, None, [])

-- a text means under a schema what it means under the store's own, over the table where that stands
abbrev pub KeepsMeaning : Schema → Schema → Place → List ℕ → Type 0
KeepsMeaning own schema place sql = (c : Command) → IsMeant own sql c → IsMeant schema sql (moved place c)
