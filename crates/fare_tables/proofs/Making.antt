-- What CREATE TABLE makes.
use Rattle.std.proofs.Common.{OnOk, ◌≡◌, ℕ, List, [], false, None, Ok, Err, Result, refl, sym, ap, subst, ◌∙◌}
use Rattle.sqlite.specs.Command.TheVariants.{CreateTable}
use Rattle.sqlite.specs.Change.{created, next_tree, KeepsRows}
use Rattle.sqlite.specs.Does.{Tally, lacks_sequence}
use Rattle.sqlite.specs.Effect.{Database}
use Rattle.sqlite.specs.Listing.{understood}
use Rattle.sqlite.specs.Schema.{Schema}
use Rattle.sqlite.specs.State.{State, Writes, Executes}
use Rattle.sqlite.specs.Table.{Table}
use Rattle.sqlite_resolve.specs.declared.compiled.Compiled.{Compiled}
use Rattle.sqlite_resolve.specs.declared.error.CompileError.{CompileError}
use Rattle.sqlite.proofs.Callers.{command_of, statement_of, runs_as}
use Rattle.fare_tables.specs.Making.{IsWhole, Defines, Made}
use Rattle.fare_tables.proofs.Statements.{went, same_value}

command_whole : (sql : List ℕ) (r : Result Compiled CompileError) → IsWhole sql r → (command_of r ≡ CreateTable) × (statement_of sql r ≡ sql)
command_whole sql (Ok c) h = h
command_whole sql (Err e) h = absurd h

pub makes : (old new : State) (sql : List ℕ) (table : Table) (count : ℕ) → Defines old.now.schema sql table → Executes sql [] old new (Ok count) → Made old.now new.now table
makes old new sql table count it h =
    let facts = command_whole sql (understood old.now.schema sql) it.whole in
    let w : Writes old new None CreateTable sql [] count = subst (λ t. Writes old new None CreateTable t [] count) facts.1 (runs_as sql [] old new old.now.schema refl CreateTable facts.0 it.plain count h) in
    let all = went w.changed in
    let first = went all.1 in
    let made = first.1 in
    let both : Ok made.table ≡ Ok table = sym made.defined ∙ it.defined in
    let same : made.table ≡ table = same_value both in
    let schema : first.0.schema ≡ created old.now.schema table = made.is ∙ ap (created old.now.schema) same in
    let plain : lacks_sequence first.0.schema ≡ false = ap lacks_sequence schema ∙ it.uncounted in
    let now : new.now ≡ first.0 = ap (λ (p : Tally × Database). p.1) (same_value all.2) ∙ same_value (rw plain at first.2) in
    record {
      schema = ap (λ (d : Database). d.schema) now ∙ schema;
      empty = ap (λ (d : Database). d.trees (next_tree old.now.schema)) now ∙ made.empty;
      others = subst (λ (d : Database). KeepsRows old.now.schema.tables old.now.trees d.trees) (sym now) made.others;
    }

-- the same, where the schema that it starts from is known
pub made_at : (a b : Database) (s : Schema) (table : Table) → a.schema ≡ s → Made a b table → Made (record { schema = s; trees = a.trees }) b table
made_at a b s table is h = subst (λ x. Made (record { schema = x; trees = a.trees }) b table) is h

pub defines_at : (s t : Schema) (sql : List ℕ) (table : Table) → s ≡ t → Defines t sql table → Defines s sql table
defines_at s t sql table is it = subst (λ x. Defines x sql table) (sym is) it

pub on_ok : {X E : Type 0} {P Q : Type 0} (r : Result X E) → (P → Q) → OnOk r P → OnOk r Q
on_ok (Ok x) f h = f h
on_ok (Err e) f h = tt
