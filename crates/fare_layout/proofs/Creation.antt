-- What a text that is one CREATE TABLE makes.
use Rattle.std.proofs.Common.{◌≡◌, IfSome, Option, Some, ◌≤◌, ◌+◌, ◌++◌, ◌∷◌, List, ℕ, [], length, false, Ok, Err, Result, refl, sym, ap, subst, ◌∙◌, ◌-◌, arith}
use Rattle.std.specs.Prelude.{take, drop, slice_index_or}
use Rattle.std.proofs.Math.Seq.{take-length}
use Rattle.std.proofs.lemmas.List.{append_assoc}
use Rattle.sqlite_catalog.specs.Listing.{automatic}
use Rattle.sqlite_catalog.specs.Change.{automatics}
use Rattle.sqlite_schema.specs.declared.schema.Index.{Index}
use Rattle.sqlite.specs.Change.{created}
use Rattle.sqlite.specs.Compile.{table_defined_by}
use Rattle.sqlite.specs.Does.{lacks_sequence}
use Rattle.sqlite.specs.Given.{IsPlain}
use Rattle.sqlite.specs.Listing.{understood}
use Rattle.sqlite.specs.Schema.{Schema}
use Rattle.sqlite.specs.State.{text_of}
use Rattle.sqlite.specs.Table.{Table}
use Rattle.sqlite_resolve.specs.Compile.{compiled}
use Rattle.sqlite_resolve.specs.declared.compiled.Compiled.{Compiled}
use Rattle.sqlite_resolve.specs.declared.error.CompileError.{CompileError}
use Rattle.fare_tables.specs.Making.{IsWhole, Defines}
use Rattle.fare_layout.specs.Growing.{Creates, Grows}

-- the index of the first key, and then those of the others
pub one_more : (old mid new : List Index) (table : Table) (at tree : ℕ) (key : List ℕ) (keys : List (List ℕ)) → key ≡ slice_index_or keys 0 key → 1 ≤ length keys → mid ≡ old ++ automatic table at key tree ∷ []
    → new ≡ mid ++ automatics table (at + 1) (tree + 1) (take (length keys - 1) (drop 1 keys)) → new ≡ old ++ automatics table at tree keys
one_more old mid new table at tree key [] first some step rest = absurd (omega (arith, some))
one_more old mid new table at tree key (k ∷ keys) first some step rest =
    rest ∙ ap (λ ks. mid ++ automatics table (at + 1) (tree + 1) ks) (ap (λ n. take n keys) (one_less k keys) ∙ take-length keys)
    ∙ ap (λ m. m ++ automatics table (at + 1) (tree + 1) keys) (step ∙ ap (λ x. old ++ automatic table at x tree ∷ []) first)
    ∙ append_assoc old (automatic table at k tree ∷ []) (automatics table (at + 1) (tree + 1) keys)
  where
    one_less : (k : List ℕ) (keys : List (List ℕ)) → length (k ∷ keys) - 1 ≡ length keys
    one_less k keys = omega arith

whole : (sql : List ℕ) → take (length sql - 0) sql ≡ sql
whole sql = ap (λ n. take n sql) (less_none (length sql)) ∙ take-length sql
  where
    less_none : (n : ℕ) → n - 0 ≡ n
    less_none n = omega arith

pub defines_of : (schema : Schema) (sql : List ℕ) (table : Table) → Creates sql (compiled schema sql) → table_defined_by sql ≡ Ok table → lacks_sequence (created schema table) ≡ false → Defines schema sql table
unfolding understood
defines_of schema sql table creates defined uncounted = go (compiled schema sql) refl creates
  where
    go : (r : Result Compiled CompileError) → compiled schema sql ≡ r → Creates sql r → Defines schema sql table
    go (Err e) at creates = absurd creates
    go (Ok c) at it =
        let known : understood schema sql ≡ Ok c = rw at refl in
        let text : text_of sql c ≡ sql = rw (it.begins, it.ends) (whole sql) in
        record {
          plain = subst IsPlain (sym known) (it.silent, it.timeless);
          whole = subst (IsWhole sql) (sym known) (it.creates, text);
          defined = defined;
          uncounted = uncounted;
        }

pub grows_of : (schema next : Schema) (sql : List ℕ) (table : Table) → Creates sql (compiled schema sql) → table_defined_by sql ≡ Ok table → next ≡ created schema table → lacks_sequence next ≡ false → Grows schema sql next
grows_of schema next sql table creates defined is uncounted =
    record { table = table; defines = defines_of schema sql table creates defined (ap lacks_sequence (sym is) ∙ uncounted); next_is = is }

pub some_is : {X : Type 0} (o : Option X) (x : X) (P : X → Type 0) → o ≡ Some x → IfSome o P → P x
some_is {X = X} o x P is holds = subst (λ (f : Option X). IfSome f P) is holds
