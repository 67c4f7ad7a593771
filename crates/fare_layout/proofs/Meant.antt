-- What follows from what a text means.
use Rattle.std.proofs.Common.{◌≡◌, [], List, ℕ, Ok, Err, Result, Some, None, false, refl, sym, ap, subst, ◌∙◌}
use Rattle.sqlite.specs.Effect.{is_query}
use Rattle.sqlite.specs.Listing.{understood, reads_listing, misses_table}
use Rattle.sqlite.proofs.Callers.{IsPlain, command_of}
use Rattle.sqlite.specs.Schema.{Schema}
use Rattle.sqlite_resolve.specs.Compile.{compiled}
use Rattle.sqlite_resolve.specs.declared.compiled.Compiled.{Compiled}
use Rattle.sqlite_resolve.specs.declared.error.CompileError.{CompileError}
use Rattle.sqlite_schema.specs.declared.command.Command.{Command}
use Rattle.fare_tables.specs.Asking.{is_select}
use Rattle.fare_layout.specs.Commands.{Essence, essence, IsMeant}

pub record Meant (schema : Schema) (sql : List ℕ) (command : Command) : Type 0 where
  pub command_is : command_of (understood schema sql) ≡ command
  pub plain : IsPlain (understood schema sql)
  pub unlisted : reads_listing schema sql ≡ false
  pub selects : is_select (understood schema sql) ≡ is_query command

pub same_some : {X : Type 0} {x y : X} → Some x ≡ Some y → x ≡ y
same_some e = cc

pub meant : (schema : Schema) (sql : List ℕ) (command : Command) → IsMeant schema sql command → Meant schema sql command
unfolding understood
meant schema sql command is = go (compiled schema sql) refl is
  where
    go : (r : Result Compiled CompileError) → compiled schema sql ≡ r → essence r ≡ Some (command, None, []) → Meant schema sql command
    go (Err e) at is = absurd (let e = is in cc)
    go (Ok c) at is =
        let parts = same_some is in
        let known : understood schema sql ≡ Ok c = rw at refl in
        let first = ap (λ (p : Essence). p.0) parts in
        let second = ap (λ (p : Essence). p.1) parts in
        let third = ap (λ (p : Essence). p.2) parts in
        record {
          command_is = ap command_of known ∙ first;
          plain = subst IsPlain (sym known) (second, third);
          unlisted = ap misses_table at;
          selects = ap is_select known ∙ ap is_query first;
        }
