-- What made a table under a schema is found to make it.
use Rattle.std.proofs.Common.{◌≡◌, ◌+◌, ◌<◌, ◌^◌, ℕ, Bool, true, false, if◌then◌else◌, [], ◌∷◌, List, length, Option, Ok, Err, Result, refl, sym, ap, subst, ◌∙◌}
use Rattle.sqlite.specs.Change.{created, next_tree}
use Rattle.sqlite.specs.Given.{IsPlain}
use Rattle.sqlite.specs.Listing.{understood, misses_table, if_select, is_select, listing_schema}
use Rattle.sqlite.specs.Schema.{Schema}
use Rattle.sqlite.specs.Table.{Table}
use Rattle.sqlite_resolve.specs.Compile.{compiled, first, planned, with_command}
use Rattle.sqlite_resolve.specs.Lowering.{Checked, and_then}
use Rattle.sqlite_resolve.specs.Scope.{Name}
use Rattle.sqlite_resolve.specs.declared.compiled.Compiled.{Compiled}
use Rattle.sqlite_resolve.specs.declared.error.CompileError.{CompileError}
use Rattle.sqlite_schema.specs.declared.command.Command.{Command}
use Rattle.sqlite_schema.specs.declared.command.Returning.{Returning}
use Rattle.fare_tables.specs.Making.{IsWhole, Defines}
use Rattle.fare_layout.specs.Growing.{Creates, CanMake, Grows, GrowsBy}

pub same_ok : {X : Type 0} {x y : X} → ◌≡◌ {A = Result X CompileError} (Ok x) (Ok y) → x ≡ y
same_ok e = cc

-- a text is read alike under any schema
spans : (s t : Schema) (sql : List ℕ) (c d : Compiled) → compiled s sql ≡ Ok c → compiled t sql ≡ Ok d → (c.start ≡ d.start) × (c.end ≡ d.end)
unfolding compiled
spans s t sql c d one two = by_read (first sql) one two
  where
    by_plan : (p : _) (r q : Checked (List Name × (Command × Option Returning))) → and_then r (λ plan. Ok (with_command p plan)) ≡ Ok c → and_then q (λ plan. Ok (with_command p plan)) ≡ Ok d → (c.start ≡ d.start) × (c.end ≡ d.end)
    by_plan p (Err e) q one two = absurd (let e = one in cc)
    by_plan p (Ok plan) (Err e) one two = absurd (let e = two in cc)
    by_plan p (Ok plan) (Ok other) one two =
        let here : with_command p plan ≡ c = same_ok one in
        let there : with_command p other ≡ d = same_ok two in
        (sym (ap (λ (x : Compiled). x.start) here) ∙ ap (λ (x : Compiled). x.start) there, sym (ap (λ (x : Compiled). x.end) here) ∙ ap (λ (x : Compiled). x.end) there)

    by_read : (r : Checked _) → and_then r (λ p. and_then (planned s p) (λ plan. Ok (with_command p plan))) ≡ Ok c → and_then r (λ p. and_then (planned t p) (λ plan. Ok (with_command p plan))) ≡ Ok d → (c.start ≡ d.start) × (c.end ≡ d.end)
    by_read (Err e) one two = absurd (let e = one in cc)
    by_read (Ok p) one two = by_plan p (planned s p) (planned t p) one two

-- a query makes no table
no_select : (sql : List ℕ) (r : Result Compiled CompileError) → IsWhole sql (if_select r) → ⊥
no_select sql (Err e) whole = whole
no_select sql (Ok c) whole = by_kind (is_select c.command) refl whole
  where
    by_kind : (b : Bool) → is_select c.command ≡ b → IsWhole sql (if_select (Ok c)) → ⊥
    by_kind true is whole =
        let made : IsWhole sql (Ok c) = rw is at whole in
        absurd (let e = sym is ∙ ap is_select made.0 in cc)
    by_kind false is whole =
        let none : ⊥ = rw is at whole in
        none

creates_again : (s t : Schema) (sql : List ℕ) (table : Table) → Defines s sql table → Creates sql (compiled t sql) → Creates sql (compiled s sql)
unfolding understood
creates_again s t sql table defines other = go (compiled s sql) (compiled t sql) refl refl defines.plain defines.whole other
  where
    by_error : (e : CompileError) (b : Bool) → IsWhole sql (if b then if_select (compiled listing_schema sql) else Err e) → ⊥
    by_error e true whole = no_select sql (compiled listing_schema sql) whole
    by_error e false whole = whole

    go : (r q : Result Compiled CompileError) → compiled s sql ≡ r → compiled t sql ≡ q → IsPlain (if misses_table r then if_select (compiled listing_schema sql) else r) → IsWhole sql (if misses_table r then if_select (compiled listing_schema sql) else r) → Creates sql q → Creates sql r
    go (Err e) q at there plain whole other = absurd (by_error e (misses_table (Err e)) whole)
    go (Ok c) (Err e) at there plain whole other = absurd other
    go (Ok c) (Ok d) at there plain whole other =
        let span = spans s t sql c d at there in
        record { creates = whole.0; silent = plain.0; timeless = plain.1; begins = span.0 ∙ other.begins; ends = span.1 ∙ other.ends }

-- what makes a table of this name under one schema, and a table under another, is found to make it there
pub can_again : (s t next : Schema) (name sql : List ℕ) (own : Table) (g : Grows s sql next) → CanMake t name sql own → next_tree s + length own.uniques + 1 < 2 ^ 32 → CanMake s name sql g.table
can_again s t next name sql own g can room =
    let same : g.table ≡ own = same_ok (sym g.defines.defined ∙ can.defined) in
    record {
      creates = creates_again s t sql g.table g.defines can.creates;
      defined = g.defines.defined;
      named = ap (λ (t : Table). t.name) same ∙ can.named;
      uncounted = g.defines.uncounted;
      room = subst (λ (t : Table). next_tree s + length t.uniques + 1 < 2 ^ 32) (sym same) room;
    }

-- the same texts make the same schema
pub same_grown : (texts : List (List ℕ × List ℕ)) (s t a b : Schema) → s ≡ t → GrowsBy s texts a → GrowsBy t texts b → a ≡ b
same_grown [] s t a b is x y = sym x ∙ is ∙ y
same_grown (text ∷ texts) s t a b is x y =
    let table : x.1.table ≡ y.1.table = same_ok (sym x.1.defines.defined ∙ y.1.defines.defined) in
    same_grown texts x.0 y.0 a b (x.1.next_is ∙ (λ i. created (is i) (table i)) ∙ sym y.1.next_is) x.2 y.2
