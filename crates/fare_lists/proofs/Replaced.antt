-- Tables that get their lists.
use Rattle.std.proofs.Common.{◌≡◌, ◌≢◌, ◌<◌, ◌≤◌, ℕ, List, [], ◌∷◌, length, refl, sym, ap, subst, ◌∙◌, arith}
use Rattle.std.specs.Global.{Global}
use Rattle.std.specs.List.{AllByRecursion}
use Rattle.std.specs.Prelude.{Vec, slice_index_or, take, drop, ◌-◌}
use Rattle.std.proofs.Math.Seq.{take-length}
use Rattle.sqlite.specs.Effect.{Database}
use Rattle.sqlite.specs.Table.{Table}
use Rattle.fare_layout.proofs.Others.{all_two}
use Rattle.fare_layout.specs.Places.{all_of}
use Rattle.fare_opening.specs.declared.site.Site.{Site}
use Rattle.fare_opening.specs.Listed.{Puts}
use Rattle.fare_opening.specs.Moves.{Clears}
use Rattle.fare_opening.specs.Moving.{AreNumbered}
use Rattle.fare_opening.specs.Parts.{Parts}
use Rattle.fare_opening.specs.Sites.{IsSite, tree_at, rows_at}
use Rattle.fare_opening.proofs.Standing.{two_trees, each_tree, place_count}
use Rattle.fare_lists.specs.declared.table.ListTable.{ListTable}
use Rattle.fare_lists.specs.Lists.{rows_from, AreWide, AreAllWide, IsListed, AreListed, AreLawful, IsOfNone, IsReplaced, AreReplaced, CanReplace, told, told_list}
use Rattle.fare_lists.proofs.Rows.{rows_numbered}

-- one table: its rows go, and then those of the list come
pub replaced : (w : Site) (t : ListTable) (list : List (List ℕ)) (a b e : Database) → AreWide t.columns list → Clears w t.number t.columns a b → Puts w t.number t.columns (rows_from 1 list) b e → IsReplaced w t list a e
replaced w t list a b e wide clears puts = record {
  schema = puts.schema;
  others = all_two (λ (u : Table). u.tree ≢ tree_at w t.number → b.trees u.tree ≡ a.trees u.tree) (λ (u : Table). u.tree ≢ tree_at w t.number → e.trees u.tree ≡ b.trees u.tree) (λ (u : Table). u.tree ≢ tree_at w t.number → e.trees u.tree ≡ a.trees u.tree) (λ u early late not. late not ∙ early not) w.schema.tables clears.others puts.others;
  rows = λ lawful. puts.put [] (rows_numbered t.columns 1 list wide) (clears.cleared lawful);
  database = λ sound. puts.database (clears.database sound);
}

-- ---- the first of several, and then the others

within : (p : Parts) (w : Site) (t : ListTable) → IsSite p w → IsListed p t → t.number.number < length (all_of w.places)
within p w t site it = subst (λ n. t.number.number < n) (place_count w.schema p.own.tables (all_of w.places) site.stands) it.reads.within

-- a table's tree is of none of those with higher numbers
of_none : (p : Parts) (w : Site) (t : ListTable) (ts : List ListTable) → IsSite p w → IsListed p t → AllByRecursion (λ (u : ListTable). t.number.number < u.number.number) ts → AreListed p ts → IsOfNone w ts (tree_at w t.number)
of_none p w t [] site it higher listed = tt
of_none p w t (u ∷ ts) site it higher listed = (
  two_trees p w site t.number u.number (λ same. (let less = higher.0 in omega (arith, less, same))) (within p w t site it) (within p w u site listed.0),
  of_none p w t ts site it higher.1 listed.2,
)

-- the rows of those stay while one is written
still_lawful : (p : Parts) (w : Site) (t : ListTable) (ts : List ListTable) (a b : Database) (list : List (List ℕ)) → IsSite p w → IsListed p t → AllByRecursion (λ (u : ListTable). t.number.number < u.number.number) ts → AreListed p ts → IsReplaced w t list a b → AreLawful w a.trees ts → AreLawful w b.trees ts
still_lawful p w t [] a b list site it higher listed one lawful = tt
still_lawful p w t (u ∷ ts) a b list site it higher listed one lawful =
    let stays : rows_at w u.number b.trees ≡ rows_at w u.number a.trees = each_tree (λ n. n ≢ tree_at w t.number → b.trees n ≡ a.trees n) p w site one.others u.number (within p w u site listed.0) (two_trees p w site u.number t.number (λ same. (let less = higher.0 in omega (arith, less, same))) (within p w u site listed.0) (within p w t site it)) in
    (subst (AreNumbered u.columns) (sym stays) lawful.0, still_lawful p w t ts a b list site it higher.1 listed.2 one lawful.1)

pub replaced_first : (p : Parts) (w : Site) (t : ListTable) (ts : List ListTable) (list : List (List ℕ)) (lists : List (List (List ℕ))) (a b e : Database) → IsSite p w → AreListed p (t ∷ ts) → IsReplaced w t list a b → AreReplaced w ts lists b e → AreReplaced w (t ∷ ts) (list ∷ lists) a e
replaced_first p w t ts list lists a b e site listed one more =
    let stays : rows_at w t.number e.trees ≡ rows_at w t.number b.trees = each_tree (λ n. IsOfNone w ts n → e.trees n ≡ b.trees n) p w site more.others t.number (within p w t site listed.0) (of_none p w t ts site listed.0 listed.1 listed.2) in
    record {
      schema = more.schema;
      others = all_two (λ (u : Table). u.tree ≢ tree_at w t.number → b.trees u.tree ≡ a.trees u.tree) (λ (u : Table). IsOfNone w ts u.tree → e.trees u.tree ≡ b.trees u.tree) (λ (u : Table). IsOfNone w (t ∷ ts) u.tree → e.trees u.tree ≡ a.trees u.tree) (λ u early late none. late none.1 ∙ early none.0) w.schema.tables one.others more.others;
      rows = λ lawful. (stays ∙ one.rows lawful.0, more.rows (still_lawful p w t ts a b list site listed.0 listed.1 listed.2 one lawful.1));
      database = λ sound. more.database (one.database sound);
    }

pub replaced_none : (w : Site) (a : Database) → a.schema ≡ w.schema → AreReplaced w [] [] a a
replaced_none w a has = record { schema = has; others = all w.schema.tables; rows = λ lawful. tt; database = λ sound. sound }
  where
    all : (tables : List Table) → AllByRecursion (λ (t : Table). IsOfNone w [] t.tree → a.trees t.tree ≡ a.trees t.tree) tables
    all [] = tt
    all (t ∷ tables) = ((λ none. refl), all tables)

-- ---- the same of slices

abbrev pub behind : {X : Type 0} → List X → List X
behind xs = take (length xs - 1) (drop 1 xs)

pub behind_is : {X : Type 0} (x : X) (xs : List X) → behind (x ∷ xs) ≡ xs
behind_is x xs = ap (λ n. take n xs) (let e : length (x ∷ xs) - 1 ≡ length xs = omega arith in e) ∙ take-length xs

-- what is asked of the first table and its list
pub first_listed : (p : Parts) (w : Site) (ts : List ListTable) (x : ListTable) (a : Database) → 1 ≤ length ts → CanReplace p w ts a → IsListed p (slice_index_or ts 0 x)
first_listed p w [] x a some can = absurd (omega (arith, some))
first_listed p w (t ∷ ts) x a some can = can.listed.0

pub first_wide : (ts : List ListTable) (ls : List (Vec (Vec ℕ Global) Global)) (x : ListTable) (y : Vec (Vec ℕ Global) Global) (list : List (List ℕ)) → 1 ≤ length ts → 1 ≤ length ls → list ≡ told_list (slice_index_or ls 0 y).items → AreAllWide ts (told ls) → AreWide (slice_index_or ts 0 x).columns list
first_wide [] ls x y list some more is wide = absurd (omega (arith, some))
first_wide (t ∷ ts) [] x y list some more is wide = absurd (omega (arith, more))
first_wide (t ∷ ts) (l ∷ ls) x y list some more is wide = subst (AreWide t.columns) (sym is) wide.0

pub more_wide : (ts : List ListTable) (ls : List (Vec (Vec ℕ Global) Global)) → 1 ≤ length ts → 1 ≤ length ls → AreAllWide ts (told ls) → AreAllWide (behind ts) (told (behind ls))
more_wide [] ls some more wide = absurd (omega (arith, some))
more_wide (t ∷ ts) [] some more wide = absurd (omega (arith, more))
more_wide (t ∷ ts) (l ∷ ls) some more wide = subst (λ xs. AreAllWide xs (told (behind (l ∷ ls)))) (sym (behind_is t ts)) (subst (λ xs. AreAllWide ts (told xs)) (sym (behind_is l ls)) wide.1)

-- the first table was written
pub more_can : (p : Parts) (w : Site) (ts : List ListTable) (x : ListTable) (list : List (List ℕ)) (a b : Database) → 1 ≤ length ts → CanReplace p w ts a → IsReplaced w (slice_index_or ts 0 x) list a b → CanReplace p w (behind ts) b
more_can p w [] x list a b some can one = absurd (omega (arith, some))
more_can p w (t ∷ ts) x list a b some can one = subst (λ xs. CanReplace p w xs b) (sym (behind_is t ts)) (record {
  listed = can.listed.2;
  site = can.site;
  schema = one.schema;
})

pub all_replaced : (p : Parts) (w : Site) (ts : List ListTable) (ls : List (Vec (Vec ℕ Global) Global)) (x : ListTable) (y : Vec (Vec ℕ Global) Global) (list : List (List ℕ)) (a b e : Database) → 1 ≤ length ts → 1 ≤ length ls → CanReplace p w ts a
    → list ≡ told_list (slice_index_or ls 0 y).items → IsReplaced w (slice_index_or ts 0 x) list a b → AreReplaced w (behind ts) (told (behind ls)) b e → AreReplaced w ts (told ls) a e
all_replaced p w [] ls x y list a b e some more can is one rest = absurd (omega (arith, some))
all_replaced p w (t ∷ ts) [] x y list a b e some more can is one rest = absurd (omega (arith, more))
all_replaced p w (t ∷ ts) (l ∷ ls) x y list a b e some more can is one rest =
    let later : AreReplaced w ts (told ls) b e = subst (λ xs. AreReplaced w ts (told xs) b e) (behind_is l ls) (subst (λ xs. AreReplaced w xs (told (behind (l ∷ ls))) b e) (behind_is t ts) rest) in
    replaced_first p w t ts (told_list l.items) (told ls) a b e can.site can.listed (subst (λ xs. IsReplaced w t xs a b) is one) later

-- where a list is missing there is none
pub none_replaced : (p : Parts) (w : Site) (ts : List ListTable) (ls : List (Vec (Vec ℕ Global) Global)) (a : Database) → (1 ≤ length ts → 1 ≤ length ls → ⊥) → AreAllWide ts (told ls) → CanReplace p w ts a → AreReplaced w ts (told ls) a a
none_replaced p w [] [] a lacks wide can = replaced_none w a can.schema
none_replaced p w [] (l ∷ ls) a lacks wide can = absurd wide
none_replaced p w (t ∷ ts) [] a lacks wide can = absurd wide
none_replaced p w (t ∷ ts) (l ∷ ls) a lacks wide can = absurd (lacks (omega arith) (omega arith))
