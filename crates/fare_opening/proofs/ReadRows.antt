-- The rows of a table, read in the order of their rowids.
use Rattle.std.proofs.Common.{◌≡◌, ◌≤◌, ◌<◌, ◌+◌, ◌==◌, inl, inr, ℕ, suc, nat_lt, pos, add-one, get_or, List, [], ◌∷◌, map, length, Bool, true, false, Equal, refl, sym, ap, subst, ◌∙◌, arith}
use Rattle.std.specs.Ordering.{is_lt, ordering_then}
use Rattle.std.specs.List.{AllByRecursion, IsDistinct}
use Rattle.std.specs.List.Sorted.{IsPermutation, IsSorted}
use Rattle.std.proofs.lemmas.List.Sorted.{IsPermutation-sym}
use Rattle.std.proofs.lemmas.Bool.Decides.{nat_tests}
use Rattle.std.proofs.lemmas.Map.Keys.{IsDistinct-IsPermutation}
use Rattle.sqlite_trees.proofs.ListLemmas.{all-permutation}
use Rattle.sqlite_rules.specs.Lists.{Has}
use Rattle.sqlite_sql.specs.Term.{eval_all}
use Rattle.sqlite_sql.specs.Query.{output_cmp}
use Rattle.sqlite.specs.declared.types.Value.TheVariants.{Null}
use Rattle.sqlite.specs.Tree.{Trees}
use Rattle.sqlite.specs.Query.{IsAnswer, output, Output}
use Rattle.sqlite.specs.Program.{overlay}
use Rattle.sqlite.specs.State.{State, Shown}
use Rattle.sqlite.proofs.Callers.{reads_as}
use Rattle.sqlite_value.specs.Order.{Row, column, value_cmp}
use Rattle.sqlite_value.proofs.OrderLemmas.{value_cmp-Int}
use Rattle.fare_tables.specs.Asking.{Reads}
use Rattle.fare_tables.specs.Cells.{nat_in, int, id_of}
use Rattle.fare_tables.proofs.Lists.{member, all_members, all_in_map}
use Rattle.fare_tables.proofs.Terms.{matched}
use Rattle.fare_layout.specs.declared.place.TableNumber.{TableNumber}
use Rattle.fare_layout.specs.Commands.{KeepsMeaning}
use Rattle.fare_layout.specs.Places.{place_of, all_of}
use Rattle.fare_layout.proofs.Meant.{Meant, meant}
use Rattle.fare_opening.specs.declared.site.Site.{Site}
use Rattle.fare_opening.specs.Listed.{IsReading}
use Rattle.fare_opening.specs.Moving.{MovingParts, cells_from, rows_query, reads_rows, columns_of, AreNumbered}
use Rattle.fare_opening.specs.Parts.{Parts, OlderParts, IsOlder, IsMoving, parts_of}
use Rattle.fare_opening.specs.Sites.{IsSite, tree_at, rows_at}
use Rattle.fare_opening.proofs.Asked.{all_rows, filter_all, over}
use Rattle.fare_opening.proofs.Cells.{cells_in, numbered_long}
use Rattle.fare_opening.proofs.Numbered.{numbered_ids}
use Rattle.fare_opening.proofs.Standing.{all_has, low_tree, place_count}

-- what is shown of a row: its rowid, by which it is put in order, and its cells
abbrev shown_of : Row → Output
shown_of r = (column r 0 ∷ [], r)

abbrev key_in : Output → ℕ
key_in o = nat_in (column o.0 0)

abbrev IsKeyed : Output → Type 0
IsKeyed o = o.0 ≡ int (key_in o) ∷ []

-- the keys rise
abbrev AreUp : List Output → Type 0
AreUp [] = Unit {0}
AreUp (x ∷ xs) = AllByRecursion (λ y. key_in x < key_in y) xs × AreUp xs

same_key : Output → Output → Bool
same_key x y = key_in x == key_in y

flips : (x y : Output) → same_key x y ≡ same_key y x
unfolding same_key
flips x y = grind (arith, nat_tests)

-- ---- what is shown of the rows of a table

shown_all : (columns tree : ℕ) (rows : List Row) → AreNumbered columns rows → map (output (rows_query (suc columns) tree)) (map (λ r. [] ∷ r ∷ []) rows) ≡ map shown_of rows
shown_all columns tree [] ok = refl
shown_all columns tree (r ∷ rows) ok =
    let cells : eval_all (cells_from 1 0 (suc columns)) ([] ∷ r ∷ []) ≡ r = cells_in 1 0 (suc columns) ([] ∷ r ∷ []) r refl (let e = numbered_long (suc columns) r ok.0 in omega (arith, e)) in
    λ i. (column r 0 ∷ [], cells i) ∷ shown_all columns tree rows ok.2 i

cells_of : (rows : List Row) → map (λ (o : Output). o.1) (map shown_of rows) ≡ rows
cells_of [] = refl
cells_of (r ∷ rows) = ap (λ more. r ∷ more) (cells_of rows)

keyed : (columns : ℕ) (rows : List Row) → AreNumbered columns rows → AllByRecursion IsKeyed (map shown_of rows)
keyed columns [] ok = tt
keyed columns (r ∷ rows) ok = (ap (λ v. v ∷ []) (numbered_ids columns r ok.0), keyed columns rows ok.2)

up : (columns : ℕ) (rows : List Row) → AreNumbered columns rows → AreUp (map shown_of rows)
up columns [] ok = tt
up columns (r ∷ rows) ok = (all_in_map shown_of (λ y. id_of r < key_in y) rows ok.1, up columns rows ok.2)

differ : (x : Output) (xs : List Output) → AllByRecursion (λ y. key_in x < key_in y) xs → AllByRecursion (λ y. same_key x y ≡ false) xs
unfolding same_key
differ x [] less = tt
differ x (y ∷ ys) less = (let h = less.0 in grind (arith, nat_tests), differ x ys less.1)

distinct : (xs : List Output) → AreUp xs → IsDistinct same_key xs
unfolding IsDistinct
distinct [] rise = tt
distinct (x ∷ xs) rise = (differ x xs rise.0, distinct xs rise.1)

-- ---- an answer is in order

module _ (columns tree : ℕ) where
  abbrev IsInOrder : List Output → Type 0
  IsInOrder xs = IsSorted (output_cmp (rows_query (suc columns) tree)) xs

  sorted_tail : (x : Output) (xs : List Output) → IsInOrder (x ∷ xs) → IsInOrder xs
  sorted_tail x xs sorted k d low high = let h = sorted (k + 1) d (omega arith) (omega arith) in rw (shift (k + 1) d, shift k d) at h
    where
      shift : (k : ℕ) (d : Output) → get_or (x ∷ xs) (k + 1) d ≡ get_or xs k d
      shift k d = rw (add-one k) refl

  keys_less : (b a : ℕ) → is_lt (ordering_then (value_cmp (int b) (int a)) Equal) ≡ nat_lt b a
  keys_less b a = rw (value_cmp-Int (pos b) (pos a)) (grind (arith, nat_tests))

  in_order : (x y : Output) → IsKeyed x → IsKeyed y → is_lt (output_cmp (rows_query (suc columns) tree) y x) ≡ false → key_in x ≤ key_in y
  in_order x y kx ky not_less =
      let less : nat_lt (key_in y) (key_in x) ≡ false = sym (keys_less (key_in y) (key_in x)) ∙ sym (ap (λ (p : Row × Row). is_lt (ordering_then (value_cmp (column p.0 0) (column p.1 0)) Equal)) (λ i. (ky i, kx i))) ∙ not_less in
      grind (arith, nat_tests)

  from_head : (m : ℕ) (x : Output) (xs : List Output) → m ≤ key_in x → IsInOrder (x ∷ xs) → IsKeyed x → AllByRecursion IsKeyed xs → AllByRecursion (λ y. m ≤ key_in y) xs
  from_head m x [] low sorted kx all = tt
  from_head m x (y ∷ ys) low sorted kx all =
      let step = in_order x y kx all.0 (sorted 0 x (omega arith) (omega arith)) in
      let next : m ≤ key_in y = omega (arith, low, step) in
      (next, from_head m y ys next (sorted_tail x (y ∷ ys) sorted) all.0 all.1)

  strictly : (x : Output) (xs : List Output) → AllByRecursion (λ y. key_in x ≤ key_in y) xs → AllByRecursion (λ y. same_key x y ≡ false) xs → AllByRecursion (λ y. key_in x < key_in y) xs
  unfolding same_key
  strictly x [] low apart = tt
  strictly x (y ∷ ys) low apart = (let l = low.0 in let a = apart.0 in grind (arith, nat_tests), strictly x ys low.1 apart.1)

  rises : (xs : List Output) → IsInOrder xs → AllByRecursion IsKeyed xs → IsDistinct same_key xs → AreUp xs
  unfolding IsDistinct
  rises [] sorted all apart = tt
  rises (x ∷ xs) sorted all apart = (strictly x xs (from_head (key_in x) x xs (omega arith) sorted all.0 all.1) apart.0, rises xs (sorted_tail x xs sorted) all.1 apart.1)

-- ---- two lists in order with the same members are one

behind_head : (x y : Output) (ys zs : List Output) → x ≡ y → AllByRecursion (λ z. key_in x < key_in z) zs → AllByRecursion (Has (y ∷ ys)) zs → AllByRecursion (Has ys) zs
behind_head x y ys [] same less has = tt
behind_head x y ys (z ∷ zs) same less has = (by has.0, behind_head x y ys zs same less.1 has.1)
  where
    by : Has (y ∷ ys) z → Has ys z
    by (inl is) = absurd (let l = less.0 in let e : key_in x ≡ key_in z = ap key_in same ∙ sym (ap key_in is) in omega (arith, l, e))
    by (inr there) = there

same_head : (x y : Output) (xs ys : List Output) → AllByRecursion (λ z. key_in x < key_in z) xs → AllByRecursion (λ z. key_in y < key_in z) ys → Has (y ∷ ys) x → Has (x ∷ xs) y → x ≡ y
same_head x y xs ys up_x up_y (inl is) hy = is
same_head x y xs ys up_x up_y (inr there) (inl is) = sym is
same_head x y xs ys up_x up_y (inr there) (inr here) = absurd (let a = member (λ z. key_in y < key_in z) ys x up_y there in let b = member (λ z. key_in x < key_in z) xs y up_x here in omega (arith, a, b))

same_up : (xs ys : List Output) → AreUp xs → AreUp ys → AllByRecursion (Has ys) xs → AllByRecursion (Has xs) ys → xs ≡ ys
same_up [] [] rx ry hx hy = refl
same_up [] (y ∷ ys) rx ry hx hy = absurd hy.0
same_up (x ∷ xs) [] rx ry hx hy = absurd hx.0
same_up (x ∷ xs) (y ∷ ys) rx ry hx hy =
    let head = same_head x y xs ys rx.0 ry.0 hx.0 hy.0 in
    let tail = same_up xs ys rx.1 ry.1 (behind_head x y ys xs head rx.0 hx.1) (behind_head y x xs ys (sym head) ry.0 hy.1) in
    λ i. head i ∷ tail i

-- ---- so the answer is the rows as they stand

rows_shown : (columns tree : ℕ) (db : Trees) (rows : List Row) → overlay db [] tree ≡ db tree → AreNumbered columns (db tree) → IsAnswer (rows_query (suc columns) tree) (overlay db []) [] rows → rows ≡ db tree
rows_shown columns tree db rows same ok a =
    let q = rows_query (suc columns) tree in
    let stored = overlay db [] tree in
    let all = map shown_of (db tree) in
    let staged : a.staged ≡ map (λ r. [] ∷ r ∷ []) stored = a.grouped ∙ matched (λ r. Unit {0}) (λ r. true) [] [] (λ r ok. refl) stored (all_rows stored) ∙ ap (map (λ r. [] ∷ r ∷ [])) (filter_all stored) in
    let kept : a.kept ≡ all = a.distinct ∙ ap (map (output q)) (staged ∙ ap (map (λ r. [] ∷ r ∷ [])) same) ∙ shown_all columns tree (db tree) ok in
    let perm : IsPermutation all a.ordered = subst (λ k. IsPermutation k a.ordered) kept a.same in
    let keys = all-permutation IsKeyed all a.ordered perm (keyed columns (db tree) ok) in
    let apart = IsDistinct-IsPermutation same_key flips all a.ordered perm (distinct all (up columns (db tree) ok)) in
    let rise = rises columns tree a.ordered a.sorted keys apart in
    let from = all-permutation (Has all) all a.ordered perm (all_members all) in
    let back = all-permutation (Has a.ordered) a.ordered all (IsPermutation-sym all a.ordered perm) (all_members a.ordered) in
    let is : a.ordered ≡ all = same_up a.ordered all rise (up columns (db tree) ok) from back in
    a.shown ∙ ap (map (λ (o : Output). o.1)) is ∙ cells_of (db tree)

module _ (p : Parts) (k : TableNumber) (columns : ℕ) (text : List ℕ) (w : Site) (it : IsReading p k columns text) (site : IsSite p w) where
  pub read_meant : Meant w.schema text (reads_rows (suc columns) it.names (tree_at w k))
  read_meant =
      let keeps = all_has (λ (t : TableNumber × List ℕ). KeepsMeaning p.own w.schema (place_of w.places t.0) t.1) p.texts (k, text) site.keeps it.has in
      meant w.schema text (reads_rows (suc columns) it.names (tree_at w k)) (keeps (reads_rows (suc columns) it.names it.tree) it.meant)

  pub read_only : Reads w.schema text
  read_only = (read_meant.plain, read_meant.selects)

  pub read_is : (old new : State) (rows : List Row) → old.now.schema ≡ w.schema → Shown text [] old new rows → AreNumbered columns (rows_at w k old.now.trees) → rows ≡ rows_at w k old.now.trees
  read_is old new rows has shows ok =
      let read = reads_as text [] old new w.schema has _ read_meant.command_is read_meant.plain read_meant.unlisted rows shows in
      let in_site : k.number < length (all_of w.places) = subst (λ n. k.number < n) (place_count w.schema p.own.tables (all_of w.places) site.stands) it.within in
      rows_shown columns (tree_at w k) old.now.trees rows (over old.now.trees (tree_at w k) (low_tree p w site k in_site)) ok (read.answer Null)

-- what a raise reads of the table whose rows move
pub reads_moving : (d : Parts) (o : OlderParts) (m : MovingParts) → IsOlder d o → IsMoving d o m → IsReading (parts_of o) m.from (columns_of o.own m.from) m.read
reads_moving d o m older it = record { within = (let has = it.has in let many = older.design.many in omega (arith, has, many)); has = it.reads; names = it.names; tree = it.read_tree; meant = it.reads_meant }
