-- The lists of tables, read one after the other.
use Rattle.std.proofs.Common.{◌≡◌, ◌≤◌, ◌++◌, ℕ, List, [], ◌∷◌, length, Bool, true, false, sym, ap, subst, ◌∙◌, arith}
use Rattle.std.specs.Global.{Global}
use Rattle.std.specs.Prelude.{Vec, slice_index_or, IfOk, Result, Ok, Err}
use Rattle.std.proofs.lemmas.List.{map-append, append_assoc}
use Rattle.sqlite.specs.Tree.{Trees}
use Rattle.sqlite_value.specs.Order.{Row}
use Rattle.fare_opening.specs.declared.site.Site.{Site}
use Rattle.fare_opening.specs.Moving.{AreNumbered}
use Rattle.fare_opening.specs.Parts.{Parts}
use Rattle.fare_opening.specs.Sites.{rows_at}
use Rattle.fare_lists.specs.declared.table.ListTable.{ListTable}
use Rattle.fare_lists.specs.Lists.{told, told_list, Holds, HoldAll, AreNumbers, IsListed, AreListed, AreLawful, HasRead, CanTell}
use Rattle.fare_lists.proofs.Replaced.{behind, behind_is}

-- ---- the first table of several

pub first_table : (p : Parts) (w : Site) (trees : Trees) (ts : List ListTable) (x : ListTable) → 1 ≤ length ts → AreListed p ts → AreLawful w trees ts → IsListed p (slice_index_or ts 0 x) × AreNumbered (slice_index_or ts 0 x).columns (rows_at w (slice_index_or ts 0 x).number trees)
first_table p w trees [] x some listed lawful = absurd (omega (arith, some))
first_table p w trees (t ∷ ts) x some listed lawful = (listed.0, lawful.0)

pub listed_first : (p : Parts) (ts : List ListTable) (x : ListTable) → 1 ≤ length ts → AreListed p ts → IsListed p (slice_index_or ts 0 x)
listed_first p [] x some listed = absurd (omega (arith, some))
listed_first p (t ∷ ts) x some listed = listed.0

pub listed_behind : (p : Parts) (ts : List ListTable) → 1 ≤ length ts → AreListed p ts → AreListed p (behind ts)
listed_behind p [] some listed = absurd (omega (arith, some))
listed_behind p (t ∷ ts) some listed = subst (AreListed p) (sym (behind_is t ts)) listed.2

pub lawful_behind : (w : Site) (trees : Trees) (ts : List ListTable) → 1 ≤ length ts → AreLawful w trees ts → AreLawful w trees (behind ts)
lawful_behind w trees [] some lawful = absurd (omega (arith, some))
lawful_behind w trees (t ∷ ts) some lawful = subst (AreLawful w trees) (sym (behind_is t ts)) lawful.1

-- ---- it was read, and then the others

pub read_first : (w : Site) (trees : Trees) (ts : List ListTable) (x : ListTable) (list : List (List ℕ)) (old mid new : List (List (List ℕ))) (r : Bool) → 1 ≤ length ts → Holds w trees (slice_index_or ts 0 x) list → mid ≡ old ++ list ∷ [] → HasRead w trees (behind ts) mid new r → HasRead w trees ts old new r
read_first w trees [] x list old mid new r some holds is read = absurd (omega (arith, some))
read_first w trees (t ∷ ts) x list old mid new true some holds is read =
    let hold : HoldAll w trees ts read.0 = subst (λ xs. HoldAll w trees xs read.0) (behind_is t ts) read.1 in
    (list ∷ read.0, (holds, hold), read.2 ∙ ap (λ xs. xs ++ read.0) is ∙ append_assoc old (list ∷ []) read.0)
read_first w trees (t ∷ ts) x list old mid new false some holds is read = λ can. read (subst (CanTell w trees) (sym (behind_is t ts)) can.1)

pub read_all : {E : Type 0} (result : Result Bool E) (w : Site) (trees : Trees) (ts : List ListTable) (x : ListTable) (list : List (List ℕ)) (old mid new : List (List (List ℕ))) → 1 ≤ length ts → Holds w trees (slice_index_or ts 0 x) list → mid ≡ old ++ list ∷ [] → IfOk result (HasRead w trees (behind ts) mid new) → IfOk result (HasRead w trees ts old new)
read_all (Ok r) w trees ts x list old mid new some holds is read = read_first w trees ts x list old mid new r some holds is read
read_all (Err e) w trees ts x list old mid new some holds is read = tt

pub told_more : (old new : List (Vec (Vec ℕ Global) Global)) (list : Vec (Vec ℕ Global) Global) → new ≡ old ++ list ∷ [] → told new ≡ told old ++ told_list list.items ∷ []
told_more old new list is = ap told is ∙ map-append (λ (l : Vec (Vec ℕ Global) Global). told_list l.items) old (list ∷ [])

-- ---- it can't be told

pub none_told : (w : Site) (trees : Trees) (ts : List ListTable) (x : ListTable) (rows : List Row) → 1 ≤ length ts → rows ≡ rows_at w (slice_index_or ts 0 x).number trees → ¬ AreNumbers rows → ¬ CanTell w trees ts
none_told w trees [] x rows some is none can = omega (arith, some)
none_told w trees (t ∷ ts) x rows some is none can = none (subst AreNumbers (sym is) can.0)
