-- What a raise makes of the two tables between which rows move.
use Rattle.std.proofs.Common.{inl, inr, ◌≡◌, ◌≢◌, ◌≤◌, ◌<◌, ℕ, List, [], ◌∷◌, length, Some, sym, ap, subst, ◌∙◌, arith}
use Rattle.std.specs.Prelude.{slice_get, IfSome}
use Rattle.sqlite.specs.Change.{next_tree}
use Rattle.sqlite.specs.Effect.{Database}
use Rattle.sqlite.specs.Schema.{Schema}
use Rattle.sqlite.specs.Table.{Table}
use Rattle.sqlite_trees.proofs.ListLemmas.{all-slice_get}
use Rattle.sqlite_value.specs.Order.{Row}
use Rattle.fare_layout.specs.Growing.{GrowsBy}
use Rattle.fare_layout.proofs.Meant.{same_some}
use Rattle.fare_layout.proofs.Others.{all_two, all_below, grown_at, new_at, longer}
use Rattle.fare_opening.specs.declared.site.Site.{Site}
use Rattle.fare_opening.specs.Moves.{Fills, Clears, Moves}
use Rattle.fare_opening.specs.Moving.{MovingParts, columns_of, AreNumbered, shaped}
use Rattle.fare_opening.specs.Parts.{Parts, OlderParts, IsDesign, IsOlder, IsMoving}
use Rattle.fare_opening.specs.Sites.{IsSite, tree_at, rows_at}
use Rattle.fare_opening.proofs.Grown.{none_past, here_or_past}
use Rattle.fare_opening.proofs.Numbered.{copies_numbered}
use Rattle.fare_opening.proofs.Standing.{comes_first, each_tree, is_within, older_within}

-- an older format's moving is right
pub moves_it : (d : Parts) (o : OlderParts) (m : MovingParts) → IsOlder d o → o.moving ≡ Some m → IsMoving d o m
moves_it d o m older is = subst (λ x. IfSome x (IsMoving d o)) is older.moves

-- the two tables are two
pub two_apart : (d : Parts) (o : OlderParts) (m : MovingParts) (w : Site) → IsMoving d o m → IsSite d w → tree_at w m.from ≢ tree_at w m.to
two_apart d o m w it site =
    let has = it.has in
    let lacks = it.lacks in
    comes_first d w site m.from m.to (omega (arith, has, lacks)) (is_within d w site m.to (shaped it.shape it.tree) it.shape_is)

-- one gets the rows, and the other loses its own
pub both_moved : (d : Parts) (o : OlderParts) (m : MovingParts) (w : Site) (rows : List Row) (a b e : Database) → IsDesign d → IsOlder d o → IsMoving d o m → IsSite d w → Fills w m.to (columns_of o.own m.from) rows a b → Clears w m.from (columns_of o.own m.from) b e → Moves o w rows a e m
both_moved d o m w rows a b e design older it site fills clears =
    let apart = two_apart d o m w it site in
    let to_in = is_within d w site m.to (shaped it.shape it.tree) it.shape_is in
    let from_in = older_within d o w design older site m.from it.has in
    let to_stays : rows_at w m.to e.trees ≡ rows_at w m.to b.trees = each_tree (λ n. n ≢ tree_at w m.from → e.trees n ≡ b.trees n) d w site clears.others m.to to_in (λ same. apart (sym same)) in
    let from_stays : rows_at w m.from b.trees ≡ rows_at w m.from a.trees = each_tree (λ n. n ≢ tree_at w m.to → b.trees n ≡ a.trees n) d w site fills.others m.from from_in apart in
    record {
      schema = clears.schema;
      others = all_two (λ (t : Table). t.tree ≢ tree_at w m.to → b.trees t.tree ≡ a.trees t.tree) (λ (t : Table). t.tree ≢ tree_at w m.from → e.trees t.tree ≡ b.trees t.tree) (λ (t : Table). t.tree ≢ tree_at w m.to → t.tree ≢ tree_at w m.from → e.trees t.tree ≡ a.trees t.tree) (λ t first second one two. second two ∙ first one) w.schema.tables fills.others clears.others;
      filled = λ ok none. to_stays ∙ fills.filled [] (copies_numbered (columns_of o.own m.from) rows ok) none;
      cleared = λ ok. clears.cleared (subst (AreNumbered (columns_of o.own m.from)) (sym from_stays) ok);
    }

-- ---- a table that was made has a tree of its own

pub new_trees : (texts : List (List ℕ × List ℕ)) (s last : Schema) → GrowsBy s texts last → (at : ℕ) (t : Table) → length s.tables ≤ at → slice_get last.tables at ≡ Some t → next_tree s ≤ t.tree
new_trees [] s last same at t past is = absurd (none_past s.tables at t past (ap (λ (x : Schema). slice_get x.tables at) same ∙ is))
new_trees (text ∷ texts) s last grows at t past is =
    let next = grows.0 in
    let new : Table = record grows.1.table { tree = next_tree s } in
    let here : slice_get next.tables (length s.tables) ≡ Some new = new_at s next text.1 grows.1 in
    let more = longer s next text.1 grows.1 in
    let above : next_tree s < next_tree next = all-slice_get (λ (t : Table). t.tree < next_tree next) next.tables (length s.tables) new here (all_below next) in
    elim (here_or_past (length s.tables) at past) [
      | inl first ↦ (
          let same : new ≡ t = same_some (sym (grown_at texts next last grows.2 (length s.tables) new here) ∙ ap (slice_get last.tables) (sym first) ∙ is) in
          let tree : next_tree s ≡ t.tree = ap (λ (x : Table). x.tree) same in
          omega (arith, tree))
      | inr behind ↦ (let low = new_trees texts next last grows.2 at t (omega (arith, behind, more)) is in omega (arith, low, above))
    ]
