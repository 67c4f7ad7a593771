-- A store's tables stand where they stood, in a schema that grew.
use Rattle.std.proofs.Common.{◌≡◌, ◌+◌, ◌++◌, ℕ, Bool, true, false, List, [], ◌∷◌, Option, Some, None, IsTrue, inl, inr, refl, sym, ap, subst, ◌∙◌}
use Rattle.std.specs.Prelude.{◌↔◌, cond, slice_get, IfSome, is_some, not}
use Rattle.std.specs.List.{AllByRecursion, AllZip, position_from}
use Rattle.std.proofs.lemmas.List.{append_assoc}
use Rattle.sqlite.specs.Change.{next_tree, KeepsRows}
use Rattle.sqlite.specs.State.{State, Survives}
use Rattle.sqlite.proofs.StateLemmas.{survives_weaker}
use Rattle.sqlite.specs.Schema.{Schema}
use Rattle.sqlite.specs.Table.{Table}
use Rattle.sqlite_schema.specs.Names.{same_name}
use Rattle.fare_layout.specs.declared.place.Place.{Place}
use Rattle.fare_layout.specs.declared.place.Places.{Places}
use Rattle.fare_layout.specs.Growing.{GrowsBy, HasNone}
use Rattle.fare_layout.specs.Layouts.{Fits, Stands}
use Rattle.fare_layout.specs.Places.{all_of}
use Rattle.fare_layout.proofs.Grown.{kept_at}
use Rattle.fare_layout.proofs.Meant.{same_some}
use Rattle.fare_opening.specs.declared.site.Site.{Site}
use Rattle.fare_opening.specs.Beside.{HasGrownTo, AreAllApart, StandApart, AreBeside, AreAllBeside, IsBeside, MayMakeBeside}
use Rattle.fare_opening.specs.Making.{Makes, MayGrow, MadeFrom}
use Rattle.fare_opening.specs.MetaRow.{IsMeta}
use Rattle.fare_opening.specs.Numbers.{Meta}
use Rattle.fare_opening.specs.Opening.{StandsAt}
use Rattle.fare_opening.specs.Parts.{Parts, OlderParts, IsDesign, IsOlder, IsTold, parts_of}
use Rattle.fare_opening.specs.Sites.{IsSite, IsEmptied, rows_at}
use Rattle.fare_opening.specs.declared.design.Older.{Older}
use Rattle.fare_opening.proofs.Standing.{same_at}
use Rattle.fare_opening.proofs.Vacant.{made_alike}

-- ---- what stands in the front of a list

found_in_front : {X : Type 0} (p : X → Bool) (at k : ℕ) (xs ys : List X) → position_from p at xs ≡ Some k → position_from p at (xs ++ ys) ≡ Some k
found_in_front p at k [] ys is = absurd (let e = is in cc)
found_in_front p at k (x ∷ xs) ys is = go (p x) is (found_in_front p (at + 1) k xs ys)
  where
    go : (b : Bool) → cond b (Some at) (position_from p (at + 1) xs) ≡ Some k → (position_from p (at + 1) xs ≡ Some k → position_from p (at + 1) (xs ++ ys) ≡ Some k) → cond b (Some at) (position_from p (at + 1) (xs ++ ys)) ≡ Some k
    go true is rest = is
    go false is rest = rest is

-- ---- a schema that grew has its tables in front

pub in_front : (made : List (List ℕ × List ℕ)) (s t : Schema) → GrowsBy s made t → (more : List Table) × (t.tables ≡ s.tables ++ more)
in_front [] s t same = ([], ap (λ (x : Schema). x.tables) (sym same) ∙ none s.tables)
  where
    none : (xs : List Table) → xs ≡ xs ++ []
    none [] = refl
    none (x ∷ xs) = ap (λ ys. x ∷ ys) (none xs)
in_front (text ∷ made) s t grows =
    let rest = in_front made grows.0 t grows.2 in
    let one : Table = record grows.1.table { tree = next_tree s } in
    (one ∷ rest.0, rest.1 ∙ ap (λ (x : Schema). x.tables ++ rest.0) grows.1.next_is ∙ append_assoc s.tables (one ∷ []) rest.0)

-- ---- a table stands where it stood

same_place : (s t : Schema) (more : List Table) (table : Table) (p q : Place) → t.tables ≡ s.tables ++ more → Stands s table p → Stands t table q → p ≡ q
same_place s t more table p q tables old new =
    let named = λ (x : Table). same_name x.name table.name in
    let found : position_from named 0 t.tables ≡ Some p.at = ap (position_from named 0) tables ∙ found_in_front named 0 p.at s.tables more old.named in
    let at : p.at ≡ q.at = same_some (sym found ∙ new.named) in
    let here : slice_get t.tables p.at ≡ Some (record table { tree = p.tree }) = ap (λ xs. slice_get xs p.at) tables ∙ kept_at s.tables more p.at (record table { tree = p.tree }) old.there in
    let there : Some (record table { tree = p.tree }) ≡ Some (record table { tree = q.tree }) = sym here ∙ ap (slice_get t.tables) at ∙ new.there in
    let tree : p.tree ≡ q.tree = ap (λ (x : Table). x.tree) (same_some there) in
    λ i. record { at = at i; tree = tree i }

same_places : (s t : Schema) (more : List Table) (tables : List Table) (ps qs : List Place) → t.tables ≡ s.tables ++ more → AllZip (Stands s) tables ps → AllZip (Stands t) tables qs → ps ≡ qs
same_places s t more [] [] [] front x y = refl
same_places s t more [] (p ∷ ps) qs front x y = absurd x
same_places s t more [] [] (q ∷ qs) front x y = absurd y
same_places s t more (table ∷ tables) [] qs front x y = absurd x
same_places s t more (table ∷ tables) (p ∷ ps) [] front x y = absurd y
same_places s t more (table ∷ tables) (p ∷ ps) (q ∷ qs) front x y = λ i. same_place s t more table p q front x.0 y.0 i ∷ same_places s t more tables ps qs front x.1 y.1 i

-- so what stands in both stands in both at the same places
site_stays : (p : Parts) (v w : Site) (s t : Schema) → HasGrownTo s t → IsSite p w → s ≡ w.schema → IsSite p v → t ≡ v.schema → IsSite p (record w { schema = t })
site_stays p v w s t grown old at new there =
    let front = in_front grown.0 s t grown.1 in
    let stood = subst (λ x. AllZip (Stands x) p.own.tables (all_of w.places)) (sym at) old.stands in
    let stands = subst (λ x. AllZip (Stands x) p.own.tables (all_of v.places)) (sym there) new.stands in
    let all : all_of w.places ≡ all_of v.places = same_places s t front.0 p.own.tables (all_of w.places) (all_of v.places) front.1 stood stands in
    let places : w.places ≡ v.places = λ i. record { all = all i } in
    subst (Fits p.own p.texts t) (sym places) (subst (λ x. Fits p.own p.texts x v.places) (sym there) new)

-- ---- tables beside those that were found

pub found_apart : (p : Parts) (s : Schema) (w v : Site) (right : Bool) → HasGrownTo s w.schema → IsSite p v → w.schema ≡ v.schema → IsTrue right ↔ AreAllApart (all_of v.places) (all_of w.places) → IsTrue right ↔ StandApart p s w
found_apart p s w v right grown site there is = (
  λ yes. record {
    keep = λ u stood at. site_stays p v u s w.schema grown stood at site there;
    apart = λ u again at. subst (λ ps. AreAllApart ps (all_of w.places)) (same_at p v u site again (sym there ∙ sym at)) (is.0 yes);
  },
  λ beside. is.1 (beside.apart v site (sym there)),
)

-- or of which there are none
pub none_apart : (p : Parts) (s : Schema) (w : Site) → ((v : Site) → IsSite p v → ¬ (w.schema ≡ v.schema)) → ((v : Site) → IsSite p v → ¬ (s ≡ v.schema)) → StandApart p s w
none_apart p s w none stood = record { keep = λ v site at. absurd (stood v site at); apart = λ v site at. absurd (none v site (sym at)) }

-- those that stood would stand
pub still_stands : (p : Parts) (s : Schema) (w v : Site) → ((u : Site) → IsSite p u → ¬ (w.schema ≡ u.schema)) → IsSite p v → s ≡ v.schema → ¬ StandApart p s w
still_stands p s w v none site at beside = none (record v { schema = w.schema }) (beside.keep v site at) refl

-- so it is where they are looked for again
pub none_found : (p : Parts) (s : Schema) (w : Site) (found : Option Site) (right : Bool) → ((v : Site) → IsSite p v → ¬ (w.schema ≡ v.schema)) → IfSome found (λ v. IsSite p v × (s ≡ v.schema)) → (found ≡ None → (v : Site) → IsSite p v → ¬ (s ≡ v.schema)) → is_some found ≡ not right → IsTrue right ↔ StandApart p s w
none_found p s w None true none found stood is = (λ right. none_apart p s w none (stood refl), λ beside. refl)
none_found p s w None false none found stood is = absurd (let e = is in cc)
none_found p s w (Some v) true none found stood is = absurd (let e = is in cc)
none_found p s w (Some v) false none found stood is = (λ right. absurd (let e = right in cc), λ beside. absurd (still_stands p s w v none found.0 found.1 beside))

-- and names stay free
pub all_beside : (p : Parts) (s : Schema) (w : Site) (right : Bool) → (HasNone p.tables s → HasNone p.tables w.schema) → IsTrue right ↔ StandApart p s w → IsTrue right ↔ AreBeside p s w
all_beside p s w right free is = (λ yes. record { stand = is.0 yes; free = free }, λ beside. is.1 beside.stand)

-- ---- a store, of any format

each_design : (d : Parts) (os : List OlderParts) → AllByRecursion (IsOlder d) os → AllByRecursion (λ (o : OlderParts). IsDesign (parts_of o)) os
each_design d [] older = tt
each_design d (o ∷ os) older = (older.0.design, each_design d os older.1)

pub store_beside : (told : List Older) (d : Parts) (s : Schema) (w : Site) (first rest : Bool) → IsTrue first → IsTrue first ↔ AreBeside d s w → AllByRecursion (IsOlder d) d.older → ((os : List OlderParts) → AllByRecursion (λ (o : OlderParts). IsDesign (parts_of o)) os → AllZip IsTold told os → IsTrue rest ↔ AreAllBeside os s w) → AllZip IsTold told d.older → IsTrue rest ↔ IsBeside d s w
store_beside told d s w first rest holds one older more are =
    let all = more d.older (each_design d d.older older) are in
    (λ right. record { newest = one.0 holds; olders = all.0 right }, λ beside. all.1 beside.olders)

-- ---- tables that stand, or are made

-- stand at one site
same_site : (d : Parts) (w v : Site) → IsSite d w → IsSite d v → w.schema ≡ v.schema → w ≡ v
same_site d w v one other schema =
    let all : all_of w.places ≡ all_of v.places = same_at d w v one other schema in
    λ i. record { schema = schema i; places = record { all = all i } }

-- so what isn't beside them there isn't beside them
pub nowhere_beside : (d other : Parts) (owner : ℕ) (old : State) (v w : Site) → IsSite d v → old.now.schema ≡ v.schema → ¬ IsBeside other old.now.schema v → StandsAt d owner old w → ¬ IsBeside other old.now.schema w
nowhere_beside d other owner old v w site at none stands beside = none (subst (IsBeside other old.now.schema) (same_site d w v stands.site site (sym stands.schema ∙ at)) beside)

-- a store that isn't the owner's stands nowhere
pub nowhere_stands : (d : Parts) (owner : ℕ) (old : State) (v w : Site) → IsSite d v → old.now.schema ≡ v.schema → ¬ (IsMeta d.format owner (rows_at v Meta old.now.trees) × IsEmptied d v old.now.trees) → ¬ StandsAt d owner old w
nowhere_stands d owner old v w site at none stands =
    let same = same_site d w v stands.site site (sym stands.schema ∙ at) in
    none (subst (λ x. IsMeta d.format owner (rows_at x Meta old.now.trees)) same stands.meta, subst (λ x. IsEmptied d x old.now.trees) same stands.unused)

-- so what is beside them is beside them wherever they are made
pub wherever_made : (d other : Parts) (s : Schema) (w : Site) → Makes d s w → IsBeside other s w → (v : Site) → Makes d s v → IsBeside other s v
wherever_made d other s w makes beside v again = subst (IsBeside other s) (same_site d w v makes.site again.site (made_alike d v s w.schema again makes.grows)) beside

pub nowhere_made : (d other : Parts) (s : Schema) (w : Site) → Makes d s w → ¬ IsBeside other s w → (v : Site) → Makes d s v → ¬ IsBeside other s v
nowhere_made d other s w makes none v again beside = none (wherever_made d other s v again beside w makes)

-- what an open may commit
pub may_make : (d other : Parts) (owner : ℕ) (old new : State) (w : Site) → HasNone d.tables old.now.schema → Makes d old.now.schema w → IsBeside other old.now.schema w → Survives old new (λ trees. MayGrow d old.now.schema → MadeFrom d owner old.now trees) → Survives old new (MayMakeBeside d other owner old)
may_make d other owner old new w none makes beside = survives_weaker old new _ _ (λ clean trees made.
    let grows : MayGrow d old.now.schema = record { site = w; makes = makes } in
    let it = made grows in
    record {
      made = (none, (w, makes, it.0, it.1.each w makes, it.2), subst (KeepsRows old.now.schema.tables old.now.trees) (sym it.2) it.1.others);
      beside = wherever_made d other old.now.schema w makes beside;
    })
