-- Where a store of an older format can be raised, that is found.
use Rattle.std.proofs.Common.{◌≡◌, ◌++◌, ◌+◌, ◌≤◌, ◌<◌, ℕ, zero, suc, List, [], ◌∷◌, length, refl, sym, ap, subst, ◌∙◌, arith}
use Rattle.std.specs.Prelude.{slice_get}
use Rattle.std.specs.List.{AllByRecursion, AllZip}
use Rattle.std.proofs.lemmas.List.{length-append}
use Rattle.sqlite.specs.Change.{created}
use Rattle.sqlite.specs.Schema.{Schema}
use Rattle.sqlite.specs.Table.{Table}
use Rattle.fare_tables.specs.Making.{no_schema}
use Rattle.fare_layout.specs.declared.place.Place.{Place}
use Rattle.fare_layout.specs.Places.{all_of, or_nowhere}
use Rattle.fare_layout.specs.Growing.{CanMakeAll, GrowsBy, AreLast, GoOn}
use Rattle.fare_layout.specs.Layouts.{Stands}
use Rattle.fare_layout.proofs.Again.{same_grown, same_ok}
use Rattle.fare_opening.specs.declared.site.Site.{Site}
use Rattle.fare_opening.specs.Parts.{Parts, OlderParts, IsDesign, IsOlder, HasFewKeys, parts_of}
use Rattle.fare_opening.specs.Raising.{Rises}
use Rattle.fare_opening.specs.Sites.{IsSite}
use Rattle.fare_opening.proofs.Grown.{past_nth}
use Rattle.fare_opening.proofs.Standing.{same_at, place_count}
use Rattle.fare_opening.proofs.Vacant.{again_all}

-- ---- the tables that it lacks can be made

can_behind : (xs ys : List (List ℕ × List ℕ)) (s mid : Schema) → CanMakeAll s (xs ++ ys) → GrowsBy s xs mid → CanMakeAll mid ys
can_behind [] ys s mid can same = subst (λ x. CanMakeAll x ys) same can
can_behind (x ∷ xs) ys s mid can grows =
    let same : grows.1.table ≡ can.0 = same_ok (sym grows.1.defines.defined ∙ can.1.defined) in
    let next : created s can.0 ≡ grows.0 = ap (created s) (sym same) ∙ sym grows.1.next_is in
    can_behind xs ys grows.0 mid (subst (λ t. CanMakeAll t (xs ++ ys)) next can.2) grows.2

few_behind : (xs ys : List (List ℕ × List ℕ)) → AllByRecursion (λ (t : List ℕ × List ℕ). HasFewKeys t.1) (xs ++ ys) → AllByRecursion (λ (t : List ℕ × List ℕ). HasFewKeys t.1) ys
few_behind [] ys few = few
few_behind (x ∷ xs) ys few = few_behind xs ys few.1

-- the tables behind those of the older format
pub record AreBehind (last s : Schema) (many from : ℕ) : Type 0 where
  pub rest : List Table
  pub places : List Place
  pub stand : AllZip (Stands last) rest places
  pub last_there : AreLast s places
  pub count : many ≡ from + length rest

behind : (last s : Schema) (owns : List Table) (from to : List Place) → AllZip (Stands last) owns to → GoOn s from to → AreBehind last s (length owns) (length from)
behind last s owns [] to z goes = record { rest = owns; places = to; stand = z; last_there = goes; count = omega arith }
behind last s [] (p ∷ from) [] z goes = absurd goes
behind last s [] (p ∷ from) (q ∷ to) z goes = absurd z
behind last s (t ∷ owns) (p ∷ from) [] z goes = absurd z
behind last s (t ∷ owns) (p ∷ from) (q ∷ to) z goes =
    let it = behind last s owns from to z.1 goes.1 in
    let count = it.count in
    record { rest = it.rest; places = it.places; stand = it.stand; last_there = it.last_there; count = omega (arith, count) }

pub rises_again : (d : Parts) (o : OlderParts) (s : Schema) (v w : Site) → IsDesign d → IsOlder d o → Rises d o s v w → CanMakeAll s o.missing
rises_again d o s v w design older rises =
    let it = behind w.schema s d.own.tables (all_of v.places) (all_of w.places) rises.site.stands rises.places in
    let can = can_behind o.tables o.missing no_schema o.own (subst (CanMakeAll no_schema) older.tables_are design.can) older.design.grows in
    let few = few_behind o.tables o.missing (subst (AllByRecursion (λ (t : List ℕ × List ℕ). HasFewKeys t.1)) older.tables_are design.few) in
    let all = ap length older.tables_are ∙ length-append o.tables o.missing in
    let placed = place_count v.schema o.own.tables (all_of v.places) rises.from.stands in
    let new_many = design.many in
    let old_many = older.design.many in
    let count = it.count in
    let many : length it.rest ≡ length o.missing = omega (arith, all, placed, new_many, old_many, count) in
    again_all o.missing s o.own w.schema it.rest it.places many rises.grows can few it.stand it.last_there

-- ---- and stand where they would

pub rises_alike : (d : Parts) (o : OlderParts) (s : Schema) (v w a b : Site) → Rises d o s v w → IsSite (parts_of o) a → s ≡ a.schema → IsSite d b → GrowsBy s o.missing b.schema → GoOn s (all_of a.places) (all_of b.places)
rises_alike d o s v w a b rises from has site grows =
    let froms : all_of v.places ≡ all_of a.places = same_at (parts_of o) v a rises.from from (sym rises.has ∙ has) in
    let grown : w.schema ≡ b.schema = same_grown o.missing s s w.schema b.schema refl rises.grows grows in
    let tos : all_of w.places ≡ all_of b.places = same_at d w b rises.site site grown in
    subst (λ x. GoOn s x (all_of b.places)) froms (subst (GoOn s (all_of v.places)) tos rises.places)

-- ---- places behind the older ones are past those of all tables that were there

pub past_go : (s : Schema) (from to : List Place) → GoOn s from to → (k : ℕ) → length from ≤ k → k < length to → length s.tables ≤ (or_nowhere (slice_get to k)).at
past_go s [] to goes k past low = past_nth (length s.tables) to goes k low
past_go s (p ∷ from) [] goes k past low = absurd goes
past_go s (p ∷ from) (q ∷ to) goes zero past low = absurd (omega (arith, past))
past_go s (p ∷ from) (q ∷ to) goes (suc k) past low = past_go s from to goes.1 k (omega (arith, past)) (omega (arith, low))

-- and the older ones are the same
pub nth_goes : (s : Schema) (from to : List Place) → GoOn s from to → (k : ℕ) → k < length from → or_nowhere (slice_get from k) ≡ or_nowhere (slice_get to k)
nth_goes s [] to goes k low = absurd (omega (arith, low))
nth_goes s (p ∷ from) [] goes k low = absurd goes
nth_goes s (p ∷ from) (q ∷ to) goes zero low = goes.0
nth_goes s (p ∷ from) (q ∷ to) goes (suc k) low = nth_goes s from to goes.1 k (omega (arith, low))
