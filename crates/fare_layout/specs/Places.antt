-- Where a store's tables stand.
use Rattle.std.specs.Prelude.{◌≢◌, ℕ, List, [], ◌∷◌, slice_get, Option, Some, None}
use Rattle.std.specs.List.{AllByRecursion}
use Rattle.fare_layout.specs.declared.place.Place.{Place}
use Rattle.fare_layout.specs.declared.place.Places.{Places}
use Rattle.fare_layout.specs.declared.place.TableNumber.{TableNumber}

abbrev pub all_of : Places → List Place
all_of p = p.all

-- a place, or one where nothing stands
abbrev pub or_nowhere : Option Place → Place
or_nowhere (Some place) = place
or_nowhere None = record { at = 0; tree = 0 }

abbrev pub place_of : Places → TableNumber → Place
place_of p k = or_nowhere (slice_get (all_of p) k.number)

-- none of the places has this tree
abbrev pub IsApartFrom : ℕ → List Place → Type 0
IsApartFrom tree places = AllByRecursion (λ (q : Place). tree ≢ q.tree) places

-- each place has a tree of its own
abbrev pub AreApart : List Place → Type 0
AreApart [] = Unit {0}
AreApart (p ∷ places) = IsApartFrom p.tree places × AreApart places
