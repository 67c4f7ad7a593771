-- What is seen of a world's owners, and of its outbox, after the code wrote them.
use Rattle.std.proofs.Common.{◌≡◌, ℕ, ◌<◌, List, length, set, get_or, Some, refl, sym, ap, ◌∙◌, subst, arith}
use Rattle.std.specs.Prelude.{map, slice_get, option_map}
use Rattle.std.proofs.lemmas.List.{map-set, length-map}
use Rattle.std.proofs.Math.Seq.{map-set_same}
use Rattle.std.proofs.lemmas.Option.{slice_get_read, slice_get-map, get_or_from_slice_get}
use Rattle.fare_scheme.specs.Words.{position_of_owner}
use Rattle.fare_store.specs.Standing.{Standing}
use Rattle.fare_store.specs.OutboxWords.{OutboxValue}
use Rattle.fare_store.specs.LedgerWords.{LedgerValue}
use Rattle.fare_side.specs.declared.owner.Owner.{Owner}
use Rattle.fare_event.specs.declared.reply.Reply.{Reply}
use Rattle.fare_world.specs.System.{System}
use Rattle.fare_world.specs.Shown.{entry, OwnerShape, Shape}
use Rattle.fare_world.specs.Whole.{Seen, owner_seen, shape}
use Rattle.fare_world.proofs.Showing.{Answers}

module _ {L : Type 0} (led : L → Standing LedgerValue) where
  -- an owner that the code read
  pub owner_at : (xs : List (Owner L)) (a : ℕ) (y : Owner L) → a < length xs → y ≡ get_or xs a y → owner_seen led y ≡ get_or (map (owner_seen led) xs) a (owner_seen led y)
  owner_at xs a y within e =
      let here = slice_get_read xs (length xs) a y refl within e in
      sym (get_or_from_slice_get (map (owner_seen led) xs) a (owner_seen led y) (owner_seen led y) (slice_get-map (owner_seen led) xs a ∙ ap (option_map (owner_seen led)) here))

  pub within_seen : (xs : List (Owner L)) (a : ℕ) → a < length xs → a < length (map (owner_seen led) xs)
  within_seen xs a lt = omega (arith, lt, length-map xs (owner_seen led))

  pub owners_set : (xs : List (Owner L)) (a : ℕ) (new : Owner L) → map (owner_seen led) (set xs a new) ≡ set (map (owner_seen led) xs) a (owner_seen led new)
  owners_set xs a new = map-set (owner_seen led) xs a new

module _ {L : Type 0} (led : L → Standing LedgerValue) where
  -- an owner that is seen as it was
  pub owners_kept : (xs : List (Owner L)) (a : ℕ) (y new : Owner L) → y ≡ get_or xs a y → owner_seen led new ≡ owner_seen led y → map (owner_seen led) (set xs a new) ≡ map (owner_seen led) xs
  owners_kept xs a y new e same = map-set_same (owner_seen led) xs a new y (same ∙ ap (owner_seen led) e)

  -- the place of one that the code read
  pub owner_here : (xs : List (Owner L)) (a : ℕ) (y : Owner L) → a < length xs → y ≡ get_or xs a y → slice_get xs a ≡ Some y
  owner_here xs a y within e = slice_get_read xs (length xs) a y refl within e

-- a world with these owners and this outbox
abbrev pub shape_of : Seen → OutboxValue → List OwnerShape → Shape
shape_of w outbox owners = record (shape w) { outbox = outbox; owners = λ j. entry (position_of_owner w.scheme j) owners }

pub over : (w : Seen) (was outbox : OutboxValue) (before owners : List OwnerShape) (y : System × Reply) (r : Reply) → outbox ≡ was → owners ≡ before → Answers w.scheme (shape_of w was before) y r → Answers w.scheme (shape_of w outbox owners) y r
over w was outbox before owners y r same_outbox same_owners =
    subst (λ (q : OutboxValue × List OwnerShape). Answers w.scheme (shape_of w q.0 q.1) y r) (λ i. (sym same_outbox i, sym same_owners i))
