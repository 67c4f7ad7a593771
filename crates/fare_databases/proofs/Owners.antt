-- A value for each owner, from one for each place of a scheme.
use Rattle.std.proofs.Common.{◌≡◌, ◌<◌, ℕ, List, Some, length, refl, sym, subst, arith}
use Rattle.std.specs.Prelude.{None, Option}
use Rattle.fare_scheme.specs.Facts.{IsScheme}
use Rattle.fare_scheme.specs.Values.{SchemeValue}
use Rattle.fare_scheme.specs.Words.{id_at, position_of_owner}
use Rattle.fare_scheme.proofs.Known.{positions}
use Rattle.fare_sessions.proofs.Follow.{has_place}
use Rattle.fare_databases.proofs.Held.{element_of}

-- the place of an owner is one of a list that has as many
pub place_within : {X : Type 0} (sc : SchemeValue) (xs : List X) → length xs ≡ length sc.owners → (place owner : ℕ) → id_at sc.owners place ≡ Some owner → place < length xs
place_within sc xs many place owner at =
    let e = element_of sc.owners place owner at in
    let lt = has_place sc.owners place e.0 e.1 in
    omega (arith, lt, many)

module _ {V : Type 0} (sc : SchemeValue) (valid : IsScheme sc) (any : ℕ → V) (at_place : (place owner : ℕ) → id_at sc.owners place ≡ Some owner → V) where
  of_place : (owner : ℕ) (o : Option ℕ) → position_of_owner sc owner ≡ o → V
  of_place owner None e = any owner
  of_place owner (Some place) e = at_place place owner (((positions sc valid).owners owner place).0 e)

  -- that of its place, or any where it isn't registered
  pub by_owner : ℕ → V
  by_owner owner = of_place owner (position_of_owner sc owner) refl

  -- what is so at each place is so of its owner
  module _ (IsSo : ℕ → ℕ → V → Type 0) (so : (place owner : ℕ) (at : id_at sc.owners place ≡ Some owner) → IsSo place owner (at_place place owner at)) where
    of_place_is : (place owner : ℕ) (o : Option ℕ) (e : position_of_owner sc owner ≡ o) → o ≡ Some place → IsSo place owner (of_place owner o e)
    unfolding of_place
    of_place_is place owner None e is = let both : ◌≡◌ {A = Option ℕ} None (Some place) = is in absurd (cc)
    of_place_is place owner (Some other) e is =
        let here : other ≡ place = cc in
        subst (λ p. IsSo p owner (of_place owner (Some other) e)) here (so other owner (((positions sc valid).owners owner other).0 e))

    pub by_owner_is : (place owner : ℕ) → id_at sc.owners place ≡ Some owner → IsSo place owner (by_owner owner)
    unfolding by_owner
    by_owner_is place owner at = of_place_is place owner (position_of_owner sc owner) refl (((positions sc valid).owners owner place).1 at)

  pub by_owner_none : (owner : ℕ) → position_of_owner sc owner ≡ None → by_owner owner ≡ any owner
  unfolding by_owner of_place
  by_owner_none owner unknown = by (position_of_owner sc owner) refl unknown
    where
      by : (o : Option ℕ) (e : position_of_owner sc owner ≡ o) → o ≡ None → of_place owner o e ≡ any owner
      by None e is = refl
      by (Some place) e is = let both : ◌≡◌ {A = Option ℕ} None (Some place) = sym is in absurd (cc)
