-- No keyword has more numbers than it has kinds of them.
use Rattle.std.proofs.Common.{◌<◌, ◌≤◌, ℕ, List, [], ◌∷◌, length, nat_lt, refl, arith}
use Rattle.std.specs.Prelude.{Option, None, Some, IfNone}
use borrow.Author.Tests.{ltb-true}
use Rattle.fare_lines.specs.declared.keyword.EventKeyword.{EventKeyword}
use Rattle.fare_lines.specs.declared.keyword.SchemeKeyword.{SchemeKeyword}
use Rattle.fare_lines.specs.declared.keyword.SchemeKeyword.TheVariants.{Owner, Operator, Station, Product, Caps, Hop, Device, Inbox, Start, Seal, Demo}
use Rattle.fare_lines.specs.declared.keyword.Keyword.{Keyword}
use Rattle.fare_lines.specs.declared.keyword.Keyword.TheVariants.{OfScheme, OfEvent}
use Rattle.fare_lines.specs.Grammar.{Kind, AreOf, event_keyword_kinds, keyword_kinds, scheme_keyword_kinds}
use Rattle.fare_lines.proofs.Keywords.{every}

no_more_than_kinds : (ks : List Kind) (ns : List ℕ) → AreOf ks ns → length ns ≤ length ks
no_more_than_kinds [] [] fits = omega arith
no_more_than_kinds [] (n ∷ ns) fits = absurd fits
no_more_than_kinds (k ∷ ks) [] fits = omega arith
no_more_than_kinds (k ∷ ks) (n ∷ ns) fits = let below = no_more_than_kinds ks ns fits.1 in omega arith

-- so many numbers are too many for any keyword of its kind
abbrev too_many : Keyword → ℕ
too_many (OfScheme keyword) = 5
too_many (OfEvent keyword) = 6

kinds_are_few : (k : Keyword) → length (keyword_kinds k) < too_many k
kinds_are_few k = ltb-true (length (keyword_kinds k)) (too_many k) (every (λ j. nat_lt (length (keyword_kinds j)) (too_many j)) refl k)

pub too_many_for_scheme : (k : SchemeKeyword) (ns : List ℕ) → 5 ≤ length ns → AreOf (scheme_keyword_kinds k) ns → ⊥
too_many_for_scheme k ns many fits =
    let below = no_more_than_kinds (scheme_keyword_kinds k) ns fits in
    let few = kinds_are_few (OfScheme k) in omega arith

pub too_many_for_event : (k : EventKeyword) (ns : List ℕ) → 6 ≤ length ns → AreOf (event_keyword_kinds k) ns → ⊥
too_many_for_event k ns many fits =
    let below = no_more_than_kinds (event_keyword_kinds k) ns fits in
    let few = kinds_are_few (OfEvent k) in omega arith

-- of three numbers of a scheme line the first and the third are below 2^32
three_of_scheme : (k : SchemeKeyword) (a b c : ℕ) → AreOf (scheme_keyword_kinds k) (a ∷ b ∷ c ∷ []) → (a < 4294967296) × (c < 4294967296)
three_of_scheme Owner a b c fits = absurd fits.1.1
three_of_scheme Operator a b c fits = absurd fits.1
three_of_scheme Station a b c fits = absurd fits.1.1
three_of_scheme Product a b c fits = (fits.0, fits.1.1.0)
three_of_scheme Caps a b c fits = (fits.0, fits.1.1.0)
three_of_scheme Hop a b c fits = absurd fits.1.1
three_of_scheme Device a b c fits = (fits.0, fits.1.1.0)
three_of_scheme Inbox a b c fits = absurd fits.1
three_of_scheme Start a b c fits = absurd fits.1
three_of_scheme Seal a b c fits = absurd fits
three_of_scheme Demo a b c fits = absurd fits.1.1.1.0

pub no_three_of_scheme : {X : Type 0} (found : Option X) (k : SchemeKeyword) (a b c : ℕ) → ((a < 4294967296) × (c < 4294967296) → ⊥) → IfNone found (AreOf (scheme_keyword_kinds k) (a ∷ b ∷ c ∷ []) → ⊥)
no_three_of_scheme None k a b c wide = λ fits. wide (three_of_scheme k a b c fits)
no_three_of_scheme (Some x) k a b c wide = tt
