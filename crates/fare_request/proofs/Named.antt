-- What a request names and asks, of which there is one at most.
use Rattle.std.proofs.Common.{◌≡◌, ℕ, List, sym, subst, ◌∙◌, inr}
use Rattle.std.specs.Prelude.{Option, Some, None, MatchOption}
use Rattle.http.specs.declared.request.Parts.{Parts}
use Rattle.http_uri.specs.Uri.{uri_path, uri_query}
use Rattle.fare_request.specs.Asking.{Asks, AsksAt, IsOurs, IsOwnerWith, Names, path_of}
use Rattle.fare_request.specs.declared.ask.Ask.{Ask}
use Rattle.fare_request.specs.declared.ask.Ask.TheVariants as ask
use Rattle.fare_request.specs.declared.ask.Mistake.TheVariants as mistake
use Rattle.fare_request.specs.declared.ask.Place.{Place}
use Rattle.fare_request.proofs.Words.{one_owner_with}

-- the query is the one that the request has
module _ (key : List ℕ) (p : Parts) where
  pub of_query : (query other : List ℕ) → uri_query p.uri ≡ Some query → uri_query p.uri ≡ Some other → other ≡ query
  of_query query other is was = let both : Some query ≡ Some other = sym is ∙ was in (let same : query ≡ other = cc in sym same)

  pub named : (query : List ℕ) (r : Option (ℕ × ℕ)) → uri_query p.uri ≡ Some query → MatchOption r ((owner n : ℕ) → ¬ (IsOwnerWith key query owner n)) (λ said. IsOwnerWith key query said.0 said.1) → MatchOption r ((owner n : ℕ) → ¬ (Names key p owner n)) (λ said. Names key p said.0 said.1)
  named query None is h = λ owner n w. h owner n (subst (λ (q : List ℕ). IsOwnerWith key q owner n) (of_query query w.0 is w.1) w.2)
  named query (Some said) is h = (query, is, h)

  pub one_named : (owner n other m : ℕ) → Names key p owner n → Names key p other m → (owner ≡ other) × (n ≡ m)
  one_named owner n other m v w = one_owner_with key v.0 owner n other m v.2 (subst (λ (q : List ℕ). IsOwnerWith key q other m) (of_query v.0 w.0 v.1 w.1) w.2)

-- what is asked at a place is asked
pub asks_at : (p : Parts) (at : Place) (a : Ask) → IsOurs p → uri_path p.uri ≡ path_of at → AsksAt p at a → Asks p a
asks_at p at (ask.Nothing mistake.Foreign) ours path h = inr (ours, (at, path, h))
asks_at p at (ask.Nothing mistake.Nowhere) ours path h = absurd h
asks_at p at (ask.Nothing mistake.WantsGet) ours path h = (ours, (at, path, h))
asks_at p at (ask.Nothing mistake.WantsPost) ours path h = (ours, (at, path, h))
asks_at p at (ask.Nothing mistake.Words) ours path h = (ours, (at, path, h))
asks_at p at ask.Page ours path h = (ours, (at, path, h))
asks_at p at ask.Metrics ours path h = (ours, (at, path, h))
asks_at p at ask.Stand ours path h = (ours, (at, path, h))
asks_at p at (ask.Bill owner day) ours path h = (ours, (at, path, h))
asks_at p at (ask.Settle owner day) ours path h = (ours, (at, path, h))
asks_at p at ask.Close ours path h = (ours, (at, path, h))
asks_at p at (ask.Retire owner device) ours path h = (ours, (at, path, h))
