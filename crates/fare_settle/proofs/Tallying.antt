-- Charges, tallied by route.
use Rattle.std.proofs.Common.{◌≡◌, ℕ, ◌+◌, ◌*◌, ◌≤◌, Bool, true, false, cond, ◌==◌, List, [], ◌∷◌, ◌++◌, length, filter, sum_by, Option, Some, None, refl, sym, ◌∙◌, ap, subst, eqb-true, zero-add, arith}
use Rattle.std.specs.Prelude.{nat_eq, unwrap_or}
use Rattle.std.proofs.lemmas.Bool.Decides.{nat_tests}
use Rattle.std.proofs.lemmas.List.{append-nil, length-append}
use Rattle.std.proofs.lemmas.List.Elements.{filter-append}
use Rattle.std.proofs.lemmas.List.Sums.{sum_by-append}
use Rattle.fare_settle.specs.declared.charge.Charge.{Charge}
use Rattle.fare_settle.specs.declared.route_share.RouteShare.{RouteShare}
use Rattle.fare_settle.specs.Routes.{sum_of, charges_on, no_share, with_charge, route_share_of}

-- what the table tells of each route is what these charges come to there, and no more than so many charges can
pub record AreTallied (table : ℕ → RouteShare) (charges : List Charge) (places : ℕ) : Type 0 where
  pub value : (route : ℕ) → table route ≡ route_share_of charges route
  pub few : (route : ℕ) → (table route).taps ≤ places
  pub small : (route : ℕ) → (table route).amount ≤ places * 10000000

share_push : (charges : List Charge) (charge : Charge) (route : ℕ) → route_share_of (charges ++ charge ∷ []) route ≡ cond (charge.route == route) (with_charge (route_share_of charges route) charge) (route_share_of charges route)
share_push charges charge route = ap share (filter-append (λ (c : Charge). c.route == route) charges (charge ∷ [])) ∙ by (charge.route == route)
  where
    share : List Charge → RouteShare
    share own = record { route = route; taps = length own; amount = sum_of own }

    by : (b : Bool) → share (charges_on charges route ++ cond b (charge ∷ []) []) ≡ cond b (with_charge (route_share_of charges route) charge) (route_share_of charges route)
    by true =
        let taps : length (charges_on charges route ++ charge ∷ []) ≡ length (charges_on charges route) + 1 = length-append (charges_on charges route) (charge ∷ []) in
        let amount : sum_of (charges_on charges route ++ charge ∷ []) ≡ sum_of (charges_on charges route) + charge.amount = sum_by-append (λ (c : Charge). c.amount) (charges_on charges route) (charge ∷ []) ∙ ap (λ n. sum_of (charges_on charges route) + n) (zero-add charge.amount) in
        ap (λ (n : ℕ). let r : RouteShare = record { route = route; taps = n; amount = sum_of (charges_on charges route ++ charge ∷ []) } in r) taps
        ∙ ap (λ (n : ℕ). let r : RouteShare = record { route = route; taps = length (charges_on charges route) + 1; amount = n } in r) amount
    by false = ap share (append-nil (charges_on charges route))

-- one charge more
pub tallied_more : (old new : ℕ → RouteShare) (charges : List Charge) (charge : Charge) (places : ℕ) → AreTallied old charges places → charge.amount ≤ 10000000
    → ((route : ℕ) → new route ≡ cond (charge.route == route) (with_charge (old route) charge) (old route)) → AreTallied new (charges ++ charge ∷ []) (places + 1)
tallied_more old new charges charge places so_far capped added = record {
  value = λ route.
      added route ∙ ap (λ (r : RouteShare). cond (charge.route == route) (with_charge r charge) r) (so_far.value route) ∙ sym (share_push charges charge route);
  few = λ route. subst (λ (r : RouteShare). r.taps ≤ places + 1) (sym (added route)) (few_by route (charge.route == route));
  small = λ route. subst (λ (r : RouteShare). r.amount ≤ (places + 1) * 10000000) (sym (added route)) (small_by route (charge.route == route));
}
  where
    few_by : (route : ℕ) (b : Bool) → (cond b (with_charge (old route) charge) (old route)).taps ≤ places + 1
    few_by route true = let h = so_far.few route in omega (arith, h)
    few_by route false = let h = so_far.few route in omega (arith, h)

    small_by : (route : ℕ) (b : Bool) → (cond b (with_charge (old route) charge) (old route)).amount ≤ (places + 1) * 10000000
    small_by route true = let h = so_far.small route in omega (arith, h, capped)
    small_by route false = let h = so_far.small route in omega (arith, h)

nat_is : (x y : ℕ) → nat_eq x y ≡ (x == y)
nat_is x y = grind (arith, nat_tests)

-- a table in which a route has a new share
pub share_updated : (charge : Charge) (old new : ℕ → Option RouteShare) (more : RouteShare)
    → more ≡ with_charge (unwrap_or (old charge.route) (no_share charge.route)) charge
    → ((route : ℕ) → new route ≡ cond (nat_eq charge.route route) (Some more) (old route)) → (route : ℕ)
    → unwrap_or (new route) (no_share route) ≡ cond (charge.route == route) (with_charge (unwrap_or (old route) (no_share route)) charge) (unwrap_or (old route) (no_share route))
share_updated charge old new more is updates route =
    ap (λ (o : Option RouteShare). unwrap_or o (no_share route)) (updates route)
    ∙ ap (λ b. unwrap_or (cond b (Some more) (old route)) (no_share route)) (nat_is charge.route route)
    ∙ by (charge.route == route) refl
  where
    by : (b : Bool) → (charge.route == route) ≡ b
        → unwrap_or (cond b (Some more) (old route)) (no_share route) ≡ cond b (with_charge (unwrap_or (old route) (no_share route)) charge) (unwrap_or (old route) (no_share route))
    by true same = is ∙ ap (λ r. with_charge (unwrap_or (old r) (no_share r)) charge) (eqb-true charge.route route same)
    by false other = refl
