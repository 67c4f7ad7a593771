-- When two settlements are the same: their shares are, one by one.
use Rattle.std.specs.Prelude.{Bool, List, nat_eq}
use Rattle.std.specs.Ordering.{eq_of_both, on}
use Rattle.std.specs.Cmp.{IsEquivalence}
use Rattle.std.specs.Cmp.Lexicographic.{pointwise}
use Rattle.std.proofs.lemmas.Cmp.{and_equiv, on_equiv, nat_eq_equiv, lists_equiv}
use Rattle.fare_settle.specs.declared.route_share.RouteShare.{RouteShare}
use Rattle.fare_settle.specs.Values.{SettledValue}

abbrev pub same_route : RouteShare → RouteShare → Bool
same_route = eq_of_both (on (λ r. r.route) nat_eq) (eq_of_both (on (λ r. r.taps) nat_eq) (on (λ r. r.amount) nat_eq))

abbrev pub same_share : SettledValue → SettledValue → Bool
same_share =
    eq_of_both (on (λ s. s.operator) nat_eq) (eq_of_both (on (λ s. s.taps) nat_eq) (eq_of_both (on (λ s. s.amount) nat_eq) (on (λ s. s.routes) (pointwise same_route))))

abbrev pub same_settlement : List SettledValue → List SettledValue → Bool
same_settlement = pointwise same_share

-- that is an equivalence
same_route_equiv : IsEquivalence same_route
same_route_equiv = and_equiv (on_equiv (λ (r : RouteShare). r.route) nat_eq_equiv) (and_equiv (on_equiv (λ (r : RouteShare). r.taps) nat_eq_equiv) (on_equiv (λ (r : RouteShare). r.amount) nat_eq_equiv))

pub same_share_equiv : IsEquivalence same_share
same_share_equiv =
    and_equiv (on_equiv (λ (s : SettledValue). s.operator) nat_eq_equiv)
    (and_equiv (on_equiv (λ (s : SettledValue). s.taps) nat_eq_equiv)
    (and_equiv (on_equiv (λ (s : SettledValue). s.amount) nat_eq_equiv) (on_equiv (λ (s : SettledValue). s.routes) (lists_equiv same_route_equiv))))

pub same_settlement_equiv : IsEquivalence same_settlement
same_settlement_equiv = lists_equiv same_share_equiv
