use Rattle.std.proofs.Common.{◌≡◌, ◌++◌, ◌∷◌, [], ◌∙◌, ℕ, ap, sym, map, List}
use Rattle.std.proofs.lemmas.List.{append_assoc}
use Rattle.std.proofs.lemmas.Map.Iter.{rest_more}
use Rattle.std.specs.Map.Iter.{deref}
use Rattle.fare_settle.specs.declared.route_share.RouteShare.{RouteShare}
use Rattle.fare_settle.specs.Routes.{route_share_of}
use Rattle.fare_settle.proofs.routes.shares_by_route.Goals as goal

pub loop-route-preserved : goal.loop-route-preserved
loop-route-preserved c =
    let share = route_share_of c.args.charges.now in
    let route = c.in-Some.route.now in
    let rest : c.loop-route.route-iterator ≡ route ∷ c.next.new.self = rest_more deref _ _ _ _ c.in-Some.is c.next.ensures.steps in
    let same : c.get.result ≡ share route = c.get.ensures ∙ c.in_ok-tally.ensures route in
    let pushed : c.push.new.self.items ≡ c.loop-route.shares.items ++ share route ∷ [] = c.in_ok-push.ensures.items ∙ ap (λ (r : RouteShare). c.loop-route.shares.items ++ r ∷ []) same in
    ap (λ (l : List RouteShare). l ++ map share c.next.new.self) pushed
    ∙ append_assoc c.loop-route.shares.items (share route ∷ []) (map share c.next.new.self)
    ∙ ap (λ (l : List ℕ). c.loop-route.shares.items ++ map share l) (sym rest)
    ∙ c.loop-route.invariant
