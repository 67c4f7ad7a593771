use Rattle.std.proofs.Common.{rules, ◌≡◌, ◌+◌, ◌++◌, ◌∷◌, [], take, map, sym, ◌∙◌, ap, ℕ, List}
use Rattle.std.proofs.lemmas.List.{take_more, map-append}
use Rattle.std.proofs.lemmas.Option.{slice_get_within, get_or_from_slice_get}
use Rattle.std.specs.Prelude.{slice_get, Some}
use Rattle.fare_scheme.proofs.Slices.{item_at}
use Rattle.fare_settle.specs.Values.{SettledValue}
use Rattle.fare_settle.specs.Settling.{share_of}
use Rattle.fare_settle.proofs.settling.settle.Goals as goal

pub loop-operator-preserved : goal.loop-operator-preserved
loop-operator-preserved c =
    let operators = c.args.scheme.now.operators in
    let place = c.loop-operator.operator-index in
    let operator = c.operator-item.result in
    let charges = c.in_ok-charges.charges.items in
    let here : slice_get operators place ≡ Some operator = ap (λ ids. slice_get ids place) (sym c.operators-operator-items.ensures.value) ∙ item_at c.operators-operator-items.result.now place operator c.loop-operator-test.true c.operator-item.is in
    let grown : take (place + 1) operators ≡ take place operators ++ operator ∷ [] =
    take_more operators place operator (slice_get_within operators place operator here) ∙ ap (λ (o : ℕ). take place operators ++ o ∷ []) (get_or_from_slice_get operators place operator operator here) in
    let pushed : c.push.new.self.items ≡ c.loop-operator.shares.items ++ share_of charges operator ∷ [] =
    c.in_ok-push.ensures.items ∙ ap (λ (s : SettledValue). c.loop-operator.shares.items ++ s ∷ []) (search rules) in
    pushed ∙ ap (λ (l : List SettledValue). l ++ share_of charges operator ∷ []) c.loop-operator.invariant
    ∙ sym (ap (map (share_of charges)) grown ∙ map-append (share_of charges) (take place operators) (operator ∷ []))
