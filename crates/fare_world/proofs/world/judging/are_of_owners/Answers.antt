use Rattle.std.proofs.Common.{◌≡◌, None, Some, length, refl, sym, ap, ◌∙◌, arith}
use Rattle.std.specs.Prelude.{option_map, slice_get}
use Rattle.std.proofs.lemmas.Bool.Decides.{nat_tests}
use Rattle.std.proofs.lemmas.Grind.{common_steps}
use Rattle.std.proofs.lemmas.Option.{slice_get_read, slice_get_within, same_Some}
use Rattle.fare_scheme.specs.Words.{id_at}
use Rattle.fare_side.proofs.Positions.{element_at}
use Rattle.fare_world.proofs.Emptiness.{one_owned}
use Rattle.fare_world.proofs.world.judging.are_of_owners.Goals as goal

pub loop-place-init : goal.loop-place-init
loop-place-init g c = λ k x lt. absurd (omega (arith, lt))

pub unreachable-requires : goal.unreachable-requires
unreachable-requires g c =
    let count : length c.args.ledgers.now ≡ length c.args.scheme.now.owners = grind (arith, nat_tests, common_steps) in
    let found = element_at c.args.scheme.now.owners c.loop-place.place (omega (arith, c.loop-place-test.true, count)) in
    let none : None ≡ id_at c.args.scheme.now.owners c.loop-place.place = sym c.in_default.is ∙ c.owner_at.ensures.value in
    let some : id_at c.args.scheme.now.owners c.loop-place.place ≡ Some found.0.0 = ap (option_map (λ e. e.0)) found.1 in
    absurd (let no = none ∙ some in cc)

pub returns-then-ne : goal.returns-then-ne
returns-then-ne g c =
    let led = g.L.Ledger.standing in
    let xs = c.args.ledgers.now in
    let k = c.loop-place.place in
    let y = c.index-ledgers-place.result in
    let here : slice_get xs k ≡ Some y = slice_get_read xs (length xs) k y refl c.loop-place-test.true c.index-ledgers-place.is in
    let own : c.owner.result ≡ (led y).value.owner = c.owner.ensures in (
      λ t. absurd (cc),
      λ all. absurd (
          let is : (led y).value.owner ≡ c.in-Some.owner = same_Some _ _ (sym (all.each k y here) ∙ sym c.owner_at.ensures.value ∙ c.in-Some.is) in
          grind (arith, nat_tests, common_steps)),
    )

pub loop-place-preserved : goal.loop-place-preserved
loop-place-preserved g c =
    let led = g.L.Ledger.standing in
    let xs = c.args.ledgers.now in
    let k = c.loop-place.place in
    let y = c.index-ledgers-place.result in
    let here : slice_get xs k ≡ Some y = slice_get_read xs (length xs) k y refl c.loop-place-test.true c.index-ledgers-place.is in
    let own : c.owner.result ≡ (led y).value.owner = c.owner.ensures in
    let same : c.in-Some.owner ≡ c.owner.result = grind (arith, nat_tests, common_steps) in
    one_owned led c.args.scheme.now xs k y c.loop-place.invariant here (sym c.owner_at.ensures.value ∙ c.in-Some.is ∙ ap Some (same ∙ own))

pub returns : goal.returns
returns g c =
    let count : length c.args.ledgers.now ≡ length c.args.scheme.now.owners = grind (arith, nat_tests, common_steps) in
    (λ t. record { count = count; each = λ k x e. c.loop-place.invariant k x (let lt = slice_get_within c.args.ledgers.now k x e in omega (arith, lt, c.loop-place-test.false)) e }, λ all. refl)
