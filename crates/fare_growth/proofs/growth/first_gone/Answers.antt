use Rattle.std.proofs.Common.{◌≡◌, sym, ◌∙◌}
use Rattle.std.specs.Prelude.{slice_get, not, Some}
use Rattle.fare_growth.specs.Entries.{names}
use Rattle.fare_growth.specs.Growth.{has_name}
use Rattle.fare_growth.proofs.Searching.{found_here, goes_on}
use Rattle.fare_growth.proofs.growth.first_gone.Goals as goal

pub returns-then-is_gone : goal.returns-then-is_gone
returns-then-is_gone c =
    let here : slice_get (names c.args.kept.now) c.loop-place.place ≡ Some c.in-Some.entry = sym c.entry_at.ensures ∙ c.in-Some.is in
    sym (found_here (λ name. not (has_name (names c.args.later.now) name)) (names c.args.kept.now) c.loop-place.place c.in-Some.entry here (sym c.is_gone.ensures ∙ c.if-is_gone.true))
    ∙ c.loop-place.invariant

pub loop-place-preserved : goal.loop-place-preserved
loop-place-preserved c =
    let here : slice_get (names c.args.kept.now) c.loop-place.place ≡ Some c.in-Some.entry = sym c.entry_at.ensures ∙ c.in-Some.is in
    sym (goes_on (λ name. not (has_name (names c.args.later.now) name)) (names c.args.kept.now) c.loop-place.place c.in-Some.entry here (sym c.is_gone.ensures ∙ c.if-is_gone.false))
    ∙ c.loop-place.invariant
