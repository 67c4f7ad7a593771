use Rattle.std.proofs.Common.{◌≡◌, sym, ◌∙◌}
use Rattle.std.specs.Prelude.{slice_get, Some}
use Rattle.fare_growth.specs.Entries.{names}
use Rattle.fare_growth.proofs.Searching.{changed_here, changed_behind}
use Rattle.fare_growth.proofs.growth.first_changed.Goals as goal

pub returns-then-is_changed : goal.returns-then-is_changed
returns-then-is_changed c =
    let here : slice_get (names c.args.kept.now) c.loop-place.place ≡ Some c.in-Some.entry = sym c.entry_at.ensures ∙ c.in-Some.is in
    sym (changed_here c.args.kept.now c.args.later.now c.requires.kept c.requires.later c.loop-place.place c.in-Some.entry c.is_changed.result here c.is_changed.ensures c.if-is_changed.true) ∙ c.loop-place.invariant

pub loop-place-preserved : goal.loop-place-preserved
loop-place-preserved c =
    let here : slice_get (names c.args.kept.now) c.loop-place.place ≡ Some c.in-Some.entry = sym c.entry_at.ensures ∙ c.in-Some.is in
    sym (changed_behind c.args.kept.now c.args.later.now c.requires.kept c.requires.later c.loop-place.place c.in-Some.entry c.is_changed.result here c.is_changed.ensures c.if-is_changed.false) ∙ c.loop-place.invariant
