use Rattle.std.proofs.Common.{subst}
use Rattle.std.proofs.lemmas.Result.{IfOk-weaker}
use Rattle.fare_layout.specs.Growing.{HasNone}
use Rattle.fare_opening.proofs.Neighbors.{all_beside}
use Rattle.fare_opening.proofs.Standing.{not_true}
use Rattle.fare_opening.proofs.beside.are_beside.Goals as goal
use Rattle.fare_opening.proofs.beside.are_beside.Goals.{else-has_none-via-then-has_none+else-not-has_none, else-has_none-via-else-has_none}

pub returns : goal.returns
returns c =
    let s = c.args.schema.now in
    let w = c.args.site.now in
    let free : HasNone _ s → HasNone _ w.schema = elim c.else-has_none.branch [
      | else-has_none-via-then-has_none+else-not-has_none b ↦ (λ none. b.has_none-then-has_none.ensures.0 b.if-not-has_none.false)
      | else-has_none-via-else-has_none b ↦ (λ none. absurd (not_true c.has_none.result b.if-has_none.false (c.has_none.ensures.1 none)))
    ] in
    IfOk-weaker c.stand_apart.result _ _ (λ right is p design tables texts. all_beside p s w right (subst (λ t. HasNone t s → HasNone t w.schema) tables free) (is p design tables texts)) c.stand_apart.ensures
