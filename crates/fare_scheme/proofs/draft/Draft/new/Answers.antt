use Rattle.fare_scheme.proofs.draft.Draft.new.Goals as goal
use Rattle.fare_scheme.proofs.Adding.{empty_draft-IsDraft}

pub invariant_of-result : goal.invariant_of-result
invariant_of-result c =
    rw (c.new.ensures.empty, c.new-2.ensures.items, c.new-3.ensures.empty, c.new-4.ensures.empty, c.new-5.ensures.empty) empty_draft-IsDraft
