use Rattle.fare_layout.proofs.schemas.+same_term.Given as goal

abbrev pub decreases-same_term : goal.decreases-same_term
decreases-same_term l = l.depth
