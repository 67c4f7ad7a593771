use Rattle.std.proofs.Common.{inl, inr}
use Rattle.fare_tables.proofs.changing.commit.Goals as goal

pub returns-in-Err-clause-undone : goal.returns-in-Err-clause-undone
returns-in-Err-clause-undone g c clean = elim (c.in-Err.ensures.err clean) [
  | inl failed ↦ inl failed.3
  | inr over ↦ inr (over.1, over.2)
]
