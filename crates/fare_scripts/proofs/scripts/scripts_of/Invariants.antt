use Rattle.fare_scripts.specs.Sources.{AreSourcesOf}
use Rattle.fare_scripts.proofs.scripts.scripts_of.Given as goal

abbrev pub invariant-loop-place : goal.invariant-loop-place
invariant-loop-place l = AreSourcesOf l.place l.links l.sources.items
