use Rattle.std.proofs.Common.{◌≡◌, take, map}
use Rattle.fare_record.specs.declared.item.Item.TheVariants.{Tap}
use Rattle.fare_session.proofs.batching.lead.Given as goal

abbrev pub invariant-loop-place : goal.invariant-loop-place
invariant-loop-place l = take l.place l.items ≡ map Tap (take l.place l.rows)
