use Rattle.std.proofs.Common.{◌≡◌, take, map}
use Rattle.fare_record.specs.declared.item.Item.TheVariants.{Tap}
use Rattle.fare_writer.specs.Entries.{item_of}
use Rattle.fare_writer.proofs.leading.lead.Given as goal

abbrev pub invariant-loop-place : goal.invariant-loop-place
invariant-loop-place l = map item_of (take l.place l.items) ≡ map Tap (take l.place l.rows)
