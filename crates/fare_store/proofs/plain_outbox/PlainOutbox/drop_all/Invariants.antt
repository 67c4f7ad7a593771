use Rattle.std.proofs.Common.{◌≡◌, take}
use Rattle.fare_store.specs.OutboxWords.{pruned_all}
use Rattle.fare_store.specs.PlainOutboxWords.{plain_outbox}
use Rattle.fare_store.proofs.plain_outbox.PlainOutbox.drop_all.Given as goal

abbrev pub invariant-loop-place : goal.invariant-loop-place
invariant-loop-place l = plain_outbox l.self ≡ pruned_all l.fn.owner (take l.place l.lanes) (plain_outbox l.fn.self)
