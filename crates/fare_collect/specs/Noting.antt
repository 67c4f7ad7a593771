-- The days that are acknowledged once more at the end of a session.
use Rattle.std.specs.Prelude.{◌≡◌, All, List, [], Some, map, filter, fold}
use Rattle.fare_record.specs.declared.item.Item.{Item}
use Rattle.fare_record.specs.declared.ack_item.AckItem.{AckItem}
use Rattle.fare_record.specs.declared.ack_item.AckItem.TheVariants.{Day}
use Rattle.fare_scheme.specs.Values.{SchemeValue}
use Rattle.fare_scheme.specs.Words.{position_of_device}
use Rattle.fare_store.specs.Keys.{Key}
use Rattle.fare_store.specs.OutboxWords.{OutboxValue}
use Rattle.fare_route.specs.Stating.{are_all_stated}
use Rattle.fare_writer.specs.Noting.{noting}

-- the days that the statements among these items name, each once
abbrev pub days_named : SchemeValue → List Item → List Key
days_named sc items = fold (noting sc) [] items

-- each stands behind its device's place
abbrev pub AreNoted : SchemeValue → List Key → Type 0
AreNoted sc days = All (λ k. position_of_device sc k.1 ≡ Some k.0) days

-- the acknowledgement of such a day
abbrev pub day_ack : Key → AckItem
day_ack k = Day (record { device = k.1; day = k.2 })

-- an acknowledgement for each of these days of which the outbox holds the statements of all owners
abbrev pub day_acks : SchemeValue → OutboxValue → List Key → List AckItem
day_acks sc x days = map day_ack (filter (λ k. are_all_stated sc x k.1 k.2) days)
