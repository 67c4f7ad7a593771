-- The days that the statements among a session's items name.
use Rattle.std.specs.Prelude.{ℕ, List, Option, None, Some}
use Rattle.std.specs.BTreeSet.{insert_key}
use Rattle.fare_record.specs.Values.{StatementValue}
use Rattle.fare_record.specs.declared.item.Item.{Item}
use Rattle.fare_record.specs.declared.item.Item.TheVariants as item
use Rattle.fare_scheme.specs.Values.{SchemeValue}
use Rattle.fare_scheme.specs.Words.{position_of_device}
use Rattle.fare_store.specs.Keys.{Key, key_order}

-- A day of a device, with the device's place in the order of registration before them: so they stand by device, and then by day.
abbrev pub noted_at : List Key → StatementValue → Option ℕ → List Key
noted_at days v None = days
noted_at days v (Some place) = insert_key key_order days (place, v.device, v.day)

-- the days, with that which the item names, if it is a statement of a registered device
abbrev pub noting : SchemeValue → List Key → Item → List Key
noting sc days (item.Tap r) = days
noting sc days (item.Stated v) = noted_at days v (position_of_device sc v.device)
