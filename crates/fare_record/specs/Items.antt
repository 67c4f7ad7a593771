-- What the hub hands on to an owner: a tap or a statement; and what it tells a device: that it has had its taps up to a link, or its statements of a day.
use Rattle.std.specs.Prelude.{Option, Some, None}
use Rattle.fare_record.specs.Values.{RecordValue, StatementValue, AckValue, DayAckValue}
use Rattle.fare_record.specs.declared.item.Item.{Item}
use Rattle.fare_record.specs.declared.item.Item.TheVariants.{Tap, Stated}
use Rattle.fare_record.specs.declared.ack_item.AckItem.{AckItem}
use Rattle.fare_record.specs.declared.ack_item.AckItem.TheVariants.{Upto, Day}

-- the record of a numbered tap
abbrev pub tap_of : Item → Option RecordValue
tap_of (Tap r) = Some r
tap_of (Stated _) = None

-- a device's statement
abbrev pub statement_of : Item → Option StatementValue
statement_of (Tap _) = None
statement_of (Stated s) = Some s

-- the acknowledgement of taps
abbrev pub ack_of : AckItem → Option AckValue
ack_of (Upto a) = Some a
ack_of (Day _) = None

-- the acknowledgement of a day's statements
abbrev pub day_ack_of : AckItem → Option DayAckValue
day_ack_of (Upto _) = None
day_ack_of (Day a) = Some a
