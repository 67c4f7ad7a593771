-- What an acknowledgement line has after a device was to be acknowledged.
use Rattle.std.specs.Prelude.{ℕ, ◌++◌, ◌∷◌, [], Option, Some, None, Result, Ok, Err}
use Rattle.circular_buffer.specs.Buffer.{Buffer, buffer}
use Rattle.fare_record.specs.declared.ack_item.AckItem.{AckItem}
use Rattle.fare_record.specs.declared.ack_item.AckItem.TheVariants.{Upto}
use Rattle.fare_store.specs.declared.fault.Fault.{Fault}

-- it gains, at its end, how far the device was acknowledged, and nothing where the line was full or the outbox failed
abbrev pub line_after : Buffer AckItem → ℕ → Result (Option ℕ) Fault → Buffer AckItem
line_after line device (Ok (Some upto)) = buffer (line.items ++ Upto (record { device = device; upto = upto }) ∷ []) line.capacity
line_after line device (Ok None) = line
line_after line device (Err f) = line
