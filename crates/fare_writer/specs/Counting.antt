-- What the writer counts of an item, and notes of its day.
use Rattle.std.specs.Prelude.{◌≡◌, ◌⊎◌, ℕ, ◌+◌, min, Bool, true, false}
use Rattle.fare_scheme.specs.Values.{SchemeValue}
use Rattle.fare_inbox_queue.specs.declared.arrived.Arrived.{Arrived}
use Rattle.fare_writer.specs.declared.tally.Tally.{Tally}
use Rattle.fare_writer.specs.Noting.{noting}
use Rattle.fare_writer.specs.Entries.{item_of}

-- where the counter stays
abbrev pub most : ℕ
most = 18446744073709551615

-- the counter rises with an item that was stored
abbrev pub Rises : ℕ → ℕ → Bool → Type 0
Rises n0 n1 new = ((new ≡ true) × (n1 ≡ min (n0 + 1) most)) ⊎ ((new ≡ false) × (n1 ≡ n0))

-- and the item's day is noted
abbrev pub Counts : SchemeValue → Arrived → Tally → Tally → Bool → Type 0
Counts sc a n0 n1 new = Rises n0.stored n1.stored new × (n1.days.keys ≡ noting sc n0.days.keys (item_of a))
