-- Seats: which line a station's seat has, and where that came from.
use Rattle.std.specs.Prelude.{◌≡◌, ◌<◌, ◌⊎◌, ℕ, Bool, true, false, List, length, slice_index_or}
use Rattle.fare_scheme.specs.Values.{SchemeValue}
use Rattle.fare_net.specs.NetValue.{NetValue}
use Rattle.fare_net.specs.Sources.{Listens}
use Rattle.fare_serve.specs.Lines.{IsDone, IsNewLine}
use Rattle.fare_serve.specs.declared.seats.Rule.{Rule}
use Rattle.fare_serve.specs.declared.seats.Rule.TheVariants.{First, Last}
use Rattle.fare_serve.specs.declared.seats.Seat.{Seat}
use Rattle.fare_serve.specs.declared.seats.Seat.TheVariants.{Free, Lent, Held}

-- ONE SEAT
-- whether the line of a seat, which was read on at most, has nothing more to give; a seat that has no line has none
abbrev pub TellsOver : Bool → Seat → Seat → Type 0
TellsOver over (Held first) new = (now : NetValue) × (new ≡ Held now) × Listens first now × (((over ≡ true) × IsDone now) ⊎ ((over ≡ false) × (¬ IsDone now)))
TellsOver over Free new = (over ≡ true) × (new ≡ Free)
TellsOver over Lent new = (over ≡ true) × (new ≡ Lent)

-- the first line keeps its seat, but for one that is over now, whose seat the newer one has
abbrev pub KeepsFirst : NetValue → Seat → NetValue → Type 0
KeepsFirst first new source = (now : NetValue) × Listens first now × (((new ≡ Held source) × IsDone now) ⊎ ((new ≡ Held now) × (¬ IsDone now)))

-- a line came for a seat: which one has it, by the rule
abbrev pub HasTakenSeat : Rule → Seat → Seat → NetValue → Type 0
HasTakenSeat First (Held first) new source = KeepsFirst first new source
HasTakenSeat First Free new source = new ≡ Held source
HasTakenSeat First Lent new source = new ≡ Held source
HasTakenSeat Last old new source = new ≡ Held source

-- Of the seat at a place: it is as it was; or a line has it that has newly greeted as a device of that place's station; or,
-- before the first round, its line was read on at most.
abbrev pub IsSeatAfter : SchemeValue → Rule → ℕ → Seat → Seat → Type 0
IsSeatAfter sc rule place old new = (new ≡ old) ⊎ ((line : NetValue) × (new ≡ Held line) × (IsNewLine sc place line ⊎ ((first : NetValue) × (rule ≡ First) × (old ≡ Held first) × Listens first line)))

-- ALL SEATS
-- so each seat, by its place
pub record AreSeatsAfter (sc : SchemeValue) (rule : Rule) (olds news : List Seat) : Type 0 where
  pub len : length news ≡ length olds
  pub each : (k : ℕ) (d : Seat) → k < length olds → IsSeatAfter sc rule k (slice_index_or olds k d) (slice_index_or news k d)

-- no seat has a line
pub record AreFree (seats : List Seat) : Type 0 where
  pub each : (k : ℕ) (d : Seat) → k < length seats → slice_index_or seats k d ≡ Free

-- each line that has a seat has newly greeted as a device of the station whose seat it is, and was answered nothing
pub record AreSeats (sc : SchemeValue) (seats : List Seat) : Type 0 where
  pub each : (k : ℕ) (d : Seat) (line : NetValue) → k < length seats → slice_index_or seats k d ≡ Held line → IsNewLine sc k line

-- GATHERING
-- A seat as lines are gathered for a round: it is as it was, or a line has it that has newly greeted as a device of the station
-- whose seat it is.
abbrev pub IsSeatGathered : SchemeValue → ℕ → Seat → Seat → Type 0
IsSeatGathered sc place old new = (new ≡ old) ⊎ ((line : NetValue) × (new ≡ Held line) × IsNewLine sc place line)

-- so each seat, by its place
pub record AreSeatsGathered (sc : SchemeValue) (olds news : List Seat) : Type 0 where
  pub len : length news ≡ length olds
  pub each : (k : ℕ) (d : Seat) → k < length olds → IsSeatGathered sc k (slice_index_or olds k d) (slice_index_or news k d)
