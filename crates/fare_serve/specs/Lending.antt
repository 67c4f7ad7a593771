-- Lines that a round borrows of their seats, and that go back into them.
use Rattle.std.specs.Prelude.{◌≡◌, ◌<◌, ◌≤◌, ◌⊎◌, ◌==◌, ℕ, Bool, false, List, [], ◌∷◌, length, slice_index_or, Option, Some, None, if◌then◌else◌}
use Rattle.fare_session.specs.declared.fault.SessionFault.{SessionFault}
use Rattle.fare_session.specs.declared.fault.SessionFault.TheVariants as session
use Rattle.fare_source.specs.declared.shift.Shift.{Shift}
use Rattle.fare_collect.specs.declared.station.Station.{Station}
use Rattle.fare_net.specs.NetValue.{NetValue}
use Rattle.fare_net.specs.Sources.{IsToldAll, Sends}
use Rattle.fare_serve.specs.Lines.{IsDone, absent_line}
use Rattle.fare_serve.specs.declared.seats.Seat.{Seat}
use Rattle.fare_serve.specs.declared.seats.Seat.TheVariants.{Free, Lent, Held}

-- A ROUND BEGINS
-- the line of a seat, or where it has none one that is at its end and was answered nothing
abbrev pub HasLent : Seat → Seat → NetValue → Type 0
HasLent (Held held) new line = (line ≡ held) × (new ≡ Lent)
HasLent Free new line = (line ≡ absent_line) × (new ≡ Free)
HasLent Lent new line = (line ≡ absent_line) × (new ≡ Lent)

-- a shift that has not begun: of the whole line, or with room for a frame and for a quiet turn at least
pub record IsFresh (whole : Bool) (s : Shift NetValue) : Type 0 where
  pub kind : s.whole ≡ whole
  pub over : s.over ≡ false
  pub room : whole ≡ false → (0 < s.frames) × (0 < s.quiet)

-- one of each seat's line, by its place
pub record AreLent (whole : Bool) (olds news : List Seat) (shifts : List (Shift NetValue)) : Type 0 where
  pub len : length news ≡ length olds
  pub many : length shifts ≡ length olds
  pub each : (k : ℕ) (d : Seat) (e : Shift NetValue) → k < length olds → HasLent (slice_index_or olds k d) (slice_index_or news k d) (slice_index_or shifts k e).source × IsFresh whole (slice_index_or shifts k e)

-- A ROUND HAS ENDED
-- a fault of a station's line
abbrev pub is_of_line : ℕ → SessionFault → Bool
is_of_line station (session.Source other) = other == station
is_of_line station (session.Unexpected other) = other == station
is_of_line station session.Refused = false
is_of_line station session.Memory = false
is_of_line station session.Store = false

-- the first of these faults that is of the station's line
abbrev pub fault_in : ℕ → List (ℕ × SessionFault) → Option SessionFault
fault_in station [] = None
fault_in station (f ∷ fs) = if is_of_line station f.1 then Some f.1 else fault_in station fs

-- a line goes back into its seat, unless it broke or is over; what it was answered was sent before, or its writer failed
abbrev pub GoesBack : Option SessionFault → NetValue → Seat → Type 0
GoesBack (Some fault) line new = new ≡ Free
GoesBack None line new = ((new ≡ Free) × IsDone line) ⊎ ((now : NetValue) × (new ≡ Held now) × Sends line now × IsToldAll now × (¬ IsDone now))

-- that of a station whose seat it was lent of; another seat is as it was
abbrev pub IsBack : List (ℕ × SessionFault) → Station (Shift NetValue) → Seat → Seat → Type 0
IsBack faults t Lent new = GoesBack (fault_in t.collector.station faults) t.source.source new
IsBack faults t Free new = new ≡ Free
IsBack faults t (Held line) new = new ≡ Held line

-- those of all stations, by their places
pub record AreBack (faults : List (ℕ × SessionFault)) (stations : List (Station (Shift NetValue))) (olds news : List Seat) : Type 0 where
  pub len : length news ≡ length olds
  pub each : (k : ℕ) (d : Seat) (t : Station (Shift NetValue)) → k < length stations → k < length olds → IsBack faults (slice_index_or stations k t) (slice_index_or olds k d) (slice_index_or news k d)
  pub rest : (k : ℕ) (d : Seat) → length stations ≤ k → slice_index_or news k d ≡ slice_index_or olds k d
