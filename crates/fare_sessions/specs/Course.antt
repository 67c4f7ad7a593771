-- What a list of sessions counted, and what its supervisor decides by it.
use Rattle.std.specs.Prelude.{◌≡◌, ℕ, ◌+◌, ◌-◌, min, nat_lt, List, [], ◌∷◌, ◌++◌, length, map, Option, None, Some}
use Rattle.fare_session.specs.declared.fault.SessionFault.{SessionFault}
use Rattle.fare_session.specs.declared.fault.SessionFault.TheVariants as session
use Rattle.fare_supervisor.specs.declared.decision.Fault.{Fault}
use Rattle.fare_supervisor.specs.declared.decision.Fault.TheVariants as part
use Rattle.fare_sessions.specs.declared.report.SessionsReport.{SessionsReport}
use Rattle.fare_sessions.specs.declared.course.Course.{Course}

-- THE PARTS
-- the part of the hub that met a fault of a session of the stations
abbrev pub part_of_stations : SessionFault → Fault
part_of_stations (session.Source station) = part.Station station
part_of_stations (session.Unexpected station) = part.Station station
part_of_stations session.Store = part.Outbox
part_of_stations session.Refused = part.Writer
part_of_stations session.Memory = part.Writer

-- THE COUNTS
-- the faults of one session, each with the session's place
abbrev pub numbered : ℕ → List SessionFault → List (ℕ × SessionFault)
numbered place faults = map (λ f. (place, f)) faults

-- those of an owner's session, if it met one
abbrev pub owner_faults : Option SessionFault → List SessionFault
owner_faults None = []
owner_faults (Some f) = f ∷ []

-- what one session counted
pub record Counts : Type 0 where
  pub stored : ℕ
  pub taken : ℕ
  pub left : ℕ
  pub faults : List SessionFault

-- what the sessions so far counted
pub record Tally : Type 0 where
  pub stored : ℕ
  pub taken : ℕ
  pub left : ℕ
  pub faults : List (ℕ × SessionFault)

abbrev pub no_tally : Tally
no_tally = record { stored = 0; taken = 0; left = 0; faults = [] }

-- with these faults of the session at a place
abbrev pub with_faults : Tally → ℕ → List SessionFault → Tally
with_faults t place faults = record t { faults = t.faults ++ numbered place faults }

-- with so much more stored, taken and left
abbrev pub with_numbers : Tally → ℕ → ℕ → ℕ → Tally
with_numbers t stored taken left = record t { stored = t.stored + stored; taken = t.taken + taken; left = t.left + left }

-- with all that the session at a place counted
abbrev pub with_session : Tally → ℕ → Counts → Tally
with_session t place c = with_faults (with_numbers t c.stored c.taken c.left) place c.faults

-- the place of the last fault's session
abbrev pub last_place : List (ℕ × SessionFault) → Option ℕ
last_place [] = None
last_place (f ∷ []) = Some f.0
last_place (f ∷ g ∷ fs) = last_place (g ∷ fs)

-- the report is of this tally, as far as its numbers go; and the supervisor, which was to answer so many faults with a restart, gave up where they are more
pub record Reports (limit : ℕ) (t : Tally) (report : SessionsReport) : Type 0 where
  pub stored : report.stored ≡ min t.stored 18446744073709551615
  pub taken : report.taken ≡ min t.taken 18446744073709551615
  pub left : report.left ≡ min t.left 18446744073709551615
  pub faults : report.faults.items ≡ t.faults
  pub gave_up : report.gave_up ≡ nat_lt limit (length t.faults)

-- and it has so many restarts left
pub record Shows (limit : ℕ) (t : Tally) (c : Course) : Type 0 where
  pub report : Reports limit t c.report
  pub restarts : c.supervisor ≡ limit - length t.faults
