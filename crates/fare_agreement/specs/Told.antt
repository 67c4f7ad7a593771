-- Sessions told without the numbers of their packets.
use Rattle.std.specs.Prelude.{List, [], ◌∷◌}
use Rattle.fare_history.specs.Stores.{Session, Collects, Serves_owner, Closes_day, Retires_lane}
use Rattle.fare_refinement.specs.Gathered.{told_by}
use Rattle.fare_refinement.specs.Sessions as sent

-- the same session, without the packets
abbrev pub told_session : sent.Session → Session
told_session (sent.Collects g) = Collects (told_by g)
told_session (sent.Serves_owner owner v) = Serves_owner owner v
told_session (sent.Closes_day owner device day) = Closes_day owner device day
told_session (sent.Retires_lane owner device) = Retires_lane owner device

-- each of them
abbrev pub told_sessions : List sent.Session → List Session
told_sessions [] = []
told_sessions (q ∷ qs) = told_session q ∷ told_sessions qs
