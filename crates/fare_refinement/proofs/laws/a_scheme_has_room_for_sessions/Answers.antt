use Rattle.fare_refinement.proofs.Schemes.{has_stations, has_lane_room, has_inbox}
use Rattle.fare_refinement.proofs.laws.a_scheme_has_room_for_sessions.Goals as goal

pub returns-clause-stations : goal.returns-clause-stations
returns-clause-stations c = has_stations

pub returns-clause-lanes : goal.returns-clause-lanes
returns-clause-lanes c = has_lane_room

pub returns-clause-inbox : goal.returns-clause-inbox
returns-clause-inbox c = has_inbox
