-- Where the lines of sessions come from, one session after the other, and what these were answered from their greeting on.
use Rattle.std.specs.Prelude.{◌≡◌, ◌⊎◌, ◌<◌, ℕ, Bool, List, [], ◌∷◌, length, map, slice_index_or, Vec}
use Rattle.std.specs.Global.{Global}
use Rattle.std.specs.List.{AllByRecursion}
use Rattle.fare_scheme.specs.Values.{SchemeValue}
use Rattle.fare_store.specs.OutboxWords.{OutboxValue}
use Rattle.fare_source.specs.declared.shift.Shift.{Shift}
use Rattle.fare_net.specs.NetValue.{NetValue}
use Rattle.fare_collect.specs.Collected.{source_of}
use Rattle.fare_collect.specs.declared.station.Station.{Station}
use Rattle.fare_sessions.specs.Promises.{IsFrameCovered}
use Rattle.fare_sessions.specs.declared.session.Session.TheVariants.{Collect}
use Rattle.fare_serve.specs.Calls.{Call, IsServing, stations_in}
use Rattle.fare_serve.specs.Lending.{AreBack, AreLent}
use Rattle.fare_serve.specs.Seats.{AreFree, AreSeatsGathered}
use Rattle.fare_serve.specs.declared.seats.Seat.{Seat}

-- A call of the stations' session over the lines of these seats: each station, by its place, has a shift of its seat's line, or
-- where that has none of one that is at its end; and the session gave back as many stations.
pub record IsOverLines (seats : List Seat) (c : Call (Shift NetValue)) : Type 0 where
  pub whole : Bool
  pub lent : List Seat
  pub stations : Vec (Station (Shift NetValue)) Global
  pub collects : c.olds ≡ Collect stations ∷ []
  pub lends : AreLent whole seats lent (map source_of stations.items)
  pub many : length (stations_in c.news) ≡ length stations.items

-- A round over lines that ended early: nothing of it, or the stations' session, and sessions of owners behind it.
abbrev pub HasBegun : List Seat → List (Call (Shift NetValue)) → Type 0
HasBegun seats [] = Unit {0}
HasBegun seats (c ∷ cs) = IsOverLines seats c × AllByRecursion IsServing cs

-- Calls one after the other, from these seats on. Before the stations' session lines are gathered: each seat keeps its line, or
-- has one that newly greeted as a device of its station. Behind it each line is back in its seat as it was left, unless it broke
-- or is over; or the stations had no session any more. A session of an owner leaves the seats.
abbrev pub LinesCome : SchemeValue → List Seat → List (Call (Shift NetValue)) → Type 0
LinesCome sc seats [] = Unit {0}
LinesCome sc seats (c ∷ cs) =
    (IsServing c × LinesCome sc seats cs)
    ⊎ ((gathered : List Seat) × AreSeatsGathered sc seats gathered × (over : IsOverLines gathered c) × (((next : List Seat) × AreBack c.report.faults.items (stations_in c.news) over.lent next × LinesCome sc next cs) ⊎ AllByRecursion IsServing cs))

-- the first of them from seats of which none has a line yet
abbrev pub ComeOfLines : SchemeValue → List (Call (Shift NetValue)) → Type 0
ComeOfLines sc calls = (seats : List Seat) × AreFree seats × LinesCome sc seats calls

-- all that the line of each station of a call was answered, from its greeting to the end of the call, is covered by an outbox
-- that holds this
abbrev pub AreAnswersCovered : SchemeValue → OutboxValue → Call (Shift NetValue) → Type 0
AreAnswersCovered sc x c = (k : ℕ) (t : Station (Shift NetValue)) → k < length (stations_in c.olds) → AllByRecursion (IsFrameCovered sc x) (slice_index_or (stations_in c.news) k t).source.source.answered

abbrev pub AreLinesCovered : SchemeValue → OutboxValue → List (Call (Shift NetValue)) → Type 0
AreLinesCovered sc x calls = AllByRecursion (AreAnswersCovered sc x) calls
