-- What became of a frame that went to the collector of its station.
use Rattle.std.specs.Prelude.{◌≡◌, ℕ, true, List, [], ◌∷◌, Option, Some, None, Result, Ok, Err, is_err}
use Rattle.fare_frame.specs.declared.frame.Frame.{Frame}
use Rattle.fare_scheme.specs.Values.{SchemeValue}
use Rattle.fare_collector.specs.Collecting.{next_in}
use Rattle.fare_inbox_queue.specs.declared.arrived.Arrived.{Arrived}
use Rattle.fare_history.specs.AcceptedLinks.{next_links}
use Rattle.fare_writer.specs.Arriving.{arrived_of, IsUnexpected}
use Rattle.fare_collector.specs.declared.collector.Collector.{Collector}
use Rattle.fare_writer.specs.declared.judging.UnexpectedFrame.{UnexpectedFrame}

abbrev pub items_in : Result (Option Arrived) UnexpectedFrame → List Arrived
items_in (Err unexpected) = []
items_in (Ok None) = []
items_in (Ok (Some a)) = a ∷ []

-- a frame went to the collector
pub record HasJudged (sc : SchemeValue) (id : ℕ) (frame : Frame) (old new : Collector) (result : Result (Option Arrived) UnexpectedFrame) : Type 0 where
  pub arrived : arrived_of sc id (next_in old) frame ≡ items_in result
  pub next : next_in new ≡ next_links sc (next_in old) frame
  pub unexpected : is_err result ≡ true → IsUnexpected frame
  pub expected : IsUnexpected frame → is_err result ≡ true
  pub named : new.station ≡ old.station
