-- What a station accepts of the frames that its source gives, under its name.
use Rattle.std.specs.Prelude.{ℕ, List, [], ◌∷◌, ◌++◌, Option}
use Rattle.fare_frame.specs.declared.frame.Frame.{Frame}
use Rattle.fare_scheme.specs.Values.{SchemeValue}
use Rattle.fare_history.specs.AcceptedLinks.{next_links}
use Rattle.fare_inbox_queue.specs.declared.arrived.Arrived.{Arrived}
use Rattle.fare_writer.specs.Arriving.{arrived_of}

-- what it accepts of frames one after the other
abbrev pub arrivals : SchemeValue → ℕ → (ℕ → Option ℕ) → List Frame → List Arrived
arrivals sc station next [] = []
arrivals sc station next (f ∷ fs) = arrived_of sc station next f ++ arrivals sc station (next_links sc next f) fs
