-- What a station accepts of a frame that its source gives, under its name.
use Rattle.std.specs.Prelude.{◌≡◌, ℕ, List, [], ◌∷◌, Option, None, Result, Ok, Err}
use Rattle.fare_frame.specs.declared.frame.Frame.{Frame}
use Rattle.fare_frame.specs.declared.frame.Frame.TheVariants.{Tapped, Stated}
use Rattle.fare_frame.specs.Grammar.{tap_of, statement_of}
use Rattle.fare_scheme.specs.Values.{SchemeValue}
use Rattle.fare_history.specs.AcceptedLinks.{tap_judged, stating_judged}
use Rattle.fare_inbox_queue.specs.declared.arrived.Arrived.{Arrived}
use Rattle.fare_inbox_queue.specs.declared.arrived.Arrived.TheVariants as arrived

abbrev pub arrived_if : {E : Type 0} → Result Unit E → Arrived → List Arrived
arrived_if (Ok _) a = a ∷ []
arrived_if (Err _) a = []

-- what a station accepts of a frame, by the links that it accepts next
abbrev pub arrived_of : SchemeValue → ℕ → (ℕ → Option ℕ) → Frame → List Arrived
arrived_of sc station next (Tapped r) = arrived_if (tap_judged sc next r) (arrived.Tap station r)
arrived_of sc station next (Stated s) = arrived_if (stating_judged sc next s) (arrived.Stated station s)
arrived_of sc station next _ = []

-- a frame that no device sends to its station once it has greeted it
abbrev pub IsUnexpected : Frame → Type 0
IsUnexpected f = (tap_of f ≡ None) × (statement_of f ≡ None)
