-- What a device does with its days: it turns the open one, states the counts of those that wait, and lets an acknowledged one go.
use Rattle.std.specs.Prelude.{ℕ, ◌+◌, ◌==◌, Bool, not, List, [], ◌∷◌, ◌++◌, length, filter, Option, Result, Ok, Err, if◌then◌else◌, nat_eq, nat_le, slice_get, position, option_map, option_and_then}
use Rattle.std.specs.List.{list_any}
use Rattle.std.specs.Map.{lookup}
use Rattle.fare_frame.specs.declared.frame.Frame.{Frame}
use Rattle.fare_frame.specs.declared.frame.Frame.TheVariants.{Stated}
use Rattle.fare_device.specs.DeviceWords.{DeviceValue, no_counts}
use Rattle.fare_device.specs.declared.device.TurnRefusal.{TurnRefusal}
use Rattle.fare_device.specs.declared.device.TurnRefusal.TheVariants.{LastDay, StatementsFull}

-- the new open day, or the first refusal that applies
abbrev pub turn_judged : DeviceValue → Result ℕ TurnRefusal
turn_judged x = if nat_le 100000 x.day then Err LastDay else (if nat_le 8 (length x.days) then Err StatementsFull else Ok (x.day + 1))

-- the open day waits behind the others, with its counts, and the next one is open, with nothing counted
abbrev pub turned : DeviceValue → DeviceValue
turned x = record x { day = x.day + 1; days = x.days ++ (x.day, x.counts) ∷ []; counts = no_counts }

-- the day is one of these
abbrev pub is_waiting : List (ℕ × List ℕ) → ℕ → Bool
is_waiting days day = list_any (λ d. d.0 == day) days

-- these without the day
abbrev pub without : List (ℕ × List ℕ) → ℕ → List (ℕ × List ℕ)
without days day = filter (λ d. not (d.0 == day)) days

-- the statements of the day wait no more
abbrev pub day_acknowledged : DeviceValue → ℕ → DeviceValue
day_acknowledged x day = record x { days = without x.days day }

-- the count of a day that waits, by the owner's place
abbrev pub count_on : List (ℕ × List ℕ) → ℕ → ℕ → Option ℕ
count_on days day place = option_and_then (λ counts. slice_get counts place) (lookup (nat_eq day) days)

-- the count of a day that waits, for an owner of the device's scheme
abbrev pub kept_count : DeviceValue → ℕ → ℕ → Option ℕ
kept_count x day owner = option_and_then (λ place. count_on x.days day place) (position (nat_eq owner) x.owners)

-- the statement of that count
abbrev pub stated : DeviceValue → ℕ → ℕ → Option Frame
stated x day owner = option_map (λ count. Stated (record { device = x.id; day = day; owner = owner; count = count })) (kept_count x day owner)
