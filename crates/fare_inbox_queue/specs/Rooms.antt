-- How much the queues may hold, and for which stations an inbox is.
use Rattle.std.specs.Prelude.{ℕ, ◌≤◌, List, length, nat_eq}
use Rattle.std.specs.List.{IsDistinct}

-- what an inbox or an acknowledgement line may hold at most
abbrev pub IsCapacity : ℕ → Type 0
IsCapacity n = (1 ≤ n) × (n ≤ 1024)

-- an inbox of this room for these stations: 1 to 16, none named twice
pub record IsRoom (capacity : ℕ) (stations : List ℕ) : Type 0 where
  pub size : IsCapacity capacity
  pub some_station : 1 ≤ length stations
  pub few : length stations ≤ 16
  pub distinct : IsDistinct nat_eq stations
