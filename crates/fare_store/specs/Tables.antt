-- Tables by numbers: the same table with another value at one place.
use Rattle.std.specs.Prelude.{ℕ, ◌==◌, if◌then◌else◌}

abbrev pub put : {A : Type 0} → (ℕ → A) → ℕ → A → ℕ → A
put table key value other = if other == key then value else table other

abbrev pub put2 : {A : Type 0} → (ℕ → ℕ → A) → ℕ → ℕ → A → ℕ → ℕ → A
put2 table first second value = put table first (put (table first) second value)

abbrev pub put3 : {A : Type 0} → (ℕ → ℕ → ℕ → A) → ℕ → ℕ → ℕ → A → ℕ → ℕ → ℕ → A
put3 table first second third value = put table first (put2 (table first) second third value)
