-- A source that is read in shifts.
use Rattle.std.specs.Prelude.{◌≡◌, ◌⊎◌, Bool, true}
use Rattle.fare_source.specs.Talking.{Talk}
use Rattle.fare_source.specs.declared.shift.Shift.{Shift}

-- What it tells is what the source tells, but that it has come to its end where the shift is over; a whole one is so only at
-- the source's end.
abbrev pub in_shift : Bool → Bool → Talk → Talk
in_shift whole over t = record { given = t.given; answered = t.answered; failures = t.failures; ended = (over ≡ true) × (whole ≡ true → t.ended) }

-- it is over, or none of its quiet turns or of its frames is left
abbrev pub IsSpent : {S : Type 0} → Shift S → Type 0
IsSpent s = (s.over ≡ true) ⊎ ((s.quiet ≡ 0) ⊎ (s.frames ≡ 0))

-- none of its quiet turns was left when it ended, or it had no frame left, or was over, before
abbrev pub WasSpent : {S : Type 0} → Shift S → Shift S → Type 0
WasSpent old new = (old.over ≡ true) ⊎ ((new.quiet ≡ 0) ⊎ (old.frames ≡ 0))

-- at most its source moved on, and its quiet turns
pub record KeepsBounds {S : Type 0} (old new : Shift S) : Type 0 where
  pub whole : new.whole ≡ old.whole
  pub patience : new.patience ≡ old.patience
  pub frames : new.frames ≡ old.frames
  pub over : new.over ≡ old.over
