-- What contracts see of a source over a line.
use Rattle.std.specs.Prelude.{ℕ, Bool, List, Option}
use Rattle.fare_frame.specs.declared.frame.Frame.{Frame}
use Rattle.fare_net.specs.IntakeValue.{IntakeValue}

pub record NetValue : Type 0 where
  -- what came of its stream
  pub intake : IntakeValue
  -- what the reader has left and what the writer holds, where they tell
  pub unread : Option (List ℕ)
  pub written : Option (List ℕ)
  -- the bytes of the answers that it has not sent yet
  pub unsent : List ℕ
  -- the frames that it gave, and those that it was handed
  pub given : List Frame
  pub answered : List Frame
  -- how many of its calls as a source failed; it stays at the greatest count
  pub failures : ℕ
  -- its greeting was refused
  pub refused : Bool
  -- an answer did not go out whole, so none follows
  pub cut : Bool
  -- how many reads are left
  pub turns : ℕ
