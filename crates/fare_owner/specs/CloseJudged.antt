-- What an owner answers where a device's day is to be closed.
use Rattle.std.specs.Prelude.{ℕ, Bool, true, false, not, nat_lt, Option, None, Some, if◌then◌else◌, Result, Ok, Err}
use Rattle.fare_owner.specs.declared.closing.CloseFault.{CloseFault}
use Rattle.fare_owner.specs.declared.closing.CloseFault.TheVariants.{Retired, Unstated, AlreadyClosed, OutOfOrder, CountsShort, CountsOver}

-- the first refusal that applies, by the stated count, whether the day is closed, whether it is the first that isn't, the day's taps taken, and whether the lane is retired
abbrev pub close_judged : Option ℕ → Bool → Bool → ℕ → Bool → Result Unit CloseFault
close_judged stated closed next taken true = Err Retired
close_judged None closed next taken false = Err Unstated
close_judged (Some stated) closed next taken false =
    if closed then Err AlreadyClosed
    else (if not next then Err OutOfOrder
    else (if nat_lt taken stated then Err (CountsShort stated taken)
    else (if nat_lt stated taken then Err (CountsOver stated taken)
    else Ok tt)))
