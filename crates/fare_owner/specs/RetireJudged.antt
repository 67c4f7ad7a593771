-- What an owner answers where its lane of a device is to be retired.
use Rattle.std.specs.Prelude.{Bool, not, if◌then◌else◌, Result, Ok, Err}
use Rattle.fare_owner.specs.declared.retiring.RetireFault.{RetireFault}
use Rattle.fare_owner.specs.declared.retiring.RetireFault.TheVariants.{NotMine, Retired}

-- the first refusal that applies, by whose lane it is, and whether it is retired
abbrev pub retire_judged : Bool → Bool → Result Unit RetireFault
retire_judged mine retired =
    if not mine then Err NotMine
    else (if retired then Err Retired
    else Ok tt)
