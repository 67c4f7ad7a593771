use Rattle.std.proofs.Common.{◌≡◌, true, is_some, refl}
use Rattle.jiff_tz.specs.PosixReader.{read_whole}
use Rattle.jiff_tz.proofs.OnLiterals.{jiff_tz_on_literals}
use Rattle.fare_scheme.specs.Demo.{demo_rule}
use Rattle.fare_scheme.proofs.demo.london.Goals as goal

readable : is_some (read_whole demo_rule) ≡ true
unfolding jiff_tz_on_literals
readable = refl

pub unwrap-requires : goal.unwrap-requires
unwrap-requires c = c.read.ensures.ok.1 readable
