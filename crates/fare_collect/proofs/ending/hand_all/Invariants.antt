use Rattle.std.proofs.Common.{length}
use Rattle.fare_collect.specs.Opening.{AreHears}
use Rattle.fare_writer.specs.Handling.{AreTellers}
use Rattle.fare_collect.specs.Ending.{AreBeingHanded}
use Rattle.fare_collect.proofs.ending.hand_all.Given as goal

abbrev pub invariant-loop-line : goal.invariant-loop-line
invariant-loop-line g l =
    AreTellers l.lines.items l.tellers.items
    × AreHears l.lines.items l.hears.items
    × AreBeingHanded g.S.Source.talk l.fn.tellers.items l.tellers.items l.fn.hears.items l.hears.items l.fn.stations l.stations

abbrev pub decreases-loop-line : goal.decreases-loop-line
decreases-loop-line g l = length l.lines.items
