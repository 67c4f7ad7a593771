use Rattle.std.proofs.Common.{◌≡◌, ◌≢◌, ◌+◌}
use Rattle.fare_source.specs.Talking.{Waits}
use Rattle.fare_source.specs.Shifts.{KeepsBounds}
use Rattle.fare_source.proofs.shift.Shift.comes.Given as goal

abbrev pub invariant-loop : goal.invariant-loop
invariant-loop g l = record {
  waits : Waits (g.S.Source.talk l.fn.self.source) (g.S.Source.talk l.self.source);
  same : KeepsBounds l.fn.self l.self;
  left : l.self.quiet + l.counter ≡ l.turns;
  lasts : l.self.frames ≢ 0;
}
