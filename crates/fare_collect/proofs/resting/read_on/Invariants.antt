use Rattle.std.proofs.Common.{◌≡◌, None, take}
use Rattle.fare_collect.specs.Resting.{HasReadOn, IsGoing}
use Rattle.fare_collect.proofs.resting.read_on.Given as goal

abbrev pub invariant-loop-place : goal.invariant-loop-place
invariant-loop-place g l = record {
  going : IsGoing l.station.end;
  held : l.station.end.held ≡ None;
  read : HasReadOn l.scheme g.S.Source.talk l.id l.fn.station l.station (take 1 l.fn.items) (take l.place l.items);
}
