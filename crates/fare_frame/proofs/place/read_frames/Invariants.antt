use Rattle.std.proofs.Common.{◌≤◌, length, vec_capacity}
use Rattle.fare_frame.specs.Reading.{Reads}
use Rattle.fare_frame.proofs.place.read_frames.Given as goal

abbrev pub invariant-loop-frame : goal.invariant-loop-frame
invariant-loop-frame l = record {
  read : Reads l.fn.bytes l.fn.frames.items l.frames.items l.rest;
  room : vec_capacity l.fn.frames ≤ vec_capacity l.frames;
}

abbrev pub decreases-loop-frame : goal.decreases-loop-frame
decreases-loop-frame l = length l.rest
