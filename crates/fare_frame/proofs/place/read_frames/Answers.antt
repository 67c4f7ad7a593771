use Rattle.std.proofs.Common.{◌≤◌, length, vec_capacity, arith, rules}
use Rattle.fare_frame.proofs.Streams.{overfills_next}
use Rattle.fare_frame.proofs.place.read_frames.Goals as goal

pub returns-then-is_err-clause-memory : goal.returns-then-is_err-clause-memory
returns-then-is_err-clause-memory c =
    let found = rw c.in-Some.is at c.in_ok-frame.ensures.whole in
    let full : vec_capacity c.loop-frame.frames ≤ length c.loop-frame.frames.items = search rules in
    λ _. overfills_next (vec_capacity c.args.frames.now) c.args.bytes.now c.args.frames.now.items c.loop-frame.frames.items c.in-Some.frame c.loop-frame.rest.now _ c.loop-frame.invariant.read found.1 found.0 (omega arith)
