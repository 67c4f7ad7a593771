use Rattle.std.proofs.Common.{◌≡◌, ◌+◌, ℕ, take, vec_len, vec_capacity}
use Rattle.fare_sessions.specs.Course.{Tally, Shows, with_faults}
use Rattle.fare_sessions.proofs.course.Course.note_all.Given as goal

abbrev pub invariant-loop-fault : goal.invariant-loop-fault
invariant-loop-fault l = ((limit : ℕ) (t : Tally) → Shows limit t l.fn.self → Shows limit (with_faults t l.place (take l.fault-index l.faults)) l.self) × (vec_len l.self.report.faults ≡ vec_len l.fn.self.report.faults + l.fault-index)
    × (vec_capacity l.self.report.faults ≡ vec_capacity l.fn.self.report.faults)
