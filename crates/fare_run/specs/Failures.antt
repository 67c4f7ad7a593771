use Rattle.std.specs.Prelude.{ℕ}
use Rattle.fare_run.specs.declared.failure.Failure.{Failure}
use Rattle.fare_run.specs.declared.failure.Failure.TheVariants.{Replay, Write, Memory, Serve, Ask, Scheme, Refused}

-- the program's status
abbrev pub status_of : Failure → ℕ
status_of (Replay why) = 1
status_of Write = 1
status_of Memory = 1
status_of (Serve why) = 1
status_of (Ask why) = 1
status_of (Scheme why) = 1
status_of (Refused text) = 2
