-- What a replay writes is determined by what it reads.
use Rattle.std.proofs.Common.{◌≡◌, ◌∙◌, ◌++◌, ℕ, List, Option, Some, None, ap, sym}
use Rattle.std.specs.Io.KnownBytes.{Appends}
use Rattle.fare_lines.proofs.Printing.{one_reading}
use Rattle.fare_trace.proofs.Clocks.{one_text}
use Rattle.fare_replay.specs.Replay.{Replays}

one_append : (old : List ℕ) (first second : Option (List ℕ)) (text more : List ℕ) → text ≡ more → Appends (Some old) first text → Appends (Some old) second more → first ≡ second
one_append old None second text more same one other = absurd one
one_append old (Some first) None text more same one other = absurd other
one_append old (Some first) (Some second) text more same one other = ap Some (one ∙ ap (λ t. old ++ t) same ∙ sym other)

-- what a replay writes is determined by what it reads
pub one_writing : (old : List ℕ) (first second : Option (List ℕ)) (input : List ℕ) → Replays (Some old) first input → Replays (Some old) second input → first ≡ second
one_writing old first second input one other =
    one_append old first second one.text other.text
    (one_text one.lines other.lines one.text other.text (one_reading one.lines other.lines input one.spelled other.spelled) one.output other.output)
    one.written other.written
