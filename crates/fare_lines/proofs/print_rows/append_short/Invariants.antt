use Rattle.std.proofs.Common.{◌≡◌, ◌++◌, take}
use Rattle.fare_lines.specs.Replies.{short_words, rows_text}
use Rattle.fare_lines.proofs.print_rows.append_short.Given as goal

abbrev pub invariant-loop-device : goal.invariant-loop-device
invariant-loop-device l = l.out.items ≡ l.fn.out.items ++ rows_text short_words (take l.device-index l.devices)
