use Rattle.std.proofs.Common.{◌≡◌, ◌++◌, take}
use Rattle.fare_lines.specs.Replies.{operators_text}
use Rattle.fare_lines.proofs.print_rows.append_operators.Given as goal

abbrev pub invariant-loop-share : goal.invariant-loop-share
invariant-loop-share l = l.out.items ≡ l.fn.out.items ++ operators_text (take l.share-index l.shares)
