use Rattle.std.proofs.Common.{◌≡◌, ◌++◌, take}
use Rattle.fare_lines.specs.Replies.{account_words, rows_text}
use Rattle.fare_lines.proofs.print_rows.append_accounts.Given as goal

abbrev pub invariant-loop-row : goal.invariant-loop-row
invariant-loop-row l = l.out.items ≡ l.fn.out.items ++ rows_text account_words (take l.row-index l.rows)
