use Rattle.std.proofs.Common.{◌≡◌, ◌++◌, take}
use Rattle.fare_lines.specs.Replies.{routes_text}
use Rattle.fare_lines.proofs.print_rows.append_routes.Given as goal

abbrev pub invariant-loop-share : goal.invariant-loop-share
invariant-loop-share l = l.out.items ≡ l.fn.out.items ++ routes_text (take l.share-index l.shares)
