use Rattle.std.proofs.Common.{◌≡◌, length, rules}
use Rattle.fare_lines.proofs.RowLines.{cut_back, where_failed}
use Rattle.fare_lines.proofs.print_rows.append_settlement.Goals as goal

pub returns-then-is_err-clause-kept : goal.returns-then-is_err-clause-kept
returns-then-is_err-clause-kept c =
    let at : c.len-length.result ≡ length c.args.out.now.items = search rules in
    where_failed c.append_settlement_rows-appended.result
    (cut_back c.args.out.now.items _ c.append_settlement_line.new.out.items c.append_settlement_rows-appended.new.out.items c.truncate.new.self.items c.len-length.result at c.in_ok-append_settlement_line.ensures.appended c.append_settlement_rows-appended.ensures.front c.truncate.ensures.items)
