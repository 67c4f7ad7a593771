use Rattle.std.proofs.Common.{take}
use Rattle.fare_lines.specs.Replies.{account_words, rows_text, words_line}
use Rattle.fare_lines.proofs.RowLines.{none_yet, one_row, all_rows, front_stays, front_behind}
use Rattle.fare_lines.proofs.print_rows.append_accounts.Goals as goal

pub loop-row-init : goal.loop-row-init
loop-row-init c = none_yet (λ x. words_line (account_words x)) c.args.out.now.items c.args.rows.now

pub returns-in_err-put_account-clause-front : goal.returns-in_err-put_account-clause-front
returns-in_err-put_account-clause-front c =
    front_behind c.args.out.now.items (rows_text account_words (take c.loop-row.row-index c.args.rows.now)) c.loop-row.out.items c.put_account.new.out.items c.loop-row.invariant c.put_account.ensures.front

pub loop-row-preserved : goal.loop-row-preserved
loop-row-preserved c =
    one_row (λ x. words_line (account_words x)) c.args.out.now.items c.loop-row.out.items c.put_account.new.out.items c.args.rows.now c.loop-row.row-index c.row-item.result
    c.loop-row-test.true c.row-item.is c.loop-row.invariant c.in_ok-put_account.ensures.appended

pub returns-clause-appended : goal.returns-clause-appended
returns-clause-appended c = all_rows (λ x. words_line (account_words x)) c.args.out.now.items c.loop-row.out.items c.args.rows.now c.loop-row.row-index c.loop-row-test.false c.loop-row.invariant

pub returns-clause-front : goal.returns-clause-front
returns-clause-front c = front_stays c.args.out.now.items (rows_text account_words (take c.loop-row.row-index c.args.rows.now)) c.loop-row.out.items c.loop-row.invariant
