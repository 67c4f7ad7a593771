use Rattle.std.proofs.Common.{take}
use Rattle.fare_lines.specs.Replies.{operator_text, operators_text}
use Rattle.fare_lines.proofs.RowLines.{none_yet, one_row, all_rows, front_stays, front_behind}
use Rattle.fare_lines.proofs.print_rows.append_operators.Goals as goal

pub loop-share-init : goal.loop-share-init
loop-share-init c = none_yet operator_text c.args.out.now.items c.args.shares.now

pub returns-in_err-append_operator-clause-front : goal.returns-in_err-append_operator-clause-front
returns-in_err-append_operator-clause-front c =
    front_behind c.args.out.now.items (operators_text (take c.loop-share.share-index c.args.shares.now)) c.loop-share.out.items c.append_operator.new.out.items c.loop-share.invariant c.append_operator.ensures.front

pub loop-share-preserved : goal.loop-share-preserved
loop-share-preserved c =
    one_row operator_text c.args.out.now.items c.loop-share.out.items c.append_operator.new.out.items c.args.shares.now c.loop-share.share-index c.share-item.result
    c.loop-share-test.true c.share-item.is c.loop-share.invariant c.in_ok-append_operator.ensures.appended

pub returns-clause-appended : goal.returns-clause-appended
returns-clause-appended c = all_rows operator_text c.args.out.now.items c.loop-share.out.items c.args.shares.now c.loop-share.share-index c.loop-share-test.false c.loop-share.invariant

pub returns-clause-front : goal.returns-clause-front
returns-clause-front c = front_stays c.args.out.now.items (operators_text (take c.loop-share.share-index c.args.shares.now)) c.loop-share.out.items c.loop-share.invariant
