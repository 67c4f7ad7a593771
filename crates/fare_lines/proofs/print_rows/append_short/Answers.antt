use Rattle.std.proofs.Common.{take}
use Rattle.fare_lines.specs.Replies.{short_words, rows_text, words_line}
use Rattle.fare_lines.proofs.RowLines.{none_yet, one_row, all_rows, front_stays, front_behind}
use Rattle.fare_lines.proofs.print_rows.append_short.Goals as goal

pub loop-device-init : goal.loop-device-init
loop-device-init c = none_yet (λ x. words_line (short_words x)) c.args.out.now.items c.args.devices.now

pub returns-in_err-put_short-clause-front : goal.returns-in_err-put_short-clause-front
returns-in_err-put_short-clause-front c =
    front_behind c.args.out.now.items (rows_text short_words (take c.loop-device.device-index c.args.devices.now)) c.loop-device.out.items c.put_short.new.out.items c.loop-device.invariant c.put_short.ensures.front

pub loop-device-preserved : goal.loop-device-preserved
loop-device-preserved c =
    one_row (λ x. words_line (short_words x)) c.args.out.now.items c.loop-device.out.items c.put_short.new.out.items c.args.devices.now c.loop-device.device-index c.device-item.result
    c.loop-device-test.true c.device-item.is c.loop-device.invariant c.in_ok-put_short.ensures.appended

pub returns-clause-appended : goal.returns-clause-appended
returns-clause-appended c = all_rows (λ x. words_line (short_words x)) c.args.out.now.items c.loop-device.out.items c.args.devices.now c.loop-device.device-index c.loop-device-test.false c.loop-device.invariant

pub returns-clause-front : goal.returns-clause-front
returns-clause-front c = front_stays c.args.out.now.items (rows_text short_words (take c.loop-device.device-index c.args.devices.now)) c.loop-device.out.items c.loop-device.invariant
