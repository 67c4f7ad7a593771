use Rattle.std.proofs.Common.{◌++◌, ◌∷◌, ◌∙◌, ap}
use Rattle.std.specs.Fmt.{decimal}
use Rattle.fare_lines.proofs.RowLines.{front_behind, front_stays}
use Rattle.fare_lines.proofs.Pieces.{front_same, front_named, three_numbers}
use Rattle.fare_lines.proofs.print.put_share_line.Goals as goal

pub returns-in_err-put_number-clause-front : goal.returns-in_err-put_number-clause-front
returns-in_err-put_number-clause-front g c =
    front_named c.args.out.now.items c.args.name.now _ c.put_named.new.out.items c.put_number.new.out.items c.in_ok-put_named.ensures.appended c.put_number.ensures.front

pub returns-in_err-put_sum-clause-front : goal.returns-in_err-put_sum-clause-front
returns-in_err-put_sum-clause-front g c =
    front_named c.args.out.now.items c.args.name.now _ c.put_named.new.out.items c.put_sum.new.out.items c.in_ok-put_named.ensures.appended (front_behind c.put_named.new.out.items _ c.put_number.new.out.items c.put_sum.new.out.items c.in_ok-put_number.ensures.appended c.put_sum.ensures.front)

pub returns-in_err-push-clause-front : goal.returns-in_err-push-clause-front
returns-in_err-push-clause-front g c =
    front_named c.args.out.now.items c.args.name.now _ c.put_named.new.out.items c.push.new.self.items c.in_ok-put_named.ensures.appended (front_behind c.put_named.new.out.items _ c.put_number.new.out.items c.push.new.self.items c.in_ok-put_number.ensures.appended (front_behind c.put_number.new.out.items _ c.put_sum.new.out.items c.push.new.self.items c.in_ok-put_sum.ensures.appended (front_same c.put_sum.new.out.items c.push.new.self.items c.in_err-push.ensures.items)))

pub returns : goal.returns
returns g c =
    let first = c.in_ok-put_named.ensures.appended ∙ ap (λ n. c.args.out.now.items ++ c.args.name.now ++ 32 ∷ decimal n) c.from.ensures in
    let line = three_numbers c.args.out.now.items c.put_named.new.out.items c.put_number.new.out.items c.put_sum.new.out.items c.push.new.self.items c.args.name.now (decimal c.args.number) (decimal c.args.taps) (decimal c.args.amount) first c.in_ok-put_number.ensures.appended c.in_ok-put_sum.ensures.appended c.in_ok-push.ensures.items in
    record { appended = line; front = front_stays c.args.out.now.items _ c.push.new.self.items line }
