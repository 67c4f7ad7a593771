use Rattle.std.specs.Fmt.{decimal}
use Rattle.std.specs.Prelude.{codes}
use Rattle.fare_lines.proofs.RowLines.{front_behind, front_stays}
use Rattle.fare_lines.proofs.Pieces.{front_same, front_named, two_numbers}
use Rattle.fare_lines.proofs.print.put_record.Goals as goal

pub returns-in_err-put_number-clause-front : goal.returns-in_err-put_number-clause-front
returns-in_err-put_number-clause-front c =
    front_named c.args.out.now.items (codes "record") _ c.put_named.new.out.items c.put_number.new.out.items c.in_ok-put_named.ensures.appended c.put_number.ensures.front

pub returns-in_err-push-clause-front : goal.returns-in_err-push-clause-front
returns-in_err-push-clause-front c =
    front_named c.args.out.now.items (codes "record") _ c.put_named.new.out.items c.push.new.self.items c.in_ok-put_named.ensures.appended (front_behind c.put_named.new.out.items _ c.put_number.new.out.items c.push.new.self.items c.in_ok-put_number.ensures.appended (front_same c.put_number.new.out.items c.push.new.self.items c.in_err-push.ensures.items))

pub returns : goal.returns
returns c =
    let line = two_numbers c.args.out.now.items c.put_named.new.out.items c.put_number.new.out.items c.push.new.self.items (codes "record") (decimal c.args.link) (decimal c.args.lane) c.in_ok-put_named.ensures.appended c.in_ok-put_number.ensures.appended c.in_ok-push.ensures.items in
    record { appended = line; front = front_stays c.args.out.now.items _ c.push.new.self.items line }
