use Rattle.std.specs.Fmt.{decimal}
use Rattle.fare_lines.proofs.RowLines.{front_behind, front_stays}
use Rattle.fare_lines.proofs.Pieces.{front_same, front_named, two_named}
use Rattle.fare_lines.proofs.print.put_numbers_line.Goals as goal

pub returns-in_err-push-clause-front : goal.returns-in_err-push-clause-front
returns-in_err-push-clause-front g c =
    front_named c.args.out.now.items c.args.name.now _ c.put_named.new.out.items c.push.new.self.items c.in_ok-put_named.ensures.appended (front_same c.put_named.new.out.items c.push.new.self.items c.in_err-push.ensures.items)

pub returns-in_err-put_named-2-clause-front : goal.returns-in_err-put_named-2-clause-front
returns-in_err-put_named-2-clause-front g c =
    front_named c.args.out.now.items c.args.name.now _ c.put_named.new.out.items c.put_named-2.new.out.items c.in_ok-put_named.ensures.appended (front_behind c.put_named.new.out.items _ c.push.new.self.items c.put_named-2.new.out.items c.in_ok-push.ensures.items c.put_named-2.ensures.front)

pub returns-in_err-push-2-clause-front : goal.returns-in_err-push-2-clause-front
returns-in_err-push-2-clause-front g c =
    front_named c.args.out.now.items c.args.name.now _ c.put_named.new.out.items c.push-2.new.self.items c.in_ok-put_named.ensures.appended (front_behind c.put_named.new.out.items _ c.push.new.self.items c.push-2.new.self.items c.in_ok-push.ensures.items (front_named c.push.new.self.items c.args.word.now _ c.put_named-2.new.out.items c.push-2.new.self.items c.in_ok-put_named-2.ensures.appended (front_same c.put_named-2.new.out.items c.push-2.new.self.items c.in_err-push-2.ensures.items)))

pub returns : goal.returns
returns g c =
    let line = two_named c.args.out.now.items c.put_named.new.out.items c.push.new.self.items c.put_named-2.new.out.items c.push-2.new.self.items c.args.name.now (decimal c.args.first) c.args.word.now (decimal c.args.second) c.in_ok-put_named.ensures.appended c.in_ok-push.ensures.items c.in_ok-put_named-2.ensures.appended c.in_ok-push-2.ensures.items in
    record { appended = line; front = front_stays c.args.out.now.items _ c.push-2.new.self.items line }
