use Rattle.std.specs.Fmt.{decimal}
use Rattle.std.specs.Prelude.{codes}
use Rattle.fare_lines.proofs.RowLines.{front_behind, front_stays}
use Rattle.fare_lines.proofs.Pieces.{front_same, front_named, two_named_more}
use Rattle.fare_lines.proofs.print.put_answer.Goals as goal

pub returns-in_err-push-clause-front : goal.returns-in_err-push-clause-front
returns-in_err-push-clause-front c =
    front_named c.args.out.now.items (codes "packet") _ c.put_named.new.out.items c.push.new.self.items c.in_ok-put_named.ensures.appended (front_same c.put_named.new.out.items c.push.new.self.items c.in_err-push.ensures.items)

pub returns-in_err-put_named-2-clause-front : goal.returns-in_err-put_named-2-clause-front
returns-in_err-put_named-2-clause-front c =
    front_named c.args.out.now.items (codes "packet") _ c.put_named.new.out.items c.put_named-2.new.out.items c.in_ok-put_named.ensures.appended (front_behind c.put_named.new.out.items _ c.push.new.self.items c.put_named-2.new.out.items c.in_ok-push.ensures.items c.put_named-2.ensures.front)

pub returns-in_err-put_number-clause-front : goal.returns-in_err-put_number-clause-front
returns-in_err-put_number-clause-front c =
    front_named c.args.out.now.items (codes "packet") _ c.put_named.new.out.items c.put_number.new.out.items c.in_ok-put_named.ensures.appended (front_behind c.put_named.new.out.items _ c.push.new.self.items c.put_number.new.out.items c.in_ok-push.ensures.items (front_named c.push.new.self.items (codes "ack") _ c.put_named-2.new.out.items c.put_number.new.out.items c.in_ok-put_named-2.ensures.appended c.put_number.ensures.front))

pub returns-in_err-push-2-clause-front : goal.returns-in_err-push-2-clause-front
returns-in_err-push-2-clause-front c =
    front_named c.args.out.now.items (codes "packet") _ c.put_named.new.out.items c.push-2.new.self.items c.in_ok-put_named.ensures.appended (front_behind c.put_named.new.out.items _ c.push.new.self.items c.push-2.new.self.items c.in_ok-push.ensures.items (front_named c.push.new.self.items (codes "ack") _ c.put_named-2.new.out.items c.push-2.new.self.items c.in_ok-put_named-2.ensures.appended (front_behind c.put_named-2.new.out.items _ c.put_number.new.out.items c.push-2.new.self.items c.in_ok-put_number.ensures.appended (front_same c.put_number.new.out.items c.push-2.new.self.items c.in_err-push-2.ensures.items))))

pub returns : goal.returns
returns c =
    let line = two_named_more c.args.out.now.items c.put_named.new.out.items c.push.new.self.items c.put_named-2.new.out.items c.put_number.new.out.items c.push-2.new.self.items (codes "packet") (decimal c.args.packet) (codes "ack") (decimal c.args.device) (decimal c.args.upto) c.in_ok-put_named.ensures.appended c.in_ok-push.ensures.items c.in_ok-put_named-2.ensures.appended c.in_ok-put_number.ensures.appended c.in_ok-push-2.ensures.items in
    record { appended = line; front = front_stays c.args.out.now.items _ c.push-2.new.self.items line }
