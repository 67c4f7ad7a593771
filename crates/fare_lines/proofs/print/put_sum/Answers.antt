use Rattle.std.proofs.Common.{◌∙◌}
use Rattle.std.specs.Fmt.{decimal}
use Rattle.fare_lines.proofs.Pieces.{front_same, front_spaced, text_spaced}
use Rattle.fare_lines.proofs.print.put_sum.Goals as goal

pub returns-in_err-push-clause-front : goal.returns-in_err-push-clause-front
returns-in_err-push-clause-front c = front_same c.args.out.now.items c.push.new.self.items c.in_err-push.ensures.items

pub returns : goal.returns
returns c = record {
  appended = text_spaced c.extend_from_slice.result c.args.out.now.items c.push.new.self.items c.extend_from_slice.new.self.items c.as_bytes.result.now (decimal c.args.sum) c.in_ok-push.ensures.items (c.as_bytes.ensures.value ∙ c.format.ensures.text) c.extend_from_slice.ensures.items;
  front = front_spaced c.extend_from_slice.result c.args.out.now.items c.push.new.self.items c.extend_from_slice.new.self.items c.as_bytes.result.now c.in_ok-push.ensures.items c.extend_from_slice.ensures.items;
}
