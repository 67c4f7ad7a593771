use Rattle.std.proofs.Common.{rules, []}
use Rattle.fare_json.specs.Lines.{is_gap, object_of, pieces}
use Rattle.fare_json.proofs.Objects.{line_written}
use Rattle.fare_json.proofs.document.put_lines.Goals as goal

pub loop-line-preserved : goal.loop-line-preserved
loop-line-preserved c = record {
  kept = search rules;
  rest = line_written (λ line. object_of (pieces is_gap line)) c.deref-line-items.result.now c.loop-line.line-index (record { ref_ptr = (0, 0); now = [] }) c.loop-line.writer.tokens c.put_line.new.writer.tokens _ c.loop-line-test.true c.in_ok-put_line.ensures.written c.loop-line.invariant.rest;
}
