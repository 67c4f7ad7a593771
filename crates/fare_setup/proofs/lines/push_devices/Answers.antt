use Rattle.std.proofs.Common.{◌<◌, Vec, Global, length, ap, sym, ◌∙◌, arith}
use Rattle.fare_lines.specs.declared.line.SchemeLine.{SchemeLine}
use Rattle.fare_setup.specs.SchemeLines.{device_line}
use Rattle.fare_setup.proofs.Pushing.{no_line_past, one_line}
use Rattle.fare_setup.proofs.lines.push_devices.Goals as goal
use Rattle.fare_setup.proofs.lines.push_devices.Goals.{in-Some+in_ok-push, in_default}

pub loop-position-preserved : goal.loop-position-preserved
loop-position-preserved c = elim c.match-line_of_device.branch [
  | in-Some+in_ok-push w ↦
      one_line device_line c.args.lines.now.items c.loop-position.lines.items c.match-line_of_device.lines.items c.args.scheme.now.devices c.loop-position.position w.in-Some.line (sym w.in-Some.is ∙ c.line_of_device.ensures)
      c.loop-position.invariant (ap (λ (v : Vec SchemeLine Global). v.items) w.lines-is ∙ w.in_ok-push.ensures.items)
  | in_default w ↦
      let within : c.loop-position.position < length c.args.scheme.now.devices = omega arith in
      absurd (no_line_past device_line c.args.scheme.now.devices c.loop-position.position (sym w.in_default.is ∙ c.line_of_device.ensures) within)
]
