use Rattle.std.proofs.Common.{◌<◌, Vec, Global, length, ap, sym, ◌∙◌, arith}
use Rattle.fare_lines.specs.declared.line.SchemeLine.{SchemeLine}
use Rattle.fare_setup.specs.SchemeLines.{product_lines}
use Rattle.fare_setup.proofs.Pushing.{none_past, some_lines}
use Rattle.fare_setup.proofs.lines.push_products.Goals as goal
use Rattle.fare_setup.proofs.lines.push_products.Goals.{in-Some+in_ok-push_product, in_default}

pub loop-position-preserved : goal.loop-position-preserved
loop-position-preserved c = elim c.match-product_entry.branch [
  | in-Some+in_ok-push_product w ↦
      some_lines product_lines c.args.lines.now.items c.loop-position.lines.items c.match-product_entry.lines.items c.args.scheme.now.products c.loop-position.position w.in-Some.entry (sym w.in-Some.is ∙ c.product_entry.ensures.is)
      c.loop-position.invariant (ap (λ (v : Vec SchemeLine Global). v.items) w.lines-is ∙ w.in_ok-push_product.ensures)
  | in_default w ↦
      let within : c.loop-position.position < length c.args.scheme.now.products = omega arith in
      absurd (none_past c.args.scheme.now.products c.loop-position.position (sym w.in_default.is ∙ c.product_entry.ensures.is) within)
]
