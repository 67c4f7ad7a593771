use Rattle.std.proofs.Common.{◌≡◌, ◌++◌, take}
use Rattle.std.specs.List.{flat_map}
use Rattle.fare_setup.specs.SchemeLines.{product_lines}
use Rattle.fare_setup.proofs.lines.push_products.Given as goal

abbrev pub invariant-loop-position : goal.invariant-loop-position
invariant-loop-position l = l.lines.items ≡ l.fn.lines.items ++ flat_map product_lines (take l.position l.scheme.products)
