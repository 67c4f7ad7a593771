use Rattle.std.proofs.Common.{ℕ, take}
use Rattle.fare_scheme.specs.declared.entry.Product.{Product}
use Rattle.fare_setup.specs.SchemeLines.{product_lines}
use Rattle.fare_register.specs.Registers.{told_list, OwnerFits, product_numbers, ArePushed}
use Rattle.fare_register.proofs.reading.push_products.Given as goal

abbrev pub invariant-loop-row : goal.invariant-loop-row
invariant-loop-row l = ArePushed (ℕ × Product) OwnerFits product_numbers product_lines (told_list (take l.row-index l.rows)) l.fn.lines.items l.lines.items
