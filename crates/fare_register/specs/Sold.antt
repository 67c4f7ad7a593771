-- A product as its row tells it.
use Rattle.std.specs.Prelude.{ℕ}
use Rattle.fare_scheme.specs.declared.entry.Product.{Product}
use Rattle.fare_register.specs.declared.rows.Sold.{Sold}

-- the product's entry
abbrev pub entry_of : Sold → ℕ × Product
entry_of sold = (sold.product, record { owner = sold.owner; tariff = record { fare = sold.fare; daily = sold.daily; weekly = sold.weekly; hop = sold.window } })
