-- Why there is no plain ledger, memory apart.
use Rattle.std.specs.Prelude.{ℕ, Option, None, Some, is_none, if◌then◌else◌}
use Rattle.fare_scheme.specs.Values.{SchemeValue}
use Rattle.fare_scheme.specs.Words.{position_of_owner}
use Rattle.fare_store.specs.declared.fault.LedgerFault.{LedgerFault}
use Rattle.fare_store.specs.declared.fault.LedgerFault.TheVariants.{UnknownOwner}

abbrev pub new_refusal : SchemeValue → ℕ → Option LedgerFault
new_refusal scheme owner = if is_none (position_of_owner scheme owner) then Some UnknownOwner else None
