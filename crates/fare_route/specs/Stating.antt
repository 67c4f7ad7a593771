-- What the outbox holds of a device's day for all owners.
use Rattle.std.specs.Prelude.{ℕ, Bool, is_some}
use Rattle.std.specs.List.{list_all}
use Rattle.fare_scheme.specs.Values.{SchemeValue}
use Rattle.fare_store.specs.OutboxWords.{OutboxValue}

-- it holds the device's statements of the day for all owners of the scheme
abbrev pub are_all_stated : SchemeValue → OutboxValue → ℕ → ℕ → Bool
are_all_stated sc v device day = list_all (λ o. is_some (v.stated o.0 device day)) sc.owners
