-- Accounts, and which of their taps count.
use Rattle.std.specs.Prelude.{ℕ, Bool, ◌&&◌, ◌==◌, nat_le, is_some, List, [], filter, fold}
use Rattle.std.specs.declared.cmp.Ordering.{Ordering}
use Rattle.std.specs.Ordering.{nat_cmp, ordering_then}
use Rattle.std.specs.BTreeSet.{insert_key}
use Rattle.fare_record.specs.Values.{RecordValue}
use Rattle.fare_scheme.specs.Values.{SchemeValue}
use Rattle.fare_scheme.specs.Words.{owner_of, operator_of}
use Rattle.fare_cap.specs.Values.{AccountValue}

-- whose tap a record is
abbrev pub account_of : RecordValue → AccountValue
account_of r = record { product = r.tap.product; token = r.tap.token }

abbrev pub same_account : AccountValue → AccountValue → Bool
same_account a b = a.product == b.product && a.token == b.token

-- by product, then token
abbrev pub compare_accounts : AccountValue → AccountValue → Ordering
compare_accounts a b = ordering_then (nat_cmp a.product b.product) (nat_cmp a.token b.token)

-- a record counts where its product has an owner and its device an operator, which they have where they are
-- registered, and its day isn't before the scheme's first one
abbrev pub counts : SchemeValue → RecordValue → Bool
counts scheme r = (is_some (owner_of scheme r.tap.product) && is_some (operator_of scheme r.device)) && nat_le scheme.start r.tap.day

-- the records of a day that count
abbrev pub counted_on : SchemeValue → ℕ → List RecordValue → List RecordValue
counted_on scheme day records = filter (λ r. counts scheme r && r.tap.day == day) records

-- an account's part of them
abbrev pub part_of : AccountValue → List RecordValue → List RecordValue
part_of account records = filter (λ r. same_account (account_of r) account) records

-- the accounts of these records, each once, ascending
abbrev pub accounts_of : List RecordValue → List AccountValue
accounts_of records = fold (λ accounts r. insert_key compare_accounts accounts (account_of r)) [] records
