-- The accounts of records stand in order, each once, and none is left out.
use Rattle.std.proofs.Common.{◌≡◌, true, List}
use Rattle.std.specs.Cmp.{IsTotalOrder, nat_cmp_total, on_total, then_total}
use Rattle.std.specs.List.{AllByRecursion, list_any}
use Rattle.fare_record.specs.Values.{RecordValue}
use Rattle.fare_cap.specs.Values.{AccountValue}
use Rattle.fare_cap.specs.Accounts.{account_of, same_account, compare_accounts, accounts_of}
use Rattle.fare_cap.proofs.CountedKeys.{account_tied, same_account_is}
use Rattle.fare_settle.proofs.Listing.{keys_apart, keys_all, same_self}
use Rattle.fare_settle.proofs.Summing.{IsApart}

accounts_total : IsTotalOrder compare_accounts
accounts_total = then_total (on_total (λ (a : AccountValue). a.product) nat_cmp_total) (on_total (λ (a : AccountValue). a.token) nat_cmp_total)

pub accounts_apart : (rs : List RecordValue) → IsApart same_account (accounts_of rs)
accounts_apart rs = keys_apart compare_accounts same_account accounts_total account_tied same_account_is account_of rs

pub same_account_self : (a : AccountValue) → same_account a a ≡ true
same_account_self a = same_self compare_accounts same_account accounts_total account_tied same_account_is account_of a

-- each record's account is among these
abbrev pub AreAmong : List AccountValue → List RecordValue → Type 0
AreAmong accounts rs = AllByRecursion (λ r. list_any (same_account (account_of r)) accounts ≡ true) rs

pub accounts_all : (rs : List RecordValue) → AreAmong (accounts_of rs) rs
accounts_all rs = keys_all compare_accounts same_account accounts_total account_tied same_account_is account_of rs
