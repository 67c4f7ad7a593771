-- Several rows at once, each behind the ones before it.
use Rattle.std.specs.Prelude.{◌≡◌, ℕ, ◌≤◌, nat_le, ◌==◌, ◌&&◌, Bool, false, if◌then◌else◌, List, [], ◌∷◌, take, Option, Some, None, Ok}
use Rattle.std.specs.List.{AllByRecursion, list_any}
use Rattle.fare_record.specs.Values.{RecordValue}
use Rattle.fare_store.specs.OutboxWords.{OutboxValue, store_judged, stored}
use Rattle.fare_store.specs.Batches.{done_all, AreAccepted, IsRefusedFirst}
use Rattle.fare_outbox.specs.Words.{tap_key, is_at}

-- the link of the last of these that is of a device, or else what is known before them
abbrev pub link_among : Option ℕ → ℕ → List RecordValue → Option ℕ
link_among known device [] = known
link_among known device (r ∷ rs) = link_among (if device == r.device then Some r.link else known) device rs

-- none of these has the owner, device and lane number of the row
abbrev pub IsFreeOf : RecordValue → List RecordValue → Type 0
IsFreeOf r rs = AllByRecursion (λ x. is_at tap_key r.owner r.device r.lane x ≡ false) rs

-- a row of the lane of another, and of no greater lane number
abbrev pub is_before : RecordValue → RecordValue → Bool
is_before r x = (x.owner == r.owner) && (x.device == r.device) && nat_le x.lane r.lane

-- one of these is
abbrev pub any_before : RecordValue → List RecordValue → Bool
any_before r rs = list_any (is_before r) rs

-- no row is held from the row's place in its lane on
abbrev pub IsEnd : OutboxValue → RecordValue → Type 0
IsEnd v r = (lane : ℕ) → r.lane ≤ lane → v.rows r.owner r.device lane ≡ None

-- that is so of all of these, but maybe the first
abbrev pub AreEnds : OutboxValue → List RecordValue → Type 0
AreEnds v [] = Unit {0}
AreEnds v (r ∷ rs) = AllByRecursion (IsEnd v) rs

-- the row may be stored behind these
pub record Follows (v : OutboxValue) (rs : List RecordValue) (r : RecordValue) : Type 0 where
  pub judged : store_judged (done_all stored rs v) r ≡ Ok tt
  pub lane : r.lane ≤ 9223372036854775807

-- these may be stored one after the other
pub record AreWelcome (v : OutboxValue) (rs : List RecordValue) : Type 0 where
  pub accepted : AreAccepted store_judged stored v rs
  pub lanes : AllByRecursion (λ (r : RecordValue). r.lane ≤ 9223372036854775807) rs

-- so may the first n of these, and none only where the first is refused
pub record IsWelcomePart (v : OutboxValue) (rs : List RecordValue) (n : ℕ) : Type 0 where
  pub welcome : AreWelcome v (take n rs)
  pub some : n ≡ 0 → IsRefusedFirst store_judged v rs
