-- Several taps of one lane at once.
use Rattle.std.specs.Prelude.{◌≡◌, ℕ, ◌+◌, ◌==◌, ◌&&◌, nat_le, nat_lt, Bool, false, if◌then◌else◌, List, [], ◌∷◌, ◌++◌, Ok}
use Rattle.fare_record.specs.Values.{RecordValue}
use Rattle.fare_store.specs.LedgerWords.{LedgerValue, took}
use Rattle.fare_store.specs.Batches.{done_all}
use Rattle.fare_ledger.specs.Held.{Held, TapRow, row_of, with_tap}
use Rattle.fare_ledger.specs.Words.{JudgesTap}

-- the tap stands so many places behind the first one in its lane, and its day isn't closed
pub record FollowsIn (start closed : ℕ) (first : RecordValue) (place : ℕ) (r : RecordValue) : Type 0 where
  pub owner : r.owner ≡ first.owner
  pub device : r.device ≡ first.device
  pub lane : r.lane ≡ first.lane + place
  pub open_day : (nat_le start r.tap.day && nat_lt r.tap.day (start + closed)) ≡ false

-- so do these, one after the other
abbrev pub AreFollowing : ℕ → ℕ → RecordValue → ℕ → List RecordValue → Type 0
AreFollowing start closed first place [] = Unit {0}
AreFollowing start closed first place (r ∷ rs) = FollowsIn start closed first place r × AreFollowing start closed first (place + 1) rs

-- a tap, and then those behind it in its lane
pub record IsRun (start closed : ℕ) (first : RecordValue) (rs : List RecordValue) : Type 0 where
  pub more : List RecordValue
  pub is : rs ≡ first ∷ more
  pub following : AreFollowing start closed first 1 more

-- these may be taken one after the other, where so many days of their device are closed
abbrev pub AreTakable : LedgerValue → ℕ → List RecordValue → Type 0
AreTakable v closed [] = Unit {0}
AreTakable v closed (r ∷ rs) = JudgesTap v r (Ok closed) × AreTakable (took r v) closed rs

-- the first of these is of a device
abbrev pub goes_on : ℕ → List RecordValue → Bool
goes_on device [] = false
goes_on device (r ∷ rs) = r.device == device

-- a tap more, and its device's numbers only where the next one is not of the device too
abbrev pub with_tap_if : Bool → TapRow → ℕ → Held → Held
with_tap_if last t closed h = record h { lanes = λ x. if last && (t.device == x) then record { taken = t.lane; closed = closed } else h.lanes x; taps = h.taps ++ t ∷ [] }

-- the tables hold these too
abbrev pub with_taps : ℕ → List RecordValue → Held → Held
with_taps closed rs h = done_all (λ (r : RecordValue) (g : Held). with_tap (row_of r) closed g) rs h
