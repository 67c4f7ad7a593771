-- What a device does with a tap.
use Rattle.std.specs.Prelude.{ℕ, ◌≡◌, ◌+◌, ◌<◌, ◌≤◌, [], ◌∷◌, ◌++◌, Some, None, IsSome, length, slice_index, slice_set}
use Rattle.fare_record.specs.Values.{RecordValue, TapValue}
use Rattle.fare_scheme.specs.Values.{SchemeValue}
use Rattle.fare_scheme.specs.Words.{owner_of, position_of_owner}
use Rattle.fare_device.specs.DeviceWords.{DeviceValue, last_link}
use Rattle.fare_device.specs.declared.device.TapRefusal.{TapRefusal}
use Rattle.fare_device.specs.declared.device.TapRefusal.TheVariants.{UnknownProduct, DayClosed, DayAhead, NumbersSpent, BufferFull}

-- a tap of the product on this day may be the next of this owner, whose lane is at the place
pub record MayNumber (sc : SchemeValue) (x : DeviceValue) (product day owner place : ℕ) : Type 0 where
  pub owned : owner_of sc product ≡ Some owner
  pub at : position_of_owner sc owner ≡ Some place
  pub current : day ≡ x.day
  pub few : last_link x < 1099511627775

-- the tap is numbered for the owner whose lane is at the place
pub record IsNumbered (old : DeviceValue) (owner place : ℕ) (tap : TapValue) (r : RecordValue) (new : DeviceValue) : Type 0 where
  pub room : length old.waiting < old.room
  pub is : r ≡ record { device = old.id; link = last_link old + 1; owner = owner; lane = slice_index old.lanes place + 1; tap = tap }
  pub value : new ≡ record old { waiting = old.waiting ++ r ∷ []; lanes = slice_set old.lanes place r.lane; counts = slice_set old.counts place (slice_index old.counts place + 1) }

-- the tap gets the device's next link and its owner's next lane, waits behind the others, and is one more of its owner's taps of the open day
pub record IsTapped (sc : SchemeValue) (old : DeviceValue) (product token moment day route : ℕ) (r : RecordValue) (new : DeviceValue) : Type 0 where
  pub place : ℕ
  pub owner : owner_of sc product ≡ Some r.owner
  pub at : position_of_owner sc r.owner ≡ Some place
  pub current : day ≡ old.day
  pub few : last_link old < 1099511627775
  pub room : length old.waiting < old.room
  pub is : r ≡ record { device = old.id; link = last_link old + 1; owner = r.owner; lane = slice_index old.lanes place + 1; tap = record { product = product; token = token; moment = moment; day = day; route = route } }
  pub value : new ≡ record old { waiting = old.waiting ++ r ∷ []; lanes = slice_set old.lanes place r.lane; counts = slice_set old.counts place (slice_index old.counts place + 1) }

-- when each refusal comes: no earlier one applies, and this one does
abbrev pub TapRefused : SchemeValue → DeviceValue → ℕ → ℕ → TapRefusal → Type 0
TapRefused sc x product day UnknownProduct = owner_of sc product ≡ None
TapRefused sc x product day DayClosed = IsSome (owner_of sc product) × (day < x.day)
TapRefused sc x product day DayAhead = IsSome (owner_of sc product) × (x.day < day)
TapRefused sc x product day NumbersSpent = IsSome (owner_of sc product) × (day ≡ x.day) × (1099511627775 ≤ last_link x)
TapRefused sc x product day BufferFull = IsSome (owner_of sc product) × (day ≡ x.day) × (last_link x < 1099511627775) × (length x.waiting ≡ x.room)
