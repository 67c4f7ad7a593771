-- What contracts see of a tap and of its record.
use Rattle.std.specs.Prelude.{ℕ}
use Rattle.fare_record.specs.Limits.{IsNumber}

-- a tap: what was used, when, the traffic day of that moment, and the route, or 0 where none is known
pub record TapValue : Type 0 where
  pub product : ℕ
  pub token : ℕ
  pub moment : ℕ
  pub day : ℕ
  pub route : ℕ

-- a numbered tap: its device, its place in all taps of the device, the owner of its product, and its place in that owner's taps of the device
pub record RecordValue : Type 0 where
  pub device : ℕ
  pub link : ℕ
  pub owner : ℕ
  pub lane : ℕ
  pub tap : TapValue

-- both numbers are within their limits
pub record IsRecord (r : RecordValue) : Type 0 where
  pub link : IsNumber r.link
  pub lane : IsNumber r.lane

-- a device's statement of how many taps of a day it numbered for an owner
pub record StatementValue : Type 0 where
  pub device : ℕ
  pub day : ℕ
  pub owner : ℕ
  pub count : ℕ

-- an acknowledgement of all taps of a device up to this link
pub record AckValue : Type 0 where
  pub device : ℕ
  pub upto : ℕ

-- an acknowledgement of all statements of a device for a day
pub record DayAckValue : Type 0 where
  pub device : ℕ
  pub day : ℕ

-- a greeting: the device that speaks, and the version of its frames
pub record HelloValue : Type 0 where
  pub device : ℕ
  pub version : ℕ
