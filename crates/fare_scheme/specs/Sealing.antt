-- Sealing: the scheme of a draft.
use Rattle.std.specs.Prelude.{◌≡◌, ◌==◌, Bool, ◌||◌, is_none, [], ◌∷◌, length, Option, Some}
use Rattle.fare_scheme.specs.declared.fault.SealFault.{SealFault}
use Rattle.fare_scheme.specs.declared.fault.SealFault.TheVariants.{NothingRegistered, NoStart, NoZone}
use Rattle.fare_scheme.specs.Values.{DraftValue, SchemeValue}
use Rattle.fare_scheme.specs.Registering.{first_case}

-- nothing is registered of some kind
abbrev pub lacks_a_kind : DraftValue → Bool
lacks_a_kind draft =
    (length draft.owners == 0) || (length draft.operators == 0) || (length draft.stations == 0)
    || (length draft.products == 0) || (length draft.devices == 0)

abbrev pub seal_refusal : DraftValue → Option SealFault
seal_refusal draft = first_case (
    (lacks_a_kind draft, NothingRegistered)
    ∷ (is_none draft.start, NoStart)
    ∷ (is_none draft.zone, NoZone)
    ∷ [])

-- the scheme has the draft's lists and settings
pub record IsSealedFrom (draft : DraftValue) (scheme : SchemeValue) : Type 0 where
  pub owners : scheme.owners ≡ draft.owners
  pub operators : scheme.operators ≡ draft.operators
  pub stations : scheme.stations ≡ draft.stations
  pub products : scheme.products ≡ draft.products
  pub devices : scheme.devices ≡ draft.devices
  pub inbox_capacity : scheme.inbox_capacity ≡ draft.inbox_capacity
  pub start : draft.start ≡ Some scheme.start
  pub zone : draft.zone ≡ Some scheme.zone
