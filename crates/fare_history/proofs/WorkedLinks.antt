-- The worked cases of accepted links, computed.
use Rattle.std.proofs.Common.{◌≡◌, ℕ, [], ◌∷◌, Some, refl, arith}
use Rattle.std.specs.Prelude.{Option}
use Rattle.fare_day.specs.declared.zone.Zone.{Zone}
use Rattle.fare_frame.specs.declared.frame.Frame.TheVariants.{Tapped}
use Rattle.fare_history.specs.AcceptedLinks.{IsLink, AreAcceptedLinks}
use Rattle.fare_history.specs.Examples.{one_device, tap_number}

-- ANOTHER LINK
two_is_not : (clock : Zone) → IsLink (one_device clock) 1 1 (tap_number 1 2) → ⊥
two_is_not clock is = let same : 2 ≡ 1 = is.is in absurd (omega (arith, same))

one_is_not : (clock : Zone) → IsLink (one_device clock) 1 2 (tap_number 1 1) → ⊥
one_is_not clock is = let same : 1 ≡ 2 = is.is in absurd (omega (arith, same))

pub both_links : (clock : Zone) → AreAcceptedLinks (one_device clock) 1 0 (Tapped (tap_number 1 2) ∷ Tapped (tap_number 1 1) ∷ Tapped (tap_number 1 1) ∷ Tapped (tap_number 1 2) ∷ []) (tap_number 1 1 ∷ tap_number 1 2 ∷ [])
both_links clock = (
  Tapped (tap_number 1 1) ∷ Tapped (tap_number 1 2) ∷ [],
  record { before = Tapped (tap_number 1 2) ∷ []; stands = refl; is = record { of_device = refl; is = refl; owned = refl }; first = (two_is_not clock, tt) },
  ([], record { before = Tapped (tap_number 1 1) ∷ []; stands = refl; is = record { of_device = refl; is = refl; owned = refl }; first = (one_is_not clock, tt) }, tt),
)

pub one_link : (clock : Zone) → AreAcceptedLinks (one_device clock) 1 0 (Tapped (tap_number 1 2) ∷ Tapped (tap_number 1 1) ∷ Tapped (tap_number 1 1) ∷ []) (tap_number 1 1 ∷ [])
one_link clock = (
  Tapped (tap_number 1 1) ∷ [],
  record { before = Tapped (tap_number 1 2) ∷ []; stands = refl; is = record { of_device = refl; is = refl; owned = refl }; first = (two_is_not clock, tt) },
  (one_is_not clock, tt),
)

pub owned_link : (clock : Zone) → AreAcceptedLinks (one_device clock) 1 0 (Tapped (record (tap_number 1 1) { owner = 2 }) ∷ Tapped (tap_number 1 1) ∷ []) (tap_number 1 1 ∷ [])
owned_link clock = ([], record { before = Tapped (record (tap_number 1 1) { owner = 2 }) ∷ []; stands = refl; is = record { of_device = refl; is = refl; owned = refl }; first = (not_owned, tt) }, tt)
  where
    not_owned : IsLink (one_device clock) 1 1 (record (tap_number 1 1) { owner = 2 }) → ⊥
    not_owned is = let same : ◌≡◌ {A = Option ℕ} (Some 1) (Some 2) = is.owned in absurd (cc)
