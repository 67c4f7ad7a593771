-- The demonstration schemes are sealed from their drafts.
use Rattle.std.proofs.Common.{◌≡◌, ℕ, Option, Some, None, refl, sym, ◌∙◌}
use Rattle.fare_day.specs.declared.zone.Zone.{Zone}
use Rattle.fare_scheme.specs.declared.demo.DemoSize.{DemoSize}
use Rattle.fare_scheme.specs.declared.demo.DemoSize.TheVariants.{OneDevice, TwoDevices}
use Rattle.fare_scheme.specs.Values.{DraftValue, SchemeValue}
use Rattle.fare_scheme.specs.Demo.{demo_scheme}
use Rattle.fare_scheme.specs.Sealing.{seal_refusal, IsSealedFrom}

pub sealable : (size : DemoSize) (d : DraftValue) (buffer inbox lane : ℕ) (zone : Zone) → IsSealedFrom d (demo_scheme size buffer inbox lane zone) → seal_refusal d ≡ None
sealable OneDevice d buffer inbox lane zone s = rw (← s.owners, ← s.operators, ← s.stations, ← s.products, ← s.devices, s.start, s.zone) refl
sealable TwoDevices d buffer inbox lane zone s = rw (← s.owners, ← s.operators, ← s.stations, ← s.products, ← s.devices, s.start, s.zone) refl

pub same_zone : (d : DraftValue) (a b : SchemeValue) → IsSealedFrom d a → IsSealedFrom d b → a.zone ≡ b.zone
same_zone d a b p q = let e : ◌≡◌ {A = Option Zone} (Some a.zone) (Some b.zone) = sym p.zone ∙ q.zone in cc

-- one draft is sealed into one scheme
pub same_scheme : (d : DraftValue) (a b : SchemeValue) → IsSealedFrom d a → IsSealedFrom d b → a ≡ b
same_scheme d a b p q =
    let owners = p.owners ∙ sym q.owners in
    let operators = p.operators ∙ sym q.operators in
    let stations = p.stations ∙ sym q.stations in
    let products = p.products ∙ sym q.products in
    let devices = p.devices ∙ sym q.devices in
    let inbox = p.inbox_capacity ∙ sym q.inbox_capacity in
    let starts : ◌≡◌ {A = Option ℕ} (Some a.start) (Some b.start) = sym p.start ∙ q.start in
    let start : a.start ≡ b.start = (cc) in
    let zone = same_zone d a b p q in
    λ i. record {
      owners = owners i;
      operators = operators i;
      stations = stations i;
      products = products i;
      devices = devices i;
      inbox_capacity = inbox i;
      start = start i;
      zone = zone i;
    }

pub zone_of : (size : DemoSize) (buffer inbox lane : ℕ) (zone : Zone) → zone ≡ (demo_scheme size buffer inbox lane zone).zone
zone_of OneDevice buffer inbox lane zone = refl
zone_of TwoDevices buffer inbox lane zone = refl
