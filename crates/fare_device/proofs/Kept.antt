-- What a device keeps, where it changes.
use Rattle.std.proofs.Common.{◌≡◌, ◌≤◌, ◌+◌, ◌-◌, ℕ, List, [], ◌∷◌, ◌++◌, length, drop, inl, inr, sym, ap, ◌∙◌, arith}
use Rattle.std.proofs.Math.ListN.{set}
use Rattle.std.proofs.lemmas.List.{length-drop}
use Rattle.fare_record.specs.Values.{RecordValue}
use Rattle.fare_device.specs.DeviceWords.{DeviceValue, IsDeviceValue, IsKept, IsTail, AreWithin, last_link}
use Rattle.fare_device.proofs.Places.{slice_get-set_cases, slice_get-push_cases, slice_get-drop}

pub within_more : (most more : ℕ) (ns : List ℕ) → most ≤ more → AreWithin most ns → AreWithin more ns
within_more most more ns le within k n e = omega (arith, within k n e)

-- one number more
pub within_set : (most more : ℕ) (ns : List ℕ) (place v : ℕ) → most ≤ more → v ≤ more → AreWithin most ns → AreWithin more (set ns place v)
within_set most more ns place v le fits within k n e =
    elim (slice_get-set_cases ns place v k n e) [
      | inl new ↦ omega arith
      | inr old ↦ omega (arith, within k n old)
    ]

-- a tap more
pub tail_more : (id base : ℕ) (waiting : List RecordValue) (r : RecordValue) → IsTail id base waiting → IsKept id base (length waiting) r → IsTail id base (waiting ++ r ∷ [])
tail_more id base waiting r tail next k x e =
    elim (slice_get-push_cases waiting r k x e) [
      | inl old ↦ tail k x old
      | inr new ↦ record { device = sym (ap (λ (y : RecordValue). y.device) new.1) ∙ next.device; link = omega (arith, new.0, next.link, ap (λ (y : RecordValue). y.link) new.1) }
    ]

-- the first ones are gone
pub tail_fewer : (id base gone later : ℕ) (waiting : List RecordValue) → later ≡ base + gone → IsTail id base waiting → IsTail id later (drop gone waiting)
tail_fewer id base gone later waiting is tail k x e =
    let kept = tail (gone + k) x (sym (slice_get-drop gone waiting k) ∙ e) in
    record { device = kept.device; link = omega (arith, kept.link, is) }

-- acknowledged taps are gone
pub acknowledged_kept : (x : DeviceValue) (gone room base cursor : ℕ) (waiting : List RecordValue) → IsDeviceValue x → gone ≤ length x.waiting → waiting ≡ drop gone x.waiting → room ≡ x.room → base ≡ x.base + gone → base ≤ cursor → cursor ≤ last_link x
    → IsDeviceValue (record x { waiting = waiting; room = room; base = base; cursor = cursor })
acknowledged_kept x gone room base cursor waiting was fits is same later sent few =
    let fewer : length waiting ≡ length x.waiting - gone = ap length is ∙ length-drop gone x.waiting in
    let last : base + length waiting ≡ last_link x = omega (arith, fewer, later, fits) in
    record {
      few = omega (arith, last, was.few);
      within = omega (arith, fewer, same, was.within);
      base = sent;
      cursor = omega (arith, last, few);
      tail = rw is (tail_fewer x.id x.base gone base x.waiting later was.tail);
      owners = was.owners;
      registered = was.registered;
      lanes = within_more (last_link x) (base + length waiting) x.lanes (omega (arith, last)) was.lanes;
      counts = within_more (last_link x) (base + length waiting) x.counts (omega (arith, last)) was.counts;
      places = was.places;
      days = was.days;
    }
