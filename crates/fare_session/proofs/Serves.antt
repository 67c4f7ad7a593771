-- What the ledger told of each device, and the lanes that go on.
use Rattle.std.proofs.Common.{◌≡◌, ℕ, suc, ◌+◌, ◌-◌, ◌<◌, Some, None, Bool, true, false, List, [], ◌∷◌, length, refl, sym, ap, ◌∙◌, subst, arith}
use Rattle.std.specs.Prelude.{◌==◌, if◌then◌else◌, cond, nat_eq, slice_get, get_or, Option, is_some, option_map, option_and_then, Result, Err}
use Rattle.std.specs.List.{AllByRecursion}
use Rattle.std.specs.Map.{lookup, keys_of}
use Rattle.std.proofs.lemmas.Bool.Decides.{Decides-eqb, nat_tests}
use Rattle.std.proofs.lemmas.Option.{same_Some, slice_get_within, slice_get-get_or}
use Rattle.std.proofs.lemmas.List.Quantifiers.{position-Some}
use Rattle.std.proofs.lemmas.Map.Entries.{length-keys_of}
use Rattle.fare_scheme.specs.Values.{SchemeValue}
use Rattle.fare_scheme.specs.Words.{position_of_device}
use Rattle.fare_scheme.proofs.Known.{id_at_place}
use Rattle.fare_route.specs.declared.cursor.Cursor.{Cursor}
use Rattle.fare_route.specs.declared.forwarder.Forwarder.{Forwarder}
use Rattle.fare_route.specs.Routing.{cursor_of, started, standing_at, first_day}
use Rattle.fare_store.specs.declared.fault.Fault.{Fault}
use Rattle.fare_store.specs.declared.fault.Fault.TheVariants as fault
use Rattle.fare_store.specs.Standing.{Standing}
use Rattle.fare_store.specs.LedgerWords.{LedgerValue, IsOfScheme, closed_through}
use Rattle.fare_session.specs.declared.fault.SessionFault.{SessionFault}
use Rattle.fare_session.specs.declared.fault.SessionFault.TheVariants.{Memory, Store}
use Rattle.fare_history.specs.Serving.{behind_ledger, IsOfDevice, IsWorking}
use Rattle.fare_session.specs.Stores.{session_fault, HasStood, Stays}
use Rattle.fare_session.specs.Forwarding.{IsBased, IsAsFar, AreBases, AreApart, HasCursors}
use Rattle.fare_session.specs.Asking.{standing_of, AreTold, IsAsked, AreWorking, AreSifted}
use Rattle.fare_session.proofs.StoreCalls.{stood_first, stood_then, stood_value}
use Rattle.fare_session.proofs.Forwards.{base_at, based_at}

-- A DEVICE WITH A BASE
based_place : (bases : List (ℕ × ℕ)) (d : ℕ) → IsBased bases d → (k : ℕ) × (n : ℕ) × (slice_get bases k ≡ Some (d, n))
based_place [] d based = absurd (cc)
based_place (b ∷ bs) d based = by (nat_eq d b.0) refl (based_place bs d)
  where
    here : (t : Bool) → nat_eq d b.0 ≡ t → is_some (cond t (Some b.1) (lookup (nat_eq d) bs)) ≡ true
    here t e = sym (ap (λ (q : Bool). is_some (cond q (Some b.1) (lookup (nat_eq d) bs))) e) ∙ based

    by : (t : Bool) → nat_eq d b.0 ≡ t → (IsBased bs d → (k : ℕ) × (n : ℕ) × (slice_get bs k ≡ Some (d, n))) → (k : ℕ) × (n : ℕ) × (slice_get (b ∷ bs) k ≡ Some (d, n))
    by true e rest = (0, b.1, ap {B = Option (ℕ × ℕ)} (λ (z : ℕ). Some (z, b.1)) (sym ((Decides-eqb d b.0).0 e)))
    by false e rest = let found = rest (here false e) in (suc found.0, found.1, found.2)

same_device : (sc : SchemeValue) (d e k : ℕ) → position_of_device sc d ≡ Some k → position_of_device sc e ≡ Some k → d ≡ e
same_device sc d e k p q = let both : ◌≡◌ {A = Option ℕ} (Some d) (Some e) = sym (id_at_place sc.devices d k p) ∙ id_at_place sc.devices e k q in cc

-- where a device stands, and what the ledger told of it
pub record PlaceOf (sc : SchemeValue) (lo lm : Standing LedgerValue) (standings : List (ℕ × Option ℕ)) (bases : List (ℕ × ℕ)) (d : ℕ) : Type 0 where
  pub place : ℕ
  pub standing : ℕ × Option ℕ
  pub held : slice_get standings place ≡ Some standing
  pub at : position_of_device sc d ≡ Some place
  pub base : slice_get bases place ≡ Some (d, standing.0)
  pub told : HasStood lo lm → standing ≡ standing_of lo.value d

closed_day : (l : LedgerValue) (start d : ℕ) → l.start ≡ start → first_day start (closed_through l d) ≡ start + l.closed d
closed_day l start d is = by (l.closed d == 0) refl
  where
    by : (t : Bool) → (l.closed d == 0) ≡ t → first_day start (if t then None else Some (l.start + l.closed d - 1)) ≡ start + l.closed d
    by true e = let none = (Decides-eqb (l.closed d) 0).0 e in omega (arith, none)
    by false e = let some : (l.closed d ≡ 0 → ⊥) = (λ z. absurd (grind (arith, nat_tests))) in grind (arith, nat_tests)

pub all_keys : (P : ℕ → Type 0) (bases : List (ℕ × ℕ)) → ((k : ℕ) (p : ℕ × ℕ) → slice_get bases k ≡ Some p → P p.0) → AllByRecursion P (keys_of bases)
all_keys P [] each = tt
all_keys P (b ∷ bs) each = (each 0 b refl, all_keys P bs (λ k p at. each (suc k) p at))

pub all_say : {X : Type 0} (P Q : X → Type 0) (xs : List X) → ((x : X) → P x → Q x) → AllByRecursion P xs → AllByRecursion Q xs
all_say P Q [] say all = tt
all_say P Q (x ∷ xs) say all = (say x all.0, all_say P Q xs say all.1)

module _ (sc : SchemeValue) (lo lm : Standing LedgerValue) (standings : List (ℕ × Option ℕ)) (bases : List (ℕ × ℕ)) (told : AreTold sc lo lm standings bases) (count : length standings ≡ length sc.devices) (apart : AreApart bases) where
  place_told : (d k n : ℕ) → slice_get bases k ≡ Some (d, n) → PlaceOf sc lo lm standings bases d
  place_told d k n here =
      let within = slice_get_within bases k (d, n) here in
      let p : ℕ × Option ℕ = get_or standings k (0, None) in
      let held : slice_get standings k ≡ Some p = slice_get-get_or standings k (0, None) (omega (arith, within, told.same)) in
      let t = told.each k p held in
      let same : ◌≡◌ {A = ℕ × ℕ} (t.device, p.0) (d, n) = same_Some (t.device, p.0) (d, n) (sym t.base ∙ here) in
      let is : t.device ≡ d = ap (λ (z : ℕ × ℕ). z.0) same in
      record {
        place = k;
        standing = p;
        held = held;
        at = ap (position_of_device sc) (sym is) ∙ t.at;
        base = t.base ∙ ap {B = Option (ℕ × ℕ)} (λ (z : ℕ). Some (z, p.0)) is;
        told = λ keeps. t.told keeps ∙ ap (standing_of lo.value) is;
      }

  place_of_based : (d : ℕ) → IsBased bases d → PlaceOf sc lo lm standings bases d
  place_of_based d based = let found = based_place bases d based in place_told d found.0 found.1 found.2

  place_of_device : (d k : ℕ) → position_of_device sc d ≡ Some k → PlaceOf sc lo lm standings bases d
  place_of_device d k at =
      let below : k < length (keys_of sc.devices) = (position-Some (nat_eq d) (keys_of sc.devices) k 0 at).0 in
      let p : ℕ × Option ℕ = get_or standings k (0, None) in
      let held : slice_get standings k ≡ Some p = slice_get-get_or standings k (0, None) (omega (arith, below, count, length-keys_of sc.devices)) in
      let t = told.each k p held in
      let is : t.device ≡ d = same_device sc t.device d k t.at at in
      record {
        place = k;
        standing = p;
        held = held;
        at = at;
        base = t.base ∙ ap {B = Option (ℕ × ℕ)} (λ (z : ℕ). Some (z, p.0)) is;
        told = λ keeps. t.told keeps ∙ ap (standing_of lo.value) is;
      }

  pub device_of_based : (d : ℕ) → IsBased bases d → IsOfDevice sc d
  device_of_based d based = ap is_some (place_of_based d based).at

  pub place_known : (d : ℕ) → IsOfDevice sc d → PlaceOf sc lo lm standings bases d
  place_known d known = by (position_of_device sc d) refl
    where
      by : (o : Option ℕ) → position_of_device sc d ≡ o → PlaceOf sc lo lm standings bases d
      by None none = absurd (let e : false ≡ true = sym (ap is_some none) ∙ known in cc)
      by (Some k) at = place_of_device d k at

  -- of these lanes, those that the ledger goes on with
  module _ (working : List (ℕ × ℕ)) (w : AreWorking lo lm bases working) where
    pub among : (d : ℕ) → IsBased working d → IsBased bases d
    among d based = let found = based_place working d based in let at = w.among found.0 (d, found.1) found.2 in based_at bases at.0 (d, found.1) apart at.1

    pub works : HasStood lo lm → (d : ℕ) → IsBased working d → IsWorking lo.value d
    works keeps d based = let found = based_place working d based in w.works keeps found.0 (d, found.1) found.2

    pub bases_told : IsOfScheme sc lo.value → HasStood lo lm → AreBases working (behind_ledger sc lo.value)
    bases_told made keeps = record {
      base = λ d based.
          let z = place_of_based d (among d based) in
          let found = based_place working d based in
          let at = w.among found.0 (d, found.1) found.2 in
          sym (base_at working found.0 (d, found.1) w.apart found.2 ∙ sym (base_at bases at.0 (d, found.1) apart at.1) ∙ base_at bases z.place (d, z.standing.0) apart z.base ∙ ap (λ (q : ℕ × Option ℕ). q.0) (z.told keeps));
    }

  module _ (f : Forwarder) (start : (d : ℕ) → cursor_of f d ≡ started sc standings d) where
    started_at : (d : ℕ) (z : PlaceOf sc lo lm standings bases d) → cursor_of f d ≡ Some (standing_at sc.start z.standing)
    started_at d z = start d ∙ ap (option_and_then (λ place. option_map (standing_at sc.start) (slice_get standings place))) z.at ∙ ap (option_map (standing_at sc.start)) z.held

    pub has_cursors : (working : List (ℕ × ℕ)) → AreWorking lo lm bases working → HasCursors working f
    has_cursors working w d based = ap is_some (started_at d (place_of_based d (among working w d based)))

    pub far_told : (working : List (ℕ × ℕ)) → AreWorking lo lm bases working → IsOfScheme sc lo.value → HasStood lo lm → IsAsFar working f (behind_ledger sc lo.value)
    far_told working w made keeps = record {
      at = λ d based.
          let z = place_of_based d (among working w d based) in
          ap (option_map {U = ℕ × ℕ} (λ (c : Cursor). (c.lane, c.day))) (started_at d z)
          ∙ ap {B = Option (ℕ × ℕ)} (λ (p : ℕ × Option ℕ). Some (p.0, first_day sc.start p.1)) (z.told keeps)
          ∙ ap {B = Option (ℕ × ℕ)} (λ (n : ℕ). Some (length (lo.value.taken d), n)) (closed_day lo.value sc.start d made.start);
    }

-- a fault of the store is the session's
pub store_failed : (f : Fault) (s : SessionFault) → s ≡ session_fault f → s ≡ Store → f ≡ fault.Store
store_failed fault.Store s is store = refl
store_failed fault.Memory s is store = absurd (let e : Memory ≡ Store = sym is ∙ store in cc)

pub asked_store : (sc : SchemeValue) (lo ln : Standing LedgerValue) (standings : List (ℕ × Option ℕ)) (bases : List (ℕ × ℕ)) (f : Fault) (asked : IsAsked sc lo ln standings bases (Err f)) → f ≡ fault.Store → asked.faulted ≡ Some fault.Store
asked_store sc lo ln standings bases f asked is = asked.cause (ap {B = Result (Unit {0}) Fault} Err is)

-- WHICH LANES GO ON
pub sifted_store : (lo ln : Standing LedgerValue) (lanes working : List (ℕ × ℕ)) (f : Fault) (sifted : AreSifted lo ln lanes working (Err f)) → f ≡ fault.Store → sifted.faulted ≡ Some fault.Store
sifted_store lo ln lanes working f sifted is = sifted.cause (ap {B = Result (Unit {0}) Fault} Err is)

-- the ledger told where it stands, and then which lanes it has retired
module _ (sc : SchemeValue) (lo lm lz : Standing LedgerValue) (first : Stays lo lm None) (after : Stays lm lz None) where
  first_kept : HasStood lo lz → HasStood lo lm
  first_kept keeps = stood_first lo lm lz None lm.value (λ w. w ≡ lm.value) after keeps

  pub told_then : (standings : List (ℕ × Option ℕ)) (bases : List (ℕ × ℕ)) → AreTold sc lo lm standings bases → AreTold sc lo lz standings bases
  told_then standings bases told = record {
    same = told.same;
    each = λ k p at. let t = told.each k p at in record { device = t.device; at = t.at; base = t.base; told = λ keeps. t.told (first_kept keeps) };
  }

  pub working_since : (bases working : List (ℕ × ℕ)) → AreWorking lm lz bases working → AreWorking lo lz bases working
  working_since bases working w = record {
    among = w.among;
    apart = w.apart;
    works = λ keeps k p at. subst (λ (l : LedgerValue). IsWorking l p.0) (same keeps) (w.works (later keeps) k p at);
    all = λ keeps j p at goes_on. w.all (later keeps) j p at (subst (λ (l : LedgerValue). IsWorking l p.0) (sym (same keeps)) goes_on);
  }
    where
      same : HasStood lo lz → lm.value ≡ lo.value
      same keeps = stood_value lo lm lo.value (λ w. w ≡ lo.value) first (first_kept keeps)

      later : HasStood lo lz → HasStood lm lz
      later keeps = stood_then lo lm lz None lm.value lo.value (λ w. w ≡ lm.value) (λ w. w ≡ lo.value) first after keeps
