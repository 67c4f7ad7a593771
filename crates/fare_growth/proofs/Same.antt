-- The tests of entries decide whether two are the same.
use Rattle.std.proofs.Common.{◌≡◌, ℕ, Bool, ◌&&◌, true, false, eqb-true, nat_eq, Option, Some, None, refl, ◌∙◌, ap}
use Rattle.std.specs.Option.{option_eq}
use Rattle.std.proofs.lemmas.Bool.Decides.{Decides-eqb}
use Rattle.fare_scheme.specs.declared.entry.Tariff.{Tariff}
use Rattle.fare_growth.specs.declared.entry.Entry.{Entry}
use Rattle.fare_growth.specs.declared.entry.Entry.TheVariants.{Owner, Operator, Station, Product, Device}
use Rattle.fare_growth.specs.declared.registered.Registered.{Registered}
use Rattle.fare_growth.specs.Entries.{same_entry, same_tariff, same_registered, same}

pub both : (a b : Bool) → (a && b) ≡ true → (a ≡ true) × (b ≡ true)
both true b h = (refl, h)
both false b h = absurd (let g = h in cc)

nat_same : (n : ℕ) → nat_eq n n ≡ true
nat_same n = (Decides-eqb n n).1 refl

-- ENTRIES
pub same_entry-refl : (a : Entry) → same_entry a a ≡ true
same_entry-refl (Owner a) = nat_same a
same_entry-refl (Operator a) = nat_same a
same_entry-refl (Station a) = nat_same a
same_entry-refl (Product a) = nat_same a
same_entry-refl (Device a) = nat_same a

pub same_entry-exact : (a b : Entry) → same_entry a b ≡ true → a ≡ b
same_entry-exact (Owner a) (Owner b) h = ap Owner (eqb-true a b h)
same_entry-exact (Operator a) (Operator b) h = ap Operator (eqb-true a b h)
same_entry-exact (Station a) (Station b) h = ap Station (eqb-true a b h)
same_entry-exact (Product a) (Product b) h = ap Product (eqb-true a b h)
same_entry-exact (Device a) (Device b) h = ap Device (eqb-true a b h)
same_entry-exact a b h = absurd (let g = h in cc)

-- TARIFFS
same_tariff-refl : (a : Tariff) → same_tariff a a ≡ true
same_tariff-refl a = rw (nat_same a.fare, nat_same a.daily, nat_same a.weekly) (nat_same a.hop)

tariff_by : (a b : Tariff) → a.fare ≡ b.fare → a.daily ≡ b.daily → a.weekly ≡ b.weekly → a.hop ≡ b.hop → a ≡ b
tariff_by a b fare daily weekly hop =
    let f : ℕ → Tariff = λ n. record { fare = n; daily = a.daily; weekly = a.weekly; hop = a.hop } in
    let g : ℕ → Tariff = λ n. record { fare = b.fare; daily = n; weekly = a.weekly; hop = a.hop } in
    let h : ℕ → Tariff = λ n. record { fare = b.fare; daily = b.daily; weekly = n; hop = a.hop } in
    let i : ℕ → Tariff = λ n. record { fare = b.fare; daily = b.daily; weekly = b.weekly; hop = n } in
    ap f fare ∙ ap g daily ∙ ap h weekly ∙ ap i hop

same_tariff-exact : (a b : Tariff) → same_tariff a b ≡ true → a ≡ b
same_tariff-exact a b h =
    let x = both (nat_eq a.fare b.fare && nat_eq a.daily b.daily && nat_eq a.weekly b.weekly) (nat_eq a.hop b.hop) h in
    let y = both (nat_eq a.fare b.fare && nat_eq a.daily b.daily) (nat_eq a.weekly b.weekly) x.0 in
    let z = both (nat_eq a.fare b.fare) (nat_eq a.daily b.daily) y.0 in
    let fare = eqb-true a.fare b.fare z.0 in
    let daily = eqb-true a.daily b.daily z.1 in
    let weekly = eqb-true a.weekly b.weekly y.1 in
    let hop = eqb-true a.hop b.hop x.1 in
    tariff_by a b fare daily weekly hop

-- OPTIONS
option_eq-refl : {X : Type 0} (E : X → X → Bool) → ((x : X) → E x x ≡ true) → (o : Option X) → option_eq E o o ≡ true
option_eq-refl E same None = refl
option_eq-refl E same (Some x) = same x

pub option_eq-exact : {X : Type 0} (E : X → X → Bool) → ((x y : X) → E x y ≡ true → x ≡ y) → (o p : Option X) → option_eq E o p ≡ true → o ≡ p
option_eq-exact E exact None None h = refl
option_eq-exact E exact None (Some y) h = absurd (let g = h in cc)
option_eq-exact E exact (Some x) None h = absurd (let g = h in cc)
option_eq-exact E exact (Some x) (Some y) h = ap Some (exact x y h)

-- WHAT IS REGISTERED
pub same_registered-refl : (a : Registered) → same_registered a a ≡ true
same_registered-refl a = rw (nat_same a.position, option_eq-refl same_entry same_entry-refl a.parent) (option_eq-refl same_tariff same_tariff-refl a.tariff)

registered_by : (a b : Registered) → a.position ≡ b.position → a.parent ≡ b.parent → a.tariff ≡ b.tariff → a ≡ b
registered_by a b position parent tariff =
    let f : ℕ → Registered = λ n. record { position = n; parent = a.parent; tariff = a.tariff } in
    let g : Option Entry → Registered = λ e. record { position = b.position; parent = e; tariff = a.tariff } in
    let h : Option Tariff → Registered = λ t. record { position = b.position; parent = b.parent; tariff = t } in
    ap f position ∙ ap g parent ∙ ap h tariff

pub same_registered-exact : (a b : Registered) → same_registered a b ≡ true → a ≡ b
same_registered-exact a b h =
    let x = both (nat_eq a.position b.position && option_eq same_entry a.parent b.parent) (option_eq same_tariff a.tariff b.tariff) h in
    let y = both (nat_eq a.position b.position) (option_eq same_entry a.parent b.parent) x.0 in
    let position = eqb-true a.position b.position y.0 in
    let parent = option_eq-exact same_entry same_entry-exact a.parent b.parent y.1 in
    let tariff = option_eq-exact same_tariff same_tariff-exact a.tariff b.tariff x.1 in
    registered_by a b position parent tariff

pub same-refl : (a : Entry × Registered) → same a a ≡ true
same-refl a = rw (same_entry-refl a.0) (same_registered-refl a.1)

pub same-name : (a b : Entry × Registered) → same a b ≡ true → same_entry a.0 b.0 ≡ true
same-name a b h = (both (same_entry a.0 b.0) (same_registered a.1 b.1) h).0

pub same-exact : (a b : Entry × Registered) → same a b ≡ true → a ≡ b
same-exact a b h =
    let x = both (same_entry a.0 b.0) (same_registered a.1 b.1) h in
    let name = same_entry-exact a.0 b.0 x.0 in
    let registered = same_registered-exact a.1 b.1 x.1 in
    let f : Entry → Entry × Registered = λ e. (e, a.1) in
    let g : Registered → Entry × Registered = λ r. (b.0, r) in
    ap f name ∙ ap g registered
