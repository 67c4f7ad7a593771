-- A draft stays lawful as the entry of a product is changed.
use Rattle.std.proofs.Common.{◌≡◌, ℕ, Bool, if◌then◌else◌, true, false, cond, eqb-true, List, [], ◌∷◌, suc, length, map, nat_eq, Some, refl, sym, ◌∙◌, ap, subst}
use Rattle.std.specs.List.{IsDistinct, AllByRecursion}
use Rattle.std.specs.Map.{lookup, keys_of, set_value}
use Rattle.std.proofs.lemmas.List.Elements.{All-map, All-weaker}
use Rattle.fare_record.specs.Limits.{IsProductId}
use Rattle.fare_scheme.specs.declared.entry.Product.{Product}
use Rattle.fare_scheme.specs.Ranges.{IsDailyCap, IsWeeklyCap, IsHop}
use Rattle.fare_scheme.specs.Values.{DraftValue}
use Rattle.fare_scheme.specs.Facts.{IsRegistered, IsTariff, IsDraft}
use Rattle.fare_scheme.specs.Registering.{capped, windowed, with_changed, with_caps, with_hop}

-- one of two values is as both are
either : {X : Type 0} (P : X → Type 0) (b : Bool) (x y : X) → P x → P y → P (if b then x else y)
either P true x y is_x is_y = is_x
either P false x y is_x is_y = is_y

module _ (id : ℕ) (change : Product → Product) where
  -- an entry with this change, where it has this id
  abbrev pub entry : ℕ × Product → ℕ × Product
  entry p = if nat_eq id p.0 then (p.0, change p.1) else p

  keys-map : (es : List (ℕ × Product)) → keys_of (map entry es) ≡ keys_of es
  keys-map [] = refl
  keys-map (e ∷ es) =
      let key : (entry e).0 ≡ e.0 = either (λ p. p.0 ≡ e.0) (nat_eq id e.0) (e.0, change e.1) e refl refl in
      ap (λ k. k ∷ keys_of (map entry es)) key ∙ ap (λ ks. e.0 ∷ ks) (keys-map es)

  length-map : (es : List (ℕ × Product)) → length (map entry es) ≡ length es
  length-map [] = refl
  length-map (e ∷ es) = ap suc (length-map es)

  untouched : (es : List (ℕ × Product)) → AllByRecursion (λ k. nat_eq id k ≡ false) (keys_of es) → map entry es ≡ es
  untouched [] others = refl
  untouched (e ∷ es) others =
      ap (λ b. (if b then (e.0, change e.1) else e) ∷ map entry es) others.0 ∙ ap (λ es. e ∷ es) (untouched es others.1)

  -- a write to the one entry with this id
  pub set_value-changed : (es : List (ℕ × Product)) (p : Product) → IsDistinct nat_eq (keys_of es) → lookup (nat_eq id) es ≡ Some p
      → set_value (nat_eq id) es (change p) ≡ map entry es
  unfolding IsDistinct
  set_value-changed [] p distinct found = refl
  set_value-changed (e ∷ es) p distinct found =
      by (nat_eq id e.0) refl found (λ rest. set_value-changed es p distinct.1 rest)
    where
      by : (b : Bool) → nat_eq id e.0 ≡ b → cond b (Some e.1) (lookup (nat_eq id) es) ≡ Some p
          → (lookup (nat_eq id) es ≡ Some p → set_value (nat_eq id) es (change p) ≡ map entry es)
          → cond b ((e.0, change p) ∷ es) (e ∷ set_value (nat_eq id) es (change p))
          ≡ (if b then (e.0, change e.1) else e) ∷ map entry es
      by true same here go =
          let value : e.1 ≡ p = (let h = here in cc) in
          let others : AllByRecursion (λ k. nat_eq id k ≡ false) (keys_of es) = subst (λ n. AllByRecursion (λ k. nat_eq n k ≡ false) (keys_of es)) (sym (eqb-true id e.0 same)) distinct.0 in
          ap (λ v. (e.0, change v) ∷ es) (sym value) ∙ ap (λ es. (e.0, change e.1) ∷ es) (sym (untouched es others))
      by false _ there go = ap (λ es. e ∷ es) (go there)

  -- the owner of the product stays, and its tariff stays in range
  pub with_changed-IsDraft : (d : DraftValue) → IsDraft d → ((p : Product) → (change p).owner ≡ p.owner) → ((p : Product) → IsTariff p.tariff → IsTariff (change p).tariff)
      → IsDraft (with_changed d id change)
  with_changed-IsDraft d is owners tariffs = record {
    owners = is.owners;
    operators = is.operators;
    stations = is.stations;
    products = record {
      distinct = subst (IsDistinct nat_eq) (sym (keys-map d.products)) is.products.distinct;
      ids = All-map (λ p. IsProductId p.0) entry d.products (All-weaker (λ p. IsProductId p.0) (λ p. IsProductId (entry p).0) (λ p h. either (λ q. IsProductId q.0) (nat_eq id p.0) (p.0, change p.1) p h h) d.products is.products.ids);
      parents = All-map (λ p. IsRegistered d.owners p.1.owner) entry d.products (All-weaker (λ p. IsRegistered d.owners p.1.owner) (λ p. IsRegistered d.owners (entry p).1.owner) (λ p h. either (λ q. IsRegistered d.owners q.1.owner) (nat_eq id p.0) (p.0, change p.1) p (subst (IsRegistered d.owners) (sym (owners p.1)) h) h) d.products is.products.parents);
      tariffs = All-map (λ p. IsTariff p.1.tariff) entry d.products (All-weaker (λ p. IsTariff p.1.tariff) (λ p. IsTariff (entry p).1.tariff) (λ p h. either (λ q. IsTariff q.1.tariff) (nat_eq id p.0) (p.0, change p.1) p (tariffs p.1 h) h) d.products is.products.tariffs);
      few = rw (length-map d.products) is.products.few;
    };
    devices = is.devices;
    inbox_capacity = is.inbox_capacity;
    start = is.start;
  }

pub with_caps-IsDraft : (id daily weekly : ℕ) (d : DraftValue) → IsDraft d → IsDailyCap daily → IsWeeklyCap weekly → IsDraft (with_caps d id daily weekly)
with_caps-IsDraft id daily weekly d is day week =
    with_changed-IsDraft id (capped daily weekly) d is (λ p. refl) (λ p is. record { fare = is.fare; daily = day; weekly = week; hop = is.hop })

pub with_hop-IsDraft : (id seconds : ℕ) (d : DraftValue) → IsDraft d → IsHop seconds → IsDraft (with_hop d id seconds)
with_hop-IsDraft id seconds d is hop =
    with_changed-IsDraft id (windowed seconds) d is (λ p. refl) (λ p is. record { fare = is.fare; daily = is.daily; weekly = is.weekly; hop = hop })
