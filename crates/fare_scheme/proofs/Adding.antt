-- A draft stays lawful as it grows.
use Rattle.std.proofs.Common.{◌≡◌, ℕ, ◌<◌, ◌≤◌, Bool, true, false, cond, ◌||◌, ◌==◌, tests, eqb-true, List, [], ◌∷◌, ◌++◌, length, nat_eq, Option, Some, None, is_some, All, Contains, refl, sym, ◌∙◌, subst, arith, length-append, rules}
use Rattle.std.specs.List.{IsDistinct, list_any}
use Rattle.std.specs.Map.{lookup, keys_of}
use Rattle.std.proofs.lemmas.List.Elements.{All-nil, All-head, All-tail, All-push, All-weaker, Contains-append_left}
use Rattle.indexmap.specs.IndexMap.{IndexMap, get, insert_entry, IsUnique}
use Rattle.indexmap.proofs.CallerLemmas.{insert_entry-new, Contains-list_any}
use Rattle.fare_record.specs.Limits.{IsOwnerId, IsOperatorId, IsStationId, IsProductId, IsDeviceId}
use Rattle.fare_scheme.specs.declared.entry.Product.{Product}
use Rattle.fare_scheme.specs.declared.entry.Placement.{Placement}
use Rattle.fare_scheme.specs.Ranges.{IsCapacity, IsBuffer}
use Rattle.fare_day.specs.declared.zone.Zone.{Zone}
use Rattle.fare_scheme.specs.Values.{DraftValue}
use Rattle.fare_scheme.specs.Sealing.{lacks_a_kind}
use Rattle.fare_scheme.specs.Facts.{IsScheme, IsRegistered, IsTariff, IsDraft}
use Rattle.fare_scheme.specs.Registering.{empty_draft, with_owner, with_operator, with_station}

-- what is found stays found
pub lookup-more : {X : Type 0} (test : ℕ → Bool) (es more : List (ℕ × X)) → is_some (lookup test es) ≡ true → is_some (lookup test (es ++ more)) ≡ true
lookup-more test [] more found = absurd (let h = found in cc)
lookup-more {X} test (e ∷ es) more found = by (test e.0) found (λ rest. lookup-more test es more rest)
  where
    by : (b : Bool) → is_some (cond b (Some e.1) (lookup test es)) ≡ true
        → (is_some (lookup test es) ≡ true → is_some (lookup test (es ++ more)) ≡ true)
        → is_some (cond b (Some e.1) (lookup test (es ++ more))) ≡ true
    by true _ _ = refl
    by false rest go = go rest

none_of : {X : Type 0} (o : Option X) → is_some o ≡ false → o ≡ None
none_of None h = refl
none_of (Some x) h = absurd (let e = h in cc)

-- what is no id isn't found among ids
pub absent : {X : Type 0} (P : ℕ → Type 0) (n : ℕ) (es : List (ℕ × X)) → (P n → ⊥) → All (λ e. P e.0) es → is_some (lookup (nat_eq n) es) ≡ false
absent P n [] none all = refl
absent {X} P n (e ∷ es) none all = by (nat_eq n e.0) refl (absent P n es none (All-tail (λ e. P e.0) e es all))
  where
    by : (b : Bool) → nat_eq n e.0 ≡ b → is_some (lookup (nat_eq n) es) ≡ false → is_some (cond b (Some e.1) (lookup (nat_eq n) es)) ≡ false
    by true same _ = absurd (none (subst P (sym (eqb-true n e.0 same)) (All-head (λ e. P e.0) e es all)))
    by false _ rest = rest

pub absent_id : (P : ℕ → Type 0) (n : ℕ) (ns : List ℕ) → (P n → ⊥) → All P ns → list_any (nat_eq n) ns ≡ false
absent_id P n [] none all = refl
absent_id P n (m ∷ ms) none all = by (nat_eq n m) refl (absent_id P n ms none (All-tail P m ms all))
  where
    by : (b : Bool) → nat_eq n m ≡ b → list_any (nat_eq n) ms ≡ false → (b || list_any (nat_eq n) ms) ≡ false
    by true same _ = absurd (none (subst P (sym (eqb-true n m same)) (All-head P m ms all)))
    by false _ rest = rest

-- a new id goes last
pub grown : {X S : Type 0} (m n : IndexMap ℕ X S) (id : ℕ) (x : X) → is_some (get nat_eq m id) ≡ false → n.entries ≡ insert_entry nat_eq m.entries id x → n.entries ≡ m.entries ++ (id, x) ∷ []
grown m n id x free inserted = inserted ∙ insert_entry-new nat_eq m id x (none_of (get nat_eq m id) free)

-- the ids of the grown list differ, since those of the map do
pub grown_distinct : {X S : Type 0} (n : IndexMap ℕ X S) (es : List (ℕ × X)) → n.entries ≡ es → IsUnique nat_eq n → IsDistinct nat_eq (keys_of es)
grown_distinct n es is unique = subst (λ es. IsDistinct nat_eq (keys_of es)) is unique

one_more : {X : Type 0} (xs : List X) (x : X) (n : ℕ) → length xs < n → length (xs ++ x ∷ []) ≤ n
one_more xs x n below = rw (length-append xs (x ∷ [])) (omega arith)

pub with_owner-IsDraft : (d : DraftValue) (owner capacity : ℕ) → IsDraft d → IsOwnerId owner → IsCapacity capacity → length d.owners < 16 → IsDistinct nat_eq (keys_of (d.owners ++ (owner, capacity) ∷ [])) → IsDraft (with_owner d owner capacity)
with_owner-IsDraft d owner capacity is id range below distinct = record {
  owners = record {
    distinct = distinct;
    ids = All-push (λ o. IsOwnerId o.0) d.owners (owner, capacity) is.owners.ids id;
    capacities = All-push (λ o. IsCapacity o.1) d.owners (owner, capacity) is.owners.capacities range;
    few = one_more d.owners (owner, capacity) 16 below;
  };
  operators = is.operators;
  stations = is.stations;
  products = record {
    distinct = is.products.distinct;
    ids = is.products.ids;
    parents = All-weaker (λ p. IsRegistered d.owners p.1.owner) (λ p. IsRegistered (d.owners ++ (owner, capacity) ∷ []) p.1.owner) (λ p found. lookup-more (nat_eq p.1.owner) d.owners ((owner, capacity) ∷ []) found) d.products is.products.parents;
    tariffs = is.products.tariffs;
    few = is.products.few;
  };
  devices = is.devices;
  inbox_capacity = is.inbox_capacity;
  start = is.start;
}

pub with_operator-IsDraft : (d : DraftValue) (operator : ℕ) → IsDraft d → IsOperatorId operator → length d.operators < 16 → IsDistinct nat_eq (d.operators ++ operator ∷ []) → IsDraft (with_operator d operator)
with_operator-IsDraft d operator is id below distinct = record {
  owners = is.owners;
  operators = record {
    distinct = distinct;
    ids = All-push IsOperatorId d.operators operator is.operators.ids id;
    few = one_more d.operators operator 16 below;
  };
  stations = record {
    distinct = is.stations.distinct;
    ids = is.stations.ids;
    parents = All-weaker (λ s. Contains d.operators s.1) (λ s. Contains (d.operators ++ operator ∷ []) s.1) (λ s there. Contains-append_left d.operators (operator ∷ []) s.1 there) d.stations is.stations.parents;
    few = is.stations.few;
  };
  products = is.products;
  devices = is.devices;
  inbox_capacity = is.inbox_capacity;
  start = is.start;
}

pub with_station-IsDraft : (d : DraftValue) (station operator : ℕ) → IsDraft d → IsStationId station → Contains d.operators operator → length d.stations < 16 → IsDistinct nat_eq (keys_of (d.stations ++ (station, operator) ∷ [])) → IsDraft (with_station d station operator)
with_station-IsDraft d station operator is id parent below distinct = record {
  owners = is.owners;
  operators = is.operators;
  stations = record {
    distinct = distinct;
    ids = All-push (λ s. IsStationId s.0) d.stations (station, operator) is.stations.ids id;
    parents = All-push (λ s. Contains d.operators s.1) d.stations (station, operator) is.stations.parents parent;
    few = one_more d.stations (station, operator) 16 below;
  };
  products = is.products;
  devices = record {
    distinct = is.devices.distinct;
    ids = is.devices.ids;
    parents = All-weaker (λ d'. IsRegistered d.stations d'.1.station) (λ d'. IsRegistered (d.stations ++ (station, operator) ∷ []) d'.1.station) (λ d' found. lookup-more (nat_eq d'.1.station) d.stations ((station, operator) ∷ []) found) d.devices is.devices.parents;
    buffers = is.devices.buffers;
    few = is.devices.few;
  };
  inbox_capacity = is.inbox_capacity;
  start = is.start;
}

pub with_product-IsDraft : (d : DraftValue) (id : ℕ) (product : Product) → IsDraft d → IsProductId id → IsRegistered d.owners product.owner → IsTariff product.tariff → length d.products < 256 → IsDistinct nat_eq (keys_of (d.products ++ (id, product) ∷ [])) → IsDraft (record d { products = d.products ++ (id, product) ∷ [] })
with_product-IsDraft d id product is valid parent tariff below distinct = record {
  owners = is.owners;
  operators = is.operators;
  stations = is.stations;
  products = record {
    distinct = distinct;
    ids = All-push (λ p. IsProductId p.0) d.products (id, product) is.products.ids valid;
    parents = All-push (λ p. IsRegistered d.owners p.1.owner) d.products (id, product) is.products.parents parent;
    tariffs = All-push (λ p. IsTariff p.1.tariff) d.products (id, product) is.products.tariffs tariff;
    few = one_more d.products (id, product) 256 below;
  };
  devices = is.devices;
  inbox_capacity = is.inbox_capacity;
  start = is.start;
}

pub with_device-IsDraft : (d : DraftValue) (id : ℕ) (placement : Placement) → IsDraft d → IsDeviceId id → IsRegistered d.stations placement.station → IsBuffer placement.buffer → length d.devices < 256 → IsDistinct nat_eq (keys_of (d.devices ++ (id, placement) ∷ [])) → IsDraft (record d { devices = d.devices ++ (id, placement) ∷ [] })
with_device-IsDraft d id placement is valid parent buffer below distinct = record {
  owners = is.owners;
  operators = is.operators;
  stations = is.stations;
  products = is.products;
  devices = record {
    distinct = distinct;
    ids = All-push (λ p. IsDeviceId p.0) d.devices (id, placement) is.devices.ids valid;
    parents = All-push (λ p. IsRegistered d.stations p.1.station) d.devices (id, placement) is.devices.parents parent;
    buffers = All-push (λ p. IsBuffer p.1.buffer) d.devices (id, placement) is.devices.buffers buffer;
    few = one_more d.devices (id, placement) 256 below;
  };
  inbox_capacity = is.inbox_capacity;
  start = is.start;
}

pub empty_draft-IsDraft : IsDraft empty_draft
unfolding IsDistinct
empty_draft-IsDraft = record {
  owners = record {
    distinct = search rules;
    ids = All-nil _;
    capacities = All-nil _;
    few = omega arith;
  };
  operators = record {
    distinct = search rules;
    ids = All-nil _;
    few = omega arith;
  };
  stations = record {
    distinct = search rules;
    ids = All-nil _;
    parents = All-nil _;
    few = omega arith;
  };
  products = record {
    distinct = search rules;
    ids = All-nil _;
    parents = All-nil _;
    tariffs = All-nil _;
    few = omega arith;
  };
  devices = record {
    distinct = search rules;
    ids = All-nil _;
    parents = All-nil _;
    buffers = All-nil _;
    few = omega arith;
  };
  inbox_capacity = (omega arith, omega arith);
  start = search rules;
}

-- ids that a list has are in it
pub there : (ns : List ℕ) (n : ℕ) → list_any (nat_eq n) ns ≡ true → Contains ns n
there ns n found = Contains-list_any nat_eq eqb-true ns n found

whole_kinds : (a b c d e : ℕ) → ((a == 0) || (b == 0) || (c == 0) || (d == 0) || (e == 0)) ≡ false
    → (1 ≤ a) × (1 ≤ b) × (1 ≤ c) × (1 ≤ d) × (1 ≤ e)
whole_kinds a b c d e none = grind (arith, tests)

-- a draft with each kind, a start and a zone is a scheme
pub sealed_IsScheme : (d : DraftValue) (start : ℕ) (zone : Zone) → IsDraft d → lacks_a_kind d ≡ false → d.start ≡ Some start
    → IsScheme (record {
      owners = d.owners;
      operators = d.operators;
      stations = d.stations;
      products = d.products;
      devices = d.devices;
      inbox_capacity = d.inbox_capacity;
      start = start;
      zone = zone;
    })
sealed_IsScheme d start zone is whole begins =
    let kinds = whole_kinds (length d.owners) (length d.operators) (length d.stations) (length d.products) (length d.devices) whole in
    record {
      owners = is.owners;
      operators = is.operators;
      stations = is.stations;
      products = is.products;
      devices = is.devices;
      inbox_capacity = is.inbox_capacity;
      start = rw begins at is.start;
      has_owner = kinds.0;
      has_operator = kinds.1;
      has_station = kinds.2;
      has_product = kinds.3;
      has_device = kinds.4;
    }
