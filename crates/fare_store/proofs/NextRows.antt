-- The next row and the next statement, by what stands in a range of keys.
use Rattle.std.proofs.Common.{◌≡◌, ℕ, ◌<◌, ◌≤◌, List, [], ◌∷◌, Option, Some, None, is_some, false, refl, sym, ◌∙◌, ap, subst, arith}
use Rattle.std.specs.Prelude.{◌++◌, IsSome, IfSome, slice_get}
use Rattle.std.specs.Ordering.{is_lt, is_gt}
use Rattle.std.specs.declared.cmp.Ordering.{Ordering}
use Rattle.std.specs.declared.cmp.Ordering.TheVariants.{Less}
use Rattle.std.proofs.lemmas.Bool.Decides.{nat_tests}
use Rattle.std.proofs.lemmas.Cmp.{ranked}
use Rattle.std.specs.BTreeMap as tree
use Rattle.std.specs.BTreeMap.Range.{IsInRange, IsEntryInRange, IsRangeOf, IsLeBy}
use Rattle.std.specs.declared.ops.Bound.{Bound}
use Rattle.std.specs.declared.ops.Bound.TheVariants.{Included, Excluded, Unbounded}
use Rattle.fare_record.specs.Values.{RecordValue}
use Rattle.fare_store.specs.Falling.{falling}
use Rattle.fare_store.specs.Keys.{Key, key_order}
use Rattle.fare_store.specs.OutboxWords.{IsLeastRow, IsLeastStatement}
use Rattle.fare_store.specs.PlacedRows.{ArePlaced}
use Rattle.fare_store.proofs.Keys.{Comes, comes, lane_upto}

-- an entry of a range, where each other one of the range comes after it
pub record IsFirst {K A : Type 0} (order : K → K → Ordering) (entries : K → Option A) (within : K → Type 0) (k : K) (v : A) : Type 0 where
  pub inside : within k
  pub found : entries k ≡ Some v
  pub least : (q : K) → within q → IsSome (entries q) → is_gt (order k q) ≡ false

pub first_of : {K A : Type 0} (order : K → K → Ordering) (m : tree.BTreeMap K A) (lo hi : Bound K) (range : List (K × A)) (e : K × A) (rest : List (K × A)) → range ≡ e ∷ rest → IsRangeOf order lo hi m range → IsFirst order (tree.get order m) (IsInRange order lo hi) e.0 e.1
first_of order m lo hi range e rest is h =
    let here : IsEntryInRange order lo hi m e = subst (λ r. IfSome (slice_get r 0) (IsEntryInRange order lo hi m)) is h.1 in
    record {
      inside = here.0;
      found = here.1;
      least = λ q inside some. subst (λ r. IfSome (slice_get r 0) (λ f. IsLeBy order f.0 q)) is (h.2 q inside some);
    }

-- the first entry is another owner's or device's: there is none of this one
pub none_here : {A : Type 0} (entries : Key → Option A) (within : Key → Type 0) (k : Key) (v : A) (owner device from : ℕ) → IsFirst key_order entries within k v → Comes (owner, device, from) k → (k.0 ≡ owner → k.1 ≡ device → ⊥) → (y : ℕ) → within (owner, device, y) → entries (owner, device, y) ≡ None
none_here {A} entries within k v owner device from first before other y inside = by (entries (owner, device, y)) refl
  where
    by : (o : Option A) → entries (owner, device, y) ≡ o → entries (owner, device, y) ≡ None
    by None is = is
    by (Some s) is =
        let after = comes k (owner, device, y) (first.least (owner, device, y) inside (ap is_some is)) in
        let same : k.0 ≡ owner = omega (arith, before.first, after.first) in
        let equal : k.1 ≡ device = omega (arith, before.second (sym same), after.second same) in
        absurd (other same equal)

-- the first entry is this one's: there is none before it
pub none_before : {A : Type 0} (entries : Key → Option A) (within : Key → Type 0) (k : Key) (v : A) (owner device : ℕ) → IsFirst key_order entries within k v → k.0 ≡ owner → k.1 ≡ device → (y : ℕ) → within (owner, device, y) → y < k.2 → entries (owner, device, y) ≡ None
none_before {A} entries within k v owner device first same equal y inside less = by (entries (owner, device, y)) refl
  where
    by : (o : Option A) → entries (owner, device, y) ≡ o → entries (owner, device, y) ≡ None
    by None is = is
    by (Some s) is = absurd (omega (arith, less, (comes k (owner, device, y) (first.least (owner, device, y) inside (ap is_some is))).third same equal))

-- ROWS
-- an entry of a range, where each other one of the range comes before it
pub record IsLast {K A : Type 0} (order : K → K → Ordering) (entries : K → Option A) (within : K → Type 0) (k : K) (v : A) : Type 0 where
  pub inside : within k
  pub found : entries k ≡ Some v
  pub greatest : (q : K) → within q → IsSome (entries q) → is_lt (order k q) ≡ false

pub last_of : {K A : Type 0} (order : K → K → Ordering) (m : tree.BTreeMap K A) (lo hi : Bound K) (range : List (K × A)) (e : K × A) (rest : List (K × A)) → range ≡ rest ++ e ∷ [] → IsRangeOf order lo hi m range → IsLast order (tree.get order m) (IsInRange order lo hi) e.0 e.1
last_of order m lo hi range e rest is h = let here = h.3 e rest is in record { inside = here.0; found = here.1; greatest = h.4 e rest is }

-- in falling order, the lane numbers before one are those behind it
abbrev Before : ℕ → ℕ → Type 0
Before after = IsInRange falling Unbounded (Excluded after)

behind_here : (after lane : ℕ) → after < lane → Before after lane
behind_here after lane h = (tt, less)
  where
    less : falling lane after ≡ Less
    less = grind (arith, nat_tests)

-- the last of them is the least
pub least_row : (rows : ℕ → ℕ → ℕ → Option RecordValue) (held : tree.BTreeMap ℕ RecordValue) (owner device after k : ℕ) (r : RecordValue) → ArePlaced rows → ((l : ℕ) → rows owner device l ≡ tree.get falling held l) → IsLast falling (tree.get falling held) (Before after) k r
    → IsLeastRow rows owner device after r
least_row rows held owner device after k r placed same last =
    let at = placed owner device k r (same k ∙ last.found) in
    record {
      of_owner = at.owner_is;
      of_device = at.device_is;
      behind = subst (λ n. after < n) (sym at.lane_is) (past last.inside.1);
      is_held = ap (rows owner device) at.lane_is ∙ same k ∙ last.found;
      least = λ lane h less. same lane ∙ none lane h (subst (λ n. lane < n) at.lane_is less) (tree.get falling held lane) refl;
    }
  where
    past : falling k after ≡ Less → after < k
    past h = ranked after k Less (sym h)

    none : (lane : ℕ) → after < lane → lane < k → (o : Option RecordValue) → tree.get falling held lane ≡ o → tree.get falling held lane ≡ None
    none lane h less None is = is
    none lane h less (Some s) is = let upto : is_lt (falling k lane) ≡ false = last.greatest lane (behind_here after lane h) (ap is_some is) in absurd (grind (arith, nat_tests))

-- STATEMENTS
abbrev From : ℕ → ℕ → ℕ → Key → Type 0
From owner device from = IsInRange key_order (Included (owner, device, from)) Unbounded

from_here : (owner device from day : ℕ) → from ≤ day → From owner device from (owner, device, day)
from_here owner device from day h = (lane_upto owner device from day h, tt)

pub no_statements : (held : tree.BTreeMap Key ℕ) (owner device from : ℕ) → ((q : Key) → From owner device from q → tree.get key_order held q ≡ None) → (day : ℕ) → from ≤ day → tree.get key_order held (owner, device, day) ≡ None
no_statements held owner device from none day h = none (owner, device, day) (from_here owner device from day h)

pub other_statement : (held : tree.BTreeMap Key ℕ) (owner device from : ℕ) (k : Key) (count : ℕ) → IsFirst key_order (tree.get key_order held) (From owner device from) k count → (k.0 ≡ owner → k.1 ≡ device → ⊥) → (day : ℕ) → from ≤ day → tree.get key_order held (owner, device, day) ≡ None
other_statement held owner device from k count first other day h = none_here (tree.get key_order held) (From owner device from) k count owner device from first (comes (owner, device, from) k first.inside.0) other day (from_here owner device from day h)

pub least_statement : (held : tree.BTreeMap Key ℕ) (owner device from : ℕ) (k : Key) (count : ℕ) → IsFirst key_order (tree.get key_order held) (From owner device from) k count → k.0 ≡ owner → k.1 ≡ device → IsLeastStatement (λ o d l. tree.get key_order held (o, d, l)) owner device from (record { device = device; day = k.2; owner = owner; count = count })
least_statement held owner device from k count first mine its = record {
  of_owner = refl;
  of_device = refl;
  not_before = (comes (owner, device, from) k first.inside.0).third (sym mine) (sym its);
  is_held = (λ i. tree.get key_order held (sym mine i, sym its i, k.2)) ∙ first.found;
  least = λ day h less. none_before (tree.get key_order held) (From owner device from) k count owner device first mine its day (from_here owner device from day h) less;
}
