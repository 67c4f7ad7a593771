-- The rows of lanes, where one lane is written.
use Rattle.std.proofs.Common.{◌≡◌, ℕ, ◌==◌, Bool, true, false, cond, Option, Some, None, is_some, refl, sym, ◌∙◌, ap, subst, arith}
use Rattle.std.specs.Prelude.{◌&&◌, if◌then◌else◌, nat_le}
use Rattle.std.specs.Ordering.{is_eq}
use Rattle.std.specs.BTreeMap as tree
use Rattle.std.specs.Map.{lookup}
use Rattle.std.proofs.lemmas.Bool.Decides.{nat_tests}
use Rattle.fare_record.specs.Values.{RecordValue}
use Rattle.fare_store.specs.Tables.{put, put2, put3}
use Rattle.fare_store.specs.Falling.{falling}
use Rattle.fare_store.specs.Keys.{same_lane}
use Rattle.fare_store.specs.OutboxWords.{behind}
use Rattle.fare_store.specs.PlacedRows.{row_in, rows_in, ArePlaced, AreKnown}
use Rattle.fare_store.proofs.Tables.{turned, same_number, put2_is}

abbrev pub Rows : Type 0
Rows = ℕ → ℕ → ℕ → Option RecordValue

abbrev pub Lanes : Type 0
Lanes = ℕ × ℕ → Option (tree.BTreeMap ℕ RecordValue)

same_numbers : (a b x y : ℕ) → same_lane (a, b) (x, y) ≡ ((x == a) && (y == b))
same_numbers a b x y i = turned a x i && turned b y i

-- the lane of an owner and a device has these rows now
pub lane_put : (a b : ℕ) (is : tree.BTreeMap ℕ RecordValue) (lane : ℕ → Option RecordValue) (old new : Lanes) → ((l : ℕ) → tree.get falling is l ≡ lane l) → ((q : ℕ × ℕ) → new q ≡ cond (same_lane (a, b) q) (Some is) (old q))
    → (x y z : ℕ) → rows_in new x y z ≡ put2 (rows_in old) a b lane x y z
lane_put a b is lane old new same writes x y z =
    ap (λ o. row_in o z) (writes (x, y)) ∙ ap (λ t. row_in (cond t (Some is) (old (x, y))) z) (same_numbers a b x y) ∙ by ((x == a) && (y == b)) ∙ ap (λ f. f z) (put2_is a b lane (rows_in old) x y)
  where
    by : (t : Bool) → row_in (cond t (Some is) (old (x, y))) z ≡ cond t lane (rows_in old x y) z
    by true = same z
    by false = refl

falling_same : (n l : ℕ) → (l == n) ≡ is_eq (falling n l)
falling_same n l = grind (arith, nat_tests)

-- a row of a lane, put at its lane number
pub row_put : (n : ℕ) (value : Option RecordValue) (was is : tree.BTreeMap ℕ RecordValue) → ((q : ℕ) → tree.get falling is q ≡ cond (is_eq (falling n q)) value (tree.get falling was q)) → (l : ℕ) → tree.get falling is l ≡ put (tree.get falling was) n value l
row_put n value was is writes l = writes l ∙ ap (λ t. cond t value (tree.get falling was l)) (sym (falling_same n l))

-- a lane that is put where it was changes nothing
pub put_same : {A : Type 0} (old : ℕ → ℕ → A) (a b x y : ℕ) → put2 old a b (old a b) x y ≡ old x y
put_same {A} old a b x y = by (x == a) refl
  where
    inside : (t : Bool) → (y == b) ≡ t → (if t then old a b else old a y) ≡ old a y
    inside true q = ap (old a) (sym (same_number y b q))
    inside false q = refl

    by : (s : Bool) → (x == a) ≡ s → (if s then put (old a) b (old a b) else old x) y ≡ old x y
    by true p = inside (y == b) refl ∙ ap (λ w. old w y) (sym (same_number x a p))
    by false p = refl

-- a lane's rows stay
pub lane_kept : (a b : ℕ) (was is : tree.BTreeMap ℕ RecordValue) (old new : Lanes) → old (a, b) ≡ Some was → is.entries ≡ was.entries → ((q : ℕ × ℕ) → new q ≡ cond (same_lane (a, b) q) (Some is) (old q)) → (x y z : ℕ) → rows_in new x y z ≡ rows_in old x y z
lane_kept a b was is old new there same writes x y z = lane_put a b is (rows_in old a b) old new kept writes x y z ∙ ap (λ f. f z) (put_same (rows_in old) a b x y)
  where
    kept : (l : ℕ) → tree.get falling is l ≡ rows_in old a b l
    kept l = ap (lookup (λ k. is_eq (falling l k))) same ∙ ap (λ o. row_in o l) (sym there)

-- a lane has one row more
pub lane_more : (a b n : ℕ) (r : RecordValue) (was is : tree.BTreeMap ℕ RecordValue) (old new : Lanes) → ((l : ℕ) → tree.get falling was l ≡ rows_in old a b l) → ((q : ℕ) → tree.get falling is q ≡ cond (is_eq (falling n q)) (Some r) (tree.get falling was q))
    → ((q : ℕ × ℕ) → new q ≡ cond (same_lane (a, b) q) (Some is) (old q)) → (x y z : ℕ) → rows_in new x y z ≡ put3 (rows_in old) a b n (Some r) x y z
lane_more a b n r was is old new there more writes = lane_put a b is (put (rows_in old a b) n (Some r)) old new (λ l. row_put n (Some r) was is more l ∙ (λ i. put (λ m. there m i) n (Some r) l)) writes

-- WHAT HOLDS OF EACH ROW
-- each row is one of these
abbrev pub AreAmong : Rows → Rows → Type 0
AreAmong old new = (owner device lane : ℕ) (r : RecordValue) → new owner device lane ≡ Some r → old owner device lane ≡ Some r

pub same_among : (old new : Rows) → ((o d l : ℕ) → new o d l ≡ old o d l) → AreAmong old new
same_among old new same o d l r is = sym (same o d l) ∙ is

pub placed_among : (old new : Rows) → AreAmong old new → ArePlaced old → ArePlaced new
placed_among old new among placed o d l r is = placed o d l r (among o d l r is)

pub known_among : (old new : Rows) (upto links : ℕ → Option ℕ) → AreAmong old new → ((d : ℕ) → is_some (upto d) ≡ true → is_some (links d) ≡ true) → AreKnown upto old → AreKnown links new
known_among old new upto links among still known o d l r is = still d (known o d l r (among o d l r is))

-- those behind a lane number
pub behind_among : (a b n : ℕ) (old new : Rows) → ((o d l : ℕ) → new o d l ≡ put2 old a b (behind n (old a b)) o d l) → AreAmong old new
behind_among a b n old new left x y z r is = by (x == a) refl (sym (left x y z) ∙ is)
  where
    kept : (u : Bool) → (if u then None else old a b z) ≡ Some r → old a b z ≡ Some r
    kept true e = absurd (cc)
    kept false e = e

    inside : (t : Bool) → (y == b) ≡ t → (if t then behind n (old a b) else old a y) z ≡ Some r → old a y z ≡ Some r
    inside true q e = subst (λ w. old a w z ≡ Some r) (sym (same_number y b q)) (kept (nat_le z n) e)
    inside false q e = e

    by : (s : Bool) → (x == a) ≡ s → (if s then put (old a) b (behind n (old a b)) else old x) y z ≡ Some r → old x y z ≡ Some r
    by true p e = subst (λ w. old w y z ≡ Some r) (sym (same_number x a p)) (inside (y == b) refl e)
    by false p e = e
