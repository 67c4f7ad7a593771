-- The rows of a plain outbox.
use Rattle.std.proofs.Common.{◌≡◌, ℕ, ◌+◌, ◌==◌, Bool, true, false, cond, nat_eq, List, [], ◌∷◌, length, Option, Some, None, is_some, refl, sym, ◌∙◌, ap, subst, arith}
use Rattle.std.specs.Prelude.{◌&&◌, if◌then◌else◌, unwrap_or}
use Rattle.std.specs.Ordering.{is_eq}
use Rattle.std.specs.BTreeMap as tree
use Rattle.std.specs.Map.{lookup}
use Rattle.std.proofs.lemmas.Map.Entries.{lookup_head}
use Rattle.std.proofs.lemmas.Cmp.{nat_eq_equiv}
use Rattle.fare_record.specs.Limits.{IsNumber}
use Rattle.fare_record.specs.Values.{RecordValue, StatementValue}
use Rattle.fare_store.specs.Tables.{put, put3}
use Rattle.fare_store.specs.Keys.{Key, key_order}
use Rattle.fare_store.specs.PlacedRows.{AreLinks}
use Rattle.fare_store.specs.PlainOutboxWords.{held_in}
use Rattle.fare_store.specs.OutboxWords.{stored, stored_statement}
use Rattle.fare_store.proofs.Tables.{turned, same_number, put3_is}
use Rattle.fare_store.proofs.Keys.{same_key}
use Rattle.fare_store.proofs.Lanes.{Rows}

-- the table of uptos with one more
pub upto_put : (device link : ℕ) (old new : ℕ → Option ℕ) → ((d : ℕ) → new d ≡ cond (nat_eq device d) (Some link) (old d)) → (d : ℕ) → unwrap_or (new d) 0 ≡ put (λ e. unwrap_or (old e) 0) device link d
upto_put device link old new writes d = ap (λ o. unwrap_or o 0) (writes d) ∙ by (nat_eq device d) ∙ ap (λ b. if b then link else unwrap_or (old d) 0) (turned device d)
  where
    by : (b : Bool) → unwrap_or (cond b (Some link) (old d)) 0 ≡ (if b then link else unwrap_or (old d) 0)
    by true = refl
    by false = refl

-- a table of keys that is written at one
pub rows_put : {A : Type 0} (a b c : ℕ) (value : Option A) (old new : Key → Option A) → ((q : Key) → new q ≡ cond (is_eq (key_order (a, b, c) q)) value (old q))
    → (x y z : ℕ) → new (x, y, z) ≡ put3 (λ o d l. old (o, d, l)) a b c value x y z
rows_put a b c value old new writes x y z = writes (x, y, z) ∙ ap (λ t. cond t value (old (x, y, z))) (same_key (a, b, c) (x, y, z)) ∙ put3_is a b c value (λ o d l. old (o, d, l)) x y z

all_three : (s t u : Bool) → ((s && t) && u) ≡ true → (s ≡ true) × (t ≡ true) × (u ≡ true)
all_three true true true h = (refl, refl, refl)
all_three true true false h = absurd (cc)
all_three true false u h = absurd (cc)
all_three false t u h = absurd (cc)

-- what holds of each entry holds still
pub holds_put : {A : Type 0} (P : ℕ → ℕ → ℕ → A → Type 0) (a b c : ℕ) (value : A) (old new : ℕ → ℕ → ℕ → Option A) → ((x y z : ℕ) → new x y z ≡ put3 old a b c (Some value) x y z)
    → P a b c value → ((x y z : ℕ) (r : A) → old x y z ≡ Some r → P x y z r) → (x y z : ℕ) (r : A) → new x y z ≡ Some r → P x y z r
holds_put {A} P a b c value old new writes here there x y z r is = by (((x == a) && (y == b)) && (z == c)) refl
  where
    shown : cond (((x == a) && (y == b)) && (z == c)) (Some value) (old x y z) ≡ Some r
    shown = put3_is a b c (Some value) old x y z ∙ sym (writes x y z) ∙ is

    by : (t : Bool) → (((x == a) && (y == b)) && (z == c)) ≡ t → P x y z r
    by true same =
        let p = all_three (x == a) (y == b) (z == c) same in
        let one : ◌≡◌ {A = Option A} (Some value) (Some r) = sym (ap (λ t. cond t (Some value) (old x y z)) same) ∙ shown in
        let is_value : value ≡ r = cc in
        subst (P x y z) is_value (subst (λ w. P w y z value) (sym (same_number x a p.0)) (subst (λ w. P a w z value) (sym (same_number y b p.1)) (subst (λ w. P a b w value) (sym (same_number z c p.2)) here)))
    by false other = there x y z r (sym (ap (λ t. cond t (Some value) (old x y z)) other) ∙ shown)

-- each device that was seen still was
pub seen_put : (device link : ℕ) (old new : ℕ → Option ℕ) → ((d : ℕ) → new d ≡ cond (nat_eq device d) (Some link) (old d)) → (d : ℕ) → is_some (old d) ≡ true → is_some (new d) ≡ true
seen_put device link old new writes d was = ap is_some (writes d) ∙ by (nat_eq device d)
  where
    by : (t : Bool) → is_some (cond t (Some link) (old d)) ≡ true
    by true = refl
    by false = was

-- what holds of each link holds still
pub links_put : (device link : ℕ) (old new : ℕ → Option ℕ) → ((d : ℕ) → new d ≡ cond (nat_eq device d) (Some link) (old d)) → IsNumber link → AreLinks old → AreLinks new
links_put device link old new writes valid links d k is = by (nat_eq device d) refl
  where
    by : (t : Bool) → nat_eq device d ≡ t → IsNumber k
    by true same =
        let one : ◌≡◌ {A = Option ℕ} (Some link) (Some k) = sym (writes d ∙ ap (λ t. cond t (Some link) (old d)) same) ∙ is in
        let is_link : link ≡ k = cc in
        subst IsNumber is_link valid
    by false other = links d k (sym (writes d ∙ ap (λ t. cond t (Some link) (old d)) other) ∙ is)

-- WHAT AN OUTBOX HOLDS
-- its maps read the same
pub same_outbox : (upto links : ℕ → Option ℕ) (rows held : Rows) (count : ℕ) (statements : tree.BTreeMap Key ℕ) → ((d : ℕ) → links d ≡ upto d) → ((o d l : ℕ) → held o d l ≡ rows o d l) → held_in links held count statements ≡ held_in upto rows count statements
same_outbox upto links rows held count statements uptos same i = record (held_in upto rows count statements) { upto = λ d. unwrap_or (uptos d i) 0; rows = λ o d l. same o d l i }

-- one row more
pub with_row : (r : RecordValue) (upto links : ℕ → Option ℕ) (rows held : Rows) (count : ℕ) (statements : tree.BTreeMap Key ℕ) → ((d : ℕ) → links d ≡ cond (nat_eq r.device d) (Some r.link) (upto d))
    → ((o d l : ℕ) → held o d l ≡ put3 rows r.owner r.device r.lane (Some r) o d l) → held_in links held (count + 1) statements ≡ stored r (held_in upto rows count statements)
with_row r upto links rows held count statements uptos more i = record (held_in upto rows (count + 1) statements) { upto = λ d. upto_put r.device r.link upto links uptos d i; rows = λ o d l. more o d l i }

-- one statement more
pub with_statement : (s : StatementValue) (upto : ℕ → Option ℕ) (rows : Rows) (count : ℕ) (statements held : tree.BTreeMap Key ℕ) → ((q : Key) → tree.get key_order held q ≡ cond (is_eq (key_order (s.owner, s.device, s.day) q)) (Some s.count) (tree.get key_order statements q))
    → tree.btree_map_len held ≡ tree.btree_map_len statements + 1 → held_in upto rows count held ≡ stored_statement s (held_in upto rows count statements)
with_statement s upto rows count statements held writes more i = record (held_in upto rows count statements) {
  stated = λ o d l. rows_put s.owner s.device s.day (Some s.count) (tree.get key_order statements) (tree.get key_order held) writes o d l i;
  stated_count = more i;
}

-- a new key makes one more
pub one_more : {A : Type 0} (old new : ℕ) (had found : Option A) → had ≡ found → found ≡ None → new ≡ old + (if is_some had then 0 else 1) → new ≡ old + 1
one_more old new had found same none more = more ∙ ap (λ o. old + (if is_some o then 0 else 1)) (same ∙ none)

-- no device was seen, where each link is 0
pub unseen : (links : List (ℕ × ℕ)) → ((d k : ℕ) → lookup (nat_eq d) links ≡ Some k → IsNumber k) → ((d : ℕ) → unwrap_or (lookup (nat_eq d) links) 0 ≡ 0) → length links ≡ 0
unseen [] valid none = refl
unseen (e ∷ es) valid none =
    let found : lookup (nat_eq e.0) (e ∷ es) ≡ Some e.1 = lookup_head (nat_eq e.0) e es (nat_eq_equiv.refl e.0) in
    let zero_here : e.1 ≡ 0 = sym (ap (λ o. unwrap_or o 0) found) ∙ none e.0 in
    absurd (omega (arith, zero_here, (valid e.0 e.1 found).0))
