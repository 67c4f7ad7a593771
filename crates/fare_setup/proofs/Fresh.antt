-- An entry of a list whose ids differ: its id is not among those before it, and what is changed by the id is the entry.
use Rattle.std.proofs.Common.{◌≡◌, ℕ, Bool, true, false, cond, ◌||◌, if◌then◌else◌, List, [], ◌∷◌, ◌++◌, nat_eq, map, Some, is_some, refl, sym, ap, subst, ◌∙◌}
use Rattle.std.specs.List.{All, AllByRecursion, IsDistinct, list_any}
use Rattle.std.specs.Map.{lookup, keys_of}
use Rattle.std.proofs.lemmas.Bool.{ne_eqb}
use Rattle.std.proofs.lemmas.Bool.Decides.{Decides-eqb}
use Rattle.std.proofs.lemmas.List.{map-append}
use Rattle.std.proofs.lemmas.List.Elements.{All-head, All-tail}
use Rattle.std.proofs.lemmas.Map.Made.{is_some-lookup}
use Rattle.fare_scheme.specs.Registering.{is_registered}

pub holds_here : {X : Type 0} (P : X → Type 0) (before after : List X) (x : X) → All P (before ++ x ∷ after) → P x
holds_here P [] after x all = All-head P x after all
holds_here P (y ∷ ys) after x all = holds_here P ys after x (All-tail P y (ys ++ x ∷ after) all)

held : {X : Type 0} (P : X → Type 0) (before after : List X) (x : X) → AllByRecursion P (before ++ x ∷ after) → P x
held P [] after x all = all.0
held P (y ∷ ys) after x all = held P ys after x all.1

other_way : (a b : ℕ) → nat_eq a b ≡ false → nat_eq b a ≡ false
other_way a b apart = ne_eqb b a (λ same. let both : true ≡ false = sym ((Decides-eqb a b).1 (sym same)) ∙ apart in absurd (cc))

neither : (a b : Bool) → a ≡ false → b ≡ false → (a || b) ≡ false
neither a b first second = rw (first, second) refl

either : (a b : Bool) → (a || b) ≡ false → (a ≡ false) × (b ≡ false)
either true b none = absurd (cc)
either false b none = (refl, none)

-- IDS
pub fresh : (before after : List ℕ) (id : ℕ) → IsDistinct nat_eq (before ++ id ∷ after) → list_any (nat_eq id) before ≡ false
unfolding IsDistinct
fresh [] after id distinct = refl
fresh (first ∷ before) after id distinct =
    neither (nat_eq id first) (list_any (nat_eq id) before)
    (other_way first id (held (λ other. nat_eq first other ≡ false) before after id distinct.0))
    (fresh before after id distinct.1)

no_key : {X : Type 0} (before after : List (ℕ × X)) (e : ℕ × X) → IsDistinct nat_eq (keys_of (before ++ e ∷ after)) → list_any (nat_eq e.0) (keys_of before) ≡ false
no_key before after e distinct = fresh (keys_of before) (keys_of after) e.0 (subst (IsDistinct nat_eq) (map-append (λ e. e.0) before (e ∷ after)) distinct)

pub unregistered : {X : Type 0} (before after : List (ℕ × X)) (e : ℕ × X) → IsDistinct nat_eq (keys_of (before ++ e ∷ after)) → is_registered before e.0 ≡ false
unregistered before after e distinct = is_some-lookup (nat_eq e.0) before ∙ no_key before after e distinct

-- THE LAST ENTRY
pub last_registered : {X : Type 0} (before : List (ℕ × X)) (id : ℕ) (x : X) → is_registered (before ++ (id, x) ∷ []) id ≡ true
last_registered [] id x = rw ((Decides-eqb id id).1 refl) refl
last_registered {X} (e ∷ es) id x = by (nat_eq id e.0) (last_registered es id x)
  where
    by : (b : Bool) → is_registered (es ++ (id, x) ∷ []) id ≡ true → is_some (cond b (Some e.1) (lookup (nat_eq id) (es ++ (id, x) ∷ []))) ≡ true
    by true _ = refl
    by false rest = rest

last_changed : {X : Type 0} (change : X → X) (before : List (ℕ × X)) (id : ℕ) (x : X) → list_any (nat_eq id) (keys_of before) ≡ false
    → before ++ (id, change x) ∷ [] ≡ map (λ p. if nat_eq id p.0 then (p.0, change p.1) else p) (before ++ (id, x) ∷ [])
last_changed change [] id x none = rw ((Decides-eqb id id).1 refl) refl
last_changed change (e ∷ es) id x none =
    let parts = either (nat_eq id e.0) (list_any (nat_eq id) (keys_of es)) none in
    let other : nat_eq id e.0 ≡ false = parts.0 in
    rw other (ap (λ t. e ∷ t) (last_changed change es id x parts.1))

pub changed : {X : Type 0} (change : X → X) (before after : List (ℕ × X)) (e : ℕ × X) (x : X) → IsDistinct nat_eq (keys_of (before ++ e ∷ after))
    → before ++ (e.0, change x) ∷ [] ≡ map (λ p. if nat_eq e.0 p.0 then (p.0, change p.1) else p) (before ++ (e.0, x) ∷ [])
changed change before after e x distinct = last_changed change before e.0 x (no_key before after e distinct)
