-- The searches through the entries of the kept scheme.
use Rattle.std.proofs.Common.{◌≡◌, ℕ, ◌+◌, zero, suc, Bool, ◌||◌, true, false, cond, List, [], ◌∷◌, drop, Option, Some, None, is_some, refl, sym, ◌∙◌, ap, arith}
use Rattle.std.specs.Prelude.{not, slice_get, find, option_map}
use Rattle.std.specs.Option.{option_eq}
use Rattle.std.proofs.lemmas.Option.{slice_get-map}
use Rattle.fare_scheme.specs.Values.{SchemeValue}
use Rattle.fare_scheme.specs.Facts.{IsScheme}
use Rattle.fare_growth.specs.declared.entry.Entry.{Entry}
use Rattle.fare_growth.specs.declared.registered.Registered.{Registered}
use Rattle.fare_growth.specs.Entries.{entries, names, same_registered, same, registered_of}
use Rattle.fare_growth.specs.Growth.{has_name, has_entry}
use Rattle.fare_growth.proofs.Lists.{find-drop}
use Rattle.fare_growth.proofs.Same.{same-refl, option_eq-exact, same_registered-exact}
use Rattle.fare_growth.proofs.Parts.{or_true}
use Rattle.fare_growth.proofs.Looked.{some_registered, has_registered}

-- ANY SEARCH
module _ {X : Type 0} (p : X → Bool) (xs : List X) (i : ℕ) (x : X) (here : slice_get xs i ≡ Some x) where
  pub found_here : p x ≡ true → find p (drop i xs) ≡ Some x
  found_here passes = find-drop p xs i x here ∙ ap (λ b. cond b (Some x) (find p (drop (suc i) xs))) passes

  pub goes_on : p x ≡ false → find p (drop i xs) ≡ find p (drop (i + 1) xs)
  goes_on fails =
      let next : suc i ≡ i + 1 = omega arith in
      find-drop p xs i x here ∙ ap (λ b. cond b (Some x) (find p (drop (suc i) xs))) fails ∙ ap (λ n. find p (drop n xs)) next

not_not : (b : Bool) → not (not b) ≡ b
not_not true = refl
not_not false = refl

-- an entry is gone where nothing is registered of it
pub gone_answered : (s : SchemeValue) (e : Entry) (o : Option Registered) (answer : Bool) → o ≡ registered_of s e → is_some o ≡ not answer → answer ≡ not (has_name (names s) e)
gone_answered s e o answer is none = sym (not_not answer) ∙ ap not (sym none ∙ ap is_some is ∙ some_registered s e)

-- CHANGED ENTRIES
has_at : (es : List (Entry × Registered)) (k : ℕ) (e : Entry × Registered) → slice_get es k ≡ Some e → has_entry es e ≡ true
has_at [] k e here = absurd (let h = here in cc)
has_at (x ∷ xs) zero e here =
    let is : x ≡ e = (let h = here in cc) in
    ap (λ b. b || has_entry xs e) (ap (same e) is ∙ same-refl e)
has_at (x ∷ xs) (suc k) e here = ap (λ b. same e x || b) (has_at xs k e here) ∙ or_true (same e x)

-- what stands at a place is found by its name
by_place : (s : SchemeValue) → IsScheme s → (k : ℕ) (name : Entry) (r : Registered) → slice_get (entries s) k ≡ Some (name, r) → Some r ≡ registered_of s name
by_place s is k name r here =
    option_eq-exact same_registered same_registered-exact (Some r) (registered_of s name)
    (sym (has_registered s is name r) ∙ has_at (entries s) k (name, r) here)

-- a name at a place is that of the entry there
entry_there : (o : Option (Entry × Registered)) (name : Entry) → option_map (λ e. e.0) o ≡ Some name → (r : Registered) × (o ≡ Some (name, r))
entry_there None name h = absurd (let g = h in cc)
entry_there (Some e) name h =
    let is : e.0 ≡ name = (let g = h in cc) in
    (e.1, ap (λ n. Some (n, e.1)) is)

module _ (kept later : SchemeValue) (is_kept : IsScheme kept) (is_later : IsScheme later) (place : ℕ) (name : Entry) (answer : Bool)
    (here : slice_get (names kept) place ≡ Some name)
    (answered : answer ≡ not (option_eq same_registered (registered_of kept name) (registered_of later name))) where
  there : (r : Registered) × (slice_get (entries kept) place ≡ Some (name, r))
  there = entry_there (slice_get (entries kept) place) name (sym (slice_get-map (λ (e : Entry × Registered). e.0) (entries kept) place) ∙ here)

  tested : not (has_entry (entries later) (name, there.0)) ≡ answer
  tested =
      ap not (has_registered later is_later name there.0 ∙ ap (λ o. option_eq same_registered o (registered_of later name)) (by_place kept is_kept place name there.0 there.1))
      ∙ sym answered

  -- the search for a changed entry ends here, or goes on
  pub changed_here : answer ≡ true → option_map (λ e. e.0) (find (λ e. not (has_entry (entries later) e)) (drop place (entries kept))) ≡ Some name
  changed_here is =
      ap (option_map (λ e. e.0)) (found_here (λ e. not (has_entry (entries later) e)) (entries kept) place (name, there.0) there.1 (tested ∙ is))

  pub changed_behind : answer ≡ false → option_map (λ e. e.0) (find (λ e. not (has_entry (entries later) e)) (drop place (entries kept)))
      ≡ option_map (λ e. e.0) (find (λ e. not (has_entry (entries later) e)) (drop (place + 1) (entries kept)))
  changed_behind is =
      ap (option_map (λ e. e.0)) (goes_on (λ e. not (has_entry (entries later) e)) (entries kept) place (name, there.0) there.1 (tested ∙ is))
