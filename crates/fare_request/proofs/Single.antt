-- A request asks for one thing.
use Rattle.std.proofs.Common.{◌≡◌, ◌≢◌, ◌⊎◌, ℕ, List, length, slice_index, true, false, nat_eq, refl, sym, ap, subst, ◌∙◌, inl, inr, codes}
use Rattle.std.specs.Prelude.{if◌then◌else◌}
use Rattle.http.specs.declared.request.Parts.{Parts}
use Rattle.http_uri.specs.Uri.{uri_path}
use Rattle.fare_request.specs.Asking.{Asks, AsksAt, AsksWell, IsMeant, IsOurs, IsReadyAt, MistakesAt, NamesDay, NamesLane, is_order, path_of}
use Rattle.fare_request.specs.declared.ask.Ask.{Ask}
use Rattle.fare_request.specs.declared.ask.Ask.TheVariants as ask
use Rattle.fare_request.specs.declared.ask.Mistake.TheVariants as mistake
use Rattle.fare_request.specs.declared.ask.Place.{Place}
use Rattle.fare_request.specs.declared.ask.Place.TheVariants as place
use Rattle.fare_request.proofs.Named.{one_named}

-- PLACES
-- the place of a path
abbrev place_of : List ℕ → Place
place_of path = if nat_eq (slice_index path 1) 0 then place.Page else (if nat_eq (slice_index path 1) 109 then place.Metrics else (if nat_eq (slice_index path 1) 98 then place.Bill else (if nat_eq (slice_index path 1) 99 then place.Close else (if nat_eq (slice_index path 1) 114 then place.Retire else (if nat_eq (length path) 6 then place.Stand else place.Settle)))))

back : (at : Place) → place_of (path_of at) ≡ at
back place.Page = refl
back place.Metrics = refl
back place.Stand = refl
back place.Bill = refl
back place.Settle = refl
back place.Close = refl
back place.Retire = refl

one_place : (at other : Place) → path_of at ≡ path_of other → at ≡ other
one_place at other same = sym (back at) ∙ (ap place_of same ∙ back other)

-- AT A PLACE
-- what is asked there, with these words
abbrev read : Place → ℕ → ℕ → Ask
read place.Page owner n = ask.Page
read place.Metrics owner n = ask.Metrics
read place.Stand owner n = ask.Stand
read place.Bill owner n = ask.Bill owner n
read place.Settle owner n = ask.Settle owner n
read place.Close owner n = ask.Close
read place.Retire owner n = ask.Retire owner n

module _ (p : Parts) where
  -- it has the words that the place wants
  abbrev Says : Place → ℕ → ℕ → Type 0
  Says place.Bill owner n = NamesDay p owner n
  Says place.Settle owner n = NamesDay p owner n
  Says place.Retire owner n = NamesLane p owner n
  Says place.Page owner n = Unit {0}
  Says place.Metrics owner n = Unit {0}
  Says place.Stand owner n = Unit {0}
  Says place.Close owner n = Unit {0}

  one_read : (at : Place) (owner n other m : ℕ) → Says at owner n → Says at other m → read at owner n ≡ read at other m
  one_read place.Bill owner n other m v w = let same = one_named (codes "day=") p owner n other m v.0 w.0 in λ i. ask.Bill (same.0 i) (same.1 i)
  one_read place.Settle owner n other m v w = let same = one_named (codes "day=") p owner n other m v.0 w.0 in λ i. ask.Settle (same.0 i) (same.1 i)
  one_read place.Retire owner n other m v w = let same = one_named (codes "device=") p owner n other m v.0 w.0 in λ i. ask.Retire (same.0 i) (same.1 i)
  one_read place.Page owner n other m v w = refl
  one_read place.Metrics owner n other m v w = refl
  one_read place.Stand owner n other m v w = refl
  one_read place.Close owner n other m v w = refl

  ready_get : (at : Place) → is_order at ≡ false → IsReadyAt p at → p.method ≡ codes "GET"
  ready_get place.Page o r = r
  ready_get place.Metrics o r = r
  ready_get place.Stand o r = r
  ready_get place.Bill o r = r
  ready_get place.Settle o r = r
  ready_get place.Close o r = absurd (cc)
  ready_get place.Retire o r = absurd (cc)

  ready_order : (at : Place) → is_order at ≡ true → IsReadyAt p at → (p.method ≡ codes "POST") × IsMeant p
  ready_order place.Page o r = absurd (cc)
  ready_order place.Metrics o r = absurd (cc)
  ready_order place.Stand o r = absurd (cc)
  ready_order place.Bill o r = absurd (cc)
  ready_order place.Settle o r = absurd (cc)
  ready_order place.Close o r = r
  ready_order place.Retire o r = r

  module _ (at : Place) where
    -- asked in full, or without its words
    abbrev Well : Ask → Type 0
    Well a = (owner : ℕ) × (n : ℕ) × (a ≡ read at owner n) × IsReadyAt p at × Says at owner n

    abbrev Lost : Ask → Type 0
    Lost a = (a ≡ ask.Nothing mistake.Words) × IsReadyAt p at × ((owner n : ℕ) → ¬ (Says at owner n))

    -- or with the wrong method, or without its field
    abbrev Mistaken : Ask → Type 0
    Mistaken a = ((a ≡ ask.Nothing mistake.Foreign) × MistakesAt p at mistake.Foreign) ⊎ (((a ≡ ask.Nothing mistake.WantsGet) × MistakesAt p at mistake.WantsGet) ⊎ ((a ≡ ask.Nothing mistake.WantsPost) × MistakesAt p at mistake.WantsPost))

    not_ready : (a : Ask) → Mistaken a → ¬ (IsReadyAt p at)
    not_ready a (inl h) r = h.1.2 (ready_order at h.1.0 r).1
    not_ready a (inr (inl h)) r = h.1.1 (ready_get at h.1.0 r)
    not_ready a (inr (inr h)) r = h.1.1 (ready_order at h.1.0 r).0

    one_mistake : (a b : Ask) → Mistaken a → Mistaken b → a ≡ b
    one_mistake a b (inl f) (inl g) = f.0 ∙ sym g.0
    one_mistake a b (inl f) (inr (inl g)) = let both : true ≡ false = sym f.1.0 ∙ g.1.0 in absurd (cc)
    one_mistake a b (inl f) (inr (inr g)) = absurd (g.1.1 f.1.1)
    one_mistake a b (inr (inl f)) (inl g) = let both : true ≡ false = sym g.1.0 ∙ f.1.0 in absurd (cc)
    one_mistake a b (inr (inl f)) (inr (inl g)) = f.0 ∙ sym g.0
    one_mistake a b (inr (inl f)) (inr (inr g)) = let both : true ≡ false = sym g.1.0 ∙ f.1.0 in absurd (cc)
    one_mistake a b (inr (inr f)) (inl g) = absurd (f.1.1 g.1.1)
    one_mistake a b (inr (inr f)) (inr (inl g)) = let both : true ≡ false = sym f.1.0 ∙ g.1.0 in absurd (cc)
    one_mistake a b (inr (inr f)) (inr (inr g)) = f.0 ∙ sym g.0

    well : (there : Place) (owner n : ℕ) → at ≡ there → IsReadyAt p there → Says there owner n → Well (read there owner n)
    well there owner n is ready says = (owner, n, ap (λ (x : Place). read x owner n) (sym is), subst (IsReadyAt p) (sym is) ready, subst (λ (x : Place). Says x owner n) (sym is) says)

    lost : (there : Place) → at ≡ there → IsReadyAt p there → ((owner n : ℕ) → ¬ (Says there owner n)) → Lost (ask.Nothing mistake.Words)
    lost there is ready none = (refl, subst (IsReadyAt p) (sym is) ready, λ owner n says. none owner n (subst (λ (x : Place). Says x owner n) is says))

    view : (a : Ask) → AsksAt p at a → Well a ⊎ (Lost a ⊎ Mistaken a)
    view ask.Page h = inl (well place.Page 0 0 h.0 h.1 tt)
    view ask.Metrics h = inl (well place.Metrics 0 0 h.0 h.1 tt)
    view ask.Stand h = inl (well place.Stand 0 0 h.0 h.1 tt)
    view (ask.Bill owner day) h = inl (well place.Bill owner day h.0.0 h.0.1 h.1)
    view (ask.Settle owner day) h = inl (well place.Settle owner day h.0.0 h.0.1 h.1)
    view ask.Close h = inl (well place.Close 0 0 h.0 (h.1, h.2) tt)
    view (ask.Retire owner device) h = inl (well place.Retire owner device h.0.0 (h.0.1, h.0.2) h.1)
    view (ask.Nothing mistake.Foreign) h = inr (inr (inl (refl, h)))
    view (ask.Nothing mistake.Nowhere) h = absurd h
    view (ask.Nothing mistake.WantsGet) h = inr (inr (inr (inl (refl, h))))
    view (ask.Nothing mistake.WantsPost) h = inr (inr (inr (inr (refl, h))))
    view (ask.Nothing mistake.Words) (inl (inl bill, none)) = inr (inl (lost place.Bill bill.0 bill.1 none))
    view (ask.Nothing mistake.Words) (inl (inr settle, none)) = inr (inl (lost place.Settle settle.0 settle.1 none))
    view (ask.Nothing mistake.Words) (inr (retire, none)) = inr (inl (lost place.Retire retire.0 (retire.1, retire.2) none))

    join : (a b : Ask) → Well a ⊎ (Lost a ⊎ Mistaken a) → Well b ⊎ (Lost b ⊎ Mistaken b) → a ≡ b
    join a b (inl v) (inl w) = v.2 ∙ (one_read at v.0 v.1 w.0 w.1 v.4 w.4 ∙ sym w.2)
    join a b (inl v) (inr (inl w)) = absurd (w.2 v.0 v.1 v.4)
    join a b (inl v) (inr (inr w)) = absurd (not_ready b w v.3)
    join a b (inr (inl v)) (inl w) = absurd (v.2 w.0 w.1 w.4)
    join a b (inr (inl v)) (inr (inl w)) = v.0 ∙ sym w.0
    join a b (inr (inl v)) (inr (inr w)) = absurd (not_ready b w v.1)
    join a b (inr (inr v)) (inl w) = absurd (not_ready a v w.3)
    join a b (inr (inr v)) (inr (inl w)) = absurd (not_ready a v w.1)
    join a b (inr (inr v)) (inr (inr w)) = one_mistake a b v w

  -- A REQUEST
  abbrev IsForeign : Ask → Type 0
  IsForeign a = (a ≡ ask.Nothing mistake.Foreign) × ¬ (IsOurs p)

  abbrev IsNowhere : Ask → Type 0
  IsNowhere a = (a ≡ ask.Nothing mistake.Nowhere) × IsOurs p × ((at : Place) → uri_path p.uri ≢ path_of at)

  sorted : (a : Ask) → Asks p a → IsForeign a ⊎ (IsNowhere a ⊎ AsksWell p a)
  sorted (ask.Nothing mistake.Foreign) (inl none) = inl (refl, none)
  sorted (ask.Nothing mistake.Foreign) (inr h) = inr (inr h)
  sorted (ask.Nothing mistake.Nowhere) h = inr (inl (refl, h.0, h.1))
  sorted (ask.Nothing mistake.WantsGet) h = inr (inr h)
  sorted (ask.Nothing mistake.WantsPost) h = inr (inr h)
  sorted (ask.Nothing mistake.Words) h = inr (inr h)
  sorted ask.Page h = inr (inr h)
  sorted ask.Metrics h = inr (inr h)
  sorted ask.Stand h = inr (inr h)
  sorted (ask.Bill owner day) h = inr (inr h)
  sorted (ask.Settle owner day) h = inr (inr h)
  sorted ask.Close h = inr (inr h)
  sorted (ask.Retire owner device) h = inr (inr h)

  one : (a b : Ask) → IsForeign a ⊎ (IsNowhere a ⊎ AsksWell p a) → IsForeign b ⊎ (IsNowhere b ⊎ AsksWell p b) → a ≡ b
  one a b (inl f) (inl g) = f.0 ∙ sym g.0
  one a b (inl f) (inr (inl g)) = absurd (f.1 g.1)
  one a b (inl f) (inr (inr g)) = absurd (f.1 g.0)
  one a b (inr (inl f)) (inl g) = absurd (g.1 f.1)
  one a b (inr (inl f)) (inr (inl g)) = f.0 ∙ sym g.0
  one a b (inr (inl f)) (inr (inr g)) = absurd (f.2 g.1.0 g.1.1)
  one a b (inr (inr f)) (inl g) = absurd (g.1 f.0)
  one a b (inr (inr f)) (inr (inl g)) = absurd (g.2 f.1.0 f.1.1)
  one a b (inr (inr f)) (inr (inr g)) =
      let same : g.1.0 ≡ f.1.0 = one_place g.1.0 f.1.0 (sym g.1.1 ∙ f.1.1) in
      join f.1.0 a b (view f.1.0 a f.1.2) (view f.1.0 b (subst (λ (at : Place). AsksAt p at b) same g.1.2))

  pub one_ask : (a b : Ask) → Asks p a → Asks p b → a ≡ b
  one_ask a b v w = one a b (sorted a v) (sorted b w)
