-- What goes of a lane, by steps and at once.
use Rattle.std.proofs.Common.{◌≡◌, ℕ, zero, suc, ◌+◌, ◌≤◌, ◌<◌, ◌==◌, Bool, true, false, nat_lt, cond, List, [], ◌∷◌, ◌++◌, drop, Option, None, refl, sym, ap, ◌∙◌, arith, inl, inr}
use Rattle.std.specs.Prelude.{◌||◌, ◌-◌, max, replicate, is_some, if◌then◌else◌}
use Rattle.std.proofs.lemmas.Bool.{cases_lt}
use Rattle.std.proofs.lemmas.Bool.Decides.{nat_tests}
use Rattle.std.proofs.lemmas.List.{drop-drop}
use Rattle.fare_record.specs.Values.{RecordValue}
use Rattle.fare_store.specs.Tables.{put, put2}
use Rattle.fare_store.specs.LedgerWords.{LedgerValue, blank, let_go, is_past, front, stated_from, forgotten}
use Rattle.fare_store.specs.OutboxWords.{OutboxValue, without_statements, stated_before}
use Rattle.fare_store.proofs.Entries.{put_here, put2_here}
use Rattle.fare_store.proofs.LettingGo.{front_filled, let_go_filled}
use Rattle.fare_history.specs.Stores.{StoresValue, Forgets, forgotten_by_ledger}
use Rattle.fare_agreement.specs.Stopping.{IsLeftBy}
use Rattle.fare_desk.specs.Forgetting.{HasRest, is_over, let_lane_go, without}

-- THE TAPS
-- what is past a day is past a later one
past_later : (a b : ℕ) → a ≤ b → (r : RecordValue) → is_past a r ≡ true → is_past b r ≡ true
past_later a b le r past = by (nat_lt r.tap.day a) (nat_lt r.tap.day b) (r.lane == 0) refl refl past
  where
    by : (x y z : Bool) → nat_lt r.tap.day a ≡ x → nat_lt r.tap.day b ≡ y → (x || z) ≡ true → (y || z) ≡ true
    by x true z e f p = refl
    by false false z e f p = p
    by true false z e f p = absurd (let early : r.tap.day < a = grind (arith, nat_tests) in let late : b ≤ r.tap.day = grind (arith, nat_tests) in omega (arith, early, late, le))

-- what stands before a later day is what stands before the earlier one, and then more
front_more : (a b : ℕ) → a ≤ b → (taps : List RecordValue) → front b taps ≡ front a taps + front b (drop (front a taps) taps)
front_more a b le [] = refl
front_more a b le (r ∷ rs) = by (is_past a r) refl (front_more a b le rs)
  where
    by : (x : Bool) → is_past a r ≡ x → front b rs ≡ front a rs + front b (drop (front a rs) rs) → front b (r ∷ rs) ≡ cond x (1 + front a rs) 0 + front b (drop (cond x (1 + front a rs) 0) (r ∷ rs))
    by false e more = let same : front b (r ∷ rs) ≡ 0 + front b (r ∷ rs) = omega arith in same
    by true e more =
        let here : front b (r ∷ rs) ≡ 1 + front b rs = ap (λ c. cond c (1 + front b rs) 0) (past_later a b le r e) in
        let left : front b (drop (1 + front a rs) (r ∷ rs)) ≡ front b (drop (front a rs) rs) = ap (λ k. front b (drop k (r ∷ rs))) {x = 1 + front a rs} {y = suc (front a rs)} (omega arith) in
        omega (arith, here, more, left)

-- by steps or at once, the same taps go
pub taps_twice : (a b : ℕ) → a ≤ b → (taps : List RecordValue) → let_go (front b (let_go (front a taps) taps)) (let_go (front a taps) taps) ≡ let_go (front b taps) taps
taps_twice a b le taps =
    ap (λ n. let_go n (let_go (front a taps) taps)) (front_filled b (front a taps) (drop (front a taps) taps))
    ∙ let_go_filled (front a taps) (front b (drop (front a taps) taps)) (drop (front a taps) taps)
    ∙ ap (λ l. replicate (front a taps + front b (drop (front a taps) taps)) blank ++ l) (drop-drop (front b (drop (front a taps) taps)) (front a taps) taps)
    ∙ ap (λ n. let_go n taps) (sym (front_more a b le taps))

-- THE STATEMENTS
stated_twice : (a b : ℕ) → a ≤ b → (stated : ℕ → Option ℕ) (e : ℕ) → stated_from b (stated_from a stated) e ≡ stated_from b stated e
stated_twice a b le stated e = by (nat_lt e b) (nat_lt e a) refl refl
  where
    by : (x y : Bool) → nat_lt e b ≡ x → nat_lt e a ≡ y → (if x then None else (if y then None else stated e)) ≡ (if x then None else stated e)
    by true y f g = refl
    by false false f g = refl
    by false true f g = absurd (let late : b ≤ e = grind (arith, nat_tests) in let early : e < a = grind (arith, nat_tests) in omega (arith, early, late, le))

-- what is of a day before one went
none_before : (a : ℕ) (stated : ℕ → Option ℕ) (n : ℕ) → n ≤ a → stated_before n (stated_from a stated) ≡ 0
none_before a stated zero le = refl
none_before a stated (suc n) le =
    let gone : stated_from a stated n ≡ None = ap (λ t. if◌then◌else◌ {A = Option ℕ} t None (stated n)) {x = nat_lt n a} {y = true} (grind (arith, nat_tests)) in
    λ i. none_before a stated n (omega (arith, le)) i + (if is_some (gone i) then 1 else 0)

abbrev one_for : Option ℕ → ℕ
one_for o = if is_some o then 1 else 0

-- how many there were before one day are those before an earlier one, and those from it on
before_split : (a : ℕ) (stated : ℕ → Option ℕ) (b : ℕ) → a ≤ b → stated_before b (stated_from a stated) + stated_before a stated ≡ stated_before b stated
before_split a stated zero le = let none : stated_before a stated ≡ 0 = ap (λ n. stated_before n stated) {x = a} {y = 0} (omega (arith, le)) in omega (arith, none)
before_split a stated (suc n) le = elim (cases_lt n a) [
  | inl late ↦ (let last : a ≡ suc n = omega (arith, late, le) in
      let none : stated_before (suc n) (stated_from a stated) ≡ 0 = none_before a stated (suc n) (omega (arith, last)) in
      let same : stated_before a stated ≡ stated_before (suc n) stated = ap (λ m. stated_before m stated) last in
      omega (arith, none, same))
  | inr behind ↦ (let held : stated_from a stated n ≡ stated n = ap (λ t. if◌then◌else◌ {A = Option ℕ} t None (stated n)) {x = nat_lt n a} {y = false} (grind (arith, nat_tests)) in
      let one : one_for (stated_from a stated n) ≡ one_for (stated n) = ap one_for held in
      omega (arith, before_split a stated n behind, one))
]

-- A LEDGER
put_over : {A : Type 0} (f : ℕ → A) (k : ℕ) (x y : A) (n : ℕ) → put (put f k x) k y n ≡ put f k y n
put_over f k x y n = by (n == k)
  where
    by : (b : Bool) → (if b then y else (if b then x else f n)) ≡ (if b then y else f n)
    by true = refl
    by false = refl

module _ (device a b : ℕ) (le : a ≤ b) where
  pub forgotten_twice : (v : LedgerValue) → forgotten device b (forgotten device a v) ≡ forgotten device b v
  forgotten_twice v = λ i. record v { taken = λ d. taken d i; stated = λ d e. stated d e i; from = λ d. from d i }
    where
      taken : (d : ℕ) → put (put v.taken device (let_go (front a (v.taken device)) (v.taken device))) device (let_go (front b (put v.taken device (let_go (front a (v.taken device)) (v.taken device)) device)) (put v.taken device (let_go (front a (v.taken device)) (v.taken device)) device)) d ≡ put v.taken device (let_go (front b (v.taken device)) (v.taken device)) d
      taken d =
          put_over v.taken device (let_go (front a (v.taken device)) (v.taken device)) (let_go (front b (put v.taken device (let_go (front a (v.taken device)) (v.taken device)) device)) (put v.taken device (let_go (front a (v.taken device)) (v.taken device)) device)) d
          ∙ ap (λ l. put v.taken device l d) (ap (λ l. let_go (front b l) l) (put_here v.taken device (let_go (front a (v.taken device)) (v.taken device))) ∙ taps_twice a b le (v.taken device))

      stated : (d e : ℕ) → put (put v.stated device (stated_from a (v.stated device))) device (stated_from b (put v.stated device (stated_from a (v.stated device)) device)) d e ≡ put v.stated device (stated_from b (v.stated device)) d e
      stated d e =
          ap (λ f. f e) (put_over v.stated device (stated_from a (v.stated device)) (stated_from b (put v.stated device (stated_from a (v.stated device)) device)) d)
          ∙ ap (λ f. put v.stated device f d e) (ap (stated_from b) (put_here v.stated device (stated_from a (v.stated device))) ∙ (λ i x. stated_twice a b le (v.stated device) x i))

      from : (d : ℕ) → put (put v.from device (max (v.from device) a)) device (max (put v.from device (max (v.from device) a) device) b) d ≡ put v.from device (max (v.from device) b) d
      from d =
          let last : max (max (v.from device) a) b ≡ max (v.from device) b = omega (arith, le) in
          put_over v.from device (max (v.from device) a) (max (put v.from device (max (v.from device) a) device) b) d
          ∙ ap (λ n. put v.from device n d) (ap (λ n. max n b) (put_here v.from device (max (v.from device) a)) ∙ last)

  -- AN OUTBOX
  pub untold_twice : (owner : ℕ) (x : OutboxValue) → without_statements owner device b (without_statements owner device a x) ≡ without_statements owner device b x
  untold_twice owner x = λ i. record x { stated = λ p e k. stated p e k i; stated_count = count i }
    where
      s : ℕ → Option ℕ
      s = x.stated owner device

      once : ℕ → ℕ → ℕ → Option ℕ
      once = put2 x.stated owner device (stated_from a (x.stated owner device))

      here : once owner device ≡ stated_from a (x.stated owner device)
      here = put2_here x.stated owner device (stated_from a (x.stated owner device))

      later : stated_from b (once owner device) ≡ stated_from b (x.stated owner device)
      later = ap (stated_from b) here ∙ (λ i k. stated_twice a b le (x.stated owner device) k i)

      stated : (p e k : ℕ) → put2 once owner device (stated_from b (once owner device)) p e k ≡ put2 x.stated owner device (stated_from b (x.stated owner device)) p e k
      stated p e k =
          ap (λ f. f e k) (put_over x.stated owner (put (x.stated owner) device (stated_from a (x.stated owner device))) (put (once owner) device (stated_from b (once owner device))) p)
          ∙ ap (λ f. put x.stated owner f p e k) (λ i d. (ap (λ f. put f device (stated_from b (once owner device)) d) (put_here x.stated owner (put (x.stated owner) device (stated_from a (x.stated owner device)))) ∙ put_over (x.stated owner) device (stated_from a (x.stated owner device)) (stated_from b (once owner device)) d) i)
          ∙ ap (λ f. put x.stated owner (put (x.stated owner) device f) p e k) later

      count : x.stated_count - stated_before a (x.stated owner device) - stated_before b (once owner device) ≡ x.stated_count - stated_before b (x.stated owner device)
      count =
          let rest : stated_before b (once owner device) ≡ stated_before b (stated_from a (x.stated owner device)) = ap (stated_before b) here in
          omega (arith, rest, before_split a (x.stated owner device) b le)

  -- THE STORES
  ledgers_twice : (owner : ℕ) (h : StoresValue) (o : ℕ) → put (put h.ledgers owner (forgotten device a (h.ledgers owner))) owner (forgotten device b (put h.ledgers owner (forgotten device a (h.ledgers owner)) owner)) o ≡ put h.ledgers owner (forgotten device b (h.ledgers owner)) o
  ledgers_twice owner h o =
      put_over h.ledgers owner (forgotten device a (h.ledgers owner)) (forgotten device b (put h.ledgers owner (forgotten device a (h.ledgers owner)) owner)) o
      ∙ ap (λ m. put h.ledgers owner m o) (ap (forgotten device b) (put_here h.ledgers owner (forgotten device a (h.ledgers owner))) ∙ forgotten_twice (h.ledgers owner))

  pub without_twice : (owner : ℕ) (h : StoresValue) → without b owner device (without a owner device h) ≡ without b owner device h
  without_twice owner h = λ i. record { outbox = untold_twice owner h.outbox i; ledgers = λ o. ledgers_twice owner h o i }

  -- where the ledger alone let them go
  without_alone : (owner : ℕ) (h : StoresValue) → without b owner device (forgotten_by_ledger owner device a h) ≡ without b owner device h
  without_alone owner h = λ i. record { outbox = without_statements owner device b h.outbox; ledgers = λ o. ledgers_twice owner h o i }

  -- what a step leaves has the rest
  pub left_rest : (owner : ℕ) (h k : StoresValue) → IsLeftBy h (Forgets owner device a) k → HasRest b owner device h k
  left_rest owner h k (inl same) = ap (without b owner device) same
  left_rest owner h k (inr (may, inl alone)) = ap (without b owner device) alone ∙ without_alone owner h
  left_rest owner h k (inr (may, inr both)) = ap (without b owner device) both ∙ without_twice owner h

-- a lane that was let go has no rest
pub gone_rest : (day owner device : ℕ) (h : StoresValue) → HasRest day owner device h (let_lane_go day owner device h)
gone_rest day owner device h = by (is_over (h.ledgers owner) device day)
  where
    by : (b : Bool) → without day owner device (if b then without day owner device h else h) ≡ without day owner device h
    by true = without_twice device day day (omega arith) owner h
    by false = refl
