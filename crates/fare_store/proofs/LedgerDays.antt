-- The closed days and the stated counts of a plain ledger.
use Rattle.std.proofs.Common.{◌≡◌, ℕ, ◌+◌, ◌-◌, ◌≤◌, ◌==◌, Bool, true, false, cond, nat_eq, List, [], ◌∷◌, length, Option, Some, None, is_some, refl, sym, ◌∙◌, ap, arith}
use Rattle.std.specs.Prelude.{◌&&◌, if◌then◌else◌, is_none, not}
use Rattle.std.specs.Map.{lookup}
use Rattle.std.proofs.lemmas.Bool.Decides.{nat_tests}
use Rattle.std.proofs.lemmas.Map.Entries.{lookup_head}
use Rattle.fare_record.specs.Values.{RecordValue}
use Rattle.fare_store.specs.Tables.{put, put2}
use Rattle.fare_store.specs.declared.plain_ledger.Gone.{Gone}
use Rattle.fare_store.specs.TapPlaces.{same_day, from_in, AreLetGo, IsBegunAt, AreClosed}
use Rattle.fare_store.specs.PlainLedgerWords.{days_closed, filled}
use Rattle.fare_store.proofs.Tables.{turned, put2_is}
use Rattle.fare_store.proofs.LettingGo.{length_filled}

-- THE LAST CLOSED DAY
pub through : (start : ℕ) (closed : Option ℕ) → ((last : ℕ) → closed ≡ Some last → start ≤ last) → closed ≡ (if days_closed start closed == 0 then None else Some (start + days_closed start closed - 1))
through start None from = refl
through start (Some last) from =
    let le : start ≤ last = from last refl in
    let some : (last + 1 - start == 0) ≡ false = grind (arith, nat_tests) in
    let is : last ≡ start + (last + 1 - start) - 1 = omega (arith, le) in
    ap {B = Option ℕ} Some is ∙ sym (ap (λ b. if◌then◌else◌ {A = Option ℕ} b None (Some (start + (last + 1 - start) - 1))) some)

pub next_day : (start last day : ℕ) → start ≤ last → (day == last + 1) ≡ (day == start + (last + 1 - start))
next_day start last day le = ap (λ n. day == n) {x = last + 1} {y = start + (last + 1 - start)} (omega (arith, le))

-- CLOSE
pub closed_put : (start device day : ℕ) (old new : ℕ → Option ℕ) → ((d : ℕ) → new d ≡ cond (nat_eq device d) (Some day) (old d)) → day ≡ start + days_closed start (old device) → (d : ℕ) → days_closed start (new d) ≡ put (λ e. days_closed start (old e)) device (days_closed start (old device) + 1) d
closed_put start device day old new writes next d = ap (days_closed start) (writes d) ∙ by (nat_eq device d) ∙ ap (λ b. if b then days_closed start (old device) + 1 else days_closed start (old d)) (turned device d)
  where
    by : (b : Bool) → days_closed start (cond b (Some day) (old d)) ≡ (if b then days_closed start (old device) + 1 else days_closed start (old d))
    by true = omega (arith, next)
    by false = refl

pub days_put : (start device day : ℕ) (old new : ℕ → Option ℕ) → ((d : ℕ) → new d ≡ cond (nat_eq device d) (Some day) (old d)) → start ≤ day → AreClosed start old → AreClosed start new
days_put start device day old new writes le days d last is = by (nat_eq device d) refl
  where
    by : (b : Bool) → nat_eq device d ≡ b → start ≤ last
    by true same =
        let one : ◌≡◌ {A = Option ℕ} (Some day) (Some last) = sym (writes d ∙ ap (λ t. cond t (Some day) (old d)) same) ∙ is in
        let is_day : day ≡ last = cc in
        omega (arith, is_day, le)
    by false other = days d last (sym (writes d ∙ ap (λ t. cond t (Some day) (old d)) other) ∙ is)

-- STATE
writes_day : (device day : ℕ) (count : ℕ) (old new : ℕ × ℕ → Option ℕ) → ((q : ℕ × ℕ) → new q ≡ cond (same_day (device, day) q) (Some count) (old q)) → (d e : ℕ) → new (d, e) ≡ cond ((d == device) && (e == day)) (Some count) (old (d, e))
writes_day device day count old new writes d e = writes (d, e) ∙ (λ i. cond (turned device d i && turned day e i) (Some count) (old (d, e)))

pub stated_put : (device day : ℕ) (count : ℕ) (old new : ℕ × ℕ → Option ℕ) → ((q : ℕ × ℕ) → new q ≡ cond (same_day (device, day) q) (Some count) (old q)) → (d e : ℕ) → new (d, e) ≡ put2 (λ x y. old (x, y)) device day (Some count) d e
stated_put device day count old new writes d e = writes_day device day count old new writes d e ∙ put2_is device day (Some count) (λ x y. old (x, y)) d e

-- NOTHING AT ALL
pub none_of : {K X : Type 0} (entries : List (K × X)) (test : K → Bool) → length entries ≡ 0 → lookup test entries ≡ None
none_of [] test none = refl
none_of (e ∷ es) test none = absurd (omega (arith, none))

itself : (n : ℕ) → nat_eq n n ≡ true
itself n = grind (arith, nat_tests)

-- no tap was taken
pub none_taken : (begun : Option ℕ) (gone : ℕ → ℕ) (held : ℕ → List RecordValue) → IsBegunAt begun gone held → begun ≡ None → (d : ℕ) → filled (gone d) (held d) ≡ []
none_taken begun gone held at none d = let p = at.none none d in λ i. filled (p.0 i) (p.1 i)

pub none_begun : (begun : Option ℕ) (b : Bool) → is_some begun ≡ not b → b ≡ true → begun ≡ None
none_begun None b is on = refl
none_begun (Some d) true is on = absurd (let e : true ≡ false = is in cc)
none_begun (Some d) false is on = absurd (cc)

pub unbegun_none : (begun : Option ℕ) (b : Bool) → is_some begun ≡ not b → is_none begun ≡ true → b ≡ true
unbegun_none None true is none = refl
unbegun_none None false is none = absurd (let e : false ≡ true = is in cc)
unbegun_none (Some d) b is none = absurd (cc)

pub unbegun : (begun : Option ℕ) (gone : ℕ → ℕ) (held : ℕ → List RecordValue) → IsBegunAt begun gone held → ((d : ℕ) → filled (gone d) (held d) ≡ []) → is_none begun ≡ true
unbegun None gone held at none = refl
unbegun (Some d) gone held at none =
    let zero_here : gone d + length (held d) ≡ 0 = sym (length_filled (gone d) (held d)) ∙ ap (λ (l : List RecordValue). length l) (none d) in
    absurd (omega (arith, at.one d refl, zero_here))

-- nothing was let go
pub all_held : (entries : List (ℕ × Gone)) → AreLetGo (λ d. lookup (nat_eq d) entries) → ((d : ℕ) → from_in (lookup (nat_eq d) entries) ≡ 0) → length entries ≡ 0
all_held [] let_go none = refl
all_held (x ∷ xs) let_go none =
    let found : lookup (nat_eq x.0) (x ∷ xs) ≡ Some x.1 = lookup_head (nat_eq x.0) x xs (itself x.0) in
    let zero_here : x.1.from ≡ 0 = sym (ap from_in found) ∙ none x.0 in
    absurd (omega (arith, (let_go x.0 x.1 found).1, zero_here))

-- no day is closed
pub unclosed : (start : ℕ) (entries : List (ℕ × ℕ)) → AreClosed start (λ d. lookup (nat_eq d) entries) → ((d : ℕ) → days_closed start (lookup (nat_eq d) entries) ≡ 0) → length entries ≡ 0
unclosed start [] days none = refl
unclosed start (x ∷ xs) days none =
    let found : lookup (nat_eq x.0) (x ∷ xs) ≡ Some x.1 = lookup_head (nat_eq x.0) x xs (itself x.0) in
    let zero_here : x.1 + 1 - start ≡ 0 = sym (ap (days_closed start) found) ∙ none x.0 in
    absurd (omega (arith, days x.0 x.1 found, zero_here))

pub unstated : (entries : List ((ℕ × ℕ) × ℕ)) → ((d e : ℕ) → lookup (same_day (d, e)) entries ≡ None) → length entries ≡ 0
unstated [] none = refl
unstated (x ∷ xs) none = absurd (let e : ◌≡◌ {A = Option ℕ} None (Some x.1) = sym (none x.0.0 x.0.1) ∙ lookup_head (same_day x.0) x xs (λ i. itself x.0.0 i && itself x.0.1 i) in cc)
