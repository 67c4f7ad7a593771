-- Several rows at once: what is asked of each, and what the tables then hold.
use Rattle.std.proofs.Common.{◌≡◌, ◌⊎◌, inl, inr, ℕ, ◌+◌, ◌==◌, ◌||◌, ◌<◌, ◌≤◌, nat_lt, nat_le, min, if◌then◌else◌, Bool, true, false, List, [], ◌∷◌, ◌++◌, length, take, drop, Some, None, Ok, Err, Result, refl, sym, ap, subst, ◌∙◌, arith}
use Rattle.std.specs.Prelude.{Option, is_some, unwrap_or, IsErrAnd}
use Rattle.std.specs.List.{AllByRecursion, list_any}
use Rattle.std.proofs.lemmas.Bool.{cases_Bool, or_parts}
use Rattle.std.proofs.lemmas.Bool.Decides.{nat_tests}
use Rattle.std.proofs.lemmas.List.{length_push}
use Rattle.sqlite.specs.Effect.{Database, IsDatabase}
use Rattle.sqlite.specs.State.{State}
use Rattle.sqlite.specs.Tree.{Trees}
use Rattle.fare_record.specs.Values.{RecordValue}
use Rattle.fare_store.specs.declared.fault.Fault.{Fault}
use Rattle.fare_store.specs.declared.fault.StoreFault.{StoreFault}
use Rattle.fare_store.specs.declared.fault.StoreFault.TheVariants as store
use Rattle.fare_store.specs.Standing.{Standing, Calls, Reads}
use Rattle.fare_store.specs.OutboxWords.{OutboxValue, store_judged, stored}
use Rattle.fare_store.specs.Batches.{done_all, AreAccepted, IsPartDone, WritesFirst}
use Rattle.fare_store.proofs.Batches.{accepted-push}
use Rattle.fare_tables.specs.Tabled.{IsFit, IsLeft, given}
use Rattle.fare_tables.proofs.Lists.{all_pushed}
use Rattle.fare_tables.proofs.Steps.{says, given_more, write_then, first_failed}
use Rattle.fare_outbox_rows.specs.declared.layout.Layout.{Layout}
use Rattle.fare_outbox_rows.specs.Layouts.{schema_in, ours}
use Rattle.fare_outbox_rows.specs.Held.{Held, AreReadable, Becomes, MayBecome, held_of, with_tap}
use Rattle.fare_outbox.specs.Words.{value_at, value_in, FitTogether, IsLawful, IsWell}
use Rattle.fare_outbox_rows.specs.Batches.{with_taps}
use Rattle.fare_outbox.specs.Batches.{link_among, is_before, any_before, IsEnd, AreEnds, IsFreeOf, Follows, AreWelcome, IsWelcomePart}
use Rattle.fare_outbox.proofs.Judged.{welcome, may_store}
use Rattle.fare_outbox.proofs.Keyed.{put_at}
use Rattle.fare_outbox.proofs.Lanes.{store_value, store_fits}
use Rattle.fare_outbox.proofs.Stored.{becomes_left, becomes_well, left_held}

-- ---- none of which a test holds
pub none_of : {X : Type 0} (test : X → Bool) (xs : List X) → list_any test xs ≡ false → AllByRecursion (λ x. test x ≡ false) xs
none_of test [] none = tt
none_of test (x ∷ xs) none = let parts = or_parts (test x) (list_any test xs) none in (parts.0, none_of test xs parts.1)

-- ---- what is known behind some rows

pub among-push : (known : Option ℕ) (d : ℕ) (rs : List RecordValue) (r : RecordValue) → link_among known d (rs ++ r ∷ []) ≡ (if d == r.device then Some r.link else link_among known d rs)
among-push known d [] r = refl
among-push known d (x ∷ rs) r = among-push (if d == x.device then Some x.link else known) d rs r

pub link_is : (v : OutboxValue) (d : ℕ) (rs : List RecordValue) (known : Option ℕ) (u : ℕ) → v.upto d ≡ unwrap_or known u → (done_all stored rs v).upto d ≡ unwrap_or (link_among known d rs) u
link_is v d [] known u is = is
link_is v d (x ∷ rs) known u is = link_is (stored x v) d rs (if d == x.device then Some x.link else known) u (step (d == x.device))
  where
    step : (b : Bool) → (if b then x.link else v.upto d) ≡ unwrap_or (if b then Some x.link else known) u
    step true = refl
    step false = is

rows_kept : (v : OutboxValue) (r : RecordValue) (rs : List RecordValue) → IsFreeOf r rs → (done_all stored rs v).rows r.owner r.device r.lane ≡ v.rows r.owner r.device r.lane
rows_kept v r [] free = refl
rows_kept v r (x ∷ rs) free = rows_kept (stored x v) r rs free.1 ∙ sym (put_at v.rows x.owner x.device x.lane r.owner r.device r.lane (Some x)) ∙ ap (λ (b : Bool). if b then Some x else v.rows r.owner r.device r.lane) free.0

count_is : (v : OutboxValue) (rs : List RecordValue) → (done_all stored rs v).row_count ≡ v.row_count + length rs
count_is v [] = omega arith
count_is v (x ∷ rs) = let more = count_is (stored x v) rs in omega (arith, more)

pub follows_on : (v : OutboxValue) (rs : List RecordValue) (r : RecordValue) (upto rows : ℕ) → upto ≡ (done_all stored rs v).upto r.device → r.link ≡ upto + 1 → false ≡ is_some (v.rows r.owner r.device r.lane) → IsFreeOf r rs → rows ≡ v.row_count → rows + length rs < 1000000 → r.lane ≤ 9223372036854775807 → Follows v rs r
follows_on v rs r upto rows is next held free count room low = record {
  judged = sym (welcome (done_all stored rs v) r upto (rows + length rs) next (ap (λ n. n + length rs) count ∙ sym (count_is v rs)) room (record {
    upto_is = is;
    held_is = held ∙ ap is_some (sym (rows_kept v r rs free));
  }));
  lane = low;
}

pub known_end : (v : OutboxValue) (r : RecordValue) (rs : List RecordValue) → AllByRecursion (IsEnd v) rs → any_before r rs ≡ true → IsEnd v r
known_end v r [] ends before = absurd (let e = before in cc)
known_end v r (x ∷ rs) ends before = elim (cases_Bool (is_before r x)) [
  | inl is ↦ λ lane le.
      let owner : x.owner ≡ r.owner = grind (arith, nat_tests) in
      let device : x.device ≡ r.device = grind (arith, nat_tests) in
      let low : x.lane ≤ r.lane = grind (arith, nat_tests) in
      (λ i. v.rows (sym owner i) (sym device i) lane) ∙ ends.0 lane (omega (arith, low, le))
  | inr other ↦ known_end v r rs ends.1 (sym (ap (λ (b : Bool). b || any_before r rs) other) ∙ before)
]

pub ends_behind : (v : OutboxValue) (rs : List RecordValue) → AreEnds v rs → AllByRecursion (IsEnd v) (drop 1 rs)
ends_behind v [] ends = tt
ends_behind v (r ∷ rs) ends = ends

pub ends-push : (v : OutboxValue) (rs : List RecordValue) (r : RecordValue) → AreEnds v rs → IsEnd v r → AreEnds v (rs ++ r ∷ [])
ends-push v [] r ends is = tt
ends-push v (x ∷ rs) r ends is = all_pushed (IsEnd v) rs r ends is

pub welcome-push : (v : OutboxValue) (rs : List RecordValue) (r : RecordValue) → AreWelcome v rs → Follows v rs r → AreWelcome v (rs ++ r ∷ [])
welcome-push v rs r all next = record {
  accepted = accepted-push store_judged stored v rs r all.accepted next.judged;
  lanes = all_pushed (λ (x : RecordValue). x.lane ≤ 9223372036854775807) rs r all.lanes next.lane;
}

-- no call, and something is known
pub unread : {V : Type 0} (a : Standing V) (did : Type 0) → (a.clean → a.live) → did → Calls a a None ((a.value ≡ a.value) × did) (λ v. ⊥)
unread a did up known = record {
  value = λ live lawful. (lawful, (refl, known));
  stop = λ clean lawful v leaves. inl leaves;
  lasts = λ clean lawful lasting. lasting;
  clean = λ h. h;
  live = λ h. h;
  stays = λ e clean. up clean;
  cause = refl;
}

-- a read that says something else
pub reads_as : {V A : Type 0} (a b : Standing V) (F G : A → Type 0) (r : Result A Fault) → ((x : A) → a.lawful → F x → G x) → Reads a b F r → Reads a b G r
reads_as a b F G (Ok x) say c = says a b None _ _ (λ v. ⊥) (λ v. ⊥) (λ lawful p. (p.0, say x lawful p.1)) (λ v none. none) c
reads_as a b F G (Err f) say c = c

-- ---- what the tables then hold

-- behind so many rows: the tables hold this, and obey their schema behind one at least
pub record Comes (w : Layout) (db : Database) (count : ℕ) (h : Held) : Type 0 where
  pub schema : db.schema ≡ schema_in w
  pub database : 0 < count → IsDatabase db
  pub readable : AreReadable (ours w db.trees)
  pub value : held_of (ours w db.trees) ≡ h

all_value : (rs : List RecordValue) (h : Held) → AreAccepted store_judged stored (value_in h) rs → value_in (with_taps rs h) ≡ done_all stored rs (value_in h)
all_value [] h ok = refl
all_value (r ∷ rs) h ok =
    let one = store_value h r (may_store (value_in h) r (sym ok.0)) in
    all_value rs (with_tap r h) (subst (λ (v : OutboxValue). AreAccepted store_judged stored v rs) (sym one) ok.1) ∙ ap (done_all stored rs) one

all_fit : (rs : List RecordValue) (h : Held) → AreWelcome (value_in h) rs → FitTogether h → FitTogether (with_taps rs h)
all_fit [] h ok fit = fit
all_fit (r ∷ rs) h ok fit =
    let may = may_store (value_in h) r (sym ok.accepted.0) in
    all_fit rs (with_tap r h) (record { accepted = subst (λ (v : OutboxValue). AreAccepted store_judged stored v rs) (sym (store_value h r may)) ok.accepted.1; lanes = ok.lanes.1 }) (store_fits h r ok.lanes.0 may fit)

all_count : (rs : List RecordValue) (h : Held) → length (with_taps rs h).taps ≡ length h.taps + length rs
all_count [] h = omega arith
all_count (r ∷ rs) h = let more = all_count rs (with_tap r h) in let one = length_push h.taps r in omega (arith, more, one)

all_statements : (rs : List RecordValue) (h : Held) → length (with_taps rs h).statements ≡ length h.statements
all_statements [] h = refl
all_statements (r ∷ rs) h = all_statements rs (with_tap r h)

room_of : (v : OutboxValue) (r : RecordValue) → ◌≡◌ {A = Result Unit StoreFault} (Ok tt) (store_judged v r) → v.row_count < 1000000
room_of v r ok = elim (cases_Bool (nat_le r.link (v.upto r.device))) [
  | inl x ↦ absurd (let e : ◌≡◌ {A = Result Unit StoreFault} (Ok tt) (Err store.Duplicate) = rw x at ok in cc)
  | inr x ↦ elim (cases_Bool (nat_lt (v.upto r.device + 1) r.link)) [
    | inl y ↦ absurd (let e : ◌≡◌ {A = Result Unit StoreFault} (Ok tt) (Err store.Gap) = rw (x, y) at ok in cc)
    | inr y ↦ elim (cases_Bool (is_some (v.rows r.owner r.device r.lane))) [
      | inl z ↦ absurd (let e : ◌≡◌ {A = Result Unit StoreFault} (Ok tt) (Err store.Conflict) = rw (x, y, z) at ok in cc)
      | inr z ↦ elim (cases_Bool (nat_le 1000000 v.row_count)) [
        | inl w ↦ absurd (let e : ◌≡◌ {A = Result Unit StoreFault} (Ok tt) (Err store.OutboxFull) = rw (x, y, z, w) at ok in cc)
        | inr w ↦ grind (arith, nat_tests)
      ]
    ]
  ]
]

few_rows : (v : OutboxValue) (rs : List RecordValue) → AreAccepted store_judged stored v rs → (length rs ≡ 0) ⊎ (v.row_count + length rs ≤ 1000000)
few_rows v [] ok = inl refl
few_rows v (r ∷ rs) ok =
    let room = room_of v r (sym ok.0) in
    inr (elim (few_rows (stored r v) rs ok.1) [
      | inl none ↦ omega (arith, none, room)
      | inr few ↦ omega (arith, few)
    ])

-- the count of rows doesn't end at the greatest number
sum_is : (v : OutboxValue) (rows : ℕ) (rs : List RecordValue) → rows ≡ v.row_count → rows ≤ 18446744073709551615 → AreAccepted store_judged stored v rs → min (rows + length rs) 18446744073709551615 ≡ rows + length rs
sum_is v rows rs is low ok = elim (few_rows v rs ok) [
  | inl none ↦ omega (arith, none, low)
  | inr few ↦ omega (arith, few, is)
]

pub all_written : (w : Layout) (old new : State) (rows sum statements : ℕ) (rs : List RecordValue) → sum ≡ min (rows + length rs) 18446744073709551615 → rows ≤ 18446744073709551615 → IsFit (schema_in w) (IsWell w rows statements) old → AreWelcome (value_at w old.now.trees) rs
    → Becomes w new.now (with_taps rs (held_of (ours w old.now.trees))) × (new.now ≡ new.committed) → IsFit (schema_in w) (IsWell w sum statements) new
all_written w old new rows sum statements rs sum_is_min low fit ok wrote =
    let h = held_of (ours w old.now.trees) in
    becomes_well w new sum statements (with_taps rs h) wrote (all_fit rs h ok fit.fits.lawful.together)
    (sum_is_min ∙ sum_is (value_in h) rows rs fit.fits.rows_are low ok.accepted ∙ ap (λ n. n + length rs) fit.fits.rows_are ∙ sym (all_count rs h))
    (fit.fits.statements_are ∙ sym (all_statements rs h))

-- and of what a stop leaves of it
pub all_left : (w : Layout) (h : Held) (rs : List RecordValue) (trees : Trees) → AreWelcome (value_in h) rs → FitTogether h → MayBecome w (with_taps rs h) trees → (value_at w trees ≡ done_all stored rs (value_in h)) × IsLeft (schema_in w) (IsLawful w) trees
all_left w h rs trees ok fit it = (ap value_in (left_held w (with_taps rs h) trees it) ∙ all_value rs h ok.accepted, becomes_left w (with_taps rs h) trees it (all_fit rs h ok fit))

pub written_value : (w : Layout) (old new : State) (rs : List RecordValue) → AreWelcome (value_at w old.now.trees) rs → held_of (ours w new.now.trees) ≡ with_taps rs (held_of (ours w old.now.trees)) → value_at w new.now.trees ≡ done_all stored rs (value_at w old.now.trees)
written_value w old new rs ok is = ap value_in is ∙ all_value rs (held_of (ours w old.now.trees)) ok.accepted

pub left_value : (h : Held) (rs : List RecordValue) (g : Held) → AreWelcome (value_in h) rs → g ≡ with_taps rs h → value_in g ≡ done_all stored rs (value_in h)
left_value h rs g ok is = ap value_in is ∙ all_value rs h ok.accepted

-- ---- the whole call

-- the first n may be written, and then that was tried
written : (a b d : Standing OutboxValue) (rs : List RecordValue) (n : ℕ) (f : Option Fault) (did result : Type 0) → n ≤ length rs
    → Calls a b None ((b.value ≡ a.value) × IsWelcomePart a.value rs n) (λ v. ⊥)
    → Calls (given (AreWelcome b.value (take n rs)) b) d f did (λ v. v ≡ done_all stored (take n rs) b.value)
    → (b.value ≡ a.value → IsWelcomePart a.value rs n → did → result)
    → Calls a d f result (IsPartDone store_judged stored a.value rs)
written a b d rs n f did result low first second so =
    says a d f _ _ (IsPartDone store_judged stored a.value rs) _ (λ lawful p. so p.0 p.1 p.2) (λ v is. is)
    (write_then a b d (IsWelcomePart a.value rs n) did f (λ v. v ≡ done_all stored (take n rs) b.value) (IsPartDone store_judged stored a.value rs)
    (λ p v is. record { count = n; few = low; accepted = p.1.welcome.accepted; value = is ∙ ap (done_all stored (take n rs)) p.0 }) first
    (given_more b d _ _ _ f _ (λ p. subst (λ (v : OutboxValue). AreWelcome v (take n rs)) (sym p.0) p.1.welcome) second))

pub written_all : (a b d : Standing OutboxValue) (rs : List RecordValue) (n : ℕ) → n ≤ length rs
    → Calls a b None ((b.value ≡ a.value) × IsWelcomePart a.value rs n) (λ v. ⊥)
    → Calls (given (AreWelcome b.value (take n rs)) b) d None (d.value ≡ done_all stored (take n rs) b.value) (λ v. v ≡ done_all stored (take n rs) b.value)
    → WritesFirst store_judged stored a d rs (Ok n)
written_all a b d rs n low first second = written a b d rs n None _ _ low first second (λ same part did. record { few = low; accepted = part.welcome.accepted; value = did ∙ ap (done_all stored (take n rs)) same; some = part.some })

pub written_failed : (a b d : Standing OutboxValue) (rs : List RecordValue) (n : ℕ) (f : Fault) → n ≤ length rs
    → Calls a b None ((b.value ≡ a.value) × IsWelcomePart a.value rs n) (λ v. ⊥)
    → Calls (given (AreWelcome b.value (take n rs)) b) d (Some f) (d.value ≡ b.value) (λ v. v ≡ done_all stored (take n rs) b.value)
    → WritesFirst store_judged stored a d rs (Err f)
written_failed a b d rs n f low first second = written a b d rs n (Some f) _ _ low first second (λ same part did. did ∙ same)

-- nothing was to be written
pub written_none : (a b : Standing OutboxValue) (rs : List RecordValue) (n : ℕ) → n ≡ 0 → Calls a b None ((b.value ≡ a.value) × IsWelcomePart a.value rs n) (λ v. ⊥) → WritesFirst store_judged stored a b rs (Ok 0)
written_none a b rs n none c =
    says a b None _ _ (λ v. ⊥) (IsPartDone store_judged stored a.value rs) (λ lawful p. record { few = omega arith; accepted = tt; value = p.0; some = λ e. p.1.some none }) (λ v is. absurd is) c

pub judging_failed : (a b : Standing OutboxValue) (rs : List RecordValue) (r : Result ℕ Fault) (f : Fault) (P : Type 0) → IsErrAnd r (λ q. q ≡ f) → Calls a b (Some f) ((b.value ≡ a.value) × P) (λ v. ⊥) → WritesFirst store_judged stored a b rs r
judging_failed a b rs r f P is c = first_failed store_judged stored a b rs r f is (says a b (Some f) _ _ (λ v. ⊥) (IsPartDone store_judged stored a.value rs) (λ lawful p. p.0) (λ v none. absurd none) c)
