-- What a transaction makes of a ledger whose rows fit together.
use Rattle.std.proofs.Common.{◌≡◌, inl, inr, ℕ, ◌+◌, ◌-◌, ◌<◌, ◌≤◌, ◌==◌, ◌&&◌, nat_le, nat_lt, if◌then◌else◌, Bool, true, false, List, [], ◌∷◌, ◌++◌, length, Option, Some, None, refl, sym, ap, subst, ◌∙◌, arith}
use Rattle.std.proofs.lemmas.Bool.{cases_Bool}
use Rattle.std.proofs.lemmas.Bool.Decides.{nat_tests}
use Rattle.std.proofs.lemmas.List.{length_push}
use Rattle.sqlite.specs.State.{State}
use Rattle.sqlite.specs.Tree.{Trees}
use Rattle.fare_record.specs.Values.{RecordValue, StatementValue}
use Rattle.fare_record.specs.Lanes.{day_count}
use Rattle.fare_store.specs.Tables.{put}
use Rattle.fare_store.specs.LedgerWords.{took, with_statement, with_close, with_retired}
use Rattle.fare_store.specs.PlainLedgerWords.{filled}
use Rattle.fare_store.proofs.Taps.{count_last}
use Rattle.fare_store.proofs.LettingGo.{length_filled, count_filled, taken_more}
use Rattle.fare_tables.specs.Tabled.{IsFit, IsLeft, left_of}
use Rattle.fare_ledger.specs.declared.lane.Lane.{Lane}
use Rattle.fare_ledger.specs.declared.layout.Layout.{Layout}
use Rattle.fare_ledger.specs.Layouts.{schema_in, ours}
use Rattle.fare_ledger.specs.Held.{Held, TapRow, Becomes, MayBecome, IsReady, held_of, row_of, record_of, row_stated, stated_in, with_lane, with_tap, with_stated, with_numbers, with_retired_lane}
use Rattle.fare_ledger.specs.Words.{taken_in, gone_in, shown_in, value_in, AreNext, AreCounted, FitTogether, IsLawful, MayTake, MayClose}
use Rattle.fare_ledger.proofs.Taken.{taken_pushed, next_pushed}
use Rattle.fare_ledger.proofs.Days.{stated_put, apart_pushed, stays_stated}

pub ready : (w : Layout) (o start : ℕ) (s : State) → IsFit (schema_in w) (IsLawful w o start) s → IsReady w s
ready w o start s fit = record { rest = fit.rest; fits = fit.fits.readable }

-- what a stop leaves of a transaction
pub left_held : (w : Layout) (h : Held) (trees : Trees) → MayBecome w h trees → held_of (ours w trees) ≡ h
left_held w h trees it = ap (λ t. held_of (ours w t)) it.2 ∙ it.1.value

pub becomes_left : (w : Layout) (o start : ℕ) (h : Held) (trees : Trees) → MayBecome w h trees → FitTogether o start h → IsLeft (schema_in w) (IsLawful w o start) trees
becomes_left w o start h trees it fit = left_of (schema_in w) (IsLawful w o start) it.0 trees it.1.schema it.1.database (record { readable = it.1.readable; together = subst (FitTogether o start) (sym it.1.value) fit }) it.2

pub becomes_lawful : (w : Layout) (o start : ℕ) (new : State) (h : Held) → Becomes w new.now h × (new.now ≡ new.committed) → FitTogether o start h → IsFit (schema_in w) (IsLawful w o start) new
becomes_lawful w o start new h wrote fit = record {
  rest = record { settled = wrote.1; schema_is = wrote.0.schema };
  fits = record { readable = wrote.0.readable; together = subst (FitTogether o start) (sym wrote.0.value) fit };
}

pub turned : (a b : ℕ) → (a == b) ≡ (b == a)
turned a b = grind (arith, nat_tests)

pub equal : (a b : ℕ) → (a == b) ≡ true → a ≡ b
equal a b is = grind (arith, nat_tests)

-- ---- a tap more

own : (o : ℕ) (r : RecordValue) → r.owner ≡ o → record_of o (row_of r) ≡ r
own o r mine = λ i. record { device = r.device; link = r.link; owner = sym mine i; lane = r.lane; tap = r.tap }

taken_put : (o : ℕ) (taps : List TapRow) (r : RecordValue) (d : ℕ) → r.owner ≡ o → taken_in o (taps ++ row_of r ∷ []) d ≡ put (taken_in o taps) r.device (taken_in o taps r.device ++ r ∷ []) d
taken_put o taps r d mine = taken_pushed o taps (row_of r) d ∙ rw (turned r.device d) (elim (cases_Bool (d == r.device)) [
  | inl here ↦ rw here (let same = equal d r.device here in λ i. taken_in o taps (same i) ++ own o r mine i ∷ [])
  | inr there ↦ rw there refl
])

closed_stays : (lanes : ℕ → Lane) (d k c x : ℕ) → c ≡ (lanes d).closed → (with_lane d k c lanes x).closed ≡ (lanes x).closed
closed_stays lanes d k c x is = elim (cases_Bool (d == x)) [
  | inl here ↦ rw here (is ∙ ap (λ y. (lanes y).closed) (equal d x here))
  | inr there ↦ rw there refl
]

-- the closed days are others
day_apart : (start closed day other : ℕ) → (nat_le start other && nat_lt other (start + closed)) ≡ false → start ≤ day → day < start + closed → (other == day) ≡ false
day_apart start closed day other away low high = grind (arith, nat_tests)

same_count : (o : ℕ) (taps : List TapRow) (r : RecordValue) (d y : ℕ) → r.owner ≡ o → (d ≡ r.device → (r.tap.day == y) ≡ false) → day_count (taken_in o (taps ++ row_of r ∷ []) d) y ≡ day_count (taken_in o taps d) y
same_count o taps r d y mine away = ap (λ rows. day_count rows y) (taken_put o taps r d mine) ∙ elim (cases_Bool (d == r.device)) [
  | inr there ↦ rw there refl
  | inl here ↦ (
      let same = equal d r.device here in
      let not = away same in
      let last : day_count (taken_in o taps r.device ++ r ∷ []) y ≡ day_count (taken_in o taps r.device) y + (if r.tap.day == y then 1 else 0) = count_last (taken_in o taps r.device) r y in
      let none : day_count (taken_in o taps r.device ++ r ∷ []) y ≡ day_count (taken_in o taps r.device) y + 0 = rw not at last in
      rw here (none ∙ zero (day_count (taken_in o taps r.device) y) ∙ ap (λ e. day_count (taken_in o taps e) y) (sym same)))
]
  where
    zero : (n : ℕ) → n + 0 ≡ n
    zero n = omega arith

-- as many taps are shown as were taken
pub shown_length : (o : ℕ) (h : Held) (d : ℕ) → length (taken_in o h.taps d) ≤ (h.lanes d).taken → length (shown_in o h d) ≡ (h.lanes d).taken
shown_length o h d few = omega (arith, length_filled (gone_in o h d) (taken_in o h.taps d), few)

longer : (o : ℕ) (taps : List TapRow) (r : RecordValue) (d : ℕ) → (r.device == d) ≡ true → length (taken_in o (taps ++ row_of r ∷ []) d) ≡ length (taken_in o taps d) + 1
longer o taps r d here = ap length (rw here at (taken_pushed o taps (row_of r) d)) ∙ length_push (taken_in o taps d) (record_of o (row_of r))

as_long : (o : ℕ) (taps : List TapRow) (r : RecordValue) (d : ℕ) → (r.device == d) ≡ false → length (taken_in o (taps ++ row_of r ∷ []) d) ≡ length (taken_in o taps d)
as_long o taps r d there = ap length (rw there at (taken_pushed o taps (row_of r) d))

module _ (o start : ℕ) (known : ℕ → Bool) (h : Held) (r : RecordValue) (c : ℕ) (may : MayTake (value_in o start known h) r c) (fit : FitTogether o start h) where
  next_lane : r.lane ≡ (h.lanes r.device).taken + 1
  next_lane = may.next ∙ ap (λ n. n + 1) (shown_length o h r.device (fit.counted r.device))

  abbrev pub took_now : Held
  took_now = with_tap (row_of r) c h

  gone_same : (d : ℕ) → gone_in o took_now d ≡ gone_in o h d
  gone_same d = elim (cases_Bool (r.device == d)) [
    | inl here ↦ (
        let same = equal r.device d here in
        let taken : r.lane ≡ (h.lanes d).taken + 1 = next_lane ∙ ap (λ e. (h.lanes e).taken + 1) same in
        rw here (let e : r.lane - length (taken_in o (h.taps ++ row_of r ∷ []) d) ≡ (h.lanes d).taken - length (taken_in o h.taps d) = omega (arith, taken, longer o h.taps r d here) in e))
    | inr there ↦ rw there (ap (λ n. (h.lanes d).taken - n) (as_long o h.taps r d there))
  ]

  pub take_value : value_in o start known took_now ≡ took r (value_in o start known h)
  take_value = λ i. record {
    owner = o;
    start = start;
    knows = known;
    taken = λ d. (ap (λ n. filled n (taken_in o (h.taps ++ row_of r ∷ []) d)) (gone_same d) ∙ taken_more r.device r (gone_in o h) (taken_in o h.taps) (taken_in o (h.taps ++ row_of r ∷ [])) (λ e. taken_put o h.taps r e may.mine) d) i;
    stated = stated_in h.statements;
    closed = λ d. closed_stays h.lanes r.device r.lane c d may.closed_is i;
    retired = h.retired;
    from = h.since;
  }

  pub take_fits : FitTogether o start took_now
  take_fits = record {
    counted = λ d. elim (cases_Bool (r.device == d)) [
      | inl here ↦ (
          let same = equal r.device d here in
          let taken : r.lane ≡ (h.lanes d).taken + 1 = next_lane ∙ ap (λ e. (h.lanes e).taken + 1) same in
          rw here (let e : length (taken_in o (h.taps ++ row_of r ∷ []) d) ≤ r.lane = omega (arith, taken, longer o h.taps r d here, fit.counted d) in e))
      | inr there ↦ rw there (let e : length (taken_in o (h.taps ++ row_of r ∷ []) d) ≤ (h.lanes d).taken = omega (arith, as_long o h.taps r d there, fit.counted d) in e)
    ];
    numbered = subst (λ g. AreNext g (h.taps ++ row_of r ∷ [])) (λ i d. sym (gone_same d) i) (next_pushed o (gone_in o h) h.taps (row_of r) fit.numbered (let n : r.lane ≡ gone_in o h r.device + length (taken_in o h.taps r.device) + 1 = omega (arith, next_lane, fit.counted r.device) in n));
    single = fit.single;
    days = λ d y low high dated since.
        let before : y < start + (h.lanes d).closed = subst (λ n. y < start + n) (closed_stays h.lanes r.device r.lane c d may.closed_is) high in
        fit.days d y low before dated since
        ∙ ap {B = Option ℕ} Some (sym (same_count o h.taps r d y may.mine (λ same. day_apart start (h.lanes r.device).closed y r.tap.day may.open_day low (subst (λ e. y < start + (h.lanes e).closed) same before))));
    meta = fit.meta;
    unused = fit.unused;
  }

-- ---- a statement more

pub state_value : (o start : ℕ) (known : ℕ → Bool) (h : Held) (s : StatementValue) → stated_in h.statements s.device s.day ≡ None → value_in o start known (with_stated (row_stated s) h) ≡ with_statement s (value_in o start known h)
state_value o start known h s none = λ i. record {
  owner = o;
  start = start;
  knows = known;
  taken = shown_in o h;
  stated = λ d y. stated_put h.statements (row_stated s) d y none i;
  closed = λ d. (h.lanes d).closed;
  retired = h.retired;
  from = h.since;
}

pub state_fits : (o start : ℕ) (h : Held) (s : StatementValue) → stated_in h.statements s.device s.day ≡ None → FitTogether o start h → FitTogether o start (with_stated (row_stated s) h)
state_fits o start h s none fit = record {
  counted = fit.counted;
  numbered = fit.numbered;
  single = apart_pushed h.statements (row_stated s) fit.single none;
  days = λ d y low high dated since. stays_stated h.statements (row_stated s) d y _ none (fit.days d y low high dated since);
  meta = fit.meta;
  unused = fit.unused;
}

-- ---- a day closed

closed_put : (lanes : ℕ → Lane) (d k c x : ℕ) → c ≡ (lanes d).closed + 1 → (with_lane d k c lanes x).closed ≡ put (λ y. (lanes y).closed) d ((lanes d).closed + 1) x
closed_put lanes d k c x is = elim (cases_Bool (d == x)) [
  | inl here ↦ (let too : (x == d) ≡ true = turned x d ∙ here in rw (here, too) is)
  | inr there ↦ (let too : (x == d) ≡ false = turned x d ∙ there in rw (there, too) refl)
]

pub taken_stays : (lanes : ℕ → Lane) (d k c x : ℕ) → k ≡ (lanes d).taken → (with_lane d k c lanes x).taken ≡ (lanes x).taken
taken_stays lanes d k c x is = elim (cases_Bool (d == x)) [
  | inl here ↦ rw here (is ∙ ap (λ y. (lanes y).taken) (equal d x here))
  | inr there ↦ rw there refl
]

close_days : (o start : ℕ) (h : Held) (d k c : ℕ) → c ≡ (h.lanes d).closed + 1 → stated_in h.statements d (start + (h.lanes d).closed) ≡ Some (day_count (shown_in o h d) (start + (h.lanes d).closed)) → AreCounted o start h → AreCounted o start (with_numbers d k c h)
close_days o start h d k c is stated days x y low high dated since = elim (cases_Bool (d == x)) [
  | inr there ↦ days x y low (let e : y < start + (h.lanes x).closed = rw there at high in e) dated since
  | inl here ↦ (
      let same = equal d x here in
      let below : y < start + c = rw here at high in
      elim (cases_Bool (nat_lt y (start + (h.lanes d).closed))) [
        | inl earlier ↦ days x y low (let less : y < start + (h.lanes d).closed = grind (arith, nat_tests) in subst (λ e. y < start + (h.lanes e).closed) same less) dated since
        | inr last ↦ (
            let at : y ≡ start + (h.lanes d).closed = grind (arith, nat_tests) in
            (λ i. stated_in h.statements (sym same i) (at i)) ∙ stated ∙ (λ i. Some (day_count (shown_in o h (same i)) (sym at i))) ∙ ap {B = Option ℕ} Some (count_filled y (gone_in o h x) (taken_in o h.taps x) dated))
      ])
]

module _ (o start : ℕ) (known : ℕ → Bool) (h : Held) (d : ℕ) (lane : Lane) (may : MayClose (value_in o start known h) d lane) (fit : FitTogether o start h) where
  same_taken : lane.taken ≡ (h.lanes d).taken
  same_taken = may.numbers.taken ∙ shown_length o h d (fit.counted d)

  abbrev pub closed_now : Held
  closed_now = with_numbers d lane.taken (lane.closed + 1) h

  gone_stays : (x : ℕ) → gone_in o closed_now x ≡ gone_in o h x
  gone_stays x = ap (λ n. n - length (taken_in o h.taps x)) (taken_stays h.lanes d lane.taken (lane.closed + 1) x same_taken)

  pub close_value : value_in o start known closed_now ≡ with_close d (value_in o start known h)
  close_value = λ i. record {
    owner = o;
    start = start;
    knows = known;
    taken = λ x. filled (gone_stays x i) (taken_in o h.taps x);
    stated = stated_in h.statements;
    closed = λ x. closed_put h.lanes d lane.taken (lane.closed + 1) x (ap (λ n. n + 1) may.numbers.closed) i;
    retired = h.retired;
    from = h.since;
  }

  pub close_fits : FitTogether o start closed_now
  close_fits = record {
    counted = λ x. subst (λ n. length (taken_in o h.taps x) ≤ n) (sym (taken_stays h.lanes d lane.taken (lane.closed + 1) x same_taken)) (fit.counted x);
    numbered = subst (λ g. AreNext g h.taps) (λ i x. sym (gone_stays x) i) fit.numbered;
    single = fit.single;
    days = close_days o start h d lane.taken (lane.closed + 1) (ap (λ n. n + 1) may.numbers.closed) may.stated fit.days;
    meta = fit.meta;
    unused = fit.unused;
  }

-- ---- a lane retired

pub retired_value : (o start : ℕ) (known : ℕ → Bool) (h : Held) (d : ℕ) → value_in o start known (with_retired_lane d h) ≡ with_retired d (value_in o start known h)
retired_value o start known h d = λ i. record {
  owner = o;
  start = start;
  knows = known;
  taken = shown_in o h;
  stated = stated_in h.statements;
  closed = λ x. (h.lanes x).closed;
  retired = λ x. ap (λ b. if b then true else h.retired x) (turned d x) i;
  from = h.since;
}

pub retired_fits : (o start : ℕ) (h : Held) (d : ℕ) → FitTogether o start h → FitTogether o start (with_retired_lane d h)
retired_fits o start h d fit = record { counted = fit.counted; numbered = fit.numbered; single = fit.single; days = fit.days; meta = fit.meta; unused = fit.unused }
