-- What ran can run again.
use Rattle.std.proofs.Common.{◌≡◌, ℕ, zero, suc, ◌+◌, ◌<◌, List, [], ◌∷◌, length, slice_index_or, Some, refl, sym, ap, ◌∙◌, subst, arith, inl, inr}
use Rattle.std.specs.Prelude.{◌⊎◌, ◌≤◌, slice_get, is_some}
use Rattle.std.specs.List.{AllByRecursion}
use Rattle.fare_scheme.specs.Values.{SchemeValue}
use Rattle.fare_scheme.specs.Words.{station_of, position_of_station, position_of_owner}
use Rattle.fare_collector.specs.Collecting.{is_id, next_in}
use Rattle.fare_source.specs.Talking.{Talk}
use Rattle.fare_store.specs.Standing.{Standing}
use Rattle.fare_store.specs.OutboxWords.{OutboxValue}
use Rattle.fare_store.specs.LedgerWords.{LedgerValue}
use Rattle.fare_collect.specs.declared.station.Station.{Station}
use Rattle.fare_collect.specs.Collected.{HaveDevices, IsCollected}
use Rattle.fare_collect.specs.Resuming.{AreStations}
use Rattle.fare_sessions.specs.declared.hub.Hub.{Hub}
use Rattle.fare_sessions.specs.declared.session.Session.{Session}
use Rattle.fare_sessions.specs.declared.session.Session.TheVariants.{Collect, Serve}
use Rattle.fare_sessions.specs.declared.report.SessionsReport.{SessionsReport}
use Rattle.fare_sessions.specs.Course.{Counts, Tally}
use Rattle.fare_sessions.specs.Running.{IsRunnable, AreRunnable, HasCollected, HasRun, HaveRun, HaveAllRun}
use Rattle.fare_sessions.proofs.Follow.{all_at, same_at, run_scheme}

-- LISTS
all_from : {X : Type 0} (P : X → Type 0) (xs : List X) → ((place : ℕ) (x : X) → slice_get xs place ≡ Some x → P x) → AllByRecursion P xs
all_from P [] each = tt
all_from P (x ∷ xs) each = (each 0 x refl, all_from P xs (λ place y at. each (suc place) y at))

pub last_or_before : (place n : ℕ) → place < suc n → (place ≡ n) ⊎ (place < n)
last_or_before zero zero lt = inl refl
last_or_before zero (suc n) lt = inr (omega arith)
last_or_before (suc place) zero lt = absurd (omega (arith, lt))
last_or_before (suc place) (suc n) lt = elim (last_or_before place n (omega (arith, lt))) [ inl same ↦ inl (ap suc same) | inr below ↦ inr (omega (arith, below)) ]

pub below_or_from : (place n : ℕ) → (place < n) ⊎ (n ≤ place)
below_or_from place zero = inr (omega arith)
below_or_from zero (suc n) = inl (omega arith)
below_or_from (suc place) (suc n) = elim (below_or_from place n) [ inl below ↦ inl (omega (arith, below)) | inr from ↦ inr (omega (arith, from)) ]

-- STATIONS
abbrev pub CanCollect : {S : Type 0} → SchemeValue → List (Station S) → Type 0
CanCollect sc stations = (length stations ≤ 16) × AreStations sc stations × HaveDevices sc stations

-- each is still its own, and knows the same devices
collected_again : {S : Type 0} (sc : SchemeValue) (talks : S → Talk) (xo xn : Standing OutboxValue) (before after : List (Station S)) (stored left : ℕ) (ended : _) → IsCollected sc talks xo xn before after stored left ended → CanCollect sc before → CanCollect sc after
collected_again {S} sc talks xo xn before after stored left ended c can = (
  (let l = c.len in let few = can.0 in omega (arith, l, few)),
  record { each = λ k d lt. ap (position_of_station sc) (c.each k d (at k lt)).named ∙ can.1.each k d (at k lt) },
  record {
    each = λ k d device lt.
        let t = c.each k d (at k lt) in
        t.devices device ∙ (can.2.each k d device (at k lt) ∙ ap (is_id (station_of sc device)) (sym t.named));
  },
)
  where
    at : (k : ℕ) → k < length after → k < length before
    at k lt = let l = c.len in omega (arith, l, lt)

module _ {S O L : Type 0} (talks : S → Talk) (outbox : O → Standing OutboxValue) (ledger : L → Standing LedgerValue) where
  -- A SESSION
  ran_again : (old new : Hub O L) (before after : Session S) (c : Counts) → HasRun talks outbox ledger old new before after c → IsRunnable old.scheme before → IsRunnable old.scheme after
  ran_again old new (Collect before) (Collect after) c ran can = elim ran.came [
    | inl one ↦ collected_again old.scheme talks (outbox old.outbox) (outbox new.outbox) before.items after.items c.stored c.left one.0 one.1 can
    | inr unread ↦ subst (CanCollect old.scheme) (sym unread.1) can
  ]
  ran_again old new (Collect before) (Serve owner) c ran can = absurd ran
  ran_again old new (Serve owner) (Serve other) c ran can = (can.0, ap (position_of_owner old.scheme) ran.0 ∙ can.1)
  ran_again old new (Serve owner) (Collect after) c ran can = absurd ran

  -- A LIST OF SESSIONS
  run_again : (start : Hub O L) (olds news : List (Session S)) (n : ℕ) (now : Hub O L) (t : Tally) → HaveRun talks outbox ledger start olds news n now t → AreRunnable start.scheme olds
      → (place : ℕ) → place < n → (x : Session S) → slice_get news place ≡ Some x → IsRunnable start.scheme x
  run_again start olds news zero now t h can place lt x at = absurd (omega (arith, lt))
  run_again start olds news (suc n) now t h can place lt x at = elim (last_or_before place n lt) [
    | inl last ↦
        let one = h.4 in
        let same = run_scheme talks outbox ledger start olds news n h.0 h.1 h.3 in
        let was : IsRunnable h.0.scheme one.before = subst (λ sc. IsRunnable sc one.before) (sym same) (all_at (IsRunnable start.scheme) olds can n one.before one.was) in
        let is : one.after ≡ x = same_at news news n x one.after (ap (slice_get news) (sym last) ∙ at) one.is refl in
        subst (λ (q : SchemeValue × Session S). IsRunnable q.0 q.1) (λ i. (same i, is i)) (ran_again h.0 now one.before one.after h.2 one.ran was)
    | inr below ↦ run_again start olds news n h.0 h.1 h.3 can place below x at
  ]

  pub all_again : (limit : ℕ) (old new : Hub O L) (olds news : List (Session S)) (report : SessionsReport) → HaveAllRun talks outbox ledger limit old new olds news report → AreRunnable old.scheme olds → AreRunnable new.scheme news
  all_again limit old new olds news report a can =
      subst (λ sc. AreRunnable sc news) (sym (run_scheme talks outbox ledger old olds news a.count new a.tally a.ran))
      (all_from (IsRunnable old.scheme) news (λ place x at. elim (below_or_from place a.count) [
        | inl below ↦ run_again old olds news a.count new a.tally a.ran can place below x at
        | inr from ↦ all_at (IsRunnable old.scheme) olds can place x (sym (a.rest place from) ∙ at)
      ]))
