-- Sessions, whole or stopped, keep agreement.
use Rattle.std.proofs.Common.{◌≡◌, ℕ, ◌+◌, ◌≤◌, List, [], ◌∷◌, ◌++◌, take, drop, zero, suc, None, Some, Bool, true, false, refl, sym, ap, ◌∙◌, subst, arith, append_assoc, inl, inr}
use Rattle.std.specs.Prelude.{Option, ◌==◌, ◌⊎◌, ◌<◌}
use Rattle.std.specs.List.{AllByRecursion}
use Rattle.std.proofs.lemmas.List.{append-nil, take-append-drop}
use Rattle.fare_record.specs.Values.{RecordValue}
use Rattle.fare_record.specs.Lanes.{day_count}
use Rattle.fare_record.specs.declared.item.Item.{Item}
use Rattle.fare_scheme.specs.Values.{SchemeValue}
use Rattle.fare_scheme.specs.Words.{station_of}
use Rattle.fare_store.specs.Tables.{put, put2}
use Rattle.fare_store.specs.LedgerWords.{LedgerValue, is_closed, with_close, with_retired, let_go, front, stated_from, forgotten}
use Rattle.fare_world.specs.Knowing.{knows_owner}
use Rattle.fare_side.specs.OpenDays as open_days
use Rattle.fare_world.proofs.Lanes.{closed_later, closed_within}
use Rattle.fare_history.specs.Serving.{behind_ledger, AreNextItems, given_all, pruned_to_all, in_hand, taken_behind, device_of, IsOfDevice, Service, IsService}
use Rattle.fare_history.specs.Gathering.{Gathering, items_of, accepted_by, answers_of, all_answers, storing_all, IsAnswerFrom, IsGathering}
use Rattle.fare_history.specs.Plainly.{IsCovered}
use Rattle.fare_history.specs.Stores.{StoresValue, Session, Collects, Serves_owner, Closes_day, Retires_lane, Forgets, MayClose, MayForget, forgotten_by_ledger, stores_after, stores_after_all}
use Rattle.fare_store.proofs.Entries.{put_all, put_here, is_one}
use Rattle.fare_history.proofs.Entries.{all-weaken, all-append, all-left, all-right}
use Rattle.fare_history.proofs.Growing.{items_first}
use Rattle.fare_history.proofs.ServedPlainly.{upto_stays, stated_stays}
use Rattle.fare_agreement.specs.Agreeing.{AreNumberedLists, IsOf, lane_agrees, Agrees}
use Rattle.fare_agreement.specs.Growing.{OutboxGrew, LedgerGrew, LedgerLasts, StoresGrew, IsStatedStill, StoresLast}
use Rattle.fare_agreement.specs.Stopping.{IsSessionOf, AreSessionsOf, IsBegunOf, IsMaybeCommitted, IsLeftBy, AreLeft, IsStored, IsTaken, AreKept, AreAnswered, lets_go, LetNothingGo, AreKeptStill, AreAnsweredStill}
use Rattle.fare_agreement.proofs.Collecting.{outbox_self, outbox_trans, covered_still, stored_still, answer_covered, Gathers, entries_gather, links_left, tried_keep}
use Rattle.fare_agreement.proofs.LaneSteps.{close_right}
use Rattle.fare_agreement.proofs.Takes.{ledger_self, ledger_trans, ledger_lasts, taken_still, TakesAll, items_taken, all_pruned, closes, close_grows, retire_agrees, retire_grows, forgets, forget_lasts, forgot_from}
use Rattle.fare_agreement.proofs.Lasting.{stores_last, last_trans, kept_is_still, kept_lasts, answered_is_still, answered_lasts}
use Rattle.fare_agreement.proofs.Unregistered.{none_taken, none_forgotten}
use Rattle.fare_agreement.proofs.Untold.{untold_agrees, went}

-- STORES THAT GREW
pub stores_self : (h : StoresValue) → StoresGrew h h
stores_self h = record { outbox = outbox_self h.outbox; ledgers = λ o. ledger_self (h.ledgers o) }

pub stores_trans : (h k m : StoresValue) → StoresGrew h k → StoresGrew k m → StoresGrew h m
stores_trans h k m p q = record { outbox = outbox_trans h.outbox k.outbox m.outbox p.outbox q.outbox; ledgers = λ o. ledger_trans (h.ledgers o) (k.ledgers o) (m.ledgers o) (p.ledgers o) (q.ledgers o) }

pub kept_still : (sc : SchemeValue) (h k : StoresValue) → StoresGrew h k → (q : Session) → AreKept sc h q → AreKept sc k q
kept_still sc h k grew (Collects g) is = (
  all-weaken (IsCovered sc h.outbox) (IsCovered sc k.outbox) (covered_still sc h.outbox k.outbox grew.outbox) (all_answers g) is.0,
  all-weaken (IsStored h.outbox) (IsStored k.outbox) (stored_still h.outbox k.outbox grew.outbox) (items_of g.entries) is.1,
)
kept_still sc h k grew (Serves_owner o v) is = all-weaken (IsTaken (h.ledgers o)) (IsTaken (k.ledgers o)) (taken_still (h.ledgers o) (k.ledgers o) (grew.ledgers o)) v.taken is
kept_still sc h k grew (Forgets o d day) is = let same = (grew.ledgers o).from d in omega (arith, is, same)
kept_still sc h k grew (Closes_day o d day) is = closed_still (h.ledgers o) (k.ledgers o) (grew.ledgers o) d day is
  where
    closed_still : (l m : LedgerValue) → LedgerGrew l m → (d day : ℕ) → is_closed l d day ≡ true → is_closed m d day ≡ true
    closed_still l m grew d day is =
        let late : open_days.is_closed l.start (m.closed d) day ≡ true = closed_later l.start (l.closed d) (m.closed d) day (grew.closed d) is in
        ap (λ n. open_days.is_closed n (m.closed d) day) grew.start ∙ late
kept_still sc h k grew (Retires_lane o d) is = (grew.ledgers o).retired d is

module _ (sc : SchemeValue) (lists : ℕ → List RecordValue) (all : AreNumberedLists lists) where
  -- what a session, or what is left of it, makes of the stores
  pub record Keeps (h k : StoresValue) : Type 0 where
    pub agrees : Agrees sc lists k
    pub grew : StoresGrew h k

  -- the same, where something may be let go
  pub record KeepsOrLetsGo (go : Bool) (h k : StoresValue) : Type 0 where
    pub agrees : Agrees sc lists k
    pub lasts : StoresLast h k
    pub grew : go ≡ false → StoresGrew h k

  kept_all : (go : Bool) (h k : StoresValue) → Keeps h k → KeepsOrLetsGo go h k
  kept_all go h k one = record { agrees = one.agrees; lasts = stores_last h k one.grew; grew = λ _. one.grew }

  -- THE STATIONS AND THE WRITER
  module _ (h : StoresValue) (g : Gathering) (is : Agrees sc lists h) (of : AllByRecursion (IsOf lists) (accepted_by g)) (told : IsGathering sc h.outbox g) where
    collected : Gathers sc lists all h.ledgers h.outbox g.entries
    collected = entries_gather sc lists all h.ledgers h.outbox g.entries (in_hand g.hand ++ g.inbox) of told.counted told.stored is

    collects_keep : Keeps h (stores_after h (Collects g))
    collects_keep = record { agrees = collected.agrees; grew = record { outbox = collected.grew; ledgers = λ o. ledger_self (h.ledgers o) } }

    -- also the first of what is in the hand and behind it was stored
    tried_stored : (k : StoresValue) → IsLeftBy h (Collects g) k → Keeps (stores_after h (Collects g)) k
    tried_stored k left =
        let y = storing_all h.outbox g.entries in
        let more = tried_keep sc lists all h.ledgers y k.outbox g.hand g.inbox (all-right (IsOf lists) (items_of g.entries) (in_hand g.hand ++ g.inbox) of) (links_left sc h.outbox g.entries (in_hand g.hand ++ g.inbox) told.counted told.stored) collected.agrees left.0 in
        subst (λ (m : StoresValue). Keeps (stores_after h (Collects g)) m) (λ i. record { outbox = k.outbox; ledgers = sym left.1 i })
        (record { agrees = more.agrees; grew = record { outbox = more.grew; ledgers = λ o. ledger_self (h.ledgers o) } })

    -- what was answered is in the outbox
    collects_kept : AreKept sc (stores_after h (Collects g)) (Collects g)
    collects_kept = (
      all-append (IsCovered sc (storing_all h.outbox g.entries)) (answers_of g.entries) g.last collected.covered
          (all-weaken (IsAnswerFrom sc (storing_all h.outbox g.entries)) (IsCovered sc (storing_all h.outbox g.entries)) (answer_covered sc (storing_all h.outbox g.entries)) g.last told.last),
      collected.kept,
    )

  -- AN OWNER
  module _ (h : StoresValue) (o : ℕ) (known : knows_owner sc o ≡ true) (is : Agrees sc lists h) where
    abbrev l : LedgerValue
    l = h.ledgers o

    -- the ledger takes these, and then the lanes of some devices are pruned
    serves : (items : List Item) (devices : List ℕ) → AllByRecursion (λ i. IsOfDevice sc (device_of i)) items → AreNextItems o h.outbox (behind_ledger sc l) items → Keeps h (record { outbox = pruned_to_all h.outbox o (given_all l items) devices; ledgers = put h.ledgers o (given_all l items) })
    serves items devices registered next = record { agrees = cut; grew = record { outbox = still; ledgers = put_all (λ p m. LedgerGrew (h.ledgers p) m) h.ledgers o l2 (λ p. ledger_self (h.ledgers p)) taken.grew } }
      where
        taken : TakesAll lists o h.outbox (λ d. is.stated o d) l items
        taken = items_taken lists o h.outbox (λ d. is.stated o d) l (behind_ledger sc l) items (λ d. is.lanes o d known) (λ d. refl) next

        l2 : LedgerValue
        l2 = given_all l items

        ls : ℕ → LedgerValue
        ls = put h.ledgers o l2

        -- of other devices it takes nothing
        untaken : (p d : ℕ) → knows_owner sc p ≡ true → station_of sc d ≡ None → (put h.ledgers o (given_all l items) p).taken d ≡ []
        untaken = put_all (λ p (m : LedgerValue). (d : ℕ) → knows_owner sc p ≡ true → station_of sc d ≡ None → m.taken d ≡ []) h.ledgers o (given_all l items) is.untaken (λ d known none. none_taken sc d none l items registered ∙ is.untaken o d known none)

        before : Agrees sc lists (record { outbox = h.outbox; ledgers = put h.ledgers o (given_all l items) })
        before = record { lanes = λ p d. put_all (λ p m. (d : ℕ) → knows_owner sc p ≡ true → lane_agrees lists h.outbox m p d) h.ledgers o (given_all l items) (λ p d. is.lanes p d) (λ d known. taken.agrees d) p d; stated = is.stated; untaken = untaken; waiting = is.waiting }

        cut : Agrees sc lists (record { outbox = pruned_to_all h.outbox o (given_all l items) devices; ledgers = put h.ledgers o (given_all l items) })
        cut = subst (λ m. Agrees sc lists (record { outbox = pruned_to_all h.outbox o m devices; ledgers = put h.ledgers o (given_all l items) })) (put_here h.ledgers o (given_all l items)) (all_pruned sc lists (put h.ledgers o (given_all l items)) o known h.outbox devices before)

        still : OutboxGrew h.outbox (pruned_to_all h.outbox o (given_all l items) devices)
        still = record {
          upto = λ d. omega (arith, ap (λ (f : ℕ → ℕ). f d) (upto_stays h.outbox o (given_all l items) devices));
          stated = λ p d day c e. ap (λ (f : ℕ → ℕ → ℕ → Option ℕ). f p d day) (stated_stays h.outbox o (given_all l items) devices) ∙ e;
        }

  -- LETTING GO
  module _ (h : StoresValue) (o d day : ℕ) (known : knows_owner sc o ≡ true) (is : Agrees sc lists h) (may : MayForget (h.ledgers o) d day) where
    abbrev alone : StoresValue
    alone = forgotten_by_ledger o d day h

    -- the ledger alone
    alone_agrees : Agrees sc lists alone
    alone_agrees = record {
      lanes = λ p e known. put_all (λ p m. (e : ℕ) → knows_owner sc p ≡ true → lane_agrees lists h.outbox m p e) h.ledgers o (forgotten d day (h.ledgers o)) (λ p e known. is.lanes p e known)
          (λ e known. forgets sc lists all o h.outbox (h.ledgers o) (λ e. is.lanes o e known) d day may e) p e known;
      stated = is.stated;
      untaken = put_all (λ p (m : LedgerValue). (e : ℕ) → knows_owner sc p ≡ true → station_of sc e ≡ None → m.taken e ≡ []) h.ledgers o (forgotten d day (h.ledgers o)) is.untaken
          (λ e known. put_all (λ e (t : List RecordValue). station_of sc e ≡ None → t ≡ []) (h.ledgers o).taken d (let_go (front day ((h.ledgers o).taken d)) ((h.ledgers o).taken d)) (λ e none. is.untaken o e known none) (λ none. none_forgotten day ((h.ledgers o).taken d) (is.untaken o d known none)) e);
      waiting = is.waiting;
    }

    ledgers_last : (p : ℕ) → LedgerLasts (h.ledgers p) (alone.ledgers p)
    ledgers_last = put_all (λ p m. LedgerLasts (h.ledgers p) m) h.ledgers o (forgotten d day (h.ledgers o)) (λ p. ledger_lasts (h.ledgers p) (h.ledgers p) (ledger_self (h.ledgers p))) (forget_lasts sc lists all o h.outbox (h.ledgers o) (λ e. is.lanes o e known) d day may)

    alone_lasts : StoresLast h alone
    alone_lasts = record { upto = λ e. omega arith; stated = λ p e k c held. inl held; ledgers = ledgers_last }

    forgot : day ≤ (alone.ledgers o).from d
    forgot = subst (λ m. day ≤ m.from d) (sym (put_here h.ledgers o (forgotten d day (h.ledgers o)))) (forgot_from sc lists all o h.outbox (h.ledgers o) (λ e. is.lanes o e known) d day may)

    -- and the outbox behind it
    both_keep : KeepsOrLetsGo true h (stores_after h (Forgets o d day))
    both_keep = record {
      agrees = untold_agrees sc lists alone o d day alone_agrees;
      lasts = record { upto = λ e. omega arith; stated = λ p e k c held. still p e k c (went h.outbox.stated o d day p e k c held); ledgers = ledgers_last };
      grew = λ f. absurd (cc);
    }
      where
        gone : (p e k : ℕ) → p ≡ o → e ≡ d → k < day → k < (alone.ledgers p).from e
        gone p e k mine here less = subst (λ a. k < (alone.ledgers a).from e) (sym mine) (subst (λ b. k < (alone.ledgers o).from b) (sym here) (omega (arith, less, forgot)))

        still : (p e k c : ℕ) → (put2 h.outbox.stated o d (stated_from day (h.outbox.stated o d)) p e k ≡ Some c) ⊎ ((p ≡ o) × (e ≡ d) × (k < day)) → IsStatedStill (stores_after h (Forgets o d day)) p e k c
        still p e k c (inl f) = inl f
        still p e k c (inr f) = inr (gone p e k f.0 f.1 f.2)

  -- a ledger that takes nothing
  untaken_by : (h : StoresValue) (o : ℕ) (m : LedgerValue) → Agrees sc lists h → ((e : ℕ) → m.taken e ≡ (h.ledgers o).taken e) → (p e : ℕ) → knows_owner sc p ≡ true → station_of sc e ≡ None → (put h.ledgers o m p).taken e ≡ []
  untaken_by h o m is same = put_all (λ p (m : LedgerValue). (e : ℕ) → knows_owner sc p ≡ true → station_of sc e ≡ None → m.taken e ≡ []) h.ledgers o m is.untaken (λ e known none. same e ∙ is.untaken o e known none)

  -- ANY SESSION
  pub session_keeps : (h : StoresValue) (q : Session) → Agrees sc lists h → IsSessionOf sc lists h q → KeepsOrLetsGo (lets_go q) h (stores_after h q)
  session_keeps h (Collects g) is of = kept_all false h (stores_after h (Collects g)) (collects_keep h g is of.0 of.1)
  session_keeps h (Serves_owner o v) is of = kept_all false h (stores_after h (Serves_owner o v)) (serves h o of.0 is v.taken v.pruned (all-left (λ i. IsOfDevice sc (device_of i)) v.taken (in_hand v.hand ++ v.queue) of.1.known) (items_first o h.outbox (behind_ledger sc (h.ledgers o)) v.taken (in_hand v.hand ++ v.queue) of.1.items))
  session_keeps h (Closes_day o d day) is of = kept_all false h (stores_after h (Closes_day o d day)) (record {
    agrees = record {
      lanes = λ p e known. put_all (λ p m. (e : ℕ) → knows_owner sc p ≡ true → lane_agrees lists h.outbox m p e) h.ledgers o (with_close d (h.ledgers o)) (λ p e known. is.lanes p e known)
          (λ e known. closes lists o h.outbox (h.ledgers o) (λ e. is.lanes o e of.0) d day of.1 of.2 e) p e known;
      stated = is.stated;
      untaken = untaken_by h o (with_close d (h.ledgers o)) is (λ e. refl);
      waiting = is.waiting;
    };
    grew = record { outbox = outbox_self h.outbox; ledgers = put_all (λ p m. LedgerGrew (h.ledgers p) m) h.ledgers o (with_close d (h.ledgers o)) (λ p. ledger_self (h.ledgers p)) (close_grows lists o h.outbox (h.ledgers o) (λ e. is.lanes o e of.0) d day of.1 of.2) };
  })
  session_keeps h (Forgets o d day) is of = both_keep h o d day of.0 is of.1
  session_keeps h (Retires_lane o d) is of = kept_all false h (stores_after h (Retires_lane o d)) (record {
    agrees = record {
      lanes = λ p e known. put_all (λ p m. (e : ℕ) → knows_owner sc p ≡ true → lane_agrees lists h.outbox m p e) h.ledgers o (with_retired d (h.ledgers o)) (λ p e known. is.lanes p e known)
          (λ e known. retire_agrees lists o h.outbox (h.ledgers o) d (λ e. is.lanes o e of.0) e) p e known;
      stated = is.stated;
      untaken = untaken_by h o (with_retired d (h.ledgers o)) is (λ e. refl);
      waiting = is.waiting;
    };
    grew = record { outbox = outbox_self h.outbox; ledgers = put_all (λ p m. LedgerGrew (h.ledgers p) m) h.ledgers o (with_retired d (h.ledgers o)) (λ p. ledger_self (h.ledgers p)) (retire_grows (h.ledgers o) d) };
  })

  -- what sessions make of them, one after the other
  pub record KeepAll (h k : StoresValue) (qs : List Session) : Type 0 where
    pub agrees : Agrees sc lists k
    pub lasts : StoresLast h k
    pub grew : LetNothingGo qs → StoresGrew h k

  pub sessions_keep : (h : StoresValue) (qs : List Session) → Agrees sc lists h → AreSessionsOf sc lists h qs → KeepAll h (stores_after_all h qs) qs
  sessions_keep h [] is of = record { agrees = is; lasts = stores_last h h (stores_self h); grew = λ _. stores_self h }
  sessions_keep h (q ∷ qs) is of =
      let one = session_keeps h q is of.0 in
      let more = sessions_keep (stores_after h q) qs one.agrees of.1 in
      record {
        agrees = more.agrees;
        lasts = last_trans h (stores_after h q) (stores_after_all (stores_after h q) qs) one.lasts more.lasts;
        grew = λ none. stores_trans h (stores_after h q) (stores_after_all (stores_after h q) qs) (one.grew none.0) (more.grew none.1);
      }

  -- WHAT WAS ANSWERED
  closed_now : (l : LedgerValue) (d day : ℕ) → MayClose l d day → is_closed (with_close d l) d day ≡ true
  closed_now l d day judged =
      let next : day ≡ l.start + l.closed d = is_one day (l.start + l.closed d) (close_right (l.stated d day) (is_closed l d day) (day == l.start + l.closed d) (day_count (l.taken d) day) (l.retired d) judged).1 in
      ap (λ n. open_days.is_closed l.start n day) (put_here l.closed d (l.closed d + 1)) ∙ closed_within l.start (l.closed d + 1) day (omega (arith, next)) (omega (arith, next))

  pub session_kept : (h : StoresValue) (q : Session) → Agrees sc lists h → IsSessionOf sc lists h q → AreKept sc (stores_after h q) q
  session_kept h (Collects g) is of = collects_kept h g is of.0 of.1
  session_kept h (Serves_owner o v) is of =
      subst (λ m. AllByRecursion (IsTaken m) v.taken) (sym (put_here h.ledgers o (given_all (h.ledgers o) v.taken)))
      (items_taken lists o h.outbox (λ d. is.stated o d) (h.ledgers o) (behind_ledger sc (h.ledgers o)) v.taken (λ d. is.lanes o d of.0) (λ d. refl) (items_first o h.outbox (behind_ledger sc (h.ledgers o)) v.taken (in_hand v.hand ++ v.queue) of.1.items)).kept
  session_kept h (Closes_day o d day) is of = subst (λ m. is_closed m d day ≡ true) (sym (put_here h.ledgers o (with_close d (h.ledgers o)))) (closed_now (h.ledgers o) d day of.1)
  session_kept h (Retires_lane o d) is of = ap (λ (m : LedgerValue). m.retired d) (put_here h.ledgers o (with_retired d (h.ledgers o))) ∙ put_here (h.ledgers o).retired d true
  session_kept h (Forgets o d day) is of = forgot h o d day of.0 is of.1

  pub sessions_kept : (h : StoresValue) (qs : List Session) → Agrees sc lists h → AreSessionsOf sc lists h qs → LetNothingGo qs → AllByRecursion (AreKept sc (stores_after_all h qs)) qs
  sessions_kept h [] is of none = tt
  sessions_kept h (q ∷ qs) is of none =
      let one = session_keeps h q is of.0 in
      let more = sessions_keep (stores_after h q) qs one.agrees of.1 in
      (kept_still sc (stores_after h q) (stores_after_all (stores_after h q) qs) (more.grew none.1) q (session_kept h q is of.0), sessions_kept (stores_after h q) qs one.agrees of.1 none.1)

  pub sessions_last : (h : StoresValue) (qs : List Session) → Agrees sc lists h → AreSessionsOf sc lists h qs → AllByRecursion (AreKeptStill sc (stores_after_all h qs)) qs
  sessions_last h [] is of = tt
  sessions_last h (q ∷ qs) is of =
      let one = session_keeps h q is of.0 in
      let more = sessions_keep (stores_after h q) qs one.agrees of.1 in
      (kept_lasts sc (stores_after h q) (stores_after_all (stores_after h q) qs) more.lasts q (kept_is_still sc (stores_after h q) q (session_kept h q is of.0)), sessions_last (stores_after h q) qs one.agrees of.1)

  -- A STOP
  answered_of : (h : StoresValue) (q : Session) → AreKept sc h q → AreAnswered sc h q
  answered_of h (Collects g) is = is
  answered_of h (Serves_owner o v) is = is
  answered_of h (Closes_day o d day) is = tt
  answered_of h (Retires_lane o d) is = tt
  answered_of h (Forgets o d day) is = tt

  answered_still : (h k : StoresValue) → StoresGrew h k → (q : Session) → AreAnswered sc h q → AreAnswered sc k q
  answered_still h k grew (Collects g) is = kept_still sc h k grew (Collects g) is
  answered_still h k grew (Serves_owner o v) is = kept_still sc h k grew (Serves_owner o v) is
  answered_still h k grew (Closes_day o d day) is = tt
  answered_still h k grew (Retires_lane o d) is = tt
  answered_still h k grew (Forgets o d day) is = tt

  -- what a stop in a session leaves agrees, and has what the session was answered
  pub record IsSafe (h k : StoresValue) (q : Session) : Type 0 where
    pub agrees : Agrees sc lists k
    pub lasts : StoresLast h k
    pub grew : lets_go q ≡ false → StoresGrew h k
    pub kept : AreAnswered sc k q

  -- nothing happened
  still_safe : (h : StoresValue) (q : Session) → Agrees sc lists h → AreAnswered sc h q → IsSafe h h q
  still_safe h q is kept = record { agrees = is; lasts = stores_last h h (stores_self h); grew = λ _. stores_self h; kept = kept }

  whole_safe : (h : StoresValue) (q : Session) → Agrees sc lists h → IsSessionOf sc lists h q → IsSafe h (stores_after h q) q
  whole_safe h q is of = let one = session_keeps h q is of in record { agrees = one.agrees; lasts = one.lasts; grew = one.grew; kept = answered_of (stores_after h q) q (session_kept h q is of) }

  -- one step more
  more_safe : (h k m : StoresValue) (q : Session) → IsSafe h k q → Keeps k m → IsSafe h m q
  more_safe h k m q safe one = record { agrees = one.agrees; lasts = last_trans h k m safe.lasts (stores_last k m one.grew); grew = λ none. stores_trans h k m (safe.grew none) one.grew; kept = answered_still k m one.grew q safe.kept }

  -- the ledger took these and maybe more, and lanes were pruned
  served_safe : (h : StoresValue) (o : ℕ) (v : Service) (more : List Item) (devices : List ℕ) → knows_owner sc o ≡ true → Agrees sc lists h → AllByRecursion (λ i. IsOfDevice sc (device_of i)) (v.taken ++ more) → AreNextItems o h.outbox (behind_ledger sc (h.ledgers o)) (v.taken ++ more)
      → IsSafe h (record { outbox = pruned_to_all h.outbox o (given_all (h.ledgers o) (v.taken ++ more)) devices; ledgers = put h.ledgers o (given_all (h.ledgers o) (v.taken ++ more)) }) (Serves_owner o v)
  served_safe h o v more devices known is registered next = record {
    agrees = one.agrees;
    lasts = stores_last h (record { outbox = pruned_to_all h.outbox o (given_all (h.ledgers o) (v.taken ++ more)) devices; ledgers = put h.ledgers o (given_all (h.ledgers o) (v.taken ++ more)) }) one.grew;
    grew = λ _. one.grew;
    kept = subst (λ m. AllByRecursion (IsTaken m) v.taken) (sym (put_here h.ledgers o (given_all (h.ledgers o) (v.taken ++ more)))) (all-left (IsTaken (given_all (h.ledgers o) (v.taken ++ more))) v.taken more taken.kept);
  }
    where
      one : Keeps h (record { outbox = pruned_to_all h.outbox o (given_all (h.ledgers o) (v.taken ++ more)) devices; ledgers = put h.ledgers o (given_all (h.ledgers o) (v.taken ++ more)) })
      one = serves h o known is (v.taken ++ more) devices registered next

      taken : TakesAll lists o h.outbox (λ d. is.stated o d) (h.ledgers o) (v.taken ++ more)
      taken = items_taken lists o h.outbox (λ d. is.stated o d) (h.ledgers o) (behind_ledger sc (h.ledgers o)) (v.taken ++ more) (λ d. is.lanes o d known) (λ d. refl) next

  -- the same of no more
  pruned_safe : (h : StoresValue) (o : ℕ) (v : Service) (devices : List ℕ) → knows_owner sc o ≡ true → Agrees sc lists h → IsService sc o h.outbox (h.ledgers o) v → IsSafe h (stores_after h (Serves_owner o (record v { pruned = devices }))) (Serves_owner o v)
  pruned_safe h o v devices known is of =
      subst (λ (items : List Item). IsSafe h (record { outbox = pruned_to_all h.outbox o (given_all (h.ledgers o) items) devices; ledgers = put h.ledgers o (given_all (h.ledgers o) items) }) (Serves_owner o v)) (append-nil v.taken)
      (served_safe h o v [] devices known is (subst (AllByRecursion (λ i. IsOfDevice sc (device_of i))) (sym (append-nil v.taken)) (all-left (λ i. IsOfDevice sc (device_of i)) v.taken (in_hand v.hand ++ v.queue) of.known)) (subst (AreNextItems o h.outbox (behind_ledger sc (h.ledgers o))) (sym (append-nil v.taken)) (items_first o h.outbox (behind_ledger sc (h.ledgers o)) v.taken (in_hand v.hand ++ v.queue) of.items)))

  pub stop_safe : (h k : StoresValue) (q : Session) → Agrees sc lists h → IsBegunOf sc lists h q → IsLeftBy h q k → IsSafe h k q
  stop_safe h k (Collects g) is of left = more_safe h (stores_after h (Collects g)) k (Collects g) (whole_safe h (Collects g) is of) (tried_stored h g is of.0 of.1 k left)
  stop_safe h k (Serves_owner o v) is of left = subst (λ m. IsSafe h m (Serves_owner o v)) (sym left.2.1) (taken_some left.0 left.1 (left.0.pruned ++ left.2.0))
    where
      all_taken : List Item → Type 0
      all_taken = AreNextItems o h.outbox (behind_ledger sc (h.ledgers o))

      -- the first of what is in the hand and behind it was taken
      first_some : (hand : Option Item) (n : ℕ) → v.hand ≡ hand → (ds : List ℕ) → IsSafe h (stores_after h (Serves_owner o (record (taken_behind n hand v) { pruned = ds }))) (Serves_owner o v)
      first_some None n e ds = pruned_safe h o v ds of.0 is of.1
      first_some (Some i) zero e ds = pruned_safe h o v ds of.0 is of.1
      first_some (Some i) (suc n) e ds =
          let first = i ∷ take n v.queue in
          let put : v.taken ++ (in_hand v.hand ++ v.queue) ≡ (v.taken ++ first) ++ drop n v.queue = ap (λ a. v.taken ++ (in_hand a ++ v.queue)) e ∙ sym (append_assoc v.taken first (drop n v.queue) ∙ ap (λ q. v.taken ++ (i ∷ q)) (take-append-drop n v.queue)) in
          served_safe h o v first ds of.0 is (all-left (λ i. IsOfDevice sc (device_of i)) (v.taken ++ first) (drop n v.queue) (subst (AllByRecursion (λ i. IsOfDevice sc (device_of i))) put of.1.known)) (items_first o h.outbox (behind_ledger sc (h.ledgers o)) (v.taken ++ first) (drop n v.queue) (subst all_taken put of.1.items))

      taken_some : (w : Service) → IsMaybeCommitted v w → (ds : List ℕ) → IsSafe h (stores_after h (Serves_owner o (record w { pruned = ds }))) (Serves_owner o v)
      taken_some w some ds = subst (λ (u : Service). IsSafe h (stores_after h (Serves_owner o (record u { pruned = ds }))) (Serves_owner o v)) (sym some.1) (first_some v.hand some.0 refl ds)
  stop_safe h k (Closes_day o d day) is of (inl e) = subst (λ m. IsSafe h m (Closes_day o d day)) (sym e) (still_safe h (Closes_day o d day) is tt)
  stop_safe h k (Closes_day o d day) is of (inr e) = subst (λ m. IsSafe h m (Closes_day o d day)) (sym e.1) (whole_safe h (Closes_day o d day) is (of.0, e.0, of.1))
  stop_safe h k (Retires_lane o d) is of (inl e) = subst (λ m. IsSafe h m (Retires_lane o d)) (sym e) (still_safe h (Retires_lane o d) is tt)
  stop_safe h k (Retires_lane o d) is of (inr e) = subst (λ m. IsSafe h m (Retires_lane o d)) (sym e.1) (whole_safe h (Retires_lane o d) is (of, e.0))
  stop_safe h k (Forgets o d day) is of (inl e) = subst (λ m. IsSafe h m (Forgets o d day)) (sym e) (still_safe h (Forgets o d day) is tt)
  stop_safe h k (Forgets o d day) is of (inr (may, inl e)) = subst (λ m. IsSafe h m (Forgets o d day)) (sym e) (record { agrees = alone_agrees h o d day of is may; lasts = alone_lasts h o d day of is may; grew = λ f. absurd (cc); kept = tt })
  stop_safe h k (Forgets o d day) is of (inr (may, inr e)) = subst (λ m. IsSafe h m (Forgets o d day)) (sym e) (whole_safe h (Forgets o d day) is (of, may))

  -- ANY LIST OF SESSIONS
  pub record AreSafe (h k : StoresValue) (qs : List Session) : Type 0 where
    pub agrees : Agrees sc lists k
    pub lasts : StoresLast h k
    pub grew : LetNothingGo qs → StoresGrew h k
    pub kept : LetNothingGo qs → AllByRecursion (AreAnswered sc k) qs
    pub last_kept : AllByRecursion (AreAnsweredStill sc k) qs

  pub stops_safe : (h k : StoresValue) (qs : List Session) → Agrees sc lists h → AreLeft sc lists h qs k → AreSafe h k qs
  stops_safe h k [] is left = record { agrees = subst (Agrees sc lists) (sym left) is; lasts = subst (StoresLast h) (sym left) (stores_last h h (stores_self h)); grew = λ _. subst (StoresGrew h) (sym left) (stores_self h); kept = λ _. tt; last_kept = tt }
  stops_safe h k (q ∷ qs) is left =
      let one = stop_safe h left.0 q is left.1 left.2 in
      let more = stops_safe left.0 k qs one.agrees left.3 in
      record {
        agrees = more.agrees;
        lasts = last_trans h left.0 k one.lasts more.lasts;
        grew = λ none. stores_trans h left.0 k (one.grew none.0) (more.grew none.1);
        kept = λ none. (answered_still left.0 k (more.grew none.1) q one.kept, more.kept none.1);
        last_kept = (answered_lasts sc left.0 k more.lasts q (answered_is_still sc left.0 q one.kept), more.last_kept);
      }

pub begun_of : (sc : SchemeValue) (lists : ℕ → List RecordValue) (h : StoresValue) (q : Session) → IsSessionOf sc lists h q → IsBegunOf sc lists h q
begun_of sc lists h (Collects g) is = is
begun_of sc lists h (Serves_owner o v) is = is
begun_of sc lists h (Closes_day o d day) is = (is.0, is.2)
begun_of sc lists h (Retires_lane o d) is = is.0
begun_of sc lists h (Forgets o d day) is = is.0
