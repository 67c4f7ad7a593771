-- What a session's contract means, in plain sentences, for whatever the stores may hold now.
use Rattle.std.proofs.Common.{◌≡◌, ℕ, zero, suc, Some, None, List, ◌++◌, take, refl, sym, ap, ◌∙◌, subst, inl, inr}
use Rattle.std.specs.Prelude.{◌==◌, ◌||◌, Bool, true, false, Option}
use Rattle.std.specs.List.{AllByRecursion, list_any}
use Rattle.std.proofs.lemmas.List.{append-nil}
use Rattle.std.proofs.lemmas.List.Folds.{list_any-append}
use Rattle.fare_record.specs.declared.item.Item.{Item}
use Rattle.fare_scheme.specs.Values.{SchemeValue}
use Rattle.fare_store.specs.Standing.{Standing}
use Rattle.fare_store.specs.OutboxWords.{OutboxValue}
use Rattle.fare_store.specs.LedgerWords.{LedgerValue}
use Rattle.fare_history.specs.Serving.{Service, AreUnrefused, first_taken, taken_behind, tried_in, given_all, pruned_to_all, IsOfDevice, IsService}
use Rattle.fare_history.specs.Plainly.{IsFinished, ServesPlainly, IsWholeService}
use Rattle.fare_history.specs.Holding.{MayHold}
use Rattle.fare_history.proofs.Committed.{first_taken_is}
use Rattle.fare_history.proofs.ServedPlainly.{serves_plainly, finished_is_whole, statements_stay}
use Rattle.fare_session.specs.declared.report.OwnerReport.{OwnerReport}
use Rattle.fare_session.specs.Served.{AreFit, IsTakenBy, IsPrunedBy, SaysOfService, IsServed, WasServed}
use Rattle.fare_session.proofs.Takes.{take_none}
use Rattle.fare_session.proofs.Services.{all-append, unrefused-append}

-- what the session that took a first part more has taken, and what it has pruned
pub taken_of : (n : ℕ) (hand : Option Item) (v : Service) → (taken_behind n hand v).taken ≡ v.taken ++ take n (tried_in hand v.queue)
taken_of n None v = sym (ap (λ l. v.taken ++ l) (take_none n) ∙ append-nil v.taken)
taken_of zero (Some i) v = sym (append-nil v.taken)
taken_of (suc n) (Some i) v = refl

pub pruned_of : (n : ℕ) (hand : Option Item) (v : Service) → (taken_behind n hand v).pruned ≡ v.pruned
pruned_of n None v = refl
pruned_of zero (Some i) v = refl
pruned_of (suc n) (Some i) v = refl

-- the session that pruned these lanes more
abbrev pruned_too : Service → List ℕ → Service
pruned_too v more = record v { pruned = v.pruned ++ more }

pruned_too_is : (sc : SchemeValue) (owner : ℕ) (x : OutboxValue) (l : LedgerValue) (v : Service) (more : List ℕ) → AllByRecursion (IsOfDevice sc) more → IsService sc owner x l v → IsService sc owner x l (pruned_too v more)
pruned_too_is sc owner x l v more known s = record { items = s.items; known = s.known; working = s.working; room = s.room; registered = all-append (IsOfDevice sc) v.pruned more s.registered known }

kept_any : (a b : Bool) → a ≡ true → (a || b) ≡ true
kept_any true b e = refl
kept_any false b e = absurd (cc)

finished_too : (sc : SchemeValue) (owner : ℕ) (x : OutboxValue) (l : LedgerValue) (v : Service) (more : List ℕ) → IsFinished sc owner x l v → IsFinished sc owner x l (pruned_too v more)
finished_too sc owner x l v more f = record {
  hand = f.hand;
  queue = f.queue;
  rows = f.rows;
  days = f.days;
  pruned = λ d known. list_any-append (λ z. z == d) v.pruned more ∙ kept_any (list_any (λ z. z == d) v.pruned) (list_any (λ z. z == d) more) (f.pruned d known);
}

module _ (sc : SchemeValue) (owner : ℕ) (xo xn : Standing OutboxValue) (lo ln : Standing LedgerValue) (report : OwnerReport) (s : IsServed sc owner xo xn lo ln report) (fit : AreFit sc owner xo xn lo ln) (x y : OutboxValue) (l m : LedgerValue) (mx : MayHold xo x) (ml : MayHold lo l) where
  abbrev v : Service
  v = s.v

  says : SaysOfService sc owner s.v report x l
  says = s.says fit x l mx ml

  -- by a service that is this one, or this one and a little more
  by_service : (w : Service) → IsService sc owner x l w → (report.fault ≡ None → IsFinished sc owner x l w) → AreUnrefused l w.taken → m ≡ given_all l w.taken → y ≡ pruned_to_all x owner m w.pruned → WasServed sc owner xo lo report y m
  by_service w is finished unrefused took cut = record {
    x = x;
    l = l;
    outbox = mx;
    ledger = ml;
    plain = subst (λ (z : OutboxValue × LedgerValue). ServesPlainly owner x z.0 l z.1) (λ i. (sym same i, sym took i)) (serves_plainly sc owner x l w is);
    stay = λ device day count held. ap (λ (z : LedgerValue). z.stated device day) took ∙ statements_stay l w.taken unrefused device day count held;
    whole = λ none. subst (λ (z : OutboxValue × LedgerValue). IsWholeService sc owner x z.0 l z.1) (λ i. (sym same i, sym took i)) (finished_is_whole sc owner x l w is (finished none));
  }
    where
      same : y ≡ pruned_to_all x owner (given_all l w.taken) w.pruned
      same = cut ∙ ap (λ z. pruned_to_all x owner z w.pruned) took

  -- the session that took also what the ledger has more
  abbrev more : IsTakenBy s.v l m → Service
  more took = first_taken took.count v

  more_taken : (took : IsTakenBy s.v l m) → (more took).taken ≡ v.taken ++ take took.count (tried_in v.hand v.queue)
  more_taken took = taken_of took.count v.hand v

  -- which holds the items that it holds, where all was taken
  more_finished : (took : IsTakenBy s.v l m) → report.fault ≡ None → IsFinished sc owner x l (more took)
  more_finished took none = subst (λ h. IsFinished sc owner x l (taken_behind took.count h v)) (sym (says.whole none).hand) (says.whole none)

  pub was_served : IsTakenBy s.v l m → IsPrunedBy sc owner m s.v x y → WasServed sc owner xo lo report y m
  was_served took cut = elim cut [
    | inl is ↦ by_service (more took) service (more_finished took) unrefused holds (is ∙ ap (pruned_to_all x owner m) (sym (pruned_of took.count v.hand v)))
    | inr some ↦ by_service (pruned_too (more took) some.1.0) (pruned_too_is sc owner x l (more took) some.1.0 some.1.1 service) (λ none. finished_too sc owner x l (more took) some.1.0 (more_finished took none)) unrefused holds
        (some.1.2 ∙ ap (λ ds. pruned_to_all x owner m (ds ++ some.1.0)) (sym (pruned_of took.count v.hand v)))
  ]
    where
      service : IsService sc owner x l (more took)
      service = first_taken_is sc owner x l v took.count says.service

      unrefused : AreUnrefused l (more took).taken
      unrefused = subst (AreUnrefused l) (sym (more_taken took)) (unrefused-append l v.taken (take took.count (tried_in v.hand v.queue)) says.unrefused took.unrefused)

      holds : m ≡ given_all l (more took).taken
      holds = took.value ∙ ap (given_all l) (sym (more_taken took))

pub said_plainly : (sc : SchemeValue) (owner : ℕ) (xo xn : Standing OutboxValue) (lo ln : Standing LedgerValue) (report : OwnerReport) → IsServed sc owner xo xn lo ln report → AreFit sc owner xo xn lo ln → (y : OutboxValue) (m : LedgerValue) → MayHold xn y → MayHold ln m → WasServed sc owner xo lo report y m
said_plainly sc owner xo xn lo ln report s fit y m my mm =
    let l = (s.ledger fit).leads m mm in
    let x = (s.outbox fit m mm).leads y my in
    was_served sc owner xo xn lo ln report s fit x.0 y l.0 m x.1 l.1 l.2 x.2
