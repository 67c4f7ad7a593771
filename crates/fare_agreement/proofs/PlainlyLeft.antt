-- What a stop in a session leaves, in plain sentences.
use Rattle.std.proofs.Common.{◌≡◌, ℕ, List, [], ◌++◌, Option, None, Some, zero, suc, take, true, false, refl, sym, ap, ◌∙◌, subst}
use Rattle.std.specs.Prelude.{◌==◌, ◌||◌, if◌then◌else◌}
use Rattle.std.specs.List.{list_any}
use Rattle.std.proofs.lemmas.List.Folds.{list_any-append}
use Rattle.fare_record.specs.declared.item.Item.{Item}
use Rattle.fare_scheme.specs.Values.{SchemeValue}
use Rattle.fare_store.specs.Tables.{put}
use Rattle.fare_store.specs.OutboxWords.{OutboxValue}
use Rattle.fare_store.specs.LedgerWords.{LedgerValue}
use Rattle.fare_history.specs.Serving.{given_all, pruned_to_all, tried_in, taken_behind, Service, IsService}
use Rattle.fare_history.specs.Gathering.{Gathering, storing_all, unanswered, HasFirst, IsGathering}
use Rattle.fare_history.specs.Plainly.{ServesPlainly, IsFinished, IsWholeService, GathersPlainly}
use Rattle.fare_history.specs.Stores.{StoresValue, Collects, Serves_owner}
use Rattle.fare_history.proofs.Committed.{first_taken_is}
use Rattle.fare_store.proofs.Entries.{put_here}
use Rattle.fare_history.proofs.GatheredPlainly.{gathers_plainly}
use Rattle.fare_history.proofs.ServedPlainly.{serves_plainly, finished_is_whole, all_pruned, upto_stays, stated_stays, stated_count_stays, each_pruned}
use Rattle.fare_agreement.specs.Stopping.{IsMaybeCommitted, IsLeftBy}

-- A SERVICE, AND THE DEVICES OF ITS LANES
-- a session that a stop ended, which took what it took, or also what was in its hand, and pruned these devices' lanes
pub record IsServedTo (h k : StoresValue) (owner : ℕ) (v : Service) : Type 0 where
  pub w : Service
  pub items : IsMaybeCommitted v w
  pub devices : List ℕ
  pub each : (d : ℕ) → list_any (λ j. j == d) v.pruned ≡ true → list_any (λ j. j == d) devices ≡ true
  pub outbox : k.outbox ≡ pruned_to_all h.outbox owner (given_all (h.ledgers owner) w.taken) devices
  pub ledgers : k.ledgers ≡ put h.ledgers owner (given_all (h.ledgers owner) w.taken)

same_lanes : (v w : Service) → IsMaybeCommitted v w → w.pruned ≡ v.pruned
same_lanes v w some = ap (λ (u : Service). u.pruned) some.1 ∙ by v.hand some.0
  where
    by : (hand : Option Item) (n : ℕ) → (taken_behind n hand v).pruned ≡ v.pruned
    by None n = refl
    by (Some i) zero = refl
    by (Some i) (suc n) = refl

served_to : (h k : StoresValue) (o : ℕ) (v : Service) → IsLeftBy h (Serves_owner o v) k → IsServedTo h k o v
served_to h k o v left =
    let w = left.0 in
    let more = left.2.0 in
    let e = left.2.1 in
    record {
      w = w;
      items = left.1;
      devices = w.pruned ++ more;
      each = λ d is. list_any-append (λ j. j == d) w.pruned more ∙ ap (λ b. b || list_any (λ j. j == d) more) (ap (list_any (λ j. j == d)) (same_lanes v w left.1) ∙ is);
      outbox = ap (λ (m : StoresValue). m.outbox) e;
      ledgers = ap (λ (m : StoresValue). m.ledgers) e;
    }

maybe_service : (sc : SchemeValue) (o : ℕ) (x : OutboxValue) (l : LedgerValue) (v w : Service) → IsService sc o x l v → IsMaybeCommitted v w → IsService sc o x l w
maybe_service sc o x l v w is some = subst (IsService sc o x l) (sym some.1) (first_taken_is sc o x l v some.0 is)

-- the plain sentences, whatever the devices are
plain_with : (sc : SchemeValue) (o : ℕ) (x : OutboxValue) (l : LedgerValue) (w : Service) (ds : List ℕ) → IsService sc o x l w → ServesPlainly o x (pruned_to_all x o (given_all l w.taken) ds) l (given_all l w.taken)
plain_with sc o x l w ds is =
    let base = serves_plainly sc o x l (record w { pruned = [] }) (record { items = is.items; known = is.known; working = is.working; room = is.room; registered = tt }) in
    record {
      taken = base.taken;
      statements = base.statements;
      closed = base.closed;
      retired = base.retired;
      ended = base.ended;
      made = base.made;
      rows = all_pruned x o (given_all l w.taken) ds;
      upto = upto_stays x o (given_all l w.taken) ds;
      stated = stated_stays x o (given_all l w.taken) ds;
      stated_count = stated_count_stays x o (given_all l w.taken) ds;
    }

-- AN OWNER'S SESSION
-- the owner's own ledger
own_ledger : (h k : StoresValue) (o : ℕ) (v : Service) (to : IsServedTo h k o v) → k.ledgers o ≡ given_all (h.ledgers o) to.w.taken
own_ledger h k o v to = ap (λ (f : ℕ → LedgerValue). f o) to.ledgers ∙ put_here h.ledgers o (given_all (h.ledgers o) to.w.taken)

pub served_left : (sc : SchemeValue) (h k : StoresValue) (o : ℕ) (v : Service) → IsService sc o h.outbox (h.ledgers o) v → IsLeftBy h (Serves_owner o v) k → ServesPlainly o h.outbox k.outbox (h.ledgers o) (k.ledgers o)
served_left sc h k o v is left =
    let to = served_to h k o v left in
    subst (λ y. ServesPlainly o h.outbox y (h.ledgers o) (k.ledgers o)) (sym to.outbox)
    (subst (ServesPlainly o h.outbox (pruned_to_all h.outbox o (given_all (h.ledgers o) to.w.taken) to.devices) (h.ledgers o)) (sym (own_ledger h k o v to))
    (plain_with sc o h.outbox (h.ledgers o) to.w to.devices (maybe_service sc o h.outbox (h.ledgers o) v to.w is to.items)))

-- nothing was in the hand
same_taken : (v w : Service) → v.hand ≡ None → IsMaybeCommitted v w → w.taken ≡ v.taken
same_taken v w none some = ap (λ (u : Service). u.taken) (some.1 ∙ ap (λ hand. taken_behind some.0 hand v) none)

pub whole_left : (sc : SchemeValue) (h k : StoresValue) (o : ℕ) (v : Service) → IsService sc o h.outbox (h.ledgers o) v → IsFinished sc o h.outbox (h.ledgers o) v → IsLeftBy h (Serves_owner o v) k → IsWholeService sc o h.outbox k.outbox (h.ledgers o) (k.ledgers o)
whole_left sc h k o v is finished left =
    subst (λ y. IsWholeService sc o h.outbox y (h.ledgers o) (k.ledgers o)) (sym (to.outbox ∙ ap (λ items. pruned_to_all h.outbox o (given_all (h.ledgers o) items) to.devices) same))
    (subst (IsWholeService sc o h.outbox (pruned_to_all h.outbox o (given_all (h.ledgers o) v.taken) to.devices) (h.ledgers o)) (sym (own_ledger h k o v to ∙ ap (given_all (h.ledgers o)) same)) whole)
  where
    to : IsServedTo h k o v
    to = served_to h k o v left

    same : to.w.taken ≡ v.taken
    same = same_taken v to.w finished.hand to.items

    base : IsWholeService sc o h.outbox (pruned_to_all h.outbox o (given_all (h.ledgers o) v.taken) v.pruned) (h.ledgers o) (given_all (h.ledgers o) v.taken)
    base = finished_is_whole sc o h.outbox (h.ledgers o) v is finished

    whole : IsWholeService sc o h.outbox (pruned_to_all h.outbox o (given_all (h.ledgers o) v.taken) to.devices) (h.ledgers o) (given_all (h.ledgers o) v.taken)
    whole = record {
      rows = base.rows;
      statements = base.statements;
      pruned = λ d known lane le. each_pruned h.outbox o (given_all (h.ledgers o) v.taken) to.devices d lane (to.each d (finished.pruned d known)) le;
    }

pub others_left : (h k : StoresValue) (o p : ℕ) (v : Service) → (p == o) ≡ false → IsLeftBy h (Serves_owner o v) k → k.ledgers p ≡ h.ledgers p
others_left h k o p v other left =
    let to = served_to h k o v left in
    ap (λ (f : ℕ → LedgerValue). f p) to.ledgers ∙ ap (λ b. if b then given_all (h.ledgers o) to.w.taken else h.ledgers p) other

-- THE STATIONS AND THE WRITER
pub gathered_left : (sc : SchemeValue) (h k : StoresValue) (g : Gathering) → IsGathering sc h.outbox g → g.hand ≡ None → IsLeftBy h (Collects g) k → GathersPlainly sc h.outbox k.outbox g × (k.ledgers ≡ h.ledgers)
gathered_left sc h k g is none left = (subst (λ y. GathersPlainly sc h.outbox y g) (sym outbox) (gathers_plainly sc h.outbox g is), left.1)
  where
    take_none : (n : ℕ) → take {A = Item} n [] ≡ []
    take_none zero = refl
    take_none (suc n) = refl

    outbox : k.outbox ≡ storing_all h.outbox g.entries
    outbox =
        let first = subst (λ o. HasFirst (storing_all h.outbox g.entries) (tried_in o g.inbox) k.outbox) none left.0 in
        first.value ∙ ap (λ l. storing_all (storing_all h.outbox g.entries) (unanswered l)) (take_none first.count)
