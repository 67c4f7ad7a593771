-- Owners whose ledgers are asked one by one, up to one that fails.
use Rattle.std.proofs.Common.{◌≡◌, ◌+◌, ◌≤◌, arith, ℕ, List, length, set, None, Some, refl, sym, ◌∙◌, subst}
use Rattle.std.specs.Prelude.{Option, Result, Ok, Err, IsErrAnd, slice_get}
use Rattle.std.proofs.lemmas.Option.{slice_get_within}
use Rattle.fare_scheme.specs.Values.{SchemeValue}
use Rattle.fare_store.specs.declared.fault.Fault.{Fault}
use Rattle.fare_store.specs.LedgerWords.{LedgerValue}
use Rattle.fare_store.specs.Standing.{Standing, Calls, fault_of}
use Rattle.fare_side.specs.declared.owner.Owner.{Owner}
use Rattle.fare_side.specs.Resuming.{AreStandings}
use Rattle.fare_world.specs.Restarts.{IsAsked, AreAsked}
use Rattle.fare_world.proofs.Pairs.{PairedTo, one_paired, wider, part_paired}
use Rattle.fare_world.proofs.Stores.{same_count, rose}
use Rattle.fare_world.proofs.TableLemmas.{slice_get-set_same}

module _ {L : Type 0} (led : L → Standing LedgerValue) (sc : SchemeValue) where
  -- what a call says of an owner, whose other parts are what they were
  pub asked : (faulted : Option Fault) (x y : Owner L) (did : Type 0) → Calls (led x.ledger) (led y.ledger) faulted (((led y.ledger).value ≡ (led x.ledger).value) × did) (λ v. ⊥) → (faulted ≡ None → did → AreStandings sc (led x.ledger).value y.standings.items)
      → length y.standings.items ≡ length x.standings.items → y.queue ≡ x.queue → y.hand ≡ x.hand → y.forwarder ≡ x.forwarder → IsAsked led sc faulted x y
  asked faulted x y did c tells count queue hand forwarder = record {
    live = c.live;
    clean = c.clean;
    stays = λ e live. c.stays e;
    same = λ live lawful. let is = c.value live lawful in (is.0, is.1.0);
    counts = same_count (led x.ledger).failures (led y.ledger).failures faulted c.cause;
    told = λ none live lawful. tells none (c.value live lawful).1.1;
    count = count;
    queue = queue;
    hand = hand;
    forwarder = forwarder;
  }

  -- one that was asked before another failed
  before_failure : (f : Fault) (x y : Owner L) → IsAsked led sc None x y → IsAsked led sc (Some f) x y
  before_failure f x y h = record {
    live = h.live;
    clean = h.clean;
    stays = λ e. absurd (cc);
    same = h.same;
    counts = λ not. h.counts (λ e. absurd (cc));
    told = λ e. absurd (cc);
    count = h.count;
    queue = h.queue;
    hand = h.hand;
    forwarder = h.forwarder;
  }

  -- one that was not reached
  not_reached : (f : Fault) (x : Owner L) → IsAsked led sc (Some f) x x
  not_reached f x = record {
    live = λ h. h;
    clean = λ h. h;
    stays = λ e. absurd (cc);
    same = λ live lawful. (lawful, refl);
    counts = λ not. refl;
    told = λ e. absurd (cc);
    count = refl;
    queue = refl;
    hand = refl;
    forwarder = refl;
  }

  -- all of them, where one failed
  pub one_failed : (f : Fault) (old new : List (Owner L)) (place : ℕ) (x y : Owner L) (did : Type 0) → PairedTo (IsAsked led sc None) old new place → slice_get new place ≡ Some x → Calls (led x.ledger) (led y.ledger) (Some f) (((led y.ledger).value ≡ (led x.ledger).value) × did) (λ v. ⊥) → IsAsked led sc (Some f) x y
      → AreAsked led sc old (set new place y) (Some f)
  one_failed f old new place x y did so at c is = record {
    each = part_paired (IsAsked led sc (Some f)) old (set new place y) (place + 1) (one_paired (IsAsked led sc (Some f)) old new place x y (wider (IsAsked led sc None) (IsAsked led sc (Some f)) old new place (before_failure f) so) at is) (not_reached f);
    cause = λ store. record {
      place = place;
      before = x;
      now = y;
      was = sym (so.rest place (le place)) ∙ at;
      is = slice_get-set_same new place y (slice_get_within new place x at);
      rose = rose (led x.ledger) (led y.ledger) (Some f) (((led y.ledger).value ≡ (led x.ledger).value) × did) (λ v. ⊥) c store;
    };
  }
    where
      le : (n : ℕ) → n ≤ n
      le n = omega arith

  pub failed_with : (old new : List (Owner L)) (r : Result (Unit {0}) Fault) (f : Fault) → IsErrAnd r (λ q. q ≡ f) → AreAsked led sc old new (Some f) → AreAsked led sc old new (fault_of r)
  failed_with old new (Ok x) f is h = absurd is
  failed_with old new (Err q) f is h = subst (λ z. AreAsked led sc old new (Some z)) (sym is) h
