-- Questions to a world: what they answer, and that they leave it as it was.
use Rattle.std.proofs.Common.{◌≡◌, ℕ, set, Some, None, Bool, true, refl, sym, ap, ◌∙◌, subst}
use Rattle.std.specs.Prelude.{slice_get, Result, Ok, Err, IsErrAnd}
use Rattle.fare_scheme.specs.Values.{SchemeValue}
use Rattle.fare_store.specs.declared.fault.Fault.{Fault}
use Rattle.fare_store.specs.declared.fault.Fault.TheVariants as fault
use Rattle.fare_store.specs.declared.fault.Refused.{Refused}
use Rattle.fare_store.specs.declared.fault.Refused.TheVariants as refused
use Rattle.fare_store.specs.Standing.{Standing, Calls, fault_in}
use Rattle.fare_store.specs.OutboxWords.{OutboxValue}
use Rattle.fare_store.specs.LedgerWords.{LedgerValue}
use Rattle.fare_event.specs.declared.event.Event.{Event}
use Rattle.fare_event.specs.declared.reply.Reply.{Reply}
use Rattle.fare_side.specs.declared.owner.Owner.{Owner}
use Rattle.fare_world.specs.declared.world.World.{World}
use Rattle.fare_world.specs.System.{System}
use Rattle.fare_world.specs.Steps.{step, may_fail}
use Rattle.fare_world.specs.Shown.{Shape, Shows}
use Rattle.fare_world.specs.Whole.{seen, shape, Follows, IsStepped, IsUnchanged, is_named, Asks}
use Rattle.fare_side.specs.Answering.{Answered}
use Rattle.fare_world.proofs.Stores.{SameStores, lawful_same, follows_same, then_memory, ledger_follows, ledger_lawful}

module _ {O L V R : Type 0} (out : O → Standing OutboxValue) (led : L → Standing LedgerValue) where
  -- it is refused before any store is asked
  pub asks_none : (old new : World O L) (tells : System → Result V R → Type 0) (may : Bool) (why : R) → new.scheme ≡ old.scheme → SameStores old new → shape (seen out led new) ≡ shape (seen out led old) → ((s : System) → Shows old.scheme (shape (seen out led old)) s → tells s (Err why)) → Asks out led old new tells may (Err (refused.Because why))
  asks_none old new tells may why same stores is f =
      let goes = follows_same out led old new None stores (λ e. absurd (cc)) in
      record {
        scheme = same;
        answer = λ s at live. f s (at.shows (goes.live live));
        asked = λ e. absurd (cc);
        seen_is = λ live lawful. (lawful_same out led old new stores lawful, is);
        stores = goes;
      }

  -- an owner's ledger was asked
  pub asks_ledger : (old new : World O L) (tells : System → Result V R → Type 0) (may : Bool) (r : Result V (Refused R)) (a : ℕ) (x y : Owner L) (did : Type 0) (commits : LedgerValue → Type 0) → new.scheme ≡ old.scheme → new.outbox ≡ old.outbox → slice_get old.owners.items a ≡ Some x → new.owners.items ≡ set old.owners.items a y
      → Calls (led x.ledger) (led y.ledger) (fault_in r) did commits → (did → shape (seen out led new) ≡ shape (seen out led old)) → ((s : System) → did → Shows old.scheme (shape (seen out led old)) s → Answered (tells s) r) → may ≡ true → Asks out led old new tells may r
  asks_ledger old new tells may r a x y did commits same outbox at owners c is f reached =
      let goes = ledger_follows out led old new a x y (fault_in r) did commits outbox at owners c in
      record {
        scheme = same;
        answer = λ s w live. let before = goes.live live in f s (ledger_lawful out led old new a x y (fault_in r) did commits outbox at owners c live (w.lawful before)).1 (w.shows before);
        asked = λ e. reached;
        seen_is = λ live lawful. let all = ledger_lawful out led old new a x y (fault_in r) did commits outbox at owners c live lawful in (all.0, is all.1);
        stores = goes;
      }

module _ {O L V R : Type 0} (out : O → Standing OutboxValue) (led : L → Standing LedgerValue) where
  -- an event that asks, and is answered or refused by name
  pub asks_stepped : (old new : World O L) (tells : System → Result V R → Type 0) (may : Bool) (r : Result V (Refused R)) (e : Event) (reply : Reply) → fault_in r ≡ None → Asks out led old new tells may r → ((s : System) → Answered (tells s) r → step old.scheme s e ≡ (s, reply)) → ((s : System) → (step old.scheme s e).0 ≡ s) → IsStepped out led old new e reply
  asks_stepped old new tells may r e reply none h tell stays = record {
    scheme = h.scheme;
    reply = λ s w live. sym (ap (λ (y : System × Reply). y.1) (tell s (h.answer s w live)));
    stands = λ s w. record {
      lawful = λ live. (h.seen_is live (w.lawful (h.stores.live live))).0;
      shows = λ live. let before = h.stores.live live in subst (λ (q : SchemeValue × Shape × System). Shows q.0 q.1 q.2) (λ i. (sym h.scheme i, sym (h.seen_is live (w.lawful before)).1 i, sym (stays s) i)) (w.shows before);
    };
    stores = subst (Follows out led old new) none h.stores;
  }

  -- one that fails
  pub asks_failed : (old new : World O L) (tells : System → Result V R → Type 0) (may : Bool) (e : Event) (f : Fault) → Asks out led old new tells may (Err (refused.Failed f)) → ((s : System) → may_fail old.scheme s e ≡ may) → IsUnchanged out led old new e f
  asks_failed old new tells may e f h fails = record {
    scheme = h.scheme;
    fails = λ s w live. fails s ∙ h.asked refl;
    seen_is = h.seen_is;
    stores = h.stores;
  }

module _ {O L V W R : Type 0} (out : O → Standing OutboxValue) (led : L → Standing LedgerValue) where
  -- the same question, of which something else is told
  pub asks_say : (old new : World O L) (tells : System → Result V R → Type 0) (says : System → Result W R → Type 0) (may : Bool) (r : Result V (Refused R)) (q : Result W (Refused R)) → Asks out led old new tells may r → fault_in q ≡ fault_in r → is_named q ≡ is_named r → ((s : System) → Answered (tells s) r → Answered (says s) q) → Asks out led old new says may q
  asks_say old new tells says may r q h faults named say = record {
    scheme = h.scheme;
    answer = λ s w live. say s (h.answer s w live);
    asked = λ e. h.asked (sym named ∙ e);
    seen_is = h.seen_is;
    stores = subst (Follows out led old new) (sym faults) h.stores;
  }

  -- it was answered, and then there was no memory
  pub asks_memory : (old new : World O L) (tells : System → Result V R → Type 0) (says : System → Result W R → Type 0) (may : Bool) (v : V) → Asks out led old new tells may (Ok v) → Asks out led old new says may (Err (refused.Failed fault.Memory))
  asks_memory old new tells says may v h = record {
    scheme = h.scheme;
    answer = λ s w live. tt;
    asked = λ e. h.asked refl;
    seen_is = h.seen_is;
    stores = then_memory out led old new h.stores;
  }

  -- a refusal or a fault of a question, handed on as the answer of another one
  pub asks_hand_on : (old new : World O L) (tells : System → Result V R → Type 0) (says : System → Result W R → Type 0) (may : Bool) (e : Refused R) (q : Result W (Refused R)) → Asks out led old new tells may (Err e) → IsErrAnd q (λ x. x ≡ e) → ((s : System) (why : R) → tells s (Err why) → says s (Err why)) → Asks out led old new says may q
  asks_hand_on old new tells says may e (Ok x) h is say = absurd is
  asks_hand_on old new tells says may e (Err x) h is say = subst (λ (y : Refused R). Asks out led old new says may (Err y)) (sym is) (asks_say old new tells says may (Err e) (Err e) h refl refl (λ s. refused_as s e))
    where
      refused_as : (s : System) (e : Refused R) → Answered (tells s) (Err e) → Answered (says s) (Err e)
      refused_as s (refused.Because why) = say s why
      refused_as s (refused.Failed f) = λ a. tt
