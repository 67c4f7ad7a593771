-- The stores of a world after an event, and the world after it.
use Rattle.std.proofs.Common.{◌≡◌, ◌≢◌, ℕ, ◌<◌, List, length, set, Some, None, Bool, true, false, refl, sym, ap, ◌∙◌, subst, arith, inl, inr}
use Rattle.std.specs.Prelude.{◌==◌, ◌⊎◌, slice_get, Option, Result, Ok, Err, IsErrAnd}
use Rattle.std.proofs.lemmas.Bool.Decides.{Decides-eqb, nat_tests}
use Rattle.std.proofs.lemmas.Option.{same_Some, slice_get_within}
use Rattle.fare_store.specs.declared.fault.Fault.{Fault}
use Rattle.fare_store.specs.declared.fault.Fault.TheVariants as fault
use Rattle.fare_store.specs.Standing.{Standing, Calls, Counted}
use Rattle.fare_store.specs.OutboxWords.{OutboxValue}
use Rattle.fare_store.specs.LedgerWords.{LedgerValue}
use Rattle.fare_event.specs.declared.event.Event.{Event}
use Rattle.fare_event.specs.declared.reply.Reply.{Reply}
use Rattle.fare_side.specs.declared.owner.Owner.{Owner}
use Rattle.fare_world.specs.declared.world.World.{World}
use Rattle.fare_world.specs.System.{System}
use Rattle.fare_world.specs.Steps.{step, may_fail}
use Rattle.fare_world.specs.Restarts.{Rose}
use Rattle.fare_world.specs.Shown.{Shows}
use Rattle.fare_world.specs.Whole.{seen, shape, AreLive, AreLawful, CountsFailure, Follows, IsStepped, IsUnchanged, Applied, Does}
use Rattle.fare_world.proofs.TableLemmas.{slice_get-set_same, slice_get-set_other}
use Rattle.fare_world.proofs.Showing.{Answers}

-- ONE STORE
-- a store after a call that answered this, or that was not of this store
pub record Goes {V : Type 0} (old new : Standing V) (faulted : Option Fault) : Type 0 where
  pub live : new.live → old.live
  pub clean : new.clean → old.clean
  pub stays : faulted ≡ None → old.live → new.clean → new.live
  pub counts : (faulted ≡ Some fault.Store → ⊥) → new.failures ≡ old.failures

-- a count that rises at Store alone
pub same_count : (old new : ℕ) (faulted : Option Fault) → Counted old new faulted → (faulted ≡ Some fault.Store → ⊥) → new ≡ old
same_count old new None c not = c
same_count old new (Some fault.Memory) c not = c
same_count old new (Some fault.Store) c not = absurd (not refl)

pub rests : {V : Type 0} (s : Standing V) (faulted : Option Fault) → Goes s s faulted
rests s faulted = record { live = λ h. h; clean = λ h. h; stays = λ e h c. h; counts = λ not. refl }

pub called : {V : Type 0} (old new : Standing V) (faulted : Option Fault) (did : Type 0) (commits : V → Type 0) → Calls old new faulted did commits → Goes old new faulted
called old new faulted did commits c = record { live = c.live; clean = c.clean; stays = λ e live. c.stays e; counts = same_count old.failures new.failures faulted c.cause }

pub rose : {V : Type 0} (old new : Standing V) (faulted : Option Fault) (did : Type 0) (commits : V → Type 0) → Calls old new faulted did commits → faulted ≡ Some fault.Store → Rose old.failures new.failures
rose old new faulted did commits c is = subst (Counted old.failures new.failures) is c.cause

-- OWNERS ONE BY ONE
-- each owner in the one list stands in the other, with a ledger that stands to its ledger like this
pub record Beside {L : Type 0} (P : L → L → Type 0) (old new : List (Owner L)) : Type 0 where
  pub forth : (k : ℕ) (x : Owner L) → slice_get old k ≡ Some x → (y : Owner L) × (slice_get new k ≡ Some y) × P x.ledger y.ledger
  pub back : (k : ℕ) (y : Owner L) → slice_get new k ≡ Some y → (x : Owner L) × (slice_get old k ≡ Some x) × P x.ledger y.ledger

pub beside_itself : {L : Type 0} (P : L → L → Type 0) (xs : List (Owner L)) → ((x : L) → P x x) → Beside P xs xs
beside_itself P xs one = record { forth = λ k x e. (x, e, one x.ledger); back = λ k x e. (x, e, one x.ledger) }

at_or_not : (k a : ℕ) → (k ≡ a) ⊎ (k ≢ a)
at_or_not k a = by (k == a) refl
  where
    by : (b : Bool) → (k == a) ≡ b → (k ≡ a) ⊎ (k ≢ a)
    by true e = inl ((Decides-eqb k a).0 e)
    by false e = inr (λ same. absurd (grind (arith, nat_tests)))

pub beside_one : {L : Type 0} (P : L → L → Type 0) (xs : List (Owner L)) (a : ℕ) (old new : Owner L) → ((x : L) → P x x) → slice_get xs a ≡ Some old → P old.ledger new.ledger → Beside P xs (set xs a new)
beside_one {L} P xs a old new one at here = record { forth = forth; back = back }
  where
    within : a < length xs
    within = slice_get_within xs a old at

    forth : (k : ℕ) (x : Owner L) → slice_get xs k ≡ Some x → (y : Owner L) × (slice_get (set xs a new) k ≡ Some y) × P x.ledger y.ledger
    forth k x e = elim (at_or_not k a) [
      | inl is ↦ (new, ap (slice_get (set xs a new)) is ∙ slice_get-set_same xs a new within, subst (λ (z : Owner L). P z.ledger new.ledger) (same_Some old x (sym at ∙ ap (slice_get xs) (sym is) ∙ e)) here)
      | inr apart ↦ (x, slice_get-set_other xs a k new apart ∙ e, one x.ledger)
    ]

    back : (k : ℕ) (y : Owner L) → slice_get (set xs a new) k ≡ Some y → (x : Owner L) × (slice_get xs k ≡ Some x) × P x.ledger y.ledger
    back k y e = elim (at_or_not k a) [
      | inl is ↦ (old, ap (slice_get xs) is ∙ at, subst (λ (z : Owner L). P old.ledger z.ledger) (same_Some new y (sym (slice_get-set_same xs a new within) ∙ ap (slice_get (set xs a new)) (sym is) ∙ e)) here)
      | inr apart ↦ (y, sym (slice_get-set_other xs a k new apart) ∙ e, one y.ledger)
    ]

-- A WORLD
-- the stores are what they were
pub record SameStores {O L : Type 0} (old new : World O L) : Type 0 where
  pub outbox : new.outbox ≡ old.outbox
  pub owners : Beside (λ x y. y ≡ x) old.owners.items new.owners.items

pub same_stores : {O L : Type 0} (old new : World O L) → new.outbox ≡ old.outbox → new.owners.items ≡ old.owners.items → SameStores old new
same_stores {O} {L} old new outbox owners = record { outbox = outbox; owners = subst (Beside (λ x y. y ≡ x) old.owners.items) (sym owners) (beside_itself (λ x y. y ≡ x) old.owners.items (λ x. refl)) }

module _ {O L : Type 0} (out : O → Standing OutboxValue) (led : L → Standing LedgerValue) where
  pub follows : (old new : World O L) (faulted : Option Fault) → Goes (out old.outbox) (out new.outbox) faulted → Beside (λ x y. Goes (led x) (led y) faulted) old.owners.items new.owners.items
      → (faulted ≡ Some fault.Store → CountsFailure out led old new) → Follows out led old new faulted
  follows old new faulted outbox owners cause = record {
    live = λ h. record { outbox_is = outbox.live h.outbox_is; ledgers_are = λ k x e. let z = owners.forth k x e in z.2.live (h.ledgers_are k z.0 z.1) };
    clean = λ h. record { outbox_is = outbox.clean h.outbox_is; ledgers_are = λ k x e. let z = owners.forth k x e in z.2.clean (h.ledgers_are k z.0 z.1) };
    stays = λ none h c. record { outbox_is = outbox.stays none h.outbox_is c.outbox_is; ledgers_are = λ k y e. let z = owners.back k y e in z.2.stays none (h.ledgers_are k z.0 z.1) (c.ledgers_are k y e) };
    counts = λ not. record {
      outbox_same = outbox.counts not;
      ledgers_same = record {
        forth = λ k x e. let z = owners.forth k x e in (z.0, z.1, z.2.counts not);
        back = λ k y e. let z = owners.back k y e in (z.0, z.1, z.2.counts not);
      };
    };
    cause = cause;
  }

  pub follows_same : (old new : World O L) (faulted : Option Fault) → SameStores old new → (faulted ≡ Some fault.Store → ⊥) → Follows out led old new faulted
  follows_same old new faulted same not = follows old new faulted
      (subst (λ o. Goes (out old.outbox) (out o) faulted) (sym same.outbox) (rests (out old.outbox) faulted))
      (record {
        forth = λ k x e. let z = same.owners.forth k x e in (z.0, z.1, subst (λ l. Goes (led x.ledger) (led l) faulted) (sym z.2) (rests (led x.ledger) faulted));
        back = λ k y e. let z = same.owners.back k y e in (z.0, z.1, subst (λ l. Goes (led z.0.ledger) (led l) faulted) (sym z.2) (rests (led z.0.ledger) faulted));
      })
      (λ is. absurd (not is))

  pub lawful_same : (old new : World O L) → SameStores old new → AreLawful out led old → AreLawful out led new
  lawful_same old new same h = record {
    outbox_is = subst (λ o. (out o).lawful) (sym same.outbox) h.outbox_is;
    ledgers_are = λ k y e. let z = same.owners.back k y e in subst (λ l. (led l).lawful) (sym z.2) (h.ledgers_are k z.0 z.1);
  }

  -- an event whose stores follow
  pub stepped : (old new : World O L) (e : Event) (r : Reply) → new.scheme ≡ old.scheme → Follows out led old new None → (AreLive out led new → AreLawful out led old → AreLawful out led new)
      → ((s : System) → AreLive out led new → AreLawful out led old → Shows old.scheme (shape (seen out led old)) s → Answers old.scheme (shape (seen out led new)) (step old.scheme s e) r) → IsStepped out led old new e r
  stepped old new e r same stores lawful f = record {
    scheme = same;
    reply = λ s w live. let before = stores.live live in (f s live (w.lawful before) (w.shows before)).reply;
    stands = λ s w. record {
      lawful = λ live. lawful live (w.lawful (stores.live live));
      shows = λ live. let before = stores.live live in subst (λ sc. Shows sc (shape (seen out led new)) (step old.scheme s e).0) (sym same) (f s live (w.lawful before) (w.shows before)).shows;
    };
    stores = stores;
  }

  -- one that touches no store
  pub steps : (old new : World O L) (e : Event) (r : Reply) → new.scheme ≡ old.scheme → SameStores old new
      → ((s : System) → Shows old.scheme (shape (seen out led old)) s → Answers old.scheme (shape (seen out led new)) (step old.scheme s e) r) → IsStepped out led old new e r
  steps old new e r same stores f = stepped old new e r same (follows_same old new None stores (λ is. absurd (cc))) (λ live. lawful_same old new stores) (λ s live lawful. f s)

  -- and of a part of an event
  pub does : (old new : World O L) (condition : System → Type 0) (change : System → System × Reply) (r : Reply) → new.scheme ≡ old.scheme → SameStores old new
      → ((s : System) → Shows old.scheme (shape (seen out led old)) s → condition s → Answers old.scheme (shape (seen out led new)) (change s) r) → Does out led old new condition change r
  does old new condition change r same stores f =
      let goes = follows_same old new None stores (λ is. absurd (cc)) in
      record {
        scheme = same;
        reply = λ s w live met. (f s (w.shows (goes.live live)) met).reply;
        stands = λ s w met. record {
          lawful = λ live. lawful_same old new stores (w.lawful (goes.live live));
          shows = λ live. subst (λ sc. Shows sc (shape (seen out led new)) (change s).0) (sym same) (f s (w.shows (goes.live live)) (met (goes.live live))).shows;
        };
        stores = goes;
      }

  -- a part that did all of it
  pub does_all : (old new : World O L) (condition : System → Type 0) (change : System → System × Reply) (e : Event) (r : Reply) → ((s : System) → Shows old.scheme (shape (seen out led old)) s → condition s × (step old.scheme s e ≡ change s)) → Does out led old new condition change r → IsStepped out led old new e r
  does_all old new condition change e r all did = record {
    scheme = did.scheme;
    reply = λ s w live. let is = all s (w.shows (did.stores.live live)) in did.reply s w live is.0 ∙ ap (λ (y : System × Reply). y.1) (sym is.1);
    stands = λ s w. record {
      lawful = λ live. (did.stands s w (λ before. (all s (w.shows before)).0)).lawful live;
      shows = λ live. let is = all s (w.shows (did.stores.live live)) in subst (λ (y : System × Reply). Shows new.scheme (shape (seen out led new)) y.0) (sym is.1) ((did.stands s w (λ before. (all s (w.shows before)).0)).shows live);
    };
    stores = did.stores;
  }

  -- want of memory that leaves what is seen, and the stores
  pub unchanged : (old new : World O L) (e : Event) → new.scheme ≡ old.scheme → SameStores old new → shape (seen out led new) ≡ shape (seen out led old) → ((s : System) → Shows old.scheme (shape (seen out led old)) s → may_fail old.scheme s e ≡ true) → IsUnchanged out led old new e fault.Memory
  unchanged old new e same stores is fails =
      let goes = follows_same old new (Some fault.Memory) stores (λ q. absurd (cc)) in
      record { scheme = same; fails = λ s w live. fails s (w.shows (goes.live live)); seen_is = λ live lawful. (lawful_same old new stores lawful, is); stores = goes }

  -- the same where the stores follow: a read before it may have met no fault
  pub then_memory : (old new : World O L) → Follows out led old new None → Follows out led old new (Some fault.Memory)
  then_memory old new h = record { live = h.live; clean = h.clean; stays = λ e. absurd (cc); counts = λ not. h.counts (λ e. absurd (cc)); cause = λ e. absurd (cc) }

  pub applied_err : (old new : World O L) (e : Event) (r : Result Reply Fault) (f : Fault) → IsErrAnd r (λ q. q ≡ f) → IsUnchanged out led old new e f → Applied out led old new e r
  applied_err old new e (Ok reply) f is u = absurd is
  applied_err old new e (Err q) f is u = subst (IsUnchanged out led old new e) (sym is) u

  -- A CALL OF THE OUTBOX
  pub outbox_follows : (old new : World O L) (faulted : Option Fault) (did : Type 0) (commits : OutboxValue → Type 0) → new.owners.items ≡ old.owners.items → Calls (out old.outbox) (out new.outbox) faulted did commits → Follows out led old new faulted
  outbox_follows old new faulted did commits owners c =
      follows old new faulted (called (out old.outbox) (out new.outbox) faulted did commits c)
      (subst (Beside (λ x y. Goes (led x) (led y) faulted) old.owners.items) (sym owners) (beside_itself (λ x y. Goes (led x) (led y) faulted) old.owners.items (λ x. rests (led x) faulted)))
      (λ is. inl (rose (out old.outbox) (out new.outbox) faulted did commits c is))

  pub outbox_lawful : (old new : World O L) (faulted : Option Fault) (did : Type 0) (commits : OutboxValue → Type 0) → new.owners.items ≡ old.owners.items → Calls (out old.outbox) (out new.outbox) faulted did commits → AreLive out led new → AreLawful out led old → AreLawful out led new × did
  outbox_lawful old new faulted did commits owners c live lawful =
      let is = c.value live.outbox_is lawful.outbox_is in
      (record { outbox_is = is.0; ledgers_are = λ k x e. lawful.ledgers_are k x (ap (λ l. slice_get l k) (sym owners) ∙ e) }, is.1)

  pub outbox_stepped : (old new : World O L) (e : Event) (r : Reply) (did : Type 0) (commits : OutboxValue → Type 0) → new.scheme ≡ old.scheme → new.owners.items ≡ old.owners.items → Calls (out old.outbox) (out new.outbox) None did commits
      → ((s : System) → did → Shows old.scheme (shape (seen out led old)) s → Answers old.scheme (shape (seen out led new)) (step old.scheme s e) r) → IsStepped out led old new e r
  outbox_stepped old new e r did commits same owners c f =
      stepped old new e r same (outbox_follows old new None did commits owners c) (λ live lawful. (outbox_lawful old new None did commits owners c live lawful).0)
      (λ s live lawful. f s (outbox_lawful old new None did commits owners c live lawful).1)

  pub outbox_failed : (old new : World O L) (e : Event) (f : Fault) (did : Type 0) (commits : OutboxValue → Type 0) → new.scheme ≡ old.scheme → new.owners.items ≡ old.owners.items → Calls (out old.outbox) (out new.outbox) (Some f) did commits → (did → shape (seen out led new) ≡ shape (seen out led old))
      → ((s : System) → Shows old.scheme (shape (seen out led old)) s → may_fail old.scheme s e ≡ true) → IsUnchanged out led old new e f
  outbox_failed old new e f did commits same owners c is fails =
      let goes = outbox_follows old new (Some f) did commits owners c in
      record {
        scheme = same;
        fails = λ s w live. fails s (w.shows (goes.live live));
        seen_is = λ live lawful. let all = outbox_lawful old new (Some f) did commits owners c live lawful in (all.0, is all.1);
        stores = goes;
      }

  -- A CALL OF A LEDGER
  pub ledger_follows : (old new : World O L) (a : ℕ) (x y : Owner L) (faulted : Option Fault) (did : Type 0) (commits : LedgerValue → Type 0) → new.outbox ≡ old.outbox → slice_get old.owners.items a ≡ Some x → new.owners.items ≡ set old.owners.items a y → Calls (led x.ledger) (led y.ledger) faulted did commits → Follows out led old new faulted
  ledger_follows old new a x y faulted did commits outbox at owners c =
      follows old new faulted (subst (λ o. Goes (out old.outbox) (out o) faulted) (sym outbox) (rests (out old.outbox) faulted))
      (subst (Beside (λ p q. Goes (led p) (led q) faulted) old.owners.items) (sym owners) (beside_one (λ p q. Goes (led p) (led q) faulted) old.owners.items a x y (λ p. rests (led p) faulted) at (called (led x.ledger) (led y.ledger) faulted did commits c)))
      (λ is. inr (record {
        place = a;
        before = x;
        now = y;
        was = at;
        is = ap (λ l. slice_get l a) owners ∙ slice_get-set_same old.owners.items a y (slice_get_within old.owners.items a x at);
        rose = rose (led x.ledger) (led y.ledger) faulted did commits c is;
      }))

  pub ledger_lawful : (old new : World O L) (a : ℕ) (x y : Owner L) (faulted : Option Fault) (did : Type 0) (commits : LedgerValue → Type 0) → new.outbox ≡ old.outbox → slice_get old.owners.items a ≡ Some x → new.owners.items ≡ set old.owners.items a y → Calls (led x.ledger) (led y.ledger) faulted did commits → AreLive out led new → AreLawful out led old → AreLawful out led new × did
  ledger_lawful old new a x y faulted did commits outbox at owners c live lawful =
      let now : slice_get new.owners.items a ≡ Some y = ap (λ l. slice_get l a) owners ∙ slice_get-set_same old.owners.items a y (slice_get_within old.owners.items a x at) in
      let is = c.value (live.ledgers_are a y now) (lawful.ledgers_are a x at) in (
        record {
          outbox_is = subst (λ o. (out o).lawful) (sym outbox) lawful.outbox_is;
          ledgers_are = λ k z e. elim (at_or_not k a) [
            | inl here ↦ subst (λ (v : Owner L). (led v.ledger).lawful) (same_Some y z (sym now ∙ ap (slice_get new.owners.items) (sym here) ∙ e)) is.0
            | inr apart ↦ lawful.ledgers_are k z (sym (slice_get-set_other old.owners.items a k y apart) ∙ ap (λ l. slice_get l k) (sym owners) ∙ e)
          ];
        },
        is.1,
      )

  pub ledger_stepped : (old new : World O L) (e : Event) (r : Reply) (a : ℕ) (x y : Owner L) (did : Type 0) (commits : LedgerValue → Type 0) → new.scheme ≡ old.scheme → new.outbox ≡ old.outbox → slice_get old.owners.items a ≡ Some x → new.owners.items ≡ set old.owners.items a y → Calls (led x.ledger) (led y.ledger) None did commits
      → ((s : System) → did → Shows old.scheme (shape (seen out led old)) s → Answers old.scheme (shape (seen out led new)) (step old.scheme s e) r) → IsStepped out led old new e r
  ledger_stepped old new e r a x y did commits same outbox at owners c f =
      stepped old new e r same (ledger_follows old new a x y None did commits outbox at owners c) (λ live lawful. (ledger_lawful old new a x y None did commits outbox at owners c live lawful).0)
      (λ s live lawful. f s (ledger_lawful old new a x y None did commits outbox at owners c live lawful).1)

  pub ledger_failed : (old new : World O L) (e : Event) (f : Fault) (a : ℕ) (x y : Owner L) (did : Type 0) (commits : LedgerValue → Type 0) → new.scheme ≡ old.scheme → new.outbox ≡ old.outbox → slice_get old.owners.items a ≡ Some x → new.owners.items ≡ set old.owners.items a y → Calls (led x.ledger) (led y.ledger) (Some f) did commits
      → (did → shape (seen out led new) ≡ shape (seen out led old)) → ((s : System) → Shows old.scheme (shape (seen out led old)) s → may_fail old.scheme s e ≡ true) → IsUnchanged out led old new e f
  ledger_failed old new e f a x y did commits same outbox at owners c is fails =
      let goes = ledger_follows old new a x y (Some f) did commits outbox at owners c in
      record {
        scheme = same;
        fails = λ s w live. fails s (w.shows (goes.live live));
        seen_is = λ live lawful. let all = ledger_lawful old new a x y (Some f) did commits outbox at owners c live lawful in (all.0, is all.1);
        stores = goes;
      }

  -- A CALL OF THE OUTBOX, BESIDE AN OWNER'S CHANGE THAT LEAVES ITS LEDGER
  pub forward_follows : (old new : World O L) (a : ℕ) (x y : Owner L) {faulted : Option Fault} (did : Type 0) (commits : OutboxValue → Type 0) → y.ledger ≡ x.ledger → slice_get old.owners.items a ≡ Some x → new.owners.items ≡ set old.owners.items a y → Calls (out old.outbox) (out new.outbox) faulted did commits → Follows out led old new faulted
  forward_follows old new a x y {faulted} did commits same at owners c =
      follows old new faulted (called (out old.outbox) (out new.outbox) faulted did commits c)
      (subst (Beside (λ p q. Goes (led p) (led q) faulted) old.owners.items) (sym owners) (beside_one (λ p q. Goes (led p) (led q) faulted) old.owners.items a x y (λ p. rests (led p) faulted) at (subst (λ p. Goes (led x.ledger) (led p) faulted) (sym same) (rests (led x.ledger) faulted))))
      (λ is. inl (rose (out old.outbox) (out new.outbox) faulted did commits c is))

  pub forward_lawful : (old new : World O L) (a : ℕ) (x y : Owner L) {faulted : Option Fault} (did : Type 0) (commits : OutboxValue → Type 0) {P : Type 0} → y.ledger ≡ x.ledger → slice_get old.owners.items a ≡ Some x → new.owners.items ≡ set old.owners.items a y → Calls (out old.outbox) (out new.outbox) faulted did commits → AreLive out led new → AreLawful out led old → (did → P) → AreLawful out led new × P
  forward_lawful old new a x y did commits same at owners c live lawful f =
      let is = c.value live.outbox_is lawful.outbox_is in
      let now : slice_get new.owners.items a ≡ Some y = ap (λ l. slice_get l a) owners ∙ slice_get-set_same old.owners.items a y (slice_get_within old.owners.items a x at) in (
        record {
          outbox_is = is.0;
          ledgers_are = λ k z e. elim (at_or_not k a) [
            | inl here ↦ subst (λ (v : Owner L). (led v.ledger).lawful) (same_Some y z (sym now ∙ ap (slice_get new.owners.items) (sym here) ∙ e)) (subst (λ l. (led l).lawful) (sym same) (lawful.ledgers_are a x at))
            | inr apart ↦ lawful.ledgers_are k z (sym (slice_get-set_other old.owners.items a k y apart) ∙ ap (λ l. slice_get l k) (sym owners) ∙ e)
          ];
        },
        f is.1,
      )

  pub forward_stepped : (old new : World O L) (e : Event) (r : Reply) (a : ℕ) (x y : Owner L) (did : Type 0) (commits : OutboxValue → Type 0) → y.ledger ≡ x.ledger → slice_get old.owners.items a ≡ Some x → new.scheme ≡ old.scheme → new.owners.items ≡ set old.owners.items a y → Calls (out old.outbox) (out new.outbox) None did commits
      → ((s : System) → did → Shows old.scheme (shape (seen out led old)) s → Answers old.scheme (shape (seen out led new)) (step old.scheme s e) r) → IsStepped out led old new e r
  forward_stepped old new e r a x y did commits same at scheme owners c f =
      stepped old new e r scheme (forward_follows old new a x y did commits same at owners c) (λ live lawful. (forward_lawful old new a x y did commits same at owners c live lawful (λ is. is)).0)
      (λ s live lawful. f s (forward_lawful old new a x y did commits same at owners c live lawful (λ is. is)).1)

  pub forward_failed : (old new : World O L) (e : Event) (f : Fault) (a : ℕ) (x y : Owner L) (did : Type 0) (commits : OutboxValue → Type 0) → y.ledger ≡ x.ledger → slice_get old.owners.items a ≡ Some x → new.scheme ≡ old.scheme → new.owners.items ≡ set old.owners.items a y → Calls (out old.outbox) (out new.outbox) (Some f) did commits
      → (did → shape (seen out led new) ≡ shape (seen out led old)) → ((s : System) → Shows old.scheme (shape (seen out led old)) s → may_fail old.scheme s e ≡ true) → IsUnchanged out led old new e f
  forward_failed old new e f a x y did commits same at scheme owners c is fails =
      let goes = forward_follows old new a x y did commits same at owners c in
      record {
        scheme = scheme;
        fails = λ s w live. fails s (w.shows (goes.live live));
        seen_is = λ live lawful. forward_lawful old new a x y did commits same at owners c live lawful is;
        stores = goes;
      }

  -- an owner's change that leaves its ledger, and no store is called
  pub same_ledgers : (old new : World O L) (a : ℕ) (x y : Owner L) → new.outbox ≡ old.outbox → y.ledger ≡ x.ledger → slice_get old.owners.items a ≡ Some x → new.owners.items ≡ set old.owners.items a y → SameStores old new
  same_ledgers old new a x y outbox same at owners = record { outbox = outbox; owners = subst (Beside (λ p q. q ≡ p) old.owners.items) (sym owners) (beside_one (λ p q. q ≡ p) old.owners.items a x y (λ p. refl) at same) }

  -- a call of a ledger that is asked only for what is its own, refused by name
  pub ledger_refused : (old new : World O L) (e : Event) (r : Reply) (a : ℕ) (x y : Owner L) (mine : Bool) (did : Type 0) (commits : LedgerValue → Type 0) → new.scheme ≡ old.scheme → new.outbox ≡ old.outbox → slice_get old.owners.items a ≡ Some x → new.owners.items ≡ set old.owners.items a y
      → (mine ≡ true → Calls (led x.ledger) (led y.ledger) None did commits) → (mine ≡ false → (y.ledger ≡ x.ledger) × did)
      → ((s : System) → did → Shows old.scheme (shape (seen out led old)) s → Answers old.scheme (shape (seen out led new)) (step old.scheme s e) r) → IsStepped out led old new e r
  ledger_refused old new e r a x y true did commits same outbox at owners asked unasked f = ledger_stepped old new e r a x y did commits same outbox at owners (asked refl) f
  ledger_refused old new e r a x y false did commits same outbox at owners asked unasked f = let is = unasked refl in steps old new e r same (same_ledgers old new a x y outbox is.0 at owners) (λ s. f s is.1)

  -- A READ OF A LEDGER, THEN A CALL OF THE OUTBOX
  pub both_follows : (old new : World O L) (a : ℕ) (x y : Owner L) {faulted : Option Fault} (read : Type 0) (reads : LedgerValue → Type 0) (did : Type 0) (commits : OutboxValue → Type 0) → slice_get old.owners.items a ≡ Some x → new.owners.items ≡ set old.owners.items a y
      → Calls (led x.ledger) (led y.ledger) None read reads → Calls (out old.outbox) (out new.outbox) faulted did commits → Follows out led old new faulted
  both_follows old new a x y {faulted} read reads did commits at owners first c =
      follows old new faulted (called (out old.outbox) (out new.outbox) faulted did commits c)
      (subst (Beside (λ p q. Goes (led p) (led q) faulted) old.owners.items) (sym owners) (beside_one (λ p q. Goes (led p) (led q) faulted) old.owners.items a x y (λ p. rests (led p) faulted) at
      (record { live = first.live; clean = first.clean; stays = λ e h clean. first.stays refl clean; counts = λ not. first.cause })))
      (λ is. inl (rose (out old.outbox) (out new.outbox) faulted did commits c is))

  pub both_lawful : (old new : World O L) (a : ℕ) (x y : Owner L) {faulted : Option Fault} (read : Type 0) (reads : LedgerValue → Type 0) (did : Type 0) (commits : OutboxValue → Type 0) → slice_get old.owners.items a ≡ Some x → new.owners.items ≡ set old.owners.items a y
      → Calls (led x.ledger) (led y.ledger) None read reads → Calls (out old.outbox) (out new.outbox) faulted did commits → AreLive out led new → AreLawful out led old → AreLawful out led new × read × did
  both_lawful old new a x y read reads did commits at owners first c live lawful =
      let now : slice_get new.owners.items a ≡ Some y = ap (λ l. slice_get l a) owners ∙ slice_get-set_same old.owners.items a y (slice_get_within old.owners.items a x at) in
      let one = first.value (live.ledgers_are a y now) (lawful.ledgers_are a x at) in
      let is = c.value live.outbox_is lawful.outbox_is in (
        record {
          outbox_is = is.0;
          ledgers_are = λ k z e. elim (at_or_not k a) [
            | inl here ↦ subst (λ (v : Owner L). (led v.ledger).lawful) (same_Some y z (sym now ∙ ap (slice_get new.owners.items) (sym here) ∙ e)) one.0
            | inr apart ↦ lawful.ledgers_are k z (sym (slice_get-set_other old.owners.items a k y apart) ∙ ap (λ l. slice_get l k) (sym owners) ∙ e)
          ];
        },
        one.1,
        is.1,
      )

  pub both_stepped : (old new : World O L) (e : Event) (r : Reply) (a : ℕ) (x y : Owner L) (read : Type 0) (reads : LedgerValue → Type 0) (did : Type 0) (commits : OutboxValue → Type 0) → new.scheme ≡ old.scheme → slice_get old.owners.items a ≡ Some x → new.owners.items ≡ set old.owners.items a y
      → Calls (led x.ledger) (led y.ledger) None read reads → Calls (out old.outbox) (out new.outbox) None did commits
      → ((s : System) → read → did → Shows old.scheme (shape (seen out led old)) s → Answers old.scheme (shape (seen out led new)) (step old.scheme s e) r) → IsStepped out led old new e r
  both_stepped old new e r a x y read reads did commits scheme at owners first c f =
      stepped old new e r scheme (both_follows old new a x y read reads did commits at owners first c) (λ live lawful. (both_lawful old new a x y read reads did commits at owners first c live lawful).0)
      (λ s live lawful. let all = both_lawful old new a x y read reads did commits at owners first c live lawful in f s all.1 all.2)

  pub both_failed : (old new : World O L) (e : Event) (f : Fault) (a : ℕ) (x y : Owner L) (read : Type 0) (reads : LedgerValue → Type 0) (did : Type 0) (commits : OutboxValue → Type 0) → new.scheme ≡ old.scheme → slice_get old.owners.items a ≡ Some x → new.owners.items ≡ set old.owners.items a y
      → Calls (led x.ledger) (led y.ledger) None read reads → Calls (out old.outbox) (out new.outbox) (Some f) did commits → (read → did → shape (seen out led new) ≡ shape (seen out led old))
      → ((s : System) → Shows old.scheme (shape (seen out led old)) s → may_fail old.scheme s e ≡ true) → IsUnchanged out led old new e f
  both_failed old new e f a x y read reads did commits same at owners first c is fails =
      let goes = both_follows old new a x y read reads did commits at owners first c in
      record {
        scheme = same;
        fails = λ s w live. fails s (w.shows (goes.live live));
        seen_is = λ live lawful. let all = both_lawful old new a x y read reads did commits at owners first c live lawful in (all.0, is all.1 all.2);
        stores = goes;
      }
