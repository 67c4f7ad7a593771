-- Stores that are read, one call after the other.
use Rattle.std.proofs.Common.{◌≡◌, ◌≢◌, ℕ, Bool, Some, None, length, sym, ap, ◌∙◌, subst, refl, inl, inr}
use Rattle.std.specs.Prelude.{Option, Result, Ok, Err, IfOk, Vec, slice_get}
use Rattle.std.specs.Global.{Global}
use Rattle.fare_scheme.specs.Values.{SchemeValue}
use Rattle.fare_scheme.specs.Words.{position_of_owner}
use Rattle.fare_store.specs.declared.fault.Fault.{Fault}
use Rattle.fare_store.specs.Standing.{Standing, IsSound, Reads}
use Rattle.fare_store.specs.OutboxWords.{OutboxValue}
use Rattle.fare_store.specs.LedgerWords.{LedgerValue, IsOfScheme}
use Rattle.fare_history.specs.Holding.{MayHold}
use Rattle.fare_history.specs.Stores.{StoresValue}
use Rattle.fare_session.specs.Stores.{Follows}
use Rattle.fare_sessions.specs.declared.hub.Hub.{Hub}
use Rattle.fare_sessions.specs.Billing.{OnlyReads}
use Rattle.fare_sessions.specs.Stores.{HasLedgers, IsLedgerOf, AreClean, AreSound, MayStandAs}
use Rattle.fare_sessions.proofs.Billed.{holds_value}
use Rattle.fare_sessions.proofs.Follow.{follow_self, follow_join, clean_back, same_at}
use Rattle.fare_desk.specs.Showing.{OnlyAsks}

-- an owner that stands in a place of the scheme is known
pub placed_known : (found : Option ℕ) (place : ℕ) → found ≡ Some place → found ≢ None
placed_known found place is = λ none. absurd (cc)

module _ {O L : Type 0} (outbox : O → Standing OutboxValue) (ledger : L → Standing LedgerValue) where
  pub asks_self : (hub : Hub O L) → OnlyAsks outbox ledger hub hub
  asks_self hub = record { scheme = refl; follow = follow_self outbox ledger hub; sound = λ sound. sound; same = λ clean sound k may. may }

  pub asks_read : (old new : Hub O L) → OnlyReads outbox ledger old new → OnlyAsks outbox ledger old new
  asks_read old new r = record { scheme = r.scheme; follow = r.follow; sound = r.sound; same = r.same }

  pub asks_join : (a b c : Hub O L) → OnlyAsks outbox ledger a b → OnlyAsks outbox ledger b c → OnlyAsks outbox ledger a c
  asks_join a b c f g = record {
    scheme = g.scheme ∙ f.scheme;
    follow = follow_join outbox ledger a b c f.follow g.follow;
    sound = λ sound. g.sound (f.sound sound);
    same = λ clean sound k may. f.same (clean_back outbox ledger b c g.follow clean) sound k (g.same clean (f.sound sound) k may);
  }

  -- what a call wants of a hub it wants of what was asked
  pub asked_ledgers : (old now : Hub O L) → OnlyAsks outbox ledger old now → HasLedgers old → HasLedgers now
  asked_ledgers old now asks has = asks.follow.count ∙ (has ∙ ap (λ (sc : SchemeValue). length sc.owners) (sym asks.scheme))

  pub asked_known : (old now : Hub O L) (owner : ℕ) → OnlyAsks outbox ledger old now → position_of_owner old.scheme owner ≢ None → position_of_owner now.scheme owner ≢ None
  asked_known old now owner asks known = λ none. known (ap (λ (sc : SchemeValue). position_of_owner sc owner) (sym asks.scheme) ∙ none)

  -- ONE LEDGER
  -- whether a lane is retired, as a ledger tells it
  pub retired_told : (old : Hub O L) (owner device : ℕ) (result : Result Bool Fault)
      → IfOk result (λ retired. (h : StoresValue) → MayStandAs outbox ledger old h → ((h.ledgers owner).start ≡ old.scheme.start) × (retired ≡ (h.ledgers owner).retired device))
      → IfOk result (λ retired. (h : StoresValue) → MayStandAs outbox ledger old h → (h.ledgers owner).retired device ≡ retired)
  retired_told old owner device (Err f) told = tt
  retired_told old owner device (Ok retired) told = λ h may. sym (told h may).1

  -- what a ledger tells of itself
  pub value_told : {A : Type 0} (old : Hub O L) (owner : ℕ) (P : LedgerValue → A → Type 0) (result : Result A Fault)
      → IfOk result (λ a. (h : StoresValue) → MayStandAs outbox ledger old h → ((h.ledgers owner).start ≡ old.scheme.start) × P (h.ledgers owner) a)
      → IfOk result (λ a. (h : StoresValue) → MayStandAs outbox ledger old h → P (h.ledgers owner) a)
  value_told old owner P (Err f) told = tt
  value_told old owner P (Ok a) told = λ h may. (told h may).1

  -- THE OUTBOX
  module _ {A : Type 0} (old new : Hub O L) (scheme : new.scheme ≡ old.scheme) (ledgers : new.ledgers ≡ old.ledgers) (sound_outbox : IsSound (outbox old.outbox)) (P : OutboxValue → A → Type 0) (result : Result A Fault) (call : Reads (outbox old.outbox) (outbox new.outbox) (P (outbox old.outbox).value) result) where
    was_of : (owner : ℕ) (x : L) → IsLedgerOf new owner x → IsLedgerOf old owner x
    was_of owner x of = (of.0, ap (λ (sc : SchemeValue). position_of_owner sc owner) (sym scheme) ∙ of.1, ap (λ (v : Vec L Global). slice_get v.items of.0) (sym ledgers) ∙ of.2)

    is_of : (owner : ℕ) (x : L) → IsLedgerOf old owner x → IsLedgerOf new owner x
    is_of owner x of = (of.0, ap (λ (sc : SchemeValue). position_of_owner sc owner) scheme ∙ of.1, ap (λ (v : Vec L Global). slice_get v.items of.0) ledgers ∙ of.2)

    held : AreClean outbox ledger new → AreSound outbox ledger old → (v : OutboxValue) → MayHold (outbox new.outbox) v → MayHold (outbox old.outbox) v
    held clean sound v (inl now) = let before = call.live now.0 in inl (before, now.1 ∙ (call.value now.0 (sound.lawful.outbox_is before)).1.0)
    held clean sound v (inr leaves) = elim (call.stop clean.outbox_is sound.lawful.outbox_is v leaves) [
      | inl was ↦ inr was
      | inr is ↦ absurd is.1
    ]

    pub asks_outbox : OnlyAsks outbox ledger old new
    asks_outbox = record {
      scheme = scheme;
      follow = record {
        outbox_follows = record { clean = call.clean; live = call.live; lawful = λ live lawful. (call.value live lawful).0; lasts = call.lasts };
        count = ap (λ (v : Vec L Global). length v.items) ledgers;
        ledgers_follow = λ place x y at_x at_y. subst (λ z. Follows (ledger x) (ledger z)) (sym (same_at old.ledgers.items new.ledgers.items place x y at_x at_y (ap (λ (v : Vec L Global). slice_get v.items place) ledgers))) (record { clean = λ c. c; live = λ l. l; lawful = λ l is. is; lasts = λ clean lawful lasting. lasting });
      };
      sound = λ sound. record {
        lawful = record {
          outbox_is = λ live. (call.value live (sound.lawful.outbox_is (call.live live))).0;
          ledgers_are = λ place x at. sound.lawful.ledgers_are place x (ap (λ (v : Vec L Global). slice_get v.items place) (sym ledgers) ∙ at);
        };
        own = λ owner x of live. let is = sound.own owner x (was_of owner x of) live in (is.0, subst (λ (sc : SchemeValue). IsOfScheme sc (ledger x).value) (sym scheme) is.1);
      };
      same = λ clean sound k may. record { outbox_may = held clean sound k.outbox may.outbox_may; ledgers_may = λ owner x of. may.ledgers_may owner x (is_of owner x of) };
    }

    pub outbox_tells : AreClean outbox ledger new → AreSound outbox ledger old → IfOk result (λ a. (h : StoresValue) → MayStandAs outbox ledger old h → P h.outbox a)
    outbox_tells clean sound = by result call
      where
        by : (q : Result A Fault) → Reads (outbox old.outbox) (outbox new.outbox) (P (outbox old.outbox).value) q → IfOk q (λ a. (h : StoresValue) → MayStandAs outbox ledger old h → P h.outbox a)
        by (Err f) c = tt
        by (Ok a) c = λ h may.
            let live = c.stays refl clean.outbox_is in
            let before = c.live live in
            let lawful = sound.lawful.outbox_is before in
            subst (λ v. P v a) (sym (holds_value (outbox old.outbox) sound_outbox before lawful h.outbox may.outbox_may)) (c.value live lawful).1.1
