-- Stores that have kept what was committed may hold something, one by one and all together.
use Rattle.std.proofs.Common.{◌≡◌, ℕ, zero, suc, List, [], ◌∷◌, Bool, true, false, refl, sym, ap, ◌∙◌, subst, inr, Some, None}
use Rattle.std.specs.Prelude.{◌==◌, if◌then◌else◌, Option, slice_get, unwrap_or}
use Rattle.std.proofs.Math.Logic.{∥∥₁_map, ∥∥₁_map₂, ∥∥₁_elim, ∥∥₁_prop}
use Rattle.fare_scheme.specs.Words.{position_of_owner}
use Rattle.fare_store.specs.Standing.{Standing, IsSound}
use Rattle.fare_store.specs.Tables.{put}
use Rattle.fare_store.specs.OutboxWords.{OutboxValue}
use Rattle.fare_store.specs.LedgerWords.{LedgerValue}
use Rattle.fare_store.proofs.Entries.{is_one, put_here}
use Rattle.fare_history.specs.Holding.{MayHold}
use Rattle.fare_history.specs.Stores.{StoresValue}
use Rattle.fare_sessions.specs.declared.hub.Hub.{Hub}
use Rattle.fare_sessions.specs.Stores.{AreClean, IsLedgerOf, MayStandAs}
use Rattle.fare_sessions.proofs.Follow.{same_at}

-- a clean store may hold what a stop would leave of it
one_holds : {V : Type 0} (s : Standing V) → IsSound s → s.clean → ∥ ((v : V) × MayHold s v) ∥₁
one_holds {V} s sound clean = ∥∥₁_map (sound.some clean) (λ left. (left.0, inr left.1))

-- LEDGERS
any_ledger : LedgerValue
any_ledger = record { owner = 0; start = 0; knows = λ device. false; taken = λ device. []; stated = λ device day. None; closed = λ device. 0; retired = λ device. false; from = λ device. 0 }

abbrev in_front : LedgerValue → (ℕ → LedgerValue) → ℕ → LedgerValue
in_front l f zero = l
in_front l f (suc place) = f place

module _ {L : Type 0} (ledger : L → Standing LedgerValue) where
  -- a value for each of these ledgers, by place
  abbrev HoldAll : List L → (ℕ → LedgerValue) → Type 0
  HoldAll ledgers f = (place : ℕ) (x : L) → slice_get ledgers place ≡ Some x → MayHold (ledger x) (f place)

  hold_front : (x : L) (ledgers : List L) (l : LedgerValue) (f : ℕ → LedgerValue) → MayHold (ledger x) l → HoldAll ledgers f → HoldAll (x ∷ ledgers) (in_front l f)
  hold_front x ledgers l f one rest zero y at = let both : ◌≡◌ {A = Option L} (Some x) (Some y) = at in let same : x ≡ y = cc in subst (λ (z : L). MayHold (ledger z) l) same one
  hold_front x ledgers l f one rest (suc place) y at = rest place y at

  ledgers_hold : (ledgers : List L) → ((place : ℕ) (x : L) → slice_get ledgers place ≡ Some x → ∥ ((l : LedgerValue) × MayHold (ledger x) l) ∥₁) → ∥ ((f : ℕ → LedgerValue) × HoldAll ledgers f) ∥₁
  ledgers_hold [] each = ∣ (λ place. any_ledger, λ place x at. absurd (cc)) ∣₁
  ledgers_hold (x ∷ ledgers) each = ∥∥₁_map₂ (each 0 x refl) (ledgers_hold ledgers (λ place y at. each (suc place) y at)) (λ l f. (in_front l.0 f.0, hold_front x ledgers l.0 f.0 l.1 f.1))

-- THE STORES OF A HUB
module _ {O L : Type 0} (outbox : O → Standing OutboxValue) (ledger : L → Standing LedgerValue) (outboxes_sound : (x : O) → IsSound (outbox x)) (ledgers_sound : (x : L) → IsSound (ledger x)) (hub : Hub O L) (clean : AreClean outbox ledger hub) where
  abbrev place_of : ℕ → ℕ
  place_of owner = unwrap_or (position_of_owner hub.scheme owner) 0

  all_hold : ∥ ((f : ℕ → LedgerValue) × HoldAll ledger hub.ledgers.items f) ∥₁
  all_hold = ledgers_hold ledger hub.ledgers.items (λ place x at. one_holds (ledger x) (ledgers_sound x) (clean.ledgers_are place x at))

  stand_by : (x : OutboxValue) → MayHold (outbox hub.outbox) x → (f : ℕ → LedgerValue) → HoldAll ledger hub.ledgers.items f → MayStandAs outbox ledger hub (record { outbox = x; ledgers = λ owner. f (place_of owner) })
  stand_by x may f all = record {
    outbox_may = may;
    ledgers_may = λ owner y of. subst (λ n. MayHold (ledger y) (f n)) (sym (ap (λ (o : Option ℕ). unwrap_or o 0) of.1)) (all of.0 y of.2);
  }

  -- with this outbox
  pub hub_holds_outbox : (x : OutboxValue) → MayHold (outbox hub.outbox) x → ∥ ((h : StoresValue) × MayStandAs outbox ledger hub h × (h.outbox ≡ x)) ∥₁
  hub_holds_outbox x may = ∥∥₁_map all_hold (λ f. (record { outbox = x; ledgers = λ owner. f.0 (place_of owner) }, stand_by x may f.0 f.1, refl))

  pub hub_holds : ∥ ((h : StoresValue) × MayStandAs outbox ledger hub h) ∥₁
  hub_holds = ∥∥₁_elim (one_holds (outbox hub.outbox) (outboxes_sound hub.outbox) clean.outbox_is) ∥∥₁_prop (λ x. ∥∥₁_map (hub_holds_outbox x.0 x.1) (λ h. (h.0, h.1)))

  -- with this ledger
  module _ (owner : ℕ) (y : L) (of : IsLedgerOf hub owner y) (l : LedgerValue) (held : MayHold (ledger y) l) where
    with_one : (f : ℕ → LedgerValue) → HoldAll ledger hub.ledgers.items f → HoldAll ledger hub.ledgers.items (put f of.0 l)
    with_one f all place x at = by (place == of.0) refl
      where
        by : (b : Bool) → (place == of.0) ≡ b → MayHold (ledger x) (if b then l else f place)
        by true e =
            let same : y ≡ x = same_at hub.ledgers.items hub.ledgers.items place x y at (ap (slice_get hub.ledgers.items) (is_one place of.0 e) ∙ of.2) refl in
            subst (λ (z : L). MayHold (ledger z) l) same held
        by false e = all place x at

    here : (f : ℕ → LedgerValue) → put f of.0 l (place_of owner) ≡ l
    here f = ap (λ (o : Option ℕ). put f of.0 l (unwrap_or o 0)) of.1 ∙ put_here f of.0 l

    pub hub_holds_ledger : ∥ ((h : StoresValue) × MayStandAs outbox ledger hub h × (h.ledgers owner ≡ l)) ∥₁
    hub_holds_ledger =
        ∥∥₁_elim (one_holds (outbox hub.outbox) (outboxes_sound hub.outbox) clean.outbox_is) ∥∥₁_prop
        (λ x. ∥∥₁_map all_hold (λ f. (record { outbox = x.0; ledgers = λ other. put f.0 of.0 l (place_of other) }, stand_by x.0 x.1 (put f.0 of.0 l) (with_one f.0 f.1), here f.0)))
