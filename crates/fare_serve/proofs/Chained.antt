-- Calls of a hub's sessions, one after the other, with nothing between them.
use Rattle.std.proofs.Common.{◌≡◌, List, [], ◌∷◌, ◌++◌, length, refl, sym, ap, ◌∙◌, subst}
use Rattle.fare_scheme.specs.Values.{SchemeValue}
use Rattle.fare_store.specs.Standing.{Standing}
use Rattle.fare_store.specs.OutboxWords.{OutboxValue}
use Rattle.fare_store.specs.LedgerWords.{LedgerValue}
use Rattle.fare_source.specs.Talking.{Talk}
use Rattle.fare_sessions.specs.declared.hub.Hub.{Hub}
use Rattle.fare_sessions.specs.Stores.{HasLedgers, StoresFollow}
use Rattle.fare_sessions.proofs.Follow.{follow_join, follow_self}
use Rattle.fare_serve.specs.Calls.{Call, AreHeld}

module _ {S O L : Type 0} (talks : S → Talk) (outbox : O → Standing OutboxValue) (ledger : L → Standing LedgerValue) where
  pub held_none : (hub : Hub O L) → AreHeld talks outbox ledger hub hub []
  held_none hub = refl

  pub held_then : (a b c : Hub O L) (xs ys : List (Call S)) → AreHeld talks outbox ledger a b xs → AreHeld talks outbox ledger b c ys → AreHeld talks outbox ledger a c (xs ++ ys)
  held_then a b c [] ys first next = subst (λ (h : Hub O L). AreHeld talks outbox ledger h c ys) first next
  held_then a b c (x ∷ xs) ys first next = (first.0, first.1, held_then first.0 b c xs ys first.2 next)

  pub held_scheme : (a b : Hub O L) (xs : List (Call S)) → AreHeld talks outbox ledger a b xs → b.scheme ≡ a.scheme
  held_scheme a b [] h = ap (λ (x : Hub O L). x.scheme) h
  held_scheme a b (x ∷ xs) h = held_scheme h.0 b xs h.2 ∙ h.1.scheme

  held_follow : (a b : Hub O L) (xs : List (Call S)) → AreHeld talks outbox ledger a b xs → StoresFollow outbox ledger a b
  held_follow a b [] h = subst (StoresFollow outbox ledger a) (sym h) (follow_self outbox ledger a)
  held_follow a b (x ∷ xs) h = follow_join outbox ledger a h.0 b h.1.follow (held_follow h.0 b xs h.2)

  -- each owner still has its ledger
  pub ledgers_on : (a b : Hub O L) (xs : List (Call S)) → AreHeld talks outbox ledger a b xs → HasLedgers a → HasLedgers b
  ledgers_on a b xs h has = (held_follow a b xs h).count ∙ (has ∙ ap (λ (sc : SchemeValue). length sc.owners) (sym (held_scheme a b xs h)))
