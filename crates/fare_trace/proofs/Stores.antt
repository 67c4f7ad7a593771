-- The stores of a new run are ready for a world, and those in memory are live for ever.
use Rattle.std.proofs.Common.{◌≡◌, ◌⊎◌, ◌∙◌, ◌++◌, ◌∷◌, ℕ, List, [], Some, None, Result, Ok, Err, OnOk, length, refl, sym, subst, inl, inr, arith}
use Rattle.std.specs.Prelude.{slice_get}
use Rattle.sqlite.specs.Steps.{over_memory}
use Rattle.sqlite.proofs.Callers.{memory_is_clean}
use Rattle.sqlite_trees.specs.declared.memory.MemStore.{MemStore}
use Rattle.fare_scheme.specs.Values.{SchemeValue}
use Rattle.fare_store.specs.declared.plain_ledger.PlainLedger.{PlainLedger}
use Rattle.fare_store.specs.declared.plain_outbox.PlainOutbox.{PlainOutbox}
use Rattle.fare_store.specs.LedgerWords.{LedgerValue}
use Rattle.fare_store.specs.OutboxWords.{OutboxValue}
use Rattle.fare_store.specs.Standing.{Standing}
use Rattle.fare_outbox.specs.declared.tables.SqlOutbox.{SqlOutbox}
use Rattle.fare_ledger.specs.declared.tables.SqlLedger.{SqlLedger}
use Rattle.fare_world.specs.declared.world.World.{World}
use Rattle.fare_world.specs.declared.world.Parts.{Parts}
use Rattle.fare_world.specs.declared.world.WorldFault.{WorldFault}
use Rattle.fare_world.specs.declared.world.WorldFault.TheVariants as world
use Rattle.fare_world.specs.Making.{AreOfOwners, AllEmpty, AllLawful, AllLive, IsReady, IsRefused, SomeFailed}
use Rattle.fare_world.specs.Restarts.{Rose}
use Rattle.fare_world.specs.Whole.{AreLive, CountsFailure, Follows, SameCounts}
use Rattle.fare_world.proofs.Places.{slice_get-push_cases}
use Rattle.fare_trace.specs.Stores.{AreNewLedgers, IsNewOutbox, ledger_is, outbox_is, sql_ledger_is, sql_outbox_is}

-- one ledger more
pub one_more : {X : Type 0} (Q : ℕ → X → Type 0) (xs : List X) (x : X) → ((k : ℕ) (y : X) → slice_get xs k ≡ Some y → Q k y) → Q (length xs) x → (k : ℕ) (y : X) → slice_get (xs ++ x ∷ []) k ≡ Some y → Q k y
one_more Q xs x all is k y e = elim (slice_get-push_cases xs x k y e) [
  | inl was ↦ all k y was
  | inr new ↦ subst (λ n. Q n y) (sym new.0) (subst (Q (length xs)) new.1 is)
]

module _ {O L : Type 0} (out : O → Standing OutboxValue) (led : L → Standing LedgerValue) where
  -- A NEW WORLD
  -- one may be made of new stores
  pub ready : (sc : SchemeValue) (o : O) (ls : List L) → IsNewOutbox out o → AreNewLedgers led sc ls → IsReady out led sc o ls
  ready sc o ls none are = record { outbox_is = λ _. none.lawful; ledgers_are = λ k x e live. (are.each k x e).new.lawful; made = λ k x e. (are.each k x e).new.made }

  owned : (sc : SchemeValue) (ls : List L) → AreNewLedgers led sc ls → AreOfOwners led sc ls
  owned sc ls are = record { count = are.count; each = λ k x e. (are.each k x e).owner }

  empty : (sc : SchemeValue) (o : O) (ls : List L) → IsNewOutbox out o → AreNewLedgers led sc ls → AllEmpty out led o ls
  empty sc o ls none are = record { outbox_is = none.empty; ledgers_are = λ k x e. (are.each k x e).new.empty }

  lawful : (sc : SchemeValue) (o : O) (ls : List L) → IsNewOutbox out o → AreNewLedgers led sc ls → AllLawful out led o ls
  lawful sc o ls none are = record { outbox_is = none.lawful; ledgers_are = λ k x e. (are.each k x e).new.lawful }

  -- and if they are live, nothing but memory or a failure keeps it from being made
  pub only_fails : (sc : SchemeValue) (o : O) (ls : List L) (parts : Parts O L) (f : WorldFault) → AllLive out led parts.outbox parts.ledgers.items → IsNewOutbox out o → AreNewLedgers led sc ls → IsRefused out led sc o ls parts f
      → (f ≡ world.Memory) ⊎ ((f ≡ world.Store) × SomeFailed out led o ls parts.outbox parts.ledgers.items)
  only_fails sc o ls parts world.WrongLedgers live none are is = absurd (is.why (owned sc ls are))
  only_fails sc o ls parts world.NotEmpty live none are is = absurd (is.why.1 live (lawful sc o ls none are) (empty sc o ls none are))
  only_fails sc o ls parts world.Memory live none are is = inl refl
  only_fails sc o ls parts world.Store live none are is = inr (refl, is.why.1)

  -- ONE EVENT AFTER THE OTHER
  counts_then : (old mid new : World O L) → SameCounts out led old mid → SameCounts out led mid new → SameCounts out led old new
  counts_then old mid new first second = record {
    outbox_same = second.outbox_same ∙ first.outbox_same;
    ledgers_same = record {
      forth = λ k x e. let y = first.ledgers_same.forth k x e in let z = second.ledgers_same.forth k y.0 y.1 in (z.0, z.1, z.2 ∙ y.2);
      back = λ k z e. let y = second.ledgers_same.back k z e in let x = first.ledgers_same.back k y.0 y.1 in (x.0, x.1, y.2 ∙ x.2);
    };
  }

  -- nothing was done
  pub follows_none : (w : World O L) → Follows out led w w None
  follows_none w = record {
    live = λ live. live;
    clean = λ clean. clean;
    stays = λ none live clean. live;
    counts = λ not. record { outbox_same = refl; ledgers_same = record { forth = λ k x e. (x, e, refl); back = λ k x e. (x, e, refl) } };
    cause = λ is. absurd (cc);
  }

  pub follows_then : (old mid new : World O L) → Follows out led old mid None → Follows out led mid new None → Follows out led old new None
  follows_then old mid new first second = record {
    live = λ live. first.live (second.live live);
    clean = λ clean. first.clean (second.clean clean);
    stays = λ none live clean. second.stays none (first.stays none live (second.clean clean)) clean;
    counts = λ not. counts_then old mid new (first.counts not) (second.counts not);
    cause = λ is. absurd (cc);
  }

  -- a failure after successes
  pub fails_then : (old mid new : World O L) → Follows out led old mid None → CountsFailure out led mid new → CountsFailure out led old new
  fails_then old mid new first failure =
      let same = first.counts (λ is. absurd (cc)) in
      elim failure [
        | inl rose ↦ inl (subst (λ n. Rose n (out new.outbox).failures) same.outbox_same rose)
        | inr failed ↦
            let was = same.ledgers_same.back failed.place failed.before failed.was in
            inr (record { place = failed.place; before = was.0; now = failed.now; was = was.1; is = failed.is; rose = subst (λ n. Rose n (led failed.now.ledger).failures) was.2 failed.rose })
      ]

-- IN LISTS
-- no count of failures rises
none_rose : Rose 0 0 → ⊥
none_rose (inl less) = omega (arith, less)
none_rose (inr most) = omega (arith, most)

none_failed : (o new : PlainOutbox) (ls news : List PlainLedger) → SomeFailed outbox_is ledger_is o ls new news → ⊥
none_failed o new ls news (inl rose) = none_rose rose
none_failed o new ls news (inr failed) = none_rose failed.rose

pub no_failure : (old new : World PlainOutbox PlainLedger) → CountsFailure outbox_is ledger_is old new → ⊥
no_failure old new (inl rose) = none_rose rose
no_failure old new (inr failed) = none_rose failed.rose

pub plain_live : (w : World PlainOutbox PlainLedger) → AreLive outbox_is ledger_is w
plain_live w = record { outbox_is = tt; ledgers_are = λ k x e. tt }

-- so nothing but memory keeps a world from being made of them
pub wants_memory : (sc : SchemeValue) (o : PlainOutbox) (ls : List PlainLedger) (parts : Parts PlainOutbox PlainLedger) (f : WorldFault) → IsNewOutbox outbox_is o → AreNewLedgers ledger_is sc ls → IsRefused outbox_is ledger_is sc o ls parts f → f ≡ world.Memory
wants_memory sc o ls parts f none are is = elim (only_fails outbox_is ledger_is sc o ls parts f (record { outbox_is = tt; ledgers_are = λ k x e. tt }) none are is) [
  | inl memory ↦ memory
  | inr failed ↦ absurd (none_failed o parts.outbox ls parts.ledgers.items failed.1)
]

-- IN DATABASES IN MEMORY
-- no disk spoils them and nothing shuts them
pub outbox_live : (o : SqlOutbox MemStore over_memory) → (sql_outbox_is o).live
outbox_live o = (memory_is_clean o.conn, refl)

pub ledger_live : (l : SqlLedger MemStore over_memory) → (sql_ledger_is l).live
ledger_live l = (memory_is_clean l.conn, refl)

pub sql_live : (w : World (SqlOutbox MemStore over_memory) (SqlLedger MemStore over_memory)) → AreLive sql_outbox_is sql_ledger_is w
sql_live w = record { outbox_is = outbox_live w.outbox; ledgers_are = λ k x e. ledger_live x.ledger }

-- WHAT A CALL ANSWERS
-- what a success says, by what it is known to say
pub on_ok : {X E A B : Type 0} (r : Result X E) → (A → B) → OnOk r A → OnOk r B
on_ok (Ok x) f a = f a
on_ok (Err e) f a = tt
