-- How serving ends, by how its parts do.
use Rattle.std.proofs.Common.{◌≡◌, ◌≢◌, ℕ, Bool, List, Option, Some, None, IfSome, refl, sym, ap, subst, inl, inr, arith, length}
use Rattle.std.specs.Prelude.{Result, Ok, Err, OnOk, IfErr}
use Rattle.std.specs.Result.{IsErrAnd}
use Rattle.std.specs.Io.KnownBytes.{Appends, Keeps}
use Rattle.std.proofs.KnownBytes.{Appends-kept, Appends-trans, Keeps-refl}
use Rattle.fare_scheme.specs.Values.{SchemeValue}
use Rattle.fare_store.specs.declared.fault.Fault.{Fault}
use Rattle.fare_store.specs.declared.fault.Fault.TheVariants as store
use Rattle.fare_store.specs.Standing.{Standing}
use Rattle.fare_store.specs.OutboxWords.{OutboxValue}
use Rattle.fare_store.specs.LedgerWords.{LedgerValue}
use Rattle.fare_sessions.specs.declared.hub.Hub.{Hub}
use Rattle.fare_serve.specs.Counting.{counts_text}
use Rattle.fare_serve.specs.Pausing.{PauseOf}
use Rattle.fare_serve.specs.declared.fault.ServeFault.{ServeFault}
use Rattle.fare_serve.specs.declared.fault.ServeFault.TheVariants as serve
use Rattle.fare_run.specs.Scheming.{GaveNone, GivesNone, HasGiven, HasScheme, SpellsScheme, TakesScheme}
use Rattle.fare_run.specs.Serving.{ArePorts, FailsOver, IsUnheard, IsUntold, LeavesStores, ServeEnds, ServeFailed, ServeFails, IsServedOf, ServesOver, WritesCounts, serving_failure}
use Rattle.fare_run.specs.Stores.{IsOfStores, opening_failure}
use Rattle.fare_command.specs.declared.words.SchemeSource.{SchemeSource}
use Rattle.fare_run.specs.declared.serve_failure.ServeFailure.{ServeFailure}
use Rattle.fare_run.specs.declared.serve_failure.ServeFailure.TheVariants.{Lines, Refused, NoScheme, Kept, Memory, Store, Network, Write}

-- THE SCHEME
pub has_scheme : (known : Option (List ℕ)) (sc : SchemeValue) → IfSome known (SpellsScheme sc) → HasScheme known
has_scheme None sc spelled = tt
has_scheme (Some input) sc spelled = (sc, spelled)

-- ENDS
pub writes : {O L : Type 0} (does : PauseOf O L) (outbox : O → Standing OutboxValue) (ledger : L → Standing LedgerValue) (before after : Hub O L) (most : ℕ) (untold asks : Bool) (old new : Option (List ℕ)) → ServesOver does outbox ledger before after most untold asks old new → WritesCounts before.scheme asks old new
writes does outbox ledger before after most untold asks old new s = record {
  ports = s.ports;
  are_ports = s.are_ports;
  counts = counts_text s.served.counts;
  are = (s.served.counts, s.served.held.held.counted.owners, refl);
  written = Appends-trans old s.mid new s.ports (counts_text s.served.counts) s.told s.served.written;
}

pub writes_if : {O L : Type 0} (does : PauseOf O L) (outbox : O → Standing OutboxValue) (ledger : L → Standing LedgerValue) (before after : Hub O L) (most : ℕ) (untold asks : Bool) (old new : Option (List ℕ)) (r : Result (Unit {0}) ServeFailure) → OnOk r (ServesOver does outbox ledger before after most untold asks old new) → OnOk r (WritesCounts before.scheme asks old new)
writes_if does outbox ledger before after most untold asks old new (Ok u) s = writes does outbox ledger before after most untold asks old new s
writes_if does outbox ledger before after most untold asks old new (Err f) s = tt

pub ends : (asks : Bool) (known : Option (List ℕ)) (sc : SchemeValue) (old new : Option (List ℕ)) → IfSome known (SpellsScheme sc) → WritesCounts sc asks old new → IfSome known (ServeEnds asks old new)
ends asks None sc old new spelled done = tt
ends asks (Some input) sc old new spelled done = record { sc = sc; spelled = spelled; writes = done }

-- FAILURES
pub fails_scheme : (asks : Bool) (known old : Option (List ℕ)) (failure : ServeFailure) → GivesNone known failure → ServeFails asks known old old failure
fails_scheme asks known old (Lines fault) none = (Keeps-refl old, none)
fails_scheme asks known old (Refused why) none = (Keeps-refl old, none)
fails_scheme asks known old NoScheme none = (Keeps-refl old, none)
fails_scheme asks known old (Kept why) none = (Keeps-refl old, none)
fails_scheme asks known old Memory none = inl (Keeps-refl old)
fails_scheme asks known old Store none = (inl (Keeps-refl old), none)
fails_scheme asks known old Network none = absurd none
fails_scheme asks known old Write none = absurd none

pub failed_scheme : (asks : Bool) (source : SchemeSource) (input : List ℕ) (old : Option (List ℕ)) (failure : ServeFailure) → GaveNone source input failure → ServeFailed asks old old source input failure
failed_scheme asks source input old (Lines fault) none = (Keeps-refl old, none)
failed_scheme asks source input old (Refused why) none = (Keeps-refl old, none)
failed_scheme asks source input old NoScheme none = (Keeps-refl old, none)
failed_scheme asks source input old (Kept why) none = (Keeps-refl old, none)
failed_scheme asks source input old Memory none = inl (Keeps-refl old)
failed_scheme asks source input old Store none = (inl (Keeps-refl old), none)
failed_scheme asks source input old Network none = absurd none
failed_scheme asks source input old Write none = absurd none

pub has_given : (source : SchemeSource) (input : List ℕ) (sc : SchemeValue) → TakesScheme source sc input → HasGiven source input
has_given source input sc (inl spelled) = inl (sc, spelled)
has_given source input sc (inr none) = inr none

pub fails_stores : (asks : Bool) (known old : Option (List ℕ)) (sc : SchemeValue) (failure : ServeFailure) → IfSome known (SpellsScheme sc) → IsOfStores failure → ServeFails asks known old old failure
fails_stores asks known old sc (Lines fault) spelled is = absurd is
fails_stores asks known old sc (Refused why) spelled is = absurd is
fails_stores asks known old sc NoScheme spelled is = absurd is
fails_stores asks known old sc (Kept why) spelled is = absurd is
fails_stores asks known old sc Memory spelled is = inl (Keeps-refl old)
fails_stores asks known old sc Store spelled is = (inl (Keeps-refl old), has_scheme known sc spelled)
fails_stores asks known old sc Network spelled is = absurd is
fails_stores asks known old sc Write spelled is = absurd is

pub fails_over : (asks : Bool) (known old new : Option (List ℕ)) (sc : SchemeValue) (failure : ServeFailure) → IfSome known (SpellsScheme sc) → FailsOver asks old new failure → ServeFails asks known old new failure
fails_over asks known old new sc (Lines fault) spelled is = absurd is
fails_over asks known old new sc (Refused why) spelled is = absurd is
fails_over asks known old new sc NoScheme spelled is = absurd is
fails_over asks known old new sc (Kept why) spelled is = absurd is
fails_over asks known old new sc Memory spelled is = is
fails_over asks known old new sc Store spelled is = (is, has_scheme known sc spelled)
fails_over asks known old new sc Network spelled is = (is, has_scheme known sc spelled)
fails_over asks known old new sc Write spelled is = has_scheme known sc spelled

failed_over_input : (asks : Bool) (source : SchemeSource) (input : List ℕ) (old new : Option (List ℕ)) (failure : ServeFailure) → HasGiven source input → FailsOver asks old new failure → ServeFailed asks old new source input failure
failed_over_input asks source input old new (Lines fault) given is = absurd is
failed_over_input asks source input old new (Refused why) given is = absurd is
failed_over_input asks source input old new NoScheme given is = absurd is
failed_over_input asks source input old new (Kept why) given is = absurd is
failed_over_input asks source input old new Memory given is = is
failed_over_input asks source input old new Store given is = (is, given)
failed_over_input asks source input old new Network given is = (is, given)
failed_over_input asks source input old new Write given is = given

-- it ended by this failure
pub err_served : (asks : Bool) (source : SchemeSource) (input : List ℕ) (old new : Option (List ℕ)) (r : Result (Unit {0}) ServeFailure) (failure : ServeFailure) → IsErrAnd r (λ e. e ≡ failure) → ServeFailed asks old new source input failure → IsServedOf asks old new source input r
err_served asks source input old new (Ok u) failure is failed = absurd is
err_served asks source input old new (Err e) failure is failed = subst (ServeFailed asks old new source input) (sym is) failed

-- however it ended
pub done_over : (asks : Bool) (r : Result (Unit {0}) ServeFailure) (known old new : Option (List ℕ)) (sc own : SchemeValue) → own ≡ sc → IfSome known (SpellsScheme sc) → OnOk r (WritesCounts own asks old new) → OnOk r (IfSome known (ServeEnds asks old new))
done_over asks (Ok u) known old new sc own same spelled done = ends asks known sc old new spelled (subst (λ (x : SchemeValue). WritesCounts x asks old new) same done)
done_over asks (Err failure) known old new sc own same spelled done = tt

pub failed_over : (asks : Bool) (r : Result (Unit {0}) ServeFailure) (known old new : Option (List ℕ)) (sc : SchemeValue) → IfSome known (SpellsScheme sc) → IfErr r (FailsOver asks old new) → IfErr r (ServeFails asks known old new)
failed_over asks (Ok u) known old new sc spelled is = tt
failed_over asks (Err failure) known old new sc spelled is = fails_over asks known old new sc failure spelled is

pub served_of : (asks : Bool) (r : Result (Unit {0}) ServeFailure) (source : SchemeSource) (input : List ℕ) (old new : Option (List ℕ)) (sc : SchemeValue) → TakesScheme source sc input → OnOk r (WritesCounts sc asks old new) → IfErr r (FailsOver asks old new) → IsServedOf asks old new source input r
served_of asks (Ok u) source input old new sc takes done fails = (sc, takes, done)
served_of asks (Err failure) source input old new sc takes done fails = failed_over_input asks source input old new failure (has_given source input sc takes) fails

-- over stores
pub over_network : (asks : Bool) (old : Option (List ℕ)) (failure : ServeFailure) → failure ≡ Network → FailsOver asks old old failure
over_network asks old failure is = subst (FailsOver asks old old) (sym is) (Keeps-refl old)

-- stores that were not opened are a failure of stores
pub of_opening : (fault : Fault) → IsOfStores (opening_failure fault)
of_opening store.Memory = tt
of_opening store.Store = tt

pub over_stores : (asks : Bool) (old : Option (List ℕ)) (failure : ServeFailure) → IsOfStores failure → FailsOver asks old old failure
over_stores asks old (Lines fault) is = absurd is
over_stores asks old (Refused why) is = absurd is
over_stores asks old NoScheme is = absurd is
over_stores asks old (Kept why) is = absurd is
over_stores asks old Memory is = inl (Keeps-refl old)
over_stores asks old Store is = inl (Keeps-refl old)
over_stores asks old Network is = absurd is
over_stores asks old Write is = absurd is

pub failed_stores : (asks : Bool) (source : SchemeSource) (input : List ℕ) (old : Option (List ℕ)) (sc : SchemeValue) (failure : ServeFailure) → TakesScheme source sc input → IsOfStores failure → ServeFailed asks old old source input failure
failed_stores asks source input old sc failure takes is = failed_over_input asks source input old old failure (has_given source input sc takes) (over_stores asks old failure is)

pub over_told : (asks : Bool) (old new : Option (List ℕ)) (failure : ServeFailure) → IsUntold old new failure → FailsOver asks old new failure
over_told asks old new (Lines fault) is = absurd is
over_told asks old new (Refused why) is = absurd is
over_told asks old new NoScheme is = absurd is
over_told asks old new (Kept why) is = absurd is
over_told asks old new Memory is = inl is
over_told asks old new Store is = absurd is
over_told asks old new Network is = absurd is
over_told asks old new Write is = tt

pub over_serving : (asks : Bool) (old mid new : Option (List ℕ)) (ports : List ℕ) (fault : ServeFault) → ArePorts asks ports → Appends old mid ports → (fault ≢ serve.Write → Keeps mid new) → FailsOver asks old new (serving_failure fault)
over_serving asks old mid new ports serve.Memory are told kept = inr (ports, are, Appends-kept old mid new ports told (kept (λ e. grind (arith, e))))
over_serving asks old mid new ports serve.Store are told kept = inr (ports, are, Appends-kept old mid new ports told (kept (λ e. grind (arith, e))))
over_serving asks old mid new ports serve.Write are told kept = tt

-- nobody is listened to who asks
pub over_unheard : (asks : Bool) (old : Option (List ℕ)) (failure : ServeFailure) → IsUnheard failure → FailsOver asks old old failure
over_unheard asks old (Lines fault) is = absurd is
over_unheard asks old (Refused why) is = absurd is
over_unheard asks old NoScheme is = absurd is
over_unheard asks old (Kept why) is = absurd is
over_unheard asks old Memory is = inl (Keeps-refl old)
over_unheard asks old Store is = absurd is
over_unheard asks old Network is = Keeps-refl old
over_unheard asks old Write is = absurd is

-- the ledgers are as many
pub count_still : {O L : Type 0} (does : PauseOf O L) (outbox : O → Standing OutboxValue) (ledger : L → Standing LedgerValue) (old new : Hub O L) (most : ℕ) (untold asks : Bool) (before after : Option (List ℕ)) (r : Result (Unit {0}) ServeFailure) → OnOk r (ServesOver does outbox ledger old new most untold asks before after) → IfErr r (LeavesStores does outbox ledger old new)
    → length new.ledgers.items ≡ length old.ledgers.items
count_still does outbox ledger old new most untold asks before after (Ok u) over none = over.served.keeps.follow.count
count_still {O} {L} does outbox ledger old new most untold asks before after (Err failure) none (inl still) = ap (λ (hub : Hub O L). length hub.ledgers.items) still
count_still does outbox ledger old new most untold asks before after (Err failure) none (inr it) = it.2.keeps.follow.count
