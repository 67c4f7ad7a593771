-- What is asked before owners and stations start again, and how they do.
use Rattle.std.specs.Prelude.{◌≡◌, ◌+◌, ◌<◌, ◌≤◌, ◌⊎◌, ℕ, List, [], Option, Some, None, IsSome, length, slice_get, option_map}
use Rattle.circular_buffer.specs.Buffer.{buffer}
use Rattle.fare_collector.specs.Collecting.{next_in}
use Rattle.fare_scheme.specs.Values.{SchemeValue}
use Rattle.fare_scheme.specs.Words.{position_of_device}
use Rattle.fare_store.specs.declared.fault.Fault.{Fault}
use Rattle.fare_store.specs.declared.fault.Fault.TheVariants as fault
use Rattle.fare_store.specs.LedgerWords.{LedgerValue}
use Rattle.fare_store.specs.Standing.{Standing}
use Rattle.fare_side.specs.declared.owner.Owner.{Owner}
use Rattle.fare_side.specs.declared.station.Station.{Station}
use Rattle.fare_side.specs.Resuming.{place_of_cursor, place_at, upto_at, AreStandings}

-- each entry of the one list has one at its place in the other, and stands to it like this
pub record Paired {X Y : Type 0} (P : X → Y → Type 0) (old : List X) (new : List Y) : Type 0 where
  pub forth : (k : ℕ) (x : X) → slice_get old k ≡ Some x → (y : Y) × (slice_get new k ≡ Some y) × P x y
  pub back : (k : ℕ) (y : Y) → slice_get new k ≡ Some y → (x : X) × (slice_get old k ≡ Some x) × P x y

-- a count of failures rose, or it was the greatest
abbrev pub Rose : ℕ → ℕ → Type 0
Rose old new = (old < new) ⊎ (18446744073709551615 ≤ old)

-- OWNERS
-- an owner that starts again: its queue and its hand are empty, and its forwarder goes on where its ledger stood when it was last asked
pub record IsOwnerAgain {L : Type 0} (sc : SchemeValue) (x y : Owner L) : Type 0 where
  pub ledger : y.ledger ≡ x.ledger
  pub standings : y.standings ≡ x.standings
  pub queue : y.queue ≡ buffer [] x.queue.capacity
  pub hand : y.hand ≡ None
  pub owner : y.forwarder.owner ≡ x.forwarder.owner
  pub resumed : (device : ℕ) → IsSome (position_of_device sc device) → place_of_cursor y.forwarder device ≡ option_map (λ _. place_at sc x.standings.items device) (place_of_cursor x.forwarder device)
  pub others : (device : ℕ) → position_of_device sc device ≡ None → place_of_cursor y.forwarder device ≡ place_of_cursor x.forwarder device

module _ {L : Type 0} (ledger : L → Standing LedgerValue) where
  -- an owner whose ledger was asked where it stands, or was not reached, since another one failed
  pub record IsAsked (sc : SchemeValue) (faulted : Option Fault) (x y : Owner L) : Type 0 where
    pub live : (ledger y.ledger).live → (ledger x.ledger).live
    pub clean : (ledger y.ledger).clean → (ledger x.ledger).clean
    pub stays : faulted ≡ None → (ledger x.ledger).live → (ledger y.ledger).clean → (ledger y.ledger).live
    pub same : (ledger y.ledger).live → (ledger x.ledger).lawful → (ledger y.ledger).lawful × ((ledger y.ledger).value ≡ (ledger x.ledger).value)
    pub counts : (faulted ≡ Some fault.Store → ⊥) → (ledger y.ledger).failures ≡ (ledger x.ledger).failures
    pub told : faulted ≡ None → (ledger y.ledger).live → (ledger x.ledger).lawful → AreStandings sc (ledger x.ledger).value y.standings.items
    pub count : length y.standings.items ≡ length x.standings.items
    pub queue : y.queue ≡ x.queue
    pub hand : y.hand ≡ x.hand
    pub forwarder : y.forwarder ≡ x.forwarder

  -- the ledger that failed
  pub record Failed (old new : List (Owner L)) : Type 0 where
    pub place : ℕ
    pub before : Owner L
    pub now : Owner L
    pub was : slice_get old place ≡ Some before
    pub is : slice_get new place ≡ Some now
    pub rose : Rose (ledger before.ledger).failures (ledger now.ledger).failures

  pub record AreAsked (sc : SchemeValue) (old new : List (Owner L)) (faulted : Option Fault) : Type 0 where
    pub each : Paired (IsAsked sc faulted) old new
    pub cause : faulted ≡ Some fault.Store → Failed old new

-- STATIONS
-- a station that starts again: it has nothing to answer, and goes on behind what the outbox has had
pub record IsStationAgain (sc : SchemeValue) (uptos : List ℕ) (x y : Station) : Type 0 where
  pub resumed : (device : ℕ) → IsSome (position_of_device sc device) → next_in y.collector device ≡ option_map (λ _. upto_at sc uptos device + 1) (next_in x.collector device)
  pub others : (device : ℕ) → position_of_device sc device ≡ None → next_in y.collector device ≡ next_in x.collector device
  pub station : y.collector.station ≡ x.collector.station
  pub line : y.line ≡ buffer [] x.line.capacity
