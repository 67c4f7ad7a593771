-- Stores that go on, from call to call.
use Rattle.std.proofs.Common.{sym, ◌∙◌, subst}
use Rattle.fare_scheme.specs.Values.{SchemeValue}
use Rattle.fare_store.specs.Standing.{Standing}
use Rattle.fare_store.specs.OutboxWords.{OutboxValue}
use Rattle.fare_store.specs.LedgerWords.{LedgerValue}
use Rattle.fare_history.specs.Stores.{StoresValue}
use Rattle.fare_agreement.specs.Agreeing.{Agrees}
use Rattle.fare_agreement.proofs.Lasting.{stores_last, last_trans}
use Rattle.fare_agreement.proofs.Sessions.{stores_self, stores_trans}
use Rattle.fare_sessions.specs.declared.hub.Hub.{Hub}
use Rattle.fare_sessions.specs.Billing.{OnlyReads}
use Rattle.fare_sessions.specs.Stores.{AreClean, MayStandAs, HasGrown, HasLasted}
use Rattle.fare_sessions.proofs.Follow.{follow_self, follow_join, clean_back}
use Rattle.fare_desk.specs.Closing.{GoesOnAs, GoesOn, GoesOnLettingGo}
use Rattle.fare_desk.specs.Showing.{OnlyAsks}
use Rattle.fare_desk.proofs.Asked.{asks_read}

module _ {O L : Type 0} (outbox : O → Standing OutboxValue) (ledger : L → Standing LedgerValue) where
  -- HOWEVER THEY STAY
  module _ (Stays : Hub O L → Hub O L → Type 0) (same : (old new : Hub O L) → ((k : StoresValue) → MayStandAs outbox ledger new k → MayStandAs outbox ledger old k) → Stays old new) where
    self_as : (hub : Hub O L) → GoesOnAs outbox ledger Stays hub hub
    self_as hub = record {
      scheme = λ i. hub.scheme;
      follow = follow_self outbox ledger hub;
      sound = λ sound. sound;
      agrees = λ clean sound lists numbered is. is;
      stays = λ clean sound lists numbered is. same hub hub (λ k may. may);
    }

    asks_as : (old new : Hub O L) → OnlyAsks outbox ledger old new → GoesOnAs outbox ledger Stays old new
    asks_as old new r = record {
      scheme = r.scheme;
      follow = r.follow;
      sound = r.sound;
      agrees = λ clean sound lists numbered is. record { agreed = λ h may. subst (λ (sc : SchemeValue). Agrees sc lists h) (sym r.scheme) (is.agreed h (r.same clean sound h may)) };
      stays = λ clean sound lists numbered is. same old new (r.same clean sound);
    }

  join_as : (Stays : Hub O L → Hub O L → Type 0) → ((a b c : Hub O L) → Stays a b → Stays b c → Stays a c) → (a b c : Hub O L) → GoesOnAs outbox ledger Stays a b → GoesOnAs outbox ledger Stays b c → GoesOnAs outbox ledger Stays a c
  join_as Stays join a b c f g = record {
    scheme = g.scheme ∙ f.scheme;
    follow = follow_join outbox ledger a b c f.follow g.follow;
    sound = λ sound. g.sound (f.sound sound);
    agrees = λ clean sound lists numbered is. g.agrees clean (f.sound sound) lists numbered (f.agrees (before clean) sound lists numbered is);
    stays = λ clean sound lists numbered is. join a b c (f.stays (before clean) sound lists numbered is) (g.stays clean (f.sound sound) lists numbered (f.agrees (before clean) sound lists numbered is));
  }
    where
      before : AreClean outbox ledger c → AreClean outbox ledger b
      before clean = clean_back outbox ledger b c g.follow clean

  -- LOSING NOTHING
  pub grown_same : (old new : Hub O L) → ((k : StoresValue) → MayStandAs outbox ledger new k → MayStandAs outbox ledger old k) → HasGrown outbox ledger old new
  grown_same old new still = record { grown = λ k may. (k, still k may, stores_self k) }

  pub grown_join : (a b c : Hub O L) → HasGrown outbox ledger a b → HasGrown outbox ledger b c → HasGrown outbox ledger a c
  grown_join a b c f g = record {
    grown = λ k may.
        let second = g.grown k may in
        let first = f.grown second.0 second.1 in
        (first.0, first.1, stores_trans first.0 second.0 k first.2 second.2);
  }

  pub goes_self : (hub : Hub O L) → GoesOn outbox ledger hub hub
  goes_self = self_as (HasGrown outbox ledger) grown_same

  pub goes_asks : (old new : Hub O L) → OnlyAsks outbox ledger old new → GoesOn outbox ledger old new
  goes_asks = asks_as (HasGrown outbox ledger) grown_same

  pub goes_read : (old new : Hub O L) → OnlyReads outbox ledger old new → GoesOn outbox ledger old new
  goes_read old new r = goes_asks old new (asks_read outbox ledger old new r)

  pub goes_join : (a b c : Hub O L) → GoesOn outbox ledger a b → GoesOn outbox ledger b c → GoesOn outbox ledger a c
  goes_join = join_as (HasGrown outbox ledger) grown_join

  -- BUT WHAT IS LET GO
  lasted_same : (old new : Hub O L) → ((k : StoresValue) → MayStandAs outbox ledger new k → MayStandAs outbox ledger old k) → HasLasted outbox ledger old new
  lasted_same old new still = record { lasted = λ k may. (k, still k may, stores_last k k (stores_self k)) }

  lasted_join : (a b c : Hub O L) → HasLasted outbox ledger a b → HasLasted outbox ledger b c → HasLasted outbox ledger a c
  lasted_join a b c f g = record {
    lasted = λ k may.
        let second = g.lasted k may in
        let first = f.lasted second.0 second.1 in
        (first.0, first.1, last_trans first.0 second.0 k first.2 second.2);
  }

  lasted_grown : (a b : Hub O L) → HasGrown outbox ledger a b → HasLasted outbox ledger a b
  lasted_grown a b g = record { lasted = λ k may. let was = g.grown k may in (was.0, was.1, stores_last was.0 k was.2) }

  pub letting_goes : (a b : Hub O L) → GoesOn outbox ledger a b → GoesOnLettingGo outbox ledger a b
  letting_goes a b f = record { scheme = f.scheme; follow = f.follow; sound = f.sound; agrees = f.agrees; stays = λ clean sound lists numbered is. lasted_grown a b (f.stays clean sound lists numbered is) }

  pub letting_self : (hub : Hub O L) → GoesOnLettingGo outbox ledger hub hub
  letting_self = self_as (HasLasted outbox ledger) lasted_same

  pub letting_asks : (old new : Hub O L) → OnlyAsks outbox ledger old new → GoesOnLettingGo outbox ledger old new
  letting_asks = asks_as (HasLasted outbox ledger) lasted_same

  pub letting_join : (a b c : Hub O L) → GoesOnLettingGo outbox ledger a b → GoesOnLettingGo outbox ledger b c → GoesOnLettingGo outbox ledger a c
  letting_join = join_as (HasLasted outbox ledger) lasted_join
