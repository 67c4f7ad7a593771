-- Sessions one after the other are a run of events.
use Rattle.std.proofs.Common.{◌≡◌, ◌+◌, ℕ, ◌≤◌, List, [], ◌∷◌, ◌++◌, take, map, Bool, true, false, Ok, refl, sym, ap, ◌∙◌, subst, append_assoc}
use Rattle.std.specs.Prelude.{◌==◌, if◌then◌else◌}
use Rattle.std.proofs.lemmas.List.{append-nil}
use Rattle.fare_record.specs.Lanes.{part, day_count}
use Rattle.fare_scheme.specs.Values.{SchemeValue}
use Rattle.fare_store.specs.Tables.{put}
use Rattle.fare_world.specs.System.{Packet, DeviceState, LaneState, System}
use Rattle.fare_side.specs.OpenDays.{is_closed}
use Rattle.fare_world.specs.Knowing.{knows_owner}
use Rattle.fare_world.specs.Steps.{step, after}
use Rattle.fare_world.specs.Kept.{IsSystem}
use Rattle.fare_world.specs.Shown.{count_of}
use Rattle.fare_store.specs.LedgerWords.{LedgerValue, with_close, with_retired}
use Rattle.fare_refinement.specs.ShownStores.{ShowsLedger}
use Rattle.fare_history.specs.Serving.{given_all}
use Rattle.fare_refinement.specs.Served.{IsBeside, service_events, IsServed}
use Rattle.fare_history.specs.Gathering.{all_answers}
use Rattle.fare_history.specs.Stores.{StoresValue}
use Rattle.fare_refinement.specs.Gathered.{Given, sent_by, told_by, packet_for, IsGiven, packet_answered, HasStations, gathering_events, SameTaps, IsGathered}
use Rattle.fare_refinement.specs.Sessions.{ShowsStores, Session, Collects, Serves_owner, Closes_day, Retires_lane, stores_after, stores_after_all, IsSession, AreSessions, session_events, sessions_events, HasLaneRoom}
use Rattle.fare_event.specs.declared.event.Event.TheVariants as event
use Rattle.fare_event.specs.declared.reply.Refusal.TheVariants.{UnknownDevice, UnknownOwner, Retired}
use Rattle.fare_event.specs.declared.reply.Reply.{Reply}
use Rattle.fare_event.specs.declared.reply.Reply.TheVariants as reply
use Rattle.fare_owner.specs.CloseJudged.{close_judged}
use Rattle.fare_owner.specs.RetireJudged.{retire_judged}
use Rattle.fare_world.specs.Owning.{closed_day, close_by, close_on, retired_lane}
use Rattle.fare_refinement.proofs.ServeSteps.{system_answered, outbox_same, beside_self, beside_lanes}
use Rattle.fare_refinement.proofs.ShownCalls.{ledger_closes, ledger_retires}
use Rattle.fare_world.proofs.Lists.{AllByRecursion-weaken}
use Rattle.fare_store.proofs.Entries.{put_apart, put2_all}
use Rattle.fare_refinement.proofs.ServeTie.{after-append, service_is_run}
use Rattle.fare_refinement.proofs.GatherSteps.{packet_stays, named_stays}
use Rattle.fare_refinement.proofs.GatherTie.{gathering_is_run}

-- a system with the taps of another, and its packets and maybe more
pub record Follows (s t : System) : Type 0 where
  pub same : (d : ℕ) → SameTaps (s.devices d) (t.devices d)
  pub more : List Packet
  pub air : t.air ≡ s.air ++ more

still : (u v w : DeviceState) → SameTaps u v → SameTaps v w → SameTaps u w
still u v w one two = record { taps = two.taps ∙ one.taps; day = two.day ∙ one.day }

given_still : (s t : System) → Follows s t → (g : Given) → IsGiven s g → IsGiven t g
given_still s t follows g is = record { sent = packet_stays s t g.packet follows.more (packet_for g.item) follows.air is.sent; named = named_stays s.devices t.devices follows.same g.item is.named }

-- another owner's ledger shows the same
pub ledger_beside : (sc : SchemeValue) (s t : System) (o p : ℕ) (l : LedgerValue) → IsBeside o s t → (p == o) ≡ false → ShowsLedger sc s p l → ShowsLedger sc t p l
ledger_beside sc s t o p l beside other is = record {
  ledger = is.ledger;
  taken = λ d. is.taken d ∙ sym (λ i. take (beside.lanes p other i d).took (part p (beside.devices i d).taps));
  stated = λ d day. is.stated d day ∙ sym (λ i. count_of ((beside.lanes p other i d).stated day) (part p (beside.devices i d).taps) day);
  closed = λ d. is.closed d ∙ sym (λ i. (beside.lanes p other i d).closed);
  retired = λ d. is.retired d ∙ sym (λ i. (beside.lanes p other i d).retired);
}

-- where a session leads, and what then follows the first system
pub record Leads (sc : SchemeValue) (s0 : System) (h : StoresValue) (t : System) : Type 0 where
  pub system : IsSystem sc t
  pub stores : ShowsStores sc t h
  pub follows : Follows s0 t

-- what may be retired isn't
unretired : (known retired : Bool) → retire_judged known retired ≡ Ok tt → retired ≡ false
unretired true false is = refl
unretired true true is = absurd (cc)
unretired false retired is = absurd (cc)

session_leads : (sc : SchemeValue) (s0 s : System) (h : StoresValue) (q : Session) → HasStations sc → HasLaneRoom sc → 1 ≤ sc.inbox_capacity → IsSession sc s0 h q → Leads sc s0 h s → Leads sc s0 (stores_after h q) (after sc s (session_events sc q))
session_leads sc s0 s h (Collects g) stations lanes room is leads = record {
  system = done.system;
  stores = record { outbox = done.outbox; ledgers = λ o known. done.ledgers o (h.ledgers o) (leads.stores.ledgers o known) };
  follows = record { same = λ d. still (s0.devices d) (s.devices d) ((after sc s (gathering_events sc g)).devices d) (leads.follows.same d) (done.taps d); more = leads.follows.more ++ map packet_answered (all_answers (told_by g)); air = done.air ∙ ap (λ l. l ++ map packet_answered (all_answers (told_by g))) leads.follows.air ∙ append_assoc s0.air leads.follows.more (map packet_answered (all_answers (told_by g))) };
}
  where
    done : IsGathered sc h.outbox g s (after sc s (gathering_events sc g))
    done = gathering_is_run sc s h.outbox g leads.system stations room leads.stores.outbox (AllByRecursion-weaken (IsGiven s0) (IsGiven s) (given_still s0 s leads.follows) (sent_by g) is.0) is.1
session_leads sc s0 s h (Serves_owner o v) stations lanes room is leads = record {
  system = done.system;
  stores = record {
    outbox = done.outbox;
    ledgers = put_apart (λ p l. knows_owner sc p ≡ true → ShowsLedger sc (after sc s (service_events o v)) p l) h.ledgers o (given_all (h.ledgers o) v.taken) (λ p other known. ledger_beside sc s (after sc s (service_events o v)) o p (h.ledgers p) done.beside other (leads.stores.ledgers p known)) (λ known. done.ledger);
  };
  follows = record { same = λ d. subst (λ f. SameTaps (s0.devices d) (f d)) (sym done.beside.devices) (leads.follows.same d); more = leads.follows.more; air = done.beside.air ∙ leads.follows.air };
}
  where
    done : IsServed sc o h.outbox (h.ledgers o) v s (after sc s (service_events o v))
    done = service_is_run sc s o h.outbox (h.ledgers o) v leads.system is.0 (lanes o is.0) leads.stores.outbox (leads.stores.ledgers o is.0) is.1
session_leads sc s0 s h (Closes_day o d day) stations lanes room is leads = subst (λ z. Leads sc s0 (stores_after h (Closes_day o d day)) z.0) (sym here) (record {
  system = system_answered sc s (event.Close o d day) y here leads.system;
  stores = record {
    outbox = outbox_same s y.0 h.outbox refl (put2_all (λ p j (a : LaneState). a.gone ≡ (s.lanes p j).gone) s.lanes o d new (λ p j. refl) refl) refl refl refl leads.stores.outbox;
    ledgers = put_apart (λ p l. knows_owner sc p ≡ true → ShowsLedger sc y.0 p l) h.ledgers o (with_close d (h.ledgers o)) (λ p other known. ledger_beside sc s y.0 o p (h.ledgers p) (beside_lanes o s s (put (s.lanes o) d new) (beside_self o s)) other (leads.stores.ledgers p known)) (λ known. ledger_closes sc s o d (h.ledgers o) l);
  };
  follows = record { same = leads.follows.same; more = leads.follows.more; air = leads.follows.air };
})
  where
    l : ShowsLedger sc s o (h.ledgers o)
    l = leads.stores.ledgers o is.0

    new : LaneState
    new = record (s.lanes o d) { closed = (s.lanes o d).closed + 1 }

    y : System × Reply
    y = (closed_day s o d, reply.Closed d day)

    here : step sc s (event.Close o d day) ≡ y
    here =
        (λ i. if is.0 i then (if is.1 i then close_on sc s o d day else (s, reply.Refused UnknownDevice)) else (s, reply.Refused UnknownOwner))
        ∙ (λ i. close_by s o d day (close_judged (sym (l.stated d day) i) (is_closed (sym l.ledger.made.start i) (sym (l.closed d) i) day) (day == sym l.ledger.made.start i + sym (l.closed d) i) (day_count (sym (l.taken d) i) day) (sym (l.retired d) i)))
        ∙ ap (close_by s o d day) is.2
session_leads sc s0 s h (Retires_lane o d) stations lanes room is leads = subst (λ z. Leads sc s0 (stores_after h (Retires_lane o d)) z.0) (sym here) (record {
  system = system_answered sc s (event.Retire o d) y here leads.system;
  stores = record {
    outbox = outbox_same s y.0 h.outbox refl (put2_all (λ p j (a : LaneState). a.gone ≡ (s.lanes p j).gone) s.lanes o d new (λ p j. refl) refl) refl refl refl leads.stores.outbox;
    ledgers = put_apart (λ p l. knows_owner sc p ≡ true → ShowsLedger sc y.0 p l) h.ledgers o (with_retired d (h.ledgers o)) (λ p other known. ledger_beside sc s y.0 o p (h.ledgers p) (beside_lanes o s s (put (s.lanes o) d new) (beside_self o s)) other (leads.stores.ledgers p known)) (λ known. ledger_retires sc s o d (h.ledgers o) l);
  };
  follows = record { same = leads.follows.same; more = leads.follows.more; air = leads.follows.air };
})
  where
    l : ShowsLedger sc s o (h.ledgers o)
    l = leads.stores.ledgers o is.0

    new : LaneState
    new = record (s.lanes o d) { retired = true }

    y : System × Reply
    y = (retired_lane s o d, reply.Retired d)

    works : (s.lanes o d).retired ≡ false
    works = sym (l.retired d) ∙ unretired ((h.ledgers o).knows d) ((h.ledgers o).retired d) is.2

    here : step sc s (event.Retire o d) ≡ y
    here = λ i. if is.0 i then (if is.1 i then (if works i then (s, reply.Refused Retired) else y) else (s, reply.Refused UnknownDevice)) else (s, reply.Refused UnknownOwner)

sessions_lead : (sc : SchemeValue) (s0 s : System) (h : StoresValue) (qs : List Session) → HasStations sc → HasLaneRoom sc → 1 ≤ sc.inbox_capacity → AreSessions sc s0 h qs → Leads sc s0 h s → Leads sc s0 (stores_after_all h qs) (after sc s (sessions_events sc qs))
sessions_lead sc s0 s h [] stations lanes room is leads = leads
sessions_lead sc s0 s h (q ∷ qs) stations lanes room is leads =
    subst (Leads sc s0 (stores_after_all h (q ∷ qs))) (sym (after-append sc s (session_events sc q) (sessions_events sc qs)))
    (sessions_lead sc s0 (after sc s (session_events sc q)) (stores_after h q) qs stations lanes room is.1 (session_leads sc s0 s h q stations lanes room is.0 leads))

pub sessions_are_run : (sc : SchemeValue) (s : System) (h : StoresValue) (qs : List Session) → IsSystem sc s → HasStations sc → HasLaneRoom sc → 1 ≤ sc.inbox_capacity → ShowsStores sc s h → AreSessions sc s h qs → IsSystem sc (after sc s (sessions_events sc qs)) × ShowsStores sc (after sc s (sessions_events sc qs)) (stores_after_all h qs)
sessions_are_run sc s h qs is stations lanes room shows sessions =
    let all = sessions_lead sc s s h qs stations lanes room sessions (record { system = is; stores = shows; follows = record { same = λ d. record { taps = refl; day = refl }; more = []; air = sym (append-nil s.air) } }) in
    (all.system, all.stores)
