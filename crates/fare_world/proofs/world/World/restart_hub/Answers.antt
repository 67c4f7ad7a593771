use Rattle.fare_record.specs.declared.item.Item.{Item}
use Rattle.std.proofs.Common.{◌≡◌, ℕ, None, Some, List, length, refl, sym, ap, ◌∙◌, subst}
use Rattle.std.specs.Prelude.{Ok, Err, map, slice_get}
use Rattle.std.specs.Vec.{with_items}
use Rattle.circular_buffer.specs.Buffer.{Buffer}
use Rattle.fare_scheme.specs.Words.{position_of_owner}
use Rattle.fare_store.specs.Standing.{Reads, fault_of}
use Rattle.fare_side.specs.declared.owner.Owner.{Owner}
use Rattle.fare_side.specs.declared.station.Station.{Station}
use Rattle.fare_side.specs.Resuming.{place_of_cursor, AreUptos}
use Rattle.fare_world.specs.Restarts.{Paired, AreAsked, IsAsked, IsOwnerAgain, IsStationAgain}
use Rattle.fare_world.specs.Whole.{seen, owner_seen, shape}
use Rattle.fare_world.proofs.Again.{asked_rooms, entries_stay}
use Rattle.fare_world.proofs.Hub.{IsRestarted, all_restarted, sides_kept, restarted_rooms, lines_kept, written, asked_follows, asked_lawful, hub_follows, hub_lawful, owners_again, hub_shown}
use Rattle.fare_world.proofs.Stores.{stepped, outbox_failed, applied_err}
use Rattle.fare_world.proofs.world.World.restart_hub.Goals as goal

pub returns-in_err-ask_uptos : goal.returns-in_err-ask_uptos
returns-in_err-ask_uptos g c =
    let w = seen g.O.Outbox.standing g.L.Ledger.standing c.args.self.now in
    let did : Reads (g.O.Outbox.standing c.args.self.now.outbox) (g.O.Outbox.standing c.ask_uptos.new.outbox) (λ (_ : Unit {0}). AreUptos w.scheme w.outbox.upto c.ask_uptos.new.uptos) (Err c.in_err-ask_uptos.field-0.0) = c.in_err-ask_uptos.ensures.read in
    applied_err g.O.Outbox.standing g.L.Ledger.standing c.args.self.now _ _ c.from_residual.result _ c.from_residual.ensures.1 (outbox_failed g.O.Outbox.standing g.L.Ledger.standing c.args.self.now _ _ _ _ _ refl refl did (λ is i. record (shape w) { outbox = is.0 i }) (λ s sh. refl))

pub ask_owners-requires : goal.ask_owners-requires
ask_owners-requires g c = λ k x e. (c.args.self.now.rooms.sides k x (ap (λ l. slice_get l k) (sym c.deref_mut-2.ensures.value) ∙ e)).standings

pub invariant_of-self-in-Break-branch-2 : goal.invariant_of-self-in-Break-branch-2
invariant_of-self-in-Break-branch-2 g c =
    let old = c.args.self.now in
    let sc = c.args.self.now.scheme in
    let us = c.ask_uptos.new.uptos in
    let mid = c.ask_owners.new.owners in
    let us_long = c.ask_uptos.auto.uptos ∙ ap length c.deref_mut.ensures.value in
    let mid_long = c.ask_owners.auto.owners ∙ ap length c.deref_mut-2.ensures.value in
    let us_count : length (with_items old.uptos us).items ≡ length sc.devices = ap length (written old.uptos us us_long) ∙ us_long ∙ old.rooms.upto_count in
    let mid_is : (with_items old.owners mid).items ≡ mid = written old.owners mid mid_long in
    let both : Paired (IsAsked g.L.Ledger.standing sc (fault_of c.ask_owners.result)) old.owners.items mid = subst (λ (q : List (Owner g.row.L.Denot)). Paired (IsAsked g.L.Ledger.standing sc (fault_of c.ask_owners.result)) q mid) c.deref_mut-2.ensures.value c.ask_owners.ensures.each in
    record {
      rooms = record {
        start = old.rooms.start;
        device_count = old.rooms.device_count;
        station_count = old.rooms.station_count;
        owner_count = ap length mid_is ∙ mid_long ∙ old.rooms.owner_count;
        lanes = old.rooms.lanes;
        inbox_room = old.rooms.inbox_room;
        lines = old.rooms.lines;
        sides = λ k y e. sides_kept sc (IsAsked g.L.Ledger.standing sc (fault_of c.ask_owners.result)) old.owners.items mid both (λ j p q a h. asked_rooms sc j p q a.count a.queue a.forwarder h) old.rooms.sides k y (ap (λ l. slice_get l k) (sym mid_is) ∙ e);
        upto_count = us_count;
      };
    }

pub returns-in_err-ask_owners : goal.returns-in_err-ask_owners
returns-in_err-ask_owners g c =
    let w = seen g.O.Outbox.standing g.L.Ledger.standing c.args.self.now in
    let old = c.args.self.now in
    let sc = c.args.self.now.scheme in
    let f = c.in_err-ask_owners.field-0.0 in
    let mid = c.ask_owners.new.owners in
    let mid_is : (with_items old.owners mid).items ≡ mid = written old.owners mid (c.ask_owners.auto.owners ∙ ap length c.deref_mut-2.ensures.value) in
    let did : Reads (g.O.Outbox.standing old.outbox) (g.O.Outbox.standing c.ask_uptos.new.outbox) (λ (_ : Unit {0}). AreUptos sc w.outbox.upto c.ask_uptos.new.uptos) (Ok tt) = c.in_ok-ask_uptos.ensures.read in
    let all : AreAsked g.L.Ledger.standing sc old.owners.items (with_items old.owners mid).items (Some f) = subst (λ (q : List (Owner g.row.L.Denot) × List (Owner g.row.L.Denot)). AreAsked g.L.Ledger.standing sc q.0 q.1 (Some f)) (λ i. (c.deref_mut-2.ensures.value i, sym mid_is i)) c.in_err-ask_owners.ensures in
    applied_err g.O.Outbox.standing g.L.Ledger.standing old _ _ c.from_residual-in_err-ask_owners.result _ c.from_residual-in_err-ask_owners.ensures.1 (record {
      scheme = refl;
      fails = λ s w live. refl;
      seen_is = λ live lawful.
          let is = asked_lawful g.O.Outbox.standing g.L.Ledger.standing old _ sc f _ did all live lawful in
          let stay = entries_stay (IsAsked g.L.Ledger.standing sc (Some f)) (owner_seen g.L.Ledger.standing) old.owners.items (with_items old.owners mid).items all.each
          (λ k x y e h a. λ j. record { ledger = is.2 k x y e h a j; queue = (a.queue j).items; hand = a.hand j; cursors = place_of_cursor (a.forwarder j) }) in
          (is.0, λ i. record (shape w) { outbox = is.1.0 i; owners = λ o. stay (position_of_owner sc o) i });
      stores = asked_follows g.O.Outbox.standing g.L.Ledger.standing old _ sc f _ did all;
    })

pub restart_owners-requires : goal.restart_owners-requires
restart_owners-requires g c =
    let old = c.args.self.now in
    let sc = c.args.self.now.scheme in
    let us = c.ask_uptos.new.uptos in
    let mid = c.ask_owners.new.owners in
    let us_long = c.ask_uptos.auto.uptos ∙ ap length c.deref_mut.ensures.value in
    let mid_long = c.ask_owners.auto.owners ∙ ap length c.deref_mut-2.ensures.value in
    let us_count : length (with_items old.uptos us).items ≡ length sc.devices = ap length (written old.uptos us us_long) ∙ us_long ∙ old.rooms.upto_count in
    let mid_is : (with_items old.owners mid).items ≡ mid = written old.owners mid mid_long in
    let both : Paired (IsAsked g.L.Ledger.standing sc None) old.owners.items mid = subst (λ (q : List (Owner g.row.L.Denot)). Paired (IsAsked g.L.Ledger.standing sc None) q mid) c.deref_mut-2.ensures.value c.in_ok-ask_owners.ensures.each in
    λ k y e. (sides_kept sc (IsAsked g.L.Ledger.standing sc None) old.owners.items mid both (λ j p q a h. asked_rooms sc j p q a.count a.queue a.forwarder h) old.rooms.sides k y (ap (λ l. slice_get l k) (sym (c.deref_mut-4.ensures.value ∙ mid_is)) ∙ e)).standings

pub invariant_of-self-2 : goal.invariant_of-self-2
invariant_of-self-2 g c =
    let old = c.args.self.now in
    let sc = c.args.self.now.scheme in
    let us = c.ask_uptos.new.uptos in
    let mid = c.ask_owners.new.owners in
    let us_long = c.ask_uptos.auto.uptos ∙ ap length c.deref_mut.ensures.value in
    let mid_long = c.ask_owners.auto.owners ∙ ap length c.deref_mut-2.ensures.value in
    let us_count : length (with_items old.uptos us).items ≡ length sc.devices = ap length (written old.uptos us us_long) ∙ us_long ∙ old.rooms.upto_count in
    let mid_is : (with_items old.owners mid).items ≡ mid = written old.owners mid mid_long in
    let zs = c.restart_owners.new.owners in
    let sts = c.restart_stations.new.stations in
    let zs_long = c.restart_owners.auto.owners ∙ ap length c.deref_mut-4.ensures.value in
    let sts_long = c.restart_stations.auto.stations ∙ ap length c.deref_mut-3.ensures.value in
    let zs_is : (with_items (with_items old.owners mid) zs).items ≡ zs = written (with_items old.owners mid) zs zs_long in
    let sts_is : (with_items old.stations sts).items ≡ sts = written old.stations sts sts_long in
    let asked : Paired (IsAsked g.L.Ledger.standing sc None) old.owners.items mid = subst (λ (q : List (Owner g.row.L.Denot)). Paired (IsAsked g.L.Ledger.standing sc None) q mid) c.deref_mut-2.ensures.value c.in_ok-ask_owners.ensures.each in
    let again : Paired (IsOwnerAgain sc) mid zs = subst (λ (q : List (Owner g.row.L.Denot)). Paired (IsOwnerAgain sc) q zs) (c.deref_mut-4.ensures.value ∙ mid_is) c.restart_owners.ensures in
    let stations : Paired (IsStationAgain sc c.deref.result.now) old.stations.items sts = subst (λ (q : List Station). Paired (IsStationAgain sc c.deref.result.now) q sts) c.deref_mut-3.ensures.value c.restart_stations.ensures in
    record {
      rooms = record {
        start = old.rooms.start;
        device_count = old.rooms.device_count;
        station_count = ap length sts_is ∙ sts_long ∙ old.rooms.station_count;
        owner_count = ap length zs_is ∙ zs_long ∙ ap length mid_is ∙ mid_long ∙ old.rooms.owner_count;
        lanes = old.rooms.lanes;
        inbox_room = ap (λ (b : Buffer Item). b.capacity) c.clear.ensures ∙ old.rooms.inbox_room;
        lines = λ k y e. lines_kept sc c.deref.result.now old.stations.items sts stations old.rooms.lines k y (ap (λ l. slice_get l k) (sym sts_is) ∙ e);
        sides = λ k y e. sides_kept sc (IsRestarted g.L.Ledger.standing sc) old.owners.items zs (all_restarted g.L.Ledger.standing sc old.owners.items mid zs asked again) (restarted_rooms g.L.Ledger.standing sc) old.rooms.sides k y (ap (λ l. slice_get l k) (sym zs_is) ∙ e);
        upto_count = us_count;
      };
    }

pub returns : goal.returns
returns g c =
    let w = seen g.O.Outbox.standing g.L.Ledger.standing c.args.self.now in
    let old = c.args.self.now in
    let sc = c.args.self.now.scheme in
    let us = c.ask_uptos.new.uptos in
    let mid = c.ask_owners.new.owners in
    let zs = c.restart_owners.new.owners in
    let sts = c.restart_stations.new.stations in
    let us_is : c.deref.result.now ≡ us = c.deref.ensures.value ∙ written old.uptos us (c.ask_uptos.auto.uptos ∙ ap length c.deref_mut.ensures.value) in
    let mid_is : (with_items old.owners mid).items ≡ mid = written old.owners mid (c.ask_owners.auto.owners ∙ ap length c.deref_mut-2.ensures.value) in
    let zs_is : (with_items (with_items old.owners mid) zs).items ≡ zs = written (with_items old.owners mid) zs (c.restart_owners.auto.owners ∙ ap length c.deref_mut-4.ensures.value) in
    let sts_is : (with_items old.stations sts).items ≡ sts = written old.stations sts (c.restart_stations.auto.stations ∙ ap length c.deref_mut-3.ensures.value) in
    let did : Reads (g.O.Outbox.standing old.outbox) (g.O.Outbox.standing c.ask_uptos.new.outbox) (λ (_ : Unit {0}). AreUptos sc w.outbox.upto us) (Ok tt) = c.in_ok-ask_uptos.ensures.read in
    let asked : Paired (IsAsked g.L.Ledger.standing sc None) old.owners.items mid = subst (λ (q : List (Owner g.row.L.Denot)). Paired (IsAsked g.L.Ledger.standing sc None) q mid) c.deref_mut-2.ensures.value c.in_ok-ask_owners.ensures.each in
    let again : Paired (IsOwnerAgain sc) mid zs = subst (λ (q : List (Owner g.row.L.Denot)). Paired (IsOwnerAgain sc) q zs) (c.deref_mut-4.ensures.value ∙ mid_is) c.restart_owners.ensures in
    let owners : Paired (IsRestarted g.L.Ledger.standing sc) old.owners.items (with_items (with_items old.owners mid) zs).items = subst (Paired (IsRestarted g.L.Ledger.standing sc) old.owners.items) (sym zs_is) (all_restarted g.L.Ledger.standing sc old.owners.items mid zs asked again) in
    let stations : Paired (IsStationAgain sc us) w.stations (with_items old.stations sts).items = subst (λ (q : List ℕ × List Station × List Station). Paired (IsStationAgain sc q.0) q.1 q.2) (λ i. (us_is i, c.deref_mut-3.ensures.value i, sym sts_is i)) c.restart_stations.ensures in
    stepped g.O.Outbox.standing g.L.Ledger.standing old _ _ _ refl (hub_follows g.O.Outbox.standing g.L.Ledger.standing old _ sc _ did owners) (hub_lawful g.O.Outbox.standing g.L.Ledger.standing old _ sc _ did owners)
    (λ s live lawful sh.
    let is = did.value live.outbox_is lawful.outbox_is in
    hub_shown w s (with_items old.stations sts).items c.clear.new.self.items (g.O.Outbox.standing c.ask_uptos.new.outbox).value (map (owner_seen g.L.Ledger.standing) (with_items (with_items old.owners mid) zs).items) us sh (ap (λ (b : Buffer Item). b.items) c.clear.ensures) is.1.0 is.1.1 stations
    (owners_again g.O.Outbox.standing g.L.Ledger.standing old _ sc owners live lawful))
