-- The hub's restart: its stores, its rooms, and what is seen of it.
use Rattle.fare_record.specs.declared.item.Item.{Item}
use Rattle.fare_record.specs.declared.ack_item.AckItem.{AckItem}
use Rattle.std.proofs.Common.{◌≡◌, ℕ, List, [], length, None, Some, refl, sym, ap, ◌∙◌, subst, inr}
use Rattle.std.specs.Prelude.{Option, IfSome, map, option_map, slice_get, Vec}
use Rattle.std.specs.Global.{Global}
use Rattle.std.specs.Vec.{with_items}
use Rattle.std.proofs.lemmas.List.{with_items_is}
use Rattle.std.proofs.lemmas.Option.{slice_get-map, same_Some}
use Rattle.circular_buffer.specs.Buffer.{Buffer}
use Rattle.fare_scheme.specs.Values.{SchemeValue}
use Rattle.fare_scheme.specs.Words.{position_of_station, position_of_owner}
use Rattle.fare_store.specs.declared.fault.Fault.{Fault}
use Rattle.fare_store.specs.Standing.{Standing, Calls}
use Rattle.fare_store.specs.OutboxWords.{OutboxValue}
use Rattle.fare_store.specs.LedgerWords.{LedgerValue}
use Rattle.fare_side.specs.declared.owner.Owner.{Owner}
use Rattle.fare_side.specs.declared.station.Station.{Station}
use Rattle.fare_world.specs.declared.world.World.{World}
use Rattle.fare_event.specs.declared.reply.Reply.TheVariants.{Restarted}
use Rattle.fare_world.specs.System.{System}
use Rattle.fare_world.specs.Restarting.{fresh_owner, routed_again, hub_again, restart_hub}
use Rattle.fare_world.specs.Shown.{entry, IsStationOf, IsOwnerOf, OwnerShape, Shows}
use Rattle.fare_world.specs.Rooms.{HasOwnerRooms}
use Rattle.fare_side.specs.Resuming.{AreUptos}
use Rattle.fare_world.specs.Restarts.{Paired, IsOwnerAgain, IsAsked, AreAsked, IsStationAgain}
use Rattle.fare_world.specs.Whole.{Seen, owner_seen, station_shape, shape, AreLive, AreLawful, Follows}
use Rattle.fare_world.proofs.Showing.{Answers, owner_shown}
use Rattle.fare_world.proofs.Stores.{Goes, Beside, called, follows}
use Rattle.fare_world.proofs.ShowAgain.{IsAgain, owner_is_again, shown_restart_hub}
use Rattle.fare_world.proofs.Again.{station_again, asked_rooms, again_rooms, seen_again}

-- an owner that was asked and started again
pub record IsRestarted {L : Type 0} (led : L → Standing LedgerValue) (sc : SchemeValue) (x z : Owner L) : Type 0 where
  pub mid : Owner L
  pub asked : IsAsked led sc None x mid
  pub again : IsOwnerAgain sc mid z

pub all_restarted : {L : Type 0} (led : L → Standing LedgerValue) (sc : SchemeValue) (old mid new : List (Owner L)) → Paired (IsAsked led sc None) old mid → Paired (IsOwnerAgain sc) mid new → Paired (IsRestarted led sc) old new
all_restarted led sc old mid new first second = record {
  forth = λ k x e. let y = first.forth k x e in let z = second.forth k y.0 y.1 in (z.0, z.1, record { mid = y.0; asked = y.2; again = z.2 });
  back = λ k z e. let y = second.back k z e in let x = first.back k y.0 y.1 in (x.0, x.1, record { mid = y.0; asked = x.2; again = y.2 });
}

-- ROOMS
-- as many owners with as much room
pub sides_kept : {L : Type 0} (sc : SchemeValue) (P : Owner L → Owner L → Type 0) (old new : List (Owner L)) → Paired P old new → ((k : ℕ) (x y : Owner L) → P x y → HasOwnerRooms sc k x → HasOwnerRooms sc k y) → ((k : ℕ) (x : Owner L) → slice_get old k ≡ Some x → HasOwnerRooms sc k x) → (k : ℕ) (y : Owner L) → slice_get new k ≡ Some y → HasOwnerRooms sc k y
sides_kept sc P old new both keeps had k y e = let found = both.back k y e in keeps k found.0 y found.2 (had k found.0 found.1)

pub restarted_rooms : {L : Type 0} (led : L → Standing LedgerValue) (sc : SchemeValue) (k : ℕ) (x z : Owner L) → IsRestarted led sc x z → HasOwnerRooms sc k x → HasOwnerRooms sc k z
restarted_rooms led sc k x z is h = again_rooms sc k is.mid z is.again (asked_rooms sc k x is.mid is.asked.count is.asked.queue is.asked.forwarder h)

-- lines of as much room
pub lines_kept : (sc : SchemeValue) (uptos : List ℕ) (old new : List Station) → Paired (IsStationAgain sc uptos) old new → ((k : ℕ) (x : Station) → slice_get old k ≡ Some x → x.line.capacity ≡ sc.inbox_capacity) → (k : ℕ) (y : Station) → slice_get new k ≡ Some y → y.line.capacity ≡ sc.inbox_capacity
lines_kept sc uptos old new both had k y e = let found = both.back k y e in ap (λ (b : Buffer AckItem). b.capacity) found.2.line ∙ had k found.0 found.1

-- a list that was written as a slice
pub written : {X : Type 0} (v : Vec X Global) (ws : List X) → length ws ≡ length v.items → (with_items v ws).items ≡ ws
written v ws long = with_items_is v ws (long ∙ sym v.ok.0)

-- an entry of a mapped list is the image of one
unmapped : {X Y : Type 0} (f : X → Y) (xs : List X) (k : ℕ) (y : Y) → slice_get (map f xs) k ≡ Some y → (x : X) × (slice_get xs k ≡ Some x) × (f x ≡ y)
unmapped {X} {Y} f xs k y e = by (slice_get xs k) refl
  where
    by : (o : Option X) → slice_get xs k ≡ o → (x : X) × (slice_get xs k ≡ Some x) × (f x ≡ y)
    by None g = let none : None ≡ Some y = sym (slice_get-map f xs k ∙ ap (option_map f) g) ∙ e in absurd (cc)
    by (Some x) g = let some : Some (f x) ≡ Some y = sym (slice_get-map f xs k ∙ ap (option_map f) g) ∙ e in (x, g, same_Some (f x) y some)

-- STORES
module _ {O L : Type 0} (out : O → Standing OutboxValue) (led : L → Standing LedgerValue) where
  goes : (sc : SchemeValue) (faulted : Option Fault) (x y : Owner L) → IsAsked led sc faulted x y → Goes (led x.ledger) (led y.ledger) faulted
  goes sc faulted x y a = record { live = a.live; clean = a.clean; stays = a.stays; counts = a.counts }

  -- owners that were asked, up to one that failed, perhaps
  asked_beside : (sc : SchemeValue) (faulted : Option Fault) (old new : List (Owner L)) → Paired (IsAsked led sc faulted) old new → Beside (λ x y. Goes (led x) (led y) faulted) old new
  asked_beside sc faulted old new both = record {
    forth = λ k x e. let f = both.forth k x e in (f.0, f.1, goes sc faulted x f.0 f.2);
    back = λ k y e. let f = both.back k y e in (f.0, f.1, goes sc faulted f.0 y f.2);
  }

  -- the outbox was asked, and then an owner's ledger failed
  pub asked_follows : (old new : World O L) (sc : SchemeValue) (f : Fault) (did : Type 0) → Calls (out old.outbox) (out new.outbox) None did (λ v. ⊥) → AreAsked led sc old.owners.items new.owners.items (Some f) → Follows out led old new (Some f)
  asked_follows old new sc f did c all =
      follows out led old new (Some f) (record { live = c.live; clean = c.clean; stays = λ e. absurd (cc); counts = λ not. c.cause }) (asked_beside sc (Some f) old.owners.items new.owners.items all.each)
      (λ is. inr (all.cause is))

  pub asked_lawful : (old new : World O L) (sc : SchemeValue) (f : Fault) (did : Type 0) → Calls (out old.outbox) (out new.outbox) None did (λ v. ⊥) → AreAsked led sc old.owners.items new.owners.items (Some f) → AreLive out led new → AreLawful out led old → AreLawful out led new × did × ((k : ℕ) (x y : Owner L) → slice_get old.owners.items k ≡ Some x → slice_get new.owners.items k ≡ Some y → IsAsked led sc (Some f) x y → (led y.ledger).value ≡ (led x.ledger).value)
  asked_lawful old new sc f did c all live lawful =
      let is = c.value live.outbox_is lawful.outbox_is in (
        record {
          outbox_is = is.0;
          ledgers_are = λ k y e. let found = all.each.back k y e in (found.2.same (live.ledgers_are k y e) (lawful.ledgers_are k found.0 found.1)).0;
        },
        is.1,
        λ k x y e g a. (a.same (live.ledgers_are k y g) (lawful.ledgers_are k x e)).1,
      )

  -- all were asked, and started again
  restarted_goes : (sc : SchemeValue) (x z : Owner L) → IsRestarted led sc x z → Goes (led x.ledger) (led z.ledger) None
  restarted_goes sc x z is = subst (λ l. Goes (led x.ledger) (led l) None) (sym is.again.ledger) (goes sc None x is.mid is.asked)

  pub hub_follows : (old new : World O L) (sc : SchemeValue) (did : Type 0) → Calls (out old.outbox) (out new.outbox) None did (λ v. ⊥) → Paired (IsRestarted led sc) old.owners.items new.owners.items → Follows out led old new None
  hub_follows old new sc did c all =
      follows out led old new None (called (out old.outbox) (out new.outbox) None did (λ v. ⊥) c)
      (record {
        forth = λ k x e. let f = all.forth k x e in (f.0, f.1, restarted_goes sc x f.0 f.2);
        back = λ k z e. let f = all.back k z e in (f.0, f.1, restarted_goes sc f.0 z f.2);
      })
      (λ is. absurd (cc))

  restarted_same : (sc : SchemeValue) (x z : Owner L) (is : IsRestarted led sc x z) → (led z.ledger).live → (led x.ledger).lawful → (led is.mid.ledger).lawful × ((led is.mid.ledger).value ≡ (led x.ledger).value)
  restarted_same sc x z is live lawful = is.asked.same (subst (λ l. (led l).live) is.again.ledger live) lawful

  restarted_again : (sc : SchemeValue) (x z : Owner L) → IsRestarted led sc x z → (led z.ledger).live → (led x.ledger).lawful → IsAgain sc (owner_seen led x) (owner_seen led z)
  restarted_again sc x z is live lawful =
      let alive = subst (λ l. (led l).live) is.again.ledger live in
      seen_again led sc x is.mid z is.asked.forwarder (is.asked.told refl alive lawful) (is.asked.same alive lawful).1 is.again

  pub hub_lawful : (old new : World O L) (sc : SchemeValue) (did : Type 0) → Calls (out old.outbox) (out new.outbox) None did (λ v. ⊥) → Paired (IsRestarted led sc) old.owners.items new.owners.items → AreLive out led new → AreLawful out led old → AreLawful out led new
  hub_lawful old new sc did c all live lawful = record {
    outbox_is = (c.value live.outbox_is lawful.outbox_is).0;
    ledgers_are = λ k z e. let f = all.back k z e in subst (λ l. (led l).lawful) (sym f.2.again.ledger) (restarted_same sc f.0 z f.2 (live.ledgers_are k z e) (lawful.ledgers_are k f.0 f.1)).0;
  }

  -- what is seen of the owners
  pub owners_again : (old new : World O L) (sc : SchemeValue) → Paired (IsRestarted led sc) old.owners.items new.owners.items → AreLive out led new → AreLawful out led old → Paired (IsAgain sc) (map (owner_seen led) old.owners.items) (map (owner_seen led) new.owners.items)
  owners_again old new sc all live lawful = record {
    forth = λ k x e.
        let was = unmapped (owner_seen led) old.owners.items k x e in
        let f = all.forth k was.0 was.1 in
        (owner_seen led f.0, slice_get-map (owner_seen led) new.owners.items k ∙ ap (option_map (owner_seen led)) f.1, subst (λ q. IsAgain sc q (owner_seen led f.0)) was.2 (restarted_again sc was.0 f.0 f.2 (live.ledgers_are k f.0 f.1) (lawful.ledgers_are k was.0 was.1)));
    back = λ k y e.
        let now = unmapped (owner_seen led) new.owners.items k y e in
        let f = all.back k now.0 now.1 in
        (owner_seen led f.0, slice_get-map (owner_seen led) old.owners.items k ∙ ap (option_map (owner_seen led)) f.1, subst (IsAgain sc (owner_seen led f.0)) now.2 (restarted_again sc f.0 now.0 f.2 (live.ledgers_are k now.0 now.1) (lawful.ledgers_are k f.0 f.1)));
  }

-- WHAT IS SEEN
pub hub_shown : (w : Seen) (s : System) (stations : List Station) (inbox : List Item) (outbox : OutboxValue) (owners : List OwnerShape) (uptos : List ℕ) → Shows w.scheme (shape w) s → inbox ≡ [] → outbox ≡ w.outbox → AreUptos w.scheme w.outbox.upto uptos → Paired (IsStationAgain w.scheme uptos) w.stations stations → Paired (IsAgain w.scheme) w.owners owners
    → Answers w.scheme (shape (record w { stations = stations; inbox = inbox; hand = None; outbox = outbox; owners = owners })) (restart_hub w.scheme s) Restarted
hub_shown w s stations inbox outbox owners uptos sh empty same told each_station each_owner =
    subst (λ (q : List Item × OutboxValue). Answers w.scheme (shape (record w { stations = stations; inbox = q.0; hand = None; outbox = q.1; owners = owners })) (restart_hub w.scheme s) Restarted) (λ i. (sym empty i, sym same i))
    (shown_restart_hub w.scheme (shape w) s (λ station. option_map station_shape (entry (position_of_station w.scheme station) stations)) (λ o. entry (position_of_owner w.scheme o) owners) sh of_station of_owner)
  where
    of_station : (station : ℕ) → IfSome (option_map station_shape (entry (position_of_station w.scheme station) stations)) (IsStationOf w.scheme (hub_again w.scheme s).devices station [])
    of_station station = by (position_of_station w.scheme station) refl
      where
        by : (p : Option ℕ) → position_of_station w.scheme station ≡ p → IfSome (option_map station_shape (entry p stations)) (IsStationOf w.scheme (hub_again w.scheme s).devices station [])
        by None at = tt
        by (Some k) at = found (slice_get stations k) refl
          where
            found : (y : Option Station) → slice_get stations k ≡ y → IfSome (option_map station_shape y) (IsStationOf w.scheme (hub_again w.scheme s).devices station [])
            found None e = tt
            found (Some y) e =
                let was = each_station.back k y e in
                station_again w.scheme (shape w) s uptos station was.0 y sh told (ap (λ q. option_map station_shape (entry q w.stations)) at ∙ ap (option_map station_shape) was.1) was.2

    of_owner : (o : ℕ) → IfSome (entry (position_of_owner w.scheme o) owners) (IsOwnerOf w.scheme (hub_again w.scheme s).devices o fresh_owner (λ d. routed_again w.scheme (s.lanes o d)))
    of_owner o = by (position_of_owner w.scheme o) refl
      where
        by : (p : Option ℕ) → position_of_owner w.scheme o ≡ p → IfSome (entry p owners) (IsOwnerOf w.scheme (hub_again w.scheme s).devices o fresh_owner (λ d. routed_again w.scheme (s.lanes o d)))
        by None at = tt
        by (Some k) at = found (slice_get owners k) refl
          where
            found : (y : Option OwnerShape) → slice_get owners k ≡ y → IfSome y (IsOwnerOf w.scheme (hub_again w.scheme s).devices o fresh_owner (λ d. routed_again w.scheme (s.lanes o d)))
            found None e = tt
            found (Some y) e =
                let was = each_owner.back k y e in
                owner_is_again w.scheme s (hub_again w.scheme s).devices o was.0 y sh.system (λ d. refl) (owner_shown w.scheme (shape w) s o was.0 sh (ap (λ q. entry q w.owners) at ∙ was.1)) was.2
