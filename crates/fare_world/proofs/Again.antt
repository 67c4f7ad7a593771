-- Owners and stations that start again, one by one and all of them.
use Rattle.std.proofs.Common.{◌≡◌, ◌+◌, ℕ, List, [], length, None, Some, Bool, true, false, refl, sym, ap, ◌∙◌, subst}
use Rattle.std.specs.Prelude.{if◌then◌else◌, Option, IfSome, is_some, map, option_map, slice_get}
use Rattle.std.proofs.lemmas.Option.{slice_get-map}
use Rattle.circular_buffer.specs.Buffer.{Buffer}
use Rattle.fare_record.specs.declared.item.Item.{Item}
use Rattle.fare_record.specs.declared.ack_item.AckItem.{AckItem}
use Rattle.fare_scheme.specs.Values.{SchemeValue}
use Rattle.fare_scheme.specs.Words.{station_of, lane_capacity_of, position_of_owner}
use Rattle.fare_collector.specs.Collecting.{next_in, is_id}
use Rattle.fare_route.specs.declared.cursor.Cursor.{Cursor}
use Rattle.fare_route.specs.declared.forwarder.Forwarder.{Forwarder}
use Rattle.fare_route.specs.Routing.{cursor_of}
use Rattle.fare_store.specs.LedgerWords.{LedgerValue}
use Rattle.fare_store.specs.Standing.{Standing}
use Rattle.fare_side.specs.declared.owner.Owner.{Owner}
use Rattle.fare_side.specs.declared.station.Station.{Station}
use Rattle.fare_world.specs.System.{System}
use Rattle.fare_world.specs.Arriving.{next_at}
use Rattle.fare_world.specs.Restarting.{hub_again}
use Rattle.fare_world.specs.Shown.{entry, IsAnswerOf, IsStationOf, Each2, Shape, Shows}
use Rattle.fare_world.specs.Rooms.{IsForwarder, HasOwnerRooms}
use Rattle.fare_side.specs.Resuming.{place_of_cursor, place_at, upto_at, AreUptos, AreStandings}
use Rattle.fare_world.specs.Restarts.{Paired, IsOwnerAgain, IsStationAgain}
use Rattle.fare_world.specs.Whole.{owner_seen, station_shape}
use Rattle.fare_world.proofs.Known.{no_place, placed}
use Rattle.fare_world.proofs.Showing.{station_shown}
use Rattle.fare_side.proofs.Resuming.{uptos_at, standings_at}
use Rattle.fare_world.proofs.ShowAgain.{IsAgain}

-- ROOMS
-- an owner whose ledger was asked has as much room
pub asked_rooms : {L : Type 0} (sc : SchemeValue) (k : ℕ) (x y : Owner L) → length y.standings.items ≡ length x.standings.items → y.queue ≡ x.queue → y.forwarder ≡ x.forwarder → HasOwnerRooms sc k x → HasOwnerRooms sc k y
asked_rooms sc k x y count queue forwarder h = record {
  forwarder = subst (IsForwarder sc k) (sym forwarder) h.forwarder;
  queue = ap (λ (f : Forwarder). lane_capacity_of sc f.owner) forwarder ∙ h.queue ∙ ap (λ (q : Buffer Item). Some q.capacity) (sym queue);
  standings = count ∙ h.standings;
}

some_place : (o : Option Cursor) → is_some {T = ℕ × ℕ} (option_map (λ (z : Cursor). (z.lane, z.day)) o) ≡ is_some o
some_place None = refl
some_place (Some c) = refl

some_other : (o : Option (ℕ × ℕ)) (n : ℕ × ℕ) → is_some (option_map (λ _. n) o) ≡ is_some o
some_other None n = refl
some_other (Some m) n = refl

-- and so has one that starts again
pub again_rooms : {L : Type 0} (sc : SchemeValue) (k : ℕ) (x y : Owner L) → IsOwnerAgain sc x y → HasOwnerRooms sc k x → HasOwnerRooms sc k y
again_rooms sc k x y again h = record {
  forwarder = record {
    owner = ap (position_of_owner sc) again.owner ∙ h.forwarder.owner;
    each = λ d known. sym (some_place (cursor_of y.forwarder d)) ∙ ap is_some (again.resumed d known) ∙ some_other (place_of_cursor x.forwarder d) (place_at sc x.standings.items d) ∙ some_place (cursor_of x.forwarder d) ∙ h.forwarder.each d known;
  };
  queue = ap (lane_capacity_of sc) again.owner ∙ h.queue ∙ ap (λ (q : Buffer Item). Some q.capacity) (sym again.queue);
  standings = ap (λ v. length v.items) again.standings ∙ h.standings;
}

-- WHAT IS SEEN OF AN OWNER
mapped : (o : Option (ℕ × ℕ)) (m n : ℕ × ℕ) → option_map (λ _. m) o ≡ Some n → n ≡ m
mapped None m n e = absurd (cc)
mapped (Some q) m n e = let same : m ≡ n = cc in sym same

-- asked, and then started again
pub seen_again : {L : Type 0} (led : L → Standing LedgerValue) (sc : SchemeValue) (x y z : Owner L) → y.forwarder ≡ x.forwarder → AreStandings sc (led x.ledger).value y.standings.items → (led y.ledger).value ≡ (led x.ledger).value → IsOwnerAgain sc y z → IsAgain sc (owner_seen led x) (owner_seen led z)
seen_again led sc x y z forwarder told value again = record {
  ledger = ap (λ l. (led l).value) again.ledger ∙ value;
  queue = ap (λ (q : Buffer Item). q.items) again.queue;
  hand = again.hand;
  resumed = λ d n known e. mapped (place_of_cursor y.forwarder d) (place_at sc y.standings.items d) n (sym (again.resumed d known) ∙ e) ∙ standings_at sc (led x.ledger).value y.standings.items d told known;
}

-- ENTRIES
-- the one that a position has in the one list has one in the other
pub entry_at : {X Y A : Type 0} (P : X → Y → Type 0) (Q : A → Type 0) (f : Y → A) (old : List X) (new : List Y) (position : Option ℕ) → Paired P old new → ((k : ℕ) (x : X) (y : Y) → position ≡ Some k → slice_get old k ≡ Some x → slice_get new k ≡ Some y → P x y → Q (f y)) → IfSome (entry position (map f new)) Q
entry_at {X} {Y} {A} P Q f old new None both each = tt
entry_at {X} {Y} {A} P Q f old new (Some k) both each = subst (λ o. IfSome o Q) (sym (slice_get-map f new k)) (by (slice_get new k) refl)
  where
    by : (o : Option Y) → slice_get new k ≡ o → IfSome (option_map f o) Q
    by None e = tt
    by (Some y) e = let found = both.back k y e in each k found.0 y refl found.1 e found.2

-- what is seen of all of them is what was, where it is of each
pub entries_stay : {X A : Type 0} (P : X → X → Type 0) (f : X → A) (old new : List X) → Paired P old new → ((k : ℕ) (x y : X) → slice_get old k ≡ Some x → slice_get new k ≡ Some y → P x y → f y ≡ f x) → (position : Option ℕ) → entry position (map f new) ≡ entry position (map f old)
entries_stay {X} {A} P f old new both each None = refl
entries_stay {X} {A} P f old new both each (Some k) = slice_get-map f new k ∙ by (slice_get old k) (slice_get new k) refl refl ∙ sym (slice_get-map f old k)
  where
    by : (o p : Option X) → slice_get old k ≡ o → slice_get new k ≡ p → option_map f (slice_get new k) ≡ option_map f (slice_get old k)
    by None None e g = ap (option_map f) (g ∙ sym e)
    by (Some x) p e g = let found = both.forth k x e in ap (option_map f) found.1 ∙ ap Some (each k x found.0 e found.1 found.2) ∙ sym (ap (option_map f) e)
    by None (Some y) e g = let found = both.back k y g in let never : None ≡ Some found.0 = sym e ∙ found.1 in absurd (cc)

-- ONE AFTER THE OTHER
pub paired_then : {X Y Z : Type 0} (P : X → Y → Type 0) (Q : Y → Z → Type 0) (old : List X) (mid : List Y) (new : List Z) → Paired P old mid → Paired Q mid new → Paired (λ x z. (y : Y) × P x y × Q y z) old new
paired_then P Q old mid new first second = record {
  forth = λ k x e. let y = first.forth k x e in let z = second.forth k y.0 y.1 in (z.0, z.1, (y.0, y.2, z.2));
  back = λ k z e. let y = second.back k z e in let x = first.back k y.0 y.1 in (x.0, x.1, (y.0, x.2, y.2));
}

-- STATIONS
-- the link that a station accepts next of a device that is resumed
next_resumed : (b : Bool) (next upto u : ℕ) → u ≡ upto → option_map (λ _. u + 1) (if b then Some next else None) ≡ (if b then Some (upto + 1) else None)
next_resumed true next upto u is = ap (λ n. Some (n + 1)) is
next_resumed false next upto u is = refl

none_next : (o : Option ℕ) (station m n : ℕ) → o ≡ None → (if is_id o station then Some m else None) ≡ (if is_id o station then Some n else None)
none_next None station m n e = refl
none_next (Some q) station m n e = absurd (cc)

pub station_again : (sc : SchemeValue) (h : Shape) (s : System) (uptos : List ℕ) (station : ℕ) (x y : Station) → Shows sc h s → AreUptos sc h.outbox.upto uptos → h.stations station ≡ Some (station_shape x) → IsStationAgain sc uptos x y → IsStationOf sc (hub_again sc s).devices station [] (station_shape y)
station_again sc h s uptos station x y w told here again = record {
  nexts = λ d. next d (station_of sc d) refl;
  waits = subst (Each2 IsAnswerOf []) (sym (ap (λ (b : Buffer AckItem). b.items) again.line)) tt;
}
  where
    shown : IsStationOf sc s.devices station (s.lines station) (station_shape x)
    shown = station_shown sc h s station (station_shape x) w here

    next : (d : ℕ) (o : Option ℕ) → station_of sc d ≡ o → next_in y.collector d ≡ next_at sc (hub_again sc s).devices station d
    next d None of = again.others d (no_place sc d of) ∙ shown.nexts d ∙ none_next (station_of sc d) station (s.devices d).next ((s.devices d).upto + 1) of
    next d (Some q) of =
        let known = placed sc d q of in
        again.resumed d known ∙ ap (option_map (λ _. upto_at sc uptos d + 1)) (shown.nexts d)
        ∙ next_resumed (is_id (station_of sc d) station) (s.devices d).next (s.devices d).upto (upto_at sc uptos d) (uptos_at sc h.outbox.upto uptos d told known ∙ w.upto d)
