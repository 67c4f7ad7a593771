-- What a forwarder hands on, and where it then stands.
use Rattle.std.proofs.Common.{◌≡◌, ℕ, length, None, Some, Bool, true, false, refl, sym, ap, ◌∙◌, subst}
use Rattle.std.specs.Prelude.{◌==◌, if◌then◌else◌, Option, is_some, option_map, unwrap_or, Result, Ok, Err, IfOk, OnErr}
use Rattle.std.proofs.lemmas.Bool.Decides.{Decides-eqb}
use Rattle.fare_record.specs.declared.item.Item.{Item}
use Rattle.fare_record.specs.declared.item.Item.TheVariants.{Tap, Stated}
use Rattle.fare_scheme.specs.Values.{SchemeValue}
use Rattle.fare_scheme.specs.Words.{lane_capacity_of, position_of_owner}
use Rattle.fare_route.specs.declared.cursor.Cursor.{Cursor}
use Rattle.fare_route.specs.Cursors.{moved, undone}
use Rattle.fare_route.specs.Routing.{cursor_of, IsNext, IsNextOf, changed}
use Rattle.fare_store.specs.OutboxWords.{OutboxValue}
use Rattle.fare_store.specs.Tables.{put}
use Rattle.fare_world.specs.Owning.{lane_room}
use Rattle.fare_world.specs.Rooms.{HasOwnerRooms}
use Rattle.fare_side.specs.declared.owner.Owner.{Owner}
use Rattle.fare_world.proofs.TableLemmas.{owners_apart}
use Rattle.fare_world.proofs.ShowForward.{cursor_past}

abbrev place_in : Option Cursor → Option (ℕ × ℕ)
place_in o = option_map (λ (z : Cursor). (z.lane, z.day)) o

-- CURSORS ARE KEPT
some_mapped : (b : Bool) (f : Cursor → Cursor) (o : Option Cursor) → is_some (if b then option_map f o else o) ≡ is_some o
some_mapped true f None = refl
some_mapped true f (Some x) = refl
some_mapped false f o = refl

pub some_changed : (f : Cursor → Cursor) (table : ℕ → Option Cursor) (device d : ℕ) → is_some (changed f table device d) ≡ is_some (table d)
some_changed f table device d = some_mapped (d == device) f (table d)

-- after a step that handed something on or nothing, or failed
pub some_after : {R : Type 0} (r : Result (Option Item) R) (old new : ℕ → Option Cursor) (device : ℕ) → IfOk r (λ item. (other : ℕ) → new other ≡ changed (moved item) old device other) → OnErr r ((other : ℕ) → new other ≡ old other) → (d : ℕ) → is_some (new d) ≡ is_some (old d)
some_after (Ok item) old new device moves stays d = ap is_some (moves d) ∙ some_changed (moved item) old device d
some_after (Err e) old new device moves stays d = ap is_some (stays d)

-- an owner's side with another forwarder, which knows the same devices
pub side_kept : {L : Type 0} (sc : SchemeValue) (k : ℕ) (x y : Owner L) → ((d : ℕ) → is_some (cursor_of y.forwarder d) ≡ is_some (cursor_of x.forwarder d)) → y.forwarder.owner ≡ x.forwarder.owner → y.queue.capacity ≡ x.queue.capacity → y.standings ≡ x.standings → HasOwnerRooms sc k x → HasOwnerRooms sc k y
side_kept sc k x y same owner capacity standings h = record {
  forwarder = record { owner = ap (position_of_owner sc) owner ∙ h.forwarder.owner; each = λ d known. same d ∙ h.forwarder.each d known };
  queue = ap (lane_capacity_of sc) owner ∙ h.queue ∙ ap Some (sym capacity);
  standings = ap (λ v. length v.items) standings ∙ h.standings;
}

-- an owner's forwarder is this owner's, and its queue has the owner's room
pub its_owner : {L : Type 0} (sc : SchemeValue) (k o : ℕ) (x : Owner L) → position_of_owner sc o ≡ Some k → HasOwnerRooms sc k x → x.forwarder.owner ≡ o
its_owner sc k o x at h = owners_apart sc x.forwarder.owner o k h.forwarder.owner at

pub its_room : {L : Type 0} (sc : SchemeValue) (k o : ℕ) (x : Owner L) → position_of_owner sc o ≡ Some k → HasOwnerRooms sc k x → lane_room sc o ≡ x.queue.capacity
its_room sc k o x at h = ap (λ n. unwrap_or n 0) (sym (ap (lane_capacity_of sc) (its_owner sc k o x at h)) ∙ h.queue)

-- WHAT COMES NEXT
pub next_for : (v : OutboxValue) (f o device : ℕ) (c : Option Cursor) (at : Cursor) (item : Option Item) → f ≡ o → c ≡ Some at → IsNextOf v f device c item → IsNext v o device at item
next_for v f o device c at item owner here next = subst (λ (q : ℕ × Option Cursor). IsNextOf v q.0 device q.1 item) (λ i. (owner i, here i)) next

-- WHERE IT STANDS
place_stays : (b : Bool) (f : Cursor → Cursor) (o : Option Cursor) → ((c : Cursor) → ◌≡◌ {A = ℕ × ℕ} ((f c).lane, (f c).day) (c.lane, c.day)) → place_in (if b then option_map f o else o) ≡ place_in o
place_stays true f None same = refl
place_stays true f (Some c) same = ap Some (same c)
place_stays false f o same = refl

-- nothing was handed on
pub places_stay : (old new : ℕ → Option Cursor) (device : ℕ) → ((d : ℕ) → new d ≡ changed (moved None) old device d) → (d : ℕ) → place_in (new d) ≡ place_in (old d)
places_stay old new device after d = ap place_in (after d) ∙ place_stays (d == device) (moved None) (old d) (λ c. refl)

-- what was handed on was put back
twice : (b : Bool) (f g : Cursor → Cursor) (o : Option Cursor) → (if b then option_map g (if b then option_map f o else o) else (if b then option_map f o else o)) ≡ (if b then option_map (λ c. g (f c)) o else o)
twice true f g None = refl
twice true f g (Some c) = refl
twice false f g o = refl

undone_place : (item : Item) (c : Cursor) → ◌≡◌ {A = ℕ × ℕ} ((undone (moved (Some item) c)).lane, (undone (moved (Some item) c)).day) (c.lane, c.day)
undone_place (Tap r) c = refl
undone_place (Stated s) c = refl

pub places_undone : (old mid new : ℕ → Option Cursor) (device : ℕ) (item : Item) → ((d : ℕ) → mid d ≡ changed (moved (Some item)) old device d) → ((d : ℕ) → new d ≡ changed undone mid device d) → (d : ℕ) → place_in (new d) ≡ place_in (old d)
places_undone old mid new device item first second d =
    ap place_in (second d ∙ ap (λ o. if d == device then option_map undone o else o) (first d) ∙ twice (d == device) (moved (Some item)) undone (old d))
    ∙ place_stays (d == device) (λ c. undone (moved (Some item) c)) (old d) (undone_place item)

-- an item was handed on
moved_place : (item : Item) (c : Cursor) → ◌≡◌ {A = ℕ × ℕ} ((moved (Some item) c).lane, (moved (Some item) c).day) (cursor_past (c.lane, c.day) item)
moved_place (Tap q) c = refl
moved_place (Stated s) c = refl

pub places_moved : (old new : ℕ → Option Cursor) (device : ℕ) (c : Cursor) (item : Item) → old device ≡ Some c → ((d : ℕ) → new d ≡ changed (moved (Some item)) old device d) → (d : ℕ) → place_in (new d) ≡ put (λ e. place_in (old e)) device (Some (cursor_past (c.lane, c.day) item)) d
places_moved old new device c item here after d = ap place_in (after d) ∙ by (d == device) (old d) (λ same. ap old ((Decides-eqb d device).0 same) ∙ here)
  where
    by : (b : Bool) (o : Option Cursor) → (b ≡ true → o ≡ Some c) → place_in (if b then option_map (moved (Some item)) o else o) ≡ (if b then Some (cursor_past (c.lane, c.day) item) else place_in o)
    by true o there = ap (λ q. place_in (option_map (moved (Some item)) q)) (there refl) ∙ ap Some (moved_place item c)
    by false o there = refl
