use Rattle.std.proofs.Common.{List, ◌≡◌, ◌≤◌, ◌<◌, ◌==◌, Bool, true, false, ℕ, None, Some, Option, length, refl, sym, ap, ◌∙◌, arith, if◌then◌else◌}
use Rattle.std.specs.Prelude.{option_map, option_and_then, unwrap_or, slice_get}
use Rattle.std.proofs.lemmas.Option.{slice_get_read}
use Rattle.std.proofs.lemmas.Map.Entries.{length-keys_of}
use Rattle.fare_scheme.proofs.Slices.{item_at}
use Rattle.fare_route.specs.declared.cursor.Cursor.{Cursor}
use Rattle.fare_route.specs.Routing.{cursor_of, standing_at, first_day}
use Rattle.fare_scheme.specs.Values.{SchemeValue}
use Rattle.fare_scheme.specs.Words.{position_of_device}
use Rattle.fare_side.specs.Resuming.{place_of_cursor, place_at}
use Rattle.fare_side.proofs.Resuming.{one_resumed, none_resumed, all_resumed, others_stay}
use Rattle.fare_side.proofs.owner.Owner.restart.Goals as goal

pub loop-place-init : goal.loop-place-init
loop-place-init g c = record {
  ledger = refl;
  standings = refl;
  queue = c.clear.ensures;
  hand = refl;
  owner = refl;
  lanes = none_resumed c.args.scheme.now (place_at c.args.scheme.now c.args.self.now.standings.items) (place_of_cursor c.args.self.now.forwarder);
}

-- where a cursor stands
abbrev place_in : Option Cursor → Option (ℕ × ℕ)
place_in o = option_map (λ (z : Cursor). (z.lane, z.day)) o

-- a cursor that goes on at another place
place_moved : (o : Option Cursor) (b : Bool) (at : Cursor) (n : ℕ × ℕ) → ◌≡◌ {A = ℕ × ℕ} (at.lane, at.day) n → place_in (if b then option_map (λ _. at) o else o) ≡ (if b then option_map {T = ℕ × ℕ} (λ _. n) (place_in o) else place_in o)
place_moved None true at n is = refl
place_moved (Some x) true at n is = ap Some is
place_moved o false at n is = refl

-- where a device stands, by what was told of it
stands_at : (sc : SchemeValue) (standings : List (ℕ × Option ℕ)) (device k : ℕ) (p : ℕ × Option ℕ) → position_of_device sc device ≡ Some k → slice_get standings k ≡ Some p → ◌≡◌ {A = ℕ × ℕ} (p.0, first_day sc.start p.1) (place_at sc standings device)
stands_at sc standings device k p at read = sym (ap (λ q. unwrap_or (option_map (λ (z : ℕ × Option ℕ). (z.0, first_day sc.start z.1)) (option_and_then (slice_get standings) q)) (0, sc.start)) at ∙ ap (λ o. unwrap_or (option_map (λ (z : ℕ × Option ℕ). (z.0, first_day sc.start z.1)) o) (0, sc.start)) read)

pub loop-place-preserved : goal.loop-place-preserved
loop-place-preserved g c =
    let i = c.loop-place.invariant in
    let sc = c.args.scheme.now in
    let k = c.loop-place.place in
    let device = c.device-item.result in
    let standings = c.args.self.now.standings.items in
    let before = c.loop-place.self.forwarder in
    let at : position_of_device sc device ≡ Some k = c.devices-device-items.ensures.placed c.loop-place.place c.device-item.result (item_at c.devices-device-items.result.now c.loop-place.place c.device-item.result c.loop-place-test.true c.device-item.is) in
    let p = c.index-standing.result.now in
    let same : c.loop-place.self.standings.items ≡ standings = ap (λ v. v.items) i.standings in
    let within : k < length c.loop-place.self.standings.items = omega (arith, c.requires, ap length same, c.loop-place-test.true, ap length c.devices-device-items.ensures.value, length-keys_of c.args.scheme.now.devices) in
    let read : slice_get standings k ≡ Some p = ap (λ l. slice_get l k) (sym same) ∙ slice_get_read c.loop-place.self.standings.items (length c.loop-place.self.standings.items) k p refl within c.index-standing.ensures in
    let stands : (p.0, first_day sc.start p.1) ≡ place_at sc standings device = stands_at sc standings device k p at read in
    record {
      ledger = i.ledger;
      standings = i.standings;
      queue = i.queue;
      hand = i.hand;
      owner = c.resume.ensures.owner ∙ i.owner;
      lanes = one_resumed sc (place_at sc standings) (place_of_cursor c.args.self.now.forwarder) (place_of_cursor before) (place_of_cursor c.resume.new.self) k device at i.lanes
          (λ d. ap (option_map (λ (z : Cursor). (z.lane, z.day))) (c.resume.ensures.cursors d) ∙ place_moved (cursor_of before d) (d == device) (standing_at sc.start (p.0, p.1)) (place_at sc standings device) stands);
    }

pub returns-clause-ledger : goal.returns-clause-ledger
returns-clause-ledger g c = c.loop-place.invariant.ledger

pub returns-clause-standings : goal.returns-clause-standings
returns-clause-standings g c = c.loop-place.invariant.standings

pub returns-clause-queue : goal.returns-clause-queue
returns-clause-queue g c = c.loop-place.invariant.queue

pub returns-clause-hand : goal.returns-clause-hand
returns-clause-hand g c = c.loop-place.invariant.hand

pub returns-clause-owner : goal.returns-clause-owner
returns-clause-owner g c = c.loop-place.invariant.owner

pub returns-clause-resumed : goal.returns-clause-resumed
returns-clause-resumed g c =
    let all : length c.args.scheme.now.devices ≤ c.loop-place.place = omega (arith, c.loop-place-test.false, ap length c.devices-device-items.ensures.value, length-keys_of c.args.scheme.now.devices) in
    λ device known. c.loop-place.invariant.lanes device ∙ all_resumed c.args.scheme.now (place_at c.args.scheme.now c.args.self.now.standings.items) (place_of_cursor c.args.self.now.forwarder) c.loop-place.place device all known

pub returns-clause-others : goal.returns-clause-others
returns-clause-others g c = λ device none. c.loop-place.invariant.lanes device ∙ others_stay c.args.scheme.now (place_at c.args.scheme.now c.args.self.now.standings.items) (place_of_cursor c.args.self.now.forwarder) c.loop-place.place device none
