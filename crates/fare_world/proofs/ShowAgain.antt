-- What a world shows after an owner's restart, and after the hub's.
use Rattle.std.proofs.lemmas.Bool.Decides.{nat_tests}
use Rattle.std.proofs.Common.{◌≡◌, ℕ, zero, suc, ◌+◌, ◌-◌, [], length, take, Some, None, refl, sym, ap, ◌∙◌, subst, arith, false}
use Rattle.std.specs.Prelude.{◌==◌, if◌then◌else◌, Option, IsSome, IfSome, is_some}
use Rattle.std.proofs.lemmas.List.{length-take-le}
use Rattle.fare_record.specs.Lanes.{part}
use Rattle.fare_scheme.specs.Values.{SchemeValue}
use Rattle.fare_scheme.specs.Words.{position_of_device, position_of_owner}
use Rattle.fare_route.specs.Routing.{first_day}
use Rattle.fare_store.specs.LedgerWords.{closed_through}
use Rattle.fare_event.specs.declared.event.Event.TheVariants as event
use Rattle.fare_event.specs.declared.reply.Refusal.TheVariants.{UnknownOwner}
use Rattle.fare_event.specs.declared.reply.Reply.{Reply}
use Rattle.fare_event.specs.declared.reply.Reply.TheVariants.{Refused, Restarted}
use Rattle.fare_store.specs.Tables.{put}
use Rattle.fare_world.specs.System.{DeviceState, LaneState, System, numbered_for}
use Rattle.fare_world.specs.Restarting.{resumed_device, fresh_owner, routed_again, owner_again, restart_owner, hub_again, restart_hub}
use Rattle.fare_world.specs.Shown.{IsPacketOf, IsRoutedOf, Each2, Both, IsStationOf, IsLedgerOf, IsOwnerOf, count_of, OwnerShape, StationShape, Shape, Shows}
use Rattle.fare_world.specs.Kept.{IsSystem}
use Rattle.fare_world.proofs.Lists.{Each2-weaken}
use Rattle.fare_world.proofs.Kept.{moves_step}
use Rattle.fare_world.proofs.KeptParts.{took_numbered}
use Rattle.fare_world.proofs.Showing.{Answers, answers_by, grows_same, packet_grows, same_device, owner_shown}
use Rattle.fare_world.proofs.ShowForward.{shows_owner_put}

-- AN OWNER
pub shown_restart_owner_unknown : (sc : SchemeValue) (h : Shape) (s : System) (o : ℕ) → Shows sc h s → position_of_owner sc o ≡ None → Answers sc h (restart_owner sc s o) (Refused UnknownOwner)
shown_restart_owner_unknown sc h s o w none =
    answers_by sc h (Refused UnknownOwner) (restart_owner sc s o) (s, Refused UnknownOwner) (ap (λ p. if is_some p then (owner_again sc s o, Restarted) else (s, Refused UnknownOwner)) none) refl w

-- an owner's side that starts again, beside what it was
pub record IsAgain (sc : SchemeValue) (x y : OwnerShape) : Type 0 where
  pub ledger : y.ledger ≡ x.ledger
  pub queue : y.queue ≡ []
  pub hand : y.hand ≡ None
  pub resumed : (device : ℕ) (p : ℕ × ℕ) → IsSome (position_of_device sc device) → y.cursors device ≡ Some p → p ≡ (length (x.ledger.taken device), first_day sc.start (closed_through x.ledger device))

-- the day after the last closed one, or the first where none is closed
day_behind : (first start closed : ℕ) → start ≡ first → first_day first (if closed == 0 then None else Some (start + closed - 1)) ≡ first + closed
day_behind first start zero same = omega arith
day_behind first start (suc n) same =
    let off : (suc n == 0) ≡ false = grind (arith, nat_tests) in
    ap (λ b. first_day first (if b then None else Some (start + suc n - 1))) off ∙ omega (arith, same)

-- its cursors stand behind what was taken and closed
cursor_again : (sc : SchemeValue) (s : System) (o : ℕ) (x y : OwnerShape) (device : ℕ) (p : ℕ × ℕ) → IsSystem sc s → IsOwnerOf sc s.devices o (s.owners o) (s.lanes o) x → IsAgain sc x y → IsSome (position_of_device sc device) → y.cursors device ≡ Some p → p ≡ ((s.lanes o device).took, sc.start + (s.lanes o device).closed)
cursor_again sc s o x y device p is shown again known e = again.resumed device p known e ∙ (λ i. (taken i, day i))
  where
    l : LaneState
    l = s.lanes o device

    taken : length (x.ledger.taken device) ≡ l.took
    taken = ap length (shown.taken device) ∙ length-take-le l.took (numbered_for s o device) (took_numbered sc s o device is)

    day : first_day sc.start (closed_through x.ledger device) ≡ sc.start + l.closed
    day = day_behind sc.start x.ledger.start (x.ledger.closed device) shown.ledger.made.start ∙ ap (λ n. sc.start + n) (shown.closed device)

-- the side shows the owner that starts again
pub owner_is_again : (sc : SchemeValue) (s : System) (devices : ℕ → DeviceState) (o : ℕ) (x y : OwnerShape) → IsSystem sc s → ((d : ℕ) → (devices d).taps ≡ (s.devices d).taps) → IsOwnerOf sc s.devices o (s.owners o) (s.lanes o) x → IsAgain sc x y → IsOwnerOf sc devices o fresh_owner (λ d. routed_again sc (s.lanes o d)) y
owner_is_again sc s devices o x y is same p again = record {
  ledger = subst (IsLedgerOf sc o) (sym again.ledger) p.ledger;
  taken = λ d. ap (λ v. v.taken d) again.ledger ∙ p.taken d ∙ sym (ap (λ l. take (s.lanes o d).took (part o l)) (same d));
  stated = λ d day. ap (λ v. v.stated d day) again.ledger ∙ p.stated d day ∙ sym (ap (λ l. count_of ((s.lanes o d).stated day) (part o l) day) (same d));
  closed = λ d. ap (λ v. v.closed d) again.ledger ∙ p.closed d;
  retired = λ d. ap (λ v. v.retired d) again.ledger ∙ p.retired d;
  queue = subst (Each2 (IsRoutedOf devices o) []) (sym again.queue) tt;
  hand = subst (Both (IsRoutedOf devices o) None) (sym again.hand) tt;
  cursors = λ d n known e. cursor_again sc s o x y d n is p again known e;
}

pub shown_restart_owner : (sc : SchemeValue) (h : Shape) (s : System) (o a : ℕ) (x y : OwnerShape) → Shows sc h s → position_of_owner sc o ≡ Some a → h.owners o ≡ Some x → IsAgain sc x y → Answers sc (record h { owners = put h.owners o (Some y) }) (restart_owner sc s o) Restarted
shown_restart_owner sc h s o a x y w at here again =
    answers_by sc (record h { owners = put h.owners o (Some y) }) Restarted (restart_owner sc s o) (owner_again sc s o, Restarted) goes refl
    (shows_owner_put sc h s o fresh_owner (λ d. routed_again sc (s.lanes o d)) y (λ d. refl) w (subst (λ (z : System × Reply). IsSystem sc z.0) goes (moves_step sc s (event.RestartOwner o) w.system).system)
    (owner_is_again sc s s.devices o x y w.system (λ d. refl) (owner_shown sc h s o x w here) again))
  where
    goes : restart_owner sc s o ≡ (owner_again sc s o, Restarted)
    goes = ap (λ p. if is_some p then (owner_again sc s o, Restarted) else (s, Refused UnknownOwner)) at

-- THE HUB
pub shown_restart_hub : (sc : SchemeValue) (h : Shape) (s : System) (stations : ℕ → Option StationShape) (owners : ℕ → Option OwnerShape) → Shows sc h s
    → ((station : ℕ) → IfSome (stations station) (IsStationOf sc (hub_again sc s).devices station []))
    → ((o : ℕ) → IfSome (owners o) (IsOwnerOf sc (hub_again sc s).devices o fresh_owner (λ d. routed_again sc (s.lanes o d))))
    → Answers sc (record h { stations = stations; inbox = []; hand = None; owners = owners }) (restart_hub sc s) Restarted
shown_restart_hub sc h s stations owners w each_station each_owner = record {
  reply = refl;
  shows = record {
    system = (moves_step sc s event.RestartHub w.system).system;
    devices = λ d. same_device sc d (s.devices d) (resumed_device (s.devices d)) (h.devices d) refl refl refl refl refl (w.devices d);
    stations = each_station;
    air = Each2-weaken (IsPacketOf s.devices) (IsPacketOf (hub_again sc s).devices) (packet_grows s.devices (hub_again sc s).devices (grows_same s.devices (hub_again sc s).devices (λ d. refl) (λ d. omega arith))) s.air h.air w.air;
    inbox = tt;
    hand = tt;
    upto = w.upto;
    rows = w.rows;
    row_count = w.row_count;
    stated = w.stated;
    stated_count = w.stated_count;
    owners = each_owner;
  };
}
