use Rattle.std.proofs.Common.{Some, refl, sym, ◌∙◌, subst}
use Rattle.fare_event.specs.declared.event.Event.TheVariants as event
use Rattle.fare_world.specs.System.{Tapped, Stated, Acked, DayAcked}
use Rattle.fare_world.specs.Arriving.{comes}
use Rattle.fare_world.specs.Packets.{bytes_at, IsPacketRead}
use Rattle.fare_world.specs.Shown.{IsAt, IsStatementOf}
use Rattle.fare_world.specs.Kept.{IsAck, IsDayAck, IsPacket}
use Rattle.fare_world.proofs.ShowLink.{shown_no_packet, tap_found, statement_found, ack_found, day_ack_found, nothing_else}
use Rattle.fare_world.proofs.Stores.{steps, does_all, same_stores}
use Rattle.fare_world.specs.Whole.{seen, shape}
use Rattle.fare_world.proofs.world.World.arrive.Goals as goal

pub returns-in_default : goal.returns-in_default
returns-in_default g c =
    let w = seen g.O.Outbox.standing g.L.Ledger.standing c.args.self.now in
    steps g.O.Outbox.standing g.L.Ledger.standing c.args.self.now _ _ _ refl (same_stores _ _ refl refl) (λ s sh. shown_no_packet w.scheme (shape w) s c.args.packet sh (subst (IsPacketRead (bytes_at w.air c.args.packet)) c.in_default.is c.frame_in.ensures))

pub returns-in-Some-tapped : goal.returns-in-Some-tapped
returns-in-Some-tapped g c =
    let w = seen g.O.Outbox.standing g.L.Ledger.standing c.args.self.now in
    let r = c.in-Some-tapped.tapped in
    let read = subst (IsPacketRead (bytes_at w.air c.args.packet)) c.in-Some.is c.frame_in.ensures in
    does_all g.O.Outbox.standing g.L.Ledger.standing c.args.self.now c.collect.new.self (λ s. IsAt (s.devices r.device).taps r.link r) (λ s. comes w.scheme s (Some (Tapped r.device r.link))) (event.Arrive c.args.packet) c.collect.result
    (λ s sh. tap_found w.scheme (shape w) s c.args.packet c.in-Some.frame r sh read (sym c.tapped.ensures ∙ c.in-Some-tapped.is)) c.collect.ensures

pub returns-in-Some-stated : goal.returns-in-Some-stated
returns-in-Some-stated g c =
    let w = seen g.O.Outbox.standing g.L.Ledger.standing c.args.self.now in
    let x = c.in-Some-stated.statement in
    let read = subst (IsPacketRead (bytes_at w.air c.args.packet)) c.in-Some.is c.frame_in.ensures in
    does_all g.O.Outbox.standing g.L.Ledger.standing c.args.self.now c.collect_statement.new.self (λ s. IsPacket w.scheme s.devices s.held (Stated x.device x.day x.owner) × IsStatementOf s.devices x.device x.day x.owner x) (λ s. comes w.scheme s (Some (Stated x.device x.day x.owner))) (event.Arrive c.args.packet) c.collect_statement.result
    (λ s sh. statement_found w.scheme (shape w) s c.args.packet c.in-Some.frame x sh read (sym c.stated.ensures ∙ c.in-Some-stated.is)) c.collect_statement.ensures

pub returns-in-Some-day_acked : goal.returns-in-Some-day_acked
returns-in-Some-day_acked g c =
    let w = seen g.O.Outbox.standing g.L.Ledger.standing c.args.self.now in
    let a = c.in-Some-day_acked.ack in
    let read = subst (IsPacketRead (bytes_at w.air c.args.packet)) c.in-Some.is c.frame_in.ensures in
    does_all g.O.Outbox.standing g.L.Ledger.standing c.args.self.now c.hear_day.new.self (λ s. IsDayAck w.scheme s.held a.device a.day) (λ s. comes w.scheme s (Some (DayAcked a.device a.day))) (event.Arrive c.args.packet) c.hear_day.result
    (λ s sh. day_ack_found w.scheme (shape w) s c.args.packet c.in-Some.frame a sh read (sym c.day_acked.ensures ∙ c.in-Some-day_acked.is)) c.hear_day.ensures

pub returns-in-Some-acked : goal.returns-in-Some-acked
returns-in-Some-acked g c =
    let w = seen g.O.Outbox.standing g.L.Ledger.standing c.args.self.now in
    let a = c.in-Some-acked.ack in
    let read = subst (IsPacketRead (bytes_at w.air c.args.packet)) c.in-Some.is c.frame_in.ensures in
    does_all g.O.Outbox.standing g.L.Ledger.standing c.args.self.now c.hear.new.self (λ s. IsAck w.scheme s.devices a.device a.upto) (λ s. comes w.scheme s (Some (Acked a.device a.upto))) (event.Arrive c.args.packet) c.hear.result
    (λ s sh. ack_found w.scheme (shape w) s c.args.packet c.in-Some.frame a sh read (sym c.acked.ensures ∙ c.in-Some-acked.is)) c.hear.ensures

pub returns : goal.returns
returns g c =
    let w = seen g.O.Outbox.standing g.L.Ledger.standing c.args.self.now in
    let read = subst (IsPacketRead (bytes_at w.air c.args.packet)) c.in-Some.is c.frame_in.ensures in
    steps g.O.Outbox.standing g.L.Ledger.standing c.args.self.now _ _ _ refl (same_stores _ _ refl refl) (λ s sh. absurd (nothing_else w.scheme (shape w) s c.args.packet c.in-Some.frame sh read (sym c.tapped.ensures ∙ c.in_default-tapped.is) (sym c.stated.ensures ∙ c.in_default-stated.is) (sym c.acked.ensures ∙ c.in_default-acked.is) (sym c.day_acked.ensures ∙ c.in_default-day_acked.is)))
