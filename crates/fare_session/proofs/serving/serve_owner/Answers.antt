use Rattle.std.proofs.Common.{◌≡◌, ℕ, ◌+◌, ◌-◌, None, List, sym, ap, ◌∙◌, subst}
use Rattle.std.specs.Prelude.{Option, unwrap_or, Ok, Err}
use Rattle.fare_route.specs.Routing.{started}
use Rattle.fare_lane_queue.specs.Passes.{capacity_of}
use Rattle.fare_store.specs.declared.fault.Fault.{Fault}
use Rattle.fare_session.specs.declared.report.OwnerReport.{OwnerReport}
use Rattle.fare_session.specs.Stores.{Stays}
use Rattle.fare_session.specs.Forwarding.{HasCursors, AreApart}
use Rattle.fare_session.specs.Asking.{IsAsked, AreSifted}
use Rattle.fare_history.specs.Serving.{lane_room}
use Rattle.fare_session.specs.Served.{IsServed}
use Rattle.fare_session.specs.Session.{IsSession}
use Rattle.fare_session.proofs.Takes.{failed_owners, not_refused}
use Rattle.fare_session.proofs.StoreCalls.{stays_then}
use Rattle.fare_session.proofs.Holdings.{served_none, served_memory, served_from}
use Rattle.fare_session.proofs.Asks.{bases_apart}
use Rattle.fare_session.proofs.Serves.{has_cursors, store_failed, asked_store, sifted_store, told_then, working_since}
use Rattle.fare_session.proofs.serving.serve_owner.Goals as goal

pub returns-in-Err : goal.returns-in-Err
returns-in-Err g c =
    let sc = c.args.scheme.now in
    let x = g.O.Outbox.standing c.args.outbox.now in
    let lo = g.L.Ledger.standing c.args.ledger.now in
    let ln = g.L.Ledger.standing c.ask.new.ledger in
    let f = c.in-Err.fault in
    let s = c.from.result in
    let asked : IsAsked sc lo ln c.ask.new.asked.standings.items c.ask.new.asked.bases.items (Err f) = c.in-Err.ensures in
    subst (λ (z : OwnerReport). IsServed sc c.args.owner x x lo ln z) (sym c.not_begun.ensures)
    (served_none sc c.args.owner x lo ln asked.faulted s asked.stays
    (λ e. asked_store sc lo ln c.ask.new.asked.standings.items c.ask.new.asked.bases.items f asked (store_failed f s c.from.ensures e)) (λ e. not_refused f s c.from.ensures e) (failed_owners f s c.from.ensures))

pub sift-requires-clause-apart : goal.sift-requires-clause-apart
sift-requires-clause-apart g c =
    let sc = c.args.scheme.now in
    let lo = g.L.Ledger.standing c.args.ledger.now in
    let lm = g.L.Ledger.standing c.ask.new.ledger in
    let standings = c.ask.new.asked.standings.items in
    let bases = c.ask.new.asked.bases.items in
    let asked : IsAsked sc lo lm standings bases (Ok c.in_default-ask.field-0) = c.in_default-ask.ensures in
    subst AreApart (sym c.deref.ensures.value) (bases_apart sc lo lm standings bases asked.told)

pub returns-in-Err-sift : goal.returns-in-Err-sift
returns-in-Err-sift g c =
    let sc = c.args.scheme.now in
    let x = g.O.Outbox.standing c.args.outbox.now in
    let lo = g.L.Ledger.standing c.args.ledger.now in
    let lm = g.L.Ledger.standing c.ask.new.ledger in
    let lz = g.L.Ledger.standing c.sift.new.ledger in
    let standings = c.ask.new.asked.standings.items in
    let bases = c.ask.new.asked.bases.items in
    let working = c.sift.new.working.items in
    let asked : IsAsked sc lo lm standings bases (Ok c.in_default-ask.field-0) = c.in_default-ask.ensures in
    let told : Stays lo lm None = subst (λ (z : Option Fault). Stays lo lm z) asked.none asked.stays in
    let f = c.in-Err-sift.fault in
    let s = c.from-in-Err-sift.result in
    let sifted : AreSifted lm lz bases working (Err f) = subst (λ (b : List (ℕ × ℕ)). AreSifted lm lz b working (Err f)) c.deref.ensures.value c.in-Err-sift.ensures in
    subst (λ (z : OwnerReport). IsServed sc c.args.owner x x lo lz z) (sym c.not_begun-in-Err-sift.ensures)
    (served_none sc c.args.owner x lo lz sifted.faulted s (stays_then lo lm lz sifted.faulted told sifted.stays)
    (λ e. sifted_store lm lz bases working f sifted (store_failed f s c.from-in-Err-sift.ensures e)) (λ e. not_refused f s c.from-in-Err-sift.ensures e) (failed_owners f s c.from-in-Err-sift.ensures))

pub returns-in_default-start : goal.returns-in_default-start
returns-in_default-start g c =
    let sc = c.args.scheme.now in
    let x = g.O.Outbox.standing c.args.outbox.now in
    let lo = g.L.Ledger.standing c.args.ledger.now in
    let lm = g.L.Ledger.standing c.ask.new.ledger in
    let lz = g.L.Ledger.standing c.sift.new.ledger in
    let standings = c.ask.new.asked.standings.items in
    let bases = c.ask.new.asked.bases.items in
    let working = c.sift.new.working.items in
    let asked : IsAsked sc lo lm standings bases (Ok c.in_default-ask.field-0) = c.in_default-ask.ensures in
    let told : Stays lo lm None = subst (λ (z : Option Fault). Stays lo lm z) asked.none asked.stays in
    let sifted : AreSifted lm lz bases working (Ok c.in_default-sift.field-0) = subst (λ (b : List (ℕ × ℕ)). AreSifted lm lz b working (Ok c.in_default-sift.field-0)) c.deref.ensures.value c.in_default-sift.ensures in
    let both : Stays lo lz None = stays_then lo lm lz None told (subst (λ (z : Option Fault). Stays lm lz z) sifted.none sifted.stays) in
    subst (λ (z : OwnerReport). IsServed sc c.args.owner x x lo lz z) (sym c.not_begun-in_default-start.ensures)
    (served_memory sc c.args.owner x lo lz both)

pub returns-in_default-open : goal.returns-in_default-open
returns-in_default-open g c =
    let sc = c.args.scheme.now in
    let x = g.O.Outbox.standing c.args.outbox.now in
    let lo = g.L.Ledger.standing c.args.ledger.now in
    let lm = g.L.Ledger.standing c.ask.new.ledger in
    let lz = g.L.Ledger.standing c.sift.new.ledger in
    let standings = c.ask.new.asked.standings.items in
    let bases = c.ask.new.asked.bases.items in
    let working = c.sift.new.working.items in
    let asked : IsAsked sc lo lm standings bases (Ok c.in_default-ask.field-0) = c.in_default-ask.ensures in
    let told : Stays lo lm None = subst (λ (z : Option Fault). Stays lo lm z) asked.none asked.stays in
    let sifted : AreSifted lm lz bases working (Ok c.in_default-sift.field-0) = subst (λ (b : List (ℕ × ℕ)). AreSifted lm lz b working (Ok c.in_default-sift.field-0)) c.deref.ensures.value c.in_default-sift.ensures in
    let both : Stays lo lz None = stays_then lo lm lz None told (subst (λ (z : Option Fault). Stays lm lz z) sifted.none sifted.stays) in
    subst (λ (z : OwnerReport). IsServed sc c.args.owner x x lo lz z) (sym c.not_begun-in_default-open.ensures)
    (served_memory sc c.args.owner x lo lz both)

pub open-requires : goal.open-requires
open-requires g c =
    let lm = g.L.Ledger.standing c.ask.new.ledger in
    let lz = g.L.Ledger.standing c.sift.new.ledger in
    let bases = c.deref.result.now in
    let sifted : AreSifted lm lz bases c.sift.new.working.items (Ok c.in_default-sift.field-0) = c.in_default-sift.ensures in
    record { room = record { size = c.in-Some.ensures.valid; devices = subst AreApart (sym c.deref-3.ensures.value) sifted.told.apart } }

pub serve_lanes-requires-clause-cursors : goal.serve_lanes-requires-clause-cursors
serve_lanes-requires-clause-cursors g c κs within =
    let sc = c.args.scheme.now in
    let x = g.O.Outbox.standing c.args.outbox.now in
    let lo = g.L.Ledger.standing c.args.ledger.now in
    let lm = g.L.Ledger.standing c.ask.new.ledger in
    let lz = g.L.Ledger.standing c.sift.new.ledger in
    let standings = c.ask.new.asked.standings.items in
    let bases = c.ask.new.asked.bases.items in
    let working = c.sift.new.working.items in
    let asked : IsAsked sc lo lm standings bases (Ok c.in_default-ask.field-0) = c.in_default-ask.ensures in
    let told : Stays lo lm None = subst (λ (z : Option Fault). Stays lo lm z) asked.none asked.stays in
    let sifted : AreSifted lm lz bases working (Ok c.in_default-sift.field-0) = subst (λ (b : List (ℕ × ℕ)). AreSifted lm lz b working (Ok c.in_default-sift.field-0)) c.deref.ensures.value c.in_default-sift.ensures in
    let both : Stays lo lz None = stays_then lo lm lz None told (subst (λ (z : Option Fault). Stays lm lz z) sifted.none sifted.stays) in
    let second : c.deref-2.result.now ≡ standings = c.deref-2.ensures.value in
    subst (λ (b : List (ℕ × ℕ)). HasCursors b c.in-Ok.forwarder) (sym c.deref-4.ensures.value)
    (has_cursors sc lo lz standings bases (told_then sc lo lm lz told (subst (λ (z : Option Fault). Stays lm lz z) sifted.none sifted.stays) standings bases asked.told) asked.count (bases_apart sc lo lm standings bases asked.told) c.in-Ok.forwarder (λ d. c.in-Ok.ensures.cursors d ∙ ap (λ (s : List (ℕ × Option ℕ)). started sc s d) second) working
    (working_since sc lo lm lz told (subst (λ (z : Option Fault). Stays lm lz z) sifted.none sifted.stays) bases working sifted.told))

pub serve_lanes-requires-clause-all : goal.serve_lanes-requires-clause-all
serve_lanes-requires-clause-all g c κs within =
    let sc = c.args.scheme.now in
    let lo = g.L.Ledger.standing c.args.ledger.now in
    let lm = g.L.Ledger.standing c.ask.new.ledger in
    let standings = c.ask.new.asked.standings.items in
    let bases = c.ask.new.asked.bases.items in
    let asked : IsAsked sc lo lm standings bases (Ok c.in_default-ask.field-0) = c.in_default-ask.ensures in
    subst AreApart (sym c.deref_mut.ensures.value) (bases_apart sc lo lm standings bases asked.told)

pub returns : goal.returns
returns g c =
    let sc = c.args.scheme.now in
    let x = g.O.Outbox.standing c.args.outbox.now in
    let lo = g.L.Ledger.standing c.args.ledger.now in
    let lm = g.L.Ledger.standing c.ask.new.ledger in
    let lz = g.L.Ledger.standing c.sift.new.ledger in
    let standings = c.ask.new.asked.standings.items in
    let bases = c.ask.new.asked.bases.items in
    let working = c.sift.new.working.items in
    let asked : IsAsked sc lo lm standings bases (Ok c.in_default-ask.field-0) = c.in_default-ask.ensures in
    let told : Stays lo lm None = subst (λ (z : Option Fault). Stays lo lm z) asked.none asked.stays in
    let sifted : AreSifted lm lz bases working (Ok c.in_default-sift.field-0) = subst (λ (b : List (ℕ × ℕ)). AreSifted lm lz b working (Ok c.in_default-sift.field-0)) c.deref.ensures.value c.in_default-sift.ensures in
    let both : Stays lo lz None = stays_then lo lm lz None told (subst (λ (z : Option Fault). Stays lm lz z) sifted.none sifted.stays) in
    let xn = g.O.Outbox.standing c.serve_lanes.new.outbox in
    let ln = g.L.Ledger.standing c.serve_lanes.new.ledger in
    let after : Stays lm lz None = subst (λ (z : Option Fault). Stays lm lz z) sifted.none sifted.stays in
    let second : c.deref-2.result.now ≡ standings = c.deref-2.ensures.value in
    let fourth : c.deref-4.result.now ≡ working = c.deref-4.ensures.value in
    let fifth : c.deref_mut.result.now ≡ bases = c.deref_mut.ensures.value in
    let f = c.in-Ok.forwarder in
    let room = capacity_of c.in-Ok-open.passage.queue + (c.in-Ok-open.passage.batch - 1) in
    let few : room ≡ lane_room sc c.args.owner = c.in-Ok-open.ensures.room ∙ ap (λ (o : Option ℕ). unwrap_or o 0) c.in-Some.ensures.value in
    let session : IsSession working bases room x xn lz ln f c.serve_lanes.result = subst (λ (z : List (ℕ × ℕ) × List (ℕ × ℕ)). IsSession z.0 z.1 room x xn lz ln f c.serve_lanes.result) (λ i. (fourth i, fifth i)) c.serve_lanes.ensures in
    served_from sc c.args.owner room x xn lo lz ln standings bases working f c.serve_lanes.result (working_since sc lo lm lz told after bases working sifted.told) (told_then sc lo lm lz told after standings bases asked.told) asked.count (bases_apart sc lo lm standings bases asked.told)
    (λ d. c.in-Ok.ensures.cursors d ∙ ap (λ (s : List (ℕ × Option ℕ)). started sc s d) second) c.in-Ok.ensures.owner few both (λ clean. asked.live (after.calls.clean clean)) asked.some session c.have_laws.ensures.outbox c.have_laws.ensures.ledger
