use Rattle.std.proofs.Common.{◌≤◌, sym, ◌∙◌, subst, refl}
use Rattle.std.specs.Vec.{with_item}
use Rattle.fare_side.specs.Weeks.{IsWeekOf}
use Rattle.fare_sessions.specs.declared.hub.Hub.{Hub}
use Rattle.fare_sessions.specs.Billing.{TellsWeek}
use Rattle.fare_sessions.proofs.Going.{one_replaced}
use Rattle.fare_sessions.proofs.Billed.{reads_one, week_refused, week_basis, from_not_less, not_before_start}
use Rattle.fare_sessions.proofs.hub.Hub.basis.Goals as goal

pub returns-clause-reads : goal.returns-clause-reads
returns-clause-reads g c =
    let old = c.args.self.now in
    let new : Hub g.row.O.Denot g.row.L.Denot = record { scheme = old.scheme; outbox = old.outbox; ledgers = with_item old.ledgers c.in-Some.at c.taps_of_held_week.new.ledger } in
    let r = one_replaced old new c.args.owner c.in-Some.at c.index_mut.result.now c.taps_of_held_week.new.ledger (sym c.in-Some.ensures.value) c.requires.ledgers c.index_mut.ensures.value refl refl in
    let late : old.scheme.start ≤ c.args.day = subst (λ n. n ≤ c.args.day) c.start.ensures.value (from_not_less c.args.day c.start.result (sym c.lt.ensures ∙ c.if-lt.false)) in
    reads_one g.O.Outbox.standing g.L.Ledger.standing old new c.args.owner c.args.day r refl (g.met.L.Ledger.sound c.index_mut.result.now) late (λ l r. TellsWeek old.scheme c.args.day l r) c.taps_of_held_week.result c.taps_of_held_week.ensures.tells

pub returns-clause-refused : goal.returns-clause-refused
returns-clause-refused g c =
    let old = c.args.self.now in
    let new : Hub g.row.O.Denot g.row.L.Denot = record { scheme = old.scheme; outbox = old.outbox; ledgers = with_item old.ledgers c.in-Some.at c.taps_of_held_week.new.ledger } in
    let r = one_replaced old new c.args.owner c.in-Some.at c.index_mut.result.now c.taps_of_held_week.new.ledger (sym c.in-Some.ensures.value) c.requires.ledgers c.index_mut.ensures.value refl refl in
    let late : old.scheme.start ≤ c.args.day = subst (λ n. n ≤ c.args.day) c.start.ensures.value (from_not_less c.args.day c.start.result (sym c.lt.ensures ∙ c.if-lt.false)) in
    λ clean sound. week_refused g.O.Outbox.standing g.L.Ledger.standing old new c.args.owner c.args.day r refl (g.met.L.Ledger.sound c.index_mut.result.now) late c.taps_of_held_week.result c.taps_of_held_week.ensures.tells clean sound

pub returns-clause-basis : goal.returns-clause-basis
returns-clause-basis g c =
    let old = c.args.self.now in
    let new : Hub g.row.O.Denot g.row.L.Denot = record { scheme = old.scheme; outbox = old.outbox; ledgers = with_item old.ledgers c.in-Some.at c.taps_of_held_week.new.ledger } in
    let r = one_replaced old new c.args.owner c.in-Some.at c.index_mut.result.now c.taps_of_held_week.new.ledger (sym c.in-Some.ensures.value) c.requires.ledgers c.index_mut.ensures.value refl refl in
    let late : old.scheme.start ≤ c.args.day = subst (λ n. n ≤ c.args.day) c.start.ensures.value (from_not_less c.args.day c.start.result (sym c.lt.ensures ∙ c.if-lt.false)) in
    λ clean sound. week_basis g.O.Outbox.standing g.L.Ledger.standing old new c.args.owner c.args.day r refl (g.met.L.Ledger.sound c.index_mut.result.now) late c.taps_of_held_week.result c.taps_of_held_week.ensures.tells c.start.ensures.valid c.taps_of_held_week.ensures.dated clean sound

pub returns-clause-cause : goal.returns-clause-cause
returns-clause-cause g c =
    let old = c.args.self.now in
    let new : Hub g.row.O.Denot g.row.L.Denot = record { scheme = old.scheme; outbox = old.outbox; ledgers = with_item old.ledgers c.in-Some.at c.taps_of_held_week.new.ledger } in
    λ known late. record { one = one_replaced old new c.args.owner c.in-Some.at c.index_mut.result.now c.taps_of_held_week.new.ledger (sym c.in-Some.ensures.value) c.requires.ledgers c.index_mut.ensures.value refl refl; cause = c.taps_of_held_week.ensures.tells.cause }

pub returns-then-lt-clause-cause : goal.returns-then-lt-clause-cause
returns-then-lt-clause-cause g c =
    let early = sym c.lt.ensures ∙ c.if-lt.true in
    λ known late. absurd (not_before_start c.args.day c.start.result (subst (λ n. n ≤ c.args.day) (sym c.start.ensures.value) late) early)
