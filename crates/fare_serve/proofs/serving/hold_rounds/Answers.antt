use Rattle.std.proofs.Common.{◌≡◌, ◌∙◌, ◌+◌, true, false, ap, sym, refl, subst, length, arith, rules}
use Rattle.std.specs.Prelude.{is_none}
use Rattle.fare_scheme.specs.Values.{SchemeValue}
use Rattle.fare_serve.specs.Seats.{AreSeats}
use Rattle.fare_serve.specs.Serving.{HasHeldRound, HaveBeenHeld, HaveFailed}
use Rattle.fare_serve.specs.declared.counts.Counts.{Counts}
use Rattle.fare_serve.specs.declared.seats.Rule.TheVariants.{First}
use Rattle.fare_serve.specs.declared.fault.ServeFault.TheVariants.{Memory}
use Rattle.fare_serve.proofs.Held.{HaveBeenSeated, been_entries, been_more, been_none, none_failed, round_ledgers, round_scheme, rounds_failed, seats_first}
use Rattle.fare_serve.proofs.Rested.{rested_goes, rested_ledgers}
use Rattle.fare_serve.proofs.serving.hold_rounds.Goals as goal

pub loop-round-init : goal.loop-round-init
loop-round-init g c = record {
  seated = been_none g.P.Pause.does g.O.Outbox.standing g.L.Ledger.standing c.args.hub.now c.reads_to_ends-whole.result c.args.progress.now.counts c.in_ok-lines.lines.seats.items c.requires.none c.in_ok-lines.ensures.free;
  ledgers = c.requires.ledgers;
  seats = c.in_ok-lines.ensures.each;
  few = c.in_ok-lines.ensures.few;
}

pub loop-round-preserved : goal.loop-round-preserved
loop-round-preserved g c =
    let inv = c.loop-round.invariant in
    let one = subst (λ (k : Counts). HasHeldRound g.O.Outbox.standing g.L.Ledger.standing c.gather.new.hub c.hold_round.new.hub c.reads_to_ends-whole.result k c.hold_round.new.progress.counts c.gather.new.self.seats.items c.hold_round.new.lines.seats.items) c.gather.ensures.counts c.in_ok-hold_round.ensures.held in
    let seats = c.loop-round.lines.seats.items in
    let gathered = c.gather.new.self.seats.items in
    let next = c.hold_round.new.lines.seats.items in
    let first : c.rule_of-rule.result ≡ First → AreSeats c.loop-round.hub.scheme seats = λ by. seats_first g.P.Pause.does g.O.Outbox.standing g.L.Ledger.standing c.args.hub.now c.loop-round.hub c.reads_to_ends-whole.result c.loop-round.round c.loop-round.progress.counts seats inv.seated (c.rule_of-rule.ensures by) c.loop-round.hub.scheme in
    let rest = (rested_goes g.P.Pause.does g.O.Outbox.standing g.L.Ledger.standing c.loop-round.hub c.gather.new.hub c.gather.ensures.paused.0).scheme in
    let same = round_scheme g.P.Pause.does g.O.Outbox.standing g.L.Ledger.standing c.gather.new.hub c.hold_round.new.hub c.reads_to_ends-whole.result c.loop-round.progress.counts c.hold_round.new.progress.counts gathered next one in
    record {
      seated = been_more g.P.Pause.does g.O.Outbox.standing g.L.Ledger.standing c.args.hub.now c.loop-round.hub c.gather.new.hub c.hold_round.new.hub c.reads_to_ends-whole.result c.loop-round.round c.loop-round.progress.counts c.hold_round.new.progress.counts seats gathered next inv.seated (c.gather.ensures.gathered first) c.gather.ensures.paused one;
      ledgers = round_ledgers g.P.Pause.does g.O.Outbox.standing g.L.Ledger.standing c.gather.new.hub c.hold_round.new.hub c.reads_to_ends-whole.result c.loop-round.progress.counts c.hold_round.new.progress.counts gathered next one (rested_ledgers g.P.Pause.does g.O.Outbox.standing g.L.Ledger.standing c.loop-round.hub c.gather.new.hub c.gather.ensures.paused.0 inv.ledgers);
      seats = c.in_ok-hold_round.ensures.seats ∙ (c.gather.ensures.len ∙ (inv.seats ∙ (ap (λ (sc : SchemeValue). length sc.stations) (sym rest) ∙ ap (λ (sc : SchemeValue). length sc.stations) (sym same))));
      few = (let a = c.in_ok-hold_round.ensures.seats in let b = c.gather.ensures.len in let f = inv.few in omega (arith, a, b, f));
    }

pub hold_round-requires-clause-ledgers : goal.hold_round-requires-clause-ledgers
hold_round-requires-clause-ledgers g c κs within = rested_ledgers g.P.Pause.does g.O.Outbox.standing g.L.Ledger.standing c.loop-round.hub c.gather.new.hub c.gather.ensures.paused.0 c.loop-round.invariant.ledgers

pub hold_round-requires-clause-seats : goal.hold_round-requires-clause-seats
hold_round-requires-clause-seats g c κs within =
    let rest = (rested_goes g.P.Pause.does g.O.Outbox.standing g.L.Ledger.standing c.loop-round.hub c.gather.new.hub c.gather.ensures.paused.0).scheme in
    c.gather.ensures.len ∙ (c.loop-round.invariant.seats ∙ ap (λ (sc : SchemeValue). length sc.stations) (sym rest))

pub hold_round-requires-clause-few : goal.hold_round-requires-clause-few
hold_round-requires-clause-few g c κs within = let b = c.gather.ensures.len in let f = c.loop-round.invariant.few in omega (arith, b, f)

pub hold_round-requires-clause-owners : goal.hold_round-requires-clause-owners
hold_round-requires-clause-owners g c κs within =
    let rest = (rested_goes g.P.Pause.does g.O.Outbox.standing g.L.Ledger.standing c.loop-round.hub c.gather.new.hub c.gather.ensures.paused.0).scheme in
    ap (λ (k : Counts). length k.taken.items) c.gather.ensures.counts ∙ (been_entries g.P.Pause.does g.O.Outbox.standing g.L.Ledger.standing c.args.hub.now c.loop-round.hub c.reads_to_ends-whole.result c.loop-round.round c.loop-round.progress.counts c.loop-round.invariant.seated.held ∙ ap (λ (sc : SchemeValue). length sc.owners) (sym rest))

pub returns-then-is_told-clause-held : goal.returns-then-is_told-clause-held
returns-then-is_told-clause-held g c =
    let lt = c.loop-round-test.true in
    let most = c.max-round-end.ensures in
    let told : is_none c.args.until ≡ false = c.if-is_told.ensures refl in
    let one = subst (λ (k : Counts). HasHeldRound g.O.Outbox.standing g.L.Ledger.standing c.gather.new.hub c.hold_round.new.hub c.reads_to_ends-whole.result k c.hold_round.new.progress.counts c.gather.new.self.seats.items c.hold_round.new.lines.seats.items) c.gather.ensures.counts c.in_ok-hold_round.ensures.held in
    let inv = c.loop-round.invariant in
    let seats = c.loop-round.lines.seats.items in
    let first : c.rule_of-rule.result ≡ First → AreSeats c.loop-round.hub.scheme seats = λ by. seats_first g.P.Pause.does g.O.Outbox.standing g.L.Ledger.standing c.args.hub.now c.loop-round.hub c.reads_to_ends-whole.result c.loop-round.round c.loop-round.progress.counts seats inv.seated (c.rule_of-rule.ensures by) c.loop-round.hub.scheme in
    let seated : HaveBeenSeated g.P.Pause.does g.O.Outbox.standing g.L.Ledger.standing c.args.hub.now c.hold_round.new.hub c.reads_to_ends-whole.result (c.loop-round.round + 1) c.hold_round.new.progress.counts c.hold_round.new.lines.seats.items =
    been_more g.P.Pause.does g.O.Outbox.standing g.L.Ledger.standing c.args.hub.now c.loop-round.hub c.gather.new.hub c.hold_round.new.hub c.reads_to_ends-whole.result c.loop-round.round c.loop-round.progress.counts c.hold_round.new.progress.counts seats c.gather.new.self.seats.items c.hold_round.new.lines.seats.items inv.seated
    (c.gather.ensures.gathered first) c.gather.ensures.paused one in
    record {
      count = c.loop-round.round + 1;
      some = omega arith;
      few = omega (arith, lt, most);
      all = λ untold. (let both : true ≡ false = sym untold ∙ told in absurd (cc));
      held = subst (λ b. HaveBeenHeld g.P.Pause.does g.O.Outbox.standing g.L.Ledger.standing c.args.hub.now c.hold_round.new.hub b (c.loop-round.round + 1) c.hold_round.new.progress.counts) c.reads_to_ends-whole.ensures seated.held;
    }

pub returns-clause-held : goal.returns-clause-held
returns-clause-held g c =
    let past = c.loop-round-test.false in
    let within = c.loop-round.auto.round-end in
    let most = c.max-round-end.ensures in
    record {
      count = c.loop-round.round;
      some = omega (arith, past, most);
      few = omega (arith, within, most);
      all = λ untold. omega (arith, past, within, most);
      held = subst (λ b. HaveBeenHeld g.P.Pause.does g.O.Outbox.standing g.L.Ledger.standing c.args.hub.now c.loop-round.hub b c.loop-round.round c.loop-round.progress.counts) c.reads_to_ends-whole.ensures c.loop-round.invariant.seated.held;
    }

pub returns-in_err-lines-clause-failed : goal.returns-in_err-lines-clause-failed
returns-in_err-lines-clause-failed g c =
    let failed : HaveFailed g.P.Pause.does g.O.Outbox.standing g.L.Ledger.standing c.args.hub.now c.args.hub.now Memory = none_failed g.P.Pause.does g.O.Outbox.standing g.L.Ledger.standing c.args.hub.now Memory tt in
    search (rules, failed)

pub returns-in_err-hold_round-clause-failed : goal.returns-in_err-hold_round-clause-failed
returns-in_err-hold_round-clause-failed g c =
    let inv = c.loop-round.invariant in
    let seats = c.loop-round.lines.seats.items in
    let fault = c.in_err-hold_round.field-0.0 in
    let first : c.rule_of-rule.result ≡ First → AreSeats c.loop-round.hub.scheme seats = λ by. seats_first g.P.Pause.does g.O.Outbox.standing g.L.Ledger.standing c.args.hub.now c.loop-round.hub c.reads_to_ends-whole.result c.loop-round.round c.loop-round.progress.counts seats inv.seated (c.rule_of-rule.ensures by) c.loop-round.hub.scheme in
    let failed : HaveFailed g.P.Pause.does g.O.Outbox.standing g.L.Ledger.standing c.args.hub.now c.hold_round.new.hub fault =
    rounds_failed g.P.Pause.does g.O.Outbox.standing g.L.Ledger.standing c.args.hub.now c.loop-round.hub c.gather.new.hub c.hold_round.new.hub c.reads_to_ends-whole.result c.loop-round.round c.loop-round.progress.counts seats c.gather.new.self.seats.items fault inv.seated
    (c.gather.ensures.gathered first) c.gather.ensures.paused c.in_err-hold_round.ensures.failed in
    search (rules, failed)
