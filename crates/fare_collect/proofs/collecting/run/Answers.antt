use Rattle.fare_writer.specs.Handling.{batch_of}
use Rattle.std.proofs.Common.{◌≡◌, ◌-◌, ℕ, Some, None, length, sym, ap, subst, ◌∙◌, rules, List, map, drop, arith}
use Rattle.std.specs.Prelude.{Option, Result, Ok, Err}
use Rattle.std.specs.Result.{result_err}
use Rattle.fare_inbox_queue.specs.InboxPasses.{capacity_of}
use Rattle.fare_writer.specs.declared.halt.Halt.{Halt}
use Rattle.fare_writer.specs.declared.teller.Teller.{Teller}
use Rattle.fare_writer.specs.Writing.{as_writer}
use Rattle.fare_collect.specs.Opening.{AreNew}
use Rattle.fare_collect.specs.Ending.{AreHandedLeft, last_answers}
use Rattle.fare_collect.specs.Session.{HaveGathered, HasSession}
use Rattle.fare_collect.proofs.Sessioned.{halted, ended_well, last_fine, last_bad, hand_length, stations_closed, take_front}
use Rattle.fare_writer.specs.Entries.{item_of}
use Rattle.fare_collect.specs.Noting.{AreNoted}
use Rattle.fare_collect.proofs.Noted.{noted_all}
use Rattle.fare_collect.proofs.collecting.run.Goals as goal

pub returns-in-Err : goal.returns-in-Err
returns-in-Err g c =
    let p = c.gather-gathered in
    let made : AreNew (length c.args.stations.now) c.deref.result.now c.deref_mut.result.now c.into_parts-lines.result.2.items = (let r = c.requires in search rules) in
    let handed : AreHandedLeft g.S.Source.talk p.new.tellers p.new.hears.items p.new.stations c.hand_all.new.stations =
    (let a = p.auto.tellers in let b = c.deref_mut.ensures.len in
    subst (λ (ts : List Teller). AreHandedLeft g.S.Source.talk ts p.new.hears.items p.new.stations c.hand_all.new.stations) (take_front p.new.tellers (drop (length p.new.tellers) c.into_parts-lines.result.1.items) c.into_parts-lines.result.1.len (omega (arith, a, b))) c.hand_all.ensures) in
    let room : capacity_of c.into_parts-inbox.result.0 ≡ c.args.scheme.now.inbox_capacity - (batch_of c.args.scheme.now - 1) = (let r = c.requires.open in search rules) in
    let opened = c.requires.open in
    let got = subst (λ (z : ℕ × Result (Unit {0}) Halt). HaveGathered c.args.scheme.now g.S.Source.talk (g.O.Outbox.standing c.args.outbox.now) (g.O.Outbox.standing p.new.outbox) c.deref_mut.result.now p.new.tellers c.args.tally.now p.new.tally c.args.stations.now p.new.stations p.new.hears.items z.0 p.result.1.left (result_err z.1)) (λ i. (room i, c.in-Err.is i)) p.ensures.gathered in
    halted c.args.scheme.now g.S.Source.talk (g.O.Outbox.standing c.args.outbox.now) (g.O.Outbox.standing p.new.outbox) c.deref.result.now c.deref_mut.result.now p.new.tellers c.into_parts-lines.result.2.items p.new.hears.items c.args.tally.now p.new.tally c.args.stations.now p.new.stations c.hand_all.new.stations p.result.1.left _ (Some c.in-Err.halt)
    made got
    handed (p.ensures.tellers.len ∙ made.lines_len) (p.ensures.hears.len ∙ made.lines_len) (λ e. absurd (let some : ◌≡◌ {A = Option Halt} (Some c.in-Err.halt) None = e in cc)) (let h = c.not_handled.ensures in let one = hand_length c.in-Err.halt.hand in let n = c.saturating_add.ensures in let f = got.few in let m = got.count in let small = opened.small in let b = got.written.behind_is in let few = got.written.few in omega (arith, h, one, n, f, m, small, b, few))

pub returns-in-Ok : goal.returns-in-Ok
returns-in-Ok g c =
    let p = c.gather-gathered in
    let sc = c.args.scheme.now in
    let talks = g.S.Source.talk in
    let a = g.O.Outbox.standing c.args.outbox.now in
    let b = g.O.Outbox.standing p.new.outbox in
    let d = g.O.Outbox.standing c.answer_last.new.outbox in
    let made : AreNew (length c.args.stations.now) c.deref.result.now c.deref_mut.result.now c.into_parts-lines.result.2.items = (let r = c.requires in search rules) in
    let handed : AreHandedLeft talks p.new.tellers p.new.hears.items p.new.stations c.hand_all.new.stations =
    (let a = p.auto.tellers in let b = c.deref_mut.ensures.len in
    subst (λ (ts : List Teller). AreHandedLeft g.S.Source.talk ts p.new.hears.items p.new.stations c.hand_all.new.stations) (take_front p.new.tellers (drop (length p.new.tellers) c.into_parts-lines.result.1.items) c.into_parts-lines.result.1.len (omega (arith, a, b))) c.hand_all.ensures) in
    let room : capacity_of c.into_parts-inbox.result.0 ≡ c.args.scheme.now.inbox_capacity - (batch_of c.args.scheme.now - 1) = (let r = c.requires.open in search rules) in
    ended_well sc talks a b d c.deref.result.now c.deref_mut.result.now p.new.tellers c.into_parts-lines.result.2.items p.new.hears.items c.args.tally.now p.new.tally c.args.stations.now p.new.stations c.hand_all.new.stations c.answer_last.new.stations p.result.1.left (Ok tt) None
    made (subst (λ (z : ℕ × Result (Unit {0}) Halt). HaveGathered sc talks a b c.deref_mut.result.now p.new.tellers c.args.tally.now p.new.tally c.args.stations.now p.new.stations p.new.hears.items z.0 p.result.1.left (result_err z.1)) (λ i. (room i, c.in_default.is i)) p.ensures.gathered)
    handed (p.ensures.tellers.len ∙ made.lines_len) (p.ensures.hears.len ∙ made.lines_len) c.in-Ok.ensures (last_fine sc talks b d c.hand_all.new.stations c.answer_last.new.stations (last_answers sc p.new.tally.days.keys) c.in-Ok.ensures) (p.ensures.whole (ap result_err c.in_default.is)).1 (p.ensures.whole (ap result_err c.in_default.is)).0

pub returns-in-Err-answer_last : goal.returns-in-Err-answer_last
returns-in-Err-answer_last g c =
    let p = c.gather-gathered in
    let sc = c.args.scheme.now in
    let talks = g.S.Source.talk in
    let a = g.O.Outbox.standing c.args.outbox.now in
    let b = g.O.Outbox.standing p.new.outbox in
    let d = g.O.Outbox.standing c.answer_last.new.outbox in
    let made : AreNew (length c.args.stations.now) c.deref.result.now c.deref_mut.result.now c.into_parts-lines.result.2.items = (let r = c.requires in search rules) in
    let handed : AreHandedLeft talks p.new.tellers p.new.hears.items p.new.stations c.hand_all.new.stations =
    (let a = p.auto.tellers in let b = c.deref_mut.ensures.len in
    subst (λ (ts : List Teller). AreHandedLeft g.S.Source.talk ts p.new.hears.items p.new.stations c.hand_all.new.stations) (take_front p.new.tellers (drop (length p.new.tellers) c.into_parts-lines.result.1.items) c.into_parts-lines.result.1.len (omega (arith, a, b))) c.hand_all.ensures) in
    let room : capacity_of c.into_parts-inbox.result.0 ≡ c.args.scheme.now.inbox_capacity - (batch_of c.args.scheme.now - 1) = (let r = c.requires.open in search rules) in
    subst (λ (h : Halt). HasSession sc talks a d c.args.tally.now p.new.tally c.args.stations.now c.answer_last.new.stations p.result.1.left (Some h)) (sym c.from.ensures)
    (ended_well sc talks a b d c.deref.result.now c.deref_mut.result.now p.new.tellers c.into_parts-lines.result.2.items p.new.hears.items c.args.tally.now p.new.tally c.args.stations.now p.new.stations c.hand_all.new.stations c.answer_last.new.stations p.result.1.left (Err c.in-Err-answer_last.fault) (Some (record { hand = None; behind = 0; fault = as_writer c.in-Err-answer_last.fault }))
    made (subst (λ (z : ℕ × Result (Unit {0}) Halt). HaveGathered sc talks a b c.deref_mut.result.now p.new.tellers c.args.tally.now p.new.tally c.args.stations.now p.new.stations p.new.hears.items z.0 p.result.1.left (result_err z.1)) (λ i. (room i, c.in_default.is i)) p.ensures.gathered)
    handed (p.ensures.tellers.len ∙ made.lines_len) (p.ensures.hears.len ∙ made.lines_len) c.in-Err-answer_last.ensures (last_bad sc talks b d c.hand_all.new.stations c.answer_last.new.stations (last_answers sc p.new.tally.days.keys) c.in-Err-answer_last.fault c.in-Err-answer_last.ensures) (p.ensures.whole (ap result_err c.in_default.is)).1 (p.ensures.whole (ap result_err c.in_default.is)).0)

pub answer_last-requires-clause-order : goal.answer_last-requires-clause-order
answer_last-requires-clause-order g c =
    let p = c.gather-gathered in
    let made : AreNew (length c.args.stations.now) c.deref.result.now c.deref_mut.result.now c.into_parts-lines.result.2.items = (let r = c.requires in search rules) in
    let handed : AreHandedLeft g.S.Source.talk p.new.tellers p.new.hears.items p.new.stations c.hand_all.new.stations =
    (let a = p.auto.tellers in let b = c.deref_mut.ensures.len in
    subst (λ (ts : List Teller). AreHandedLeft g.S.Source.talk ts p.new.hears.items p.new.stations c.hand_all.new.stations) (take_front p.new.tellers (drop (length p.new.tellers) c.into_parts-lines.result.1.items) c.into_parts-lines.result.1.len (omega (arith, a, b))) c.hand_all.ensures) in
    stations_closed c.args.scheme.now g.S.Source.talk (g.O.Outbox.standing c.args.outbox.now) (g.O.Outbox.standing p.new.outbox) c.deref.result.now c.deref_mut.result.now p.new.tellers c.into_parts-lines.result.2.items p.new.hears.items c.args.tally.now p.new.tally c.args.stations.now p.new.stations c.hand_all.new.stations
    _ _ _ c.requires.order made p.ensures.gathered handed (p.ensures.tellers.len ∙ made.lines_len)

pub answer_last-requires-clause-noted : goal.answer_last-requires-clause-noted
answer_last-requires-clause-noted g c =
    let p = c.gather-gathered in
    let sc = c.args.scheme.now in
    let written = p.ensures.gathered.written in
    subst (AreNoted sc) (sym (written.noted (ap result_err c.in_default.is))) (noted_all sc c.args.tally.now.days.keys (map item_of p.ensures.gathered.all) (subst (AreNoted sc) (sym c.requires.unnoted) (λ j d lt. absurd (omega (arith, lt)))))
