use Rattle.std.proofs.Common.{◌≡◌, ◌+◌, [], ◌∷◌, ◌++◌, List, take, sym, ap, ◌∙◌, subst, arith, refl}
use Rattle.std.proofs.lemmas.List.{take_more, take_all}
use Rattle.fare_session.specs.declared.fault.SessionFault.{SessionFault}
use Rattle.fare_sessions.specs.Course.{Tally, Shows, with_faults}
use Rattle.fare_sessions.proofs.Going.{faults_join, no_faults}
use Rattle.fare_sessions.proofs.course.Course.note_all.Goals as goal

pub loop-fault-init : goal.loop-fault-init
loop-fault-init c = (λ limit t is. subst (λ (u : Tally). Shows limit u c.args.self.now) (sym (no_faults t c.args.place)) is, omega arith, refl)

pub note-requires : goal.note-requires
note-requires c =
    let room = c.requires.room in
    let len = c.loop-fault.invariant.1 in
    let same = c.loop-fault.invariant.2 in
    let lt = c.loop-fault-test.true in
    record { room = omega (arith, room, len, same, lt) }

pub loop-fault-preserved : goal.loop-fault-preserved
loop-fault-preserved c =
    let inv = c.loop-fault.invariant in
    let k = c.loop-fault.fault-index in
    let all = c.args.faults.now in
    let f = c.fault-item.result in
    let one = c.note.ensures.len in
    let before = inv.1 in
    let next : take (k + 1) all ≡ take k all ++ f ∷ [] = take_more all k f c.loop-fault-test.true ∙ ap (λ (x : SessionFault). take k all ++ x ∷ []) (sym c.fault-item.is) in (
      λ limit t is. subst (λ (u : Tally). Shows limit u c.note.new.self) (faults_join t c.args.place (take k all) (f ∷ []) ∙ ap (with_faults t c.args.place) (sym next)) (c.note.ensures.shows limit (with_faults t c.args.place (take k all)) (inv.0 limit t is)),
      omega (arith, one, before),
      c.note.ensures.capacity ∙ inv.2,
    )

pub returns-clause-shows : goal.returns-clause-shows
returns-clause-shows c =
    let past = c.loop-fault-test.false in
    let all = c.args.faults.now in
    λ limit t is. subst (λ (fs : List SessionFault). Shows limit (with_faults t c.args.place fs) c.loop-fault.self) (take_all c.loop-fault.fault-index all (omega (arith, past))) (c.loop-fault.invariant.0 limit t is)

pub returns-clause-len : goal.returns-clause-len
returns-clause-len c =
    let past = c.loop-fault-test.false in
    let within = c.loop-fault.auto.fault-index-end in
    let len = c.loop-fault.invariant.1 in
    omega (arith, past, within, len)

pub returns-clause-capacity : goal.returns-clause-capacity
returns-clause-capacity c = c.loop-fault.invariant.2
