use Rattle.std.proofs.Common.{◌≡◌, [], ◌∷◌, List, length, sym, ap, ◌∙◌, subst, refl, inl, inr, arith, vec_len, vec_capacity, length-append}
use Rattle.std.specs.Vec.{with_items}
use Rattle.std.proofs.lemmas.List.{with_items_is}
use Rattle.fare_collect.specs.declared.station.Station.{Station}
use Rattle.fare_collect.specs.Collected.{writer_faults, station_faults}
use Rattle.fare_session.specs.declared.fault.SessionFault.{SessionFault}
use Rattle.fare_session.specs.declared.fault.SessionFault.TheVariants.{Memory}
use Rattle.fare_sessions.specs.Course.{Tally, Shows, with_faults, with_numbers}
use Rattle.fare_sessions.specs.Running.{HasCollected}
use Rattle.fare_sessions.proofs.Going.{few_faults, few_writer, no_numbers}
use Rattle.fare_sessions.proofs.hub.Hub.collect_from.Goals as goal

pub note_all-requires : goal.note_all-requires
note_all-requires g c =
    let ok = c.in-Ok.ensures.ok in
    let stations = c.collect.new.stations in
    let len = ok.1.len in
    let told = c.deref.ensures.value ∙ ok.2 in
    let size = ap length told ∙ length-append (writer_faults ok.0) (station_faults stations) in
    let one = few_writer ok.0 in
    let more = few_faults stations in
    let same = c.deref_mut.ensures.value in
    let sixteen = c.requires.can.0 in
    let room = c.requires.room in
    let faults = c.count.ensures.faults in
    let was : vec_len c.count.new.self.report.faults ≡ vec_len c.args.course.now.report.faults = ap vec_len faults in
    let has : vec_capacity c.count.new.self.report.faults ≡ vec_capacity c.args.course.now.report.faults = ap vec_capacity faults in
    let long : length c.deref_mut.result.now ≡ length c.args.stations.now.items = ap length same in
    record { room = omega (arith, size, one, more, len, sixteen, room, was, has, long) }

pub returns-in-Ok-clause-few : goal.returns-in-Ok-clause-few
returns-in-Ok-clause-few g c =
    let ok = c.in-Ok.ensures.ok in
    let stations = c.collect.new.stations in
    let len = ok.1.len in
    let told = c.deref.ensures.value ∙ ok.2 in
    let size = ap length told ∙ length-append (writer_faults ok.0) (station_faults stations) in
    let one = few_writer ok.0 in
    let more = few_faults stations in
    let long : length c.deref_mut.result.now ≡ length c.args.stations.now.items = ap length c.deref_mut.ensures.value in
    let sixteen = c.requires.can.0 in
    let was : vec_len c.count.new.self.report.faults ≡ vec_len c.args.course.now.report.faults = ap vec_len c.count.ensures.faults in
    let grew = c.note_all.ensures.len in
    omega (arith, size, one, more, len, sixteen, was, long, grew)

pub returns-in-Ok-clause-ran : goal.returns-in-Ok-clause-ran
returns-in-Ok-clause-ran g c =
    let ok = c.in-Ok.ensures.ok in
    let same = c.deref_mut.ensures.value in
    let sixteen = c.args.stations.now.ok.0 in
    let len = ok.1.len in
    let long = ap length same in
    let written = with_items_is c.args.stations.now c.collect.new.stations (omega (arith, len, long, sixteen)) in
    let faults = c.deref.ensures.value in (
      record { stored = c.in-Ok.report.stored; taken = 0; left = c.in-Ok.report.left; faults = c.in-Ok.report.faults.items },
      subst (λ (before : List (Station g.row.S.Denot)). HasCollected g.S.Source.talk g.O.Outbox.standing c.args.self.now (record { scheme = c.args.self.now.scheme; outbox = c.collect.new.outbox; ledgers = c.args.self.now.ledgers }) before (with_items c.args.stations.now c.collect.new.stations).items (record { stored = c.in-Ok.report.stored; taken = 0; left = c.in-Ok.report.left; faults = c.in-Ok.report.faults.items })) same
          (subst (λ (after : List (Station g.row.S.Denot)). HasCollected g.S.Source.talk g.O.Outbox.standing c.args.self.now (record { scheme = c.args.self.now.scheme; outbox = c.collect.new.outbox; ledgers = c.args.self.now.ledgers }) c.deref_mut.result.now after (record { stored = c.in-Ok.report.stored; taken = 0; left = c.in-Ok.report.left; faults = c.in-Ok.report.faults.items })) (sym written)
          (record { scheme = refl; ledgers = refl; taken = refl; came = inl (ok.0, ok.1, ok.2) })),
      λ limit t is.
          subst (λ (fs : List SessionFault). Shows limit (with_faults (with_numbers t c.in-Ok.report.stored 0 c.in-Ok.report.left) c.args.place fs) c.note_all.new.self) faults
          (c.note_all.ensures.shows limit (with_numbers t c.in-Ok.report.stored 0 c.in-Ok.report.left) (c.count.ensures.shows limit t is)),
    )

pub returns-in-Err-clause-ran : goal.returns-in-Err-clause-ran
returns-in-Err-clause-ran g c =
    let memory = c.in-Err.ensures.memory refl in
    let same = c.deref_mut.ensures.value in
    let unread = memory.1 ∙ same in
    let all = c.args.stations.now.ok.0 in
    let long = ap length unread in
    let written = with_items_is c.args.stations.now c.collect.new.stations (omega (arith, long, all)) in (
      record { stored = 0; taken = 0; left = 0; faults = Memory ∷ [] },
      record { scheme = refl; ledgers = refl; taken = refl; came = inr (memory.0, written ∙ unread, refl, refl, refl) },
      λ limit t is. subst (λ (u : Tally). Shows limit (with_faults u c.args.place (Memory ∷ [])) c.note.new.self) (sym (no_numbers t)) (c.note.ensures.shows limit t is),
    )
