use Rattle.std.proofs.Common.{rules, ◌≡◌, ◌≤◌, ◌++◌, ◌∷◌, [], length, vec_capacity, Err, take, ap, ◌∙◌, subst, arith}
use Rattle.std.proofs.lemmas.Result.{err_from_is_err_and}
use Rattle.fare_frame.specs.Grammar.{IsFault}
use Rattle.fare_frame.specs.Reading.{Stops}
use Rattle.fare_frame.specs.declared.fault.ReadFault.TheVariants.{Memory}
use Rattle.fare_frame.proofs.Streams.{fault_in_piece, first_and_slice, reads_front, stops_here, stops_front, keeps_front, reads_none, overfills_next, overfills_front}
use Rattle.fare_frame.proofs.reader.read_piece.Goals as goal

pub returns-in_err-frame-clause-stopped : goal.returns-in_err-frame-clause-stopped
returns-in_err-frame-clause-stopped c =
    let held = c.args.held.now.items in
    let piece = c.args.piece.now in
    let old = c.args.frames.now.items in
    let room = c.min-room.result in
    let fault = c.in_err-frame.field-0.0 in
    let stands : IsFault (held ++ take room piece) fault = subst (λ t. IsFault t fault) (c.deref.ensures.value ∙ c.in-Ok.ensures.items) c.in_err-frame.ensures.fault in
    let stops : Stops fault (held ++ piece) old old = stops_here (held ++ piece) old fault (fault_in_piece held piece room fault stands) in
    let p = err_from_is_err_and c.from_residual.result c.from_residual.ensures.1 in rw (p.1, p.2) (λ bad. stops)

pub returns-in_err-rest-clause-stopped : goal.returns-in_err-rest-clause-stopped
returns-in_err-rest-clause-stopped c =
    let held = c.args.held.now.items in
    let piece = c.args.piece.now in
    let old = c.args.frames.now.items in
    let f = c.in-Some.frame in
    let found = rw c.in-Some.is at c.in_ok-frame.ensures.whole in
    let pushed : c.push.new.self.items ≡ old ++ f ∷ [] = search rules in
    let front = first_and_slice held piece c.deref.result.now c.min-room.result c.in-Some.size c.len-before.result f c.requires.rest (c.deref.ensures.value ∙ c.in-Ok.ensures.items) (omega arith) found.0 found.2 in
    let p = err_from_is_err_and c.from_residual-in_err-rest.result c.from_residual-in_err-rest.ensures.1 in
    rw (p.1, p.2) (λ bad. stops_front (held ++ piece) old c.push.new.self.items c.read_frames.new.frames.items f _ c.in_err-rest.field-0.0 front found.1 pushed (c.in_err-rest.ensures.stopped bad))

pub returns-in_err-rest-clause-kept : goal.returns-in_err-rest-clause-kept
returns-in_err-rest-clause-kept c =
    let old = c.args.frames.now.items in
    let pushed : c.push.new.self.items ≡ old ++ c.in-Some.frame ∷ [] = search rules in
    keeps_front old c.push.new.self.items c.read_frames.new.frames.items c.in-Some.frame pushed c.read_frames.ensures.kept

pub returns-clause-ok : goal.returns-clause-ok
returns-clause-ok c =
    let held = c.args.held.now.items in
    let piece = c.args.piece.now in
    let old = c.args.frames.now.items in
    let f = c.in-Some.frame in
    let found = rw c.in-Some.is at c.in_ok-frame.ensures.whole in
    let pushed : c.push.new.self.items ≡ old ++ f ∷ [] = search rules in
    let front = first_and_slice held piece c.deref.result.now c.min-room.result c.in-Some.size c.len-before.result f c.requires.rest (c.deref.ensures.value ∙ c.in-Ok.ensures.items) (omega arith) found.0 found.2 in
    let kept : c.extend_from_slice-2.new.self.items ≡ c.in_ok-rest.rest.now = c.in-Ok-extend_from_slice.ensures.items ∙ ap (λ t. t ++ c.in_ok-rest.rest.now) c.clear.ensures.items in
    let read = c.in_ok-rest.ensures.ok in
    rw kept (reads_front (held ++ piece) old c.push.new.self.items c.read_frames.new.frames.items f _ c.in_ok-rest.rest.now front found.1 pushed read.0, read.1)

pub returns-then-is_err-clause-memory : goal.returns-then-is_err-clause-memory
returns-then-is_err-clause-memory c =
    let held = c.args.held.now.items in
    let piece = c.args.piece.now in
    let old = c.args.frames.now.items in
    let f = c.in-Some.frame in
    let found = rw c.in-Some.is at c.in_ok-frame.ensures.whole in
    let front = first_and_slice held piece c.deref.result.now c.min-room.result c.in-Some.size c.len-before.result f c.requires.rest (c.deref.ensures.value ∙ c.in-Ok.ensures.items) (omega arith) found.0 found.2 in
    let full : vec_capacity c.args.frames.now ≤ length old = search rules in
    λ _. overfills_next (vec_capacity c.args.frames.now) (held ++ piece) old old f (held ++ piece) _ (reads_none (held ++ piece) old) found.1 front full

pub returns-in_err-rest-clause-memory : goal.returns-in_err-rest-clause-memory
returns-in_err-rest-clause-memory c =
    let held = c.args.held.now.items in
    let piece = c.args.piece.now in
    let old = c.args.frames.now.items in
    let f = c.in-Some.frame in
    let found = rw c.in-Some.is at c.in_ok-frame.ensures.whole in
    let pushed : c.push.new.self.items ≡ old ++ f ∷ [] = search rules in
    let front = first_and_slice held piece c.deref.result.now c.min-room.result c.in-Some.size c.len-before.result f c.requires.rest (c.deref.ensures.value ∙ c.in-Ok.ensures.items) (omega arith) found.0 found.2 in
    let p = err_from_is_err_and c.from_residual-in_err-rest.result c.from_residual-in_err-rest.ensures.1 in
    rw (p.1, p.2) (λ of. let is : c.in_err-rest.field-0.0 ≡ Memory = cc of in overfills_front (vec_capacity c.args.frames.now) (vec_capacity c.push.new.self) (held ++ piece) old c.push.new.self.items f _ front found.1 pushed c.push.ensures.capacity (c.in_err-rest.ensures.memory (ap Err is)))
