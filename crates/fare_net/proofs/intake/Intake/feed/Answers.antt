use Rattle.std.proofs.Common.{◌≡◌, ◌≤◌, ◌++◌, [], take, ℕ, List, length, arith, subst, sym, ap, ◌∙◌, vec_capacity}
use Rattle.fare_frame.specs.Reading.{Spells, HasNoFrame}
use Rattle.fare_net.specs.Histories.{bytes_of}
use Rattle.fare_net.specs.Inside.{Stands, intake_of}
use Rattle.fare_net.specs.Intakes.{IsWaiting}
use Rattle.fare_net.specs.Turns.{Fed, FeedFails}
use Rattle.fare_net.proofs.Intakes.{goes_on, fails_at, failed_few, few_frames, few_taken, live_rest, read_more, nothing_waits}
use Rattle.fare_net.proofs.intake.Intake.feed.Goals as goal

pub invariant_of-self : goal.invariant_of-self
invariant_of-self c =
    let a = c.self.inside in
    let waits : IsWaiting (intake_of a) = subst IsWaiting (sym c.self.view_is) c.requires.waiting in
    let fs = (intake_of a).taken in
    let before : Stands a.stage (bytes_of a.reads.items) fs a.decoder = subst (λ t. Stands a.stage (bytes_of a.reads.items) t a.decoder) (nothing_waits (intake_of a) waits) c.self.invariant.stands in
    let piece = take c.args.count c.args.buffer.now in
    let fed : Fed a.decoder c.feed_piece.new.decoder [] c.feed_piece.new.frames.items piece = subst (λ t. Fed a.decoder c.feed_piece.new.decoder t c.feed_piece.new.frames.items piece) c.clear.ensures.items c.in-Ok.ensures.ok in
    let read : bytes_of c.and-self-inside.result.items ≡ bytes_of a.reads.items ++ piece = ap bytes_of c.and-self-inside.ensures ∙ read_more a.reads.items c.args.buffer.now c.args.count in
    record {
      stands = subst (λ t. Stands a.stage t (fs ++ c.feed_piece.new.frames.items) c.feed_piece.new.decoder) (sym read) (goes_on a.stage (bytes_of a.reads.items) piece fs c.feed_piece.new.frames.items a.decoder c.feed_piece.new.decoder waits.live before fed);
      placed = omega arith;
      room = omega (arith, c.in-Ok.ensures.room, c.clear.ensures.capacity, c.self.invariant.room);
      few = few_frames a.decoder.held piece c.feed_piece.new.frames.items c.feed_piece.new.decoder.held (live_rest a.stage (bytes_of a.reads.items) fs a.decoder waits.live before) (few_taken c.args.count c.args.buffer.now c.requires.count) fed.reads;
    }

pub invariant_of-self-in-Err : goal.invariant_of-self-in-Err
invariant_of-self-in-Err c =
    let a = c.self.inside in
    let waits : IsWaiting (intake_of a) = subst IsWaiting (sym c.self.view_is) c.requires.waiting in
    let fs = (intake_of a).taken in
    let before : Stands a.stage (bytes_of a.reads.items) fs a.decoder = subst (λ t. Stands a.stage (bytes_of a.reads.items) t a.decoder) (nothing_waits (intake_of a) waits) c.self.invariant.stands in
    let piece = take c.args.count c.args.buffer.now in
    let now = c.feed_piece.new.frames.items in
    let room : 460 ≤ vec_capacity c.clear.new.self = omega (arith, c.clear.ensures.capacity, c.self.invariant.room) in
    let why : FeedFails a.decoder c.feed_piece.new.decoder [] now (vec_capacity c.clear.new.self) piece c.in-Err.field-0 = subst (λ t. FeedFails a.decoder c.feed_piece.new.decoder t now (vec_capacity c.clear.new.self) piece c.in-Err.field-0) c.clear.ensures.items c.in-Err.ensures.fails in
    let few : length piece ≤ 4096 = few_taken c.args.count c.args.buffer.now c.requires.count in
    let read : bytes_of c.and-self-inside.result.items ≡ bytes_of a.reads.items ++ piece = ap bytes_of c.and-self-inside.ensures ∙ read_more a.reads.items c.args.buffer.now c.args.count in
    let found = fails_at a.stage (bytes_of a.reads.items) piece fs now a.decoder c.feed_piece.new.decoder (vec_capacity c.clear.new.self) c.in-Err.field-0 waits.live before few room why in
    record {
      stands = subst (λ t. (rest : List ℕ) × Spells t (fs ++ now) rest × HasNoFrame rest) (sym read) found;
      placed = omega arith;
      room = omega (arith, c.in-Err.ensures.room, c.clear.ensures.capacity, c.self.invariant.room);
      few = failed_few a.stage (bytes_of a.reads.items) piece fs now a.decoder c.feed_piece.new.decoder (vec_capacity c.clear.new.self) c.in-Err.field-0 waits.live before few why;
    }
