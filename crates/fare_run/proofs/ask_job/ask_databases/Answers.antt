use Rattle.std.proofs.Common.{arith, subst, sym}
use Rattle.std.proofs.KnownBytes.{Keeps-refl}
use Rattle.fare_outbox.specs.Words as outbox_words
use Rattle.fare_ledger.specs.Words as ledger_words
use Rattle.fare_run.specs.Databases.{StaysAsked}
use Rattle.fare_run.specs.Stores.{IsOfStores}
use Rattle.fare_run.proofs.Asked.{answered, asked_count, keeps_unless}
use Rattle.fare_run.proofs.InDatabases.{answers_opened, keeps_asked, keeps_unopened, refuses_opened, stays_asked}
use Rattle.fare_run.proofs.Served.{of_opening}
use Rattle.fare_run.proofs.Unasked.{named_first, not_answered}
use Rattle.fare_run.proofs.ask_job.ask_databases.Goals as goal

pub returns-in-Ok-answered-clause-done : goal.returns-in-Ok-answered-clause-done
returns-in-Ok-answered-clause-done g c =
    answered _ _ c.args.question c.args.scheme c.in-Ok.opened.hub c.answer_over-answered.new.hub (g.O.Write.contents c.args.output.now) (g.O.Write.contents c.answer_over-answered.new.output) c.in-Ok.ensures.scheme c.in-Ok-answered.ensures.answers

pub returns-in-Ok-answered-clause-answers : goal.returns-in-Ok-answered-clause-answers
returns-in-Ok-answered-clause-answers g c =
    answers_opened g.S.Store c.args.scheme c.in-Ok.ensures.valid c.args.databases c.close_hub-databases.result c.in-Ok.opened.hub c.answer_over-answered.new.hub c.in-Ok.ensures.scheme c.in-Ok.ensures.count c.in-Ok.ensures.holds c.close_hub-databases.ensures.back
    c.args.question c.in-Ok-answered.ensures.goes (g.O.Write.contents c.args.output.now) (g.O.Write.contents c.answer_over-answered.new.output) c.in-Ok-answered.ensures.answers

pub returns-in-Ok-answered-clause-keeps : goal.returns-in-Ok-answered-clause-keeps
returns-in-Ok-answered-clause-keeps g c =
    keeps_asked g.S.Store c.args.scheme c.in-Ok.ensures.valid c.args.databases c.close_hub-databases.result c.in-Ok.opened.hub c.answer_over-answered.new.hub c.in-Ok.ensures.scheme c.in-Ok.ensures.count c.in-Ok.ensures.holds c.close_hub-databases.ensures.back c.args.question c.in-Ok-answered.ensures.goes

pub returns-in-Err-answered-clause-fails : goal.returns-in-Err-answered-clause-fails
returns-in-Err-answered-clause-fails g c question = keeps_unless c.in-Err-answered.fault (g.O.Write.contents c.args.output.now) (g.O.Write.contents c.answer_over-answered.new.output) (c.in-Err-answered.ensures.kept question)

pub returns-in-Err-answered-clause-refuses : goal.returns-in-Err-answered-clause-refuses
returns-in-Err-answered-clause-refuses g c =
    refuses_opened g.S.Store c.args.scheme c.in-Ok.ensures.valid c.args.databases c.close_hub-databases.result c.in-Ok.opened.hub c.answer_over-answered.new.hub c.in-Ok.ensures.scheme c.in-Ok.ensures.count c.in-Ok.ensures.holds c.close_hub-databases.ensures.back
    c.args.question c.in-Err-answered.ensures.goes c.in-Err-answered.fault c.in-Err-answered.ensures.fails

pub returns-in-Err-answered-clause-keeps : goal.returns-in-Err-answered-clause-keeps
returns-in-Err-answered-clause-keeps g c =
    keeps_asked g.S.Store c.args.scheme c.in-Ok.ensures.valid c.args.databases c.close_hub-databases.result c.in-Ok.opened.hub c.answer_over-answered.new.hub c.in-Ok.ensures.scheme c.in-Ok.ensures.count c.in-Ok.ensures.holds c.close_hub-databases.ensures.back c.args.question c.in-Err-answered.ensures.goes

pub returns-in-Err-clause-fails : goal.returns-in-Err-clause-fails
returns-in-Err-clause-fails g c = (Keeps-refl (g.O.Write.contents c.args.output.now), subst IsOfStores (sym c.from.ensures) (of_opening c.in-Err.fault))

pub returns-in-Err-clause-keeps : goal.returns-in-Err-clause-keeps
returns-in-Err-clause-keeps g c =
    keeps_unopened g.S.Store c.args.scheme c.in-Err.ensures.valid c.args.databases c.in-Err.databases (λ lists. Unit {0}) (λ k. Unit {0}) (λ k. tt) c.requires.owners c.in-Err.ensures.stay (StaysAsked c.args.question) (stays_asked c.args.question)

pub close_hub-databases-requires-clause-room : goal.close_hub-databases-requires-clause-room
close_hub-databases-requires-clause-room g c =
    let many = asked_count (outbox_words.stands g.S.Store) (ledger_words.stands g.S.Store) c.args.question c.in-Ok.opened.hub c.answer_over-answered.new.hub c.answer_over-answered.ensures.goes in
    omega (arith, many, c.in-Ok.ensures.room.1)

pub returns-in-Ok-answered-clause-unasked : goal.returns-in-Ok-answered-clause-unasked
returns-in-Ok-answered-clause-unasked g c = not_answered c.in-Ok.opened.hub c.answer_over-answered.new.hub c.args.scheme c.args.question c.in-Ok.ensures.scheme c.answer_over-answered.result c.answer_over-answered.ensures.unasked tt c.in-Ok-answered.is

pub returns-in-Err-answered-clause-unasked : goal.returns-in-Err-answered-clause-unasked
returns-in-Err-answered-clause-unasked g c = named_first c.in-Ok.opened.hub c.answer_over-answered.new.hub c.args.scheme c.args.question c.in-Ok.ensures.scheme c.answer_over-answered.result c.answer_over-answered.ensures.unasked c.in-Err-answered.fault c.in-Err-answered.is

pub returns-in-Err-clause-unasked : goal.returns-in-Err-clause-unasked
returns-in-Err-clause-unasked g c = λ why is. tt
