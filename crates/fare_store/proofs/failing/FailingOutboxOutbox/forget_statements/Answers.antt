use Rattle.std.proofs.Common.{sym, ◌∙◌}
use Rattle.fare_store.proofs.FailingLemmas.{passed_on}
use Rattle.fare_store.proofs.failing.FailingOutboxOutbox.forget_statements.Goals as goal

pub returns : goal.returns
returns g c = passed_on c.args.self.now.left c.fails_now.new.left _ _ _ _ _ c.fails_now.ensures.left (sym c.fails_now.ensures.now ∙ c.if-fails_now.false) c.forget_statements.ensures
