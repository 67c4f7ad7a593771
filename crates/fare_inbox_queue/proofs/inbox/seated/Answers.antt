use Rattle.std.proofs.Common.{◌≡◌, ℕ, false, nat_eq, subst}
use Rattle.std.specs.List.{list_any}
use Rattle.crossbeam_queue.specs.Passes.{view}
use Rattle.fare_inbox_queue.proofs.Steps.{splits}
use Rattle.fare_inbox_queue.proofs.inbox.seated.Goals as goal

pub another-requires-clause-rule : goal.another-requires-clause-rule
another-requires-clause-rule g c =
    splits _ _ _ c.requires.writer.takes (subst (λ (s : ℕ). list_any (nat_eq s) (view c.args.writer.now.pass).seated ≡ false) c.requires.picked c.requires.fresh)
