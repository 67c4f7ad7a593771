use Rattle.fare_setup.proofs.Entries.{owner_at}
use Rattle.fare_setup.proofs.entry.line_of_owner.Goals as goal

pub returns : goal.returns
returns c =
    owner_at c.args.scheme.now.owners c.in_ok-owner.owner c.args.position c.in_ok-lane.lane c.get.result c.in_ok-owner.ensures.value c.in_ok-owner.ensures.placed c.in_ok-lane.ensures.value c.get.ensures.value
