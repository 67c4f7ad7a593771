use Rattle.fare_setup.proofs.Entries.{product_at}
use Rattle.fare_setup.proofs.entry.product_entry.Goals as goal

pub returns-clause-is : goal.returns-clause-is
returns-clause-is c =
    product_at c.args.scheme.now.products c.in_ok-id.id c.args.position c.in_ok-owner.owner c.in_ok-tariff.tariff c.in_ok-id.ensures.value c.in_ok-id.ensures.placed c.in_ok-owner.ensures.value c.in_ok-tariff.ensures.value
