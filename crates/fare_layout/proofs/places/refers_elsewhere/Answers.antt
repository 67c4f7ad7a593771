use Rattle.std.proofs.Common.{◌↔◌, IsTrue}
use Rattle.fare_layout.specs.Layouts.{RefersElsewhere}
use Rattle.fare_layout.proofs.places.refers_elsewhere.Goals as goal

pub returns : goal.returns
returns c =
    let asks : IsTrue c.is_elsewhere.result ↔ RefersElsewhere c.args.schema.now c.args.tree c.args.reference.now = rw (c.as_slice.ensures, c.as_slice-2.ensures) at c.is_elsewhere.ensures in
    asks
