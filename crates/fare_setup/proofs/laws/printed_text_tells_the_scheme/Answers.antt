use Rattle.fare_setup.proofs.OneScheme.{text_tells}
use Rattle.fare_setup.proofs.laws.printed_text_tells_the_scheme.Goals as goal

pub returns : goal.returns
returns c = text_tells
