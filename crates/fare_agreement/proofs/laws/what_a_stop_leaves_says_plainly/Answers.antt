use Rattle.fare_agreement.proofs.PlainlyLeft.{served_left, whole_left, others_left, gathered_left}
use Rattle.fare_agreement.proofs.laws.what_a_stop_leaves_says_plainly.Goals as goal

pub returns-clause-served : goal.returns-clause-served
returns-clause-served c = served_left

pub returns-clause-whole : goal.returns-clause-whole
returns-clause-whole c = whole_left

pub returns-clause-beside : goal.returns-clause-beside
returns-clause-beside c = others_left

pub returns-clause-gathered : goal.returns-clause-gathered
returns-clause-gathered c = gathered_left
