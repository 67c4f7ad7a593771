use Rattle.std.proofs.Common.{rules}
use Rattle.fare_json.proofs.Values.{says_number, says_string}
use Rattle.fare_json.proofs.value.put_text.Goals as goal

pub returns-then-is_number-clause-written : goal.returns-then-is_number-clause-written
returns-then-is_number-clause-written c =
    let is = says_number c.args.word.now (search rules) (search rules) in rw is (search rules)

pub returns-else-is_number-clause-written : goal.returns-else-is_number-clause-written
returns-else-is_number-clause-written c =
    let is = says_string c.args.word.now (search rules) (search rules) in rw is (search rules)
