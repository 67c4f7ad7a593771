use Rattle.std.proofs.Common.{rules, sym}
use Rattle.fare_json.proofs.Values.{says_nothing, says_text}
use Rattle.fare_json.proofs.value.put_word.Goals as goal

pub returns-in-Err-clause-written : goal.returns-in-Err-clause-written
returns-in-Err-clause-written c = let is = says_nothing c.args.word.now c.in-Err.ensures.cases.0 in rw is (search rules)

pub returns-in-Ok-clause-written : goal.returns-in-Ok-clause-written
returns-in-Ok-clause-written c =
    rw (says_text c.args.word.now c.in-Ok.ensures.cases.1) (rw (sym c.in-Ok.ensures.cases.0) (c.put_text.ensures.written))
