use Rattle.std.proofs.Common.{◌≡◌, ap, ◌∙◌, rules}
use Rattle.json.specs.Json.{document}
use Rattle.fare_json.specs.Lines.{json_text}
use Rattle.fare_json.proofs.Whole.{reads_back}
use Rattle.fare_json.proofs.document.json_of.Goals as goal

pub returns-clause-reads_back : goal.returns-clause-reads_back
returns-clause-reads_back c =
    let text : c.into_inner.result.items ≡ json_text c.args.text.now = search rules in
    ap document text ∙ reads_back c.args.text.now
