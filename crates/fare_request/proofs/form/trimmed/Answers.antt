use Rattle.std.proofs.Common.{refl}
use Rattle.std.proofs.lemmas.Str.Ascii.{trim_ascii_is}
use Rattle.fare_request.specs.Forms.{front_trimmed}
use Rattle.fare_request.proofs.form.trimmed.Goals as goal

pub returns : goal.returns
returns c = trim_ascii_is c.args.text.now c.trim_ascii.result.now (front_trimmed c.args.text.now) refl c.trim_ascii.ensures.value
