use Rattle.std.proofs.Common.{ℕ, refl, ap, subst, ◌∙◌, codes}
use Rattle.clap.specs.Words.{first_of, found_of, rows_of}
use Rattle.fare_command.specs.Jobs.{IsGiven, usual_rounds}
use Rattle.fare_command.proofs.words.serve_job.Goals as goal

pub returns-clause-ok : goal.returns-clause-ok
returns-clause-ok c =
    let given = first_of (codes "rounds") (rows_of (found_of c.args.matches.now)) in
    let usual = c.usual_rounds-usual.ensures ∙ ap usual_rounds c.text_of-until.ensures in (
      refl,
      c.in_ok-port.ensures.ok,
      c.in_ok-turns.ensures.ok,
      c.in_ok-path.ensures.ok,
      c.source_of-scheme.ensures,
      c.in_ok-read_millis.ensures.ok,
      c.in_ok-write_millis.ensures.ok,
      subst (λ (n : ℕ). IsGiven 4294967295 n given c.in_ok-rounds.rounds) usual c.in_ok-rounds.ensures.ok,
      c.text_of-until.ensures,
      c.in_ok-patience.ensures.ok,
      c.in_ok-round_millis.ensures.ok,
      c.in_ok-ask.ensures.ok,
    )
