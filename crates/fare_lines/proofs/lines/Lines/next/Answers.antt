use Rattle.std.proofs.Common.{◌≡◌, ◌<◌, ◌+◌, ◌∷◌, [], ◌∙◌, Some, None, length, ap, sym, refl, arith, rules}
use Rattle.fare_lines.specs.Grammar.{line_text}
use Rattle.fare_lines.specs.Lines.{FirstBadLine, lines_of}
use Rattle.fare_lines.specs.Reading.{BeginsWithLine, OfFirstLine, SpellsNoLine, behind_feed, is_feed}
use Rattle.fare_lines.proofs.Cuts.{first_line}
use Rattle.fare_lines.proofs.Texts.{first_of_lines, no_lines}
use Rattle.fare_lines.proofs.lines.Lines.next.Goals as goal

pub returns-then-is_empty : goal.returns-then-is_empty
returns-then-is_empty c =
    let rest = c.self.inside.rest.now in
    let empty : length rest ≡ 0 = search rules in
    record { line = (refl, ap (λ u. lines_of u.rest) (sym c.self.view_is) ∙ no_lines rest (omega (arith, empty))); fault = tt }

pub returns-in_default : goal.returns-in_default
returns-in_default c =
    let rest = c.self.inside.rest.now in
    let some : 0 < length rest = search rules in
    let first = first_line is_feed rest in
    let none : OfFirstLine SpellsNoLine rest = rw c.in_default.is at c.in_ok-line.ensures.none in
    let bad : FirstBadLine c.args.self.now.rest 1 = record {
      before = [];
      bad = first.0;
      after = lines_of (behind_feed first.1);
      fits = tt;
      is = ap (λ u. lines_of u.rest) (sym c.self.view_is) ∙ (first_of_lines rest first.0 first.1 first.2 some).0;
      at = omega arith;
      none = none first.0 first.1 first.2;
    } in
    record { line = tt; fault = (1, bad, ap (λ u. u.number + 1) c.self.view_is) }

pub returns : goal.returns
returns c =
    let rest = c.self.inside.rest.now in
    let some : 0 < length rest = search rules in
    let line = c.in-Some.line in
    let read : BeginsWithLine rest line c.in-Some.rest.now = rw c.in-Some.is at c.in_ok-line.ensures.found in
    let first = first_of_lines rest (line_text line) c.in-Some.rest.now read.1 some in
    record {
      line = (
        read.0,
        ap (λ u. lines_of u.rest) (sym c.self.view_is) ∙ first.0 ∙ ap (λ t. line_text line ∷ lines_of t) (sym c.behind-self-inside.ensures),
        ap (λ u. u.number + 1) c.self.view_is,
        omega (arith, first.1, ap length c.behind-self-inside.ensures, ap (λ u. length u.rest) c.self.view_is),
      );
      fault = tt;
    }
