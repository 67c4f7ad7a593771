-- What is printed of a scheme is read again as its lines.
use Rattle.std.proofs.Common.{◌≡◌, ◌⊎◌, inl, inr, ℕ, List, map, ap, refl, Ok, Err}
use Rattle.std.specs.Prelude.{Result, MatchResult}
use Rattle.std.specs.List.{AllByRecursion}
use Rattle.fare_scheme.specs.Values.{SchemeValue}
use Rattle.fare_scheme.specs.Facts.{IsScheme}
use Rattle.fare_lines.specs.declared.line.Line.{Line}
use Rattle.fare_lines.specs.declared.line.Line.TheVariants.{Setup}
use Rattle.fare_lines.specs.declared.text.ParseFault.{ParseFault}
use Rattle.fare_lines.specs.declared.text.ParseFault.TheVariants.{BadLine, Memory}
use Rattle.fare_lines.specs.ZoneWord.{IsZoneText}
use Rattle.fare_lines.specs.Grammar.{Fits}
use Rattle.fare_lines.specs.Lines.{Spells, printed}
use Rattle.fare_lines.specs.Faults.{Refuses}
use Rattle.fare_lines.proofs.Printing.{never_both, one_reading, printed_spells}
use Rattle.fare_setup.specs.SchemeLines.{setup_lines_of}
use Rattle.fare_setup.specs.ReadAgain.{ReadsAs, setup_text_of}
use Rattle.fare_setup.proofs.Fitting.{setup_fits}

only_these : (text : List ℕ) (lines : List Line) → Spells lines text → (answer : Result (List Line) ParseFault) → MatchResult answer (λ read. Spells read text) (Refuses text) → (answer ≡ Ok lines) ⊎ (answer ≡ Err Memory)
only_these text lines spelled (Ok read) says = inl (ap Ok (one_reading read lines text says spelled))
only_these text lines spelled (Err (BadLine number)) says = absurd (never_both lines text number spelled says)
only_these text lines spelled (Err Memory) says = inr refl

pub printed_reads_as : (lines : List Line) → AllByRecursion Fits lines → ReadsAs (printed lines) lines
printed_reads_as lines fit =
    let spelled = printed_spells lines fit in
    record { spelled = spelled; only = only_these (printed lines) lines spelled }

pub setup_reads_as : (scheme : SchemeValue) (zone : List ℕ) → IsScheme scheme → IsZoneText zone → ReadsAs (setup_text_of scheme zone) (map Setup (setup_lines_of scheme zone))
setup_reads_as scheme zone is fits = printed_reads_as (map Setup (setup_lines_of scheme zone)) (setup_fits scheme zone is fits)
