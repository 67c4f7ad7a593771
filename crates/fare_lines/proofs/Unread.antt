-- Reading on through a text, line by line.
use Rattle.std.proofs.Common.{◌≡◌, ◌+◌, ◌∙◌, ℕ, List, [], ◌∷◌, ◌++◌, Some, length, map, ap, subst, refl, arith, length-append}
use Rattle.std.specs.List.{AllByRecursion}
use Rattle.fare_lines.specs.declared.line.Line.{Line}
use Rattle.fare_lines.specs.declared.text.ParseFault.{ParseFault}
use Rattle.fare_lines.specs.declared.text.ParseFault.TheVariants.{BadLine, Memory}
use Rattle.fare_lines.specs.Grammar.{Fits, line_text}
use Rattle.fare_lines.specs.Faults.{Refuses}
use Rattle.fare_lines.specs.Lines.{FirstBadLine, Spells, lines_of}
use Rattle.fare_lines.specs.Unread.{IsNext, ReadsOff, StopsIn, Unread, whole}
use Rattle.fare_lines.proofs.Cuts.{append_nil}
use Rattle.fare_lines.proofs.Rows.{all_push, row_next}

pub reads_nothing : (at : Unread) → ReadsOff at at []
reads_nothing at = record { fits = tt; is = refl; number = omega arith }

pub reads_line : (old mid new : Unread) (lines : List Line) (line : Line) → ReadsOff old mid lines → IsNext mid new (Some line) → ReadsOff old new (lines ++ line ∷ [])
reads_line old mid new lines line read next = record {
  fits = all_push Fits lines line read.fits next.0;
  is = row_next line_text lines line (line_text line) (lines_of old.rest) (lines_of new.rest) (lines_of mid.rest) read.is next.1 refl;
  number = omega (arith, read.number, next.2, length-append lines (line ∷ []));
}

pub all_both : {X : Type 0} (P : X → Type 0) (xs ys : List X) → AllByRecursion P xs → AllByRecursion P ys → AllByRecursion P (xs ++ ys)
all_both P [] ys left right = right
all_both P (x ∷ xs) ys left right = (left.0, all_both P xs ys left.1 right)

pub map_both : {X : Type 0} (f : X → List ℕ) (xs ys : List X) (rest : List (List ℕ)) → map f xs ++ (map f ys ++ rest) ≡ map f (xs ++ ys) ++ rest
map_both f [] ys rest = refl
map_both f (x ∷ xs) ys rest = ap (λ t. f x ∷ t) (map_both f xs ys rest)

-- one part after the other
pub reads_both : (old mid new : Unread) (front back : List Line) → ReadsOff old mid front → ReadsOff mid new back → ReadsOff old new (front ++ back)
reads_both old mid new front back first second = record {
  fits = all_both Fits front back first.fits second.fits;
  is = first.is ∙ ap (λ t. map line_text front ++ t) second.is ∙ map_both line_text front back (lines_of new.rest);
  number = omega (arith, first.number, second.number, length-append front back);
}

pub reads_stops : (old mid : Unread) (lines : List Line) (f : ParseFault) → ReadsOff old mid lines → StopsIn mid f → StopsIn old f
reads_stops old mid lines Memory read stops = tt
reads_stops old mid lines (BadLine number) read stops =
    let bad = stops.1 in (
      length lines + stops.0,
      record {
        before = lines ++ bad.before;
        bad = bad.bad;
        after = bad.after;
        fits = all_both Fits lines bad.before read.fits bad.fits;
        is = read.is ∙ ap (λ t. map line_text lines ++ t) bad.is ∙ map_both line_text lines bad.before (bad.bad ∷ bad.after);
        at = omega (arith, bad.at, length-append lines bad.before);
        none = bad.none;
      },
      omega (arith, stops.2, read.number),
    )

pub stops_text : (text : List ℕ) (f : ParseFault) → StopsIn (whole text) f → Refuses text f
stops_text text Memory stops = tt
stops_text text (BadLine number) stops =
    let same : stops.0 ≡ number = omega (arith, stops.2) in
    subst (FirstBadLine text) same stops.1

pub reads_all : (text : List ℕ) (new : Unread) (lines : List Line) → ReadsOff (whole text) new lines → lines_of new.rest ≡ [] → Spells lines text
reads_all text new lines read none = record {
  fits = read.fits;
  is = read.is ∙ ap (λ t. map line_text lines ++ t) none ∙ append_nil (map line_text lines);
}
