use Rattle.std.proofs.Common.{IfOk, IfNone, Result, Ok, Err, Option, Some, None, ℕ, List, ◌≡◌, ◌++◌, codes, sym, subst}
use Rattle.fare_lines.specs.Reading.{OfFirstLine, SpellsNoLine, SpellsNoNumbered}
use Rattle.fare_lines.proofs.Spelling.{not_worded}
use Rattle.fare_lines.proofs.build.read_line.Goals as goal

if_none : {X E : Type 0} (found : Result (Option X) E) (P Q : Type 0) → (P → Q) → IfOk found (λ f. IfNone f P) → IfOk found (λ f. IfNone f Q)
if_none (Ok None) P Q as' none = as' none
if_none (Ok (Some x)) P Q as' none = tt
if_none (Err e) P Q as' none = tt

pub returns-in-Some-clause-none : goal.returns-in-Some-clause-none
returns-in-Some-clause-none c = if_none c.read_zone.result _ _ (subst (OfFirstLine SpellsNoLine) (sym c.in-Some.ensures.some)) c.read_zone.ensures.none

pub returns-in-None-clause-none : goal.returns-in-None-clause-none
returns-in-None-clause-none c = if_none c.read_numbered.result _ _ (λ none. not_worded c.args.text.now none c.in-None.ensures.none) c.read_numbered.ensures.none
