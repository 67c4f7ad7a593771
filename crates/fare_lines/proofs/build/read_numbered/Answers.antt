use Rattle.std.proofs.Common.{◌≡◌, None, sym}
use Rattle.fare_lines.specs.Grammar.{AreOf, keyword_kinds}
use Rattle.fare_lines.specs.Reading.{BeginsWithNumbers, OfFirstLine, SpellsNoNumbers}
use Rattle.fare_lines.proofs.Spelling.{no_keyword, no_numbers, not_built, built}
use Rattle.fare_lines.proofs.build.read_numbered.Goals as goal

pub returns-in_default-clause-none : goal.returns-in_default-clause-none
returns-in_default-clause-none c = no_keyword c.args.text.now c.in_default.ensures.none

pub returns-in_default-2-clause-none : goal.returns-in_default-2-clause-none
returns-in_default-2-clause-none c =
    let none : OfFirstLine SpellsNoNumbers c.in-Some.behind.now = rw c.in_default-2.is at c.in_ok-rest.ensures.none in
    no_numbers c.args.text.now c.in-Some.behind.now c.in-Some.keyword c.in-Some.ensures.found none

pub returns-in-None-clause-none : goal.returns-in-None-clause-none
returns-in-None-clause-none c =
    let read : BeginsWithNumbers c.in-Some.behind.now c.read_numbers.new.numbers.items c.in-Some-2.rest.now = rw c.in-Some-2.is at c.in_ok-rest.ensures.found in
    not_built c.args.text.now c.in-Some.behind.now c.in-Some-2.rest.now c.in-Some.keyword c.in-Some.ensures.found c.read_numbers.new.numbers.items read (rw c.deref.ensures.value at c.in-None.ensures)

pub returns-in-Some-build-clause-found : goal.returns-in-Some-build-clause-found
returns-in-Some-build-clause-found c =
    let read : BeginsWithNumbers c.in-Some.behind.now c.read_numbers.new.numbers.items c.in-Some-2.rest.now = rw c.in-Some-2.is at c.in_ok-rest.ensures.found in
    built c.args.text.now c.in-Some.behind.now c.in-Some-2.rest.now c.in-Some.keyword c.in-Some.ensures.found c.read_numbers.new.numbers.items read c.in-Some-build.line (rw c.deref.ensures.value at c.in-Some-build.ensures)
