-- No line has a line feed in it.
use Rattle.std.proofs.Common.{ℕ, List, [], ◌∷◌, get_or, refl, arith, codes}
use Rattle.std.specs.List.{AllByRecursion}
use Rattle.std.specs.Fmt.{decimal}
use Rattle.std.proofs.lemmas.Bool.{ne_eqb}
use Rattle.fare_lines.specs.ZoneWord.{IsZoneText}
use Rattle.fare_lines.specs.declared.line.Line.{Line}
use Rattle.fare_lines.specs.Grammar.{Fits, Kind, ADevice, AnOwner, AStation, AProduct, AToken, AMoment, ADay, OneOrTwo, ARoute, AnyU16, AnyU32, AnyU64, IsOf, AreOf, Parts, Numbered, Worded, PartsFit, keyword_kinds, keyword_text, line_parts, line_text, numbers_text, parts_text}
use Rattle.fare_lines.specs.Reading.{is_feed}
use Rattle.fare_lines.proofs.Cuts.{Lacks, lacks_append, lacks_of_index}
use Rattle.fare_lines.proofs.Numbers.{IsU64, decimal_lacks}
use Rattle.fare_lines.proofs.Keywords.{keyword_lacks}

kind_is_u64 : (k : Kind) (n : ℕ) → IsOf k n → IsU64 n
kind_is_u64 ADevice n h = omega arith
kind_is_u64 AnOwner n h = omega arith
kind_is_u64 AStation n h = omega arith
kind_is_u64 AProduct n h = omega arith
kind_is_u64 AToken n h = omega arith
kind_is_u64 AMoment n h = omega arith
kind_is_u64 ADay n h = omega arith
kind_is_u64 OneOrTwo n h = omega arith
kind_is_u64 ARoute n h = omega arith
kind_is_u64 AnyU16 n h = omega arith
kind_is_u64 AnyU32 n h = omega arith
kind_is_u64 AnyU64 n h = h

pub kinds_are_u64 : (ks : List Kind) (ns : List ℕ) → AreOf ks ns → AllByRecursion IsU64 ns
kinds_are_u64 [] [] h = tt
kinds_are_u64 [] (n ∷ ns) h = absurd h
kinds_are_u64 (k ∷ ks) [] h = tt
kinds_are_u64 (k ∷ ks) (n ∷ ns) h = (kind_is_u64 k n h.0, kinds_are_u64 ks ns h.1)

pub numbers_lack_feed : (ns : List ℕ) → AllByRecursion IsU64 ns → Lacks is_feed (numbers_text ns)
numbers_lack_feed [] all = tt
numbers_lack_feed (n ∷ []) all = decimal_lacks 10 (omega arith) n all.0
numbers_lack_feed (n ∷ m ∷ ns) all =
    lacks_append is_feed (decimal n) (32 ∷ numbers_text (m ∷ ns)) (decimal_lacks 10 (omega arith) n all.0) (refl, numbers_lack_feed (m ∷ ns) all.1)

word_lacks_feed : (rule : List ℕ) → IsZoneText rule → Lacks is_feed rule
word_lacks_feed rule word = lacks_of_index is_feed rule (λ k below.
    let byte = word.printable k 0 below in
    ne_eqb (get_or rule k 0) 10 (λ e. omega arith))

parts_lack_feed : (p : Parts) → PartsFit p → Lacks is_feed (parts_text p)
parts_lack_feed (Numbered k ns) fits =
    lacks_append is_feed (keyword_text k) (numbers_text ns)
    (keyword_lacks is_feed refl k) (numbers_lack_feed ns (kinds_are_u64 (keyword_kinds k) ns fits))
parts_lack_feed (Worded rule) fits = lacks_append is_feed (codes "zone ") rule (refl, (refl, (refl, (refl, (refl, tt))))) (word_lacks_feed rule fits)

pub line_lacks_feed : (l : Line) → Fits l → Lacks is_feed (line_text l)
line_lacks_feed l fits = parts_lack_feed (line_parts l) fits
