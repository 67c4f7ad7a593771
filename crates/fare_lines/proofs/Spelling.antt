-- A line's text is cut at the first digit, or at its end, into the keyword's text and the numbers' text, and read from
-- these; that of a zone is told by its first byte.
use Rattle.std.proofs.Common.{◌≡◌, ◌==◌, ◌<◌, ◌||◌, ℕ, List, [], ◌∷◌, ◌++◌, length, get_or, not, Bool, true, false, ap, sym, subst, refl, arith, ◌∙◌, codes, append_assoc}
use Rattle.std.specs.List.{AllByRecursion}
use Rattle.std.specs.Fmt.{decimal}
use Rattle.std.specs.Char.{is_ascii_digit}
use Rattle.std.proofs.lemmas.List.{append_cancel_left}
use Rattle.std.proofs.lemmas.Fmt.{decimal_nonempty}
use Rattle.fare_lines.specs.ZoneWord.{IsZoneText}
use Rattle.fare_lines.specs.declared.line.Line.{Line}
use Rattle.fare_lines.specs.declared.line.Line.TheVariants.{Setup}
use Rattle.fare_lines.specs.declared.line.SchemeLine.TheVariants as scheme
use Rattle.fare_lines.specs.declared.keyword.Keyword.{Keyword}
use Rattle.fare_lines.specs.Grammar.{AreOf, Parts, Numbered, Worded, PartsFit, keyword_text, keyword_kinds, line_parts, parts_text, numbers_text}
use Rattle.fare_lines.specs.Reading.{BeginsWith, BeginsWithLine, BeginsWithNumbers, CutsAt, IsBuilt, OfFirstLine, SpellsNoLine, SpellsNoNumbered, SpellsNoNumbers, is_feed, may_follow}
use Rattle.fare_lines.proofs.Cuts.{append_nil, lacks_append, one_cut, same_cut}
use Rattle.fare_lines.proofs.Numbers.{IsU64, begins_with_front, first_is_digit, numbers_same}
use Rattle.fare_lines.proofs.Keywords.{every, keyword_lacks, keyword_same, keyword_some}
use Rattle.fare_lines.proofs.Feeds.{kinds_are_u64, line_lacks_feed, numbers_lack_feed}

-- THE CUT OF A KEYWORD AND NUMBERS
feed_may_follow : (back : List ℕ) → BeginsWith is_feed back → BeginsWith may_follow back
feed_may_follow [] begins = tt
feed_may_follow (b ∷ bs) begins = ap (λ v. v || is_ascii_digit b) begins

digit_may_follow : (b : ℕ) → is_ascii_digit b ≡ true → may_follow b ≡ true
digit_may_follow b digit = elim (is_feed b) as (λ v. (v || is_ascii_digit b) ≡ true) [
  | true ↦ refl
  | false ↦ digit
]

decimal_may_follow : (n : ℕ) → IsU64 n → (back : List ℕ) → BeginsWith may_follow (decimal n ++ back)
decimal_may_follow n small back =
    begins_with_front may_follow (decimal n) back (decimal_nonempty n small) (digit_may_follow (get_or (decimal n) 0 0) (first_is_digit n small))

numbers_may_follow : (ns : List ℕ) → AllByRecursion IsU64 ns → (back : List ℕ) → BeginsWith is_feed back → BeginsWith may_follow (numbers_text ns ++ back)
numbers_may_follow [] all back begins = feed_may_follow back begins
numbers_may_follow (n ∷ []) all back begins = decimal_may_follow n all.0 back
numbers_may_follow (n ∷ m ∷ ns) all back begins =
    subst (BeginsWith may_follow) (sym (append_assoc (decimal n) (32 ∷ numbers_text (m ∷ ns)) back)) (decimal_may_follow n all.0 (32 ∷ (numbers_text (m ∷ ns) ++ back)))

-- the keyword's text ends where the numbers begin
pub keyword_cut : (k : Keyword) (text rest : List ℕ) → text ≡ keyword_text k ++ rest → BeginsWith may_follow rest → CutsAt may_follow text (keyword_text k) rest
keyword_cut k text rest is begins = record { is = is; lacks = keyword_lacks may_follow refl k; begins = begins }

numbered_cut : (text line rest : List ℕ) → CutsAt is_feed text line rest → (k : Keyword) (ns : List ℕ) → AreOf (keyword_kinds k) ns → line ≡ keyword_text k ++ numbers_text ns → CutsAt may_follow text (keyword_text k) (numbers_text ns ++ rest)
numbered_cut text line rest cut k ns fits is =
    keyword_cut k text (numbers_text ns ++ rest) (cut.is ∙ ap (λ t. t ++ rest) is ∙ append_assoc (keyword_text k) (numbers_text ns) rest)
    (numbers_may_follow ns (kinds_are_u64 (keyword_kinds k) ns fits) rest cut.begins)

pub not_behind : (front text rest : List ℕ) → text ≡ front ++ rest → (BeginsWith may_follow rest → ⊥) → (other : List ℕ) → BeginsWith may_follow other → text ≡ front ++ other → ⊥
not_behind front text rest is none other begins e =
    none (subst (BeginsWith may_follow) (append_cancel_left front other rest (sym e ∙ is)) begins)

-- READING A KEYWORD AND NUMBERS
pub no_keyword : (text : List ℕ) → ((k : Keyword) (rest : List ℕ) → BeginsWith may_follow rest → text ≡ keyword_text k ++ rest → ⊥) → OfFirstLine SpellsNoNumbered text
no_keyword text none line rest cut k ns fits is =
    let own = numbered_cut text line rest cut k ns fits is in
    none k (numbers_text ns ++ rest) own.begins own.is

-- the first line of what stands behind the keyword is that of the numbers
behind_cut : (behind : List ℕ) (ns rest : List ℕ) → AllByRecursion IsU64 ns → behind ≡ numbers_text ns ++ rest → BeginsWith is_feed rest → CutsAt is_feed behind (numbers_text ns) rest
behind_cut behind ns rest all is begins = record { is = is; lacks = numbers_lack_feed ns all; begins = begins }

pub no_numbers : (text behind : List ℕ) (k : Keyword) → CutsAt may_follow text (keyword_text k) behind → OfFirstLine SpellsNoNumbers behind → OfFirstLine SpellsNoNumbered text
no_numbers text behind k cut none line rest first j ms fits is =
    let all = kinds_are_u64 (keyword_kinds j) ms fits in
    let own = same_cut may_follow text (keyword_text k) (keyword_text j) behind (numbers_text ms ++ rest) cut (numbered_cut text line rest first j ms fits is) in
    none (numbers_text ms) rest (behind_cut behind ms rest all own.1 first.begins) ms all refl

pub built : (text behind rest : List ℕ) (k : Keyword) → CutsAt may_follow text (keyword_text k) behind → (ns : List ℕ) → BeginsWithNumbers behind ns rest → (l : Line) → IsBuilt k ns l → BeginsWithLine text l rest
built text behind rest k cut ns read l builds = (
  builds.1,
  record {
    is = cut.is ∙ ap (λ t. keyword_text k ++ t) read.1.is ∙ sym (append_assoc (keyword_text k) (numbers_text ns) rest) ∙ ap (λ p. parts_text p ++ rest) (sym builds.0);
    lacks = line_lacks_feed l builds.1;
    begins = read.1.begins;
  },
)

pub not_built : (text behind rest : List ℕ) (k : Keyword) → CutsAt may_follow text (keyword_text k) behind → (ns : List ℕ) → BeginsWithNumbers behind ns rest → (AreOf (keyword_kinds k) ns → ⊥) → OfFirstLine SpellsNoNumbered text
not_built text behind rest k cut ns read none line back first j ms fits is =
    let all = kinds_are_u64 (keyword_kinds j) ms fits in
    let own = same_cut may_follow text (keyword_text j) (keyword_text k) (numbers_text ms ++ back) behind (numbered_cut text line back first j ms fits is) cut in
    let keywords : j ≡ k = keyword_same j k own.0 in
    let texts = same_cut is_feed behind (numbers_text ms) (numbers_text ns) back rest (behind_cut behind ms back all (sym own.1) first.begins) read.1 in
    let numbers : ms ≡ ns = numbers_same ms ns all read.0 texts.0 in
    none (subst (λ i. AreOf (keyword_kinds i) ns) keywords (subst (λ os. AreOf (keyword_kinds j) os) numbers fits))

-- a keyword and numbers with the text of another keyword and numbers are the same
pub numbered_same : (j k : Keyword) (ms ns : List ℕ) → AreOf (keyword_kinds j) ms → AreOf (keyword_kinds k) ns → keyword_text j ++ numbers_text ms ≡ keyword_text k ++ numbers_text ns → (j ≡ k) × (ms ≡ ns)
numbered_same j k ms ns fits_j fits_k e =
    let all_j = kinds_are_u64 (keyword_kinds j) ms fits_j in
    let all_k = kinds_are_u64 (keyword_kinds k) ns fits_k in
    let begins_j : BeginsWith may_follow (numbers_text ms) = subst (BeginsWith may_follow) (append_nil (numbers_text ms)) (numbers_may_follow ms all_j [] tt) in
    let begins_k : BeginsWith may_follow (numbers_text ns) = subst (BeginsWith may_follow) (append_nil (numbers_text ns)) (numbers_may_follow ns all_k [] tt) in
    let parts = one_cut may_follow (keyword_text j) (keyword_text k) (numbers_text ms) (numbers_text ns) (keyword_lacks may_follow refl j) (keyword_lacks may_follow refl k) begins_j begins_k e in
    (keyword_same j k parts.0, numbers_same ms ns all_j all_k parts.1)

-- THE ZONE'S LINE
first_of_append : (xs ys : List ℕ) → 0 < length xs → get_or (xs ++ ys) 0 0 ≡ get_or xs 0 0
first_of_append [] ys some = absurd (omega arith)
first_of_append (x ∷ xs) ys some = refl

not_true : (b : Bool) → not b ≡ true → b ≡ false
not_true true e = absurd (cc)
not_true false e = refl

-- no keyword begins with 'z'
pub zone_is_no_keyword : (k : Keyword) (rest rule : List ℕ) → keyword_text k ++ rest ≡ codes "zone " ++ rule → ⊥
zone_is_no_keyword k rest rule e =
    let other : (get_or (keyword_text k) 0 0 == 122) ≡ false = not_true _ (every (λ j. not (get_or (keyword_text j) 0 0 == 122)) refl k) in
    let first : get_or (keyword_text k) 0 0 ≡ 122 = sym (first_of_append (keyword_text k) rest (keyword_some k)) ∙ ap (λ t. get_or t 0 0) e in
    let same : true ≡ false = sym (ap (λ b. b == 122) first) ∙ other in absurd (cc)

unspelled_zone : (text rule : List ℕ) → text ≡ codes "zone " ++ rule → (IsZoneText rule → ⊥) → (p : Parts) → PartsFit p → text ≡ parts_text p → ⊥
unspelled_zone text rule is none (Numbered k ns) fits e = zone_is_no_keyword k (numbers_text ns) rule (sym e ∙ is)
unspelled_zone text rule is none (Worded other) fits e =
    let all : codes "zone " ++ rule ≡ codes "zone " ++ other = sym is ∙ e in
    let same : rule ≡ other = cc in none (subst IsZoneText (sym same) fits)

zone_cut : (behind rule rest : List ℕ) → CutsAt is_feed behind rule rest → CutsAt is_feed (codes "zone " ++ behind) (codes "zone " ++ rule) rest
zone_cut behind rule rest cut = record {
  is = ap (λ t. codes "zone " ++ t) cut.is;
  lacks = lacks_append is_feed (codes "zone ") rule (refl, (refl, (refl, (refl, (refl, tt))))) cut.lacks;
  begins = cut.begins;
}

pub zoned : (behind word rest : List ℕ) → CutsAt is_feed behind word rest → (rule : List ℕ) → IsZoneText rule → rule ≡ word → BeginsWithLine (codes "zone " ++ behind) (Setup (scheme.Zone rule)) rest
zoned behind word rest cut rule fits is = (fits, zone_cut behind rule rest (subst (λ w. CutsAt is_feed behind w rest) (sym is) cut))

pub no_zone : (behind word rest : List ℕ) → CutsAt is_feed behind word rest → (IsZoneText word → ⊥) → OfFirstLine SpellsNoLine (codes "zone " ++ behind)
no_zone behind word rest cut none line back first l fits e =
    let own = same_cut is_feed (codes "zone " ++ behind) (codes "zone " ++ word) line rest back (zone_cut behind word rest cut) first in
    unspelled_zone line word (sym own.0) none (line_parts l) fits e

unspelled : (text : List ℕ) → SpellsNoNumbered text → ((rule : List ℕ) → text ≡ codes "zone " ++ rule → ⊥) → (p : Parts) → PartsFit p → text ≡ parts_text p → ⊥
unspelled text numbered worded (Numbered k ns) fits e = numbered k ns fits e
unspelled text numbered worded (Worded rule) fits e = worded rule e

pub not_worded : (text : List ℕ) → OfFirstLine SpellsNoNumbered text → ((rule : List ℕ) → text ≡ codes "zone " ++ rule → ⊥) → OfFirstLine SpellsNoLine text
not_worded text numbered worded line rest first l fits e =
    unspelled line (numbered line rest first) (λ rule is. worded (rule ++ rest) (first.is ∙ ap (λ t. t ++ rest) is)) (line_parts l) fits e
