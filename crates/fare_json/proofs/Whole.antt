-- What is written reads back.
use Rattle.std.proofs.Common.{◌≡◌, ℕ, suc, ◌≤◌, List, [], ◌∷◌, Bool, true, false, length, drop, map, refl, codes, arith, eqb-true, Some, None}
use Rattle.std.specs.Prelude.{if◌then◌else◌, Option, option_map, unwrap_or, ◌==◌}
use Rattle.std.specs.List.{slice_get}
use Rattle.std.specs.Str.{bytes_eq, is_utf8}
use Rattle.json.specs.Json.{null, number, string, Members, document}
use Rattle.json.specs.Tree.{HasNumbers, ItemsHaveNumbers, MembersHaveNumbers, depth, items_depth, members_depth}
use Rattle.json.specs.Word.{after_number}
use Rattle.json.proofs.Printed.Trees.{document-print}
use Rattle.fare_json.specs.Lines.{is_feed, is_gap, is_number, items_of, json_of, json_text, members_of, object_of, pieces, text_value, value_of, with_member}
use Rattle.fare_json.specs.Parts.{parts_of}
use Rattle.fare_json.specs.declared.part.Part.{Part}
use Rattle.fare_json.specs.declared.part.Part.TheVariants as part

-- NUMBERS
ends : (rest : Option (List ℕ)) → unwrap_or (option_map (λ r. length r == 0) rest) false ≡ true → rest ≡ Some []
ends None h = (let e : false ≡ true = h in absurd (cc))
ends (Some []) h = refl
ends (Some (x ∷ xs)) h = absurd (omega (arith, eqb-true (suc (length xs)) 0 h))

text_numbers : (word : List ℕ) (a b : Bool) → is_number word ≡ b → HasNumbers (if a then null else (if b then number word else string word))
text_numbers word true b h = tt
text_numbers word false true h = ends (after_number word) h
text_numbers word false false h = tt

some_numbers : (word : List ℕ) (a : Bool) → HasNumbers (if a then text_value word else null)
some_numbers word true = text_numbers word (bytes_eq word (codes "none")) (is_number word) refl
some_numbers word false = tt

value_numbers : (word : List ℕ) → HasNumbers (value_of word)
value_numbers word = some_numbers word (is_utf8 word)

member_numbers : (p : Part) (word : Option (List ℕ)) (rest : Members) → MembersHaveNumbers rest → MembersHaveNumbers (with_member p word rest)
member_numbers (part.Value name) (Some word) rest h = (value_numbers word, h)
member_numbers (part.Value name) None rest h = h
member_numbers part.Label word rest h = h
member_numbers (part.Flag name) word rest h = (tt, h)
member_numbers (part.Nothing name) word rest h = (tt, h)

members_numbers : (parts : List Part) (words : List (List ℕ)) → MembersHaveNumbers (members_of parts words)
members_numbers [] words = tt
members_numbers (p ∷ parts) words = member_numbers p (slice_get words 0) (members_of parts (drop 1 words)) (members_numbers parts (drop 1 words))

object_numbers : (words : List (List ℕ)) → HasNumbers (object_of words)
object_numbers [] = tt
object_numbers (keyword ∷ words) = (value_numbers keyword, members_numbers (parts_of keyword words) words)

lines_numbers : (lines : List (List ℕ)) → ItemsHaveNumbers (items_of (map (λ line. object_of (pieces is_gap line)) lines))
lines_numbers [] = tt
lines_numbers (line ∷ lines) = (object_numbers (pieces is_gap line), lines_numbers lines)

-- DEPTH
text_depth : (word : List ℕ) (a b : Bool) → depth (if a then null else (if b then number word else string word)) ≡ 0
text_depth word true b = refl
text_depth word false true = refl
text_depth word false false = refl

some_depth : (word : List ℕ) (a : Bool) → depth (if a then text_value word else null) ≡ 0
some_depth word true = text_depth word (bytes_eq word (codes "none")) (is_number word)
some_depth word false = refl

value_depth : (word : List ℕ) → depth (value_of word) ≡ 0
value_depth word = some_depth word (is_utf8 word)

member_depth : (p : Part) (word : Option (List ℕ)) (rest : Members) → members_depth rest ≡ 0 → members_depth (with_member p word rest) ≡ 0
member_depth (part.Value name) (Some word) rest h = omega (arith, value_depth word, h)
member_depth (part.Value name) None rest h = h
member_depth part.Label word rest h = h
member_depth (part.Flag name) word rest h = omega (arith, h)
member_depth (part.Nothing name) word rest h = omega (arith, h)

members_depth_is : (parts : List Part) (words : List (List ℕ)) → members_depth (members_of parts words) ≡ 0
members_depth_is [] words = refl
members_depth_is (p ∷ parts) words = member_depth p (slice_get words 0) (members_of parts (drop 1 words)) (members_depth_is parts (drop 1 words))

object_depth : (words : List (List ℕ)) → depth (object_of words) ≤ 1
object_depth [] = omega arith
object_depth (keyword ∷ words) = omega (arith, value_depth keyword, members_depth_is (parts_of keyword words) words)

lines_depth : (lines : List (List ℕ)) → items_depth (items_of (map (λ line. object_of (pieces is_gap line)) lines)) ≤ 1
lines_depth [] = omega arith
lines_depth (line ∷ lines) = omega (arith, object_depth (pieces is_gap line), lines_depth lines)

pub reads_back : (text : List ℕ) → document (json_text text) ≡ Some (json_of text)
reads_back text = document-print (json_of text) (lines_numbers (pieces is_feed text)) (omega (arith, lines_depth (pieces is_feed text)))
