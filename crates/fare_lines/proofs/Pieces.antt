-- Pieces of a line, appended one after the other.
use Rattle.std.proofs.Common.{◌≡◌, ◌<◌, ◌+◌, get_or, ℕ, List, [], ◌∷◌, ◌++◌, length, take, ap, sym, refl, ◌∙◌, append_assoc, arith}
use Rattle.std.specs.Prelude.{Result, Ok, Err, OnOk, is_ok, if◌then◌else◌}
use Rattle.std.specs.List.{flat_map, join_with_byte}
use Rattle.std.proofs.lemmas.List.{get_or_default}
use Rattle.fare_lines.specs.Replies.{words_line}
use Rattle.fare_lines.proofs.Words.{take_whole}
use Rattle.fare_lines.proofs.RowLines.{front_behind, front_stays, one_row}

-- THE FRONT STAYS
-- where what comes next is refused and changes nothing
pub front_same : (old new : List ℕ) → new ≡ old → take (length old) new ≡ old
front_same old new same = ap (take (length old)) same ∙ take_whole (length old) old (omega arith)

-- where a name and a number are there
pub front_named : (old name number mid new : List ℕ) → mid ≡ old ++ name ++ number → take (length mid) new ≡ mid → take (length old) new ≡ old
front_named old name number mid new is front = front_behind old (name ++ number) mid new (is ∙ append_assoc old name number) front

-- where a space is there, and what comes next is there or was refused
pub front_spaced : {E : Type 0} (r : Result (Unit {0}) E) (old mid new text : List ℕ) → mid ≡ old ++ 32 ∷ [] → new ≡ (if is_ok r then mid ++ text else mid) → take (length old) new ≡ old
front_spaced (Ok u) old mid new text space is = front_behind old (32 ∷ []) mid new space (front_stays mid text new is)
front_spaced (Err e) old mid new text space is = front_stays old (32 ∷ []) new (is ∙ space)

-- A SPACE AND A TEXT
pub text_spaced : {E : Type 0} (r : Result (Unit {0}) E) (old mid new text wanted : List ℕ) → mid ≡ old ++ 32 ∷ [] → text ≡ wanted → new ≡ (if is_ok r then mid ++ text else mid) → OnOk r (new ≡ old ++ 32 ∷ wanted)
text_spaced (Ok u) old mid new text wanted space same is = is ∙ ap (λ m. m ++ text) space ∙ append_assoc old (32 ∷ []) text ∙ ap (λ t. old ++ 32 ∷ t) same
text_spaced (Err e) old mid new text wanted space same is = tt

-- THE LINE
-- the line of one word more in front
line_next : (word next : List ℕ) (words : List (List ℕ)) (text : List ℕ) → words_line (next ∷ words) ≡ text → words_line (word ∷ next ∷ words) ≡ word ++ 32 ∷ text
line_next word next words text is = append_assoc word (32 ∷ join_with_byte 32 (next ∷ words)) (10 ∷ []) ∙ ap (λ t. word ++ 32 ∷ t) is

spaced : (old mid new a rest : List ℕ) → mid ≡ old ++ 32 ∷ a → new ≡ mid ++ rest → new ≡ old ++ 32 ∷ (a ++ rest)
spaced old mid new a rest is more = more ∙ ap (λ t. t ++ rest) is ∙ append_assoc old (32 ∷ a) rest

named : (old mid new name a rest : List ℕ) → mid ≡ old ++ name ++ 32 ∷ a → new ≡ mid ++ rest → new ≡ old ++ (name ++ 32 ∷ (a ++ rest))
named old mid new name a rest is more =
    more ∙ ap (λ t. t ++ rest) is ∙ append_assoc (old ++ name) (32 ∷ a) rest ∙ append_assoc old name (32 ∷ (a ++ rest))

-- a name and two numbers
pub two_numbers : (old m1 m2 new name a b : List ℕ) → m1 ≡ old ++ name ++ 32 ∷ a → m2 ≡ m1 ++ 32 ∷ b → new ≡ m2 ++ 10 ∷ [] → new ≡ old ++ words_line (name ∷ a ∷ b ∷ [])
two_numbers old m1 m2 new name a b first second ended =
    named old m1 new name a _ first (spaced m1 m2 new b _ second ended)
    ∙ ap (λ t. old ++ t) (sym (line_next name a (b ∷ []) _ (line_next a b [] _ refl)))

-- a name and three numbers
pub three_numbers : (old m1 m2 m3 new name a b c : List ℕ) → m1 ≡ old ++ name ++ 32 ∷ a → m2 ≡ m1 ++ 32 ∷ b → m3 ≡ m2 ++ 32 ∷ c → new ≡ m3 ++ 10 ∷ [] → new ≡ old ++ words_line (name ∷ a ∷ b ∷ c ∷ [])
three_numbers old m1 m2 m3 new name a b c first second third ended =
    named old m1 new name a _ first (spaced m1 m2 new b _ second (spaced m2 m3 new c _ third ended))
    ∙ ap (λ t. old ++ t) (sym (line_next name a (b ∷ c ∷ []) _ (line_next a b (c ∷ []) _ (line_next b c [] _ refl))))

-- a name and four numbers
pub four_numbers : (old m1 m2 m3 m4 new name a b c d : List ℕ) → m1 ≡ old ++ name ++ 32 ∷ a → m2 ≡ m1 ++ 32 ∷ b → m3 ≡ m2 ++ 32 ∷ c → m4 ≡ m3 ++ 32 ∷ d → new ≡ m4 ++ 10 ∷ [] → new ≡ old ++ words_line (name ∷ a ∷ b ∷ c ∷ d ∷ [])
four_numbers old m1 m2 m3 m4 new name a b c d first second third fourth ended =
    named old m1 new name a _ first (spaced m1 m2 new b _ second (spaced m2 m3 new c _ third (spaced m3 m4 new d _ fourth ended)))
    ∙ ap (λ t. old ++ t) (sym (line_next name a (b ∷ c ∷ d ∷ []) _ (line_next a b (c ∷ d ∷ []) _ (line_next b c (d ∷ []) _ (line_next c d [] _ refl)))))

-- a space, a name and a number
spaced_named : (old mid both new word b rest : List ℕ) → mid ≡ old ++ 32 ∷ [] → both ≡ mid ++ word ++ 32 ∷ b → new ≡ both ++ rest → new ≡ old ++ 32 ∷ (word ++ 32 ∷ (b ++ rest))
spaced_named old mid both new word b rest space is more = spaced old mid new [] _ space (named mid both new word b rest is more)

-- two names with a number behind each
pub two_named : (old m1 m2 m3 new name a word b : List ℕ) → m1 ≡ old ++ name ++ 32 ∷ a → m2 ≡ m1 ++ 32 ∷ [] → m3 ≡ m2 ++ word ++ 32 ∷ b → new ≡ m3 ++ 10 ∷ [] → new ≡ old ++ words_line (name ∷ a ∷ word ∷ b ∷ [])
two_named old m1 m2 m3 new name a word b first space second ended =
    named old m1 new name a _ first (spaced_named m1 m2 m3 new word b _ space second ended)
    ∙ ap (λ t. old ++ t) (sym (line_next name a (word ∷ b ∷ []) _ (line_next a word (b ∷ []) _ (line_next word b [] _ refl))))

-- and one number more
pub two_named_more : (old m1 m2 m3 m4 new name a word b c : List ℕ) → m1 ≡ old ++ name ++ 32 ∷ a → m2 ≡ m1 ++ 32 ∷ [] → m3 ≡ m2 ++ word ++ 32 ∷ b → m4 ≡ m3 ++ 32 ∷ c → new ≡ m4 ++ 10 ∷ [] → new ≡ old ++ words_line (name ∷ a ∷ word ∷ b ∷ c ∷ [])
two_named_more old m1 m2 m3 m4 new name a word b c first space second third ended =
    named old m1 new name a _ first (spaced_named m1 m2 m3 new word b _ space second (spaced m3 m4 new c _ third ended))
    ∙ ap (λ t. old ++ t) (sym (line_next name a (word ∷ b ∷ c ∷ []) _ (line_next a word (b ∷ c ∷ []) _ (line_next word b (c ∷ []) _ (line_next b c [] _ refl)))))

-- WORDS IN A ROW
pub one_word : {A : Type 0} (f : A → List ℕ) (old out spaced new : List ℕ) (rest : List A) (k : ℕ) (d : A) → k < length rest → out ≡ old ++ flat_map (λ w. 32 ∷ f w) (take k rest) → spaced ≡ out ++ 32 ∷ [] → new ≡ spaced ++ f (get_or rest k d) → new ≡ old ++ flat_map (λ w. 32 ∷ f w) (take (k + 1) rest)
one_word f old out spaced new rest k d below so_far space word =
    let item = get_or rest k d in
    one_row (λ w. 32 ∷ f w) old out new rest k item below (get_or_default rest k d item below) so_far
    (word ∙ ap (λ t. t ++ f item) space ∙ append_assoc out (32 ∷ []) (f item))
