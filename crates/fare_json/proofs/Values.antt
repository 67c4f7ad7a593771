-- What words say.
use Rattle.std.proofs.Common.{◌≡◌, ℕ, List, Bool, true, false, refl, ◌∙◌, codes}
use Rattle.std.specs.Prelude.{if◌then◌else◌}
use Rattle.std.specs.Str.{IsUtf8, bytes_eq, is_utf8}
use Rattle.std.proofs.lemmas.Str.{IsUtf8-from_is_utf8, is_utf8-from_IsUtf8}
use Rattle.json.specs.Json.{Json, null, number, string}
use Rattle.fare_json.specs.Lines.{is_number, text_value, value_of}

choose : (b : Bool) (x y : Json) → b ≡ true → (if b then x else y) ≡ x
choose true x y h = refl
choose false x y h = absurd (cc)

other : (b : Bool) (x y : Json) → b ≡ false → (if b then x else y) ≡ y
other true x y h = absurd (cc)
other false x y h = refl

pub says_number : (word : List ℕ) → bytes_eq word (codes "none") ≡ false → is_number word ≡ true → text_value word ≡ number word
says_number word a b = other (bytes_eq word (codes "none")) null (if is_number word then number word else string word) a ∙ choose (is_number word) (number word) (string word) b

pub says_string : (word : List ℕ) → bytes_eq word (codes "none") ≡ false → is_number word ≡ false → text_value word ≡ string word
says_string word a b = other (bytes_eq word (codes "none")) null (if is_number word then number word else string word) a ∙ other (is_number word) (number word) (string word) b

pub says_text : (word : List ℕ) → IsUtf8 word → value_of word ≡ text_value word
says_text word utf8 = choose (is_utf8 word) (text_value word) null (is_utf8-from_IsUtf8 word utf8)

no_text : (word : List ℕ) → ¬ (IsUtf8 word) → (b : Bool) → is_utf8 word ≡ b → b ≡ false
no_text word none true is = absurd (none (IsUtf8-from_is_utf8 word is))
no_text word none false is = refl

pub says_nothing : (word : List ℕ) → ¬ (IsUtf8 word) → value_of word ≡ null
says_nothing word none = other (is_utf8 word) (text_value word) null (no_text word none (is_utf8 word) refl)
