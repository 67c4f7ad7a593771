-- The JSON of a text of lines.
use Rattle.std.specs.Prelude.{ℕ, Bool, false, ◌||◌, ◌==◌, nat_lt, if◌then◌else◌, List, [], ◌∷◌, length, drop, map, codes, Option, Some, None, option_map, unwrap_or, is_some}
use Rattle.std.specs.List.{filter, slice_get, slice_split}
use Rattle.std.specs.Str.{bytes_eq, is_utf8}
use Rattle.json.specs.Json.{Json, null, boolean, number, string, array, object, Items, no_items, item, Members, no_members, member}
use Rattle.json.specs.Print.{print}
use Rattle.json.specs.Tree.{json_tokens}
use Rattle.json.specs.Word.{after_number}
use Rattle.fare_json.specs.Parts.{name_text, parts_of}
use Rattle.fare_json.specs.declared.name.Name.TheVariants as name
use Rattle.fare_json.specs.declared.part.Part.{Part}
use Rattle.fare_json.specs.declared.part.Part.TheVariants as part

-- PIECES
-- the pieces between the bytes that pass, but for empty ones
abbrev pub pieces : (ℕ → Bool) → List ℕ → List (List ℕ)
pieces cuts text = filter (λ piece. nat_lt 0 (length piece)) (slice_split cuts text)

-- a line feed
abbrev pub is_feed : ℕ → Bool
is_feed byte = byte == 10

-- a space, or a colon
abbrev pub is_gap : ℕ → Bool
is_gap byte = (byte == 32) || (byte == 58)

-- VALUES
-- the whole word is a number, as JSON spells it
abbrev pub is_number : List ℕ → Bool
is_number word = unwrap_or (option_map (λ rest. length rest == 0) (after_number word)) false

-- what a text says: `none` nothing, a number itself, another one its letters
abbrev pub text_value : List ℕ → Json
text_value word = if bytes_eq word (codes "none") then null else (if is_number word then number word else string word)

-- what a word says, which is nothing where it is no text
abbrev pub value_of : List ℕ → Json
value_of word = if is_utf8 word then text_value word else null

-- OBJECTS
-- the member that a part is, by its word where one stands there, before others
abbrev pub with_member : Part → Option (List ℕ) → Members → Members
with_member (part.Value name) (Some word) rest = member (name_text name) (value_of word) rest
with_member (part.Value name) None rest = rest
with_member part.Label word rest = rest
with_member (part.Flag name) word rest = member (name_text name) (boolean (is_some word)) rest
with_member (part.Nothing name) word rest = member (name_text name) null rest

-- the members that parts are, by the words at their places
abbrev pub members_of : List Part → List (List ℕ) → Members
members_of [] words = no_members
members_of (p ∷ parts) words = with_member p (slice_get words 0) (members_of parts (drop 1 words))

-- the object of a line: its keyword is its kind
abbrev pub object_of : List (List ℕ) → Json
object_of [] = object no_members
object_of (keyword ∷ words) = object (with_member (part.Value name.Kind) (Some keyword) (members_of (parts_of keyword words) words))

-- THE ARRAY
abbrev pub items_of : List Json → Items
items_of [] = no_items
items_of (one ∷ others) = item one (items_of others)

-- an object for each line, in order
abbrev pub json_of : List ℕ → Json
json_of text = array (items_of (map (λ line. object_of (pieces is_gap line)) (pieces is_feed text)))

-- its text, with no space
abbrev pub json_text : List ℕ → List ℕ
json_text text = print (json_tokens (json_of text))
