-- The form in which a request wants its answer.
use Rattle.std.specs.Prelude.{ℕ, ◌-◌, List, length, take, drop, codes, Bool, false, ◌==◌, if◌then◌else◌, option_map, unwrap_or}
use Rattle.std.specs.Char.{is_ascii_whitespace}
use Rattle.std.specs.List.{list_any, position, prefix_len, slice_split, suffix_len}
use Rattle.std.specs.Str.{str_eq_ignore_ascii_case}
use Rattle.http.specs.declared.request.Parts.{Parts}
use Rattle.fare_request.specs.Asking.{field_at}
use Rattle.fare_request.specs.declared.form.Form.{Form}
use Rattle.fare_request.specs.declared.form.Form.TheVariants as form

-- a text without the blanks before it, and without those behind it either
abbrev pub front_trimmed : List ℕ → List ℕ
front_trimmed text = drop (prefix_len is_ascii_whitespace text) text

abbrev pub trimmed : List ℕ → List ℕ
trimmed text = take (length (front_trimmed text) - suffix_len is_ascii_whitespace (front_trimmed text)) (front_trimmed text)

-- what stands before the first semicolon, or all
abbrev pub before_semicolon : List ℕ → List ℕ
before_semicolon range = take (unwrap_or (position (λ byte. byte == 59) range) (length range)) range

-- a media range is JSON, by its name before its parameters
abbrev pub names_json : List ℕ → Bool
names_json range = str_eq_ignore_ascii_case (trimmed (before_semicolon range)) (codes "application/json")

-- one of the ranges between commas is
abbrev pub has_json : List ℕ → Bool
has_json ranges = list_any names_json (slice_split (λ byte. byte == 44) ranges)

-- it wants JSON: its first field `accept` has it
abbrev pub wants_json : Parts → Bool
wants_json p = unwrap_or (option_map has_json (field_at p (codes "accept"))) false

abbrev pub form_of : Parts → Form
form_of p = if wants_json p then form.Json else form.Text
