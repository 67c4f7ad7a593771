-- What the words of a line are, by its keyword.
use Rattle.std.specs.Prelude.{ℕ, Bool, ◌&&◌, if◌then◌else◌, List, [], ◌∷◌, codes, unwrap_or}
use Rattle.std.specs.List.{slice_get}
use Rattle.std.specs.Map.{lookup}
use Rattle.std.specs.Str.{bytes_eq}
use Rattle.fare_json.specs.declared.name.Name.{Name}
use Rattle.fare_json.specs.declared.name.Name.TheVariants as name
use Rattle.fare_json.specs.declared.part.Part.{Part}
use Rattle.fare_json.specs.declared.part.Part.TheVariants as part

abbrev pub name_text : Name → List ℕ
name_text name.Accounts = codes "accounts"
name_text name.Amount = codes "amount"
name_text name.Closed = codes "closed"
name_text name.Day = codes "day"
name_text name.Device = codes "device"
name_text name.From = codes "from"
name_text name.Kind = codes "kind"
name_text name.Link = codes "link"
name_text name.Operator = codes "operator"
name_text name.Operators = codes "operators"
name_text name.Owner = codes "owner"
name_text name.Product = codes "product"
name_text name.Refused = codes "refused"
name_text name.Retired = codes "retired"
name_text name.Rides = codes "rides"
name_text name.Route = codes "route"
name_text name.Rows = codes "rows"
name_text name.Stated = codes "stated"
name_text name.Statements = codes "statements"
name_text name.Taken = codes "taken"
name_text name.Taps = codes "taps"
name_text name.Token = codes "token"
name_text name.Total = codes "total"
name_text name.Why = codes "why"

-- the keywords of lines, and what each word behind them is
abbrev pub table : List (List ℕ × List Part)
table =
    (codes "upto", part.Value name.Device ∷ part.Value name.Link ∷ [])
    ∷ (codes "lane", part.Value name.Owner ∷ part.Value name.Device ∷ part.Label ∷ part.Value name.Taken ∷ part.Label ∷ part.Value name.Closed ∷ part.Label ∷ part.Value name.Rows ∷ part.Label ∷ part.Value name.Statements ∷ part.Flag name.Retired ∷ part.Nothing name.From ∷ [])
    ∷ (codes "bill", part.Value name.Owner ∷ part.Value name.Day ∷ part.Value name.Accounts ∷ part.Value name.Total ∷ [])
    ∷ (codes "account", part.Value name.Product ∷ part.Value name.Token ∷ part.Value name.Rides ∷ part.Value name.Amount ∷ [])
    ∷ (codes "short", part.Value name.Device ∷ [])
    ∷ (codes "settlement", part.Value name.Owner ∷ part.Value name.Day ∷ part.Value name.Operators ∷ [])
    ∷ (codes "operator", part.Value name.Operator ∷ part.Value name.Taps ∷ part.Value name.Amount ∷ [])
    ∷ (codes "route", part.Value name.Route ∷ part.Value name.Taps ∷ part.Value name.Amount ∷ [])
    ∷ (codes "close", part.Value name.Owner ∷ part.Value name.Device ∷ part.Value name.Day ∷ part.Nothing name.Refused ∷ [])
    ∷ (codes "retired", part.Value name.Device ∷ [])
    ∷ (codes "refused", part.Value name.Why ∷ part.Value name.Device ∷ [])
    ∷ []

-- what the words behind this keyword are; no word is anything behind another
abbrev pub parts_behind : List ℕ → List Part
parts_behind keyword = unwrap_or (lookup (bytes_eq keyword) table) []

-- a close was refused, as these words behind its keyword tell; and what they are then
abbrev pub is_refused : List (List ℕ) → Bool
is_refused words = bytes_eq (unwrap_or (slice_get words 3) []) (codes "refused")

abbrev pub refused_close : List Part
refused_close = part.Value name.Owner ∷ part.Value name.Device ∷ part.Value name.Day ∷ part.Label ∷ part.Value name.Refused ∷ part.Value name.Stated ∷ part.Value name.Taken ∷ []

-- something of a lane was let go, as these words behind its keyword tell; and what they are then
abbrev pub is_cut : List (List ℕ) → Bool
is_cut words = bytes_eq (unwrap_or (slice_get words 10) []) (codes "from")

abbrev pub cut_lane : List Part
cut_lane = part.Value name.Owner ∷ part.Value name.Device ∷ part.Label ∷ part.Value name.Taken ∷ part.Label ∷ part.Value name.Closed ∷ part.Label ∷ part.Value name.Rows ∷ part.Label ∷ part.Value name.Statements ∷ part.Label ∷ part.Value name.From ∷ part.Flag name.Retired ∷ []

-- what these words behind a keyword are
abbrev pub parts_of : List ℕ → List (List ℕ) → List Part
parts_of keyword words =
    if bytes_eq keyword (codes "close") && is_refused words then refused_close else
    if bytes_eq keyword (codes "lane") && is_cut words then cut_lane else parts_behind keyword
