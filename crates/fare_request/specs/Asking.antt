-- What a request asks of a hub, by its method, its target and its header fields.
use Rattle.std.specs.Prelude.{◌≡◌, ◌≢◌, ◌⊎◌, ℕ, ◌<◌, List, [], ◌++◌, length, slice_index, codes, Bool, true, false, Option, Some, None, option_map, Ok, IfSome}
use Rattle.std.specs.Str.Parse.{ParsesUnsigned}
use Rattle.fare_record.specs.Limits.{IsDay, IsDeviceId, IsOwnerId}
use Rattle.http.specs.declared.request.Parts.{Parts}
use Rattle.http_header.specs.HeaderMap.{get}
use Rattle.http_uri.specs.Uri.{uri_authority, uri_path, uri_query}
use Rattle.fare_request.specs.declared.ask.Ask.{Ask}
use Rattle.fare_request.specs.declared.ask.Ask.TheVariants as ask
use Rattle.fare_request.specs.declared.ask.Mistake.{Mistake}
use Rattle.fare_request.specs.declared.ask.Mistake.TheVariants as mistake
use Rattle.fare_request.specs.declared.ask.Place.{Place}
use Rattle.fare_request.specs.declared.ask.Place.TheVariants as place

-- WHOSE IT IS
-- the value of a header field, the first where there are several
abbrev pub field_at : Parts → List ℕ → Option (List ℕ)
field_at p name = option_map (λ v. v.bytes) (get p.headers name)

-- a port behind a colon, or none
abbrev pub IsPortOrNone : List ℕ → Type 0
IsPortOrNone text = (text ≡ []) ⊎ ((port : List ℕ) × (text ≡ codes ":" ++ port))

-- a host of this name, with a port or without
abbrev pub IsAt : List ℕ → List ℕ → Type 0
IsAt name host = (rest : List ℕ) × (host ≡ name ++ rest) × IsPortOrNone rest

-- this machine, by its own name
abbrev pub IsHere : List ℕ → Type 0
IsHere host = IsAt (codes "127.0.0.1") host ⊎ IsAt (codes "localhost") host

-- a browser that says for whom it sends the request says that it is a page of this very hub, or its user
abbrev pub IsOwnSite : Parts → Type 0
IsOwnSite p = IfSome (field_at p (codes "sec-fetch-site")) (λ site. (site ≡ codes "same-origin") ⊎ (site ≡ codes "none"))

-- it was sent to this machine by its own name, and not by a foreign page
pub record IsOurs (p : Parts) : Type 0 where
  pub target : uri_authority p.uri ≡ None
  pub host : List ℕ
  pub named : field_at p (codes "host") ≡ Some host
  pub here : IsHere host
  pub site : IsOwnSite p

-- it bears the header field that makes it an order
abbrev pub IsMeant : Parts → Type 0
IsMeant p = field_at p (codes "x-fare-hub") ≡ Some (codes "1")

-- THE WORDS
-- a number below 2^32, in decimal
abbrev pub IsNumber : List ℕ → ℕ → Type 0
IsNumber text n = ParsesUnsigned {E = ℕ} 32 10 text (Ok n)

-- `owner=` and the first text, `&`, the key of the second and the second
abbrev pub SaysBoth : List ℕ → List ℕ → List ℕ → List ℕ → Type 0
SaysBoth key query first second = query ≡ codes "owner=" ++ (first ++ (codes "&" ++ (key ++ second)))

-- a text without `&`
abbrev pub HasNoAnd : List ℕ → Type 0
HasNoAnd text = (i : ℕ) → i < length text → slice_index text i ≢ 38

-- an owner, and a number behind this key
pub record IsOwnerWith (key query : List ℕ) (owner number : ℕ) : Type 0 where
  pub first : List ℕ
  pub second : List ℕ
  pub says : SaysBoth key query first second
  pub owner_is : IsNumber first owner × IsOwnerId owner
  pub number_is : IsNumber second number

-- its query is of an owner and of a number behind this key
abbrev pub Names : List ℕ → Parts → ℕ → ℕ → Type 0
Names key p owner number = (query : List ℕ) × (uri_query p.uri ≡ Some query) × IsOwnerWith key query owner number

-- it names an owner and a day
abbrev pub NamesDay : Parts → ℕ → ℕ → Type 0
NamesDay p owner day = Names (codes "day=") p owner day × IsDay day

-- and an owner and a device
abbrev pub NamesLane : Parts → ℕ → ℕ → Type 0
NamesLane p owner device = Names (codes "device=") p owner device × IsDeviceId device

-- WHAT IT ASKS
abbrev pub path_of : Place → List ℕ
path_of place.Page = codes "/"
path_of place.Metrics = codes "/metrics"
path_of place.Stand = codes "/stand"
path_of place.Bill = codes "/bill"
path_of place.Settle = codes "/settle"
path_of place.Close = codes "/close"
path_of place.Retire = codes "/retire"

-- what is at this place is ordered, and not only asked for
abbrev pub is_order : Place → Bool
is_order place.Close = true
is_order place.Retire = true
is_order _ = false

-- it is sent to this place with the method GET
abbrev pub IsGetAt : Parts → Place → Place → Type 0
IsGetAt p at place = (at ≡ place) × (p.method ≡ codes "GET")

-- it is sent to this place with the method POST and the header field of an order
abbrev pub IsOrderAt : Parts → Place → Place → Type 0
IsOrderAt p at place = (at ≡ place) × (p.method ≡ codes "POST") × IsMeant p

-- it has what the place wants: the method GET, or POST with the header field of an order
abbrev pub IsReadyAt : Parts → Place → Type 0
IsReadyAt p place.Close = (p.method ≡ codes "POST") × IsMeant p
IsReadyAt p place.Retire = (p.method ≡ codes "POST") × IsMeant p
IsReadyAt p _ = p.method ≡ codes "GET"

-- why it asks for nothing where it is sent to this place: an order without its field, another method than the place's, or
-- words that are none of an owner and a day, or of an owner and a device
abbrev pub MistakesAt : Parts → Place → Mistake → Type 0
MistakesAt p at mistake.Foreign = (is_order at ≡ true) × (p.method ≡ codes "POST") × ¬ (IsMeant p)
MistakesAt p at mistake.Nowhere = ⊥
MistakesAt p at mistake.WantsGet = (is_order at ≡ false) × (p.method ≢ codes "GET")
MistakesAt p at mistake.WantsPost = (is_order at ≡ true) × (p.method ≢ codes "POST")
MistakesAt p at mistake.Words =
    ((IsGetAt p at place.Bill ⊎ IsGetAt p at place.Settle) × ((owner day : ℕ) → ¬ (NamesDay p owner day)))
    ⊎ (IsOrderAt p at place.Retire × ((owner device : ℕ) → ¬ (NamesLane p owner device)))

-- what it asks where it is sent to this place
abbrev pub AsksAt : Parts → Place → Ask → Type 0
AsksAt p at ask.Page = IsGetAt p at place.Page
AsksAt p at ask.Metrics = IsGetAt p at place.Metrics
AsksAt p at ask.Stand = IsGetAt p at place.Stand
AsksAt p at (ask.Bill owner day) = IsGetAt p at place.Bill × NamesDay p owner day
AsksAt p at (ask.Settle owner day) = IsGetAt p at place.Settle × NamesDay p owner day
AsksAt p at ask.Close = IsOrderAt p at place.Close
AsksAt p at (ask.Retire owner device) = IsOrderAt p at place.Retire × NamesLane p owner device
AsksAt p at (ask.Nothing why) = MistakesAt p at why

-- it is this machine's own, sent to a place, and this is asked there
abbrev pub AsksWell : Parts → Ask → Type 0
AsksWell p a = IsOurs p × ((at : Place) × (uri_path p.uri ≡ path_of at) × AsksAt p at a)

-- What it asks; nothing where it is not this machine's own, where there is nothing at its path, or by what it asks there.
abbrev pub Asks : Parts → Ask → Type 0
Asks p (ask.Nothing mistake.Foreign) = ¬ (IsOurs p) ⊎ AsksWell p (ask.Nothing mistake.Foreign)
Asks p (ask.Nothing mistake.Nowhere) = IsOurs p × ((at : Place) → uri_path p.uri ≢ path_of at)
Asks p a = AsksWell p a
