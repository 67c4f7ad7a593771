-- The lines of a trace: each is a keyword and its numbers, or a zone and its text, and has one spelling.
use Rattle.std.specs.Prelude.{ℕ, ◌<◌, ◌≤◌, List, [], ◌∷◌, ◌++◌, codes, map}
use Rattle.std.specs.List.{join_with_byte}
use Rattle.std.specs.Option.{option_to_list}
use Rattle.std.specs.Fmt.{decimal}
use Rattle.fare_record.specs.Limits.{IsDeviceId, IsOwnerId, IsStationId, IsProductId, IsToken, IsMoment, IsDay}
use Rattle.fare_scheme.specs.declared.demo.DemoSize.{DemoSize}
use Rattle.fare_scheme.specs.declared.demo.DemoSize.TheVariants.{OneDevice, TwoDevices}
use Rattle.fare_event.specs.declared.event.Event.TheVariants as event
use Rattle.fare_lines.specs.declared.keyword.Keyword.{Keyword}
use Rattle.fare_lines.specs.declared.keyword.Keyword.TheVariants.{OfScheme, OfEvent}
use Rattle.fare_lines.specs.declared.keyword.SchemeKeyword.{SchemeKeyword}
use Rattle.fare_lines.specs.declared.keyword.SchemeKeyword.TheVariants.{Owner, Operator, Station, Product, Caps, Hop, Device, Inbox, Start, Seal, Demo}
use Rattle.fare_lines.specs.declared.keyword.EventKeyword.{EventKeyword}
use Rattle.fare_lines.specs.declared.keyword.EventKeyword.TheVariants.{Tap, Turn, Send, Rewind, State, Arrive, Draw, Store, Ack, DayAck, Answer, Forward, Fetch, Take, Close, Retire, Prune, Resume, RestartDevice, RestartStation, RestartWriter, RestartOwner, RestartHub, Upto, Count, Bill, Settle}
use Rattle.fare_lines.specs.declared.line.Line.{Line}
use Rattle.fare_lines.specs.declared.line.Line.TheVariants.{Setup, Step}
use Rattle.fare_lines.specs.declared.line.SchemeLine.TheVariants as scheme
use Rattle.fare_lines.specs.ZoneWord.{IsZoneText}

-- KEYWORDS
-- the texts of keywords, with the space that parts it from the first number
abbrev pub scheme_keyword_text : SchemeKeyword → List ℕ
scheme_keyword_text Owner = codes "owner "
scheme_keyword_text Operator = codes "operator "
scheme_keyword_text Station = codes "station "
scheme_keyword_text Product = codes "product "
scheme_keyword_text Caps = codes "caps "
scheme_keyword_text Hop = codes "hop "
scheme_keyword_text Device = codes "device "
scheme_keyword_text Inbox = codes "inbox "
scheme_keyword_text Start = codes "start "
scheme_keyword_text Seal = codes "seal"
scheme_keyword_text Demo = codes "demo "

abbrev pub event_keyword_text : EventKeyword → List ℕ
event_keyword_text Tap = codes "tap "
event_keyword_text Turn = codes "turn "
event_keyword_text Send = codes "send "
event_keyword_text Rewind = codes "rewind "
event_keyword_text State = codes "state "
event_keyword_text Arrive = codes "arrive "
event_keyword_text Draw = codes "draw"
event_keyword_text Store = codes "store"
event_keyword_text Ack = codes "ack "
event_keyword_text DayAck = codes "dayack "
event_keyword_text Answer = codes "answer "
event_keyword_text Forward = codes "forward "
event_keyword_text Fetch = codes "fetch "
event_keyword_text Take = codes "take "
event_keyword_text Close = codes "close "
event_keyword_text Retire = codes "retire "
event_keyword_text Prune = codes "prune "
event_keyword_text Resume = codes "resume "
event_keyword_text RestartDevice = codes "restart device "
event_keyword_text RestartStation = codes "restart station "
event_keyword_text RestartWriter = codes "restart writer"
event_keyword_text RestartOwner = codes "restart owner "
event_keyword_text RestartHub = codes "restart hub"
event_keyword_text Upto = codes "upto "
event_keyword_text Count = codes "count "
event_keyword_text Bill = codes "bill "
event_keyword_text Settle = codes "settle "

abbrev pub keyword_text : Keyword → List ℕ
keyword_text (OfScheme keyword) = scheme_keyword_text keyword
keyword_text (OfEvent keyword) = event_keyword_text keyword

-- the kinds of numbers
pub data Kind : Type 0 where
  ADevice : Kind
  AnOwner : Kind
  AStation : Kind
  AProduct : Kind
  AToken : Kind
  AMoment : Kind
  ADay : Kind
  OneOrTwo : Kind
  ARoute : Kind  -- below 2^16, and it may be left out
  AnyU16 : Kind  -- below 2^16
  AnyU32 : Kind  -- below 2^32
  AnyU64 : Kind  -- below 2^64

-- the numbers of a kind
abbrev pub IsOf : Kind → ℕ → Type 0
IsOf ADevice n = IsDeviceId n
IsOf AnOwner n = IsOwnerId n
IsOf AStation n = IsStationId n
IsOf AProduct n = IsProductId n
IsOf AToken n = IsToken n
IsOf AMoment n = IsMoment n
IsOf ADay n = IsDay n
IsOf OneOrTwo n = (1 ≤ n) × (n ≤ 2)
IsOf ARoute n = n < 65536
IsOf AnyU16 n = n < 65536
IsOf AnyU32 n = n < 4294967296
IsOf AnyU64 n = n < 18446744073709551616

-- it may be left out
abbrev pub MayLack : Kind → Type 0
MayLack ARoute = Unit {0}
MayLack _ = ⊥

-- as many numbers as kinds, each of its kind, but for those at the end that may be left out
abbrev pub AreOf : List Kind → List ℕ → Type 0
AreOf [] [] = Unit {0}
AreOf (k ∷ ks) (n ∷ ns) = IsOf k n × AreOf ks ns
AreOf [] (n ∷ ns) = ⊥
AreOf (k ∷ ks) [] = MayLack k × AreOf ks []

-- the kinds of the numbers of keywords
abbrev pub scheme_keyword_kinds : SchemeKeyword → List Kind
scheme_keyword_kinds Owner = AnyU16 ∷ AnyU32 ∷ []
scheme_keyword_kinds Operator = AnyU16 ∷ []
scheme_keyword_kinds Station = AnyU16 ∷ AnyU16 ∷ []
scheme_keyword_kinds Product = AnyU32 ∷ AnyU16 ∷ AnyU32 ∷ []
scheme_keyword_kinds Caps = AnyU32 ∷ AnyU32 ∷ AnyU32 ∷ []
scheme_keyword_kinds Hop = AnyU32 ∷ AnyU32 ∷ []
scheme_keyword_kinds Device = AnyU32 ∷ AnyU16 ∷ AnyU32 ∷ []
scheme_keyword_kinds Inbox = AnyU32 ∷ []
scheme_keyword_kinds Start = AnyU32 ∷ []
scheme_keyword_kinds Seal = []
scheme_keyword_kinds Demo = OneOrTwo ∷ AnyU32 ∷ AnyU32 ∷ AnyU32 ∷ []

abbrev pub event_keyword_kinds : EventKeyword → List Kind
event_keyword_kinds Tap = ADevice ∷ AProduct ∷ AToken ∷ AMoment ∷ ARoute ∷ []
event_keyword_kinds Turn = ADevice ∷ []
event_keyword_kinds Send = ADevice ∷ []
event_keyword_kinds Rewind = ADevice ∷ []
event_keyword_kinds State = ADevice ∷ ADay ∷ AnOwner ∷ []
event_keyword_kinds Arrive = AnyU64 ∷ []
event_keyword_kinds Draw = []
event_keyword_kinds Store = []
event_keyword_kinds Ack = ADevice ∷ []
event_keyword_kinds DayAck = ADevice ∷ ADay ∷ []
event_keyword_kinds Answer = AStation ∷ []
event_keyword_kinds Forward = AnOwner ∷ ADevice ∷ []
event_keyword_kinds Fetch = AnOwner ∷ []
event_keyword_kinds Take = AnOwner ∷ []
event_keyword_kinds Close = AnOwner ∷ ADevice ∷ ADay ∷ []
event_keyword_kinds Retire = AnOwner ∷ ADevice ∷ []
event_keyword_kinds Prune = AnOwner ∷ ADevice ∷ []
event_keyword_kinds Resume = ADevice ∷ []
event_keyword_kinds RestartDevice = ADevice ∷ []
event_keyword_kinds RestartStation = AStation ∷ []
event_keyword_kinds RestartWriter = []
event_keyword_kinds RestartOwner = AnOwner ∷ []
event_keyword_kinds RestartHub = []
event_keyword_kinds Upto = ADevice ∷ []
event_keyword_kinds Count = AnOwner ∷ ADevice ∷ []
event_keyword_kinds Bill = AnOwner ∷ ADay ∷ []
event_keyword_kinds Settle = AnOwner ∷ ADay ∷ []

abbrev pub keyword_kinds : Keyword → List Kind
keyword_kinds (OfScheme keyword) = scheme_keyword_kinds keyword
keyword_kinds (OfEvent keyword) = event_keyword_kinds keyword

-- LINES
-- what a line consists of: a keyword and its numbers, or a zone's text
pub data Parts : Type 0 where
  Numbered : Keyword → List ℕ → Parts
  Worded : List ℕ → Parts

-- the number of devices
abbrev pub size_number : DemoSize → ℕ
size_number OneDevice = 1
size_number TwoDevices = 2

-- the parts of a line
abbrev pub line_parts : Line → Parts
line_parts (Setup (scheme.Owner owner lane)) = Numbered (OfScheme Owner) (owner ∷ lane ∷ [])
line_parts (Setup (scheme.Operator operator)) = Numbered (OfScheme Operator) (operator ∷ [])
line_parts (Setup (scheme.Station station operator)) = Numbered (OfScheme Station) (station ∷ operator ∷ [])
line_parts (Setup (scheme.Product product owner fare)) = Numbered (OfScheme Product) (product ∷ owner ∷ fare ∷ [])
line_parts (Setup (scheme.Caps product daily weekly)) = Numbered (OfScheme Caps) (product ∷ daily ∷ weekly ∷ [])
line_parts (Setup (scheme.Hop product seconds)) = Numbered (OfScheme Hop) (product ∷ seconds ∷ [])
line_parts (Setup (scheme.Device device station buffer)) = Numbered (OfScheme Device) (device ∷ station ∷ buffer ∷ [])
line_parts (Setup (scheme.Inbox capacity)) = Numbered (OfScheme Inbox) (capacity ∷ [])
line_parts (Setup (scheme.Zone rule)) = Worded rule
line_parts (Setup (scheme.Start day)) = Numbered (OfScheme Start) (day ∷ [])
line_parts (Setup scheme.Seal) = Numbered (OfScheme Seal) []
line_parts (Setup (scheme.Demo size buffer inbox lane)) = Numbered (OfScheme Demo) (size_number size ∷ buffer ∷ inbox ∷ lane ∷ [])
line_parts (Step (event.Tap device product route token moment)) = Numbered (OfEvent Tap) (device ∷ product ∷ token ∷ moment ∷ option_to_list route)
line_parts (Step (event.Turn device)) = Numbered (OfEvent Turn) (device ∷ [])
line_parts (Step (event.Send device)) = Numbered (OfEvent Send) (device ∷ [])
line_parts (Step (event.Rewind device)) = Numbered (OfEvent Rewind) (device ∷ [])
line_parts (Step (event.State device day owner)) = Numbered (OfEvent State) (device ∷ day ∷ owner ∷ [])
line_parts (Step (event.Arrive packet)) = Numbered (OfEvent Arrive) (packet ∷ [])
line_parts (Step event.Draw) = Numbered (OfEvent Draw) []
line_parts (Step event.Store) = Numbered (OfEvent Store) []
line_parts (Step (event.Ack device)) = Numbered (OfEvent Ack) (device ∷ [])
line_parts (Step (event.DayAck device day)) = Numbered (OfEvent DayAck) (device ∷ day ∷ [])
line_parts (Step (event.Answer station)) = Numbered (OfEvent Answer) (station ∷ [])
line_parts (Step (event.Forward owner device)) = Numbered (OfEvent Forward) (owner ∷ device ∷ [])
line_parts (Step (event.Fetch owner)) = Numbered (OfEvent Fetch) (owner ∷ [])
line_parts (Step (event.Take owner)) = Numbered (OfEvent Take) (owner ∷ [])
line_parts (Step (event.Close owner device day)) = Numbered (OfEvent Close) (owner ∷ device ∷ day ∷ [])
line_parts (Step (event.Retire owner device)) = Numbered (OfEvent Retire) (owner ∷ device ∷ [])
line_parts (Step (event.Prune owner device)) = Numbered (OfEvent Prune) (owner ∷ device ∷ [])
line_parts (Step (event.Resume device)) = Numbered (OfEvent Resume) (device ∷ [])
line_parts (Step (event.RestartDevice device)) = Numbered (OfEvent RestartDevice) (device ∷ [])
line_parts (Step (event.RestartStation station)) = Numbered (OfEvent RestartStation) (station ∷ [])
line_parts (Step event.RestartWriter) = Numbered (OfEvent RestartWriter) []
line_parts (Step (event.RestartOwner owner)) = Numbered (OfEvent RestartOwner) (owner ∷ [])
line_parts (Step event.RestartHub) = Numbered (OfEvent RestartHub) []
line_parts (Step (event.Upto device)) = Numbered (OfEvent Upto) (device ∷ [])
line_parts (Step (event.Count owner device)) = Numbered (OfEvent Count) (owner ∷ device ∷ [])
line_parts (Step (event.Bill owner day)) = Numbered (OfEvent Bill) (owner ∷ day ∷ [])
line_parts (Step (event.Settle owner day)) = Numbered (OfEvent Settle) (owner ∷ day ∷ [])

-- numbers in decimal, with one space between each two
abbrev pub numbers_text : List ℕ → List ℕ
numbers_text ns = join_with_byte 32 (map decimal ns)

-- the text of a line's parts
abbrev pub parts_text : Parts → List ℕ
parts_text (Numbered keyword ns) = keyword_text keyword ++ numbers_text ns
parts_text (Worded rule) = codes "zone " ++ rule

-- the numbers are of the kinds that the keyword asks for; a zone's text is one word
abbrev pub PartsFit : Parts → Type 0
PartsFit (Numbered keyword ns) = AreOf (keyword_kinds keyword) ns
PartsFit (Worded rule) = IsZoneText rule

-- the one spelling of a line
abbrev pub line_text : Line → List ℕ
line_text l = parts_text (line_parts l)

-- its parts are those of a line that can be spelled
abbrev pub Fits : Line → Type 0
Fits l = PartsFit (line_parts l)
