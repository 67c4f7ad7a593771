-- What holds of each keyword: a test over the list of all keywords computes it.
use Rattle.std.proofs.Common.{◌≡◌, ◌<◌, ◌==◌, ℕ, List, [], ◌∷◌, length, get_or, Bool, true, false, cond, ap, sym, subst, refl, arith, ◌∙◌, lit<, bytes_eq, nat_lt}
use Prim.Native.Nat.{zero, suc}
use Rattle.std.proofs.lemmas.Bool.{eqb-true}
use borrow.Author.Tests.{ltb-true}
use Rattle.fare_lines.specs.declared.keyword.Keyword.{Keyword}
use Rattle.fare_lines.specs.declared.keyword.Keyword.TheVariants.{OfScheme, OfEvent}
use Rattle.fare_lines.specs.declared.keyword.SchemeKeyword.TheVariants.{Owner, Operator, Station, Product, Caps, Hop, Device, Inbox, Start, Seal, Demo}
use Rattle.fare_lines.specs.declared.keyword.EventKeyword.TheVariants.{Tap, Turn, Send, Rewind, State, Arrive, Draw, Store, Ack, DayAck, Answer, Forward, Fetch, Take, Close, Retire, Prune, Resume, RestartDevice, RestartStation, RestartWriter, RestartOwner, RestartHub, Upto, Count, Bill, Settle}
use Rattle.fare_lines.specs.Reading.{any_keyword}
use Rattle.fare_lines.specs.Grammar.{keyword_text}
use Rattle.fare_lines.proofs.Cuts.{Lacks}

-- a row for each keyword
abbrev pub keywords : List Keyword
keywords = OfEvent Tap ∷ OfEvent Turn ∷ OfEvent Send ∷ OfEvent Rewind ∷ OfEvent State ∷ OfEvent Arrive ∷ OfEvent Draw ∷ OfEvent Store ∷ OfEvent Ack ∷ OfEvent DayAck ∷ OfEvent Answer ∷ OfEvent Forward ∷ OfEvent Fetch ∷ OfEvent Take ∷ OfEvent Close ∷ OfEvent Retire ∷ OfEvent Prune ∷ OfEvent Resume ∷ OfEvent RestartDevice ∷ OfEvent RestartStation ∷ OfEvent RestartWriter ∷ OfEvent RestartOwner ∷ OfEvent RestartHub ∷ OfEvent Upto ∷ OfEvent Count ∷ OfEvent Bill ∷ OfEvent Settle ∷ OfScheme Owner ∷ OfScheme Operator ∷ OfScheme Station ∷ OfScheme Product ∷ OfScheme Caps ∷ OfScheme Hop ∷ OfScheme Device ∷ OfScheme Inbox ∷ OfScheme Start ∷ OfScheme Seal ∷ OfScheme Demo ∷ []

abbrev pub place : Keyword → ℕ
place (OfEvent Tap) = 0
place (OfEvent Turn) = 1
place (OfEvent Send) = 2
place (OfEvent Rewind) = 3
place (OfEvent State) = 4
place (OfEvent Arrive) = 5
place (OfEvent Draw) = 6
place (OfEvent Store) = 7
place (OfEvent Ack) = 8
place (OfEvent DayAck) = 9
place (OfEvent Answer) = 10
place (OfEvent Forward) = 11
place (OfEvent Fetch) = 12
place (OfEvent Take) = 13
place (OfEvent Close) = 14
place (OfEvent Retire) = 15
place (OfEvent Prune) = 16
place (OfEvent Resume) = 17
place (OfEvent RestartDevice) = 18
place (OfEvent RestartStation) = 19
place (OfEvent RestartWriter) = 20
place (OfEvent RestartOwner) = 21
place (OfEvent RestartHub) = 22
place (OfEvent Upto) = 23
place (OfEvent Count) = 24
place (OfEvent Bill) = 25
place (OfEvent Settle) = 26
place (OfScheme Owner) = 27
place (OfScheme Operator) = 28
place (OfScheme Station) = 29
place (OfScheme Product) = 30
place (OfScheme Caps) = 31
place (OfScheme Hop) = 32
place (OfScheme Device) = 33
place (OfScheme Inbox) = 34
place (OfScheme Start) = 35
place (OfScheme Seal) = 36
place (OfScheme Demo) = 37

pub at_place : (k : Keyword) → (place k < length keywords) × (get_or keywords (place k) any_keyword ≡ k)
at_place (OfEvent Tap) = (lit< tt, refl)
at_place (OfEvent Turn) = (lit< tt, refl)
at_place (OfEvent Send) = (lit< tt, refl)
at_place (OfEvent Rewind) = (lit< tt, refl)
at_place (OfEvent State) = (lit< tt, refl)
at_place (OfEvent Arrive) = (lit< tt, refl)
at_place (OfEvent Draw) = (lit< tt, refl)
at_place (OfEvent Store) = (lit< tt, refl)
at_place (OfEvent Ack) = (lit< tt, refl)
at_place (OfEvent DayAck) = (lit< tt, refl)
at_place (OfEvent Answer) = (lit< tt, refl)
at_place (OfEvent Forward) = (lit< tt, refl)
at_place (OfEvent Fetch) = (lit< tt, refl)
at_place (OfEvent Take) = (lit< tt, refl)
at_place (OfEvent Close) = (lit< tt, refl)
at_place (OfEvent Retire) = (lit< tt, refl)
at_place (OfEvent Prune) = (lit< tt, refl)
at_place (OfEvent Resume) = (lit< tt, refl)
at_place (OfEvent RestartDevice) = (lit< tt, refl)
at_place (OfEvent RestartStation) = (lit< tt, refl)
at_place (OfEvent RestartWriter) = (lit< tt, refl)
at_place (OfEvent RestartOwner) = (lit< tt, refl)
at_place (OfEvent RestartHub) = (lit< tt, refl)
at_place (OfEvent Upto) = (lit< tt, refl)
at_place (OfEvent Count) = (lit< tt, refl)
at_place (OfEvent Bill) = (lit< tt, refl)
at_place (OfEvent Settle) = (lit< tt, refl)
at_place (OfScheme Owner) = (lit< tt, refl)
at_place (OfScheme Operator) = (lit< tt, refl)
at_place (OfScheme Station) = (lit< tt, refl)
at_place (OfScheme Product) = (lit< tt, refl)
at_place (OfScheme Caps) = (lit< tt, refl)
at_place (OfScheme Hop) = (lit< tt, refl)
at_place (OfScheme Device) = (lit< tt, refl)
at_place (OfScheme Inbox) = (lit< tt, refl)
at_place (OfScheme Start) = (lit< tt, refl)
at_place (OfScheme Seal) = (lit< tt, refl)
at_place (OfScheme Demo) = (lit< tt, refl)

-- a test that each keyword of a list passes
abbrev passes_each : (Keyword → Bool) → List Keyword → Bool
passes_each test [] = true
passes_each test (k ∷ ks) = cond (test k) (passes_each test ks) false

both : (a b : Bool) → cond a b false ≡ true → (a ≡ true) × (b ≡ true)
both true b e = (refl, e)
both false b e = absurd (cc)

passes_at : (test : Keyword → Bool) (ks : List Keyword) (i : ℕ) → passes_each test ks ≡ true → i < length ks → test (get_or ks i any_keyword) ≡ true
passes_at test [] i e below = absurd (omega arith)
passes_at test (k ∷ ks) zero e below = (both (test k) (passes_each test ks) e).0
passes_at test (k ∷ ks) (suc i) e below = passes_at test ks i (both (test k) (passes_each test ks) e).1 (omega arith)

pub every : (test : Keyword → Bool) → passes_each test keywords ≡ true → (k : Keyword) → test k ≡ true
every test e k = subst (λ j. test j ≡ true) (at_place k).1 (passes_at test keywords (place k) e (at_place k).0)

-- THE TEXTS OF KEYWORDS
abbrev lacks : (ℕ → Bool) → List ℕ → Bool
lacks p [] = true
lacks p (b ∷ bs) = cond (p b) false (lacks p bs)

neither : (a b : Bool) → cond a false b ≡ true → (a ≡ false) × (b ≡ true)
neither true b e = absurd (cc)
neither false b e = (refl, e)

lacks_of_test : (p : ℕ → Bool) (bs : List ℕ) → lacks p bs ≡ true → Lacks p bs
lacks_of_test p [] e = tt
lacks_of_test p (b ∷ bs) e =
    let parts = neither (p b) (lacks p bs) e in (parts.0, lacks_of_test p bs parts.1)

-- a text lacks what none of the keywords has
pub keyword_lacks : (p : ℕ → Bool) → passes_each (λ k. lacks p (keyword_text k)) keywords ≡ true → (k : Keyword) → Lacks p (keyword_text k)
keyword_lacks p e k = lacks_of_test p (keyword_text k) (every (λ j. lacks p (keyword_text j)) e k)

pub keyword_some : (k : Keyword) → 0 < length (keyword_text k)
keyword_some k = ltb-true 0 (length (keyword_text k)) (every (λ j. nat_lt 0 (length (keyword_text j))) refl k)

-- the place of the first keyword with this text
abbrev place_among : List Keyword → List ℕ → ℕ
place_among [] text = 0
place_among (k ∷ ks) text = cond (bytes_eq (keyword_text k) text) (place k) (place_among ks text)

place_again : (k : Keyword) → place_among keywords (keyword_text k) ≡ place k
place_again k = eqb-true (place_among keywords (keyword_text k)) (place k) (every (λ j. place_among keywords (keyword_text j) == place j) refl k)

-- keywords with one text are the same
pub keyword_same : (j k : Keyword) → keyword_text j ≡ keyword_text k → j ≡ k
keyword_same j k e =
    let places : place j ≡ place k = sym (place_again j) ∙ ap (place_among keywords) e ∙ place_again k in
    sym (at_place j).1 ∙ ap (λ i. get_or keywords i any_keyword) places ∙ (at_place k).1
