-- The closes of lanes, one after the other.
use Rattle.std.proofs.Common.{◌≡◌, ◌≢◌, ℕ, zero, suc, ◌+◌, ◌≤◌, List, [], ◌∷◌, ◌++◌, length, take, Some, None, refl, sym, ap, ◌∙◌, subst, append_assoc, append-nil, arith}
use Rattle.std.specs.Prelude.{Option}
use Rattle.std.specs.List.{flat_map}
use Rattle.std.specs.Map.{keys_of}
use Rattle.std.proofs.lemmas.Grind.{flat_map-append}
use Rattle.std.proofs.lemmas.List.{length-map, map-append, take_all}
use Rattle.fare_scheme.specs.Values.{SchemeValue}
use Rattle.fare_scheme.specs.Words.{id_at, position_of_owner}
use Rattle.std.proofs.KnownBytes.{Appends-nil, Appends-trans}
use Rattle.fare_store.specs.Standing.{Standing}
use Rattle.fare_store.specs.OutboxWords.{OutboxValue}
use Rattle.fare_store.specs.LedgerWords.{LedgerValue}
use Rattle.fare_history.specs.Stores.{StoresValue}
use Rattle.fare_sessions.specs.declared.hub.Hub.{Hub}
use Rattle.fare_sessions.specs.Stores.{HasLedgers}
use Rattle.fare_sessions.proofs.Follow.{clean_back}
use Rattle.fare_desk.specs.Closing.{AreLinesOf, ClosesLanes, GoesOn, HasClosedLanes, lanes_with}
use Rattle.fare_desk.proofs.Going.{goes_self, goes_join}

-- the lanes of one list and then those of another
pub closes_then : (ls ms : List (ℕ × ℕ)) (h m k : StoresValue) (s t : List ℕ) → ClosesLanes ls h s m → ClosesLanes ms m t k → ClosesLanes (ls ++ ms) h (s ++ t) k
closes_then [] ms h m k s t first second =
    subst (λ (z : StoresValue × List ℕ). ClosesLanes ms z.0 z.1 k) (λ i. (first.1 i, ap (λ (l : List ℕ). l ++ t) (sym first.0) i)) second
closes_then (l ∷ ls) ms h m k s t first second =
    let rest = first.1 in (
      first.0,
      rest ++ t,
      first.2,
      first.3,
      ap (λ (x : List ℕ). x ++ t) first.4 ∙ append_assoc first.0 rest t,
      closes_then ls ms first.2 m k rest t first.5 second,
    )

pub lines_then : (ls ms : List (ℕ × ℕ)) (s t : List ℕ) → AreLinesOf ls s → AreLinesOf ms t → AreLinesOf (ls ++ ms) (s ++ t)
lines_then [] ms s t first second = subst (λ (x : List ℕ). AreLinesOf ms (x ++ t)) (sym first) second
lines_then (l ∷ ls) ms s t first second = (first.0, first.1 ++ t, first.2, ap (λ (x : List ℕ). x ++ t) first.3 ∙ append_assoc first.0 first.1 t, lines_then ls ms first.1 t first.4 second)

-- PLACES
-- the first so many ids, one more
keys_next : {X : Type 0} (entries : List (ℕ × X)) (place id : ℕ) → id_at entries place ≡ Some id → take (suc place) (keys_of entries) ≡ take place (keys_of entries) ++ id ∷ []
keys_next [] place id at = absurd (cc)
keys_next (e ∷ es) zero id at = let same : e.0 ≡ id = cc in ap (λ (n : ℕ). n ∷ []) same
keys_next (e ∷ es) (suc place) id at = ap (λ (l : List ℕ). e.0 ∷ l) (keys_next es place id at)

pub keys_more : {X : Type 0} (entries : List (ℕ × X)) (place id : ℕ) → id_at entries place ≡ Some id → take (place + 1) (keys_of entries) ≡ take place (keys_of entries) ++ id ∷ []
keys_more entries place id at = let next : place + 1 ≡ suc place = omega arith in ap (λ n. take n (keys_of entries)) next ∙ keys_next entries place id at

-- all of them
pub keys_all : {X : Type 0} (entries : List (ℕ × X)) (place : ℕ) → length entries ≤ place → take place (keys_of entries) ≡ keys_of entries
keys_all entries place le = let n = length-map entries (λ e. e.0) in take_all place (keys_of entries) (omega (arith, le, n))

pub devices_more : {X : Type 0} (owner : ℕ) (entries : List (ℕ × X)) (place device : ℕ) → id_at entries place ≡ Some device → lanes_with owner (take place (keys_of entries)) ++ (owner, device) ∷ [] ≡ lanes_with owner (take (place + 1) (keys_of entries))
devices_more owner entries place device at = sym (map-append (λ d. (owner, d)) (take place (keys_of entries)) (device ∷ [])) ∙ ap (lanes_with owner) (sym (keys_more entries place device at))

-- the lanes of these owners
abbrev pub lanes_over : List ℕ → List ℕ → List (ℕ × ℕ)
lanes_over owners devices = flat_map (λ owner. lanes_with owner devices) owners

pub owners_more : {X : Type 0} (devices : List ℕ) (entries : List (ℕ × X)) (place owner : ℕ) → id_at entries place ≡ Some owner → lanes_over (take place (keys_of entries)) devices ++ lanes_with owner devices ≡ lanes_over (take (place + 1) (keys_of entries)) devices
owners_more devices entries place owner at =
    ap (λ l. lanes_over (take place (keys_of entries)) devices ++ l) (sym (append-nil (lanes_with owner devices)))
    ∙ (sym (flat_map-append (λ o. lanes_with o devices) (take place (keys_of entries)) (owner ∷ [])) ∙ ap (λ l. lanes_over l devices) (sym (keys_more entries place owner at)))

module _ {O L : Type 0} (outbox : O → Standing OutboxValue) (ledger : L → Standing LedgerValue) where
  -- what a call wants of a hub it wants of what the hub has become
  pub still_ledgers : (old now : Hub O L) → GoesOn outbox ledger old now → HasLedgers old → HasLedgers now
  still_ledgers old now g has = g.follow.count ∙ (has ∙ ap (λ (sc : SchemeValue). length sc.owners) (sym g.scheme))

  pub still_known : (old now : Hub O L) (owner : ℕ) → GoesOn outbox ledger old now → position_of_owner old.scheme owner ≢ None → position_of_owner now.scheme owner ≢ None
  still_known old now owner g known = λ none. known (ap (λ (sc : SchemeValue). position_of_owner sc owner) (sym g.scheme) ∙ none)

module _ {O L : Type 0} (outbox : O → Standing OutboxValue) (ledger : L → Standing LedgerValue) where
  pub closed_none : (hub : Hub O L) (before : Option (List ℕ)) → HasClosedLanes outbox ledger [] hub hub before before
  closed_none hub before = record { text = []; written = Appends-nil before; lines = refl; came = λ clean sound k may. (k, may, (refl, refl)) }

  pub closed_then : (a b c : Hub O L) (ls ms : List (ℕ × ℕ)) (x y z : Option (List ℕ)) → GoesOn outbox ledger a b → GoesOn outbox ledger b c → HasClosedLanes outbox ledger ls a b x y → HasClosedLanes outbox ledger ms b c y z → HasClosedLanes outbox ledger (ls ++ ms) a c x z
  closed_then a b c ls ms x y z f g first second = record {
    text = first.text ++ second.text;
    written = Appends-trans x y z first.text second.text first.written second.written;
    lines = lines_then ls ms first.text second.text first.lines second.lines;
    came = λ clean sound k may.
        let late = second.came clean (f.sound sound) k may in
        let early = first.came (clean_back outbox ledger b c g.follow clean) sound late.0 late.1 in
        (early.0, early.1, closes_then ls ms early.0 late.0 k first.text second.text early.2 late.2);
  }

  -- THE LOOPS
  pub record StandsOver (lanes : List (ℕ × ℕ)) (old now : Hub O L) (before after : Option (List ℕ)) : Type 0 where
    pub goes : GoesOn outbox ledger old now
    pub closed : HasClosedLanes outbox ledger lanes old now before after

  pub over_none : (old : Hub O L) (before : Option (List ℕ)) → StandsOver [] old old before before
  over_none old before = record { goes = goes_self outbox ledger old; closed = closed_none old before }

  pub over_more : (old now next : Hub O L) (lanes more all : List (ℕ × ℕ)) (x y z : Option (List ℕ)) → StandsOver lanes old now x y → GoesOn outbox ledger now next → HasClosedLanes outbox ledger more now next y z → lanes ++ more ≡ all → StandsOver all old next x z
  over_more old now next lanes more all x y z s g c is =
      subst (λ l. StandsOver l old next x z) is (record { goes = goes_join outbox ledger old now next s.goes g; closed = closed_then old now next lanes more x y z s.goes g s.closed c })
