-- Of a device that isn't registered nothing is taken, and of an owner that isn't all that the outbox has had waits.
use Rattle.std.proofs.Common.{◌≡◌, ℕ, suc, ◌+◌, List, [], ◌∷◌, ◌++◌, length, Some, None, Bool, true, false, refl, sym, ap, ◌∙◌, arith}
use Rattle.std.specs.Prelude.{slice_get, Option, ◌==◌, is_some, nat_le, ◌-◌, IfSome, if◌then◌else◌}
use Rattle.std.specs.List.{AllByRecursion}
use Rattle.fare_record.specs.Values.{RecordValue}
use Rattle.fare_record.specs.Lanes.{part}
use Rattle.fare_record.specs.declared.item.Item.{Item}
use Rattle.fare_record.specs.declared.item.Item.TheVariants as item
use Rattle.fare_scheme.specs.Facts.{IsScheme}
use Rattle.fare_scheme.specs.Values.{SchemeValue}
use Rattle.fare_scheme.specs.Words.{owner_of, position_of_owner, station_of}
use Rattle.fare_scheme.proofs.Known.{owner_is_known}
use Rattle.fare_store.specs.Tables.{put}
use Rattle.fare_store.specs.LedgerWords.{LedgerValue, let_go, front, took, with_statement}
use Rattle.fare_store.proofs.Entries.{is_one}
use Rattle.fare_world.specs.Headline.{IsPrefixOf}
use Rattle.fare_world.specs.Knowing.{knows_owner}
use Rattle.fare_world.specs.Shown.{row_at}
use Rattle.fare_world.proofs.Known.{station_where_placed}
use Rattle.fare_world.proofs.RowPlaces.{row_push}
use Rattle.fare_history.specs.Serving.{device_of, IsOfDevice, given_all}
use Rattle.fare_agreement.specs.Agreeing.{AreRowsOf, IsStranger}

-- DEVICES
-- a registered device is another than one that isn't
unregistered : (sc : SchemeValue) (d e : ℕ) → station_of sc d ≡ None → IsOfDevice sc e → (d == e) ≡ false
unregistered sc d e none registered = by (d == e) refl
  where
    by : (b : Bool) → (d == e) ≡ b → b ≡ false
    by false other = refl
    by true same =
        let stands : is_some (station_of sc e) ≡ true = sym (station_where_placed sc e) ∙ registered in
        let never : false ≡ true = sym (ap is_some none) ∙ ap (λ j. is_some (station_of sc j)) (is_one d e same) ∙ stands in
        absurd (cc)

-- items of registered devices add nothing to what was taken of another
pub none_taken : (sc : SchemeValue) (d : ℕ) → station_of sc d ≡ None → (l : LedgerValue) (items : List Item) → AllByRecursion (λ i. IsOfDevice sc (device_of i)) items → (given_all l items).taken d ≡ l.taken d
none_taken sc d none l [] each = refl
none_taken sc d none l (item.Tap r ∷ items) each = none_taken sc d none (took r l) items each.1 ∙ ap (λ b. if b then l.taken r.device ++ r ∷ [] else l.taken d) (unregistered sc d r.device none each.0)
none_taken sc d none l (item.Stated v ∷ items) each = none_taken sc d none (with_statement v l) items each.1

-- nor does letting go
pub none_forgotten : (day : ℕ) (taken : List RecordValue) → taken ≡ [] → let_go (front day taken) taken ≡ []
none_forgotten day taken none = ap (λ l. let_go (front day l) l) none

-- OWNERS
-- a prefix of nothing is nothing
pub prefix_none : (xs ys : List RecordValue) → IsPrefixOf xs ys → ys ≡ [] → xs ≡ []
prefix_none [] ys p none = refl
prefix_none (x ∷ xs) ys p none =
    let both : x ∷ (xs ++ p.0) ≡ [] = p.1 ∙ none in
    absurd (cc)

-- where no record is the owner's, its part is empty
pub part_none : (owner : ℕ) (taps : List RecordValue) → ((k : ℕ) (r : RecordValue) → slice_get taps k ≡ Some r → (r.owner == owner) ≡ false) → part owner taps ≡ []
part_none owner [] others = refl
part_none owner (r ∷ taps) others = ap (λ b. if b then r ∷ part owner taps else part owner taps) (others 0 r refl) ∙ part_none owner taps (λ k q at. others (suc k) q at)

-- no registered product is of a stranger
pub sold_by_another : (sc : SchemeValue) (owner other product : ℕ) → IsStranger sc owner → owner_of sc product ≡ Some other → (other == owner) ≡ false
sold_by_another sc owner other product stranger of = by (other == owner) refl
  where
    by : (b : Bool) → (other == owner) ≡ b → b ≡ false
    by false differ = refl
    by true same = absurd (stranger.sells_none product (of ∙ ap Some (is_one other owner same)))

-- there are no rows of nothing
pub row_of_none : (gone lane : ℕ) → row_at gone [] lane ≡ None
row_of_none gone lane = by (nat_le lane gone)
  where
    by : (b : Bool) → ◌≡◌ {A = Option RecordValue} (if b then None else slice_get [] (lane - 1)) None
    by true = refl
    by false = refl

-- the next tap waits behind the others
pub rows_pushed : (arrived : List RecordValue) (rows : ℕ → Option RecordValue) → AreRowsOf arrived 0 rows → (r : RecordValue) → r.lane ≡ length arrived + 1 → AreRowsOf (arrived ++ r ∷ []) 0 (put rows r.lane (Some r))
rows_pushed arrived rows is r next = record {
  gone = is.gone;
  few = is.few;
  are = λ l. ap (λ (o : Option RecordValue). if l == r.lane then Some r else o) (is.are l) ∙ row_push is.gone arrived r r.lane l (omega (arith, is.few)) next;
}

-- in a valid scheme an owner that isn't registered is a stranger
pub strangers : (sc : SchemeValue) → IsScheme sc → (owner : ℕ) → knows_owner sc owner ≡ false → IsStranger sc owner
strangers sc valid owner unknown = record { unknown = unknown; sells_none = λ product of. never (owner_of sc product) of (owner_is_known sc valid product) }
  where
    never : (o : Option ℕ) → o ≡ Some owner → IfSome o (λ q. is_some (position_of_owner sc q) ≡ true) → ⊥
    never None of known = absurd (cc)
    never (Some q) of known =
        let same : q ≡ owner = cc in
        let both : true ≡ false = sym known ∙ ap (λ j. is_some (position_of_owner sc j)) same ∙ unknown in
        absurd (cc)
