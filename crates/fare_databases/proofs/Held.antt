-- What the stores of a hub hold of their databases.
use Rattle.std.proofs.Common.{◌≡◌, ℕ, List, Some, true, length, refl, sym, ap, ◌∙◌, subst, arith, inl, inr}
use Rattle.std.specs.Prelude.{false, None, Option, is_some, option_map, slice_get}
use Rattle.sqlite_trees.specs.Tree.{Trees}
use Rattle.sqlite_trees.specs.declared.store.Store.{Ghosts}
use Rattle.sqlite.specs.Held.{Held, state}
use Rattle.sqlite.specs.State.{State, HasCleanDisk}
use Rattle.fare_scheme.specs.Facts.{IsScheme}
use Rattle.fare_scheme.specs.Values.{SchemeValue}
use Rattle.fare_scheme.specs.Words.{id_at, position_of_owner}
use Rattle.fare_scheme.proofs.Known.{positions}
use Rattle.fare_store.specs.Standing.{Standing}
use Rattle.fare_store.specs.OutboxWords.{OutboxValue}
use Rattle.fare_store.specs.LedgerWords.{LedgerValue, IsOfScheme}
use Rattle.fare_tables.specs.Tabled.{IsLeft}
use Rattle.fare_outbox.specs.First.{IsLawfulFirst, value_first}
use Rattle.fare_outbox_rows.specs.Statements.{outbox_parts}
use Rattle.fare_outbox_rows.specs.Layouts as outbox_layouts
use Rattle.fare_outbox.specs.Words as outbox_words
use Rattle.fare_outbox.specs.declared.tables.SqlOutbox.{SqlOutbox}
use Rattle.fare_ledger.specs.Known.{knows}
use Rattle.fare_ledger.specs.Older.{IsLawfulOlder, value_older}
use Rattle.fare_ledger.specs.Statements.{ledger_parts}
use Rattle.fare_ledger.specs.Layouts as ledger_layouts
use Rattle.fare_ledger.specs.Words as ledger_words
use Rattle.fare_ledger.specs.declared.tables.SqlLedger.{SqlLedger}
use Rattle.fare_world.specs.Knowing.{knows_owner}
use Rattle.fare_history.specs.Stores.{StoresValue}
use Rattle.fare_history.proofs.Entries.{element_at}
use Rattle.fare_sessions.specs.declared.hub.Hub.{Hub}
use Rattle.fare_sessions.specs.Reopening.{AreLasting}
use Rattle.fare_sessions.specs.Stores.{AreClean, AreLive, AreSound, IsLedgerOf, MayStandAs}
use Rattle.fare_sessions.proofs.Billed.{holds_value}
use Rattle.fare_sessions.proofs.Follow.{has_place}
use Rattle.fare_databases.specs.Closed.{IsBack}
use Rattle.fare_databases.specs.Held.{Show}
use Rattle.fare_databases.specs.Holding.{HoldsLedger, HoldsLists, HoldsOutbox, HoldStores, LedgersLook, OutboxesLook, ShowsJust, StaysLedger, StaysOutbox, StoresLook}
use Rattle.fare_databases.specs.Opened.{IsOpenedOutbox, IsOpenedLedger, AreOpened}
use Rattle.fare_databases.specs.declared.databases.Databases.{Databases}
use Rattle.fare_databases.proofs.Again.{owner_at}
use Rattle.fare_databases.proofs.Looks.{ledger_empty, ledger_same, ledger_then, outbox_empty, outbox_same}
use Rattle.fare_databases.proofs.Sound.{IsLawfulStore, outbox_sound, ledger_sound}
use Rattle.fare_databases.proofs.Staying.{fits_there, none_there}

-- A STORE
-- what an opened outbox holds is in the trees that its database showed
pub record StandsOn {V : Type 0} (x : Standing V) (HoldsIt : V → Type 0) (Looks : V → Type 0) : Type 0 where
  pub live : x.live
  pub lawful : x.lawful
  pub holds : HoldsIt x.value
  pub looks : Looks x.value

pub outbox_stands : (s : State) (trees : Trees) (x : Standing OutboxValue) (v : OutboxValue) → IsOpenedOutbox s x → x.clean → ShowsJust s trees → HoldsOutbox trees v → StandsOn x (HoldsOutbox trees) (OutboxesLook v)
outbox_stands s trees x v opened clean shows (inl free) =
    let live = opened.alive clean in
    let is = opened.made live (none_there outbox_parts s trees shows free.0) in
    record { live = live; lawful = is.0; holds = inl (free.0, is.1); looks = outbox_empty v x.value free.1 is.1 }
outbox_stands s trees x v opened clean shows (inr (inl it)) =
    let is = opened.again clean it.0 (fits_there s trees (outbox_layouts.schema_in it.0) (outbox_words.IsLawful it.0) shows it.1) in
    let value = is.2 ∙ ap (outbox_words.value_at it.0) shows.shown in
    record { live = is.0; lawful = is.1; holds = inr (inl (it.0, it.1, value)); looks = outbox_same v x.value (it.2 ∙ sym value) }
outbox_stands s trees x v opened clean shows (inr (inr it)) =
    let is = opened.raised_again clean it.0 (fits_there s trees it.0.schema (IsLawfulFirst it.0) shows it.1) in
    let value = is.2 ∙ ap (value_first it.0) shows.shown in
    record { live = is.0; lawful = is.1; holds = inr (inr (it.0, it.1, value)); looks = outbox_same v x.value (it.2 ∙ sym value) }

module _ (sc : SchemeValue) (owner : ℕ) (s : State) (trees : Trees) (x : Standing LedgerValue) (v : LedgerValue) (opened : IsOpenedLedger sc owner s x) (clean : x.clean) (shows : ShowsJust s trees) where
  abbrev holds_now : HoldsLists sc owner trees x.value → HoldsLedger sc owner trees x.value
  holds_now lists = record { own = opened.own; made = opened.scheme; lists = lists }

  -- a ledger made with the scheme that has the lists of another, whichever devices it knows
  looks_by : IsOfScheme sc v → (make : (ℕ → _) → LedgerValue) → ((k l : ℕ → _) → LedgersLook (make k) (make l)) → v ≡ make v.knows → x.value ≡ make x.value.knows → LedgersLook v x.value
  looks_by with_it make alike one two = ledger_then v (make x.value.knows) x.value (ledger_then v (make v.knows) (make x.value.knows) (ledger_same v (make v.knows) one) (alike v.knows x.value.knows)) (ledger_same (make x.value.knows) x.value (sym two))

  pub ledger_stands : HoldsLedger sc owner trees v → StandsOn x (HoldsLedger sc owner trees) (LedgersLook v)
  ledger_stands it = by it.lists
    where
      by : HoldsLists sc owner trees v → StandsOn x (HoldsLedger sc owner trees) (LedgersLook v)
      by (inl free) =
          let live = opened.alive clean in
          let is = opened.made live (none_there ledger_parts s trees shows free.0) in
          record { live = live; lawful = is.0; holds = holds_now (inl (free.0, is.1)); looks = ledger_empty v x.value (opened.scheme.start ∙ sym it.made.start) free.1 is.1 }
      by (inr (inl at)) =
          let is = opened.again clean at.0 (fits_there s trees (ledger_layouts.schema_in at.0) (ledger_words.IsLawful at.0 owner sc.start) shows at.1) in
          let value = is.2 ∙ ap (ledger_words.value_at at.0 owner sc.start x.value.knows) shows.shown in
          record {
            live = is.0;
            lawful = is.1;
            holds = holds_now (inr (inl (at.0, at.1, value)));
            looks = looks_by it.made (λ known. ledger_words.value_at at.0 owner sc.start known trees) (λ k l. record { start = refl; taken = λ d. refl; stated = λ d. refl; closed = λ d. refl; retired = λ d. refl; from = λ d. refl }) at.2 value;
          }
      by (inr (inr at)) =
          let site = at.2.0 in
          let is = opened.raised_again clean at.0 at.1 site (fits_there s trees site.schema (IsLawfulOlder at.0 site owner sc.start) shows at.2.1) in
          let value = is.2 ∙ ap (value_older at.0 site owner sc.start x.value.knows) shows.shown in
          record {
            live = is.0;
            lawful = is.1;
            holds = holds_now (inr (inr (at.0, at.1, (site, at.2.1, value))));
            looks = looks_by it.made (λ known. value_older at.0 site owner sc.start known trees) (λ k l. record { start = refl; taken = λ d. refl; stated = λ d. refl; closed = λ d. refl; retired = λ d. refl; from = λ d. refl }) at.2.2 value;
          }

-- PLACES
-- the element of which an identifier is the first part
pub element_of : (owners : List (ℕ × ℕ)) (place owner : ℕ) → id_at owners place ≡ Some owner → (e : ℕ × ℕ) × (slice_get owners place ≡ Some e)
element_of owners place owner at = by (slice_get owners place) refl
  where
    by : (o : Option (ℕ × ℕ)) → slice_get owners place ≡ o → (e : ℕ × ℕ) × (slice_get owners place ≡ Some e)
    by None e = let both : ◌≡◌ {A = Option ℕ} None (Some owner) = sym (ap (option_map (λ (e : ℕ × ℕ). e.0)) e) ∙ at in absurd (cc)
    by (Some it) e = (it, e)

-- the place of a registered owner
pub place_of_known : (sc : SchemeValue) → IsScheme sc → (owner : ℕ) → knows_owner sc owner ≡ true → (place : ℕ) × (id_at sc.owners place ≡ Some owner)
place_of_known sc valid owner known = by (position_of_owner sc owner) refl
  where
    by : (o : Option ℕ) → position_of_owner sc owner ≡ o → (place : ℕ) × (id_at sc.owners place ≡ Some owner)
    by None e = let both : false ≡ true = sym (ap is_some e) ∙ known in absurd (cc)
    by (Some place) e = (place, ((positions sc valid).owners owner place).0 e)

-- A STORE THAT GOES BACK TO ITS DATABASE
module _ {S : Type 0} (g : Ghosts S) where
  pub clean_was : (was now : Held S) (Live : Type 0) → IsBack g Live was now → HasCleanDisk (state g now) → HasCleanDisk (state g was)
  clean_was was now Live back clean = let less = back.crash.clean in omega (arith, less, clean)

  pub left_was : (was now : Held S) (Live : Type 0) → IsBack g Live was now → HasCleanDisk (state g now) → (left : Trees) → (state g now).may_leave left → (state g was).may_leave left
  left_was was now Live back clean left leaves = elim (back.crash.crash clean left leaves) [
    | inl it ↦ it
    | inr none ↦ absurd none
  ]

  pub ledger_left : (sc : SchemeValue) (owner : ℕ) (x : SqlLedger S g) (left : Trees) → x.owner ≡ owner → IsOfScheme sc (ledger_words.stands g x).value → (ledger_words.stands g x).lasting → (ledger_words.connected g x).may_leave left → HoldsLedger sc owner left (ledger_words.value_at x.layout x.owner x.start (knows x.devices) left)
  ledger_left sc owner x left own made lasting leaves = record {
    own = own;
    made = record { start = made.start; knows = made.knows };
    lists = inr (inl (
      x.layout,
      subst (λ (z : ℕ × ℕ). IsLeft (ledger_layouts.schema_in x.layout) (ledger_words.IsLawful x.layout z.0 z.1) left) (λ i. (own i, made.start i)) (lasting.each left leaves),
      λ i. ledger_words.value_at x.layout (own i) (made.start i) (knows x.devices) left,
    ));
  }

module _ {S : Type 0} (g : Ghosts S) (law : IsLawfulStore g) where
  -- a stop leaves what a live and lawful one shows
  pub outbox_left : (x : SqlOutbox S g) (left : Trees) → (outbox_words.stands g x).live → (outbox_words.stands g x).lawful → (outbox_words.connected g x).may_leave left → HoldsOutbox left (outbox_words.stands g x).value
  outbox_left x left live lawful leaves =
      let sound = outbox_sound g law x in
      inr (inl (x.layout, (sound.lasting live lawful).each left leaves, sym (sound.settled live lawful (outbox_words.value_at x.layout left) (left, leaves, refl))))

  pub outbox_back_stays : (s : State) (x : SqlOutbox S g) (now : Held S) → IsOpenedOutbox s (outbox_words.stands g x) → IsBack g (outbox_words.stands g x).live x.conn now → StaysOutbox s (state g now)
  outbox_back_stays s x now opened back clean trees shows v holds left leaves =
      let stands = outbox_stands s trees (outbox_words.stands g x) v opened (clean_was g x.conn now _ back clean) shows holds in
      ((outbox_words.stands g x).value, outbox_left x left stands.live stands.lawful (left_was g x.conn now _ back clean left leaves), stands.looks)

  pub ledger_back_stays : (sc : SchemeValue) (owner : ℕ) (s : State) (x : SqlLedger S g) (now : Held S) → IsOpenedLedger sc owner s (ledger_words.stands g x) → IsBack g (ledger_words.stands g x).live x.conn now → StaysLedger sc owner s (state g now)
  ledger_back_stays sc owner s x now opened back clean trees shows v holds left leaves =
      let stands = ledger_stands sc owner s trees (ledger_words.stands g x) v opened (clean_was g x.conn now _ back clean) shows holds in
      let sound = ledger_sound g law x in
      let may = left_was g x.conn now _ back clean left leaves in
      let w = ledger_words.value_at x.layout x.owner x.start (knows x.devices) left in
      let same : w ≡ (ledger_words.stands g x).value = sound.settled stands.live stands.lawful w (left, may, refl) in
      (w, ledger_left g sc owner x left opened.own opened.scheme (sound.lasting stands.live stands.lawful) may, subst (LedgersLook v) (sym same) stands.looks)

  -- THE HUB
  module _ (sc : SchemeValue) (valid : IsScheme sc) (databases : Databases S) (hub : Hub (SqlOutbox S g) (SqlLedger S g)) (same : hub.scheme ≡ sc) (count : length databases.ledgers.items ≡ length sc.owners)
      (outbox_opened : IsOpenedOutbox (state g databases.outbox) (outbox_words.stands g hub.outbox)) (ledgers_opened : AreOpened (state g) (ledger_words.stands g) sc databases.ledgers.items hub.ledgers.items) (clean : AreClean (outbox_words.stands g) (ledger_words.stands g) hub)
      (outbox : Trees) (ledgers : ℕ → Trees) (shows : Show g databases outbox ledgers) (h : StoresValue) (holds : HoldStores sc outbox ledgers h) where
    outbox_on : StandsOn (outbox_words.stands g hub.outbox) (HoldsOutbox outbox) (OutboxesLook h.outbox)
    outbox_on = outbox_stands (state g databases.outbox) outbox (outbox_words.stands g hub.outbox) h.outbox outbox_opened clean.outbox_is shows.outbox_shows holds.outbox_holds

    -- the ledger at a place, its owner, and how it stands
    pub record PlaceStands (place : ℕ) (x : SqlLedger S g) : Type 0 where
      pub owner : ℕ
      pub at : id_at sc.owners place ≡ Some owner
      pub own : (ledger_words.stands g x).value.owner ≡ owner
      pub made : IsOfScheme sc (ledger_words.stands g x).value
      pub on : StandsOn (ledger_words.stands g x) (HoldsLedger sc owner (ledgers place)) (LedgersLook (h.ledgers owner))

    ledger_on : (place : ℕ) (x : SqlLedger S g) → slice_get hub.ledgers.items place ≡ Some x → PlaceStands place x
    ledger_on place x at =
        let lt = has_place hub.ledgers.items place x at in
        let all = ledgers_opened.count in
        let owner = owner_at sc.owners place (omega (arith, lt, all)) in
        let d = element_at databases.ledgers.items place (omega (arith, lt, all, count)) in
        let opened = ledgers_opened.each place x owner.0 d.0 at owner.1 d.1 in
        record {
          owner = owner.0;
          at = owner.1;
          own = opened.own;
          made = opened.scheme;
          on = ledger_stands sc owner.0 (state g d.0) (ledgers place) (ledger_words.stands g x) (h.ledgers owner.0) opened (clean.ledgers_are place x at) (shows.ledgers_show place d.0 d.1) (holds.ledgers_hold place owner.0 owner.1);
        }

    live_now : AreLive (outbox_words.stands g) (ledger_words.stands g) hub
    live_now = record { outbox_is = outbox_on.live; ledgers_are = λ place x at. (ledger_on place x at).on.live }

    -- the owner of a ledger is that of its place
    placed : (owner : ℕ) (x : SqlLedger S g) (of : IsLedgerOf hub owner x) → id_at sc.owners of.0 ≡ Some owner
    placed owner x of = ((positions sc valid).owners owner of.0).0 (ap (λ s. position_of_owner s owner) (sym same) ∙ of.1)

    one_owner : (place : ℕ) (x : SqlLedger S g) (on : PlaceStands place x) (owner : ℕ) → id_at sc.owners place ≡ Some owner → on.owner ≡ owner
    one_owner place x on owner at = let both : Some on.owner ≡ Some owner = sym on.at ∙ at in cc

    sound_now : AreSound (outbox_words.stands g) (ledger_words.stands g) hub
    sound_now = record {
      lawful = record { outbox_is = λ live. outbox_on.lawful; ledgers_are = λ place x at live. (ledger_on place x at).on.lawful };
      own = λ owner x of live.
          let on = ledger_on of.0 x of.2 in
          (on.own ∙ one_owner of.0 x on owner (placed owner x of), subst (λ s. IsOfScheme s (ledger_words.stands g x).value) (sym same) on.made);
    }

    module _ (k : StoresValue) (may : MayStandAs (outbox_words.stands g) (ledger_words.stands g) hub k) where
      outbox_is : k.outbox ≡ (outbox_words.stands g hub.outbox).value
      outbox_is = holds_value (outbox_words.stands g hub.outbox) (outbox_sound g law hub.outbox) outbox_on.live outbox_on.lawful k.outbox may.outbox_may

      ledger_now : (place owner : ℕ) → id_at sc.owners place ≡ Some owner → HoldsLedger sc owner (ledgers place) (k.ledgers owner) × LedgersLook (h.ledgers owner) (k.ledgers owner)
      ledger_now place owner at =
          let lt = has_place sc.owners place _ (element_of sc.owners place owner at).1 in
          let all = ledgers_opened.count in
          let x = element_at hub.ledgers.items place (omega (arith, lt, all)) in
          let on = ledger_on place x.0 x.1 in
          let mine = one_owner place x.0 on owner at in
          let of : IsLedgerOf hub owner x.0 = (place, ap (λ s. position_of_owner s owner) same ∙ ((positions sc valid).owners owner place).1 at, x.1) in
          let is : k.ledgers owner ≡ (ledger_words.stands g x.0).value = holds_value (ledger_words.stands g x.0) (ledger_sound g law x.0) on.on.live on.on.lawful (k.ledgers owner) (may.ledgers_may owner x.0 of) in (
            subst (HoldsLedger sc owner (ledgers place)) (sym is) (subst (λ o. HoldsLedger sc o (ledgers place) (ledger_words.stands g x.0).value) mine on.on.holds),
            subst (LedgersLook (h.ledgers owner)) (sym is) (subst (λ o. LedgersLook (h.ledgers o) (ledger_words.stands g x.0).value) mine on.on.looks),
          )

      holds_now_all : HoldStores sc outbox ledgers k
      holds_now_all = record { outbox_holds = subst (HoldsOutbox outbox) (sym outbox_is) outbox_on.holds; ledgers_hold = λ place owner at. (ledger_now place owner at).0 }

      looks_now : StoresLook sc h k
      looks_now = record {
        outbox_looks = subst (OutboxesLook h.outbox) (sym outbox_is) outbox_on.looks;
        ledgers_look = λ owner known. let at = place_of_known sc valid owner known in (ledger_now at.0 owner at.1).1;
      }

    lasting_now : AreLasting (outbox_words.stands g) (ledger_words.stands g) hub
    lasting_now = record {
      outbox_is = (outbox_sound g law hub.outbox).lasting outbox_on.live outbox_on.lawful;
      ledgers_are = λ place x at. let on = (ledger_on place x at).on in (ledger_sound g law x).lasting on.live on.lawful;
    }

    pub hub_holds : AreLive (outbox_words.stands g) (ledger_words.stands g) hub × AreSound (outbox_words.stands g) (ledger_words.stands g) hub × AreLasting (outbox_words.stands g) (ledger_words.stands g) hub
        × ((k : StoresValue) → MayStandAs (outbox_words.stands g) (ledger_words.stands g) hub k → HoldStores sc outbox ledgers k × StoresLook sc h k)
    hub_holds = (live_now, sound_now, lasting_now, λ k may. (holds_now_all k may, looks_now k may))
