-- The stores of a hub, opened again over what a stop left of them.
use Rattle.std.proofs.Common.{◌≡◌, ◌<◌, ℕ, List, Some, length, refl, sym, ap, ◌∙◌, subst, arith, inr}
use Rattle.std.specs.Prelude.{option_map}
use Rattle.sqlite_trees.specs.declared.store.Store.{Ghosts}
use Rattle.sqlite.specs.State.{State}
use Rattle.fare_scheme.specs.Values.{SchemeValue}
use Rattle.fare_scheme.specs.Facts.{IsScheme}
use Rattle.fare_scheme.specs.Words.{id_at, position_of_owner}
use Rattle.fare_scheme.proofs.Known.{positions}
use Rattle.fare_store.specs.Standing.{Reopens}
use Rattle.fare_store.specs.LedgerWords.{LedgerValue, IsOfScheme}
use Rattle.fare_tables.specs.Tabled.{IsLeft}
use Rattle.fare_outbox.specs.declared.tables.SqlOutbox.{SqlOutbox}
use Rattle.fare_outbox.specs.Words as outbox_words
use Rattle.fare_ledger.specs.declared.tables.SqlLedger.{SqlLedger}
use Rattle.fare_ledger.specs.Known.{knows}
use Rattle.fare_ledger.specs.Layouts.{schema_in}
use Rattle.fare_ledger.specs.Words as ledger_words
use Rattle.fare_history.proofs.Entries.{element_at}
use Rattle.fare_sessions.specs.declared.hub.Hub.{Hub}
use Rattle.fare_sessions.specs.Stores.{AreClean}
use Rattle.fare_sessions.specs.Reopening.{HasReopened}
use Rattle.fare_sessions.proofs.Follow.{has_place}
use Rattle.fare_databases.specs.Opened.{IsOpenedOutbox, IsOpenedLedger, AreOpened}
use Rattle.fare_databases.specs.Reopened.{AreLeftOf}

module _ {S : Type 0} (g : Ghosts S) where
  outbox_again : (was x : SqlOutbox S g) (s : State) → IsOpenedOutbox s (outbox_words.stands g x) → (outbox_words.stands g x).clean → (outbox_words.stands g was).lasting → (outbox_words.connected g was).may_leave s.now.trees → Reopens (outbox_words.stands g was) (outbox_words.stands g x)
  outbox_again was x s opened clean lasting left =
      let it = opened.again clean was.layout (lasting.each s.now.trees left) in
      record { live = it.0; lawful = it.1; value = (s.now.trees, left, sym it.2) }

  -- two ledgers of one scheme know the same devices
  same_known : (sc : SchemeValue) (v w : LedgerValue) → IsOfScheme sc v → IsOfScheme sc w → v.knows ≡ w.knows
  same_known sc v w one two i device = (one.knows device ∙ sym (two.knows device)) i

  ledger_again : (sc : SchemeValue) (owner : ℕ) (was x : SqlLedger S g) (s : State) → IsOpenedLedger sc owner s (ledger_words.stands g x) → (ledger_words.stands g x).clean → (ledger_words.stands g was).lasting → (ledger_words.connected g was).may_leave s.now.trees
      → ((v : LedgerValue) → (ledger_words.stands g was).may_leave v → (v.owner ≡ owner) × IsOfScheme sc v) → Reopens (ledger_words.stands g was) (ledger_words.stands g x)
  ledger_again sc owner was x s opened clean lasting left own =
      let v = ledger_words.value_at was.layout was.owner was.start (knows was.devices) s.now.trees in
      let is = own v (s.now.trees, left, refl) in
      let mine : was.owner ≡ owner = is.0 in
      let day : was.start ≡ sc.start = is.1.start in
      let known : knows was.devices ≡ (ledger_words.stands g x).value.knows = same_known sc v (ledger_words.stands g x).value is.1 opened.scheme in
      let fits = subst (λ (k : ℕ × ℕ). IsLeft (schema_in was.layout) (ledger_words.IsLawful was.layout k.0 k.1) s.now.trees) (λ i. (mine i, day i)) (lasting.each s.now.trees left) in
      let it = opened.again clean was.layout fits in
      record { live = it.0; lawful = it.1; value = (s.now.trees, left, (λ i. ledger_words.value_at was.layout (mine i) (day i) (known i) s.now.trees) ∙ sym it.2) }

-- the owner at a place of the scheme
pub owner_at : (owners : List (ℕ × ℕ)) (place : ℕ) → place < length owners → (owner : ℕ) × (id_at owners place ≡ Some owner)
owner_at owners place lt = let it = element_at owners place lt in (it.0.0, ap (option_map (λ (e : ℕ × ℕ). e.0)) it.1)

pub hub_again : {S D : Type 0} (g : Ghosts S) (state : D → State) (sc : SchemeValue) (was hub : Hub (SqlOutbox S g) (SqlLedger S g)) (outbox : State) (ledgers : List D) → IsScheme sc → hub.scheme ≡ sc → was.scheme ≡ sc → length ledgers ≡ length sc.owners
    → IsOpenedOutbox outbox (outbox_words.stands g hub.outbox) → AreOpened state (ledger_words.stands g) sc ledgers hub.ledgers.items → AreClean (outbox_words.stands g) (ledger_words.stands g) hub → AreLeftOf g state was outbox ledgers
    → HasReopened (outbox_words.stands g) (ledger_words.stands g) was hub
hub_again g state sc was hub outbox ledgers valid named same many opened each clean left = record {
  scheme = named ∙ sym same;
  outbox_again = outbox_again g was.outbox hub.outbox outbox opened clean.outbox_is left.lasting.outbox_is left.outbox_left;
  count = each.count ∙ sym (left.has_ledgers ∙ ap (λ (s : SchemeValue). length s.owners) same);
  ledgers_again = λ place x y at_x at_y.
      let lt = has_place hub.ledgers.items place y at_y in
      let all = each.count in
      let owner = owner_at sc.owners place (omega (arith, lt, all)) in
      let d = element_at ledgers place (omega (arith, lt, all, many)) in
      let at : position_of_owner was.scheme owner.0 ≡ Some place = ap (λ s. position_of_owner s owner.0) same ∙ ((positions sc valid).owners owner.0 place).1 owner.1 in
      ledger_again g sc owner.0 x y (state d.0) (each.each place y owner.0 d.0 at_y owner.1 d.1) (clean.ledgers_are place y at_y) (left.lasting.ledgers_are place x at_x) (left.ledgers_left place x d.0 at_x d.1)
      (λ v leaves. let is = left.owned.own owner.0 x (place, at, at_x) v (inr leaves) in (is.0, subst (λ s. IsOfScheme s v) same is.1));
}
