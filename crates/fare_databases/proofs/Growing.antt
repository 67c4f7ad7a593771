-- Databases that hold stores of a scheme hold stores of one that adds to it.
use Rattle.std.proofs.Common.{◌≡◌, ℕ, List, [], Some, None, true, false, refl, sym, ap, ◌∙◌, subst, inl, inr}
use Rattle.std.specs.Prelude.{Option, is_some, slice_get, if◌then◌else◌}
use Rattle.std.specs.Map.{keys_of}
use Rattle.std.proofs.lemmas.Option.{slice_get-map}
use Rattle.sqlite_trees.specs.Tree.{Trees}
use Rattle.fare_record.specs.Values.{RecordValue}
use Rattle.fare_scheme.specs.Facts.{IsScheme}
use Rattle.fare_scheme.specs.Values.{SchemeValue}
use Rattle.fare_scheme.specs.Words.{id_at, position_of_device, position_of_owner}
use Rattle.fare_scheme.proofs.Known.{positions}
use Rattle.fare_growth.specs.Growth.{AddsTo}
use Rattle.fare_growth.specs.LookUps.{KeepsLookUps}
use Rattle.fare_growth.proofs.Keeping.{keeps_look_ups}
use Rattle.fare_store.specs.LedgerWords.{LedgerValue, IsEmptyLedger}
use Rattle.fare_tables.specs.Tabled.{IsLeft}
use Rattle.fare_ledger.specs.Older.{IsLawfulOlder, value_older}
use Rattle.fare_ledger.specs.Layouts as ledger_layouts
use Rattle.fare_ledger.specs.Words as ledger_words
use Rattle.fare_world.specs.Knowing.{knows_owner}
use Rattle.fare_world.proofs.Places.{slice_get-front}
use Rattle.fare_history.specs.Stores.{StoresValue}
use Rattle.fare_agreement.specs.Agreeing.{Agrees}
use Rattle.fare_agreement.proofs.Growing.{added_agrees}
use Rattle.fare_databases.specs.Holding.{HoldsLists, HoldsLedger, HoldStores, HoldAgreed, AreVacantFor, LedgersLook, StoresLook}
use Rattle.fare_databases.proofs.Looks.{outbox_self, stores_agree}

id_at_keys : {X : Type 0} (entries : List (ℕ × X)) (k : ℕ) → slice_get (keys_of entries) k ≡ id_at entries k
id_at_keys {X} entries k = slice_get-map (λ (e : ℕ × X). e.0) entries k

one_id : (a b : ℕ) → Some a ≡ Some b → a ≡ b
one_id a b e = cc

module _ (kept later : SchemeValue) (valid : IsScheme kept) (valid_later : IsScheme later) (adds : AddsTo kept later) where
  keeps : KeepsLookUps kept later
  keeps = keeps_look_ups kept later adds

  -- the owner at a place stays there
  owner_stays : (place owner : ℕ) → id_at kept.owners place ≡ Some owner → id_at later.owners place ≡ Some owner
  owner_stays place owner at =
      sym (id_at_keys later.owners place) ∙ ap (λ l. slice_get l place) adds.owners.1 ∙ slice_get-front (keys_of kept.owners) adds.owners.0 place owner (id_at_keys kept.owners place ∙ at)

  -- one whose place there was none at was not registered
  is_new : (place owner : ℕ) → id_at later.owners place ≡ Some owner → id_at kept.owners place ≡ None → knows_owner kept owner ≡ false
  is_new place owner at none = by (position_of_owner kept owner) refl
    where
      by : (o : Option ℕ) → position_of_owner kept owner ≡ o → is_some o ≡ false
      by None e = refl
      by (Some other) e =
          let here : Some other ≡ Some place = sym (keeps.owner_position owner other e) ∙ ((positions later valid_later).owners owner place).1 at in
          let stood : id_at kept.owners place ≡ Some owner = subst (λ k. id_at kept.owners k ≡ Some owner) (one_id other place here) (((positions kept valid).owners owner other).0 e) in
          let both : ◌≡◌ {A = Option ℕ} None (Some owner) = sym none ∙ stood in
          absurd (cc)

  -- LEDGERS
  -- the same ledger, of the later scheme
  over : LedgerValue → LedgerValue
  over l = record l { knows = λ d. is_some (position_of_device later d) }

  -- an empty one
  fresh : ℕ → LedgerValue
  fresh owner = record { owner = owner; start = later.start; knows = λ d. is_some (position_of_device later d); taken = λ d. []; stated = λ d day. None; closed = λ d. 0; retired = λ d. false; from = λ d. 0 }

  fresh_is_empty : (owner : ℕ) → IsEmptyLedger (fresh owner)
  unfolding fresh
  fresh_is_empty owner = record { taken = λ d. refl; stated = λ d day. refl; closed = λ d. refl; retired = λ d. refl; from = λ d. refl }

  over_looks : (l : LedgerValue) → LedgersLook l (over l)
  unfolding over
  over_looks l = record { start = refl; taken = λ d. refl; stated = λ d. refl; closed = λ d. refl; retired = λ d. refl; from = λ d. refl }

  lists_over : (owner : ℕ) (trees : Trees) (l : LedgerValue) → HoldsLists kept owner trees l → HoldsLists later owner trees (over l)
  unfolding over
  lists_over owner trees l (inl it) = inl (it.0, record { taken = it.1.taken; stated = it.1.stated; closed = it.1.closed; retired = it.1.retired; from = it.1.from })
  lists_over owner trees l (inr (inl it)) = inr (inl (
    it.0,
    subst (λ start. IsLeft (ledger_layouts.schema_in it.0) (ledger_words.IsLawful it.0 owner start) trees) adds.start it.1,
    ap over it.2 ∙ ap (λ start. ledger_words.value_at it.0 owner start (λ d. is_some (position_of_device later d)) trees) adds.start,
  ))
  lists_over owner trees l (inr (inr it)) = inr (inr (
    it.0,
    it.1,
    (
      it.2.0,
      subst (λ start. IsLeft it.2.0.schema (IsLawfulOlder it.0 it.2.0 owner start) trees) adds.start it.2.1,
      ap over it.2.2 ∙ ap (λ start. value_older it.0 it.2.0 owner start (λ d. is_some (position_of_device later d)) trees) adds.start,
    ),
  ))

  ledger_over : (owner : ℕ) (trees : Trees) (l : LedgerValue) → HoldsLedger kept owner trees l → HoldsLedger later owner trees (over l)
  unfolding over
  ledger_over owner trees l it = record { own = it.own; made = record { start = it.made.start ∙ adds.start; knows = λ d. refl }; lists = lists_over owner trees l it.lists }

  -- STORES
  module _ (h : StoresValue) where
    ledgers : ℕ → LedgerValue
    ledgers owner = if knows_owner kept owner then over (h.ledgers owner) else fresh owner

    was : (owner : ℕ) → knows_owner kept owner ≡ true → ledgers owner ≡ over (h.ledgers owner)
    unfolding ledgers
    was owner known = ap (λ b. if b then over (h.ledgers owner) else fresh owner) known

    new : (owner : ℕ) → knows_owner kept owner ≡ false → ledgers owner ≡ fresh owner
    unfolding ledgers
    new owner unknown = ap (λ b. if b then over (h.ledgers owner) else fresh owner) unknown

    stores : StoresValue
    stores = record { outbox = h.outbox; ledgers = ledgers }

    look : StoresLook kept h stores
    unfolding stores
    look = record { outbox_looks = outbox_self h.outbox; ledgers_look = λ owner known. subst (LedgersLook (h.ledgers owner)) (sym (was owner known)) (over_looks (h.ledgers owner)) }

    holds : (outbox : Trees) (trees : ℕ → Trees) → AreVacantFor kept later trees → HoldStores kept outbox trees h → HoldStores later outbox trees stores
    unfolding stores fresh
    holds outbox trees vacant it = record { outbox_holds = it.outbox_holds; ledgers_hold = λ place owner at. by place owner at (id_at kept.owners place) refl }
      where
        fresh_holds : (place owner : ℕ) → id_at later.owners place ≡ Some owner → id_at kept.owners place ≡ None → HoldsLedger later owner (trees place) (fresh owner)
        fresh_holds place owner at none = record { own = refl; made = record { start = refl; knows = λ d. refl }; lists = inl (vacant place owner at none, fresh_is_empty owner) }

        by : (place owner : ℕ) → id_at later.owners place ≡ Some owner → (o : Option ℕ) → id_at kept.owners place ≡ o → HoldsLedger later owner (trees place) (ledgers owner)
        by place owner at None none = subst (HoldsLedger later owner (trees place)) (sym (new owner (is_new place owner at none))) (fresh_holds place owner at none)
        by place owner at (Some other) e =
            let same : other ≡ owner = one_id other owner (sym (owner_stays place other e) ∙ at) in
            let stood : id_at kept.owners place ≡ Some owner = e ∙ ap Some same in
            let known : knows_owner kept owner ≡ true = ap is_some (((positions kept valid).owners owner place).1 stood) in
            subst (HoldsLedger later owner (trees place)) (sym (was owner known)) (ledger_over owner (trees place) (h.ledgers owner) (it.ledgers_hold place owner stood))

    agree : (lists : ℕ → List RecordValue) → Agrees kept lists h → Agrees later lists stores
    unfolding stores
    agree lists is = added_agrees kept later lists stores valid adds empty (stores_agree kept lists h stores look is)
      where
        empty : (owner : ℕ) → knows_owner kept owner ≡ false → knows_owner later owner ≡ true → IsEmptyLedger (stores.ledgers owner)
        empty owner unknown known = subst IsEmptyLedger (sym (new owner unknown)) (fresh_is_empty owner)

pub added_hold : (kept later : SchemeValue) (lists : ℕ → List RecordValue) (outbox : Trees) (ledgers : ℕ → Trees) → IsScheme kept → IsScheme later → AddsTo kept later → AreVacantFor kept later ledgers → HoldAgreed kept lists outbox ledgers → HoldAgreed later lists outbox ledgers
added_hold kept later lists outbox ledgers valid valid_later adds vacant held =
    (stores kept later valid valid_later adds held.0, holds kept later valid valid_later adds held.0 outbox ledgers vacant held.1, agree kept later valid valid_later adds held.0 lists held.2)
