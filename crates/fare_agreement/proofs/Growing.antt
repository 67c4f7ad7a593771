-- Stores that agree under a scheme agree under one that adds to it.
use Rattle.std.proofs.Common.{◌≡◌, ℕ, List, [], Some, None, true, false, refl, sym, ap, ◌∙◌, inl, inr}
use Rattle.std.specs.Prelude.{Option, is_some}
use Rattle.std.proofs.lemmas.Bool.{cases_Bool}
use Rattle.fare_record.specs.Values.{RecordValue}
use Rattle.fare_scheme.specs.Facts.{IsScheme}
use Rattle.fare_scheme.specs.Values.{SchemeValue}
use Rattle.fare_scheme.specs.Words.{position_of_owner, station_of}
use Rattle.fare_growth.specs.Growth.{AddsTo}
use Rattle.fare_growth.specs.LookUps.{KeepsLookUps}
use Rattle.fare_growth.proofs.Keeping.{keeps_look_ups}
use Rattle.fare_store.specs.LedgerWords.{IsEmptyLedger}
use Rattle.fare_world.specs.Knowing.{knows_owner}
use Rattle.fare_history.specs.Stores.{StoresValue}
use Rattle.fare_agreement.specs.Agreeing.{lane_agrees, Agrees, IsStranger}
use Rattle.fare_agreement.proofs.Fresh.{empty_lane}
use Rattle.fare_agreement.proofs.Unregistered.{strangers}

-- what the later scheme does not know, the former did not
was_none : {X : Type 0} (former later : Option X) → ((x : X) → former ≡ Some x → later ≡ Some x) → later ≡ None → former ≡ None
was_none None later keeps none = refl
was_none (Some x) later keeps none = absurd (let both : Some x ≡ None = sym (keeps x refl) ∙ none in cc)

was_unknown : {X : Type 0} (former later : Option X) → ((x : X) → former ≡ Some x → later ≡ Some x) → is_some later ≡ false → is_some former ≡ false
was_unknown None later keeps none = refl
was_unknown (Some x) later keeps none = absurd (let both : true ≡ false = sym (ap is_some (keeps x refl)) ∙ none in cc)

module _ (kept later : SchemeValue) (keeps : KeepsLookUps kept later) where
  was_stranger : (owner : ℕ) → IsStranger later owner → IsStranger kept owner
  was_stranger owner is = record {
    unknown = was_unknown (position_of_owner kept owner) (position_of_owner later owner) (keeps.owner_position owner) is.unknown;
    sells_none = λ product of. is.sells_none product (keeps.owner product owner of);
  }

  -- of an owner that was registered, or is new
  by_owner : (P : ℕ → Type 0) → ((owner : ℕ) → knows_owner kept owner ≡ true → P owner) → ((owner : ℕ) → knows_owner kept owner ≡ false → knows_owner later owner ≡ true → P owner) → (owner : ℕ) → knows_owner later owner ≡ true → P owner
  by_owner P was new owner known = elim (cases_Bool (knows_owner kept owner)) [
    | inl there ↦ was owner there
    | inr other ↦ new owner other known
  ]

  pub later_agrees : (lists : ℕ → List RecordValue) (h : StoresValue) → IsScheme kept → ((owner : ℕ) → knows_owner kept owner ≡ false → knows_owner later owner ≡ true → IsEmptyLedger (h.ledgers owner)) → Agrees kept lists h → Agrees later lists h
  later_agrees lists h valid empty is = record {
    lanes = λ o d known. by_owner (λ o. (d : ℕ) → lane_agrees lists h.outbox (h.ledgers o) o d) (λ o was d. is.lanes o d was)
        (λ o other now d. empty_lane lists h.outbox (h.ledgers o) o d (empty o other now) (is.waiting o d (strangers kept valid o other))) o known d;
    stated = is.stated;
    untaken = λ o d known none. by_owner (λ o. (h.ledgers o).taken d ≡ []) (λ o was. is.untaken o d was (was_none (station_of kept d) (station_of later d) (keeps.station d) none))
        (λ o other now. (empty o other now).taken d) o known;
    waiting = λ o d stranger. is.waiting o d (was_stranger o stranger);
  }

pub added_agrees : (kept later : SchemeValue) (lists : ℕ → List RecordValue) (h : StoresValue) → IsScheme kept → AddsTo kept later → ((owner : ℕ) → knows_owner kept owner ≡ false → knows_owner later owner ≡ true → IsEmptyLedger (h.ledgers owner)) → Agrees kept lists h → Agrees later lists h
added_agrees kept later lists h valid adds = later_agrees kept later (keeps_look_ups kept later adds) lists h valid
