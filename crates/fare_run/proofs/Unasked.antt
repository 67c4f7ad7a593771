-- What is refused before a store is asked.
use Rattle.std.proofs.Common.{◌≡◌, ◌≢◌, ◌<◌, ℕ, Bool, None, Some, true, false, refl, sym, ◌∙◌, subst}
use Rattle.std.specs.Prelude.{Option, Result, Ok, Err, IsErrAnd, if◌then◌else◌, is_none, nat_lt}
use Rattle.std.proofs.lemmas.Bool.{ltb-true}
use Rattle.fare_scheme.specs.Values.{SchemeValue}
use Rattle.fare_scheme.specs.Words.{position_of_device, position_of_owner}
use Rattle.fare_command.specs.declared.words.Question.{Question}
use Rattle.fare_command.specs.declared.words.Question.TheVariants.{Bill, Retire}
use Rattle.fare_desk.specs.declared.fault.DeskFault.{DeskFault}
use Rattle.fare_desk.specs.declared.fault.DeskFault.TheVariants as desk
use Rattle.fare_sessions.specs.declared.hub.Hub.{Hub}
use Rattle.fare_run.specs.Asking.{IsRefusedAs, NamesFirst, refused_unasked}
use Rattle.fare_run.specs.declared.ask_failure.AskFailure.{AskFailure}

-- a place is no place
placed : (o : Option ℕ) (at : ℕ) → o ≡ Some at → o ≢ None
placed o at is none = let both : ◌≡◌ {A = Option ℕ} None (Some at) = sym none ∙ is in absurd (cc)

-- the first of two names is that of an owner that is not registered
module _ (at : Option ℕ) (rest : Option DeskFault) (X : DeskFault → Type 0) (why : DeskFault) (unknown : at ≡ None → X desk.UnknownOwner) (later : at ≢ None → rest ≡ Some why → X why) where
  first : (o : Option ℕ) → at ≡ o → (if is_none o then Some desk.UnknownOwner else rest) ≡ Some why → X why
  first None none is = let same : desk.UnknownOwner ≡ why = cc in subst X same (unknown none)
  first (Some place) there is = later (placed at place there) is

  pub owner_first : (if is_none at then Some desk.UnknownOwner else rest) ≡ Some why → X why
  owner_first = first at refl

module _ (sc : SchemeValue) (owner : ℕ) where
  pub unasked_bill : (day : ℕ) (X : DeskFault → Type 0) (why : DeskFault) → refused_unasked sc (Bill owner day) ≡ Some why → (position_of_owner sc owner ≡ None → X desk.UnknownOwner) → (position_of_owner sc owner ≢ None → day < sc.start → X desk.BeforeStart) → X why
  unasked_bill day X why is unknown early = owner_first (position_of_owner sc owner) (if nat_lt day sc.start then Some desk.BeforeStart else None) X why unknown (λ known. by known (nat_lt day sc.start) refl) is
    where
      by : position_of_owner sc owner ≢ None → (b : Bool) → nat_lt day sc.start ≡ b → (if b then Some desk.BeforeStart else None) ≡ Some why → X why
      by known true before named = let same : desk.BeforeStart ≡ why = cc in subst X same (early known (ltb-true day sc.start before))
      by known false late named = absurd (cc)

  pub unasked_retire : (device : ℕ) (X : DeskFault → Type 0) (why : DeskFault) → refused_unasked sc (Retire owner device) ≡ Some why → (position_of_owner sc owner ≡ None → X desk.UnknownOwner) → (position_of_owner sc owner ≢ None → position_of_device sc device ≡ None → X desk.UnknownDevice) → X why
  unasked_retire device X why is unknown lacks = owner_first (position_of_owner sc owner) (if is_none (position_of_device sc device) then Some desk.UnknownDevice else None) X why unknown (λ known. by known (position_of_device sc device) refl) is
    where
      by : position_of_owner sc owner ≢ None → (o : Option ℕ) → position_of_device sc device ≡ o → (if is_none o then Some desk.UnknownDevice else None) ≡ Some why → X why
      by known None none named = let same : desk.UnknownDevice ≡ why = cc in subst X same (lacks known none)
      by known (Some place) there named = absurd (cc)

-- OVER DATABASES
module _ {O L : Type 0} (old new : Hub O L) (sc : SchemeValue) (question : Question) (same : old.scheme ≡ sc) (r : Result (Unit {0}) DeskFault) (unasked : (why : DeskFault) → refused_unasked old.scheme question ≡ Some why → (new ≡ old) × (r ≡ Err why)) where
  over : (why : DeskFault) → refused_unasked sc question ≡ Some why → r ≡ Err why
  over why is = (unasked why (subst (λ (x : SchemeValue). refused_unasked x question ≡ Some why) (sym same) is)).1

  pub not_answered : (u : Unit {0}) → r ≡ Ok u → (why : DeskFault) → refused_unasked sc question ≡ Some why → ⊥
  not_answered u was why is = let both : ◌≡◌ {A = Result (Unit {0}) DeskFault} (Ok u) (Err why) = sym was ∙ over why is in absurd (cc)

  pub named_first : (fault : DeskFault) → r ≡ Err fault → NamesFirst sc question fault
  named_first fault was why is = let both : ◌≡◌ {A = Result (Unit {0}) DeskFault} (Err fault) (Err why) = sym was ∙ over why is in cc

-- so it has no such name where it was answered, and where it was not it is that
none_of : (o : Option DeskFault) → ((why : DeskFault) → o ≡ Some why → ⊥) → o ≡ None
none_of None not = refl
none_of (Some why) not = absurd (not why refl)

module _ (sc : SchemeValue) (question : Question) where
  pub asked_ok : (u : Unit {0}) → ((why : DeskFault) → refused_unasked sc question ≡ Some why → IsErrAnd {T = Unit {0}} {E = AskFailure} (Ok u) (IsRefusedAs why)) → refused_unasked sc question ≡ None
  asked_ok u unasked = none_of (refused_unasked sc question) (λ why is. absurd (unasked why is))
