-- What one write of the ledger made of an item, by what it answered.
use Rattle.std.proofs.Common.{◌≡◌, Bool, true, false, None, Some, [], ◌∷◌, length, refl, sym, ap, ◌∙◌, inl, inr}
use Rattle.std.specs.Prelude.{Result, Ok, Err}
use Rattle.fare_record.specs.Values.{RecordValue, StatementValue}
use Rattle.fare_record.specs.declared.item.Item.TheVariants.{Tap, Stated}
use Rattle.fare_owner.specs.TapJudged.{tap_judged}
use Rattle.fare_owner.specs.StatementJudged.{statement_judged}
use Rattle.fare_owner.specs.declared.tap.TapFault.{TapFault}
use Rattle.fare_owner.specs.declared.tap.TapFault.TheVariants as tap_fault
use Rattle.fare_owner.specs.declared.statement.StatementFault.{StatementFault}
use Rattle.fare_owner.specs.declared.statement.StatementFault.TheVariants as statement_fault
use Rattle.fare_store.specs.declared.fault.Fault.{Fault}
use Rattle.fare_store.specs.declared.fault.Refused.{Refused}
use Rattle.fare_store.specs.declared.fault.Refused.TheVariants as refused
use Rattle.fare_store.specs.Standing.{Standing, Does, Writes}
use Rattle.fare_store.specs.LedgerWords.{LedgerValue, is_mine, is_closed, take_judged, took, state_judged, with_statement}
use Rattle.fare_history.specs.Serving.{AreUnrefused}
use Rattle.fare_history.proofs.Committed.{given_repeated}
use Rattle.fare_session.specs.declared.fault.SessionFault.{SessionFault}
use Rattle.fare_session.specs.declared.fault.SessionFault.TheVariants as session
use Rattle.fare_session.specs.Stores.{session_fault, stored_fault}
use Rattle.fare_session.specs.Taking.{IsKept}
use Rattle.fare_session.proofs.Takes.{called_say, stored_as, failed_owners, not_refused, new_by_judge, old_by_judge}

-- an answer that is no refusal by name comes to the ledger's own alone
own_by : {R : Type 0} (mine : Bool) (why : R) (answer : Result Unit (Refused R)) → (answer ≡ Err (refused.Because why) → ⊥) → (mine ≡ false → answer ≡ Err (refused.Because why)) → mine ≡ true
own_by true why answer not by = refl
own_by false why answer not by = absurd (not (by refl))

-- A TAP
pub tap_taken : (a b : Standing LedgerValue) (r : RecordValue) → (is_mine a.value r.owner r.device ≡ false → ◌≡◌ {A = Result Unit (Refused TapFault)} (Ok tt) (Err (refused.Because tap_fault.NotMine)))
    → (is_mine a.value r.owner r.device ≡ true → Writes a b (take_judged a.value r) (took r a.value) (Ok tt)) → IsKept a b (Tap r) (Ok true)
tap_taken a b r other call = (
  called_say a b None None (Does a.value b.value (take_judged a.value r) (took r a.value) (Ok tt)) _ (λ v. (take_judged a.value r ≡ Ok tt) × (v ≡ took r a.value)) (λ w. AreUnrefused a.value (Tap r ∷ []) × (w ≡ took r a.value)) refl (λ did. (did.1, refl, did.0)) (λ v done. ((done.0, tt), done.1))
      (call (own_by (is_mine a.value r.owner r.device) tap_fault.NotMine (Ok tt) (λ e. let is : ◌≡◌ {A = Result Unit (Refused TapFault)} (Ok tt) (Err (refused.Because tap_fault.NotMine)) = e in cc) other)),
  tt,
)

pub tap_failed : (a b : Standing LedgerValue) (r : RecordValue) (f : Fault) (s : SessionFault) → s ≡ session_fault f → (is_mine a.value r.owner r.device ≡ false → ◌≡◌ {A = Result Unit (Refused TapFault)} (Err (refused.Failed f)) (Err (refused.Because tap_fault.NotMine)))
    → (is_mine a.value r.owner r.device ≡ true → Writes a b (take_judged a.value r) (took r a.value) (Err (refused.Failed f))) → IsKept a b (Tap r) (Err s)
tap_failed a b r f s is other call = (
  called_say a b (Some f) (stored_fault (Some s)) (Does a.value b.value (take_judged a.value r) (took r a.value) (Err (refused.Failed f))) _ (λ v. (take_judged a.value r ≡ Ok tt) × (v ≡ took r a.value)) (λ w. AreUnrefused a.value (Tap r ∷ []) × (w ≡ took r a.value)) (stored_as f s is)
      (λ did. (did, λ e. absurd (not_refused f s is e))) (λ v done. ((done.0, tt), done.1))
      (call (own_by (is_mine a.value r.owner r.device) tap_fault.NotMine (Err (refused.Failed f)) (λ e. let same : ◌≡◌ {A = Result Unit (Refused TapFault)} (Err (refused.Failed f)) (Err (refused.Because tap_fault.NotMine)) = e in cc) other)),
  failed_owners f s is,
)

-- one of another's was asked nothing of the ledger
pub tap_foreign : (a : Standing LedgerValue) (r : RecordValue) → is_mine a.value r.owner r.device ≡ false → IsKept a a (Tap r) (Err session.Refused)
tap_foreign a r other = (
  record {
    value = λ live lawful. (lawful, (refl, λ e. (tap_fault.NotMine, ap (λ b. tap_judged b (length (a.value.taken r.device)) (is_closed a.value r.device r.tap.day) r.lane (a.value.retired r.device)) other)));
    stop = λ clean lawful v leaves. inl leaves;
    lasts = λ clean lawful lasting. lasting;
    clean = λ h. h;
    live = λ h. h;
    stays = λ e live clean. live;
    cause = refl;
  },
  tt,
)

pub tap_refused : (a b : Standing LedgerValue) (r : RecordValue) (why : TapFault) → (is_mine a.value r.owner r.device ≡ false → IsKept a b (Tap r) (Err session.Refused))
    → (is_mine a.value r.owner r.device ≡ true → Writes a b (take_judged a.value r) (took r a.value) (Err (refused.Because why))) → IsKept a b (Tap r) (Err session.Refused)
tap_refused a b r why other call = by (is_mine a.value r.owner r.device) refl
  where
    by : (mine : Bool) → is_mine a.value r.owner r.device ≡ mine → IsKept a b (Tap r) (Err session.Refused)
    by false e = other e
    by true e = (
      called_say a b None None (Does a.value b.value (take_judged a.value r) (took r a.value) (Err (refused.Because why))) _ (λ v. (take_judged a.value r ≡ Ok tt) × (v ≡ took r a.value)) (λ w. AreUnrefused a.value (Tap r ∷ []) × (w ≡ took r a.value)) refl (λ did. (did.1, λ z. (why, did.0))) (λ v done. ((done.0, tt), done.1)) (call e),
      tt,
    )

-- A STATEMENT
pub statement_taken : (a b : Standing LedgerValue) (s : StatementValue) → (is_mine a.value s.owner s.device ≡ false → ◌≡◌ {A = Result Unit (Refused StatementFault)} (Ok tt) (Err (refused.Because statement_fault.NotMine)))
    → (is_mine a.value s.owner s.device ≡ true → Writes a b (state_judged a.value s) (with_statement s a.value) (Ok tt)) → IsKept a b (Stated s) (Ok true)
statement_taken a b s other call = (
  called_say a b None None (Does a.value b.value (state_judged a.value s) (with_statement s a.value) (Ok tt)) _ (λ v. (state_judged a.value s ≡ Ok tt) × (v ≡ with_statement s a.value)) (λ w. AreUnrefused a.value (Stated s ∷ []) × (w ≡ with_statement s a.value)) refl
      (λ did. (did.1, new_by_judge a.value s did.0, inl did.0)) (λ v done. ((inl done.0, tt), done.1))
      (call (own_by (is_mine a.value s.owner s.device) statement_fault.NotMine (Ok tt) (λ e. let is : ◌≡◌ {A = Result Unit (Refused StatementFault)} (Ok tt) (Err (refused.Because statement_fault.NotMine)) = e in cc) other)),
  tt,
)

pub statement_failed : (a b : Standing LedgerValue) (s : StatementValue) (f : Fault) (z : SessionFault) → z ≡ session_fault f → (is_mine a.value s.owner s.device ≡ false → ◌≡◌ {A = Result Unit (Refused StatementFault)} (Err (refused.Failed f)) (Err (refused.Because statement_fault.NotMine)))
    → (is_mine a.value s.owner s.device ≡ true → Writes a b (state_judged a.value s) (with_statement s a.value) (Err (refused.Failed f))) → IsKept a b (Stated s) (Err z)
statement_failed a b s f z is other call = (
  called_say a b (Some f) (stored_fault (Some z)) (Does a.value b.value (state_judged a.value s) (with_statement s a.value) (Err (refused.Failed f))) _ (λ v. (state_judged a.value s ≡ Ok tt) × (v ≡ with_statement s a.value)) (λ w. AreUnrefused a.value (Stated s ∷ []) × (w ≡ with_statement s a.value)) (stored_as f z is)
      (λ did. (did, λ e. absurd (not_refused f z is e))) (λ v done. ((inl done.0, tt), done.1))
      (call (own_by (is_mine a.value s.owner s.device) statement_fault.NotMine (Err (refused.Failed f)) (λ e. let same : ◌≡◌ {A = Result Unit (Refused StatementFault)} (Err (refused.Failed f)) (Err (refused.Because statement_fault.NotMine)) = e in cc) other)),
  failed_owners f z is,
)

-- the ledger holds it already
pub statement_repeated : (a b : Standing LedgerValue) (s : StatementValue) → (is_mine a.value s.owner s.device ≡ false → ◌≡◌ {A = Result Unit (Refused StatementFault)} (Err (refused.Because statement_fault.Repeated)) (Err (refused.Because statement_fault.NotMine)))
    → (is_mine a.value s.owner s.device ≡ true → Writes a b (state_judged a.value s) (with_statement s a.value) (Err (refused.Because statement_fault.Repeated))) → IsKept a b (Stated s) (Ok false)
statement_repeated a b s other call = (
  called_say a b None None (Does a.value b.value (state_judged a.value s) (with_statement s a.value) (Err (refused.Because statement_fault.Repeated))) _ (λ v. (state_judged a.value s ≡ Ok tt) × (v ≡ with_statement s a.value)) (λ w. AreUnrefused a.value (Stated s ∷ []) × (w ≡ with_statement s a.value)) refl
      (λ did. (did.1 ∙ sym (given_repeated a.value s did.0), old_by_judge a.value s did.0, inr did.0)) (λ v done. ((inl done.0, tt), done.1))
      (call (own_by (is_mine a.value s.owner s.device) statement_fault.NotMine (Err (refused.Because statement_fault.Repeated)) (λ e. let is : ◌≡◌ {A = Result Unit (Refused StatementFault)} (Err (refused.Because statement_fault.Repeated)) (Err (refused.Because statement_fault.NotMine)) = e in cc) other)),
  tt,
)

pub statement_foreign : (a : Standing LedgerValue) (s : StatementValue) → is_mine a.value s.owner s.device ≡ false → IsKept a a (Stated s) (Err session.Refused)
statement_foreign a s other = (
  record {
    value = λ live lawful. (lawful, (refl, λ e. (statement_fault.NotMine, (λ same. let is : statement_fault.NotMine ≡ statement_fault.Repeated = same in cc), ap (λ b. statement_judged b (a.value.stated s.device s.day) s.count (a.value.retired s.device)) other)));
    stop = λ clean lawful v leaves. inl leaves;
    lasts = λ clean lawful lasting. lasting;
    clean = λ h. h;
    live = λ h. h;
    stays = λ e live clean. live;
    cause = refl;
  },
  tt,
)

pub statement_refused : (a b : Standing LedgerValue) (s : StatementValue) (why : StatementFault) → (why ≡ statement_fault.Repeated → ⊥) → (is_mine a.value s.owner s.device ≡ false → IsKept a b (Stated s) (Err session.Refused))
    → (is_mine a.value s.owner s.device ≡ true → Writes a b (state_judged a.value s) (with_statement s a.value) (Err (refused.Because why))) → IsKept a b (Stated s) (Err session.Refused)
statement_refused a b s why not other call = by (is_mine a.value s.owner s.device) refl
  where
    by : (mine : Bool) → is_mine a.value s.owner s.device ≡ mine → IsKept a b (Stated s) (Err session.Refused)
    by false e = other e
    by true e = (
      called_say a b None None (Does a.value b.value (state_judged a.value s) (with_statement s a.value) (Err (refused.Because why))) _ (λ v. (state_judged a.value s ≡ Ok tt) × (v ≡ with_statement s a.value)) (λ w. AreUnrefused a.value (Stated s ∷ []) × (w ≡ with_statement s a.value)) refl
          (λ did. (did.1, λ z. (why, not, did.0))) (λ v done. ((inl done.0, tt), done.1)) (call e),
      tt,
    )
