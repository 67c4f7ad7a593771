-- What one write of the outbox made of an item, by what it answered.
use Rattle.std.proofs.Common.{◌≡◌, Bool, true, Some, None, refl, sym, ap, ◌∙◌, subst, inl}
use Rattle.std.specs.Prelude.{Ok, Err, is_ok, if◌then◌else◌}
use Rattle.fare_record.specs.Values.{RecordValue, StatementValue}
use Rattle.fare_store.specs.declared.fault.Fault.{Fault}
use Rattle.fare_store.specs.declared.fault.Fault.TheVariants as fault
use Rattle.fare_store.specs.declared.fault.Refused.TheVariants as refused
use Rattle.fare_store.specs.Standing.{Standing, Does, Writes}
use Rattle.fare_store.specs.OutboxWords.{OutboxValue, store_judged, stored, stated_judged, stored_statement}
use Rattle.fare_inbox_queue.specs.declared.arrived.Arrived.{Arrived}
use Rattle.fare_inbox_queue.specs.declared.arrived.Arrived.TheVariants.{Tap, Stated}
use Rattle.fare_session.proofs.Takes.{called_say}
use Rattle.fare_writer.specs.declared.fault.WriterFault.{WriterFault}
use Rattle.fare_writer.specs.Entries.{is_new}
use Rattle.fare_writer.specs.Writing.{store_fault, as_writer, Put, Puts}

failed_as : (f : Fault) (w : WriterFault) → w ≡ as_writer f → Some f ≡ store_fault w
failed_as fault.Memory w e = ap store_fault (sym e)
failed_as fault.Store w e = ap store_fault (sym e)

put_failed : (old new : OutboxValue) (a : Arrived) (f : Fault) (w : WriterFault) → w ≡ as_writer f → new ≡ old → Put old new a (Err w)
put_failed old new a fault.Memory w e is = subst (λ z. Put old new a (Err z)) (sym e) is
put_failed old new a fault.Store w e is = subst (λ z. Put old new a (Err z)) (sym e) is

pub row_stored : (a b : Standing OutboxValue) (r : RecordValue) → Writes a b (store_judged a.value r) (stored r a.value) (Ok tt) → Puts a b (Tap 0 r) (Ok true)
row_stored a b r call = called_say a b None None (Does a.value b.value (store_judged a.value r) (stored r a.value) (Ok tt)) (Put a.value b.value (Tap 0 r) (Ok true)) (λ v. (store_judged a.value r ≡ Ok tt) × (v ≡ stored r a.value)) (λ v. (is_new a.value (Tap 0 r) ≡ true) × (v ≡ stored r a.value)) refl
    (λ did. let new : is_new a.value (Tap 0 r) ≡ true = ap is_ok did.0 in (sym new, inl new, did.1 ∙ sym (ap (λ (q : Bool). if q then stored r a.value else a.value) new))) (λ v done. (ap is_ok done.0, done.1)) call

pub row_failed : (a b : Standing OutboxValue) (r : RecordValue) (f : Fault) (w : WriterFault) → w ≡ as_writer f → Writes a b (store_judged a.value r) (stored r a.value) (Err (refused.Failed f)) → Puts a b (Tap 0 r) (Err w)
row_failed a b r f w is call = called_say a b (Some f) (store_fault w) (Does a.value b.value (store_judged a.value r) (stored r a.value) (Err (refused.Failed f))) (Put a.value b.value (Tap 0 r) (Err w)) (λ v. (store_judged a.value r ≡ Ok tt) × (v ≡ stored r a.value)) (λ v. (is_new a.value (Tap 0 r) ≡ true) × (v ≡ stored r a.value)) (failed_as f w is)
    (λ did. put_failed a.value b.value (Tap 0 r) f w is did) (λ v done. (ap is_ok done.0, done.1)) call

pub statement_stored : (a b : Standing OutboxValue) (s : StatementValue) → Writes a b (stated_judged a.value s) (stored_statement s a.value) (Ok tt) → Puts a b (Stated 0 s) (Ok true)
statement_stored a b s call = called_say a b None None (Does a.value b.value (stated_judged a.value s) (stored_statement s a.value) (Ok tt)) (Put a.value b.value (Stated 0 s) (Ok true)) (λ v. (stated_judged a.value s ≡ Ok tt) × (v ≡ stored_statement s a.value)) (λ v. (is_new a.value (Stated 0 s) ≡ true) × (v ≡ stored_statement s a.value)) refl
    (λ did. let new : is_new a.value (Stated 0 s) ≡ true = ap is_ok did.0 in (sym new, inl new, did.1 ∙ sym (ap (λ (q : Bool). if q then stored_statement s a.value else a.value) new))) (λ v done. (ap is_ok done.0, done.1)) call

pub statement_failed : (a b : Standing OutboxValue) (s : StatementValue) (f : Fault) (w : WriterFault) → w ≡ as_writer f → Writes a b (stated_judged a.value s) (stored_statement s a.value) (Err (refused.Failed f)) → Puts a b (Stated 0 s) (Err w)
statement_failed a b s f w is call = called_say a b (Some f) (store_fault w) (Does a.value b.value (stated_judged a.value s) (stored_statement s a.value) (Err (refused.Failed f))) (Put a.value b.value (Stated 0 s) (Err w)) (λ v. (stated_judged a.value s ≡ Ok tt) × (v ≡ stored_statement s a.value)) (λ v. (is_new a.value (Stated 0 s) ≡ true) × (v ≡ stored_statement s a.value)) (failed_as f w is)
    (λ did. put_failed a.value b.value (Stated 0 s) f w is did) (λ v done. (ap is_ok done.0, done.1)) call
