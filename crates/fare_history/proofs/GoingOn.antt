-- What an owner's loop and the writer's loop know of what their stores may hold: one item more.
use Rattle.std.proofs.Common.{◌≡◌, List, [], ◌∷◌, ◌++◌, sym, ap, ◌∙◌, inl, inr}
use Rattle.std.specs.Prelude.{Result, Ok, Err, is_ok, ◌⊎◌}
use Rattle.fare_record.specs.Values.{RecordValue, StatementValue}
use Rattle.fare_record.specs.declared.item.Item.{Item}
use Rattle.fare_record.specs.declared.item.Item.TheVariants as item
use Rattle.fare_owner.specs.declared.statement.StatementFault.{StatementFault}
use Rattle.fare_owner.specs.declared.statement.StatementFault.TheVariants as statement_fault
use Rattle.fare_owner.specs.declared.tap.TapFault.{TapFault}
use Rattle.fare_store.specs.declared.fault.Refused.{Refused}
use Rattle.fare_store.specs.declared.fault.Refused.TheVariants as refused
use Rattle.fare_store.specs.declared.fault.StoreFault.{StoreFault}
use Rattle.fare_store.specs.declared.fault.StoreFault.TheVariants as store_fault
use Rattle.fare_store.specs.declared.fault.StatedFault.{StatedFault}
use Rattle.fare_store.specs.declared.fault.StatedFault.TheVariants as stated_fault
use Rattle.fare_store.specs.Standing.{Standing, Writes, IsSound}
use Rattle.fare_store.specs.OutboxWords.{OutboxValue, store_judged, stored, stated_judged, stored_statement}
use Rattle.fare_store.specs.LedgerWords.{LedgerValue, take_judged, took, state_judged, with_statement}
use Rattle.fare_history.specs.Serving.{given}
use Rattle.fare_history.specs.Gathering.{Entry, IsRepeated, storing}
use Rattle.fare_history.specs.Holding.{Leads, IsGivenAll, IsStoredAll, IsFit}
use Rattle.fare_history.proofs.Committed.{given_repeated}
use Rattle.fare_history.proofs.Growing.{given_all-push, storing_all-push}
use Rattle.fare_history.proofs.Holds.{write_leads, done_leads, refused_leads, leads_join, leads_weaken}
use Rattle.fare_history.proofs.Judged.{stored_new, stored_old, repeated_is_old}

-- THE OWNER'S LOOP
-- it took the item
pub given_more : (items : List Item) (i : Item) (s t u : Standing LedgerValue) → Leads (IsGivenAll items) s t → Leads (λ w v. v ≡ given w i) t u → Leads (IsGivenAll (items ++ i ∷ [])) s u
given_more items i s t u before one =
    leads_weaken (λ w v. (m : LedgerValue) × IsGivenAll items w m × (v ≡ given m i)) (IsGivenAll (items ++ i ∷ [])) s u (λ w v two. more w v two.0 two.1 two.2) (leads_join (IsGivenAll items) (λ w v. v ≡ given w i) s t u before one)
  where
    more : (w v m : LedgerValue) → IsGivenAll items w m → v ≡ given m i → IsGivenAll (items ++ i ∷ []) w v
    more w v m first is = is ∙ ap (λ l. given l i) first ∙ sym (given_all-push w items i)

-- it took the item, or not
pub given_maybe : (items : List Item) (i : Item) (s t u : Standing LedgerValue) → Leads (IsGivenAll items) s t → Leads (λ w v. (v ≡ w) ⊎ (v ≡ given w i)) t u
    → Leads (λ w v. IsGivenAll items w v ⊎ IsGivenAll (items ++ i ∷ []) w v) s u
given_maybe items i s t u before one =
    leads_weaken (λ w v. (m : LedgerValue) × IsGivenAll items w m × ((v ≡ m) ⊎ (v ≡ given m i))) (λ w v. IsGivenAll items w v ⊎ IsGivenAll (items ++ i ∷ []) w v) s u
    (λ w v two. elim two.2 [ inl same ↦ inl (same ∙ two.1) | inr is ↦ inr (is ∙ ap (λ l. given l i) two.1 ∙ sym (given_all-push w items i)) ])
    (leads_join (IsGivenAll items) (λ w v. (v ≡ w) ⊎ (v ≡ given w i)) s t u before one)

pub take_goes_on : (items : List Item) (r : RecordValue) (s t u : Standing LedgerValue) → Leads (IsGivenAll items) s t → Writes t u (take_judged t.value r) (took r t.value) (Ok tt) → IsFit t → IsSound u → u.clean → Leads (IsGivenAll (items ++ item.Tap r ∷ [])) s u
take_goes_on items r s t u before call fit sound clean =
    given_more items (item.Tap r) s t u before
    (leads_weaken (λ w v. (take_judged w r ≡ Ok tt) × (v ≡ took r w)) (λ w v. v ≡ given w (item.Tap r)) t u (λ w v did. did.1) (done_leads (λ l. take_judged l r) (took r) t u call fit sound clean))

pub state_goes_on : (items : List Item) (x : StatementValue) (s t u : Standing LedgerValue) → Leads (IsGivenAll items) s t → Writes t u (state_judged t.value x) (with_statement x t.value) (Ok tt) → IsFit t → IsSound u → u.clean → Leads (IsGivenAll (items ++ item.Stated x ∷ [])) s u
state_goes_on items x s t u before call fit sound clean =
    given_more items (item.Stated x) s t u before
    (leads_weaken (λ w v. (state_judged w x ≡ Ok tt) × (v ≡ with_statement x w)) (λ w v. v ≡ given w (item.Stated x)) t u (λ w v did. did.1) (done_leads (λ l. state_judged l x) (with_statement x) t u call fit sound clean))

pub repeat_goes_on : (items : List Item) (x : StatementValue) (s t u : Standing LedgerValue) → Leads (IsGivenAll items) s t → Writes t u (state_judged t.value x) (with_statement x t.value) (Err (refused.Because statement_fault.Repeated)) → IsFit t → IsSound u → u.clean → Leads (IsGivenAll (items ++ item.Stated x ∷ [])) s u
repeat_goes_on items x s t u before call fit sound clean =
    given_more items (item.Stated x) s t u before
    (leads_weaken (λ w v. (state_judged w x ≡ Err statement_fault.Repeated) × (v ≡ w)) (λ w v. v ≡ given w (item.Stated x)) t u (λ w v did. did.1 ∙ sym (given_repeated w x did.0)) (refused_leads (λ l. state_judged l x) (with_statement x) t u statement_fault.Repeated call fit sound clean))

pub take_fails : (items : List Item) (r : RecordValue) (s t u : Standing LedgerValue) (result : Result Unit (Refused TapFault)) → Leads (IsGivenAll items) s t → Writes t u (take_judged t.value r) (took r t.value) result → IsFit t → u.clean → Leads (λ w v. IsGivenAll items w v ⊎ IsGivenAll (items ++ item.Tap r ∷ []) w v) s u
take_fails items r s t u result before call fit clean =
    given_maybe items (item.Tap r) s t u before
    (leads_weaken (λ w v. (v ≡ w) ⊎ ((take_judged w r ≡ Ok tt) × (v ≡ took r w))) (λ w v. (v ≡ w) ⊎ (v ≡ given w (item.Tap r))) t u (λ w v either. elim either [ inl same ↦ inl same | inr did ↦ inr did.1 ]) (write_leads (λ l. take_judged l r) (took r) t u result call fit clean))

pub state_fails : (items : List Item) (x : StatementValue) (s t u : Standing LedgerValue) (result : Result Unit (Refused StatementFault)) → Leads (IsGivenAll items) s t → Writes t u (state_judged t.value x) (with_statement x t.value) result → IsFit t → u.clean → Leads (λ w v. IsGivenAll items w v ⊎ IsGivenAll (items ++ item.Stated x ∷ []) w v) s u
state_fails items x s t u result before call fit clean =
    given_maybe items (item.Stated x) s t u before
    (leads_weaken (λ w v. (v ≡ w) ⊎ ((state_judged w x ≡ Ok tt) × (v ≡ with_statement x w))) (λ w v. (v ≡ w) ⊎ (v ≡ given w (item.Stated x))) t u (λ w v either. elim either [ inl same ↦ inl same | inr did ↦ inr did.1 ]) (write_leads (λ l. state_judged l x) (with_statement x) t u result call fit clean))

-- THE WRITER'S LOOP
-- it stored the item, or had stored it before
pub stored_more : (es : List Entry) (e : Entry) (s t u : Standing OutboxValue) → Leads (IsStoredAll es) s t → Leads (λ w v. v ≡ storing w e.item) t u → Leads (IsStoredAll (es ++ e ∷ [])) s u
stored_more es e s t u before one =
    leads_weaken (λ w v. (m : OutboxValue) × IsStoredAll es w m × (v ≡ storing m e.item)) (IsStoredAll (es ++ e ∷ [])) s u (λ w v two. more w v two.0 two.1 two.2) (leads_join (IsStoredAll es) (λ w v. v ≡ storing w e.item) s t u before one)
  where
    more : (w v m : OutboxValue) → IsStoredAll es w m → v ≡ storing m e.item → IsStoredAll (es ++ e ∷ []) w v
    more w v m first is = is ∙ ap (λ y. storing y e.item) first ∙ sym (storing_all-push w es e)

-- it stored the item, or not
pub stored_maybe : (es : List Entry) (e : Entry) (s t u : Standing OutboxValue) → Leads (IsStoredAll es) s t → Leads (λ w v. (v ≡ w) ⊎ (v ≡ storing w e.item)) t u → Leads (λ w v. IsStoredAll es w v ⊎ IsStoredAll (es ++ e ∷ []) w v) s u
stored_maybe es e s t u before one =
    leads_weaken (λ w v. (m : OutboxValue) × IsStoredAll es w m × ((v ≡ m) ⊎ (v ≡ storing m e.item))) (λ w v. IsStoredAll es w v ⊎ IsStoredAll (es ++ e ∷ []) w v) s u
    (λ w v two. elim two.2 [ inl same ↦ inl (same ∙ two.1) | inr is ↦ inr (is ∙ ap (λ y. storing y e.item) two.1 ∙ sym (storing_all-push w es e)) ])
    (leads_join (IsStoredAll es) (λ w v. (v ≡ w) ⊎ (v ≡ storing w e.item)) s t u before one)

-- what a write makes of the outbox is what an item makes of it
tap_is : (w v : OutboxValue) (i : Item) (r : RecordValue) → i ≡ item.Tap r → (store_judged w r ≡ Ok tt) × (v ≡ stored r w) → v ≡ storing w i
tap_is w v i r of did = did.1 ∙ sym (stored_new w (item.Tap r) (ap is_ok did.0)) ∙ ap (storing w) (sym of)

statement_is : (w v : OutboxValue) (i : Item) (x : StatementValue) → i ≡ item.Stated x → (stated_judged w x ≡ Ok tt) × (v ≡ stored_statement x w) → v ≡ storing w i
statement_is w v i x of did = did.1 ∙ sym (stored_new w (item.Stated x) (ap is_ok did.0)) ∙ ap (storing w) (sym of)

repeated_is : (w v : OutboxValue) (i j : Item) → i ≡ j → IsRepeated w j → v ≡ w → v ≡ storing w i
repeated_is w v i j of again same = same ∙ sym (stored_old w j (repeated_is_old w j again)) ∙ ap (storing w) (sym of)

pub store_goes_on : (es : List Entry) (e : Entry) (r : RecordValue) (s t u : Standing OutboxValue) → e.item ≡ item.Tap r → Leads (IsStoredAll es) s t → Writes t u (store_judged t.value r) (stored r t.value) (Ok tt) → IsFit t → IsSound u → u.clean → Leads (IsStoredAll (es ++ e ∷ [])) s u
store_goes_on es e r s t u of before call fit sound clean =
    stored_more es e s t u before
    (leads_weaken (λ w v. (store_judged w r ≡ Ok tt) × (v ≡ stored r w)) (λ w v. v ≡ storing w e.item) t u (λ w v did. tap_is w v e.item r of did) (done_leads (λ x. store_judged x r) (stored r) t u call fit sound clean))

pub statement_goes_on : (es : List Entry) (e : Entry) (x : StatementValue) (s t u : Standing OutboxValue) → e.item ≡ item.Stated x → Leads (IsStoredAll es) s t → Writes t u (stated_judged t.value x) (stored_statement x t.value) (Ok tt) → IsFit t → IsSound u → u.clean → Leads (IsStoredAll (es ++ e ∷ [])) s u
statement_goes_on es e x s t u of before call fit sound clean =
    stored_more es e s t u before
    (leads_weaken (λ w v. (stated_judged w x ≡ Ok tt) × (v ≡ stored_statement x w)) (λ w v. v ≡ storing w e.item) t u (λ w v did. statement_is w v e.item x of did) (done_leads (λ y. stated_judged y x) (stored_statement x) t u call fit sound clean))

pub duplicate_goes_on : (es : List Entry) (e : Entry) (r : RecordValue) (s t u : Standing OutboxValue) → e.item ≡ item.Tap r → Leads (IsStoredAll es) s t → Writes t u (store_judged t.value r) (stored r t.value) (Err (refused.Because store_fault.Duplicate)) → IsFit t → IsSound u → u.clean → Leads (IsStoredAll (es ++ e ∷ [])) s u
duplicate_goes_on es e r s t u of before call fit sound clean =
    stored_more es e s t u before
    (leads_weaken (λ w v. (store_judged w r ≡ Err store_fault.Duplicate) × (v ≡ w)) (λ w v. v ≡ storing w e.item) t u (λ w v did. repeated_is w v e.item (item.Tap r) of did.0 did.1) (refused_leads (λ y. store_judged y r) (stored r) t u store_fault.Duplicate call fit sound clean))

pub statement_duplicate_goes_on : (es : List Entry) (e : Entry) (x : StatementValue) (s t u : Standing OutboxValue) → e.item ≡ item.Stated x → Leads (IsStoredAll es) s t → Writes t u (stated_judged t.value x) (stored_statement x t.value) (Err (refused.Because stated_fault.Duplicate)) → IsFit t → IsSound u → u.clean → Leads (IsStoredAll (es ++ e ∷ [])) s u
statement_duplicate_goes_on es e x s t u of before call fit sound clean =
    stored_more es e s t u before
    (leads_weaken (λ w v. (stated_judged w x ≡ Err stated_fault.Duplicate) × (v ≡ w)) (λ w v. v ≡ storing w e.item) t u (λ w v did. repeated_is w v e.item (item.Stated x) of did.0 did.1) (refused_leads (λ y. stated_judged y x) (stored_statement x) t u stated_fault.Duplicate call fit sound clean))

pub store_fails : (es : List Entry) (e : Entry) (r : RecordValue) (s t u : Standing OutboxValue) (result : Result Unit (Refused StoreFault)) → e.item ≡ item.Tap r → Leads (IsStoredAll es) s t → Writes t u (store_judged t.value r) (stored r t.value) result → IsFit t → u.clean → Leads (λ w v. IsStoredAll es w v ⊎ IsStoredAll (es ++ e ∷ []) w v) s u
store_fails es e r s t u result of before call fit clean =
    stored_maybe es e s t u before
    (leads_weaken (λ w v. (v ≡ w) ⊎ ((store_judged w r ≡ Ok tt) × (v ≡ stored r w))) (λ w v. (v ≡ w) ⊎ (v ≡ storing w e.item)) t u (λ w v either. elim either [ inl same ↦ inl same | inr did ↦ inr (tap_is w v e.item r of did) ]) (write_leads (λ x. store_judged x r) (stored r) t u result call fit clean))

pub statement_fails : (es : List Entry) (e : Entry) (x : StatementValue) (s t u : Standing OutboxValue) (result : Result Unit (Refused StatedFault)) → e.item ≡ item.Stated x → Leads (IsStoredAll es) s t → Writes t u (stated_judged t.value x) (stored_statement x t.value) result → IsFit t → u.clean → Leads (λ w v. IsStoredAll es w v ⊎ IsStoredAll (es ++ e ∷ []) w v) s u
statement_fails es e x s t u result of before call fit clean =
    stored_maybe es e s t u before
    (leads_weaken (λ w v. (v ≡ w) ⊎ ((stated_judged w x ≡ Ok tt) × (v ≡ stored_statement x w))) (λ w v. (v ≡ w) ⊎ (v ≡ storing w e.item)) t u (λ w v either. elim either [ inl same ↦ inl same | inr did ↦ inr (statement_is w v e.item x of did) ]) (write_leads (λ y. stated_judged y x) (stored_statement x) t u result call fit clean))
