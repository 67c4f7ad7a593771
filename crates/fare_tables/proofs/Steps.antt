-- One call on a connection as a call of a store, and several in turn.
use Rattle.std.proofs.Common.{◌≡◌, inl, inr, ℕ, Ok, Err, Some, None, sym, ap, subst, ◌∙◌, arith}
use Rattle.std.specs.Prelude.{Option, Result, IfOk, OnOk, IsErrAnd, IsTrue}
use Rattle.sqlite_trees.specs.Tree.{Trees}
use Rattle.sqlite.specs.Schema.{Schema}
use Rattle.sqlite.specs.Effect.{Database, IsDatabase}
use Rattle.sqlite.specs.State.{State, Survives, HasCleanDisk}
use Rattle.fare_store.specs.declared.fault.Fault.{Fault}
use Rattle.fare_store.specs.Standing.{Standing, Calls, Counted, Counts, Makes, Reads, Removes, Changes, fault_of}
pub use Rattle.fare_store.proofs.Readings.{read_then, read_failed, says, write_failed, first_failed}
use Rattle.fare_tables.specs.Asking.{IsLive, IsUp, SameRows, IsAtRest}
use Rattle.fare_tables.specs.Tabled.{IsFit, IsLawfulIn, IsLeft, tabled, given}

pub same_rest : (schema : Schema) (old new : State) → SameRows old new → IsAtRest schema old → IsAtRest schema new
same_rest schema old new same rest = record { settled = same.0 ∙ rest.settled ∙ sym same.1; schema_is = ap (λ (d : Database). d.schema) same.0 ∙ rest.schema_is }

pub was_clean : (old new : State) (P : Trees → Type 0) → Survives old new P → HasCleanDisk new → HasCleanDisk old
was_clean old new P survives clean = let later = survives.clean in let now = clean in omega (arith, later, now)

pub same_database : (old new : State) → SameRows old new → IsDatabase old.now → IsDatabase new.now
same_database old new same database = subst IsDatabase (sym same.0) database

-- a connection that is open where a call answered
pub stays_open : {A : Type 0} (new : State) (r : Result A Fault) → (HasCleanDisk new → OnOk r (IsTrue new.is_open)) → fault_of r ≡ None → HasCleanDisk new → IsTrue new.is_open
stays_open new (Ok x) stays none clean = stays clean
stays_open new (Err f) stays none clean = absurd (cc)

pub up_if : {A : Type 0} (new : State) (r q : Result A Fault) → q ≡ r → (HasCleanDisk new → OnOk r (IsTrue new.is_open)) → OnOk q (IsUp new)
up_if {A} new (Ok x) q is stays = subst (λ (p : Result A Fault). OnOk p (IsUp new)) (sym is) stays
up_if {A} new (Err f) q is stays = subst (λ (p : Result A Fault). OnOk p (IsUp new)) (sym is) tt

module _ {V : Type 0} (schema : Schema) (value : Trees → V) where
  pub same_at : (old new : State) → SameRows old new → value new.now.trees ≡ value old.now.trees
  same_at old new same = ap (λ (d : Database). value d.trees) same.0

  pub same_fit : (Fits : Trees → Type 0) (old new : State) → SameRows old new → IsFit schema Fits old → IsFit schema Fits new
  same_fit Fits old new same fit = record { rest = same_rest schema old new same fit.rest; fits = subst (λ (d : Database). Fits d.trees) (sym same.0) fit.fits }

  same_lawful : (Fits : Trees → Type 0) (old new : State) → SameRows old new → IsLawfulIn schema Fits old → IsLawfulIn schema Fits new
  same_lawful Fits old new same lawful = record { fit = same_fit Fits old new same lawful.fit; database = same_database old new same lawful.database }

  -- a question to a connection that is open, if it is clean
  pub read_step : (Fits Alone : Trees → Type 0) (old new : State) (n m : ℕ) (f : Option Fault) (did : Type 0)
      → IsUp old
      → (IsLive new → IsFit schema Fits old → did)
      → (IsLive new → IsAtRest schema old → SameRows old new)
      → Survives old new (λ _. ¬ IsAtRest schema old)
      → (IsLive new → IsLive old)
      → (f ≡ None → HasCleanDisk new → IsTrue new.is_open)
      → Counted n m f
      → Calls (tabled schema value Fits Alone old n) (tabled schema value Fits Alone new m) f ((value new.now.trees ≡ value old.now.trees) × did) (λ v. ⊥)
  read_step Fits Alone old new n m f did up answers same survives live stays cause = record {
    value = λ now lawful. let rows = same now lawful.fit.rest in (same_lawful Fits old new rows lawful, (same_at old new rows, answers now lawful.fit));
    stop = λ clean lawful v leaves. inl (leaves.0, left clean lawful leaves.0 leaves.1, leaves.2);
    lasts = λ clean lawful lasting. record { each = λ trees leaves. lasting.each trees (left clean lawful trees leaves) };
    clean = λ clean. was_clean old new _ survives clean;
    live = live;
    stays = λ e clean. (clean, stays e clean);
    cause = cause;
  }
    where
      left : HasCleanDisk new → (IsLive old → IsLawfulIn schema Fits old) → (trees : Trees) → new.may_leave trees → old.may_leave trees
      left clean lawful trees leaves =
          let before = was_clean old new _ survives clean in
          elim (survives.crash clean trees leaves) [
            | inl was ↦ was
            | inr not_at_rest ↦ absurd (not_at_rest (lawful (before, up before)).fit.rest)
          ]

  -- such a question, by its answer, of which the fault was counted
  pub noted_read : {A : Type 0} (Fits Alone : Trees → Type 0) (old new : State) (n m : ℕ) (answer : A → Type 0) (r q : Result A Fault)
      → q ≡ r
      → IsUp old
      → (IsLive new → IsFit schema Fits old → IfOk r answer)
      → (IsLive new → IsAtRest schema old → SameRows old new)
      → Survives old new (λ _. ¬ IsAtRest schema old)
      → (IsLive new → IsLive old)
      → (HasCleanDisk new → OnOk r (IsTrue new.is_open))
      → Counted n m (fault_of q)
      → Reads (tabled schema value Fits Alone old n) (tabled schema value Fits Alone new m) answer q
  noted_read {A} Fits Alone old new n m answer r q is up answers same survives live stays counted =
      subst (λ (x : Result A Fault). Reads (tabled schema value Fits Alone old n) (tabled schema value Fits Alone new m) answer x) (sym is)
      (read_step Fits Alone old new n m (fault_of r) (IfOk r answer) up answers same survives live (stays_open new r stays) (subst (λ (x : Result A Fault). Counted n m (fault_of x)) is counted))

  -- a call that commits nothing, whatever the connection is
  pub touch_step : (Fits Alone : Trees → Type 0) (old new : State) (n m : ℕ) (f : Option Fault)
      → (IsLive new → old.now ≡ old.committed → SameRows old new)
      → Survives old new (λ _. ⊥)
      → (IsLive new → IsLive old)
      → (f ≡ None → HasCleanDisk new → IsTrue new.is_open)
      → Counted n m f
      → Calls (tabled schema value Fits Alone old n) (tabled schema value Fits Alone new m) f ((value new.now.trees ≡ value old.now.trees) × Unit {0}) (λ v. ⊥)
  touch_step Fits Alone old new n m f same survives live stays cause = record {
    value = λ now lawful. let rows = same now lawful.fit.rest.settled in (same_lawful Fits old new rows lawful, (same_at old new rows, tt));
    stop = λ clean lawful v leaves. inl (leaves.0, left clean leaves.0 leaves.1, leaves.2);
    lasts = λ clean lawful lasting. record { each = λ trees leaves. lasting.each trees (left clean trees leaves) };
    clean = λ clean. was_clean old new _ survives clean;
    live = live;
    stays = λ e clean. (clean, stays e clean);
    cause = cause;
  }
    where
      left : HasCleanDisk new → (trees : Trees) → new.may_leave trees → old.may_leave trees
      left clean trees leaves = elim (survives.crash clean trees leaves) [
        | inl was ↦ was
        | inr none ↦ absurd none
      ]

  -- such a call, by its answer, of which the fault was counted
  pub noted_touch : {A : Type 0} (Fits Alone : Trees → Type 0) (old new : State) (n m : ℕ) (r q : Result A Fault)
      → q ≡ r
      → (IsLive new → old.now ≡ old.committed → SameRows old new)
      → Survives old new (λ _. ⊥)
      → (IsLive new → IsLive old)
      → (HasCleanDisk new → OnOk r (IsTrue new.is_open))
      → Counted n m (fault_of q)
      → Reads (tabled schema value Fits Alone old n) (tabled schema value Fits Alone new m) (λ _. Unit {0}) q
  noted_touch {A} Fits Alone old new n m r q is same survives live stays counted =
      subst (λ (x : Result A Fault). Reads (tabled schema value Fits Alone old n) (tabled schema value Fits Alone new m) (λ _. Unit {0}) x) (sym is)
      (by_answer r stays (subst (λ (x : Result A Fault). Counted n m (fault_of x)) is counted))
    where
      by_answer : (r : Result A Fault) → (HasCleanDisk new → OnOk r (IsTrue new.is_open)) → Counted n m (fault_of r) → Reads (tabled schema value Fits Alone old n) (tabled schema value Fits Alone new m) (λ _. Unit {0}) r
      by_answer (Ok x) stays counted = touch_step Fits Alone old new n m None same survives live (λ e. stays) counted
      by_answer (Err f) stays counted = touch_step Fits Alone old new n m (Some f) same survives live (λ e. absurd (cc)) counted

  -- a transaction on a connection that is open, if it is clean
  pub write_step : (Before After Alone : Trees → Type 0) (old new : State) (n m : ℕ) (f : Option Fault) (fact did : Type 0) (done : V) (Wrote : Trees → Type 0)
      → IsUp old
      → (IsLive new → IsFit schema Before old × fact → IsFit schema After new × did)
      → (IsLive new → IsFit schema Before old → IsDatabase old.now → IsDatabase new.now)
      → Survives old new Wrote
      → (IsFit schema Before old → (trees : Trees) → Wrote trees → fact → (value trees ≡ done) × IsLeft schema Alone trees)
      → (IsLive new → IsLive old)
      → (f ≡ None → HasCleanDisk new → IsTrue new.is_open)
      → Counted n m f
      → Calls (given fact (tabled schema value Before Alone old n)) (tabled schema value After Alone new m) f did (λ v. v ≡ done)
  write_step Before After Alone old new n m f fact did done Wrote up does obeys survives commits live stays cause = record {
    value = λ now known. let did = does now (known.0.fit, known.1) in (record { fit = did.0; database = obeys now known.0.fit known.0.database }, did.1);
    stop = λ clean lawful v leaves. elim (survives.crash clean leaves.0 leaves.1) [
      | inl was ↦ inl (leaves.0, was, leaves.2)
      | inr wrote ↦ inr (was_live clean, sym leaves.2 ∙ (left clean lawful leaves.0 wrote).0)
    ];
    lasts = λ clean lawful lasting. record {
      each = λ trees leaves. elim (survives.crash clean trees leaves) [
        | inl was ↦ lasting.each trees was
        | inr wrote ↦ (left clean lawful trees wrote).1
      ];
    };
    clean = λ clean. was_clean old new _ survives clean;
    live = live;
    stays = λ e clean. (clean, stays e clean);
    cause = cause;
  }
    where
      was_live : HasCleanDisk new → IsLive old
      was_live clean = let before = was_clean old new _ survives clean in (before, up before)

      left : HasCleanDisk new → (IsLive old → IsLawfulIn schema Before old × fact) → (trees : Trees) → Wrote trees → (value trees ≡ done) × IsLeft schema Alone trees
      left clean lawful trees wrote = let known = lawful (was_live clean) in commits known.0.fit trees wrote known.1

-- a call that asks less
pub given_more : {V : Type 0} (b c : Standing V) (less more did : Type 0) (f : Option Fault) (commits : V → Type 0) → (more → less) → Calls (given less b) c f did commits → Calls (given more b) c f did commits
given_more b c less more did f commits gives call = record {
  value = λ live lawful. call.value live (lawful.0, gives lawful.1);
  stop = λ clean lawful v leaves. call.stop clean (λ live. let it = lawful live in (it.0, gives it.1)) v leaves;
  lasts = λ clean lawful lasting. call.lasts clean (λ live. let it = lawful live in (it.0, gives it.1)) lasting;
  clean = call.clean;
  live = call.live;
  stays = call.stays;
  cause = call.cause;
}

-- reads that answered, and then a write that stands on what they found
pub write_then : {V : Type 0} (a b c : Standing V) (P did : Type 0) (f : Option Fault) (C D : V → Type 0)
    → ((b.value ≡ a.value) × P → (v : V) → C v → D v)
    → Calls a b None ((b.value ≡ a.value) × P) (λ v. ⊥)
    → Calls (given ((b.value ≡ a.value) × P) b) c f did C
    → Calls a c f ((b.value ≡ a.value) × P × did) D
write_then a b c P did f C D commits first second = record {
  value = λ live lawful.
      let one = first.value (second.live live) lawful in
      let two = second.value live one in
      (two.0, (one.1.0, one.1.1, two.1));
  stop = λ clean lawful v leaves. elim (second.stop clean (λ live. first.value live (lawful (first.live live))) v leaves) [
    | inl was ↦ (elim (first.stop (second.clean clean) lawful v was) [
      | inl earlier ↦ inl earlier
      | inr none ↦ absurd none.1
    ])
    | inr wrote ↦ (let one = first.value wrote.0 (lawful (first.live wrote.0)) in inr (first.live wrote.0, commits one.1 v wrote.1))
  ];
  lasts = λ clean lawful lasting. second.lasts clean (λ live. first.value live (lawful (first.live live))) (first.lasts (second.clean clean) lawful lasting);
  clean = λ h. first.clean (second.clean h);
  live = λ h. first.live (second.live h);
  stays = second.stays;
  cause = subst (λ n. Counted n c.failures f) first.cause second.cause;
}

-- the first of a call, and then a read
pub read_on : {V A : Type 0} (a b c : Standing V) (answer : V → A → Type 0) (r : Result A Fault) → Calls a b None ((b.value ≡ a.value) × Unit {0}) (λ v. ⊥) → Reads b c (answer b.value) r → Reads a c (answer a.value) r
read_on {V} a b c answer r first second =
    says a c (fault_of r) _ _ (λ v. ⊥) (λ v. ⊥) (λ lawful p. (p.0, subst (λ (v : V). IfOk r (answer v)) p.1.0 p.1.2)) (λ v none. none) (read_then a b c (Unit {0}) (IfOk r (answer b.value)) (fault_of r) first second)

pub given_any : {V : Type 0} (b c : Standing V) (more did : Type 0) (f : Option Fault) (commits : V → Type 0) → Calls b c f did commits → Calls (given more b) c f did commits
given_any b c more did f commits call = record {
  value = λ live lawful. call.value live lawful.0;
  stop = λ clean lawful v leaves. call.stop clean (λ live. (lawful live).0) v leaves;
  lasts = λ clean lawful lasting. call.lasts clean (λ live. (lawful live).0) lasting;
  clean = call.clean;
  live = call.live;
  stays = call.stays;
  cause = call.cause;
}

pub given_none : {V : Type 0} (b c : Standing V) (did : Type 0) (f : Option Fault) (commits : V → Type 0) → Calls (given (Unit {0}) b) c f did commits → Calls b c f did commits
given_none b c did f commits call = record {
  value = λ live lawful. call.value live (lawful, tt);
  stop = λ clean lawful v leaves. call.stop clean (λ live. (lawful live, tt)) v leaves;
  lasts = λ clean lawful lasting. call.lasts clean (λ live. (lawful live, tt)) lasting;
  clean = call.clean;
  live = call.live;
  stays = call.stays;
  cause = call.cause;
}

-- the first of a call, and then a removal
pub remove_on : {V : Type 0} (a b c : Standing V) (done : V → V) (count : V → ℕ) (r : Result ℕ Fault)
    → Calls a b None ((b.value ≡ a.value) × Unit {0}) (λ v. ⊥) → Removes b c (done b.value) (count b.value) r → Removes a c (done a.value) (count a.value) r
remove_on {V} a b c done count r first second =
    says a c (fault_of r) _ _ (λ v. v ≡ done a.value) (λ v. v ≡ done a.value) (λ lawful p. subst (λ (v : V). Counts v c.value (done v) (count v) r) p.0 p.2) (λ v is. is)
    (write_then a b c (Unit {0}) (Counts b.value c.value (done b.value) (count b.value) r) (fault_of r) (λ v. v ≡ done b.value) (λ v. v ≡ done a.value) (λ p v is. is ∙ ap done p.0) first (given_any b c _ _ (fault_of r) _ second))

-- a removal that failed before it began
pub remove_failed : {V : Type 0} (a b : Standing V) (P : Type 0) (done : V) (count : ℕ) (r : Result ℕ Fault) (f : Fault) → IsErrAnd r (λ q. q ≡ f) → Calls a b (Some f) ((b.value ≡ a.value) × P) (λ v. ⊥) → Removes a b done count r
remove_failed a b P done count (Ok x) f is c = absurd is
remove_failed {V} a b P done count (Err q) f is c = subst (λ (z : Fault). Calls a b (Some z) (b.value ≡ a.value) (λ (v : V). v ≡ done)) (sym is) (says a b (Some f) _ _ (λ v. ⊥) (λ v. v ≡ done) (λ lawful p. p.0) (λ v none. absurd none) c)

-- the first of a call, and then a write that nothing refuses
pub change_on : {V : Type 0} (a b c : Standing V) (done : V → V) (r : Result Unit Fault)
    → Calls a b None ((b.value ≡ a.value) × Unit {0}) (λ v. ⊥) → Changes b c (done b.value) r → Changes a c (done a.value) r
change_on {V} a b c done r first second =
    says a c (fault_of r) _ _ (λ v. v ≡ done a.value) (λ v. v ≡ done a.value) (λ lawful p. subst (λ (v : V). Makes v c.value (done v) r) p.0 p.2) (λ v is. is)
    (write_then a b c (Unit {0}) (Makes b.value c.value (done b.value) r) (fault_of r) (λ v. v ≡ done b.value) (λ v. v ≡ done a.value) (λ p v is. is ∙ ap done p.0) first (given_any b c _ _ (fault_of r) _ second))

-- one that failed before it began
pub change_failed : {V : Type 0} (a b : Standing V) (P : Type 0) (done : V) (r : Result Unit Fault) (f : Fault) → IsErrAnd r (λ q. q ≡ f) → Calls a b (Some f) ((b.value ≡ a.value) × P) (λ v. ⊥) → Changes a b done r
change_failed a b P done (Ok x) f is c = absurd is
change_failed {V} a b P done (Err q) f is c = subst (λ (z : Fault). Calls a b (Some z) (b.value ≡ a.value) (λ (v : V). v ≡ done)) (sym is) (says a b (Some f) _ _ (λ v. ⊥) (λ v. v ≡ done) (λ lawful p. p.0) (λ v none. absurd none) c)

-- one of which nothing was left to do
pub change_none : {V : Type 0} (a b : Standing V) (P : Type 0) → Calls a b None ((b.value ≡ a.value) × P) (λ v. ⊥) → Changes a b a.value (Ok (tt {0}))
change_none {V} a b P c = says a b None _ _ (λ v. ⊥) (λ (v : V). v ≡ a.value) (λ lawful p. p.0) (λ v none. absurd none) c
