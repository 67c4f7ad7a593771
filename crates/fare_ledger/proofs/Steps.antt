-- A read and a write of a ledger, by what was answered, of which the fault was counted.
use Rattle.std.proofs.Common.{◌≡◌, ℕ, Bool, Ok, Err, Some, None, Result, sym, ap, subst, ◌∙◌}
use Rattle.std.specs.Prelude.{IfOk, OnOk, OnErr, IsTrue}
use Rattle.sqlite_trees.specs.Tree.{Trees}
use Rattle.sqlite.specs.State.{State, Survives, HasCleanDisk}
use Rattle.fare_store.specs.declared.fault.Fault.{Fault}
use Rattle.fare_store.specs.LedgerWords.{LedgerValue}
use Rattle.fare_store.specs.Standing.{Standing, Calls, Counted, Makes, Reads, fault_of}
use Rattle.fare_tables.specs.Asking.{IsLive, IsUp, SameRows, IsAtRest}
use Rattle.fare_tables.specs.Tabled.{IsFit, IsLeft, tabled, given}
use Rattle.fare_tables.proofs.Steps.{noted_read, write_step, same_database, same_fit, same_at}
use Rattle.fare_ledger.specs.declared.layout.Layout.{Layout}
use Rattle.fare_ledger.specs.Layouts.{schema_in, ours}
use Rattle.fare_ledger.specs.Held.{Held, Becomes, MayBecome, IsReady, held_of}
use Rattle.fare_ledger.specs.Words.{value_at, value_in, FitTogether, IsLawful}
use Rattle.fare_ledger.proofs.Stored.{ready, left_held, becomes_left, becomes_lawful}

module _ (w : Layout) (o start : ℕ) (known : ℕ → Bool) where
  -- how it stands over a connection
  abbrev pub over : State → ℕ → Standing LedgerValue
  over s failures = tabled (schema_in w) (value_at w o start known) (IsLawful w o start) (IsLawful w o start) s failures

  pub reads : {A : Type 0} (old new : State) (n m : ℕ) (answer : A → Type 0) (r q : Result A Fault)
      → q ≡ r
      → IsUp old
      → (IsLive new → IsFit (schema_in w) (IsLawful w o start) old → IfOk r answer)
      → (IsLive new → IsAtRest (schema_in w) old → SameRows old new)
      → Survives old new (λ _. ¬ IsAtRest (schema_in w) old)
      → (IsLive new → IsLive old)
      → (HasCleanDisk new → OnOk r (IsTrue new.is_open))
      → Counted n m (fault_of q)
      → Reads (over old n) (over new m) answer q
  reads = noted_read (schema_in w) (value_at w o start known) (IsLawful w o start) (IsLawful w o start)

  made : (old new : State) (n m : ℕ) (fact : Type 0) (h : Held) (done : LedgerValue) (r : Result Unit Fault)
      → IsUp old
      → (fact → FitTogether o start (held_of (ours w old.now.trees)) → (value_in o start known h ≡ done) × FitTogether o start h)
      → (IsLive new → IsReady w old → OnOk r (Becomes w new.now h × (new.now ≡ new.committed)))
      → (IsLive new → IsReady w old → OnErr r (SameRows old new))
      → Survives old new (λ trees. IsReady w old → MayBecome w h trees)
      → (IsLive new → IsLive old)
      → (HasCleanDisk new → OnOk r (IsTrue new.is_open))
      → Counted n m (fault_of r)
      → Calls (given fact (over old n)) (over new m) (fault_of r) (Makes (value_at w o start known old.now.trees) (value_at w o start known new.now.trees) done r) (λ v. v ≡ done)
  made old new n m fact h done r up gives did failed crash live stays counted = by_answer r did failed stays counted
    where
      left : IsFit (schema_in w) (IsLawful w o start) old → (trees : Trees) → (IsReady w old → MayBecome w h trees) → fact → (value_at w o start known trees ≡ done) × IsLeft (schema_in w) (IsLawful w o start) trees
      left fit trees wrote may =
          let it = wrote (ready w o start old fit) in
          let gave = gives may fit.fits.together in
          (ap (value_in o start known) (left_held w h trees it) ∙ gave.0, becomes_left w o start h trees it gave.1)

      by_answer : (r : Result Unit Fault)
          → (IsLive new → IsReady w old → OnOk r (Becomes w new.now h × (new.now ≡ new.committed)))
          → (IsLive new → IsReady w old → OnErr r (SameRows old new))
          → (HasCleanDisk new → OnOk r (IsTrue new.is_open))
          → Counted n m (fault_of r)
          → Calls (given fact (over old n)) (over new m) (fault_of r) (Makes (value_at w o start known old.now.trees) (value_at w o start known new.now.trees) done r) (λ v. v ≡ done)
      by_answer (Ok x) did failed stays counted =
          write_step (schema_in w) (value_at w o start known) (IsLawful w o start) (IsLawful w o start) (IsLawful w o start) old new n m None fact (value_at w o start known new.now.trees ≡ done) done (λ (trees : Trees). IsReady w old → MayBecome w h trees) up
          (λ now fit.
          let wrote = did now (ready w o start old fit.0) in
          let gave = gives fit.1 fit.0.fits.together in
          (becomes_lawful w o start new h wrote gave.1, ap (value_in o start known) wrote.0.value ∙ gave.0))
          (λ now fit database. (did now (ready w o start old fit)).0.database)
          crash left live (λ e. stays) counted
      by_answer (Err f) did failed stays counted =
          write_step (schema_in w) (value_at w o start known) (IsLawful w o start) (IsLawful w o start) (IsLawful w o start) old new n m (Some f) fact (value_at w o start known new.now.trees ≡ value_at w o start known old.now.trees) done (λ (trees : Trees). IsReady w old → MayBecome w h trees) up
          (λ now fit.
          let same = failed now (ready w o start old fit.0) in
          (same_fit (schema_in w) (value_at w o start known) (IsLawful w o start) old new same fit.0, same_at (schema_in w) (value_at w o start known) old new same))
          (λ now fit database. same_database old new (failed now (ready w o start old fit)) database)
          crash left live (λ e. absurd (cc)) counted

  -- what the tables then hold, h, is what is done to the ledger
  pub makes : (old new : State) (n m : ℕ) (fact : Type 0) (h : Held) (done : LedgerValue) (r q : Result Unit Fault)
      → q ≡ r
      → IsUp old
      → (fact → FitTogether o start (held_of (ours w old.now.trees)) → (value_in o start known h ≡ done) × FitTogether o start h)
      → (IsLive new → IsReady w old → OnOk r (Becomes w new.now h × (new.now ≡ new.committed)))
      → (IsLive new → IsReady w old → OnErr r (SameRows old new))
      → Survives old new (λ trees. IsReady w old → MayBecome w h trees)
      → (IsLive new → IsLive old)
      → (HasCleanDisk new → OnOk r (IsTrue new.is_open))
      → Counted n m (fault_of q)
      → Calls (given fact (over old n)) (over new m) (fault_of q) (Makes (value_at w o start known old.now.trees) (value_at w o start known new.now.trees) done q) (λ v. v ≡ done)
  makes old new n m fact h done r q is up gives did failed crash live stays counted =
      subst (λ (x : Result Unit Fault). Calls (given fact (over old n)) (over new m) (fault_of x) (Makes (value_at w o start known old.now.trees) (value_at w o start known new.now.trees) done x) (λ v. v ≡ done)) (sym is)
      (made old new n m fact h done r up gives did failed crash live stays (subst (λ (x : Result Unit Fault). Counted n m (fault_of x)) is counted))
