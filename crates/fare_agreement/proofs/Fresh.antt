-- Empty stores agree with any lists, and an empty ledger with all that waits for its owner.
use Rattle.std.proofs.Common.{◌≡◌, ℕ, List, [], take, Some, None, true, refl, sym, ap, ◌∙◌, arith}
use Rattle.std.specs.Prelude.{Option}
use Rattle.fare_record.specs.Values.{RecordValue}
use Rattle.fare_record.specs.Lanes.{part}
use Rattle.fare_scheme.specs.Values.{SchemeValue}
use Rattle.fare_store.specs.OutboxWords.{OutboxValue, IsEmptyOutbox}
use Rattle.fare_store.specs.LedgerWords.{LedgerValue, IsEmptyLedger, is_closed}
use Rattle.fare_world.specs.Knowing.{knows_owner}
use Rattle.fare_world.specs.Shown.{row_at}
use Rattle.fare_world.proofs.Lanes.{closed_first, closed_past}
use Rattle.fare_history.specs.Stores.{StoresValue}
use Rattle.fare_agreement.specs.Agreeing.{had, lane_agrees, Agrees, AreCountsOf, AreRowsOf}
use Rattle.fare_agreement.proofs.Unregistered.{row_of_none}

counts_none : (records : List RecordValue) (stated : ℕ → Option ℕ) → ((day : ℕ) → stated day ≡ None) → AreCountsOf records stated
counts_none records stated none = record { counted = λ day c e. let both : None ≡ Some c = sym (none day) ∙ e in absurd (cc) }

-- all that the outbox has had of the lane waits there
pub empty_lane : (lists : ℕ → List RecordValue) (x : OutboxValue) (l : LedgerValue) (o d : ℕ) → IsEmptyLedger l → AreRowsOf (had lists x o d) 0 (x.rows o d) → lane_agrees lists x l o d
empty_lane lists x l o d is rows = record {
  all = [];
  all_are = (had lists x o d, refl);
  taken_are = record { gone = 0; few = omega arith; are = is.taken d; past = λ k r less at. absurd (omega (arith, less)) };
  rows_are = record { gone = rows.gone; few = omega (arith, rows.few); are = rows.are };
  stated_are = counts_none (part o (lists d)) (l.stated d) (is.stated d);
  closed_are = record { whole = λ day shut. absurd (never day shut); met = λ day shut le. absurd (never day shut) };
}
  where
    never : (day : ℕ) → is_closed l d day ≡ true → ⊥
    never day shut = omega (arith, is.closed d, closed_first l.start (l.closed d) day shut, closed_past l.start (l.closed d) day shut)

pub empty_agrees : (sc : SchemeValue) (lists : ℕ → List RecordValue) (h : StoresValue) → IsEmptyOutbox h.outbox → ((owner : ℕ) → knows_owner sc owner ≡ true → IsEmptyLedger (h.ledgers owner)) → Agrees sc lists h
empty_agrees sc lists h outbox ledgers = record {
  lanes = λ o d known. empty_lane lists h.outbox (h.ledgers o) o d (ledgers o known) (rows o d);
  stated = λ o d. counts_none (part o (lists d)) (h.outbox.stated o d) (outbox.stated o d);
  untaken = λ o d known none. (ledgers o known).taken d;
  waiting = λ o d stranger. rows o d;
}
  where
    none : (o d : ℕ) → had lists h.outbox o d ≡ []
    none o d = ap (λ n. part o (take n (lists d))) (outbox.upto d)

    rows : (o d : ℕ) → AreRowsOf (had lists h.outbox o d) 0 (h.outbox.rows o d)
    rows o d = record { gone = 0; few = omega arith; are = λ n. outbox.rows o d n ∙ sym (ap (λ l. row_at 0 l n) (none o d) ∙ row_of_none 0 n) }
