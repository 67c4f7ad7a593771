-- Stores that look alike agree with the same lists.
use Rattle.std.proofs.Common.{◌≡◌, ◌+◌, ℕ, List, length, take, refl, sym, ◌∙◌, subst}
use Rattle.std.specs.Prelude.{Bool, ◌&&◌, if◌then◌else◌, nat_le, nat_lt, Option}
use Rattle.std.specs.List.{flat_map}
use Rattle.fare_cap.specs.Fares.{week_start}
use Rattle.fare_record.specs.Values.{RecordValue}
use Rattle.fare_record.specs.Lanes.{part}
use Rattle.fare_scheme.specs.Values.{SchemeValue}
use Rattle.fare_scheme.specs.declared.entry.Placement.{Placement}
use Rattle.fare_store.specs.OutboxWords.{OutboxValue, IsEmptyOutbox}
use Rattle.fare_store.specs.LedgerWords.{LedgerValue, IsEmptyLedger}
use Rattle.fare_world.specs.Headline.{IsPrefixOf}
use Rattle.fare_history.specs.Stores.{StoresValue}
use Rattle.fare_agreement.specs.Agreeing.{AreClosedOf, AreCountsOf, AreHeldOf, AreRowsOf, Agrees, lane_agrees}
use Rattle.fare_agreement.specs.Parts.{first_forgotten, parts_of}
use Rattle.fare_side.specs.OpenDays.{first_open, short_devices}
use Rattle.fare_sessions.specs.Billing.{gone_in, open_in, short_in}
use Rattle.fare_databases.specs.Holding.{OutboxesLook, LedgersLook, StoresLook}

pub outbox_self : (v : OutboxValue) → OutboxesLook v v
outbox_self v = record { upto = λ d. refl; rows = λ o d. refl; stated = λ o d. refl }

pub outbox_same : (v w : OutboxValue) → v ≡ w → OutboxesLook v w
outbox_same v w is = record { upto = λ d i. (sym is i).upto d; rows = λ o d i. (sym is i).rows o d; stated = λ o d i. (sym is i).stated o d }

pub outbox_empty : (v w : OutboxValue) → IsEmptyOutbox v → IsEmptyOutbox w → OutboxesLook v w
outbox_empty v w one two = record {
  upto = λ d. two.upto d ∙ sym (one.upto d);
  rows = λ o d i lane. (two.rows o d lane ∙ sym (one.rows o d lane)) i;
  stated = λ o d i day. (two.stated o d day ∙ sym (one.stated o d day)) i;
}

pub ledger_self : (v : LedgerValue) → LedgersLook v v
ledger_self v = record { start = refl; taken = λ d. refl; stated = λ d. refl; closed = λ d. refl; retired = λ d. refl; from = λ d. refl }

pub ledger_same : (v w : LedgerValue) → v ≡ w → LedgersLook v w
ledger_same v w is = record { start = λ i. (sym is i).start; taken = λ d i. (sym is i).taken d; stated = λ d i. (sym is i).stated d; closed = λ d i. (sym is i).closed d; retired = λ d i. (sym is i).retired d; from = λ d i. (sym is i).from d }

pub ledger_then : (u v w : LedgerValue) → LedgersLook u v → LedgersLook v w → LedgersLook u w
ledger_then u v w l m = record {
  start = m.start ∙ l.start;
  taken = λ d. m.taken d ∙ l.taken d;
  stated = λ d. m.stated d ∙ l.stated d;
  closed = λ d. m.closed d ∙ l.closed d;
  retired = λ d. m.retired d ∙ l.retired d;
  from = λ d. m.from d ∙ l.from d;
}

pub ledger_empty : (v w : LedgerValue) → w.start ≡ v.start → IsEmptyLedger v → IsEmptyLedger w → LedgersLook v w
ledger_empty v w start one two = record {
  start = start;
  taken = λ d. two.taken d ∙ sym (one.taken d);
  stated = λ d i day. (two.stated d day ∙ sym (one.stated d day)) i;
  closed = λ d. two.closed d ∙ sym (one.closed d);
  retired = λ d. two.retired d ∙ sym (one.retired d);
  from = λ d. two.from d ∙ sym (one.from d);
}

-- AGREEING
module _ (lists : ℕ → List RecordValue) (v w : OutboxValue) (looks : OutboxesLook v w) (l m : LedgerValue) (alike : LedgersLook l m) where
  lane_still : (owner device : ℕ) → lane_agrees lists v l owner device → lane_agrees lists w m owner device
  lane_still owner device is = record {
    all = is.all;
    all_are = subst (λ n. IsPrefixOf is.all (part owner (take n (lists device)))) (sym (looks.upto device)) is.all_are;
    taken_are = subst (λ (z : ((ℕ × ℕ) × (ℕ × Bool)) × List RecordValue). AreHeldOf is.all z.0.0.0 (z.0.0.1 + z.0.1.0) z.0.1.1 z.1) (λ i. (((sym (alike.from device) i, sym alike.start i), (sym (alike.closed device) i, sym (alike.retired device) i)), sym (alike.taken device) i)) is.taken_are;
    rows_are = subst (λ (z : ℕ × (List RecordValue × (ℕ → Option RecordValue))). AreRowsOf (part owner (take z.0 (lists device))) (length z.1.0) z.1.1) (λ i. (sym (looks.upto device) i, (sym (alike.taken device) i, sym (looks.rows owner device) i))) is.rows_are;
    stated_are = subst (λ (s : ℕ → Option ℕ). AreCountsOf (part owner (lists device)) s) (sym (alike.stated device)) is.stated_are;
    closed_are = subst (λ (z : (ℕ × ℕ) × (ℕ × (ℕ → Option ℕ))). AreClosedOf (part owner (lists device)) is.all z.1.1 (λ day. nat_le z.0.0 day && nat_lt day (z.0.0 + z.0.1)) z.1.0) (λ i. ((sym alike.start i, sym (alike.closed device) i), (sym (alike.from device) i, sym (alike.stated device) i))) is.closed_are;
  }

pub stores_agree : (sc : SchemeValue) (lists : ℕ → List RecordValue) (h k : StoresValue) → StoresLook sc h k → Agrees sc lists h → Agrees sc lists k
stores_agree sc lists h k looks is = record {
  lanes = λ owner device known. lane_still lists h.outbox k.outbox looks.outbox_looks (h.ledgers owner) (k.ledgers owner) (looks.ledgers_look owner known) owner device (is.lanes owner device known);
  stated = λ owner device. subst (λ (s : ℕ → Option ℕ). AreCountsOf (part owner (lists device)) s) (sym (looks.outbox_looks.stated owner device)) (is.stated owner device);
  untaken = λ owner device known none. (looks.ledgers_look owner known).taken device ∙ is.untaken owner device known none;
  waiting = λ owner device stranger.
      subst (λ (z : ℕ × (ℕ → Option RecordValue)). AreRowsOf (part owner (take z.0 (lists device))) 0 z.1) (λ i. (sym (looks.outbox_looks.upto device) i, sym (looks.outbox_looks.rows owner device) i)) (is.waiting owner device stranger);
}

-- BILLING
pub parts_alike : (sc : SchemeValue) (lists : ℕ → List RecordValue) (l m : LedgerValue) (owner : ℕ) → LedgersLook l m → parts_of sc lists m owner ≡ parts_of sc lists l owner
parts_alike sc lists l m owner looks i = flat_map (λ (d : ℕ × Placement). if looks.retired d.0 i then looks.taken d.0 i else part owner (lists d.0)) sc.devices

pub open_alike : (sc : SchemeValue) (l m : LedgerValue) (day : ℕ) → LedgersLook l m → open_in sc m day ≡ open_in sc l day
open_alike sc l m day looks i = first_open sc.start (λ d. looks.closed d i) (λ d. looks.retired d i) day sc.devices

pub short_alike : (sc : SchemeValue) (l m : LedgerValue) (day : ℕ) → LedgersLook l m → short_in sc m day ≡ short_in sc l day
short_alike sc l m day looks i = short_devices sc.start (λ d. looks.closed d i) (λ d. looks.retired d i) day sc.devices

pub gone_alike : (sc : SchemeValue) (l m : LedgerValue) (day : ℕ) → LedgersLook l m → gone_in sc m day ≡ gone_in sc l day
gone_alike sc l m day looks i = first_forgotten (λ d. looks.from d i) (week_start sc day) sc.devices
