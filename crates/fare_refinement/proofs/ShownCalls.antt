-- What the stores' calls make of stores that a system shows is what the events make of the system.
use Rattle.std.proofs.Common.{◌≡◌, ℕ, ◌+◌, ◌-◌, ◌≤◌, [], ◌∷◌, ◌++◌, length, take, Some, None, Bool, true, false, refl, sym, ap, ◌∙◌, arith}
use Rattle.std.specs.Prelude.{◌==◌, slice_get, if◌then◌else◌, Option, nat_le}
use Rattle.fare_record.specs.Values.{RecordValue, StatementValue}
use Rattle.fare_record.specs.Lanes.{part}
use Rattle.fare_scheme.specs.Values.{SchemeValue}
use Rattle.fare_store.specs.OutboxWords.{OutboxValue, behind, rows_upto}
use Rattle.fare_store.specs.OutboxWords as outbox
use Rattle.fare_store.specs.LedgerWords.{LedgerValue, took, with_statement, with_close, with_retired}
use Rattle.fare_store.specs.Tables.{put, put2}
use Rattle.fare_world.specs.System.{DeviceState, LaneState, System, numbered_for, arrived_of, stated_count}
use Rattle.fare_world.specs.Storing.{stored, stored_day}
use Rattle.fare_world.specs.Owning.{with_lane, closed_day, retired_lane, pruned}
use Rattle.fare_world.specs.Kept.{IsSystem}
use Rattle.fare_world.specs.Shown.{row_at, count_of, IsAt, IsLedgerOf}
use Rattle.fare_world.proofs.RowPlaces.{row_push, row_pruned, rows_pruned}
use Rattle.fare_world.proofs.Lists.{part-push, take-one_more}
use Rattle.fare_store.proofs.Entries.{is_self, other_way, put_all, put_apart, put_both, put_here}
use Rattle.fare_world.proofs.ShowForward.{took_arrived}
use Rattle.fare_refinement.specs.ShownStores.{ShowsOutbox, ShowsLedger}

-- a tap is stored
pub outbox_stores : (sc : SchemeValue) (s : System) (r : RecordValue) (x : OutboxValue) → IsSystem sc s → IsAt (s.devices r.device).taps ((s.devices r.device).upto + 1) r → ShowsOutbox s x → ShowsOutbox (stored s r.device) (outbox.stored r x)
outbox_stores sc s r x h at is = record {
  upto = put_both (λ j a (v : DeviceState). a ≡ v.upto) x.upto s.devices d r.link new is.upto link;
  rows = λ p j n. put_apart (λ i (v : DeviceState). put2 x.rows r.owner d added p i n ≡ row_at (s.lanes p i).gone (part p (take v.upto v.taps)) n) s.devices d new (λ i other. ap (λ f. f n) (elsewhere p i other) ∙ is.rows p i n) (here n p) j;
  row_count = ap (λ n. n + 1) is.row_count;
  stated = λ o j day. is.stated o j day ∙ ap (λ l. count_of (s.held o j day) (part o l) day) (sym (put_all (λ i (v : DeviceState). v.taps ≡ (s.devices i).taps) s.devices d new (λ i. refl) refl j));
  stated_count = is.stated_count;
}
  where
    d : ℕ
    d = r.device

    v : DeviceState
    v = s.devices d

    new : DeviceState
    new = record v { upto = v.upto + 1 }

    added : ℕ → Option RecordValue
    added = put (x.rows r.owner d) r.lane (Some r)

    at_end : slice_get v.taps v.upto ≡ Some r
    at_end = let same : v.upto + 1 - 1 ≡ v.upto = omega arith in sym (ap (slice_get v.taps) same) ∙ at.here

    link : r.link ≡ v.upto + 1
    link = ((h.devices d).numbered v.upto r at_end).link

    elsewhere : (p i : ℕ) → (i == d) ≡ false → put2 x.rows r.owner d added p i ≡ x.rows p i
    elsewhere p i other = put_all (λ q (f : ℕ → ℕ → Option RecordValue). f i ≡ x.rows q i) x.rows r.owner (put (x.rows r.owner) d added) (λ q. refl) (ap (λ b. if b then added else x.rows r.owner i) other) p

    -- what the outbox has had of each lane of the device
    arrives : (p : ℕ) → part p (take (v.upto + 1) v.taps) ≡ (if r.owner == p then arrived_of p v ++ r ∷ [] else arrived_of p v)
    arrives p = ap (part p) (take-one_more v.taps v.upto r at_end) ∙ part-push p (take v.upto v.taps) r

    gone : (s.lanes r.owner d).gone ≤ length (arrived_of r.owner v)
    gone = omega (arith, (h.lanes r.owner d).gone, took_arrived sc s r.owner d h)

    lane : r.lane ≡ length (arrived_of r.owner v) + 1
    lane = ((h.devices d).numbered v.upto r at_end).lane

    here : (n p : ℕ) → put2 x.rows r.owner d added p d n ≡ row_at (s.lanes p d).gone (part p (take (v.upto + 1) v.taps)) n
    here n = put_apart (λ p (f : ℕ → ℕ → Option RecordValue). f d n ≡ row_at (s.lanes p d).gone (part p (take (v.upto + 1) v.taps)) n) x.rows r.owner (put (x.rows r.owner) d added)
        (λ p other. is.rows p d n ∙ sym (ap (λ l. row_at (s.lanes p d).gone l n) (arrives p ∙ ap (λ b. if b then arrived_of p v ++ r ∷ [] else arrived_of p v) (other_way p r.owner other))))
        (ap (λ f. f n) (put_here (x.rows r.owner) d added) ∙ ap (λ z. if n == r.lane then Some r else z) (is.rows r.owner d n) ∙ row_push (s.lanes r.owner d).gone (arrived_of r.owner v) r r.lane n gone lane ∙ sym (ap (λ l. row_at (s.lanes r.owner d).gone l n) (arrives r.owner ∙ ap (λ b. if b then arrived_of r.owner v ++ r ∷ [] else arrived_of r.owner v) (is_self r.owner))))

-- a statement is stored
pub outbox_states : (s : System) (v : StatementValue) (x : OutboxValue) → v.count ≡ stated_count s v.owner v.device v.day → ShowsOutbox s x → ShowsOutbox (stored_day s v.device v.day v.owner) (outbox.stored_statement v x)
outbox_states s v x count is = record {
  upto = is.upto;
  rows = is.rows;
  row_count = is.row_count;
  stated = put_both (λ p (f : ℕ → ℕ → Option ℕ) (g : ℕ → ℕ → Bool). (j k : ℕ) → f j k ≡ count_of (g j k) (numbered_for s p j) k) x.stated s.held o (put (x.stated o) d (put (x.stated o d) day (Some v.count))) (put (s.held o) d (put (s.held o d) day true)) is.stated
      (put_both (λ j (f : ℕ → Option ℕ) (g : ℕ → Bool). (k : ℕ) → f k ≡ count_of (g k) (numbered_for s o j) k) (x.stated o) (s.held o) d (put (x.stated o d) day (Some v.count)) (put (s.held o d) day true) (is.stated o)
      (put_both (λ k a b. a ≡ count_of b (numbered_for s o d) k) (x.stated o d) (s.held o d) day (Some v.count) true (is.stated o d) (ap Some count)));
  stated_count = ap (λ n. n + 1) is.stated_count;
}
  where
    o : ℕ
    o = v.owner

    d : ℕ
    d = v.device

    day : ℕ
    day = v.day

-- the rows up to what was taken are pruned
pub outbox_prunes : (sc : SchemeValue) (s : System) (o d : ℕ) (x : OutboxValue) → IsSystem sc s → ShowsOutbox s x → ShowsOutbox (pruned s o d) (outbox.pruned o d (s.lanes o d).took x)
outbox_prunes sc s o d x h is = record {
  upto = is.upto;
  rows = put_both (λ p (f : ℕ → ℕ → Option RecordValue) (g : ℕ → LaneState). (j n : ℕ) → f j n ≡ row_at (g j).gone (arrived_of p (s.devices j)) n) x.rows s.lanes o (put (x.rows o) d left) (put (s.lanes o) d new) is.rows
      (put_both (λ j (f : ℕ → Option RecordValue) (l : LaneState). (n : ℕ) → f n ≡ row_at l.gone (arrived_of o (s.devices j)) n) (x.rows o) (s.lanes o) d left new (is.rows o) here);
  row_count = λ i. is.row_count i - counted i;
  stated = is.stated;
  stated_count = is.stated_count;
}
  where
    l : LaneState
    l = s.lanes o d

    new : LaneState
    new = record l { gone = l.took }

    left : ℕ → Option RecordValue
    left = behind l.took (x.rows o d)

    here : (n : ℕ) → left n ≡ row_at l.took (arrived_of o (s.devices d)) n
    here n = ap (λ z. if nat_le n l.took then None else z) (is.rows o d n) ∙ row_pruned l.gone l.took (arrived_of o (s.devices d)) n (h.lanes o d).gone

    counted : rows_upto l.took (x.rows o d) ≡ l.took - l.gone
    counted = (λ i. rows_upto l.took (λ n. is.rows o d n i)) ∙ rows_pruned l.gone (arrived_of o (s.devices d)) l.took (took_arrived sc s o d h)

-- a ledger, by its owner's lanes
ledger_by : (sc : SchemeValue) (s t : System) (o : ℕ) (x : LedgerValue) (ls : ℕ → LaneState) → t.lanes o ≡ ls → t.devices ≡ s.devices → IsLedgerOf sc o x → ((d : ℕ) → x.taken d ≡ take (ls d).took (numbered_for s o d)) → ((d day : ℕ) → x.stated d day ≡ count_of ((ls d).stated day) (numbered_for s o d) day) → ((d : ℕ) → x.closed d ≡ (ls d).closed) → ((d : ℕ) → x.retired d ≡ (ls d).retired) → ShowsLedger sc t o x
ledger_by sc s t o x ls lanes devices ledger taken stated closed retired = record {
  ledger = ledger;
  taken = λ d. taken d ∙ sym (λ i. take (lanes i d).took (part o (devices i d).taps));
  stated = λ d day. stated d day ∙ sym (λ i. count_of ((lanes i d).stated day) (part o (devices i d).taps) day);
  closed = λ d. closed d ∙ sym (λ i. (lanes i d).closed);
  retired = λ d. retired d ∙ sym (λ i. (lanes i d).retired);
}

-- a tap is taken
pub ledger_takes : (sc : SchemeValue) (s : System) (o : ℕ) (r : RecordValue) (x : LedgerValue) → IsSystem sc s → IsAt (numbered_for s o r.device) ((s.lanes o r.device).took + 1) r → ShowsLedger sc s o x
    → ShowsLedger sc (with_lane s o r.device (record (s.lanes o r.device) { took = (s.lanes o r.device).took + 1 })) o (took r x)
ledger_takes sc s o r x h at is =
    ledger_by sc s (with_lane s o d new) o (took r x) (put (s.lanes o) d new) (put_here s.lanes o (put (s.lanes o) d new)) refl
    (record { id = is.ledger.id; made = record { start = is.ledger.made.start; knows = is.ledger.made.knows } })
    (put_both (λ j a (l : LaneState). a ≡ take l.took (numbered_for s o j)) x.taken (s.lanes o) d (x.taken d ++ r ∷ []) new is.taken (ap (λ l. l ++ r ∷ []) (is.taken d) ∙ sym (take-one_more (numbered_for s o d) (s.lanes o d).took r at_end)))
    (put_all (λ j (l : LaneState). (day : ℕ) → x.stated j day ≡ count_of (l.stated day) (numbered_for s o j) day) (s.lanes o) d new is.stated (is.stated d))
    (put_all (λ j (l : LaneState). x.closed j ≡ l.closed) (s.lanes o) d new is.closed (is.closed d))
    (put_all (λ j (l : LaneState). x.retired j ≡ l.retired) (s.lanes o) d new is.retired (is.retired d))
  where
    d : ℕ
    d = r.device

    new : LaneState
    new = record (s.lanes o d) { took = (s.lanes o d).took + 1 }

    at_end : slice_get (numbered_for s o d) (s.lanes o d).took ≡ Some r
    at_end = let same : (s.lanes o d).took + 1 - 1 ≡ (s.lanes o d).took = omega arith in sym (ap (slice_get (numbered_for s o d)) same) ∙ at.here

-- a statement is taken
pub ledger_states : (sc : SchemeValue) (s : System) (o : ℕ) (v : StatementValue) (x : LedgerValue) → v.count ≡ stated_count s o v.device v.day → ShowsLedger sc s o x
    → ShowsLedger sc (with_lane s o v.device (record (s.lanes o v.device) { stated = put (s.lanes o v.device).stated v.day true })) o (with_statement v x)
ledger_states sc s o v x count is =
    ledger_by sc s (with_lane s o d new) o (with_statement v x) (put (s.lanes o) d new) (put_here s.lanes o (put (s.lanes o) d new)) refl
    (record { id = is.ledger.id; made = record { start = is.ledger.made.start; knows = is.ledger.made.knows } })
    (put_all (λ j (l : LaneState). x.taken j ≡ take l.took (numbered_for s o j)) (s.lanes o) d new is.taken (is.taken d))
    (put_both (λ j (f : ℕ → Option ℕ) (l : LaneState). (k : ℕ) → f k ≡ count_of (l.stated k) (numbered_for s o j) k) x.stated (s.lanes o) d (put (x.stated d) v.day (Some v.count)) new is.stated
    (put_both (λ k a b. a ≡ count_of b (numbered_for s o d) k) (x.stated d) (s.lanes o d).stated v.day (Some v.count) true (is.stated d) (ap Some count)))
    (put_all (λ j (l : LaneState). x.closed j ≡ l.closed) (s.lanes o) d new is.closed (is.closed d))
    (put_all (λ j (l : LaneState). x.retired j ≡ l.retired) (s.lanes o) d new is.retired (is.retired d))
  where
    d : ℕ
    d = v.device

    new : LaneState
    new = record (s.lanes o d) { stated = put (s.lanes o d).stated v.day true }

-- a day is closed
pub ledger_closes : (sc : SchemeValue) (s : System) (o d : ℕ) (x : LedgerValue) → ShowsLedger sc s o x → ShowsLedger sc (closed_day s o d) o (with_close d x)
ledger_closes sc s o d x is =
    ledger_by sc s (closed_day s o d) o (with_close d x) (put (s.lanes o) d new) (put_here s.lanes o (put (s.lanes o) d new)) refl
    (record { id = is.ledger.id; made = record { start = is.ledger.made.start; knows = is.ledger.made.knows } })
    (put_all (λ j (l : LaneState). x.taken j ≡ take l.took (numbered_for s o j)) (s.lanes o) d new is.taken (is.taken d))
    (put_all (λ j (l : LaneState). (day : ℕ) → x.stated j day ≡ count_of (l.stated day) (numbered_for s o j) day) (s.lanes o) d new is.stated (is.stated d))
    (put_both (λ j a (l : LaneState). a ≡ l.closed) x.closed (s.lanes o) d (x.closed d + 1) new is.closed (ap (λ n. n + 1) (is.closed d)))
    (put_all (λ j (l : LaneState). x.retired j ≡ l.retired) (s.lanes o) d new is.retired (is.retired d))
  where
    new : LaneState
    new = record (s.lanes o d) { closed = (s.lanes o d).closed + 1 }

-- a lane is retired
pub ledger_retires : (sc : SchemeValue) (s : System) (o d : ℕ) (x : LedgerValue) → ShowsLedger sc s o x → ShowsLedger sc (retired_lane s o d) o (with_retired d x)
ledger_retires sc s o d x is =
    ledger_by sc s (retired_lane s o d) o (with_retired d x) (put (s.lanes o) d new) (put_here s.lanes o (put (s.lanes o) d new)) refl
    (record { id = is.ledger.id; made = record { start = is.ledger.made.start; knows = is.ledger.made.knows } })
    (put_all (λ j (l : LaneState). x.taken j ≡ take l.took (numbered_for s o j)) (s.lanes o) d new is.taken (is.taken d))
    (put_all (λ j (l : LaneState). (day : ℕ) → x.stated j day ≡ count_of (l.stated day) (numbered_for s o j) day) (s.lanes o) d new is.stated (is.stated d))
    (put_all (λ j (l : LaneState). x.closed j ≡ l.closed) (s.lanes o) d new is.closed (is.closed d))
    (put_both (λ j a (l : LaneState). a ≡ l.retired) x.retired (s.lanes o) d true new is.retired refl)
  where
    new : LaneState
    new = record (s.lanes o d) { retired = true }
