use Rattle.std.proofs.Common.{◌≡◌, ◌+◌, ◌<◌, None, Some, length, set, refl, ap, ◌∙◌, arith, length-set}
use Rattle.std.specs.Prelude.{Ok, Err}
use Rattle.std.proofs.lemmas.Map.Entries.{length-keys_of}
use Rattle.fare_scheme.proofs.Slices.{item_at}
use Rattle.fare_store.specs.Standing.{Reads}
use Rattle.fare_store.specs.LedgerWords.{LedgerValue, closed_through}
use Rattle.fare_side.specs.Resuming.{AreStandings}
use Rattle.fare_store.proofs.Readings.{read_failed, reads_none, reads_since, since_calls, calls_since, read_then, reads_say}
use Rattle.fare_side.proofs.Told.{ToldTo, one_told, standing_of, standings_told}
use Rattle.fare_side.proofs.owner.Owner.ask.Goals as goal

pub loop-place-init : goal.loop-place-init
loop-place-init g c =
    let first = g.L.Ledger.standing c.args.self.now.ledger in
    record {
      read = reads_none first (0 < 0) (ToldTo c.args.scheme.now (standing_of first.value) 0 c.args.self.now.standings.items) (λ lt. omega (arith, lt)) (record { each = λ d k n lt. absurd (omega (arith, lt)) });
      count = refl;
      queue = refl;
      hand = refl;
      forwarder = refl;
    }

pub loop-place-preserved : goal.loop-place-preserved
loop-place-preserved g c =
    let i = c.loop-place.invariant in
    let sc = c.args.scheme.now in
    let device = c.device-item.result in
    let k = c.loop-place.place in
    let xs = c.loop-place.self.standings.items in
    let n = c.in_ok-taken.taken in
    let day = c.in_ok-closed.closed in
    let first = g.L.Ledger.standing c.args.self.now.ledger in
    let before = g.L.Ledger.standing c.loop-place.self.ledger in
    let mid = g.L.Ledger.standing c.count.new.self in
    let now = g.L.Ledger.standing c.closed_through.new.self in
    let one : Reads before mid (λ m. m ≡ length (before.value.taken device)) (Ok n) = c.in_ok-taken.ensures in
    let two : Reads mid now (λ d. d ≡ closed_through mid.value device) (Ok day) = c.in_ok-closed.ensures in
    let counted = reads_since first before mid (0 < k) (ToldTo sc (standing_of first.value) k xs) (n ≡ length (before.value.taken device)) None i.read one in
    record {
      read = since_calls first now (0 < k + 1) (ToldTo sc (standing_of first.value) (k + 1) (set xs k (n, day))) (reads_say first now ((mid.value ≡ first.value) × ((before.value ≡ first.value) × ToldTo sc (standing_of first.value) k xs × (n ≡ length (before.value.taken device))) × (day ≡ closed_through mid.value device)) (ToldTo sc (standing_of first.value) (k + 1) (set xs k (n, day))) None
          (λ is. (
            is.0,
            one_told sc (standing_of first.value) xs k device (n, day) is.1.1.1 (c.devices-device-items.ensures.placed c.loop-place.place c.device-item.result (item_at c.devices-device-items.result.now c.loop-place.place c.device-item.result c.loop-place-test.true c.device-item.is))
                (λ j. ((is.1.1.2 ∙ ap (λ (v : LedgerValue). length (v.taken device)) is.1.1.0) j, (is.1.2 ∙ ap (λ (v : LedgerValue). closed_through v device) is.1.0) j)),
          ))
          (read_then first mid now ((before.value ≡ first.value) × ToldTo sc (standing_of first.value) k xs × (n ≡ length (before.value.taken device))) (day ≡ closed_through mid.value device) None counted two));
      count = length-set xs k (n, day) ∙ i.count;
      queue = i.queue;
      hand = i.hand;
      forwarder = i.forwarder;
    }

pub returns-clause-read : goal.returns-clause-read
returns-clause-read g c =
    let i = c.loop-place.invariant in
    let sc = c.args.scheme.now in
    let first = g.L.Ledger.standing c.args.self.now.ledger in
    let last = g.L.Ledger.standing c.loop-place.self.ledger in
    reads_say first last (ToldTo sc (standing_of first.value) c.loop-place.place c.loop-place.self.standings.items) (AreStandings sc first.value c.loop-place.self.standings.items) None
    (λ is. (is.0, standings_told sc first.value c.loop-place.self.standings.items c.loop-place.place is.1 (omega (arith, c.loop-place-test.false, ap length c.devices-device-items.ensures.value, length-keys_of c.args.scheme.now.devices)) (omega (arith, c.requires, i.count))))
    (calls_since first last (0 < c.loop-place.place) (ToldTo sc (standing_of first.value) c.loop-place.place c.loop-place.self.standings.items) (omega (arith, c.loop-place-test.false, ap length c.devices-device-items.ensures.value, length-keys_of c.args.scheme.now.devices, c.devices-device-items.ensures.valid.has_device)) i.read)

pub returns-in_err-taken-clause-read : goal.returns-in_err-taken-clause-read
returns-in_err-taken-clause-read g c =
    let i = c.loop-place.invariant in
    let sc = c.args.scheme.now in
    let device = c.device-item.result in
    let first = g.L.Ledger.standing c.args.self.now.ledger in
    let before = g.L.Ledger.standing c.loop-place.self.ledger in
    let mid = g.L.Ledger.standing c.count.new.self in
    let one : Reads before mid (λ m. m ≡ length (before.value.taken device)) (Err c.in_err-taken.field-0.0) = c.in_err-taken.ensures in
    read_failed first mid _ _ c.from_residual.result c.in_err-taken.field-0.0 c.from_residual.ensures.1
    (reads_since first before mid (0 < c.loop-place.place) (ToldTo sc (standing_of first.value) c.loop-place.place c.loop-place.self.standings.items) (Unit {0}) (Some c.in_err-taken.field-0.0) i.read one)

pub returns-in_err-closed-clause-read : goal.returns-in_err-closed-clause-read
returns-in_err-closed-clause-read g c =
    let i = c.loop-place.invariant in
    let sc = c.args.scheme.now in
    let device = c.device-item.result in
    let n = c.in_ok-taken.taken in
    let first = g.L.Ledger.standing c.args.self.now.ledger in
    let before = g.L.Ledger.standing c.loop-place.self.ledger in
    let mid = g.L.Ledger.standing c.count.new.self in
    let now = g.L.Ledger.standing c.closed_through.new.self in
    let one : Reads before mid (λ m. m ≡ length (before.value.taken device)) (Ok n) = c.in_ok-taken.ensures in
    let two : Reads mid now (λ d. d ≡ closed_through mid.value device) (Err c.in_err-closed.field-0.0) = c.in_err-closed.ensures in
    let counted = reads_since first before mid (0 < c.loop-place.place) (ToldTo sc (standing_of first.value) c.loop-place.place c.loop-place.self.standings.items) (n ≡ length (before.value.taken device)) None i.read one in
    read_failed first now _ _ c.from_residual-in_err-closed.result c.in_err-closed.field-0.0 c.from_residual-in_err-closed.ensures.1
    (read_then first mid now ((before.value ≡ first.value) × ToldTo sc (standing_of first.value) c.loop-place.place c.loop-place.self.standings.items × (n ≡ length (before.value.taken device))) (Unit {0}) (Some c.in_err-closed.field-0.0) counted two)
