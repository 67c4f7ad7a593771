use Rattle.std.proofs.Common.{◌≤◌, ◌+◌, ◌≡◌, Some, length, refl, sym, ap, ◌∙◌, arith}
use Rattle.std.specs.Prelude.{◌<◌, slice_get, unwrap_or, option_and_then}
use Rattle.std.proofs.lemmas.Option.{slice_get_read}
use Rattle.std.proofs.lemmas.Map.Entries.{length-keys_of}
use Rattle.fare_scheme.proofs.Slices.{item_at}
use Rattle.fare_collector.specs.Collecting.{next_in, changed}
use Rattle.fare_scheme.specs.Words.{position_of_device}
use Rattle.fare_side.specs.Resuming.{upto_at}
use Rattle.fare_side.proofs.Resuming.{one_resumed, none_resumed, all_resumed, others_stay}
use Rattle.fare_side.proofs.station.Station.resume_all.Goals as goal

pub loop-place-init : goal.loop-place-init
loop-place-init c = record { nexts = none_resumed c.args.scheme.now (λ d. upto_at c.args.scheme.now c.args.uptos.now d + 1) (next_in c.args.self.now.collector); station = refl; line = refl }

pub loop-place-preserved : goal.loop-place-preserved
loop-place-preserved c =
    let now = next_in c.loop-place.self.collector in
    let device = c.device-item.result in
    let at : position_of_device c.args.scheme.now device ≡ Some c.loop-place.place = c.devices-device-items.ensures.placed c.loop-place.place c.device-item.result (item_at c.devices-device-items.result.now c.loop-place.place c.device-item.result c.loop-place-test.true c.device-item.is) in
    let within : c.loop-place.place < length c.args.uptos.now = omega (arith, c.requires.count, c.loop-place-test.true, ap length c.devices-device-items.ensures.value, length-keys_of c.args.scheme.now.devices) in
    let read : slice_get c.args.uptos.now c.loop-place.place ≡ Some c.in-Some.upto.now = slice_get_read c.args.uptos.now (length c.args.uptos.now) c.loop-place.place c.in-Some.upto.now refl within c.in-Some.ensures.lookup.1 in
    let upto_is : c.in-Some.upto.now ≡ upto_at c.args.scheme.now c.args.uptos.now device = sym (ap (λ p. unwrap_or (option_and_then (slice_get c.args.uptos.now) p) 0) at ∙ ap (λ o. unwrap_or o 0) read) in
    record {
      nexts = one_resumed c.args.scheme.now (λ d. upto_at c.args.scheme.now c.args.uptos.now d + 1) (next_in c.args.self.now.collector) now (next_in c.resume.new.self) c.loop-place.place device at c.loop-place.invariant.nexts
          (λ d. c.resume.ensures.next d ∙ ap (λ upto. changed (λ _. upto + 1) now device d) upto_is);
      station = c.resume.ensures.station ∙ c.loop-place.invariant.station;
      line = c.loop-place.invariant.line;
    }

pub returns-clause-resumed : goal.returns-clause-resumed
returns-clause-resumed c =
    let all : length c.args.scheme.now.devices ≤ c.loop-place.place = omega (arith, c.loop-place-test.false, ap length c.devices-device-items.ensures.value, length-keys_of c.args.scheme.now.devices) in
    λ device known. c.loop-place.invariant.nexts device ∙ all_resumed c.args.scheme.now (λ d. upto_at c.args.scheme.now c.args.uptos.now d + 1) (next_in c.args.self.now.collector) c.loop-place.place device all known

pub returns-clause-others : goal.returns-clause-others
returns-clause-others c = λ device none. c.loop-place.invariant.nexts device ∙ others_stay c.args.scheme.now (λ d. upto_at c.args.scheme.now c.args.uptos.now d + 1) (next_in c.args.self.now.collector) c.loop-place.place device none

pub returns-clause-station : goal.returns-clause-station
returns-clause-station c = c.loop-place.invariant.station

pub returns-clause-line : goal.returns-clause-line
returns-clause-line c = c.loop-place.invariant.line
