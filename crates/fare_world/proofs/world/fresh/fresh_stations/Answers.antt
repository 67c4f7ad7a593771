use Rattle.std.proofs.Common.{◌≡◌, ℕ, ◌+◌, ◌++◌, ◌∷◌, [], Some, length, sym, ap, ◌∙◌, arith}
use Rattle.std.specs.Prelude.{slice_get}
use Rattle.std.proofs.lemmas.List.{length_push}
use Rattle.std.proofs.lemmas.Map.Entries.{length-keys_of}
use Rattle.fare_scheme.proofs.Slices.{item_at}
use Rattle.circular_buffer.specs.Buffer.{buffer}
use Rattle.fare_scheme.specs.Words.{position_of_station}
use Rattle.fare_collector.specs.Collecting.{next_in, first_link}
use Rattle.fare_side.specs.declared.station.Station.{Station}
use Rattle.fare_world.specs.Fresh.{IsFreshStation}
use Rattle.fare_world.proofs.Starting.{one_station_more}
use Rattle.fare_world.proofs.world.fresh.fresh_stations.Goals as goal

pub loop-id-preserved : goal.loop-id-preserved
loop-id-preserved c =
    let sc = c.args.scheme.now in
    let xs = c.loop-id.stations.items in
    let i = c.loop-id.invariant in
    let collector = c.in-Ok.collector in
    let station : Station = record { collector = collector; line = c.in_ok-line-in-Ok.line } in
    let is_there : collector.station ≡ c.id-item.result = c.in-Ok.ensures.station in
    let at : position_of_station sc collector.station ≡ Some (length xs) = ap (position_of_station sc) is_there ∙ (c.stations-id-items.ensures.placed c.loop-id.id-index c.id-item.result (item_at c.stations-id-items.result.now c.loop-id.id-index c.id-item.result c.loop-id-test.true c.id-item.is)) ∙ ap Some (sym i.count) in
    let nexts : (device : ℕ) → next_in collector device ≡ first_link sc collector.station device = λ device. c.in-Ok.ensures.next device ∙ ap (λ q. first_link sc q device) (sym is_there) in
    let is : IsFreshStation sc (length xs) station = record { at = at; nexts = nexts; line = c.in_ok-line-in-Ok.ensures ∙ ap (buffer []) c.inbox_capacity-room.ensures.value } in
    let pushed : c.push.new.self.items ≡ xs ++ station ∷ [] = c.in_ok-push-in-Ok.ensures.items in
    record {
      count = ap length pushed ∙ length_push xs station ∙ ap (λ n. n + 1) i.count;
      each = λ k x e. one_station_more sc xs station i.each is k x (ap (λ l. slice_get l k) (sym pushed) ∙ e);
    }

pub returns : goal.returns
returns c =
    let all : c.loop-id.id-index ≡ length c.args.scheme.now.stations = omega (arith, ap length c.stations-id-items.ensures.value, length-keys_of c.args.scheme.now.stations, c.loop-id-test.false, c.loop-id.auto.id-index-end) in
    record { count = c.loop-id.invariant.count ∙ all; each = c.loop-id.invariant.each }
