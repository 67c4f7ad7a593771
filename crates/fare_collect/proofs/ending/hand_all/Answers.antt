use Rattle.std.proofs.Common.{◌≡◌, ◌∷◌, ◌++◌, [], List, length, ap, sym, subst, ◌∙◌, slice_index_or, arith}
use Rattle.std.proofs.lemmas.Grind.{common_steps}
use Rattle.fare_inbox_queue.specs.declared.ack_line.AckLine.{AckLine}
use Rattle.fare_inbox_queue.specs.declared.ack_passes.HearPass.{HearPass}
use Rattle.fare_writer.specs.declared.teller.Teller.{Teller}
use Rattle.fare_collect.specs.Opening.{AreHears}
use Rattle.fare_writer.specs.Handling.{AreTellers}
use Rattle.fare_collect.proofs.Served.{last_line}
use Rattle.fare_collect.proofs.Handed.{handing_none, handing_more}
use Rattle.fare_collect.proofs.ending.hand_all.Goals as goal

pub hand_left-requires : goal.hand_left-requires
hand_left-requires g c =
    let inv = c.loop-line.invariant in
    let P : List AckLine × (List Teller × List HearPass) → Type 0 = λ y. AreTellers y.0 y.1.0 × AreHears y.0 y.1.1 in
    let both : P (c.pop.new.self.items ++ c.in-Some.line ∷ [], (c.pop-in-Some.new.self.items ++ c.in-Some-pop.teller ∷ [], c.pop-in-Some-2.new.self.items ++ c.in-Some-pop-2.hear ∷ [])) =
    subst P (λ i. (c.in-Some.ensures.items i, (c.in-Some-pop.ensures.items i, c.in-Some-pop-2.ensures.items i))) (inv.0, inv.1) in
    (last_line c.pop.new.self.items c.pop-in-Some.new.self.items c.pop-in-Some-2.new.self.items c.in-Some.line c.in-Some-pop.teller c.in-Some-pop-2.hear both.0 both.1).1

pub loop-line-init : goal.loop-line-init
loop-line-init g c =
    let te = c.requires.tellers.len in
    let he = c.requires.hears.len in
    let few = c.requires.few in
    (c.requires.tellers, c.requires.hears, handing_none g.S.Source.talk c.args.tellers.items c.args.hears.items c.args.stations.now (he ∙ sym te) (omega (arith, te, few)))

pub loop-line-preserved : goal.loop-line-preserved
loop-line-preserved g c =
    let inv = c.loop-line.invariant in
    let all = c.loop-line.stations in
    let n = c.len-place.result in
    let d = c.index-stations-place.result in
    let P : List AckLine × (List Teller × List HearPass) → Type 0 = λ y. AreTellers y.0 y.1.0 × AreHears y.0 y.1.1 in
    let both : P (c.pop.new.self.items ++ c.in-Some.line ∷ [], (c.pop-in-Some.new.self.items ++ c.in-Some-pop.teller ∷ [], c.pop-in-Some-2.new.self.items ++ c.in-Some-pop-2.hear ∷ [])) =
    subst P (λ i. (c.in-Some.ensures.items i, (c.in-Some-pop.ensures.items i, c.in-Some-pop-2.ensures.items i))) (inv.0, inv.1) in
    let ready = (last_line c.pop.new.self.items c.pop-in-Some.new.self.items c.pop-in-Some-2.new.self.items c.in-Some.line c.in-Some-pop.teller c.in-Some-pop-2.hear both.0 both.1).0 in
    let lines : n ≡ length c.pop.new.self.items = grind (arith, common_steps) in
    let at : n ≡ length c.pop-in-Some.new.self.items = lines ∙ sym ready.0.len in (
      ready.0,
      ready.1,
      handing_more g.S.Source.talk c.args.tellers.items c.loop-line.tellers.items c.pop-in-Some.new.self.items c.args.hears.items c.loop-line.hears.items c.pop-in-Some-2.new.self.items c.args.stations.now all c.in-Some-pop.teller c.in-Some-pop-2.hear n
          (slice_index_or all n d) c.hand_left.new.station inv.2 c.in-Some-pop.ensures.items c.in-Some-pop-2.ensures.items at (ap (slice_index_or all n) c.index-stations-place.is) c.hand_left.ensures,
    )
