use Rattle.std.proofs.Common.{◌≡◌, ◌+◌, ◌++◌, ◌∷◌, [], take, nat_eq, sym, ap, ◌∙◌}
use Rattle.std.specs.Prelude.{Vec, option_to_list}
use Rattle.std.specs.Global.{Global}
use Rattle.std.specs.HashMap.{get}
use Rattle.std.proofs.lemmas.List.{take_more, append_assoc, append-nil}
use Rattle.fare_record.specs.Values.{RecordValue}
use Rattle.fare_store.specs.TapPlaces.{Mark, Places, items_of, gone_in, at_place, rows_at}
use Rattle.fare_store.proofs.Between.{rows_more}
use Rattle.fare_store.proofs.plain_ledger.PlainLedger.add_taps_of.Goals.{in-Some-row_at+in_ok-push, in_default-row_at}
use Rattle.fare_store.proofs.plain_ledger.PlainLedger.add_taps_of.Goals as goal

pub loop-mark-preserved : goal.loop-mark-preserved
loop-mark-preserved c =
    let taken : Places = at_place (λ device. gone_in (get nat_eq c.args.self.now.gone device)) (λ device. items_of (get nat_eq c.args.self.now.taken device)) in
    let marks = c.deref-mark-items.result.now in
    let k = c.loop-mark.mark-index in
    let m = c.mark-item.result in
    let more : take (k + 1) marks ≡ take k marks ++ m ∷ [] = take_more marks k m c.loop-mark-test.true ∙ ap (λ (x : Mark). take k marks ++ x ∷ []) (sym c.mark-item.is) in
    let pushed : c.match-row_at.taps.items ≡ c.loop-mark.taps.items ++ option_to_list (taken m.0 m.1) = elim c.match-row_at.branch [
      | in-Some-row_at+in_ok-push w ↦ ap (λ (v : Vec RecordValue Global). v.items) w.taps-is ∙ w.in_ok-push.ensures.items ∙ ap (λ o. c.loop-mark.taps.items ++ option_to_list o) w.in-Some-row_at.ensures
      | in_default-row_at w ↦ ap (λ (v : Vec RecordValue Global). v.items) w.taps-is ∙ sym (append-nil c.loop-mark.taps.items) ∙ ap (λ o. c.loop-mark.taps.items ++ option_to_list o) w.in_default-row_at.ensures
    ] in
    pushed ∙ ap (λ l. l ++ option_to_list (taken m.0 m.1)) c.loop-mark.invariant ∙ append_assoc c.args.taps.now.items (rows_at taken (take k marks)) (option_to_list (taken m.0 m.1)) ∙ ap (λ l. c.args.taps.now.items ++ l) (sym (ap (rows_at taken) more ∙ rows_more taken (take k marks) m))
