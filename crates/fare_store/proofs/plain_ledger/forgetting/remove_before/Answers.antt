use Rattle.std.proofs.Common.{◌≡◌, cond, ap, sym, subst, ◌∙◌, None, ℕ}
use Rattle.std.specs.HashMap.{get}
use Rattle.fare_record.specs.Counting.{Span}
use Rattle.fare_record.proofs.Counting.{fewer_left}
use Rattle.fare_store.specs.Tables.{put}
use Rattle.fare_store.specs.LedgerWords.{stated_from}
use Rattle.fare_store.specs.TapPlaces.{same_day}
use Rattle.fare_store.proofs.LettingGo.{one_removed}
use Rattle.fare_store.proofs.plain_ledger.forgetting.remove_before.Goals as goal

pub loop-earlier-preserved : goal.loop-earlier-preserved
loop-earlier-preserved c =
    let steps = c.in-Some.ensures.steps in
    let i = c.loop-earlier.invariant in
    let next = c.loop-earlier.earlier-iterator.next in
    let first = get same_day c.args.stated.now in
    let old = get same_day c.loop-earlier.stated in (
      fewer_left 0 c.args.day c.in-Some.earlier c.loop-earlier.earlier-iterator c.next.new.self i.0 steps,
      subst (λ n. (d e : ℕ) → get same_day c.remove.new.self (d, e) ≡ put (λ x y. first (x, y)) c.args.device (stated_from n (λ y. first (c.args.device, y))) d e) (sym (ap (λ (s : Span). s.next) steps.2))
          (one_removed c.args.device next first old (get same_day c.remove.new.self) i.1 (λ q. c.remove.ensures.updates.0 q ∙ ap (λ k. cond (same_day (c.args.device, k) q) None (old q)) steps.0)),
    )
