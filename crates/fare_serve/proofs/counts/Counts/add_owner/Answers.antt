use Rattle.std.proofs.Common.{◌+◌, refl, ap, ◌∙◌, get_or-set_same, get_or-set_other}
use Rattle.std.proofs.Math.Seq.{map-set_same}
use Rattle.std.proofs.lemmas.List.{get_or_default}
use Rattle.fare_serve.specs.Counting.{kept_count, owner_in}
use Rattle.fare_serve.specs.declared.counts.Taken.{Taken}
use Rattle.fare_serve.proofs.counts.Counts.add_owner.Goals as goal

pub returns : goal.returns
returns c =
    let items = c.args.self.now.taken.items in
    let place = c.args.place in
    let was = c.index_mut.result.now in
    let now : Taken = record { owner = was.owner; count = c.saturating_add.result } in
    let lt = c.requires in
    record {
      stored = refl;
      owners = map-set_same owner_in items place now was (ap owner_in c.index_mut.ensures.value);
      here = λ d. ap (λ (t : Taken). t.count) (get_or-set_same items place now d lt) ∙ (c.saturating_add.ensures ∙ ap (λ (t : Taken). kept_count (t.count + c.args.report.now.taken)) (c.index.ensures ∙ get_or_default items place c.index.result.now d lt));
      others = λ other d differ. get_or-set_other items place other now d differ;
      left = c.saturating_add-self.ensures;
    }
