use Rattle.std.proofs.Common.{◌∙◌, sym}
use Rattle.fare_page.proofs.Tells.{refusal_stores, refusal_told}
use Rattle.fare_page.proofs.told.tell_fault.Goals as goal

pub returns-in-Some-clause-told : goal.returns-in-Some-clause-told
returns-in-Some-clause-told c = refusal_told c.args.fault c.in-Some.refusal c.args.body.now.items c.tell_refusal.new.body.items c.tell_refusal.result (sym c.named.ensures ∙ c.in-Some.is) c.tell_refusal.ensures

pub returns-in-Some-clause-stores : goal.returns-in-Some-clause-stores
returns-in-Some-clause-stores c = refusal_stores c.args.fault c.in-Some.refusal c.args.body.now.items c.tell_refusal.new.body.items c.tell_refusal.result (sym c.named.ensures ∙ c.in-Some.is) c.tell_refusal.ensures
