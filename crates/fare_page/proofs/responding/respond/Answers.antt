use Rattle.std.proofs.Common.{ℕ, List, [], subst, refl, inl, inr, arith}
use Rattle.fare_desk.proofs.Asked.{asks_self}
use Rattle.fare_desk.proofs.Going.{goes_self}
use Rattle.fare_request.specs.declared.form.Form.{Form}
use Rattle.fare_page.specs.Answering.{IsBody, IsFilled, form_for, in_form}
use Rattle.fare_page.proofs.Tells.{body_filled, filled, filled_line, filled_stores, status_filled, still_stores, undone}
use Rattle.fare_page.proofs.responding.respond.Goals as goal

pub returns-then-len-owner_count : goal.returns-then-len-owner_count
returns-then-len-owner_count g c = record {
  ask = c.asked-ask.result;
  asks = c.asked-ask.ensures;
  goes = goes_self g.O.Outbox.standing g.L.Ledger.standing c.args.hub.now;
  reads = λ question. asks_self g.O.Outbox.standing g.L.Ledger.standing c.args.hub.now;
  text = [];
  tells = undone g.O.Outbox.standing g.L.Ledger.standing c.args.progress.now c.asked-ask.result c.args.hub.now 503 [] refl;
  body = inr (inl refl);
  cause = λ trusted. still_stores g.O.Outbox.standing g.L.Ledger.standing c.args.hub.now 503 (λ broken. absurd (omega (arith, broken)));
  line = λ broken. absurd (omega (arith, broken));
}

pub returns : goal.returns
returns g c =
    let text = c.answer-status.new.body.items in
    let is_filled = subst (λ (l : List ℕ). IsFilled c.answer-status.result (in_form c.form_told-form.result l) c.fill_in.new.response.status c.fill_in.new.response.body.items) c.deref.ensures.value c.fill_in.ensures in
    record {
      ask = c.asked-ask.result;
      asks = c.asked-ask.ensures;
      goes = c.answer-status.ensures.goes;
      reads = c.answer-status.ensures.reads;
      text = text;
      tells = filled g.O.Outbox.standing g.L.Ledger.standing c.args.progress.now c.asked-ask.result c.args.hub.now c.answer-status.new.hub c.answer-status.result text c.fill_in.new.response.status text c.answer-status.ensures.tells (status_filled c.form_of-wanted.result c.form_told-form.result c.asked-ask.result c.answer-status.result text c.fill_in.new.response.status c.fill_in.new.response.body.items is_filled);
      body = subst (λ (f : Form). IsBody c.fill_in.new.response.status (form_for f c.asked-ask.result) text c.fill_in.new.response.body.items) c.form_of-wanted.ensures (body_filled c.form_of-wanted.result c.form_told-form.result c.asked-ask.result c.answer-status.result text c.fill_in.new.response.status c.fill_in.new.response.body.items c.form_told-form.ensures.told is_filled);
      cause = λ trusted. filled_stores g.O.Outbox.standing g.L.Ledger.standing c.args.hub.now c.answer-status.new.hub c.answer-status.result (in_form c.form_told-form.result text) c.fill_in.new.response.status c.fill_in.new.response.body.items is_filled (c.answer-status.ensures.stores trusted);
      line = filled_line c.asked-ask.result c.form_told-form.result c.answer-status.result text c.fill_in.new.response.status c.fill_in.new.response.body.items is_filled c.form_told-form.ensures.plain c.answer-status.ensures.line;
    }
