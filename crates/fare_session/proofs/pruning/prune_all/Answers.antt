use Rattle.std.proofs.Common.{[], None, Some, refl, subst, inl, inr}
use Rattle.std.specs.Prelude.{Option, Ok}
use Rattle.std.specs.Result.{result_err}
use Rattle.std.specs.Map.{keys_of}
use Rattle.std.proofs.lemmas.Option.{same_Some}
use Rattle.fare_store.specs.declared.fault.Fault.{Fault}
use Rattle.fare_store.specs.OutboxWords.{pruned_all}
use Rattle.fare_session.specs.declared.fault.SessionFault.TheVariants.{Refused}
use Rattle.fare_session.specs.Stores.{session_fault}
use Rattle.fare_session.specs.Resting.{AreCounted, IsPruned, IsPruning}
use Rattle.fare_session.proofs.Takes.{stored_as, failed_owners, not_refused, handed}
use Rattle.fare_session.proofs.Prunes.{counted_is, pruned_unread, pruned_whole, pruned_failed}
use Rattle.fare_session.proofs.pruning.prune_all.Goals as goal

pub returns-in_err-count_all : goal.returns-in_err-count_all
returns-in_err-count_all g c =
    let lanes = c.args.lanes.now in
    let x = g.O.Outbox.standing c.args.outbox.now in
    let lo = g.L.Ledger.standing c.args.ledger.now in
    let ln = g.L.Ledger.standing c.count_all.new.ledger in
    let f = c.in_err-count_all.field-0.0 in
    let s = session_fault f in
    handed (λ z. IsPruning c.args.owner lanes x x lo ln (result_err z)) c.from_residual.result s c.from_residual.ensures.1 (record {
      ds = [];
      fx = None;
      fl = Some s;
      all = inr refl;
      pruned = subst (λ (z : Option Fault). IsPruned c.args.owner lanes x x lo ln [] None z) (stored_as f s refl)
          (pruned_unread c.args.owner lanes c.count_all.new.lanes x lo ln f (g.met.O.Outbox.sound c.args.outbox.now) c.in_err-count_all.ensures);
      owners = failed_owners f s refl;
      one = inl (refl, refl);
      whole = λ e. absurd (cc);
      unrefused = λ e. not_refused f s refl (same_Some s Refused e);
    })

pub returns : goal.returns
returns g c =
    let lanes = c.args.lanes.now in
    let counts = c.count_all.new.lanes in
    let xo = g.O.Outbox.standing c.args.outbox.now in
    let xn = g.O.Outbox.standing c.prune_all.new.self in
    let lo = g.L.Ledger.standing c.args.ledger.now in
    let ln = g.L.Ledger.standing c.count_all.new.ledger in
    let read : AreCounted lo ln lanes counts (Ok c.in_ok-count_all.field-0) = c.in_ok-count_all.ensures in
    record {
      ds = keys_of lanes;
      fx = None;
      fl = None;
      all = inl refl;
      pruned = pruned_whole c.args.owner lanes xo xn lo ln read.stays (pruned_all c.args.owner counts xo.value) (counted_is c.args.owner lanes counts xo.value lo ln c.in_ok-count_all.field-0 read) c.in_ok-prune_all.field-0 (g.met.O.Outbox.sound c.prune_all.new.self) c.in_ok-prune_all.ensures;
      owners = tt;
      one = inl (refl, refl);
      whole = λ e. refl;
      unrefused = λ e. cc;
    }

pub returns-in_err-prune_all : goal.returns-in_err-prune_all
returns-in_err-prune_all g c =
    let lanes = c.args.lanes.now in
    let counts = c.count_all.new.lanes in
    let xo = g.O.Outbox.standing c.args.outbox.now in
    let xn = g.O.Outbox.standing c.prune_all.new.self in
    let lo = g.L.Ledger.standing c.args.ledger.now in
    let ln = g.L.Ledger.standing c.count_all.new.ledger in
    let read : AreCounted lo ln lanes counts (Ok c.in_ok-count_all.field-0) = c.in_ok-count_all.ensures in
    let f = c.in_err-prune_all.field-0.0 in
    let s = session_fault f in
    handed (λ z. IsPruning c.args.owner lanes xo xn lo ln (result_err z)) c.from_residual-in_err-prune_all.result s c.from_residual-in_err-prune_all.ensures.1 (record {
      ds = [];
      fx = Some s;
      fl = None;
      all = inr refl;
      pruned = subst (λ (z : Option Fault). IsPruned c.args.owner lanes xo xn lo ln [] z None) (stored_as f s refl)
          (pruned_failed c.args.owner lanes xo xn lo ln read.stays (pruned_all c.args.owner counts xo.value) (counted_is c.args.owner lanes counts xo.value lo ln c.in_ok-count_all.field-0 read) f c.requires.apart (g.met.O.Outbox.sound c.args.outbox.now) c.in_err-prune_all.ensures);
      owners = failed_owners f s refl;
      one = inr (refl, refl);
      whole = λ e. absurd (cc);
      unrefused = λ e. not_refused f s refl (same_Some s Refused e);
    })
