use Rattle.std.proofs.Common.{sym, refl}
use Rattle.std.specs.Vec.{with_item}
use Rattle.fare_sessions.specs.Course.{with_numbers, owner_faults}
use Rattle.fare_sessions.proofs.Going.{one_replaced}
use Rattle.fare_sessions.proofs.hub.Hub.serve.Goals as goal

pub returns-clause-ran : goal.returns-clause-ran
returns-clause-ran g c =
    let old = c.args.self.now in
    let r = c.serve_owner-report.result in (
      record { stored = 0; taken = r.taken; left = r.left; faults = owner_faults r.fault },
      record {
        one = one_replaced old (record { scheme = old.scheme; outbox = c.serve_owner-report.new.outbox; ledgers = with_item old.ledgers c.in-Some.at c.serve_owner-report.new.ledger }) c.args.owner c.in-Some.at c.index_mut.result.now c.serve_owner-report.new.ledger (sym c.in-Some.ensures.value) c.requires.ledgers c.index_mut.ensures.value refl refl;
        report = r;
        served = c.serve_owner-report.ensures;
        stored = refl;
        taken = refl;
        left = refl;
        faults = refl;
      },
      λ limit t is. c.note_owner.ensures.shows limit (with_numbers t 0 r.taken r.left) (c.count.ensures.shows limit t is),
    )
