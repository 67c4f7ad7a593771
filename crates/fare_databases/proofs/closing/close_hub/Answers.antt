use Rattle.std.proofs.Common.{length, ap, arith, subst}
use Rattle.fare_databases.specs.Closed.{AreHandedBack}
use Rattle.fare_databases.proofs.closing.close_hub.Goals as goal

pub returns : goal.returns
returns g c =
    let it = c.into_connection.ensures in
    record {
      back = record {
        outbox_back = record { crash = it.crash; idle = it.idle; still_live = it.live };
        outbox_shown = it.kept;
        ledgers_back = subst (λ before. AreHandedBack g.S.Store c.args.opened.hub.ledgers.items before c.hand_back.new.databases.items) c.requires.empty c.hand_back.ensures.back;
      };
    }

pub hand_back-requires : goal.hand_back-requires
hand_back-requires g c = omega (arith, c.requires.room, ap length c.requires.empty)
