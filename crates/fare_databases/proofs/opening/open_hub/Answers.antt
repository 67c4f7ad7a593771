use Rattle.std.proofs.Common.{refl}
use Rattle.sqlite.specs.Held.{state}
use Rattle.fare_databases.proofs.Again.{hub_again}
use Rattle.fare_databases.proofs.Back.{all_kept, outbox_kept}
use Rattle.fare_databases.proofs.Held.{hub_holds, outbox_back_stays}
use Rattle.fare_databases.proofs.opening.open_hub.Goals as goal

pub returns-in-Ok-ledgers_in-clause-holds : goal.returns-in-Ok-ledgers_in-clause-holds
returns-in-Ok-ledgers_in-clause-holds g c clean = record {
  holds = λ outbox ledgers shows h held.
      hub_holds g.S.Store (record { settled = g.met.S.Store.settled; survives = g.met.S.Store.survives }) c.args.scheme c.owner_count-owners.ensures.valid c.args.databases _ refl c.requires.owners c.in-Ok-outbox_in.ensures.opened c.in-Ok-ledgers_in.ensures.opened clean outbox ledgers shows h held;
}

pub returns-in-Ok-ledgers_in-clause-again : goal.returns-in-Ok-ledgers_in-clause-again
returns-in-Ok-ledgers_in-clause-again g c clean was same left =
    hub_again g.S.Store (λ d. state g.S.Store d) c.args.scheme was _ (state g.S.Store c.args.databases.outbox) c.args.databases.ledgers.items c.owner_count-owners.ensures.valid refl same c.requires.owners c.in-Ok-outbox_in.ensures.opened c.in-Ok-ledgers_in.ensures.opened clean left

pub returns-in_default-clause-stay : goal.returns-in_default-clause-stay
returns-in_default-clause-stay g c = record { outbox_stays = outbox_kept (state g.S.Store c.args.databases.outbox); ledgers_stay = all_kept g.S.Store c.args.scheme c.args.databases.ledgers.items }

pub returns-in_default-with_capacity-clause-stay : goal.returns-in_default-with_capacity-clause-stay
returns-in_default-with_capacity-clause-stay g c = record { outbox_stays = outbox_kept (state g.S.Store c.args.databases.outbox); ledgers_stay = all_kept g.S.Store c.args.scheme c.args.databases.ledgers.items }

pub returns-in-Err-clause-stay : goal.returns-in-Err-clause-stay
returns-in-Err-clause-stay g c = record { outbox_stays = c.in-Err.ensures.stays; ledgers_stay = all_kept g.S.Store c.args.scheme c.args.databases.ledgers.items }

pub returns-in-Err-ledgers_in-clause-stay : goal.returns-in-Err-ledgers_in-clause-stay
returns-in-Err-ledgers_in-clause-stay g c =
    let it = c.into_connection.ensures in
    record {
      outbox_stays = outbox_back_stays g.S.Store (record { settled = g.met.S.Store.settled; survives = g.met.S.Store.survives }) (state g.S.Store c.args.databases.outbox) c.in-Ok-outbox_in.outbox c.into_connection.result c.in-Ok-outbox_in.ensures.opened (record { crash = it.crash; idle = it.idle; still_live = it.live });
      ledgers_stay = c.in-Err-ledgers_in.ensures.stay;
    }
