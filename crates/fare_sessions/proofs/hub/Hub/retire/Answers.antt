use Rattle.std.proofs.Common.{sym, refl}
use Rattle.std.specs.Vec.{with_item}
use Rattle.fare_sessions.specs.Retiring.{HasRetired}
use Rattle.fare_sessions.specs.declared.hub.Hub.{Hub}
use Rattle.fare_sessions.proofs.Going.{one_replaced}
use Rattle.fare_sessions.proofs.Retired.{retired_follow, retired_sound, retired_agrees, retired_grows}
use Rattle.fare_sessions.proofs.hub.Hub.retire.Goals as goal

pub returns-clause-retires : goal.returns-clause-retires
returns-clause-retires g c =
    let old = c.args.self.now in
    let new : Hub g.row.O.Denot g.row.L.Denot = record { scheme = old.scheme; outbox = old.outbox; ledgers = with_item old.ledgers c.in-Some.at c.end_lane.new.ledger } in
    let retired : HasRetired g.L.Ledger.standing old new c.args.owner c.args.device c.end_lane.result = record { one = one_replaced old new c.args.owner c.in-Some.at c.index_mut.result.now c.end_lane.new.ledger (sym c.in-Some.ensures.value) c.requires.ledgers c.index_mut.ensures.value refl refl; outbox_same = refl; did = c.end_lane.ensures } in
    λ known. retired

pub returns-clause-follow : goal.returns-clause-follow
returns-clause-follow g c =
    let old = c.args.self.now in
    let new : Hub g.row.O.Denot g.row.L.Denot = record { scheme = old.scheme; outbox = old.outbox; ledgers = with_item old.ledgers c.in-Some.at c.end_lane.new.ledger } in
    let retired : HasRetired g.L.Ledger.standing old new c.args.owner c.args.device c.end_lane.result = record { one = one_replaced old new c.args.owner c.in-Some.at c.index_mut.result.now c.end_lane.new.ledger (sym c.in-Some.ensures.value) c.requires.ledgers c.index_mut.ensures.value refl refl; outbox_same = refl; did = c.end_lane.ensures } in
    retired_follow g.O.Outbox.standing g.L.Ledger.standing old new c.args.owner c.args.device c.end_lane.result retired

pub returns-clause-sound : goal.returns-clause-sound
returns-clause-sound g c =
    let old = c.args.self.now in
    let new : Hub g.row.O.Denot g.row.L.Denot = record { scheme = old.scheme; outbox = old.outbox; ledgers = with_item old.ledgers c.in-Some.at c.end_lane.new.ledger } in
    let retired : HasRetired g.L.Ledger.standing old new c.args.owner c.args.device c.end_lane.result = record { one = one_replaced old new c.args.owner c.in-Some.at c.index_mut.result.now c.end_lane.new.ledger (sym c.in-Some.ensures.value) c.requires.ledgers c.index_mut.ensures.value refl refl; outbox_same = refl; did = c.end_lane.ensures } in
    retired_sound g.O.Outbox.standing g.L.Ledger.standing old new c.args.owner c.args.device c.end_lane.result retired

pub returns-clause-agrees : goal.returns-clause-agrees
returns-clause-agrees g c =
    let old = c.args.self.now in
    let new : Hub g.row.O.Denot g.row.L.Denot = record { scheme = old.scheme; outbox = old.outbox; ledgers = with_item old.ledgers c.in-Some.at c.end_lane.new.ledger } in
    let retired : HasRetired g.L.Ledger.standing old new c.args.owner c.args.device c.end_lane.result = record { one = one_replaced old new c.args.owner c.in-Some.at c.index_mut.result.now c.end_lane.new.ledger (sym c.in-Some.ensures.value) c.requires.ledgers c.index_mut.ensures.value refl refl; outbox_same = refl; did = c.end_lane.ensures } in
    λ clean sound lists numbered is. retired_agrees g.O.Outbox.standing g.L.Ledger.standing old new c.args.owner c.args.device c.end_lane.result retired (g.met.L.Ledger.sound c.index_mut.result.now) clean sound lists numbered is

pub returns-clause-grows : goal.returns-clause-grows
returns-clause-grows g c =
    let old = c.args.self.now in
    let new : Hub g.row.O.Denot g.row.L.Denot = record { scheme = old.scheme; outbox = old.outbox; ledgers = with_item old.ledgers c.in-Some.at c.end_lane.new.ledger } in
    let retired : HasRetired g.L.Ledger.standing old new c.args.owner c.args.device c.end_lane.result = record { one = one_replaced old new c.args.owner c.in-Some.at c.index_mut.result.now c.end_lane.new.ledger (sym c.in-Some.ensures.value) c.requires.ledgers c.index_mut.ensures.value refl refl; outbox_same = refl; did = c.end_lane.ensures } in
    λ clean sound lists numbered is. retired_grows g.O.Outbox.standing g.L.Ledger.standing old new c.args.owner c.args.device c.end_lane.result retired (g.met.L.Ledger.sound c.index_mut.result.now) clean sound lists numbered is
