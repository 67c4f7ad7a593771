use Rattle.std.proofs.Common.{sym, subst}
use Rattle.fare_sessions.specs.Running.{HaveAllRun}
use Rattle.fare_sessions.proofs.Follow.{run_scheme, run_follow, run_sound}
use Rattle.fare_sessions.proofs.Lasting.{run_lasting, run_owned}
use Rattle.fare_sessions.proofs.Reported.{gave_up_exactly, faults_in_order, rest_untouched, none_left, stored_is, taken_is, agrees, grows, covered, came}
use Rattle.fare_sessions.proofs.Runnable.{all_again}
use Rattle.fare_sessions.proofs.Still.{all_still}
use Rattle.fare_sessions.proofs.hub.Hub.sessions.Goals as goal

pub returns-clause-scheme : goal.returns-clause-scheme
returns-clause-scheme g c =
    let a = subst (HaveAllRun g.S.Source.talk g.O.Outbox.standing g.L.Ledger.standing c.args.supervisor c.args.self.now c.run_all.new.self c.args.sessions.now c.run_all.new.sessions) (sym c.into_report.ensures) (c.run_all.ensures c.args.supervisor c.new-course.ensures.shows) in
    run_scheme g.S.Source.talk g.O.Outbox.standing g.L.Ledger.standing c.args.self.now c.args.sessions.now c.run_all.new.sessions a.count c.run_all.new.self a.tally a.ran

pub returns-clause-again : goal.returns-clause-again
returns-clause-again g c =
    let a = subst (HaveAllRun g.S.Source.talk g.O.Outbox.standing g.L.Ledger.standing c.args.supervisor c.args.self.now c.run_all.new.self c.args.sessions.now c.run_all.new.sessions) (sym c.into_report.ensures) (c.run_all.ensures c.args.supervisor c.new-course.ensures.shows) in
    all_again g.S.Source.talk g.O.Outbox.standing g.L.Ledger.standing c.args.supervisor c.args.self.now c.run_all.new.self c.args.sessions.now c.run_all.new.sessions c.into_report.result a c.requires.can

pub returns-clause-still : goal.returns-clause-still
returns-clause-still g c =
    let a = subst (HaveAllRun g.S.Source.talk g.O.Outbox.standing g.L.Ledger.standing c.args.supervisor c.args.self.now c.run_all.new.self c.args.sessions.now c.run_all.new.sessions) (sym c.into_report.ensures) (c.run_all.ensures c.args.supervisor c.new-course.ensures.shows) in
    all_still g.S.Source.talk g.O.Outbox.standing g.L.Ledger.standing c.args.supervisor c.args.self.now c.run_all.new.self c.args.sessions.now c.run_all.new.sessions c.into_report.result a

pub returns-clause-follow : goal.returns-clause-follow
returns-clause-follow g c =
    let a = subst (HaveAllRun g.S.Source.talk g.O.Outbox.standing g.L.Ledger.standing c.args.supervisor c.args.self.now c.run_all.new.self c.args.sessions.now c.run_all.new.sessions) (sym c.into_report.ensures) (c.run_all.ensures c.args.supervisor c.new-course.ensures.shows) in
    run_follow g.S.Source.talk g.O.Outbox.standing g.L.Ledger.standing c.args.self.now c.args.sessions.now c.run_all.new.sessions a.count c.run_all.new.self a.tally a.ran

pub returns-clause-sound : goal.returns-clause-sound
returns-clause-sound g c =
    let a = subst (HaveAllRun g.S.Source.talk g.O.Outbox.standing g.L.Ledger.standing c.args.supervisor c.args.self.now c.run_all.new.self c.args.sessions.now c.run_all.new.sessions) (sym c.into_report.ensures) (c.run_all.ensures c.args.supervisor c.new-course.ensures.shows) in
    λ clean sound. run_sound g.S.Source.talk g.O.Outbox.standing g.L.Ledger.standing c.args.self.now c.args.sessions.now c.run_all.new.sessions a.count c.run_all.new.self a.tally a.ran clean sound

pub returns-clause-lasting : goal.returns-clause-lasting
returns-clause-lasting g c =
    let a = subst (HaveAllRun g.S.Source.talk g.O.Outbox.standing g.L.Ledger.standing c.args.supervisor c.args.self.now c.run_all.new.self c.args.sessions.now c.run_all.new.sessions) (sym c.into_report.ensures) (c.run_all.ensures c.args.supervisor c.new-course.ensures.shows) in
    λ clean sound lasting. run_lasting g.S.Source.talk g.O.Outbox.standing g.L.Ledger.standing c.args.self.now c.args.sessions.now c.run_all.new.sessions a.count c.run_all.new.self a.tally a.ran clean sound lasting

pub returns-clause-owned : goal.returns-clause-owned
returns-clause-owned g c =
    let a = subst (HaveAllRun g.S.Source.talk g.O.Outbox.standing g.L.Ledger.standing c.args.supervisor c.args.self.now c.run_all.new.self c.args.sessions.now c.run_all.new.sessions) (sym c.into_report.ensures) (c.run_all.ensures c.args.supervisor c.new-course.ensures.shows) in
    λ clean sound owned. run_owned g.S.Source.talk g.O.Outbox.standing g.L.Ledger.standing c.args.self.now c.args.sessions.now c.run_all.new.sessions a.count c.run_all.new.self a.tally a.ran clean sound owned

pub returns-clause-agrees : goal.returns-clause-agrees
returns-clause-agrees g c =
    let a = subst (HaveAllRun g.S.Source.talk g.O.Outbox.standing g.L.Ledger.standing c.args.supervisor c.args.self.now c.run_all.new.self c.args.sessions.now c.run_all.new.sessions) (sym c.into_report.ensures) (c.run_all.ensures c.args.supervisor c.new-course.ensures.shows) in
    λ lists asked. agrees g.S.Source.talk g.O.Outbox.standing g.L.Ledger.standing c.args.supervisor c.args.self.now c.run_all.new.self c.args.sessions.now c.run_all.new.sessions c.into_report.result a c.requires.can asked.clean asked.sound lists asked.numbered asked.gave asked.agreed

pub returns-clause-grows : goal.returns-clause-grows
returns-clause-grows g c =
    let a = subst (HaveAllRun g.S.Source.talk g.O.Outbox.standing g.L.Ledger.standing c.args.supervisor c.args.self.now c.run_all.new.self c.args.sessions.now c.run_all.new.sessions) (sym c.into_report.ensures) (c.run_all.ensures c.args.supervisor c.new-course.ensures.shows) in
    λ lists asked. grows g.S.Source.talk g.O.Outbox.standing g.L.Ledger.standing c.args.supervisor c.args.self.now c.run_all.new.self c.args.sessions.now c.run_all.new.sessions c.into_report.result a c.requires.can asked.clean asked.sound lists asked.numbered asked.gave asked.agreed

pub returns-clause-covered : goal.returns-clause-covered
returns-clause-covered g c =
    let a = subst (HaveAllRun g.S.Source.talk g.O.Outbox.standing g.L.Ledger.standing c.args.supervisor c.args.self.now c.run_all.new.self c.args.sessions.now c.run_all.new.sessions) (sym c.into_report.ensures) (c.run_all.ensures c.args.supervisor c.new-course.ensures.shows) in
    λ lists asked. covered g.S.Source.talk g.O.Outbox.standing g.L.Ledger.standing c.args.supervisor c.args.self.now c.run_all.new.self c.args.sessions.now c.run_all.new.sessions c.into_report.result a c.requires.can asked.clean asked.sound lists asked.numbered asked.gave asked.agreed

pub returns-clause-boundaries : goal.returns-clause-boundaries
returns-clause-boundaries g c =
    let a = subst (HaveAllRun g.S.Source.talk g.O.Outbox.standing g.L.Ledger.standing c.args.supervisor c.args.self.now c.run_all.new.self c.args.sessions.now c.run_all.new.sessions) (sym c.into_report.ensures) (c.run_all.ensures c.args.supervisor c.new-course.ensures.shows) in
    λ clean sound. came g.S.Source.talk g.O.Outbox.standing g.L.Ledger.standing c.args.supervisor c.args.self.now c.run_all.new.self c.args.sessions.now c.run_all.new.sessions c.into_report.result a c.requires.can clean sound

pub returns-clause-stored : goal.returns-clause-stored
returns-clause-stored g c =
    let a = subst (HaveAllRun g.S.Source.talk g.O.Outbox.standing g.L.Ledger.standing c.args.supervisor c.args.self.now c.run_all.new.self c.args.sessions.now c.run_all.new.sessions) (sym c.into_report.ensures) (c.run_all.ensures c.args.supervisor c.new-course.ensures.shows) in
    λ live sound. stored_is g.S.Source.talk g.O.Outbox.standing g.L.Ledger.standing c.args.supervisor c.args.self.now c.run_all.new.self c.args.sessions.now c.run_all.new.sessions c.into_report.result a c.have_laws.ensures.outbox c.have_laws.ensures.ledger c.owner_count-owners.ensures.valid live sound

pub returns-clause-taken : goal.returns-clause-taken
returns-clause-taken g c =
    let a = subst (HaveAllRun g.S.Source.talk g.O.Outbox.standing g.L.Ledger.standing c.args.supervisor c.args.self.now c.run_all.new.self c.args.sessions.now c.run_all.new.sessions) (sym c.into_report.ensures) (c.run_all.ensures c.args.supervisor c.new-course.ensures.shows) in
    λ live sound. taken_is g.S.Source.talk g.O.Outbox.standing g.L.Ledger.standing c.args.supervisor c.args.self.now c.run_all.new.self c.args.sessions.now c.run_all.new.sessions c.into_report.result a c.have_laws.ensures.outbox c.have_laws.ensures.ledger c.owner_count-owners.ensures.valid live sound

pub returns-clause-left : goal.returns-clause-left
returns-clause-left g c =
    let a = subst (HaveAllRun g.S.Source.talk g.O.Outbox.standing g.L.Ledger.standing c.args.supervisor c.args.self.now c.run_all.new.self c.args.sessions.now c.run_all.new.sessions) (sym c.into_report.ensures) (c.run_all.ensures c.args.supervisor c.new-course.ensures.shows) in
    λ clean sound none. none_left g.S.Source.talk g.O.Outbox.standing g.L.Ledger.standing c.args.supervisor c.args.self.now c.run_all.new.self c.args.sessions.now c.run_all.new.sessions c.into_report.result a clean sound none

pub returns-clause-gave_up : goal.returns-clause-gave_up
returns-clause-gave_up g c =
    let a = subst (HaveAllRun g.S.Source.talk g.O.Outbox.standing g.L.Ledger.standing c.args.supervisor c.args.self.now c.run_all.new.self c.args.sessions.now c.run_all.new.sessions) (sym c.into_report.ensures) (c.run_all.ensures c.args.supervisor c.new-course.ensures.shows) in
    gave_up_exactly g.S.Source.talk g.O.Outbox.standing g.L.Ledger.standing c.args.supervisor c.args.self.now c.run_all.new.self c.args.sessions.now c.run_all.new.sessions c.into_report.result a

pub returns-clause-in_order : goal.returns-clause-in_order
returns-clause-in_order g c =
    let a = subst (HaveAllRun g.S.Source.talk g.O.Outbox.standing g.L.Ledger.standing c.args.supervisor c.args.self.now c.run_all.new.self c.args.sessions.now c.run_all.new.sessions) (sym c.into_report.ensures) (c.run_all.ensures c.args.supervisor c.new-course.ensures.shows) in
    faults_in_order g.S.Source.talk g.O.Outbox.standing g.L.Ledger.standing c.args.supervisor c.args.self.now c.run_all.new.self c.args.sessions.now c.run_all.new.sessions c.into_report.result a

pub returns-clause-untouched : goal.returns-clause-untouched
returns-clause-untouched g c =
    let a = subst (HaveAllRun g.S.Source.talk g.O.Outbox.standing g.L.Ledger.standing c.args.supervisor c.args.self.now c.run_all.new.self c.args.sessions.now c.run_all.new.sessions) (sym c.into_report.ensures) (c.run_all.ensures c.args.supervisor c.new-course.ensures.shows) in
    rest_untouched g.S.Source.talk g.O.Outbox.standing g.L.Ledger.standing c.args.supervisor c.args.self.now c.run_all.new.self c.args.sessions.now c.run_all.new.sessions c.into_report.result a
