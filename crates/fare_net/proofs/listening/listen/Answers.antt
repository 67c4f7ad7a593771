use Rattle.std.proofs.Common.{◌≡◌, ◌++◌, ◌∷◌, [], List, Option, Ok, subst, sym, rules}
use Rattle.fare_frame.specs.declared.frame.Frame.{Frame}
use Rattle.fare_net.specs.Sources.{TakesOff}
use Rattle.fare_net.specs.Listening.{IsHearing}
use Rattle.fare_net.proofs.Listened.{heard_first, heard_next, heard_end, heard_failed, fewer_left, not_heard}
use Rattle.fare_net.proofs.listening.listen.Goals as goal

pub returns-in-Err-clause-fails : goal.returns-in-Err-clause-fails
returns-in-Err-clause-fails g c = not_heard c.args.scheme.now (g.R.Read.remaining c.args.reader) _ _ _ _ c.in-Err.fault c.in-Ok.ensures c.hello.ensures.advances c.in-Err.ensures.fails

pub loop-frame-init : goal.loop-frame-init
loop-frame-init g c =
    let first = heard_first c.args.scheme.now c.in-Ok-hello.station (g.R.Read.remaining c.args.reader) _ _ _ _ c.in-Ok.ensures c.hello.ensures.advances c.in-Ok-hello.ensures.station c.in-Ok-hello.ensures.open in
    subst (λ (t : List Frame). IsHearing c.args.scheme.now c.in-Ok-hello.station t (g.R.Read.remaining c.args.reader) c.hello.new.self) (sym c.new-frames.ensures.items) first

pub loop-frame-smaller : goal.loop-frame-smaller
loop-frame-smaller g c =
    let takes = subst (λ (t : Option Frame). TakesOff c.loop-frame.source c.next.new.self (Ok t)) c.in-Ok-Some.field-0-is c.in-Ok-Some.ensures.takes in
    fewer_left c.loop-frame.source c.next.new.self c.in-Ok-Some.frame c.next.ensures.reads takes

pub loop-frame-preserved : goal.loop-frame-preserved
loop-frame-preserved g c =
    let takes = subst (λ (t : Option Frame). TakesOff c.loop-frame.source c.next.new.self (Ok t)) c.in-Ok-Some.field-0-is c.in-Ok-Some.ensures.takes in
    let pushed : c.push.new.self.items ≡ c.loop-frame.frames.items ++ c.in-Ok-Some.frame ∷ [] = search rules in
    let next = heard_next c.args.scheme.now c.in-Ok-hello.station c.loop-frame.frames.items (g.R.Read.remaining c.args.reader) c.loop-frame.source c.next.new.self c.in-Ok-Some.frame c.loop-frame.invariant c.next.ensures.reads takes in
    subst (λ (t : List Frame). IsHearing c.args.scheme.now c.in-Ok-hello.station t (g.R.Read.remaining c.args.reader) c.next.new.self) (sym pushed) next

pub returns-in-Ok-None-clause-ok : goal.returns-in-Ok-None-clause-ok
returns-in-Ok-None-clause-ok g c =
    let takes = subst (λ (t : Option Frame). TakesOff c.loop-frame.source c.next.new.self (Ok t)) c.in-Ok-None.field-0-is c.in-Ok-None.ensures.takes in
    heard_end _ _ _ _ c.loop-frame.source c.next.new.self c.loop-frame.invariant c.next.ensures.reads takes

pub returns-in-Err-next-clause-ok : goal.returns-in-Err-next-clause-ok
returns-in-Err-next-clause-ok g c = heard_failed _ _ _ _ c.loop-frame.source c.next.new.self _ c.loop-frame.invariant c.next.ensures.reads c.in-Err-next.ensures.takes
