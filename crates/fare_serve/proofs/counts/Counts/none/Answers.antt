use Rattle.std.proofs.Common.{◌≡◌, length, map, take, refl, ap, ◌∙◌, subst, arith}
use Rattle.std.specs.Map.{keys_of}
use Rattle.std.proofs.lemmas.Option.{slice_get-map}
use Rattle.std.proofs.lemmas.Map.Entries.{length-keys_of}
use Rattle.fare_scheme.proofs.Slices.{entry_at}
use Rattle.fare_serve.proofs.Counted.{no_counts, zero_of, zeros_more}
use Rattle.fare_serve.proofs.counts.Counts.none.Goals as goal

pub loop-owner-preserved : goal.loop-owner-preserved
loop-owner-preserved c =
    let owners = c.args.scheme.now.owners in
    c.in_ok-push.ensures.items ∙ zeros_more (keys_of owners) c.loop-owner.owner-index c.owner-item.result c.loop-owner.taken.items (slice_get-map _ owners c.loop-owner.owner-index ∙ entry_at c.args.scheme.now.owners c.owners-owner-items.result.now c.loop-owner.owner-index c.owner-item.result c.owners-owner-items.ensures.value c.loop-owner-test.true c.owner-item.is) c.loop-owner.invariant

pub returns : goal.returns
returns c =
    let owners = c.args.scheme.now.owners in
    let past = c.loop-owner-test.false in
    let within = c.loop-owner.auto.owner-index-end in
    let value = ap length c.owners-owner-items.ensures.value ∙ length-keys_of owners in
    let all : c.loop-owner.owner-index ≡ length owners = omega (arith, past, within, value) in
    no_counts c.args.scheme.now (record { stored = 0; taken = c.loop-owner.taken; left = 0 }) refl refl (subst (λ n. c.loop-owner.taken.items ≡ map zero_of (take n (keys_of owners))) all c.loop-owner.invariant)
