use Rattle.std.proofs.Common.{rules, ◌+◌, map, drop}
use Rattle.fare_json.specs.Lines.{members_of}
use Rattle.fare_json.proofs.Objects.{member_there}
use Rattle.fare_json.specs.declared.name.Name.TheVariants as name
use Rattle.fare_json.specs.declared.part.Part.TheVariants as part
use Rattle.fare_json.proofs.object.put_members.Goals as goal

pub loop-place-preserved : goal.loop-place-preserved
loop-place-preserved c =
    let words = map (λ w. w.now) c.args.words.now in
    let behind = members_of (drop (c.loop-place.place + 1) c.args.parts.now) (drop (c.loop-place.place + 1) words) in
    record {
      kept = search rules;
      rest = (
          let written = c.in_ok-put_member.ensures.written behind in
          let there = member_there c.args.parts.now words c.loop-place.place (part.Value name.Accounts) c.loop-place-test.true in
          let word = c.word_at.ensures in
          let before = c.loop-place.invariant.rest in
          cc);
    }
