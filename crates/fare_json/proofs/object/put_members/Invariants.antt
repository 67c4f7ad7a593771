use Rattle.std.proofs.Common.{◌≡◌, ◌++◌, map, drop}
use Rattle.json.specs.Tree.{members_tokens}
use Rattle.fare_json.specs.Lines.{members_of}
use Rattle.fare_json.proofs.object.put_members.Given as goal

abbrev pub invariant-loop-place : goal.invariant-loop-place
invariant-loop-place l = record {
  kept : l.writer.before ≡ l.fn.writer.before;
  rest : l.writer.tokens ++ members_tokens (members_of (drop l.place l.parts) (drop l.place (map (λ w. w.now) l.words))) ≡ l.fn.writer.tokens ++ members_tokens (members_of l.parts (map (λ w. w.now) l.words));
}
