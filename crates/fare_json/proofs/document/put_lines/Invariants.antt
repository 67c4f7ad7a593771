use Rattle.std.proofs.Common.{◌≡◌, ◌∷◌, ◌++◌, map, drop}
use Rattle.json.specs.Token.{begin_array}
use Rattle.json.specs.Tree.{items_tokens}
use Rattle.fare_json.specs.Lines.{is_gap, items_of, object_of, pieces}
use Rattle.fare_json.proofs.document.put_lines.Given as goal

abbrev pub invariant-loop-line : goal.invariant-loop-line
invariant-loop-line l = record {
  kept : l.writer.before ≡ l.fn.writer.before;
  rest : l.writer.tokens ++ items_tokens (items_of (map (λ line. object_of (pieces is_gap line)) (drop l.line-index (map (λ w. w.now) l.line-items)))) ≡ l.fn.writer.tokens ++ begin_array ∷ items_tokens (items_of (map (λ line. object_of (pieces is_gap line)) (map (λ w. w.now) l.line-items)));
}
