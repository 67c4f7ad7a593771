use Rattle.std.proofs.Common.{◌≡◌, ◌++◌, ℕ, subst, sym, string_bytes}
use Rattle.std.specs.Prelude.{Option, Result, Ok, Err, IfOk, String, is_some, true}
use Rattle.std.specs.Global.{Global}
use Rattle.std.specs.declared.alloc.AllocError.{AllocError}
use Rattle.fare_run.specs.Serving.{ArePorts, answering_line, listening_line}
use Rattle.fare_run.proofs.serving.ports_text.Goals as goal

-- a text of both lines tells of both ports
both : (port answering : ℕ) (made : Result (String Global) AllocError) → IfOk made (λ text. string_bytes text ≡ listening_line port ++ answering_line answering) → IfOk made (λ text. ArePorts true (string_bytes text))
both port answering (Ok text) is = (port, answering, is)
both port answering (Err error) is = tt

pub returns-in-Some : goal.returns-in-Some
returns-in-Some c =
    subst (λ (o : Option ℕ). IfOk c.both_text.result (λ text. ArePorts (is_some o) (string_bytes text))) (sym c.in-Some.is) (both c.args.port c.in-Some.answering c.both_text.result c.both_text.ensures)
