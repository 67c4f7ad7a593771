use Rattle.fare_files.proofs.Written.{in_turn, on_ok}
use Rattle.fare_files.proofs.empty.write_empty.Goals as goal

pub returns : goal.returns
returns g c = on_ok c.write_all-4.result (λ last. in_turn _ _ _ _ _ c.in_ok-write_all.ensures.bytes (in_turn _ _ _ _ _ c.in_ok-write_all-2.ensures.bytes (in_turn _ _ _ _ _ c.in_ok-write_all-3.ensures.bytes last))) c.write_all-4.ensures.bytes
