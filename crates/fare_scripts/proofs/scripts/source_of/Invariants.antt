use Rattle.std.proofs.Common.{◌≡◌, map, reverse, take}
use Rattle.fare_scripts.specs.Sources.{tap_frame}
use Rattle.fare_scripts.proofs.scripts.source_of.Given as goal

abbrev pub invariant-loop-link : goal.invariant-loop-link
invariant-loop-link l = l.frames.items ≡ reverse (map (tap_frame l.device) (take l.link-index l.links))
