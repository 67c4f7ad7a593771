-- The last of the passes of an inbox.
use Rattle.std.proofs.Common.{◌≡◌, List, [], ◌∷◌, ◌++◌, All, Some}
use Rattle.std.proofs.lemmas.List.Elements.{All-pop}
use Rattle.fare_inbox_queue.specs.declared.inbox_passes.StationPass.{StationPass}
use Rattle.fare_inbox_queue.specs.declared.inbox.Inbox.{Inbox}
use Rattle.fare_inbox_queue.specs.InboxPasses.{IsStationOf}

pub popped : (inbox : Inbox) (all others : List StationPass) (pass : StationPass) → all ≡ others ++ pass ∷ [] → All (IsStationOf inbox) all → All (IsStationOf inbox) others × IsStationOf inbox pass
popped inbox all others pass is each = All-pop (IsStationOf inbox) all others (Some pass) is each
