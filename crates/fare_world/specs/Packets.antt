-- What a packet's bytes say.
use Rattle.std.specs.Prelude.{◌≡◌, ◌-◌, ◌==◌, ℕ, List, Option, Some, None, if◌then◌else◌, slice_get}
use Rattle.fare_frame.specs.Grammar.{frame_bytes, IsFrame}
use Rattle.fare_frame.specs.declared.frame.Frame.{Frame}

-- where the bytes are a frame's, that frame was read
abbrev pub IsRead : List ℕ → Option Frame → Type 0
IsRead bytes read = (f : Frame) → IsFrame f → bytes ≡ frame_bytes f → read ≡ Some f

-- the bytes of the packet of a number, from 1
abbrev pub bytes_at : List (List ℕ) → ℕ → Option (List ℕ)
bytes_at air packet = if packet == 0 then None else slice_get air (packet - 1)

-- the same of a packet; none was read where there is no packet
abbrev pub IsPacketRead : Option (List ℕ) → Option Frame → Type 0
IsPacketRead None read = read ≡ None
IsPacketRead (Some bytes) read = IsRead bytes read
