-- What was read of a packet.
use Rattle.std.proofs.Common.{◌≡◌, [], Option, Some, sym, ap, ◌∙◌}
use Rattle.std.proofs.lemmas.List.{append-nil}
use Rattle.fare_frame.specs.Grammar.{frame_bytes, IsFrame}
use Rattle.fare_frame.specs.declared.frame.Frame.{Frame}
use Rattle.fare_frame.proofs.Streams.{no_prefix}

-- the frame that was written is the one of the packet's bytes
pub kept_read : (g f : Frame) → IsFrame g → IsFrame f → frame_bytes g ≡ frame_bytes f → ◌≡◌ {A = Option Frame} (Some g) (Some f)
kept_read g f is lawful e = ap Some (no_prefix g f [] [] is lawful (append-nil (frame_bytes g) ∙ e ∙ sym (append-nil (frame_bytes f)))).0
