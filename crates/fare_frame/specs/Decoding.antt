-- What the decoding of a body answers.
use Rattle.std.specs.Prelude.{Option}
use Rattle.fare_record.specs.Bodies.{record_fault, routed_fault, statement_fault, ack_fault, day_ack_fault, hello_fault}
use Rattle.fare_record.specs.declared.fault.RecordFault.{RecordFault}
use Rattle.fare_frame.specs.declared.frame.Frame.{Frame}
use Rattle.fare_frame.specs.declared.frame.Frame.TheVariants.{Tapped, Stated, Acked, DayAcked, Greeted}
use Rattle.fare_frame.specs.declared.kind.Kind.{Kind}
use Rattle.fare_frame.specs.declared.kind.Kind.TheVariants as kind

-- the first fault of a frame's numbers, each of the width of its field
abbrev pub frame_fault : Frame → Option RecordFault
frame_fault (Tapped r) = record_fault r
frame_fault (Stated s) = statement_fault s
frame_fault (Acked a) = ack_fault a
frame_fault (DayAcked a) = day_ack_fault a
frame_fault (Greeted h) = hello_fault h

-- the first fault of a frame of a kind: that of a tap with its route also where the route is 0
abbrev pub fault_in : Kind → Frame → Option RecordFault
fault_in kind.Routed (Tapped r) = routed_fault r
fault_in _ f = frame_fault f
