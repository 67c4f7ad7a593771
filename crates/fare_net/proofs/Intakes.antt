-- What a piece makes of the frames that came before it.
use Rattle.std.proofs.Common.{◌≡◌, ◌≤◌, ℕ, ◌*◌, List, [], ◌∷◌, ◌++◌, length, take, drop, inr, sym, ap, ◌∙◌, arith, subst, append_assoc, false, true, Some}
use Rattle.std.specs.List.{AllByRecursion}
use Rattle.std.proofs.lemmas.List.Concat.{flat_map-append}
use Rattle.std.proofs.lemmas.List.{append-nil, flat_map_more, length-append, length-drop, length-take}
use Rattle.fare_frame.specs.Grammar.{frame_bytes, spelling_of, kind_of, IsFrame, IsRest}
use Rattle.fare_frame.specs.Reading.{ReaderValue, Spells, Reads, Stops, Overfills, HasNoFrame}
use Rattle.fare_frame.specs.declared.fault.ReadFault.{ReadFault}
use Rattle.fare_frame.specs.declared.fault.ReadFault.TheVariants as decoding
use Rattle.fare_frame.specs.declared.frame.Frame.{Frame}
use Rattle.fare_frame.proofs.Frames.{length-body, length_of-above, parts}
use Rattle.fare_frame.proofs.Places.{rest_is_short}
use Rattle.fare_net.specs.IntakeValue.{IntakeValue}
use Rattle.fare_net.specs.Histories.{bytes_of}
use Rattle.fare_net.specs.Inside.{Stands, IsIntake, intake_of}
use Rattle.fare_net.specs.Intakes.{IsBehind, Holds, IsWaiting, Takes}
use Rattle.fare_net.specs.Turns.{Fed, FeedFails}
use Rattle.fare_net.specs.declared.fault.NetFault.{NetFault}
use Rattle.fare_net.specs.declared.fault.NetFault.TheVariants as net
use Rattle.fare_net.specs.declared.intake.Intake.TheInside.{Inside}
use Rattle.fare_net.specs.declared.intake.Stage.{Stage}
use Rattle.fare_net.specs.declared.intake.Stage.TheVariants.{Live, Ended, Failed}

-- WHAT STANDS
behind_of : (s : Stage) (read : List ℕ) (frames : List Frame) (d : ReaderValue) → Stands s read frames d → (rest : List ℕ) × Spells read frames rest × IsBehind s rest
behind_of Live read frames d h = (d.held, h.0, h.1)
behind_of Ended read frames d h = h
behind_of Failed read frames d h = h

pub holds_inside : (a : Inside) → IsIntake a → Holds (intake_of a)
holds_inside a is =
    let found = behind_of a.stage (intake_of a).read ((intake_of a).taken ++ (intake_of a).pending) a.decoder is.stands in
    record { rest = found.0; spelled = found.1; behind = found.2 }

pub none_left : (frames : List Frame) (place : ℕ) → drop place frames ≡ [] → length frames ≤ place
none_left frames place e = omega (arith, sym (length-drop place frames), ap length e)

-- A PIECE
all-append : (fs gs : List Frame) → AllByRecursion IsFrame fs → AllByRecursion IsFrame gs → AllByRecursion IsFrame (fs ++ gs)
all-append [] gs a b = b
all-append (f ∷ fs) gs a b = (a.0, all-append fs gs a.1 b)

pub spells_then : (read piece held rest : List ℕ) (fs gs : List Frame) → Spells read fs held → Spells (held ++ piece) gs rest → Spells (read ++ piece) (fs ++ gs) rest
spells_then read piece held rest fs gs a b = record {
  lawful = all-append fs gs a.lawful b.lawful;
  whole = ap (λ t. t ++ piece) a.whole ∙ append_assoc (spelling_of fs) held piece ∙ ap (λ t. spelling_of fs ++ t) b.whole
      ∙ sym (append_assoc (spelling_of fs) (spelling_of gs) rest) ∙ ap (λ t. t ++ rest) (sym (flat_map-append frame_bytes fs gs));
}

-- ROOM
frame_has : (f : Frame) → 9 ≤ length (frame_bytes f)
frame_has f = omega (arith, ap length (parts f), length-body f, length_of-above (kind_of f))

pub each_has : (fs : List Frame) → 9 * length fs ≤ length (spelling_of fs)
each_has [] = omega arith
each_has (f ∷ fs) = omega (arith, length-append (frame_bytes f) (spelling_of fs), frame_has f, each_has fs)

-- no piece of 4,096 bytes spells more than 460 frames
pub fits : (capacity : ℕ) (held piece : List ℕ) → IsRest held → length piece ≤ 4096 → 460 ≤ capacity → Overfills capacity [] (held ++ piece) → ⊥
fits capacity held piece rest few room over =
    let n = each_has over.frames in
    omega (arith, n, ap length over.spelled.whole, length-append (spelling_of over.frames) over.rest, length-append held piece, rest_is_short held rest, over.many, room, few)

-- FEEDING
-- a stream that is read on goes on: its decoder took the piece, and holds back less than a frame
pub goes_on : (s : Stage) (read piece : List ℕ) (fs now : List Frame) (old new : ReaderValue) → s ≡ Live → Stands s read fs old → Fed old new [] now piece → Stands s (read ++ piece) (fs ++ now) new
goes_on s read piece fs now old new is stands fed =
    let before : Stands Live read fs old = subst (λ t. Stands t read fs old) is stands in
    let came : now ≡ fed.reads.frames = fed.reads.gained in
    let spelled = spells_then read piece old.held new.held fs fed.reads.frames before.0 fed.reads.spelled in
    let after : Stands Live (read ++ piece) (fs ++ now) new = (subst (λ t. Spells (read ++ piece) (fs ++ t) new.held) (sym came) spelled, fed.rest, fed.sound) in
    subst (λ t. Stands t (read ++ piece) (fs ++ now) new) (sym is) after

stops_at : (read piece : List ℕ) (fs now : List Frame) (old : ReaderValue) (fault : ReadFault) → Spells read fs old.held → Stops fault (old.held ++ piece) [] now → (rest : List ℕ) × Spells (read ++ piece) (fs ++ now) rest × HasNoFrame rest
stops_at read piece fs now old fault spelled stops =
    let more = spells_then read piece old.held stops.rest fs stops.reads.frames spelled stops.reads.spelled in
    (stops.rest, subst (λ t. Spells (read ++ piece) (fs ++ t) stops.rest) (sym stops.reads.gained) more, inr (fault, stops.stands))

-- a stream that fails stops at a place where no frame stands: there is memory for all frames of a piece
pub fails_at : (s : Stage) (read piece : List ℕ) (fs now : List Frame) (old new : ReaderValue) (capacity : ℕ) (fault : NetFault) → s ≡ Live → Stands s read fs old → length piece ≤ 4096 → 460 ≤ capacity
    → FeedFails old new [] now capacity piece fault → (rest : List ℕ) × Spells (read ++ piece) (fs ++ now) rest × HasNoFrame rest
fails_at s read piece fs now old new capacity fault is stands few room why =
    let before : Stands Live read fs old = subst (λ t. Stands t read fs old) is stands in
    by_fault fault before why where
      by_fault : (fault : NetFault) → Stands Live read fs old → FeedFails old new [] now capacity piece fault → (rest : List ℕ) × Spells (read ++ piece) (fs ++ now) rest × HasNoFrame rest
      by_fault net.Read before why = absurd why
      by_fault (net.Frame decoding.BadLength) before why = stops_at read piece fs now old decoding.BadLength before.0 why.0
      by_fault (net.Frame decoding.BadType) before why = stops_at read piece fs now old decoding.BadType before.0 why.0
      by_fault (net.Frame decoding.BadBody) before why = stops_at read piece fs now old decoding.BadBody before.0 why.0
      by_fault (net.Frame decoding.Memory) before why = absurd why
      by_fault (net.Frame decoding.Failed) before why = let no : true ≡ false = sym why.0 ∙ before.2 in cc
      by_fault net.Memory before why = absurd (fits capacity old.held piece before.1 few room why.0)

-- the log of reads, and of frames, with one entry more
pub read_more : (reads : List (List ℕ × ℕ)) (buffer : List ℕ) (count : ℕ) → bytes_of (reads ++ (buffer, count) ∷ []) ≡ bytes_of reads ++ take count buffer
read_more reads buffer count = sym (flat_map_more (λ (r : List ℕ × ℕ). take r.1 r.0) [] reads (buffer, count))

pub nothing_waits : (v : IntakeValue) → IsWaiting v → v.taken ++ v.pending ≡ v.taken
nothing_waits v w = ap (λ t. v.taken ++ t) w.pending ∙ append-nil v.taken

pub few_taken : (count : ℕ) (buffer : List ℕ) → count ≤ 4096 → length (take count buffer) ≤ 4096
few_taken count buffer few = grind (arith, length-take count buffer, few)

-- THE FRAMES THAT WERE TAKEN OFF
all-front : (fs gs : List Frame) → AllByRecursion IsFrame (fs ++ gs) → AllByRecursion IsFrame fs
all-front [] gs all = tt
all-front (f ∷ fs) gs all = (all.0, all-front fs gs all.1)

pub front_taken : (u v : IntakeValue) (f : Frame) → Holds u → Takes u v (Some f) → (rest : List ℕ) × Spells v.read v.taken rest
front_taken u v f holds takes =
    let others = spelling_of v.pending ++ holds.rest in
    let frames : u.taken ++ u.pending ≡ v.taken ++ v.pending = ap (λ t. u.taken ++ t) takes.0 ∙ sym (append_assoc u.taken (f ∷ []) v.pending) ∙ ap (λ t. t ++ v.pending) (sym takes.1) in
    let whole : Spells u.read (v.taken ++ v.pending) holds.rest = subst (λ t. Spells u.read t holds.rest) frames holds.spelled in (
      others,
      record {
        lawful = all-front v.taken v.pending whole.lawful;
        whole = takes.2 ∙ whole.whole ∙ ap (λ t. t ++ holds.rest) (flat_map-append frame_bytes v.taken v.pending) ∙ append_assoc (spelling_of v.taken) (spelling_of v.pending) holds.rest;
      },
    )

-- FEW FRAMES
pub live_rest : (s : Stage) (read : List ℕ) (fs : List Frame) (d : ReaderValue) → s ≡ Live → Stands s read fs d → IsRest d.held
live_rest s read fs d is stands = let before : Stands Live read fs d = subst (λ t. Stands t read fs d) is stands in before.1

pub few_frames : (held piece : List ℕ) (now : List Frame) (rest : List ℕ) → IsRest held → length piece ≤ 4096 → Reads (held ++ piece) [] now rest → length now ≤ 460
few_frames held piece now rest is few reads =
    let n = each_has reads.frames in
    omega (arith, n, ap length reads.gained, ap length reads.spelled.whole, length-append (spelling_of reads.frames) rest, length-append held piece, rest_is_short held is, few)

pub failed_few : (s : Stage) (read piece : List ℕ) (fs now : List Frame) (old new : ReaderValue) (capacity : ℕ) (fault : NetFault) → s ≡ Live → Stands s read fs old → length piece ≤ 4096
    → FeedFails old new [] now capacity piece fault → length now ≤ 460
failed_few s read piece fs now old new capacity fault is stands few why =
    by_fault fault (live_rest s read fs old is stands) why where
      by_fault : (fault : NetFault) → IsRest old.held → FeedFails old new [] now capacity piece fault → length now ≤ 460
      by_fault net.Read rest why = absurd why
      by_fault (net.Frame decoding.BadLength) rest why = few_frames old.held piece now why.0.rest rest few why.0.reads
      by_fault (net.Frame decoding.BadType) rest why = few_frames old.held piece now why.0.rest rest few why.0.reads
      by_fault (net.Frame decoding.BadBody) rest why = few_frames old.held piece now why.0.rest rest few why.0.reads
      by_fault (net.Frame decoding.Memory) rest why = absurd why
      by_fault (net.Frame decoding.Failed) rest why = omega (arith, ap length why.2)
      by_fault net.Memory rest why = omega (arith, ap length why.2)
