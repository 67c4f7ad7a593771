-- Frames one after the other, and what is read of them.
use Rattle.std.proofs.Common.{◌≡◌, ◌<◌, ◌≤◌, ℕ, ◌+◌, ◌-◌, List, [], ◌∷◌, ◌++◌, length, take, drop, inl, inr, refl, sym, ap, ◌∙◌, arith, subst, append_assoc}
use Rattle.std.specs.List.{AllByRecursion}
use Rattle.std.proofs.lemmas.Bool.{cases_lt}
use Rattle.std.proofs.lemmas.List.Concat.{flat_map-append}
use Rattle.std.proofs.lemmas.List.{append-nil, flat_map_more, take_at, drop_at, drop-drop, take-append-drop, take-append-le, length-append, length-drop, take-take, take_rest}
use Rattle.fare_frame.specs.Grammar.{frame_bytes, spelling_of, IsFrame, IsRest, IsFault}
use Rattle.fare_frame.specs.Reading.{Spells, Reads, Stops, Overfills, HasNoFrame, IsFed, stream_of, frames_of}
use Rattle.fare_frame.specs.declared.fault.ReadFault.{ReadFault}
use Rattle.fare_frame.specs.declared.frame.Frame.{Frame}
use Rattle.fare_frame.proofs.Frames.{same_frame, same_behind}
use Rattle.fare_frame.proofs.Places.{not_rest, not_fault, longer_fault}

all-append : (fs gs : List Frame) → AllByRecursion IsFrame fs → AllByRecursion IsFrame gs → AllByRecursion IsFrame (fs ++ gs)
all-append [] gs a b = b
all-append (f ∷ fs) gs a b = (a.0, all-append fs gs a.1 b)

-- no frame is read yet
pub reads_none : (bytes : List ℕ) (frames : List Frame) → Reads bytes frames frames bytes
reads_none bytes frames = record { frames = []; gained = sym (append-nil frames); spelled = record { lawful = tt; whole = refl } }

-- one more frame is read
pub reads_more : (bytes : List ℕ) (old middle new : List Frame) (f : Frame) (rest behind : List ℕ) → Reads bytes old middle rest → IsFrame f → rest ≡ frame_bytes f ++ behind → new ≡ middle ++ f ∷ [] → Reads bytes old new behind
reads_more bytes old middle new f rest behind reads is e pushed =
    let fs = reads.frames in
    let more : spelling_of fs ++ frame_bytes f ≡ spelling_of (fs ++ f ∷ []) = flat_map_more frame_bytes [] fs f in
    record {
      frames = fs ++ f ∷ [];
      gained = pushed ∙ ap (λ t. t ++ f ∷ []) reads.gained ∙ append_assoc old fs (f ∷ []);
      spelled = record {
        lawful = all-append fs (f ∷ []) reads.spelled.lawful (is, tt);
        whole = reads.spelled.whole ∙ ap (λ t. spelling_of fs ++ t) e ∙ sym (append_assoc (spelling_of fs) (frame_bytes f) behind) ∙ ap (λ t. t ++ behind) more;
      };
    }

-- a frame is read, and then those behind it
pub reads_front : (bytes : List ℕ) (old middle new : List Frame) (f : Frame) (tail rest : List ℕ) → bytes ≡ frame_bytes f ++ tail → IsFrame f → middle ≡ old ++ f ∷ [] → Reads tail middle new rest → Reads bytes old new rest
reads_front bytes old middle new f tail rest e is pushed reads =
    let fs = reads.frames in
    record {
      frames = f ∷ fs;
      gained = reads.gained ∙ ap (λ t. t ++ fs) pushed ∙ append_assoc old (f ∷ []) fs;
      spelled = record {
        lawful = (is, reads.spelled.lawful);
        whole = e ∙ ap (λ t. frame_bytes f ++ t) reads.spelled.whole ∙ sym (append_assoc (frame_bytes f) (spelling_of fs) rest);
      };
    }

-- WHAT IS HELD, AND A PIECE
-- the same bytes, and the piece behind them
joined : (held piece : List ℕ) (room : ℕ) → (held ++ take room piece) ++ drop room piece ≡ held ++ piece
joined held piece room = append_assoc held (take room piece) (drop room piece) ∙ ap (λ t. held ++ t) (take-append-drop room piece)

pub fault_in_piece : (held piece : List ℕ) (room : ℕ) (fault : ReadFault) → IsFault (held ++ take room piece) fault → IsFault (held ++ piece) fault
fault_in_piece held piece room fault stands = subst (λ t. IsFault t fault) (joined held piece room) (longer_fault (held ++ take room piece) (drop room piece) fault stands)

-- a rest ends within the frame that the bytes begin with
pub held_within : (held more behind : List ℕ) (f : Frame) → IsRest held → held ++ more ≡ frame_bytes f ++ behind → length held < length (frame_bytes f)
held_within held more behind f rest e =
    elim (cases_lt (length held) (length (frame_bytes f))) [
      | inl within ↦ within
      | inr past ↦
          let n = length (frame_bytes f) in
          let front : take n held ≡ frame_bytes f = sym (take-append-le n held more past) ∙ ap (take n) e ∙ take_at (frame_bytes f) behind n refl in
          let whole : frame_bytes f ++ drop n held ≡ held = ap (λ t. t ++ drop n held) (sym front) ∙ take-append-drop n held in
          absurd (not_rest f (drop n held) (subst IsRest (sym whole) rest))
    ]

-- where the first frame ends in the piece
pub first_in_piece : (held piece : List ℕ) (room : ℕ) (f : Frame) (size : ℕ) → IsRest held → held ++ take room piece ≡ frame_bytes f ++ drop size (held ++ take room piece) → size ≤ length (held ++ take room piece)
    → (length held ≤ size) × (held ++ piece ≡ frame_bytes f ++ drop (size - length held) piece)
first_in_piece held piece room f size rest e within =
    let bytes = held ++ take room piece in
    let more = drop room piece in
    let taken = size - length held in
    let longer : length held < length (frame_bytes f) = held_within held (take room piece) (drop size bytes) f rest e in
    let as_long : length (frame_bytes f) ≡ size = omega (arith, ap length e, length-append (frame_bytes f) (drop size bytes), length-drop size bytes) in
    let whole : held ++ piece ≡ frame_bytes f ++ (drop size bytes ++ more) = sym (joined held piece room) ∙ ap (λ t. t ++ more) e ∙ append_assoc (frame_bytes f) (drop size bytes) more in
    let behind : drop size (held ++ piece) ≡ drop size bytes ++ more = ap (drop size) whole ∙ drop_at (frame_bytes f) (drop size bytes ++ more) size as_long in
    let size_is : size ≡ length held + taken = omega arith in
    let in_piece : drop size (held ++ piece) ≡ drop taken piece = ap (λ n. drop n (held ++ piece)) size_is ∙ sym (drop-drop taken (length held) (held ++ piece)) ∙ ap (drop taken) (drop_at held piece (length held) refl) in
    (omega arith, whole ∙ ap (λ t. frame_bytes f ++ t) (sym behind ∙ in_piece))

-- the stream stops where the reading begins
pub stops_here : (bytes : List ℕ) (frames : List Frame) (fault : ReadFault) → IsFault bytes fault → Stops fault bytes frames frames
stops_here bytes frames fault stands = record { rest = bytes; reads = reads_none bytes frames; stands = stands }

-- a frame is read, and the stream stops behind it
pub stops_front : (bytes : List ℕ) (old middle new : List Frame) (f : Frame) (tail : List ℕ) (fault : ReadFault) → bytes ≡ frame_bytes f ++ tail → IsFrame f → middle ≡ old ++ f ∷ [] → Stops fault tail middle new → Stops fault bytes old new
stops_front bytes old middle new f tail fault e is pushed stops =
    record { rest = stops.rest; reads = reads_front bytes old middle new f tail stops.rest e is pushed stops.reads; stands = stops.stands }

pub keeps_front : (old middle new : List Frame) (f : Frame) → middle ≡ old ++ f ∷ [] → take (length middle) new ≡ middle → take (length old) new ≡ old
keeps_front old middle new f pushed kept =
    let within : length old ≤ length middle = omega (arith, ap length pushed, length-append old (f ∷ [])) in
    sym (take-take (length old) (length middle) new within) ∙ ap (take (length old)) (kept ∙ pushed) ∙ take_at old (f ∷ []) (length old) refl

-- the first frame, and the slice of the piece behind it
pub first_and_slice : (held piece bytes : List ℕ) (room size before : ℕ) (f : Frame) → IsRest held → bytes ≡ held ++ take room piece → before ≡ length held → bytes ≡ frame_bytes f ++ drop size bytes → size ≤ length bytes
    → held ++ piece ≡ frame_bytes f ++ take (length piece - (size - before)) (drop (size - before) piece)
first_and_slice held piece bytes room size before f rest is count e within =
    let e' : held ++ take room piece ≡ frame_bytes f ++ drop size (held ++ take room piece) = sym is ∙ e ∙ ap (λ t. frame_bytes f ++ drop size t) is in
    let found = first_in_piece held piece room f size rest e' (omega (arith, ap length is)) in
    let taken : size - length held ≡ size - before = omega arith in
    found.1 ∙ ap (λ n. frame_bytes f ++ drop n piece) taken ∙ ap (λ t. frame_bytes f ++ t) (sym (take_rest piece (size - before)))

-- ONE READING
no_frame : (bytes : List ℕ) (f : Frame) (more : List ℕ) → IsFrame f → HasNoFrame bytes → bytes ≡ frame_bytes f ++ more → ⊥
no_frame bytes f more is (inl rest) e = not_rest f more (subst IsRest e rest)
no_frame bytes f more is (inr (fault, stands)) e = not_fault f more fault is (subst (λ t. IsFault t fault) e stands)

pub frame_or_none : (f : Frame) (more : List ℕ) → IsFrame f → HasNoFrame (frame_bytes f ++ more) → ⊥
frame_or_none f more is none = no_frame (frame_bytes f ++ more) f more is none refl

-- two readings of one stream are one
pub same_reading : (fs gs : List Frame) (r s : List ℕ) → AllByRecursion IsFrame fs → AllByRecursion IsFrame gs → HasNoFrame r → HasNoFrame s → spelling_of fs ++ r ≡ spelling_of gs ++ s → (fs ≡ gs) × (r ≡ s)
same_reading [] [] r s a b n m e = (refl, e)
same_reading [] (g ∷ gs) r s a b n m e = absurd (no_frame r g (spelling_of gs ++ s) b.0 n (e ∙ append_assoc (frame_bytes g) (spelling_of gs) s))
same_reading (f ∷ fs) [] r s a b n m e = absurd (no_frame s f (spelling_of fs ++ r) a.0 m (sym e ∙ append_assoc (frame_bytes f) (spelling_of fs) r))
same_reading (f ∷ fs) (g ∷ gs) r s a b n m e =
    let left = spelling_of fs ++ r in
    let right = spelling_of gs ++ s in
    let e' : frame_bytes f ++ left ≡ frame_bytes g ++ right = sym (append_assoc (frame_bytes f) (spelling_of fs) r) ∙ e ∙ append_assoc (frame_bytes g) (spelling_of gs) s in
    let first : f ≡ g = same_frame f g left right a.0 b.0 e' in
    let behind : left ≡ right = same_behind f g left right a.0 b.0 e' in
    let others = same_reading fs gs r s a.1 b.1 n m behind in
    let both : f ∷ fs ≡ g ∷ gs = ap (λ t. f ∷ t) others.0 ∙ ap (λ h. h ∷ gs) first in
    (both, others.1)

pub one_reading : (fs gs : List Frame) (bytes r s : List ℕ) → Spells bytes fs r → Spells bytes gs s → HasNoFrame r → HasNoFrame s → (fs ≡ gs) × (r ≡ s)
one_reading fs gs bytes r s a b n m = same_reading fs gs r s a.lawful b.lawful n m (sym a.whole ∙ b.whole)

pub no_prefix : (f g : Frame) (xs ys : List ℕ) → IsFrame f → IsFrame g → frame_bytes f ++ xs ≡ frame_bytes g ++ ys → (f ≡ g) × (xs ≡ ys)
no_prefix f g xs ys a b e = (same_frame f g xs ys a b e, same_behind f g xs ys a b e)

-- PIECES
-- what was held and all pieces are one stream
fed_from : (held : List ℕ) (turns : List (List ℕ × List Frame)) (rest : List ℕ) → IsFed held turns rest → Spells (held ++ stream_of turns) (frames_of turns) rest
fed_from held [] rest fed = record { lawful = tt; whole = append-nil held ∙ sym fed }
fed_from held ((piece, frames) ∷ turns) rest (middle, spelled, fed) =
    let others = fed_from middle turns rest fed in
    let stream = stream_of turns in
    let gs = frames_of turns in
    record {
      lawful = all-append frames gs spelled.lawful others.lawful;
      whole = sym (append_assoc held piece stream) ∙ ap (λ t. t ++ stream) spelled.whole ∙ append_assoc (spelling_of frames) middle stream ∙ ap (λ t. spelling_of frames ++ t) others.whole
          ∙ sym (append_assoc (spelling_of frames) (spelling_of gs) rest) ∙ ap (λ t. t ++ rest) (sym (flat_map-append frame_bytes frames gs));
    }

pub fed_whole : (turns : List (List ℕ × List Frame)) (rest : List ℕ) → IsFed [] turns rest → Spells (stream_of turns) (frames_of turns) rest
fed_whole turns rest fed = fed_from [] turns rest fed

pub fed_only : (turns : List (List ℕ × List Frame)) (rest : List ℕ) → IsFed [] turns rest → HasNoFrame rest → (gs : List Frame) (s : List ℕ) → Spells (stream_of turns) gs s → HasNoFrame s → (frames_of turns ≡ gs) × (rest ≡ s)
fed_only turns rest fed none gs s spelled end = one_reading (frames_of turns) gs (stream_of turns) rest s (fed_whole turns rest fed) spelled none end

-- WANT OF ROOM
-- behind the frames that fill the list stands one more
pub overfills_next : (capacity : ℕ) (bytes : List ℕ) (old filled : List Frame) (f : Frame) (rest behind : List ℕ) → Reads bytes old filled rest → IsFrame f → rest ≡ frame_bytes f ++ behind → capacity ≤ length filled → Overfills capacity old bytes
overfills_next capacity bytes old filled f rest behind reads is e full =
    let more = reads_more bytes old filled (filled ++ f ∷ []) f rest behind reads is e refl in
    record {
      frames = more.frames;
      rest = behind;
      spelled = more.spelled;
      many = omega (arith, ap length more.gained, length-append old more.frames, length-append filled (f ∷ []));
    }

pub overfills_front : (capacity wider : ℕ) (bytes : List ℕ) (old middle : List Frame) (f : Frame) (tail : List ℕ) → bytes ≡ frame_bytes f ++ tail → IsFrame f → middle ≡ old ++ f ∷ [] → capacity ≤ wider → Overfills wider middle tail → Overfills capacity old bytes
overfills_front capacity wider bytes old middle f tail e is pushed narrower over =
    let fs = over.frames in
    record {
      frames = f ∷ fs;
      rest = over.rest;
      spelled = record {
        lawful = (is, over.spelled.lawful);
        whole = e ∙ ap (λ t. frame_bytes f ++ t) over.spelled.whole ∙ sym (append_assoc (frame_bytes f) (spelling_of fs) over.rest);
      };
      many = omega (arith, over.many, ap length pushed, length-append old (f ∷ []));
    }
