-- What stands at a frame's place.
use Rattle.std.proofs.Common.{◌≡◌, ◌<◌, ◌≤◌, ℕ, zero, suc, ◌+◌, ◌-◌, ◌*◌, List, [], ◌∷◌, ◌++◌, length, take, drop, get_or, None, Some, inl, inr, refl, sym, ap, ◌∙◌, arith, subst}
use Rattle.std.proofs.lemmas.List.{get_or-drop, take-append-drop, take-append-le, take_at, length-append}
use Rattle.fare_record.specs.declared.fault.RecordFault.{RecordFault}
use Rattle.fare_frame.specs.Table.{code_of, length_of, head_of}
use Rattle.fare_frame.specs.Grammar.{kind_of, body_of, frame_bytes, frame_in, IsFrame, IsFrameOf, IsHead, IsRest, IsBadLength, IsBadType, IsBadBody, IsFault}
use Rattle.fare_frame.specs.Decoding.{fault_in}
use Rattle.fare_frame.specs.declared.fault.ReadFault.{ReadFault}
use Rattle.fare_frame.specs.declared.fault.ReadFault.TheVariants.{BadLength, BadType, BadBody, Memory, Failed}
use Rattle.fare_frame.specs.declared.frame.Frame.{Frame}
use Rattle.fare_frame.specs.declared.kind.Kind.{Kind}
use Rattle.fare_frame.proofs.Frames.{IsWide, wide_in, wide_frame, no_fault, within_limits, length-body, same_code, length_of-le, head_is, parts, read_back}

-- the head and what is behind it
pub parted : (bytes head body : List ℕ) → 3 ≤ length bytes → head ≡ take 3 bytes → body ≡ drop 3 bytes → bytes ≡ get_or head 0 0 ∷ get_or head 1 0 ∷ get_or head 2 0 ∷ body
parted [] head body long first behind = absurd (omega arith)
parted (a ∷ []) head body long first behind = absurd (omega arith)
parted (a ∷ b ∷ []) head body long first behind = absurd (omega arith)
parted (a ∷ b ∷ c ∷ rest) head body long first behind = rw (first, behind) refl

-- a frame with its kind's head and the body that the bytes begin with
pub frame_stands : (k : Kind) (f : Frame) (high low code : ℕ) (body : List ℕ) → low < 256 → IsHead k high low code → kind_of f ≡ k → body_of f ≡ take (length_of k - 1) body
    → high ∷ low ∷ code ∷ body ≡ frame_bytes f ++ drop (length_of k - 1) body
frame_stands k f high low code body small head kind first =
    let n = length_of k - 1 in
    let bytes : frame_bytes f ≡ high ∷ low ∷ code ∷ take n body = ap (λ j. head_of j ++ body_of f) kind ∙ ap (λ t. head_of k ++ t) first ∙ ap (λ h. h ++ take n body) (head_is k high low code small head) in
    let whole : take n body ++ drop n body ≡ body = take-append-drop n body in
    ap (λ t. high ∷ low ∷ code ∷ t) (sym whole) ∙ sym (ap (λ t. t ++ drop n body) bytes)

small_take : (n : ℕ) (bytes : List ℕ) → ((i : ℕ) → get_or bytes i 0 < 256) → (i : ℕ) → get_or (take n bytes) i 0 < 256
small_take zero bytes small i = omega arith
small_take (suc n) [] small i = small i
small_take (suc n) (y ∷ ys) small zero = small 0
small_take (suc n) (y ∷ ys) small (suc i) = small_take n ys (λ j. small (suc j)) i

module _ (bytes head body : List ℕ) (small : (i : ℕ) → get_or bytes i 0 < 256) (long : 3 ≤ length bytes) (first : head ≡ take 3 bytes) (behind : body ≡ drop 3 bytes) (k : Kind)
    (is : IsHead k (get_or head 0 0) (get_or head 1 0) (get_or head 2 0)) where
  -- the bytes begin with a frame whose head and body were read
  pub frame_read : (f : Frame) → kind_of f ≡ k → body_of f ≡ take (length_of k - 1) body → f ≡ frame_in k (take (length_of k - 1) body) → fault_in k f ≡ None
      → (bytes ≡ frame_bytes f ++ drop (length_of k - 1) body) × IsFrame f
  frame_read f kind spelled value lawful =
      let low : get_or head 1 0 < 256 = rw first (small_take 3 bytes small 1) in
      let small_body : (i : ℕ) → get_or body i 0 < 256 = λ i. rw (behind, get_or-drop 3 bytes i 0) (small (3 + i)) in
      let wide : IsWide (frame_in k (take (length_of k - 1) body)) = wide_in k (take (length_of k - 1) body) (small_take (length_of k - 1) body small_body) in (
        parted bytes head body long first behind ∙ frame_stands k f (get_or head 0 0) (get_or head 1 0) (get_or head 2 0) body low is kind spelled,
        within_limits k f (subst IsWide (sym value) wide) lawful,
      )

  -- or with a head and a body that no frame has
  pub body_fault_stands : (fault : RecordFault) → length_of k ≤ length body + 1 → fault_in k (frame_in k (take (length_of k - 1) body)) ≡ Some fault → IsFault bytes BadBody
  body_fault_stands fault whole found =
      let none : IsFrameOf k (frame_in k (take (length_of k - 1) body)) → ⊥ = λ lawful. cc (no_fault k (frame_in k (take (length_of k - 1) body)) lawful, found) in
      subst (λ t. IsFault t BadBody) (sym (parted bytes head body long first behind)) (k, is, (whole, none))

-- a rest is shorter than the longest frame
pub rest_is_short : (bytes : List ℕ) → IsRest bytes → length bytes ≤ 50
rest_is_short [] rest = omega arith
rest_is_short (a ∷ []) rest = omega arith
rest_is_short (a ∷ b ∷ []) rest = omega arith
rest_is_short (a ∷ b ∷ c ∷ body) (k, head, few) = omega (arith, length_of-le k)

-- no whole frame is a rest
pub not_rest : (f : Frame) (more : List ℕ) → IsRest (frame_bytes f ++ more) → ⊥
not_rest f more rest =
    let (k, head, few) = subst IsRest (ap (λ t. t ++ more) (parts f)) rest in
    let same : k ≡ kind_of f = same_code k (kind_of f) head.type in
    omega (arith, ap length_of same, length-body f, length-append (body_of f) more)

module _ (f : Frame) (more : List ℕ) (is : IsFrame f) where
  sound_body : (j : Kind) → j ≡ kind_of f → IsBadBody j (body_of f ++ more) → ⊥
  sound_body j same bad =
      let n = length_of j - 1 in
      let as_long : length (body_of f) ≡ n = omega (arith, ap length_of same, length-body f) in
      let body : take n (body_of f ++ more) ≡ body_of f = take_at (body_of f) more n as_long in
      let own : frame_in j (take n (body_of f ++ more)) ≡ f = ap (frame_in j) body ∙ ap (λ k. frame_in k (body_of f)) same ∙ read_back f (wide_frame f is) in
      bad.1 (subst (IsFrameOf j) (sym own) (is, sym same))

  sound : (fault : ReadFault) → IsFault (0 ∷ length_of (kind_of f) ∷ code_of (kind_of f) ∷ (body_of f ++ more)) fault → ⊥
  sound BadLength (inl none) = none (kind_of f) (omega arith)
  sound BadLength (inr (j, same, other)) = other (ap length_of (same_code j (kind_of f) same) ∙ omega arith)
  sound BadType (some, none) = none (kind_of f) refl
  sound BadBody (j, head, bad) = sound_body j (same_code j (kind_of f) head.type) bad
  sound Memory h = absurd h
  sound Failed h = absurd h

-- at a frame's place no fault stands
pub not_fault : (f : Frame) (more : List ℕ) (fault : ReadFault) → IsFrame f → IsFault (frame_bytes f ++ more) fault → ⊥
not_fault f more fault is stands = sound f more is fault (subst (λ t. IsFault t fault) (ap (λ t. t ++ more) (parts f)) stands)

-- more bytes take no fault away
pub longer_fault : (bytes more : List ℕ) (fault : ReadFault) → IsFault bytes fault → IsFault (bytes ++ more) fault
longer_fault (a ∷ b ∷ c ∷ body) more BadLength h = h
longer_fault (a ∷ b ∷ c ∷ body) more BadType h = h
longer_fault (a ∷ b ∷ c ∷ body) more BadBody (k, head, (long, bad)) =
    let same : take (length_of k - 1) (body ++ more) ≡ take (length_of k - 1) body = take-append-le (length_of k - 1) body more (omega arith) in
    (k, head, (omega (arith, length-append body more), subst (λ t. IsFrameOf k (frame_in k t) → ⊥) (sym same) bad))
longer_fault (a ∷ b ∷ c ∷ body) more Memory h = absurd h
longer_fault (a ∷ b ∷ c ∷ body) more Failed h = absurd h
longer_fault [] more fault h = absurd h
longer_fault (a ∷ []) more fault h = absurd h
longer_fault (a ∷ b ∷ []) more fault h = absurd h

-- a right head is no fault
right_length : (k : Kind) (high low code : ℕ) → IsHead k high low code → IsBadLength (256 * high + low) code → ⊥
right_length k high low code head (inl none) = none k head.counts
right_length k high low code head (inr (j, same, other)) = other (ap length_of (same_code j k (same ∙ sym head.type)) ∙ head.counts)

right_type : (k : Kind) (high low code : ℕ) → IsHead k high low code → IsBadType (256 * high + low) code → ⊥
right_type k high low code head (some, none) = none k head.type

not_both : (n code : ℕ) → IsBadLength n code → IsBadType n code → ⊥
not_both n code (inl none) ((k, is), other) = none k is
not_both n code (inr (j, same, wrong)) (some, none) = none j same

-- what is less than a frame has no fault
pub rest_or_fault : (bytes : List ℕ) (fault : ReadFault) → IsRest bytes → IsFault bytes fault → ⊥
rest_or_fault (a ∷ b ∷ c ∷ body) BadLength (k, head, few) stands = right_length k a b c head stands
rest_or_fault (a ∷ b ∷ c ∷ body) BadType (k, head, few) stands = right_type k a b c head stands
rest_or_fault (a ∷ b ∷ c ∷ body) BadBody (k, head, few) (j, is, (long, bad)) = omega (arith, head.counts, is.counts)
rest_or_fault (a ∷ b ∷ c ∷ body) Memory rest stands = stands
rest_or_fault (a ∷ b ∷ c ∷ body) Failed rest stands = stands
rest_or_fault [] fault rest stands = stands
rest_or_fault (a ∷ []) fault rest stands = stands
rest_or_fault (a ∷ b ∷ []) fault rest stands = stands

-- one fault stands at a place
pub one_fault : (bytes : List ℕ) (f g : ReadFault) → IsFault bytes f → IsFault bytes g → f ≡ g
one_fault (a ∷ b ∷ c ∷ body) BadLength BadLength x y = refl
one_fault (a ∷ b ∷ c ∷ body) BadLength BadType x y = absurd (not_both (256 * a + b) c x y)
one_fault (a ∷ b ∷ c ∷ body) BadLength BadBody x (k, head, bad) = absurd (right_length k a b c head x)
one_fault (a ∷ b ∷ c ∷ body) BadType BadLength x y = absurd (not_both (256 * a + b) c y x)
one_fault (a ∷ b ∷ c ∷ body) BadType BadType x y = refl
one_fault (a ∷ b ∷ c ∷ body) BadType BadBody x (k, head, bad) = absurd (right_type k a b c head x)
one_fault (a ∷ b ∷ c ∷ body) BadBody BadLength (k, head, bad) y = absurd (right_length k a b c head y)
one_fault (a ∷ b ∷ c ∷ body) BadBody BadType (k, head, bad) y = absurd (right_type k a b c head y)
one_fault (a ∷ b ∷ c ∷ body) BadBody BadBody x y = refl
one_fault (a ∷ b ∷ c ∷ body) Memory g x y = absurd x
one_fault (a ∷ b ∷ c ∷ body) Failed g x y = absurd x
one_fault (a ∷ b ∷ c ∷ body) BadLength Memory x y = absurd y
one_fault (a ∷ b ∷ c ∷ body) BadLength Failed x y = absurd y
one_fault (a ∷ b ∷ c ∷ body) BadType Memory x y = absurd y
one_fault (a ∷ b ∷ c ∷ body) BadType Failed x y = absurd y
one_fault (a ∷ b ∷ c ∷ body) BadBody Memory x y = absurd y
one_fault (a ∷ b ∷ c ∷ body) BadBody Failed x y = absurd y
one_fault [] f g x y = absurd x
one_fault (a ∷ []) f g x y = absurd x
one_fault (a ∷ b ∷ []) f g x y = absurd x
