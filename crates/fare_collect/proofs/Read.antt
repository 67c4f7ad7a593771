-- What a station's thread did, one step more.
use Rattle.std.proofs.Common.{◌≡◌, ◌≢◌, ℕ, List, [], ◌∷◌, ◌++◌, map, Some, None, true, false, refl, sym, ap, ◌∙◌, subst, append_assoc, inl, inr, arith}
use Rattle.std.specs.Prelude.{Option, Bool, Ok, Err}
use Rattle.std.proofs.lemmas.List.{append-nil, map-append}
use Rattle.fare_frame.specs.declared.frame.Frame.{Frame}
use Rattle.fare_frame.specs.declared.frame.Frame.TheVariants.{Tapped, Stated, Acked, DayAcked, Greeted}
use Rattle.fare_scheme.specs.Values.{SchemeValue}
use Rattle.fare_inbox_queue.specs.declared.arrived.Arrived.{Arrived}
use Rattle.fare_record.specs.declared.ack_item.AckItem.{AckItem}
use Rattle.fare_source.specs.declared.fault.SourceFault.{SourceFault}
use Rattle.fare_source.specs.declared.fault.SourceFault.TheVariants as source
use Rattle.fare_collect.specs.declared.fault.StationFault.{StationFault}
use Rattle.fare_collect.specs.declared.fault.StationFault.TheVariants.{Source, Unexpected, Memory}
use Rattle.fare_source.specs.Talking.{Talk, Waits, Gives, Hears}
use Rattle.fare_history.specs.AcceptedLinks.{next_links, next_links_all}
use Rattle.fare_collect.specs.Arriving.{arrivals}
use Rattle.fare_writer.specs.Arriving.{arrived_of, IsUnexpected}
use Rattle.fare_collect.specs.Stations.{frame_for, as_station, held_list, AreExpected, SourceCounted, HasPassedOn, HasAnswered, HasRead}

-- FRAMES
pub arrivals_append : (sc : SchemeValue) (station : ℕ) (next : ℕ → Option ℕ) (fs gs : List Frame) → arrivals sc station next (fs ++ gs) ≡ arrivals sc station next fs ++ arrivals sc station (next_links_all sc next fs) gs
arrivals_append sc station next [] gs = refl
arrivals_append sc station next (f ∷ fs) gs =
    ap (λ l. arrived_of sc station next f ++ l) (arrivals_append sc station (next_links sc next f) fs gs)
    ∙ sym (append_assoc (arrived_of sc station next f) (arrivals sc station (next_links sc next f) fs) (arrivals sc station (next_links_all sc (next_links sc next f) fs) gs))

pub next_append : (sc : SchemeValue) (next : ℕ → Option ℕ) (fs gs : List Frame) → next_links_all sc next (fs ++ gs) ≡ next_links_all sc (next_links_all sc next fs) gs
next_append sc next [] gs = refl
next_append sc next (f ∷ fs) gs = next_append sc (next_links sc next f) fs gs

-- without a fault each of them is one that a device sends, whatever comes later
pub expected_by : (fault : Option StationFault) (fs : List Frame) → AreExpected None fs → AreExpected fault fs
expected_by fault [] fine = tt
expected_by fault (f ∷ fs) fine = (λ wrong. let e = (fine.0 wrong).1 in absurd (cc e), expected_by fault fs fine.1)

pub expected_append : (fault : Option StationFault) (fs gs : List Frame) → AreExpected None fs → AreExpected fault gs → AreExpected fault (fs ++ gs)
expected_append fault [] gs fine more = more
expected_append fault (f ∷ fs) gs fine more = (λ wrong. let e = (fine.0 wrong).1 in absurd (cc e), expected_append fault fs gs fine.1 more)

pub expected_front : (fs gs : List Frame) → AreExpected None (fs ++ gs) → AreExpected None fs
expected_front [] gs fine = tt
expected_front (f ∷ fs) gs fine = (λ wrong. let e = (fine.0 wrong).1 in absurd (cc e), expected_front fs gs fine.1)

-- one more that a device sends
pub expected_more : (fs : List Frame) (f : Frame) → AreExpected None fs → (IsUnexpected f → ⊥) → AreExpected None (fs ++ f ∷ [])
expected_more fs f fine sends = expected_append None fs (f ∷ []) fine (λ wrong. absurd (sends wrong), tt)

-- a station keeps its first fault
pub expected_kept : (before after : Option StationFault) (fs : List Frame) → (before ≢ None → after ≡ before) → AreExpected before fs → AreExpected after fs
expected_kept None after fs first fine = expected_by after fs fine
expected_kept (Some w) after fs first fine = subst (λ (v : Option StationFault). AreExpected v fs) (sym (first (λ e. absurd (cc e)))) fine

-- ANSWERS
pub answered_none : (t : Talk) (h : List AckItem) → HasAnswered t t h h None
answered_none t h = record {
  handed = [];
  lost = [];
  took = sym (append-nil h);
  answered = sym (append-nil t.answered);
  few = omega arith;
  kept = λ n. refl;
  given = refl;
  ended = λ e. e;
  other = λ e. absurd (cc);
  cause = refl;
}

not_memory : ◌≢◌ {A = Option StationFault} None (Some Memory)
not_memory e = absurd (cc)

-- one more answer, that the source took or failed at
pub answered_more : (a b c : Talk) (h0 h1 h2 : List AckItem) (item : AckItem) → HasAnswered a b h0 h1 None → h2 ≡ h1 ++ item ∷ [] → Hears b c (frame_for item) (Ok tt) → HasAnswered a c h0 h2 None
answered_more a b c h0 h1 h2 item was took heard =
    let none = was.kept not_memory in
    let all : h1 ≡ h0 ++ was.handed = was.took ∙ (ap (λ l. h0 ++ (was.handed ++ l)) none ∙ ap (λ l. h0 ++ l) (append-nil was.handed)) in
    record {
      handed = was.handed ++ item ∷ [];
      lost = [];
      took = took ∙ (ap (λ l. l ++ item ∷ []) all ∙ (append_assoc h0 was.handed (item ∷ []) ∙ ap (λ l. h0 ++ l) (sym (append-nil (was.handed ++ item ∷ [])))));
      answered = heard.answered ∙ (ap (λ l. l ++ frame_for item ∷ []) was.answered ∙ (append_assoc a.answered (map frame_for was.handed) (frame_for item ∷ []) ∙ ap (λ l. a.answered ++ l) (sym (map-append frame_for was.handed (item ∷ [])))));
      few = omega arith;
      kept = λ n. refl;
      given = heard.given ∙ was.given;
      ended = λ e. heard.ended (was.ended e);
      other = λ e. absurd (cc);
      cause = heard.cause ∙ was.cause;
    }

-- the count of a source that failed
source_rose : {old new : ℕ} → Rattle.fare_source.specs.Talking.FailedCounted old new (Some source.Failed) → SourceCounted old new (Some Source)
source_rose (inl lt) = inl lt
source_rose (inr full) = inr full.0

pub answered_failed : (a b c : Talk) (h0 h1 h2 : List AckItem) (item : AckItem) (f : SourceFault) → HasAnswered a b h0 h1 None → h2 ≡ h1 ++ item ∷ [] → Hears b c (frame_for item) (Err f) → HasAnswered a c h0 h2 (Some (as_station f))
answered_failed a b c h0 h1 h2 item source.Failed was took heard =
    let none = was.kept not_memory in
    let all : h1 ≡ h0 ++ was.handed = was.took ∙ (ap (λ l. h0 ++ (was.handed ++ l)) none ∙ ap (λ l. h0 ++ l) (append-nil was.handed)) in
    record {
      handed = was.handed ++ item ∷ [];
      lost = [];
      took = took ∙ (ap (λ l. l ++ item ∷ []) all ∙ (append_assoc h0 was.handed (item ∷ []) ∙ ap (λ l. h0 ++ l) (sym (append-nil (was.handed ++ item ∷ [])))));
      answered = heard.answered ∙ (ap (λ l. l ++ frame_for item ∷ []) was.answered ∙ (append_assoc a.answered (map frame_for was.handed) (frame_for item ∷ []) ∙ ap (λ l. a.answered ++ l) (sym (map-append frame_for was.handed (item ∷ [])))));
      few = omega arith;
      kept = λ n. refl;
      given = heard.given ∙ was.given;
      ended = λ e. heard.ended (was.ended e);
      other = λ e. absurd (cc);
      cause = subst (λ n. SourceCounted n c.failures (Some Source)) was.cause (source_rose heard.cause);
    }
answered_failed a b c h0 h1 h2 item source.Memory was took heard =
    let none = was.kept not_memory in
    let all : h1 ≡ h0 ++ was.handed = was.took ∙ (ap (λ l. h0 ++ (was.handed ++ l)) none ∙ ap (λ l. h0 ++ l) (append-nil was.handed)) in
    record {
      handed = was.handed;
      lost = item ∷ [];
      took = took ∙ (ap (λ l. l ++ item ∷ []) all ∙ append_assoc h0 was.handed (item ∷ []));
      answered = heard.answered ∙ (append-nil b.answered ∙ was.answered);
      few = omega arith;
      kept = λ n. absurd (n refl);
      given = heard.given ∙ was.given;
      ended = λ e. heard.ended (was.ended e);
      other = λ e. absurd (cc);
      cause = heard.cause ∙ was.cause;
    }

-- READING
pub read_none : (sc : SchemeValue) (station : ℕ) (t : Talk) (next : ℕ → Option ℕ) (sent : List Arrived) (heard : List AckItem) → HasRead sc station t t next next sent sent heard heard None false None
read_none sc station t next sent heard = record {
  frames = [];
  given = sym (append-nil t.given);
  sent = sym (append-nil sent);
  next = refl;
  handed = [];
  lost = [];
  took = sym (append-nil heard);
  answered = sym (append-nil t.answered);
  few = omega arith;
  kept = λ n. refl;
  ended = λ e. absurd (cc);
  unexpected = λ e. absurd (cc);
  expected = tt;
  cause = refl;
}

-- it was asked whether it is ready
pub read_waited : (sc : SchemeValue) (station : ℕ) (a b c : Talk) (n0 n1 : ℕ → Option ℕ) (s0 s1 : List Arrived) (h0 h1 : List AckItem) → HasRead sc station a b n0 n1 s0 s1 h0 h1 None false None → Waits b c → HasRead sc station a c n0 n1 s0 s1 h0 h1 None false None
read_waited sc station a b c n0 n1 s0 s1 h0 h1 r w = record {
  frames = r.frames;
  given = w.given ∙ r.given;
  sent = r.sent;
  next = r.next;
  handed = r.handed;
  lost = r.lost;
  took = r.took;
  answered = w.answered ∙ r.answered;
  few = r.few;
  kept = r.kept;
  ended = λ e. absurd (cc);
  unexpected = λ e. absurd (cc);
  expected = r.expected;
  cause = w.failures ∙ r.cause;
}

-- answers were handed between frames, and perhaps the source failed at the last
pub read_heard : (sc : SchemeValue) (station : ℕ) (a b c : Talk) (n0 n1 : ℕ → Option ℕ) (s0 s1 : List Arrived) (h0 h1 h2 : List AckItem) (f : Option StationFault)
    → HasRead sc station a b n0 n1 s0 s1 h0 h1 None false None → HasAnswered b c h1 h2 f → HasRead sc station a c n0 n1 s0 s1 h0 h2 None false f
read_heard sc station a b c n0 n1 s0 s1 h0 h1 h2 f was heard =
    let none = was.kept not_memory in
    let all : h1 ≡ h0 ++ was.handed = was.took ∙ (ap (λ l. h0 ++ (was.handed ++ l)) none ∙ ap (λ l. h0 ++ l) (append-nil was.handed)) in
    record {
      frames = was.frames;
      given = heard.given ∙ was.given;
      sent = was.sent;
      next = was.next;
      handed = was.handed ++ heard.handed;
      lost = heard.lost;
      took = heard.took ∙ (ap (λ l. l ++ (heard.handed ++ heard.lost)) all ∙ (append_assoc h0 was.handed (heard.handed ++ heard.lost) ∙ ap (λ l. h0 ++ l) (sym (append_assoc was.handed heard.handed heard.lost))));
      answered = heard.answered ∙ (ap (λ l. l ++ map frame_for heard.handed) was.answered ∙ (append_assoc a.answered (map frame_for was.handed) (map frame_for heard.handed) ∙ ap (λ l. a.answered ++ l) (sym (map-append frame_for was.handed heard.handed))));
      few = heard.few;
      kept = heard.kept;
      ended = λ e. absurd (cc);
      unexpected = λ e. absurd (heard.other e);
      expected = expected_by f (was.frames ++ []) was.expected;
      cause = subst (λ n. SourceCounted n c.failures f) was.cause heard.cause;
    }

-- the source came to its end
pub read_end : (sc : SchemeValue) (station : ℕ) (a b c : Talk) (n0 n1 : ℕ → Option ℕ) (s0 s1 : List Arrived) (h0 h1 : List AckItem)
    → HasRead sc station a b n0 n1 s0 s1 h0 h1 None false None → Gives b c (Ok None) → HasRead sc station a c n0 n1 s0 s1 h0 h1 None true None
read_end sc station a b c n0 n1 s0 s1 h0 h1 was gives = record {
  frames = was.frames;
  given = gives.given ∙ (append-nil b.given ∙ was.given);
  sent = was.sent;
  next = was.next;
  handed = was.handed;
  lost = was.lost;
  took = was.took;
  answered = gives.answered ∙ was.answered;
  few = was.few;
  kept = was.kept;
  ended = λ e. (gives.ended refl, refl, refl);
  unexpected = λ e. absurd (cc);
  expected = was.expected;
  cause = gives.cause ∙ was.cause;
}

-- or it failed
pub read_failed : (sc : SchemeValue) (station : ℕ) (a b c : Talk) (n0 n1 : ℕ → Option ℕ) (s0 s1 : List Arrived) (h0 h1 : List AckItem) (f : SourceFault)
    → HasRead sc station a b n0 n1 s0 s1 h0 h1 None false None → Gives b c (Err f) → HasRead sc station a c n0 n1 s0 s1 h0 h1 None false (Some (as_station f))
read_failed sc station a b c n0 n1 s0 s1 h0 h1 f was gives = record {
  frames = was.frames;
  given = gives.given ∙ (append-nil b.given ∙ was.given);
  sent = was.sent;
  next = was.next;
  handed = was.handed;
  lost = was.lost;
  took = was.took;
  answered = gives.answered ∙ was.answered;
  few = was.few;
  kept = λ n. was.kept not_memory;
  ended = λ e. absurd (cc);
  unexpected = λ e. absurd (never f e);
  expected = expected_by (Some (as_station f)) (was.frames ++ []) was.expected;
  cause = counts f gives.cause;
}
  where
    never : (f : SourceFault) → Some (as_station f) ≡ Some Unexpected → ⊥
    never source.Failed e = absurd (cc)
    never source.Memory e = absurd (cc)

    counts : (f : SourceFault) → Rattle.fare_source.specs.Talking.FailedCounted b.failures c.failures (Some f) → SourceCounted a.failures c.failures (Some (as_station f))
    counts source.Failed x = subst (λ n. SourceCounted n c.failures (Some Source)) was.cause (source_rose x)
    counts source.Memory x = x ∙ was.cause

-- a frame more was given and passed on
given_on : (a b c : Talk) (frames : List Frame) (f : Frame) → b.given ≡ a.given ++ (frames ++ []) → Gives b c (Ok (Some f)) → c.given ≡ a.given ++ ((frames ++ f ∷ []) ++ [])
given_on a b c frames f was gives = gives.given ∙ (ap (λ l. l ++ f ∷ []) (was ∙ ap (λ l. a.given ++ l) (append-nil frames)) ∙ (append_assoc a.given frames (f ∷ []) ∙ ap (λ l. a.given ++ l) (sym (append-nil (frames ++ f ∷ [])))))

sent_on : (sc : SchemeValue) (station : ℕ) (n0 n1 n2 : ℕ → Option ℕ) (s0 s1 s2 : List Arrived) (frames : List Frame) (f : Frame)
    → s1 ≡ s0 ++ arrivals sc station n0 frames → n1 ≡ next_links_all sc n0 frames → HasPassedOn sc station n1 n2 s1 s2 f true → s2 ≡ s0 ++ arrivals sc station n0 (frames ++ f ∷ [])
sent_on sc station n0 n1 n2 s0 s1 s2 frames f sent next on =
    on.sent refl ∙ (ap (λ l. l ++ arrived_of sc station n1 f) sent ∙ (append_assoc s0 (arrivals sc station n0 frames) (arrived_of sc station n1 f)
    ∙ ap (λ l. s0 ++ l) (ap (λ n. arrivals sc station n0 frames ++ arrived_of sc station n f) next
    ∙ (ap (λ l. arrivals sc station n0 frames ++ l) (sym (append-nil (arrived_of sc station (next_links_all sc n0 frames) f))) ∙ sym (arrivals_append sc station n0 frames (f ∷ []))))))

next_on : (sc : SchemeValue) (station : ℕ) (n0 n1 n2 : ℕ → Option ℕ) (s1 s2 : List Arrived) (frames : List Frame) (f : Frame)
    → n1 ≡ next_links_all sc n0 frames → HasPassedOn sc station n1 n2 s1 s2 f true → n2 ≡ next_links_all sc n0 (frames ++ f ∷ [])
next_on sc station n0 n1 n2 s1 s2 frames f next on = on.next refl ∙ (ap (λ n. next_links sc n f) next ∙ sym (next_append sc n0 frames (f ∷ [])))

pub read_passed : (sc : SchemeValue) (station : ℕ) (a b c : Talk) (n0 n1 n2 : ℕ → Option ℕ) (s0 s1 s2 : List Arrived) (h0 h1 : List AckItem) (f : Frame)
    → HasRead sc station a b n0 n1 s0 s1 h0 h1 None false None → Gives b c (Ok (Some f)) → HasPassedOn sc station n1 n2 s1 s2 f true → (IsUnexpected f → ⊥) → HasRead sc station a c n0 n2 s0 s2 h0 h1 None false None
read_passed sc station a b c n0 n1 n2 s0 s1 s2 h0 h1 f was gives on sends = record {
  frames = was.frames ++ f ∷ [];
  given = given_on a b c was.frames f was.given gives;
  sent = sent_on sc station n0 n1 n2 s0 s1 s2 was.frames f was.sent was.next on;
  next = next_on sc station n0 n1 n2 s1 s2 was.frames f was.next on;
  handed = was.handed;
  lost = was.lost;
  took = was.took;
  answered = gives.answered ∙ was.answered;
  few = was.few;
  kept = was.kept;
  ended = λ e. absurd (cc);
  unexpected = λ e. absurd (cc);
  expected = subst (AreExpected None) (sym (append-nil (was.frames ++ f ∷ []))) (expected_more was.frames f (expected_front was.frames [] was.expected) sends);
  cause = gives.cause ∙ was.cause;
}

-- a frame was given and is held
pub read_held : (sc : SchemeValue) (station : ℕ) (a b c : Talk) (n0 n1 n2 : ℕ → Option ℕ) (s0 s1 s2 : List Arrived) (h0 h1 : List AckItem) (f : Frame)
    → HasRead sc station a b n0 n1 s0 s1 h0 h1 None false None → Gives b c (Ok (Some f)) → HasPassedOn sc station n1 n2 s1 s2 f false → (IsUnexpected f → ⊥) → HasRead sc station a c n0 n2 s0 s2 h0 h1 (Some f) false None
read_held sc station a b c n0 n1 n2 s0 s1 s2 h0 h1 f was gives on sends = record {
  frames = was.frames;
  given = gives.given ∙ (ap (λ l. l ++ f ∷ []) (was.given ∙ ap (λ l. a.given ++ l) (append-nil was.frames)) ∙ append_assoc a.given was.frames (f ∷ []));
  sent = on.sent_held refl ∙ was.sent;
  next = on.next_held refl ∙ was.next;
  handed = was.handed;
  lost = was.lost;
  took = was.took;
  answered = gives.answered ∙ was.answered;
  few = was.few;
  kept = was.kept;
  ended = λ e. absurd (cc);
  unexpected = λ e. absurd (cc);
  expected = expected_more was.frames f (expected_front was.frames [] was.expected) sends;
  cause = gives.cause ∙ was.cause;
}

-- a frame was given that no device sends
no_arrival : (sc : SchemeValue) (station : ℕ) (next : ℕ → Option ℕ) (f : Frame) → IsUnexpected f → arrived_of sc station next f ≡ []
no_arrival sc station next (Tapped r) u = absurd (cc u.0)
no_arrival sc station next (Stated s) u = absurd (cc u.1)
no_arrival sc station next (Acked a) u = refl
no_arrival sc station next (DayAcked a) u = refl
no_arrival sc station next (Greeted h) u = refl

no_move : (sc : SchemeValue) (next : ℕ → Option ℕ) (f : Frame) → IsUnexpected f → next_links sc next f ≡ next
no_move sc next (Tapped r) u = absurd (cc u.0)
no_move sc next (Stated s) u = refl
no_move sc next (Acked a) u = refl
no_move sc next (DayAcked a) u = refl
no_move sc next (Greeted h) u = refl

pub read_unexpected : (sc : SchemeValue) (station : ℕ) (a b c : Talk) (n0 n1 n2 : ℕ → Option ℕ) (s0 s1 s2 : List Arrived) (h0 h1 : List AckItem) (f : Frame)
    → HasRead sc station a b n0 n1 s0 s1 h0 h1 None false None → Gives b c (Ok (Some f)) → IsUnexpected f → n2 ≡ n1 → s2 ≡ s1 → HasRead sc station a c n0 n2 s0 s2 h0 h1 None false (Some Unexpected)
read_unexpected sc station a b c n0 n1 n2 s0 s1 s2 h0 h1 f was gives none next sent =
    let on : HasPassedOn sc station n1 n2 s1 s2 f true = record {
      sent = λ e. sent ∙ (sym (append-nil s1) ∙ ap (λ l. s1 ++ l) (sym (no_arrival sc station n1 f none)));
      next = λ e. next ∙ sym (no_move sc n1 f none);
      sent_held = λ e. absurd (cc);
      next_held = λ e. absurd (cc);
    } in
    record {
      frames = was.frames ++ f ∷ [];
      given = given_on a b c was.frames f was.given gives;
      sent = sent_on sc station n0 n1 n2 s0 s1 s2 was.frames f was.sent was.next on;
      next = next_on sc station n0 n1 n2 s1 s2 was.frames f was.next on;
      handed = was.handed;
      lost = was.lost;
      took = was.took;
      answered = gives.answered ∙ was.answered;
      few = was.few;
      kept = λ n. was.kept not_memory;
      ended = λ e. absurd (cc);
      unexpected = λ e. (was.frames, f, refl, none);
      expected = subst (AreExpected (Some Unexpected)) (sym (append-nil (was.frames ++ f ∷ []))) (expected_append (Some Unexpected) was.frames (f ∷ []) (expected_front was.frames [] was.expected) (λ wrong. (refl, refl), tt));
      cause = gives.cause ∙ was.cause;
    }

-- and then more was read
pub read_then : (sc : SchemeValue) (station : ℕ) (a b c : Talk) (n0 n1 n2 : ℕ → Option ℕ) (s0 s1 s2 : List Arrived) (h0 h1 h2 : List AckItem) (held : Option Frame) (at_end : Bool) (f : Option StationFault)
    → HasRead sc station a b n0 n1 s0 s1 h0 h1 None false None → HasRead sc station b c n1 n2 s1 s2 h1 h2 held at_end f → HasRead sc station a c n0 n2 s0 s2 h0 h2 held at_end f
read_then sc station a b c n0 n1 n2 s0 s1 s2 h0 h1 h2 held at_end f was more =
    let all : h1 ≡ h0 ++ was.handed = was.took ∙ (ap (λ l. h0 ++ (was.handed ++ l)) (was.kept not_memory) ∙ ap (λ l. h0 ++ l) (append-nil was.handed)) in
    record {
      frames = was.frames ++ more.frames;
      given = more.given ∙ (ap (λ l. l ++ (more.frames ++ held_list held)) (was.given ∙ ap (λ l. a.given ++ l) (append-nil was.frames)) ∙ (append_assoc a.given was.frames (more.frames ++ held_list held) ∙ ap (λ l. a.given ++ l) (sym (append_assoc was.frames more.frames (held_list held)))));
      sent =
          more.sent ∙ ((λ i. was.sent i ++ arrivals sc station (was.next i) more.frames)
          ∙ (append_assoc s0 (arrivals sc station n0 was.frames) (arrivals sc station (next_links_all sc n0 was.frames) more.frames)
          ∙ ap (λ l. s0 ++ l) (sym (arrivals_append sc station n0 was.frames more.frames))));
      next = more.next ∙ (ap (λ n. next_links_all sc n more.frames) was.next ∙ sym (next_append sc n0 was.frames more.frames));
      handed = was.handed ++ more.handed;
      lost = more.lost;
      took = more.took ∙ (ap (λ l. l ++ (more.handed ++ more.lost)) all ∙ (append_assoc h0 was.handed (more.handed ++ more.lost) ∙ ap (λ l. h0 ++ l) (sym (append_assoc was.handed more.handed more.lost))));
      answered = more.answered ∙ (ap (λ l. l ++ map frame_for more.handed) was.answered ∙ (append_assoc a.answered (map frame_for was.handed) (map frame_for more.handed) ∙ ap (λ l. a.answered ++ l) (sym (map-append frame_for was.handed more.handed))));
      few = more.few;
      kept = more.kept;
      ended = more.ended;
      unexpected = λ e. let one = more.unexpected e in (was.frames ++ one.0, one.1, ap (λ l. was.frames ++ l) one.2 ∙ sym (append_assoc was.frames one.0 (one.1 ∷ [])), one.3);
      expected = subst (AreExpected f) (sym (append_assoc was.frames more.frames (held_list held))) (expected_append f was.frames (more.frames ++ held_list held) (expected_front was.frames [] was.expected) more.expected);
      cause = subst (λ n. SourceCounted n c.failures f) was.cause more.cause;
    }

-- the same of a post that stands so
pub read_at : (sc : SchemeValue) (station : ℕ) (a b : Talk) (n0 n1 : ℕ → Option ℕ) (s0 s1 : List Arrived) (h0 h1 : List AckItem) (held held' : Option Frame) (at_end at_end' : Bool) (f f' : Option StationFault)
    → held ≡ held' → at_end ≡ at_end' → f ≡ f' → HasRead sc station a b n0 n1 s0 s1 h0 h1 held at_end f → HasRead sc station a b n0 n1 s0 s1 h0 h1 held' at_end' f'
read_at sc station a b n0 n1 s0 s1 h0 h1 held held' at_end at_end' f f' p q r read =
    subst (λ (y : Option Frame × (Bool × Option StationFault)). HasRead sc station a b n0 n1 s0 s1 h0 h1 y.0 y.1.0 y.1.1) (λ i. (p i, (q i, r i))) read
