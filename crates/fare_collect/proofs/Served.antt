-- A session, station by station.
use Rattle.std.proofs.Common.{◌≡◌, ℕ, suc, ◌<◌, nat_eq, Bool, List, [], ◌∷◌, ◌++◌, length, map, slice_index_or, All, Some, None, false, refl, sym, ap, ◌∙◌, subst, append_assoc, arith, ◌+◌, length-append}
use Rattle.std.specs.Prelude.{◌≢◌, ◌||◌}
use Rattle.std.specs.List.{list_any}
use Rattle.std.proofs.lemmas.Bool.Decides.{nat_tests}
use Rattle.std.proofs.lemmas.List.{get_or_append_left}
use Rattle.std.proofs.lemmas.List.Elements.{filter-append, All-get_or, All-from_get_or}
use Rattle.fare_scheme.specs.Values.{SchemeValue}
use Rattle.fare_collector.specs.Collecting.{next_in}
use Rattle.fare_collector.specs.declared.collector.Collector.{Collector}
use Rattle.fare_inbox_queue.specs.declared.arrived.Arrived.{Arrived}
use Rattle.fare_inbox_queue.specs.declared.ack_line.AckLine.{AckLine}
use Rattle.fare_inbox_queue.specs.declared.ack_passes.HearPass.{HearPass}
use Rattle.fare_inbox_queue.specs.declared.inbox_passes.StationPass.{StationPass}
use Rattle.fare_inbox_queue.specs.declared.inbox.Inbox.{Inbox}
use Rattle.fare_inbox_queue.specs.Inbox.{of_station}
use Rattle.fare_inbox_queue.specs.InboxPasses.{station_of, sent_list, IsStationOf}
use Rattle.fare_inbox_queue.specs.LinePasses.{heard_list, IsAckOf, IsHearOf}
use Rattle.fare_collect.specs.declared.station.Station.{Station}
use Rattle.fare_collect.specs.declared.station.Post.{Post}
use Rattle.fare_writer.specs.declared.teller.Teller.{Teller}
use Rattle.fare_collect.specs.declared.station.End.{End}
use Rattle.fare_source.specs.Talking.{Talk}
use Rattle.fare_collect.proofs.Posted.{last_at}
use Rattle.fare_collect.specs.Arriving.{arrivals}
use Rattle.fare_collect.specs.Resting.{IsNoneOf}
use Rattle.fare_collect.specs.Stations.{HasRead, HasRunStation, HaveRun, IsPostedAt, ArePosted}
use Rattle.fare_writer.specs.Handling.{AreTellers}
use Rattle.fare_collect.specs.Opening.{AreHears, AreNew, posted, WerePosted, IsRelieved, AreRelieved, HavePosts}
use Rattle.fare_collect.specs.Session.{HasGivenBack, HaveGivenBack, AreReady, HasGathered}

same_post : (a b : Post) → Some a ≡ Some b → a ≡ b
same_post a b e = cc

pub is_posted_at : {S : Type 0} (inbox : Inbox) (lines : List AckLine) (k : ℕ) (old new : Station S) (p : StationPass) (h : HearPass) → k < length lines → new ≡ posted old p h → IsStationOf inbox p → ((l : AckLine) → IsHearOf (slice_index_or lines k l) h)
    → IsPostedAt inbox lines k new
is_posted_at inbox lines k old new p h lt is pass hear = record {
  place = lt;
  post = record { pass = p; hear = h; held = None; ended = false; fault = None };
  is = ap (λ t. t.post) is;
  pass = pass;
  hear = hear;
  held = refl;
  ended = refl;
  fault = refl;
}

pub served : {S : Type 0} (sc : SchemeValue) (talks : S → Talk) (inbox : Inbox) (lines : List AckLine) (k : ℕ) (s0 s1 s2 s3 : Station S) (p0 p1 : StationPass) (h0 h1 : HearPass)
    → s1 ≡ posted s0 p0 h0 → HasRunStation sc talks inbox lines k s1 s2 → IsRelieved s2 p1 h1 s3 → HasGivenBack sc talks inbox lines k s0 s3 p0 p1 h0 h1
served {S} sc talks inbox lines k s0 s1 s2 s3 p0 p1 h0 h1 posting run back =
    let first : run.post_old ≡ record { pass = p0; hear = h0; held = None; ended = false; fault = None } = same_post _ _ (sym run.is_old ∙ ap (λ t. t.post) posting) in
    let last : run.post_new ≡ back.post = same_post _ _ (sym run.is_new ∙ back.is) in
    let pass : run.post_new.pass ≡ p1 = ap (λ s. s.pass) last ∙ sym back.pass in
    let hear : run.post_new.hear ≡ h1 = ap (λ s. s.hear) last ∙ sym back.hear in
    let end : record { held = run.post_new.held; ended = run.post_new.ended; fault = run.post_new.fault } ≡ s3.end = ap (λ (s : Post). record { held = s.held; ended = s.ended; fault = s.fault }) last ∙ sym (ap (λ t. t.end) back.station) in
    let coll : s2.collector ≡ s3.collector = sym (ap (λ t. t.collector) back.station) in
    let source : s2.source ≡ s3.source = sym (ap (λ t. t.source) back.station) in
    let coll0 : s1.collector ≡ s0.collector = ap (λ t. t.collector) posting in
    let source0 : s1.source ≡ s0.source = ap (λ t. t.source) posting in
    let P : (Post × (S × Collector)) × ((S × Collector) × (StationPass × (HearPass × End))) → Type 0 = λ y.
    HasRead sc (station_of y.0.0.pass) (talks y.0.1.0) (talks y.1.0.0) (next_in y.0.1.1) (next_in y.1.0.1) (sent_list y.0.0.pass) (sent_list y.1.1.0) (heard_list y.0.0.hear) (heard_list y.1.1.1.0) y.1.1.1.1.held y.1.1.1.1.ended y.1.1.1.1.fault in
    record {
      pass = subst (IsStationOf inbox) pass run.pass;
      hear = λ l. subst (λ (h : HearPass). IsHearOf (slice_index_or lines k l) h) hear (run.hear l);
      named = sym (ap station_of pass) ∙ (run.named ∙ ap (λ (s : Post). station_of s.pass) first);
      station = sym (ap (λ c. c.station) coll) ∙ (run.station ∙ ap (λ c. c.station) coll0);
      read = subst P (λ i. ((first i, (source0 i, coll0 i)), ((source i, coll i), (pass i, (hear i, end i))))) run.read;
    }

-- what was sent is what was taken of the station and what is left of it
pub gathered : {S : Type 0} (sc : SchemeValue) (talks : S → Talk) (inbox : Inbox) (lines : List AckLine) (k : ℕ) (old new : Station S) (p0 p1 : StationPass) (h0 h1 : HearPass) (all : List Arrived) (left : ℕ → List Arrived)
    → HasGivenBack sc talks inbox lines k old new p0 p1 h0 h1 → heard_list h0 ≡ [] → sent_list p0 ≡ [] → station_of p0 ≡ old.collector.station
    → of_station (station_of p1) all ++ left (station_of p1) ≡ sent_list p1 → HasGathered sc talks all left h1 old new
gathered sc talks inbox lines k old new p0 p1 h0 h1 all left s unheard fresh named parts =
    let r = s.read in
    let one : station_of p1 ≡ old.collector.station = s.named ∙ named in
    record {
      frames = r.frames;
      given = r.given;
      part =
          sym (ap (λ (n : ℕ). of_station n all ++ left n) one) ∙ (parts ∙ (r.sent ∙ (ap (λ l. l ++ arrivals sc (station_of p0) (next_in old.collector) r.frames) fresh ∙ ap (λ (n : ℕ). arrivals sc n (next_in old.collector) r.frames) named)));
      next = r.next;
      named = s.station;
      handed = r.handed;
      lost = r.lost;
      took = r.took ∙ ap (λ l. l ++ (r.handed ++ r.lost)) unheard;
      answered = r.answered;
      kept = r.kept;
      ended = r.ended;
      cause = r.cause;
      unexpected = r.unexpected;
      expected = r.expected;
    }

-- items were stored of what was left
pub gathered_more : {S : Type 0} (sc : SchemeValue) (talks : S → Talk) (all items : List Arrived) (left after : ℕ → List Arrived) (h : HearPass) (old new : Station S)
    → HasGathered sc talks all left h old new → ((station : ℕ) → left station ≡ of_station station items ++ after station) → HasGathered sc talks (all ++ items) after h old new
gathered_more sc talks all items left after h old new was parts =
    let n = old.collector.station in
    record {
      frames = was.frames;
      given = was.given;
      part = ap (λ l. l ++ after n) (filter-append _ all items) ∙ (append_assoc (of_station n all) (of_station n items) (after n) ∙ (sym (ap (λ l. of_station n all ++ l) (parts n)) ∙ was.part));
      next = was.next;
      named = was.named;
      handed = was.handed;
      lost = was.lost;
      took = was.took;
      answered = was.answered;
      kept = was.kept;
      ended = was.ended;
      cause = was.cause;
      unexpected = was.unexpected;
      expected = was.expected;
    }

-- ALL STATIONS
-- an element of a list that has one
abbrev pub element : {A : Type 0} (xs : List A) (k : ℕ) → k < length xs → A
element [] k lt = absurd (omega (arith, lt))
element (x ∷ xs) k lt = x

pub posted_all : {S : Type 0} (inbox : Inbox) (lines : List AckLine) (ts : List Teller) (ps : List StationPass) (hs : List HearPass) (old new : List (Station S))
    → AreReady inbox old ps → AreNew (length old) lines ts hs → WerePosted ps hs old new → ArePosted inbox lines new
posted_all inbox lines ts ps hs old new ready made posting = record {
  each = λ k d lt.
      let at : k < length old = let l = posting.len in omega (arith, lt, l) in
      let p = element ps k (let l = ready.len in omega (arith, at, l)) in
      let h = element hs k (let l = made.hears_len in omega (arith, at, l)) in
      is_posted_at inbox lines k (slice_index_or old k d) (slice_index_or new k d) (slice_index_or ps k p) (slice_index_or hs k h) (let l = made.lines_len in omega (arith, at, l)) (posting.each k d p h at) (ready.each k d p at).0 (λ l. made.hear k l h at);
}

pub tellers_ready : (n : ℕ) (lines : List AckLine) (ts : List Teller) (hs : List HearPass) → AreNew n lines ts hs → AreTellers lines ts
tellers_ready n lines ts hs made = record {
  len = made.tellers_len ∙ sym made.lines_len;
  each = λ k l d lt. made.acks k l d (let e = made.tellers_len in omega (arith, lt, e));
}

pub have_posts : {S : Type 0} (sc : SchemeValue) (talks : S → Talk) (inbox : Inbox) (lines : List AckLine) (old new : List (Station S)) → HaveRun sc talks inbox lines old new → length new ≡ length old → HavePosts new
have_posts sc talks inbox lines old new run len = record { each = λ k d lt. let r = run.each k d (omega (arith, lt, len)) in (r.post_new, r.is_new) }

pub served_all : {S : Type 0} (sc : SchemeValue) (talks : S → Talk) (inbox : Inbox) (lines : List AckLine) (ps0 ps1 : List StationPass) (hs0 hs1 : List HearPass) (s0 s1 s2 s3 : List (Station S))
    → WerePosted ps0 hs0 s0 s1 → HaveRun sc talks inbox lines s1 s2 → length s2 ≡ length s1 → AreRelieved s2 ps1 hs1 s3 → HaveGivenBack sc talks inbox lines s0 s3 ps0 ps1 hs0 hs1
served_all sc talks inbox lines ps0 ps1 hs0 hs1 s0 s1 s2 s3 posting run len back = record {
  len = back.len ∙ (len ∙ posting.len);
  passes_len = back.passes_len ∙ (len ∙ posting.len);
  hears_len = back.hears_len ∙ (len ∙ posting.len);
  each = λ k d p h lt.
      let one : k < length s1 = let l = posting.len in omega (arith, lt, l) in
      let two : k < length s2 = omega (arith, one, len) in
      served sc talks inbox lines k (slice_index_or s0 k d) (slice_index_or s1 k d) (slice_index_or s2 k d) (slice_index_or s3 k d) (slice_index_or ps0 k p) (slice_index_or ps1 k p) (slice_index_or hs0 k h) (slice_index_or hs1 k h)
      (posting.each k d p h lt) (run.each k d one) (back.each k d p h two);
}

pub gathered_all : {S : Type 0} (sc : SchemeValue) (talks : S → Talk) (inbox : Inbox) (lines : List AckLine) (ts : List Teller) (ps0 ps1 : List StationPass) (hs0 hs1 : List HearPass) (old new : List (Station S)) (taken : List Arrived) (left : ℕ → List Arrived)
    → AreReady inbox old ps0 → AreNew (length old) lines ts hs0 → HaveGivenBack sc talks inbox lines old new ps0 ps1 hs0 hs1 → All (λ p. of_station (station_of p) taken ++ left (station_of p) ≡ sent_list p) ps1
    → (k : ℕ) (d : Station S) (h : HearPass) → k < length old → HasGathered sc talks taken left (slice_index_or hs1 k h) (slice_index_or old k d) (slice_index_or new k d)
gathered_all sc talks inbox lines ts ps0 ps1 hs0 hs1 old new taken left ready made all parts k d h lt =
    let p = element ps0 k (let l = ready.len in omega (arith, lt, l)) in
    let at : k < length ps1 = let l = all.passes_len in omega (arith, lt, l) in
    let r = ready.each k d p lt in
    gathered sc talks inbox lines k (slice_index_or old k d) (slice_index_or new k d) (slice_index_or ps0 k p) (slice_index_or ps1 k p) (slice_index_or hs0 k h) (slice_index_or hs1 k h) taken left
    (all.each k d p h lt) (made.heard k h lt) r.1 r.2 (All-get_or (λ p. of_station (station_of p) taken ++ left (station_of p) ≡ sent_list p) ps1 k p at parts)

-- the passes that came back are the inbox's, in their order
pub passes_back : {S : Type 0} (sc : SchemeValue) (talks : S → Talk) (inbox : Inbox) (lines : List AckLine) (ts : List Teller) (ps0 ps1 : List StationPass) (hs0 hs1 : List HearPass) (old new : List (Station S))
    → AreReady inbox old ps0 → AreNew (length old) lines ts hs0 → 0 < length old → HaveGivenBack sc talks inbox lines old new ps0 ps1 hs0 hs1 → All (IsStationOf inbox) ps1 × (map station_of ps1 ≡ map station_of ps0)
passes_back {S} sc talks inbox lines ts ps0 ps1 hs0 hs1 old new ready made some all =
    let p = element ps1 0 (let l = all.passes_len in omega (arith, some, l)) in
    let h = element hs0 0 (let l = made.hears_len in omega (arith, some, l)) in
    let d = element old 0 some in
    let one : length ps1 ≡ length ps0 = all.passes_len ∙ sym ready.len in (
      All-from_get_or (IsStationOf inbox) ps1 p (λ k lt. (all.each k d p h (let l = all.passes_len in omega (arith, lt, l))).pass),
      same_names ps1 ps0 p one (λ k lt. (all.each k d p h (let l = all.passes_len in omega (arith, lt, l))).named),
    )
  where
    same_names : (xs ys : List StationPass) (d : StationPass) → length xs ≡ length ys → ((k : ℕ) → k < length xs → station_of (slice_index_or xs k d) ≡ station_of (slice_index_or ys k d)) → map station_of xs ≡ map station_of ys
    same_names [] [] d len each = refl
    same_names [] (y ∷ ys) d len each = absurd (omega (arith, len))
    same_names (x ∷ xs) [] d len each = absurd (omega (arith, len))
    same_names (x ∷ xs) (y ∷ ys) d len each = λ i. each 0 (omega arith) i ∷ same_names xs ys d (omega (arith, len)) (λ k lt. each (suc k) (omega (arith, lt))) i

pub hears_back : {S : Type 0} (sc : SchemeValue) (talks : S → Talk) (inbox : Inbox) (lines : List AckLine) (ts : List Teller) (ps0 ps1 : List StationPass) (hs0 hs1 : List HearPass) (old new : List (Station S))
    → AreReady inbox old ps0 → AreNew (length old) lines ts hs0 → HaveGivenBack sc talks inbox lines old new ps0 ps1 hs0 hs1 → AreHears lines hs1
hears_back sc talks inbox lines ts ps0 ps1 hs0 hs1 old new ready made all = record {
  len = all.hears_len ∙ sym made.lines_len;
  each = λ k l d lt.
      let at : k < length old = let e = all.hears_len in omega (arith, lt, e) in
      let p = element ps0 k (let e = ready.len in omega (arith, at, e)) in
      (all.each k (element old k at) p d at).hear l;
}

-- a station that isn't here has no pass
unlisted : (station : ℕ) (ps : List StationPass) (d : StationPass) → ((k : ℕ) → k < length ps → station ≢ station_of (slice_index_or ps k d)) → list_any (nat_eq station) (map station_of ps) ≡ false
unlisted station [] d none = refl
unlisted station (p ∷ ps) d none =
    let n = none 0 (omega arith) in
    let head : nat_eq station (station_of p) ≡ false = grind (arith, nat_tests, n) in
    ap (λ (b : Bool). b || list_any (nat_eq station) (map station_of ps)) head ∙ unlisted station ps d (λ k lt. none (suc k) (omega (arith, lt)))

pub unnamed : {S : Type 0} (sc : SchemeValue) (talks : S → Talk) (inbox : Inbox) (lines : List AckLine) (ts : List Teller) (ps0 ps1 : List StationPass) (hs0 hs1 : List HearPass) (old new : List (Station S)) (names : List ℕ) (station : ℕ)
    → AreReady inbox old ps0 → AreNew (length old) lines ts hs0 → 0 < length old → HaveGivenBack sc talks inbox lines old new ps0 ps1 hs0 hs1 → map station_of ps0 ≡ names → IsNoneOf station old → list_any (nat_eq station) names ≡ false
unnamed {S} sc talks inbox lines ts ps0 ps1 hs0 hs1 old new names station ready made some all same none =
    let p = element ps0 0 (let l = ready.len in omega (arith, some, l)) in
    let d = element old 0 some in
    subst (λ (l : List ℕ). list_any (nat_eq station) l ≡ false) same
    (unlisted station ps0 p (λ k lt e. none k d (let l = ready.len in omega (arith, lt, l)) (e ∙ (ready.each k d p (let l = ready.len in omega (arith, lt, l))).2)))

-- the parts of what is left are those of a list
pub parts_are : (taken : List Arrived) (left : ℕ → List Arrived) (inbox : List Arrived) (ps : List StationPass) → ((station : ℕ) → of_station station inbox ≡ left station)
    → All (λ p. of_station (station_of p) taken ++ left (station_of p) ≡ sent_list p) ps → All (λ p. of_station (station_of p) taken ++ of_station (station_of p) inbox ≡ sent_list p) ps
parts_are taken left inbox ps same all = subst (λ (l : ℕ → List Arrived). All (λ p. of_station (station_of p) taken ++ l (station_of p) ≡ sent_list p) ps) (λ i station. sym (same station) i) all

pub both_nil : {A : Type 0} (xs ys : List A) → xs ++ ys ≡ [] → (xs ≡ []) × (ys ≡ [])
both_nil [] ys e = (refl, e)
both_nil (x ∷ xs) ys e = absurd (cc)

-- the last of the lines, with its passes
pub last_line : (ls : List AckLine) (ts : List Teller) (hs : List HearPass) (l : AckLine) (t : Teller) (h : HearPass) → AreTellers (ls ++ l ∷ []) (ts ++ t ∷ []) → AreHears (ls ++ l ∷ []) (hs ++ h ∷ [])
    → (AreTellers ls ts × AreHears ls hs) × (IsAckOf l t.pass × IsHearOf l h)
last_line ls ts hs l t h tellers hears =
    let ln : length (ls ++ l ∷ []) ≡ length ls + 1 = length-append ls (l ∷ []) in
    let tn : length (ts ++ t ∷ []) ≡ length ts + 1 = length-append ts (t ∷ []) in
    let hn : length (hs ++ h ∷ []) ≡ length hs + 1 = length-append hs (h ∷ []) in
    let te : length ts ≡ length ls = let e = tellers.len in omega (arith, e, ln, tn) in
    let he : length hs ≡ length ls = let e = hears.len in omega (arith, e, ln, hn) in
    let P : AckLine × Teller → Type 0 = λ q. IsAckOf q.0 q.1.pass in
    let Q : AckLine × HearPass → Type 0 = λ q. IsHearOf q.0 q.1 in (
      (
        record {
          len = te;
          each = λ k a d lt. subst P (λ i. (get_or_append_left ls (l ∷ []) a k (omega (arith, lt, te)) i, get_or_append_left ts (t ∷ []) d k lt i)) (tellers.each k a d (omega (arith, lt, tn)));
        },
        record {
          len = he;
          each = λ k a d lt. subst Q (λ i. (get_or_append_left ls (l ∷ []) a k (omega (arith, lt, he)) i, get_or_append_left hs (h ∷ []) d k lt i)) (hears.each k a d (omega (arith, lt, hn)));
        },
      ),
      (
        subst P (λ i. (last_at ls l (length ls) l refl i, last_at ts t (length ls) t (sym te) i)) (tellers.each (length ls) l t (omega (arith, tn, te))),
        subst Q (λ i. (last_at ls l (length ls) l refl i, last_at hs h (length ls) h (sym he) i)) (hears.each (length ls) l h (omega (arith, hn, he))),
      ),
    )
