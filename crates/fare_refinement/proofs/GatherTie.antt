-- A session of the stations and the writer is a run of events: by its items, one after the other.
use Rattle.std.proofs.Common.{◌≡◌, ℕ, suc, ◌+◌, ◌≤◌, List, [], ◌∷◌, ◌++◌, length, take, drop, map, Some, None, Bool, true, false, refl, sym, ap, ◌∙◌, subst, arith, append_assoc, length-append}
use Rattle.std.specs.Prelude.{if◌then◌else◌, Option, option_map, unwrap_or}
use Rattle.std.specs.List.{AllByRecursion}
use Rattle.std.proofs.lemmas.List.{append-nil}
use Rattle.std.proofs.Math.Seq.{drop-append_seam}
use Rattle.fare_record.specs.declared.ack_item.AckItem.{AckItem}
use Rattle.fare_record.specs.declared.ack_item.AckItem.TheVariants as ack_item
use Rattle.fare_collector.specs.Collecting.{is_id}
use Rattle.fare_record.specs.Lanes.{part}
use Rattle.fare_scheme.specs.Values.{SchemeValue}
use Rattle.fare_scheme.specs.Words.{station_of}
use Rattle.fare_event.specs.declared.event.Event.{Event}
use Rattle.fare_event.specs.declared.event.Event.TheVariants as event
use Rattle.fare_world.specs.System.{System}
use Rattle.fare_world.specs.Restarting.{hub_again}
use Rattle.fare_world.specs.Steps.{step, after}
use Rattle.fare_world.specs.Kept.{IsSystem}
use Rattle.fare_world.specs.Shown.{count_of, IsArrivedOf}
use Rattle.fare_store.specs.OutboxWords.{OutboxValue}
use Rattle.fare_refinement.specs.ShownStores.{ShowsOutbox}
use Rattle.fare_history.specs.Serving.{in_hand}
use Rattle.fare_history.specs.Gathering.{links_of, CountsFrom, storing, IsHandled, device_answered, IsAnswerFrom, items_of, accepted_by, storing_all, AreStored, IsGathering, answers_of, answers_to, all_answers}
use Rattle.fare_refinement.specs.Gathered.{Given, items, SentEntry, SentGathering, givens_of, hand_given, sent_by, told_entries, told_hand, told_by, arrived_for, IsGiven, packet_answered, HasStations, answer_event, answer_events, entry_events, drawn_events, inbox_events, gathering_events, hand_arrived, device_of_packet, packets_to, SameTaps, IsGathered}
use Rattle.fare_world.proofs.Lists.{AllByRecursion-weaken}
use Rattle.fare_world.proofs.Kept.{moves_step}
use Rattle.fare_refinement.proofs.ServeTie.{after-append}
use Rattle.fare_history.proofs.Counting.{next_after, IsDue, FollowsOutbox, next_all, due, counted_on, counted_then, follows, same_upto}
use Rattle.fare_refinement.proofs.GatherSteps.{Gathers, named_stays, gathers_arrive, gathers_draw, gathers_store, gathers_answer}

-- ITEMS
gathers_answers : (sc : SchemeValue) (b : System) (x : OutboxValue) (next : ℕ → ℕ) (hand : Option Given) (inbox : List Given) (answers more : List AckItem) (t : System) → HasStations sc → 1 ≤ sc.inbox_capacity → AllByRecursion (IsAnswerFrom sc x) more
    → Gathers sc b x next hand inbox answers t → Gathers sc b x next hand inbox (answers ++ more) (after sc t (answer_events sc more))
gathers_answers sc b x next hand inbox answers [] t stations room each gathers = subst (λ l. Gathers sc b x next hand inbox l t) (sym (append-nil answers)) gathers
gathers_answers sc b x next hand inbox answers (a ∷ more) t stations room each gathers =
    let new = (step sc (step sc t (answer_event a)).0 (event.Answer (unwrap_or (station_of sc (device_answered a)) 0))).0 in
    subst (λ l. Gathers sc b x next hand inbox l (after sc new (answer_events sc more))) (append_assoc answers (a ∷ []) more)
    (gathers_answers sc b x next hand inbox (answers ++ a ∷ []) more new stations room each.1 (gathers_answer sc b x next hand inbox answers t a stations room each.0 gathers))

-- one item that the writer took: it arrives, is drawn and stored, and is acknowledged or not
pub gathers_entry : (sc : SchemeValue) (b : System) (x : OutboxValue) (next : ℕ → ℕ) (answers : List AckItem) (t : System) (e : SentEntry) → HasStations sc → 1 ≤ sc.inbox_capacity → IsGiven b e.given → IsDue next e.given.item → FollowsOutbox x e.given.item → IsHandled x e.given.item → AllByRecursion (IsAnswerFrom sc (storing x e.given.item)) e.answers
    → Gathers sc b x next None [] answers t → Gathers sc b (storing x e.given.item) (next_after next e.given.item) None [] (answers ++ e.answers) (after sc (step sc (step sc (step sc t (event.Arrive e.given.packet)).0 event.Draw).0 event.Store).0 (answer_events sc e.answers))
gathers_entry sc b x next answers t e stations room given is link few fits gathers =
    let arrived = gathers_arrive sc b x next None [] answers t e.given (omega (arith, room)) given is gathers in
    let t1 = (step sc t (event.Arrive e.given.packet)).0 in
    let drawn = gathers_draw sc b x (next_after next e.given.item) e.given [] answers t1 arrived in
    let t2 = (step sc t1 event.Draw).0 in
    let stored = gathers_store sc b x (next_after next e.given.item) e.given [] answers t2 few link given drawn in
    let t3 = (step sc t2 event.Store).0 in
    gathers_answers sc b (storing x e.given.item) (next_after next e.given.item) None [] answers e.answers t3 stations room fits stored

gathers_entries : (sc : SchemeValue) (b : System) (x : OutboxValue) (next : ℕ → ℕ) (answers : List AckItem) (es : List SentEntry) (rest : List Given) (t : System) → HasStations sc → 1 ≤ sc.inbox_capacity → ((d : ℕ) → CountsFrom (next d) (links_of d (items (givens_of es ++ rest)))) → ((d : ℕ) → next d ≡ x.upto d + 1) → AreStored sc x (told_entries es) → AllByRecursion (IsGiven b) (givens_of es)
    → Gathers sc b x next None [] answers t → Gathers sc b (storing_all x (told_entries es)) (next_all next (items (givens_of es))) None [] (answers ++ answers_of (told_entries es)) (after sc t (entry_events sc es))
gathers_entries sc b x next answers [] rest t stations room counted same stored given gathers = subst (λ l. Gathers sc b x next None [] l t) (sym (append-nil answers)) gathers
gathers_entries sc b x next answers (e ∷ es) rest t stations room counted same stored given gathers =
    subst (Gathers sc b (storing_all x (told_entries (e ∷ es))) (next_all next (items (givens_of (e ∷ es)))) None [] (answers ++ answers_of (told_entries (e ∷ es)))) (sym (after-append sc t3 (answer_events sc e.answers) (entry_events sc es)))
    (subst (λ l. Gathers sc b (storing_all x (told_entries (e ∷ es))) (next_all next (items (givens_of (e ∷ es)))) None [] l (after sc t4 (entry_events sc es))) (append_assoc answers e.answers (answers_of (told_entries es)))
    (gathers_entries sc b (storing x e.given.item) (next_after next e.given.item) (answers ++ e.answers) es rest t4 stations room (counted_on next e.given.item (λ d. links_of d (items (givens_of es ++ rest))) counted) (same_upto x next e.given.item same (follows x next e.given.item same is) stored.0) stored.2 given.1
    (gathers_entry sc b x next answers t e stations room given.0 is (follows x next e.given.item same is) stored.0 stored.1 gathers)))
  where
    is : IsDue next e.given.item
    is = due next e.given.item (λ d. links_of d (items (givens_of es ++ rest))) counted

    t3 : System
    t3 = (step sc (step sc (step sc t (event.Arrive e.given.packet)).0 event.Draw).0 event.Store).0

    t4 : System
    t4 = after sc t3 (answer_events sc e.answers)

gathers_hand : (sc : SchemeValue) (b : System) (x : OutboxValue) (next : ℕ → ℕ) (answers : List AckItem) (hand : Option Given) (rest : List Given) (t : System) → 1 ≤ sc.inbox_capacity → ((d : ℕ) → CountsFrom (next d) (links_of d (items (hand_given hand ++ rest)))) → AllByRecursion (IsGiven b) (hand_given hand)
    → Gathers sc b x next None [] answers t → Gathers sc b x (next_all next (items (hand_given hand))) hand [] answers (after sc t (drawn_events hand))
gathers_hand sc b x next answers None rest t room counted given gathers = gathers
gathers_hand sc b x next answers (Some g) rest t room counted given gathers =
    gathers_draw sc b x (next_after next g.item) g [] answers (step sc t (event.Arrive g.packet)).0
    (gathers_arrive sc b x next None [] answers t g (omega (arith, room)) given.0 (due next g.item (λ d. links_of d (items rest)) counted) gathers)

gathers_inbox : (sc : SchemeValue) (b : System) (x : OutboxValue) (next : ℕ → ℕ) (answers : List AckItem) (hand : Option Given) (before gs : List Given) (t : System) → length before + length gs ≤ sc.inbox_capacity → ((d : ℕ) → CountsFrom (next d) (links_of d (items gs))) → AllByRecursion (IsGiven b) gs
    → Gathers sc b x next hand before answers t → Gathers sc b x (next_all next (items gs)) hand (before ++ gs) answers (after sc t (inbox_events gs))
gathers_inbox sc b x next answers hand before [] t room counted given gathers = subst (λ l. Gathers sc b x next hand l answers t) (sym (append-nil before)) gathers
gathers_inbox sc b x next answers hand before (g ∷ gs) t room counted given gathers =
    let new = (step sc t (event.Arrive g.packet)).0 in
    subst (λ l. Gathers sc b x (next_all (next_after next g.item) (items gs)) hand l answers (after sc new (inbox_events gs))) (append_assoc before (g ∷ []) gs)
    (gathers_inbox sc b x (next_after next g.item) answers hand (before ++ g ∷ []) gs new (omega (arith, room, length-append before (g ∷ []))) (counted_on next g.item (λ d. links_of d (items gs)) counted) given.1
    (gathers_arrive sc b x next hand before answers t g (omega (arith, room)) given.0 (due next g.item (λ d. links_of d (items gs)) counted) gathers))

-- THE WHOLE
items-append : (gs hs : List Given) → items (gs ++ hs) ≡ items gs ++ items hs
items-append [] hs = refl
items-append (g ∷ gs) hs = ap (λ l. g.item ∷ l) (items-append gs hs)

length-items : (gs : List Given) → length (items gs) ≡ length gs
length-items [] = refl
length-items (g ∷ gs) = ap suc (length-items gs)

items_of_entries : (es : List SentEntry) → items (givens_of es) ≡ items_of (told_entries es)
items_of_entries [] = refl
items_of_entries (e ∷ es) = ap (λ l. e.given.item ∷ l) (items_of_entries es)

items_of_hand : (hand : Option Given) → items (hand_given hand) ≡ in_hand (told_hand hand)
items_of_hand None = refl
items_of_hand (Some g) = refl

items_sent : (g : SentGathering) → items (sent_by g) ≡ accepted_by (told_by g)
items_sent g = items-append (givens_of g.entries) (hand_given g.hand ++ g.inbox) ∙ (λ i. items_of_entries g.entries i ++ (items-append (hand_given g.hand) g.inbox ∙ ap (λ l. l ++ items g.inbox) (items_of_hand g.hand)) i)

sent_then : (next : ℕ → ℕ) (gs hs : List Given) → ((d : ℕ) → CountsFrom (next d) (links_of d (items (gs ++ hs)))) → (d : ℕ) → CountsFrom (next_all next (items gs) d) (links_of d (items hs))
sent_then next gs hs counted = counted_then next (items gs) (items hs) (λ d. subst (λ l. CountsFrom (next d) (links_of d l)) (items-append gs hs) (counted d))

all_left : {X : Type 0} (P : X → Type 0) (xs ys : List X) → AllByRecursion P (xs ++ ys) → AllByRecursion P xs
all_left P [] ys h = tt
all_left P (x ∷ xs) ys h = (h.0, all_left P xs ys h.1)

all_right : {X : Type 0} (P : X → Type 0) (xs ys : List X) → AllByRecursion P (xs ++ ys) → AllByRecursion P ys
all_right P [] ys h = h
all_right P (x ∷ xs) ys h = all_right P xs ys h.1

-- the restarted hub has sent what it had sent
pub given_again : (sc : SchemeValue) (s : System) (g : Given) → IsGiven s g → IsGiven (hub_again sc s) g
given_again sc s g is = record { sent = is.sent; named = named_stays s.devices (hub_again sc s).devices (λ d. record { taps = refl; day = refl }) g.item is.named }

pub gathers_restart : (sc : SchemeValue) (s : System) (x : OutboxValue) → IsSystem sc s → ShowsOutbox s x → Gathers sc (hub_again sc s) x (λ d. x.upto d + 1) None [] [] (hub_again sc s)
gathers_restart sc s x h outbox = record {
  system = (moves_step sc s event.RestartHub h).system;
  outbox = record { upto = outbox.upto; rows = outbox.rows; row_count = outbox.row_count; stated = outbox.stated; stated_count = outbox.stated_count };
  same = λ d. record { taps = refl; day = refl };
  lanes = refl;
  nexts = λ d. ap (λ n. n + 1) (sym (outbox.upto d));
  drawn = refl;
  queued = refl;
  lines = λ st. refl;
  air = sym (append-nil s.air);
}

arrived_map : (b t : System) → ((d : ℕ) → SameTaps (b.devices d) (t.devices d)) → (gs : List Given) → AllByRecursion (IsGiven b) gs → AllByRecursion (λ g. IsArrivedOf t.devices (arrived_for g.item) g.item) gs
arrived_map b t same gs each = AllByRecursion-weaken (IsGiven b) (λ g. IsArrivedOf t.devices (arrived_for g.item) g.item) (λ g is. named_stays b.devices t.devices same g.item is.named) gs each

-- the answers in the air, by station
packets_answered : (sc : SchemeValue) (station : ℕ) (answers : List AckItem) → packets_to sc station (map packet_answered answers) ≡ map packet_answered (answers_to sc station answers)
packets_answered sc station [] = refl
packets_answered sc station (a ∷ more) = of_if (is_id (station_of sc (device_of_packet (packet_answered a))) station) (is_id (station_of sc (device_answered a)) station) (same a) (packets_answered sc station more)
  where
    same : (z : AckItem) → is_id (station_of sc (device_of_packet (packet_answered z))) station ≡ is_id (station_of sc (device_answered z)) station
    same (ack_item.Upto z) = refl
    same (ack_item.Day z) = refl

    of_if : (b c : Bool) → b ≡ c → packets_to sc station (map packet_answered more) ≡ map packet_answered (answers_to sc station more) → (if b then packet_answered a ∷ packets_to sc station (map packet_answered more) else packets_to sc station (map packet_answered more)) ≡ map packet_answered (if c then a ∷ answers_to sc station more else answers_to sc station more)
    of_if true true e rest = ap (λ l. packet_answered a ∷ l) rest
    of_if false false e rest = rest
    of_if true false e rest = absurd (cc)
    of_if false true e rest = absurd (cc)

hand_is : (hand : Option Given) → hand_arrived (option_map (λ g. arrived_for g.item) hand) ≡ map (λ g. arrived_for g.item) (hand_given hand)
hand_is None = refl
hand_is (Some g) = refl

gathering_leads : (sc : SchemeValue) (s : System) (x : OutboxValue) (g : SentGathering) (next : ℕ → ℕ) (t : System) → AllByRecursion (IsGiven (hub_again sc s)) (hand_given g.hand) → AllByRecursion (IsGiven (hub_again sc s)) g.inbox → Gathers sc (hub_again sc s) (storing_all x (told_entries g.entries)) next g.hand g.inbox (answers_of (told_entries g.entries) ++ g.last) t → IsGathered sc x g s t
gathering_leads sc s x g next t hand inbox gathers = record {
  system = gathers.system;
  outbox = gathers.outbox;
  ledgers = λ o l is. record {
    ledger = is.ledger;
    taken = λ d. is.taken d ∙ sym (λ i. take (gathers.lanes i o d).took (part o ((gathers.same d).taps i)));
    stated = λ d day. is.stated d day ∙ sym (λ i. count_of ((gathers.lanes i o d).stated day) (part o ((gathers.same d).taps i)) day);
    closed = λ d. is.closed d ∙ sym (λ i. (gathers.lanes i o d).closed);
    retired = λ d. is.retired d ∙ sym (λ i. (gathers.lanes i o d).retired);
  };
  hand = record { numbers = ap hand_arrived gathers.drawn ∙ hand_is g.hand; each = arrived_map (hub_again sc s) t gathers.same (hand_given g.hand) hand };
  inbox = record { numbers = gathers.queued; each = arrived_map (hub_again sc s) t gathers.same g.inbox inbox };
  taps = λ d. record { taps = (gathers.same d).taps; day = (gathers.same d).day };
  air = gathers.air;
  heard = λ st. ap (λ l. packets_to sc st (drop (length s.air) l)) gathers.air ∙ ap (packets_to sc st) (drop-append_seam s.air (map packet_answered (all_answers (told_by g)))) ∙ packets_answered sc st (all_answers (told_by g));
  lines = gathers.lines;
}

pub gathering_is_run : (sc : SchemeValue) (s : System) (x : OutboxValue) (g : SentGathering) → IsSystem sc s → HasStations sc → 1 ≤ sc.inbox_capacity → ShowsOutbox s x → AllByRecursion (IsGiven s) (sent_by g) → IsGathering sc x (told_by g) → IsGathered sc x g s (after sc s (gathering_events sc g))
gathering_is_run sc s x g h stations room outbox given is =
    subst (IsGathered sc x g s) (sym (after-append sc b (entry_events sc g.entries) others ∙ after-append sc taken (drawn_events g.hand) more ∙ after-append sc handed (inbox_events g.inbox) (answer_events sc g.last)))
    (gathering_leads sc s x g (next_all second (items g.inbox)) (after sc queued (answer_events sc g.last)) (all_left (IsGiven b) (hand_given g.hand) g.inbox left) (all_right (IsGiven b) (hand_given g.hand) g.inbox left) last)
  where
    b : System
    b = hub_again sc s

    others : List Event
    others = drawn_events g.hand ++ (inbox_events g.inbox ++ answer_events sc g.last)

    more : List Event
    more = inbox_events g.inbox ++ answer_events sc g.last

    taken : System
    taken = after sc b (entry_events sc g.entries)

    handed : System
    handed = after sc taken (drawn_events g.hand)

    queued : System
    queued = after sc handed (inbox_events g.inbox)

    each : AllByRecursion (IsGiven b) (sent_by g)
    each = AllByRecursion-weaken (IsGiven s) (IsGiven b) (given_again sc s) (sent_by g) given

    left : AllByRecursion (IsGiven b) (hand_given g.hand ++ g.inbox)
    left = all_right (IsGiven b) (givens_of g.entries) (hand_given g.hand ++ g.inbox) each

    start : ℕ → ℕ
    start d = x.upto d + 1

    first : ℕ → ℕ
    first = next_all start (items (givens_of g.entries))

    second : ℕ → ℕ
    second = next_all first (items (hand_given g.hand))

    counted : (d : ℕ) → CountsFrom (start d) (links_of d (items (sent_by g)))
    counted d = subst (λ is. CountsFrom (start d) (links_of d is)) (sym (items_sent g)) (is.counted d)

    counted_left : (d : ℕ) → CountsFrom (first d) (links_of d (items (hand_given g.hand ++ g.inbox)))
    counted_left = sent_then start (givens_of g.entries) (hand_given g.hand ++ g.inbox) counted

    all_taken : Gathers sc b (storing_all x (told_entries g.entries)) first None [] (answers_of (told_entries g.entries)) taken
    all_taken = gathers_entries sc b x start [] g.entries (hand_given g.hand ++ g.inbox) b stations room counted (λ d. refl) is.stored (all_left (IsGiven b) (givens_of g.entries) (hand_given g.hand ++ g.inbox) each) (gathers_restart sc s x h outbox)

    all_handed : Gathers sc b (storing_all x (told_entries g.entries)) second g.hand [] (answers_of (told_entries g.entries)) handed
    all_handed = gathers_hand sc b (storing_all x (told_entries g.entries)) first (answers_of (told_entries g.entries)) g.hand g.inbox taken room counted_left (all_left (IsGiven b) (hand_given g.hand) g.inbox left) all_taken

    all_queued : Gathers sc b (storing_all x (told_entries g.entries)) (next_all second (items g.inbox)) g.hand g.inbox (answers_of (told_entries g.entries)) queued
    all_queued = gathers_inbox sc b (storing_all x (told_entries g.entries)) second (answers_of (told_entries g.entries)) g.hand [] g.inbox handed (omega (arith, is.room, length-items g.inbox)) (sent_then first (hand_given g.hand) g.inbox counted_left) (all_right (IsGiven b) (hand_given g.hand) g.inbox left) all_handed

    last : Gathers sc b (storing_all x (told_entries g.entries)) (next_all second (items g.inbox)) g.hand g.inbox (answers_of (told_entries g.entries) ++ g.last) (after sc queued (answer_events sc g.last))
    last = gathers_answers sc b (storing_all x (told_entries g.entries)) (next_all second (items g.inbox)) g.hand g.inbox (answers_of (told_entries g.entries)) g.last queued stations room is.last all_queued
