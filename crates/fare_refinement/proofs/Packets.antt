-- Where each item of a session was sent, the session can be told with the packets.
use Rattle.std.proofs.Common.{◌≡◌, List, [], ◌∷◌, ◌++◌, Some, None, refl, ap}
use Rattle.std.specs.Prelude.{Option}
use Rattle.std.specs.List.{AllByRecursion}
use Rattle.fare_record.specs.declared.item.Item.{Item}
use Rattle.fare_world.specs.System.{System}
use Rattle.fare_history.specs.Serving.{in_hand}
use Rattle.fare_history.specs.Gathering.{Entry, Gathering, items_of, accepted_by}
use Rattle.fare_history.proofs.Entries.{all-left, all-right, all-append}
use Rattle.fare_refinement.specs.Gathered.{Given, items, IsGiven, WasSent, SentEntry, SentGathering, givens_of, hand_given, sent_by, told_entries, told_hand, told_by}

with_packets : (s : System) (is : List Item) → AllByRecursion (WasSent s) is → (gs : List Given) × (items gs ≡ is) × AllByRecursion (IsGiven s) gs
with_packets s [] each = ([], refl, tt)
with_packets s (i ∷ is) each =
    let rest = with_packets s is each.1 in
    (record { packet = each.0.0; item = i } ∷ rest.0, ap (λ l. i ∷ l) rest.1, (each.0.1, rest.2))

entries_with_packets : (s : System) (es : List Entry) → AllByRecursion (WasSent s) (items_of es) → (gs : List SentEntry) × (told_entries gs ≡ es) × AllByRecursion (IsGiven s) (givens_of gs)
entries_with_packets s [] each = ([], refl, tt)
entries_with_packets s (e ∷ es) each =
    let rest = entries_with_packets s es each.1 in
    (record { given = record { packet = each.0.0; item = e.item }; answers = e.answers } ∷ rest.0, ap (λ l. e ∷ l) rest.1, (each.0.1, rest.2))

hand_with_packet : (s : System) (hand : Option Item) → AllByRecursion (WasSent s) (in_hand hand) → (g : Option Given) × (told_hand g ≡ hand) × AllByRecursion (IsGiven s) (hand_given g)
hand_with_packet s None each = (None, refl, tt)
hand_with_packet s (Some i) each = (Some (record { packet = each.0.0; item = i }), refl, (each.0.1, tt))

pub gathering_with_packets : (s : System) (v : Gathering) → AllByRecursion (WasSent s) (accepted_by v) → (g : SentGathering) × (told_by g ≡ v) × AllByRecursion (IsGiven s) (sent_by g)
gathering_with_packets s v each =
    let left = all-right (WasSent s) (items_of v.entries) (in_hand v.hand ++ v.inbox) each in
    let entries = entries_with_packets s v.entries (all-left (WasSent s) (items_of v.entries) (in_hand v.hand ++ v.inbox) each) in
    let hand = hand_with_packet s v.hand (all-left (WasSent s) (in_hand v.hand) v.inbox left) in
    let inbox = with_packets s v.inbox (all-right (WasSent s) (in_hand v.hand) v.inbox left) in (
      record { entries = entries.0; hand = hand.0; inbox = inbox.0; last = v.last },
      (λ i. record { entries = entries.1 i; hand = hand.1 i; inbox = inbox.1 i; last = v.last }),
      all-append (IsGiven s) (givens_of entries.0) (hand_given hand.0 ++ inbox.0) entries.2 (all-append (IsGiven s) (hand_given hand.0) inbox.0 hand.2 inbox.2),
    )
