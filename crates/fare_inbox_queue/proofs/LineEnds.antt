-- What an ended acknowledgement line has left.
use Rattle.std.proofs.Common.{◌≡◌, List, ◌++◌, All, length, drop, sym, ap, ◌∙◌, subst}
use Rattle.std.proofs.Math.Seq.{drop-append_seam}
use Rattle.std.proofs.lemmas.List.{map-append}
use Rattle.std.proofs.lemmas.List.Elements.{All-map}
use Rattle.fare_record.specs.declared.ack_item.AckItem.{AckItem}
use Rattle.fare_inbox_queue.specs.declared.ack_rule.Told.{Told}
use Rattle.fare_inbox_queue.specs.declared.ack_rule.View.{View}
use Rattle.fare_inbox_queue.specs.Line.{both, stored_in, IsStored, IsLeft}
use Rattle.fare_inbox_queue.specs.LinePasses.{items_of, told_left}

told_whole : (w : View) (items : List Told) → IsLeft w items → w.sent ≡ w.taken ++ told_left w
told_whole w items left =
    left.kept ∙ ap (λ (l : List Told). w.taken ++ l) (sym (ap (λ (l : List Told). drop (length w.taken) l) left.kept ∙ drop-append_seam w.taken items))

-- what was taken and then what is left is what was put
pub items_whole : (w : View) (items : List Told) → IsLeft w items → items_of w.sent ≡ items_of w.taken ++ items_of (told_left w)
items_whole w items left = ap (λ (l : List Told). items_of l) (told_whole w items left) ∙ map-append (λ (t : Told). t.item) w.taken (told_left w)

-- each link that was taken or is left is at most what is shown as stored
pub items_stored : (v u w : View) (items : List Told) → w ≡ both v u → IsLeft w items → All (IsStored (stored_in v.sent)) (items_of u.taken ++ items_of (told_left w))
items_stored v u w items is left =
    let all : All (IsStored (stored_in w.sent)) (items_of w.taken ++ items_of (told_left w)) =
    subst (λ (l : List AckItem). All (IsStored (stored_in w.sent)) l) (items_whole w items left) (All-map (IsStored (stored_in w.sent)) (λ (t : Told). t.item) w.sent left.stored) in
    subst (λ (y : View). All (IsStored (stored_in y.sent)) (items_of y.taken ++ items_of (told_left w))) is all
