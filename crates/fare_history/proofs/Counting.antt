-- Links that count up by device, item by item.
use Rattle.std.proofs.Common.{◌≡◌, ℕ, ◌+◌, List, [], ◌∷◌, ◌++◌, Bool, true, false, refl, sym, ap, ◌∙◌, subst}
use Rattle.std.specs.Prelude.{if◌then◌else◌}
use Rattle.fare_record.specs.declared.item.Item.{Item}
use Rattle.fare_record.specs.declared.item.Item.TheVariants as item
use Rattle.fare_store.specs.Tables.{put}
use Rattle.fare_store.specs.OutboxWords.{OutboxValue, stored_statement}
use Rattle.fare_history.specs.Gathering.{with_link, links_of, CountsFrom, is_new, storing, IsHandled}
use Rattle.fare_history.proofs.Judged.{stored_new, tap_is_new}
use Rattle.fare_store.proofs.Entries.{is_self, other_way, put_apart, put_both}

-- what a station accepts next of each device, after an item
abbrev pub next_after : (ℕ → ℕ) → Item → ℕ → ℕ
next_after next (item.Tap r) = put next r.device (r.link + 1)
next_after next (item.Stated v) = next

abbrev pub IsDue : (ℕ → ℕ) → Item → Type 0
IsDue next (item.Tap r) = r.link ≡ next r.device
IsDue next (item.Stated v) = Unit {0}

abbrev pub FollowsOutbox : OutboxValue → Item → Type 0
FollowsOutbox x (item.Tap r) = r.link ≡ x.upto r.device + 1
FollowsOutbox x (item.Stated v) = Unit {0}

-- WHAT COMES NEXT
abbrev pub next_all : (ℕ → ℕ) → List Item → ℕ → ℕ
next_all next [] = next
next_all next (i ∷ is) = next_all (next_after next i) is

-- links that count up by device are accepted one after the other, in any order of the devices
pub due : (next : ℕ → ℕ) (i : Item) (links : ℕ → List ℕ) → ((d : ℕ) → CountsFrom (next d) (with_link d i (links d))) → IsDue next i
due next (item.Tap r) links counted = (subst (CountsFrom (next r.device)) (ap (λ b. if b then r.link ∷ links r.device else links r.device) (is_self r.device)) (counted r.device)).0
due next (item.Stated v) links counted = tt

pub counted_on : (next : ℕ → ℕ) (i : Item) (links : ℕ → List ℕ) → ((d : ℕ) → CountsFrom (next d) (with_link d i (links d))) → (d : ℕ) → CountsFrom (next_after next i d) (links d)
counted_on next (item.Tap r) links counted =
    put_apart (λ j n. CountsFrom n (links j)) next r.device (r.link + 1)
    (λ j other. subst (CountsFrom (next j)) (ap (λ b. if b then r.link ∷ links j else links j) (other_way j r.device other)) (counted j))
    (subst (λ n. CountsFrom n (links r.device)) (ap (λ n. n + 1) (sym here.0)) here.1)
  where
    here : CountsFrom (next r.device) (r.link ∷ links r.device)
    here = subst (CountsFrom (next r.device)) (ap (λ b. if b then r.link ∷ links r.device else links r.device) (is_self r.device)) (counted r.device)
counted_on next (item.Stated v) links counted = counted

pub counted_then : (next : ℕ → ℕ) (is hs : List Item) → ((d : ℕ) → CountsFrom (next d) (links_of d (is ++ hs))) → (d : ℕ) → CountsFrom (next_all next is d) (links_of d hs)
counted_then next [] hs counted = counted
counted_then next (i ∷ is) hs counted = counted_then (next_after next i) is hs (counted_on next i (λ d. links_of d (is ++ hs)) counted)

-- where all that was accepted is stored, the next link is the one after the outbox's
pub follows : (x : OutboxValue) (next : ℕ → ℕ) (i : Item) → ((d : ℕ) → next d ≡ x.upto d + 1) → IsDue next i → FollowsOutbox x i
follows x next (item.Tap r) same is = is ∙ same r.device
follows x next (item.Stated v) same is = tt

-- what the outbox has had of the device goes on with it
pub same_upto : (x : OutboxValue) (next : ℕ → ℕ) (i : Item) → ((d : ℕ) → next d ≡ x.upto d + 1) → FollowsOutbox x i → IsHandled x i → (d : ℕ) → next_after next i d ≡ (storing x i).upto d + 1
same_upto x next (item.Tap r) same link handled d =
    put_both (λ j n u. n ≡ u + 1) next x.upto r.device (r.link + 1) r.link same refl d ∙ ap (λ (y : OutboxValue). y.upto d + 1) (sym (stored_new x (item.Tap r) (tap_is_new x r link handled)))
same_upto x next (item.Stated v) same link handled d = by (is_new x (item.Stated v))
  where
    by : (b : Bool) → next d ≡ (if b then stored_statement v x else x).upto d + 1
    by true = same d
    by false = same d
