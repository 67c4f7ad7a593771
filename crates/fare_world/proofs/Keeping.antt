-- A lane, by the places of its taps: what was taken of it, the rows of the outbox behind that, and what waits in the device behind those.
use Rattle.std.proofs.Common.{◌≡◌, ℕ, zero, suc, ◌+◌, ◌-◌, ◌≤◌, List, [], ◌∷◌, ◌++◌, length, take, drop, Some, refl, sym, ap, ◌∙◌, arith, append_assoc}
use Rattle.std.specs.Prelude.{◌==◌, slice_get}
use Rattle.std.proofs.lemmas.Bool.Decides.{nat_tests}
use Rattle.std.proofs.lemmas.List.{take-append-drop, take-append-le, drop-drop}
use Rattle.std.proofs.lemmas.List.Elements.{filter-append}
use Rattle.fare_record.specs.Values.{RecordValue}
use Rattle.fare_record.specs.Lanes.{part}
use Rattle.fare_scheme.specs.Values.{SchemeValue}
use Rattle.fare_world.specs.System.{DeviceState, arrived_of}
use Rattle.fare_world.specs.Kept.{IsDevice}
use Rattle.fare_world.specs.Whole.{beyond}
use Rattle.fare_world.proofs.Lists.{slice_get-drop}

-- the links of a list count up by one from a link
abbrev pub AreLinksAfter : ℕ → List RecordValue → Type 0
AreLinksAfter first rs = (k : ℕ) (r : RecordValue) → slice_get rs k ≡ Some r → r.link ≡ first + k + 1

links_behind : (first : ℕ) (r : RecordValue) (rs : List RecordValue) → AreLinksAfter first (r ∷ rs) → AreLinksAfter (first + 1) rs
links_behind first r rs links k q e = omega (arith, links (suc k) q e)

-- those of no link at or below this one are all beyond it
all_beyond : (upto first : ℕ) (rs : List RecordValue) → AreLinksAfter first rs → upto ≤ first → beyond upto rs ≡ rs
all_beyond upto first [] links le = refl
all_beyond upto first (r ∷ rs) links le =
    let more : beyond upto rs ≡ rs = all_beyond upto (first + 1) rs (links_behind first r rs links) (omega (arith, le)) in
    let link : r.link ≡ first + 0 + 1 = links 0 r refl in
    grind (arith, nat_tests, more, link)

-- those beyond a link are those behind as many as it has counted
beyond-drop : (count first : ℕ) (rs : List RecordValue) → AreLinksAfter first rs → beyond (first + count) rs ≡ drop count rs
beyond-drop zero first rs links = all_beyond (first + 0) first rs links (omega arith)
beyond-drop (suc count) first [] links = refl
beyond-drop (suc count) first (r ∷ rs) links =
    let more : beyond (first + 1 + count) rs ≡ drop count rs = beyond-drop count (first + 1) rs (links_behind first r rs links) in
    let link : r.link ≡ first + 0 + 1 = links 0 r refl in
    let same : first + 1 + count ≡ first + suc count = omega arith in
    grind (arith, nat_tests, more, link, same)

-- what waits beyond the outbox's link is what is behind it
waiting_beyond : (sc : SchemeValue) (d : ℕ) (v : DeviceState) → IsDevice sc d v → beyond v.upto (drop v.base v.taps) ≡ drop v.upto v.taps
waiting_beyond sc d v is =
    let all : v.base + (v.upto - v.base) ≡ v.upto = omega (arith, is.stored) in
    ap (λ n. beyond n (drop v.base v.taps)) (sym all) ∙ beyond-drop (v.upto - v.base) v.base (drop v.base v.taps) links ∙ drop-drop (v.upto - v.base) v.base v.taps ∙ ap (λ n. drop n v.taps) all
  where
    links : AreLinksAfter v.base (drop v.base v.taps)
    links k r e = (is.numbered (v.base + k) r (sym (slice_get-drop v.base v.taps k) ∙ e)).link

-- an owner's part of a list, in two
part_in_two : (owner n : ℕ) (rs : List RecordValue) → part owner rs ≡ part owner (take n rs) ++ part owner (drop n rs)
part_in_two owner n rs = sym (ap (part owner) (take-append-drop n rs)) ∙ filter-append (λ r. r.owner == owner) (take n rs) (drop n rs)

-- as many taps of the lane as have arrived are those that arrived
pub taken_of_arrived : (owner took : ℕ) (v : DeviceState) → took ≤ length (arrived_of owner v) → take took (part owner v.taps) ≡ take took (arrived_of owner v)
taken_of_arrived owner took v le = ap (take took) (part_in_two owner v.upto v.taps) ∙ take-append-le took (arrived_of owner v) (part owner (drop v.upto v.taps)) le

-- the lane of a device and an owner, in three
pub lane_in_three : (sc : SchemeValue) (owner d took : ℕ) (v : DeviceState) → IsDevice sc d v → took ≤ length (arrived_of owner v)
    → part owner v.taps ≡ take took (part owner v.taps) ++ (drop took (arrived_of owner v) ++ part owner (beyond v.upto (drop v.base v.taps)))
lane_in_three sc owner d took v is le =
    part_in_two owner v.upto v.taps ∙ ap (λ l. l ++ behind) (sym (take-append-drop took rows)) ∙ append_assoc (take took rows) (drop took rows) behind
    ∙ (λ i. sym (taken_of_arrived owner took v le) i ++ (drop took rows ++ part owner (sym (waiting_beyond sc d v is) i)))
  where
    rows : List RecordValue
    rows = arrived_of owner v

    behind : List RecordValue
    behind = part owner (drop v.upto v.taps)
