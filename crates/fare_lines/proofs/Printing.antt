-- A line has one spelling, and printed lines are read back.
use Rattle.std.proofs.Common.{◌≡◌, ◌<◌, ◌==◌, cond, codes, get_or, Bool, ◌⊎◌, inl, inr, ℕ, Some, None, List, [], ◌∷◌, ◌++◌, length, ap, ap₂, sym, refl, arith, ◌∙◌, map, length-append, append_assoc}
use Rattle.std.specs.List.{AllByRecursion, slice_split, join_with_byte}
use Rattle.std.specs.Fmt.{decimal}
use Rattle.std.proofs.lemmas.List.Splits.{slice_split_none, slice_split_at, join_with_byte-slice_split}
use Rattle.std.proofs.lemmas.Bool.{ne_eqb}
use Rattle.fare_scheme.specs.declared.demo.DemoSize.{DemoSize}
use Rattle.fare_scheme.specs.declared.demo.DemoSize.TheVariants.{OneDevice, TwoDevices}
use Rattle.fare_event.specs.declared.event.Event.TheVariants as event
use Rattle.fare_lines.specs.declared.line.Line.{Line}
use Rattle.fare_lines.specs.declared.line.Line.TheVariants.{Setup, Step}
use Rattle.fare_lines.specs.declared.line.SchemeLine.TheVariants as scheme
use Rattle.fare_lines.specs.declared.keyword.Keyword.TheVariants.{OfScheme, OfEvent}
use Rattle.fare_lines.specs.declared.keyword.SchemeKeyword.TheVariants as key
use Rattle.fare_lines.specs.declared.keyword.EventKeyword.TheVariants as on
use Rattle.fare_lines.specs.ZoneWord.{IsZoneText}
use Rattle.fare_lines.specs.Grammar.{Fits, Parts, Numbered, Worded, PartsFit, keyword_kinds, keyword_text, line_parts, line_text, numbers_text, parts_text}
use Rattle.fare_lines.specs.Lines.{FirstBadLine, Spells, lines_of, printed, without_empty_last}
use Rattle.fare_lines.proofs.Cuts.{Lacks, append_nil, index_of_lacks, lacks_of_index}
use Rattle.fare_lines.proofs.Rows.{all_push, map_push, one_of_row}
use Rattle.fare_lines.proofs.Numbers.{IsU64, decimal_lacks}
use Rattle.fare_lines.proofs.Keywords.{keyword_lacks, keyword_some}
use Rattle.fare_lines.specs.Reading.{is_feed}
use Rattle.fare_lines.proofs.Feeds.{line_lacks_feed}
use Rattle.fare_lines.proofs.Spelling.{numbered_same, zone_is_no_keyword}
use Rattle.fare_lines.proofs.Texts.{one_line}

-- ONE SPELLING
abbrev size_of : ℕ → DemoSize
size_of n = cond (n == 1) OneDevice TwoDevices

abbrev line_from : Parts → Line
line_from (Worded rule) = Setup (scheme.Zone rule)
line_from (Numbered (OfScheme key.Owner) (o ∷ l ∷ [])) = Setup (scheme.Owner o l)
line_from (Numbered (OfScheme key.Operator) (p ∷ [])) = Setup (scheme.Operator p)
line_from (Numbered (OfScheme key.Station) (s ∷ p ∷ [])) = Setup (scheme.Station s p)
line_from (Numbered (OfScheme key.Product) (p ∷ o ∷ f ∷ [])) = Setup (scheme.Product p o f)
line_from (Numbered (OfScheme key.Caps) (p ∷ d ∷ w ∷ [])) = Setup (scheme.Caps p d w)
line_from (Numbered (OfScheme key.Hop) (p ∷ s ∷ [])) = Setup (scheme.Hop p s)
line_from (Numbered (OfScheme key.Device) (d ∷ s ∷ b ∷ [])) = Setup (scheme.Device d s b)
line_from (Numbered (OfScheme key.Inbox) (c ∷ [])) = Setup (scheme.Inbox c)
line_from (Numbered (OfScheme key.Start) (d ∷ [])) = Setup (scheme.Start d)
line_from (Numbered (OfScheme key.Seal) _) = Setup scheme.Seal
line_from (Numbered (OfScheme key.Demo) (n ∷ b ∷ i ∷ l ∷ [])) = Setup (scheme.Demo (size_of n) b i l)
line_from (Numbered (OfEvent on.Tap) (d ∷ p ∷ t ∷ m ∷ [])) = Step (event.Tap d p None t m)
line_from (Numbered (OfEvent on.Tap) (d ∷ p ∷ t ∷ m ∷ r ∷ [])) = Step (event.Tap d p (Some r) t m)
line_from (Numbered (OfEvent on.Turn) (d ∷ [])) = Step (event.Turn d)
line_from (Numbered (OfEvent on.Send) (d ∷ [])) = Step (event.Send d)
line_from (Numbered (OfEvent on.Rewind) (d ∷ [])) = Step (event.Rewind d)
line_from (Numbered (OfEvent on.State) (d ∷ k ∷ o ∷ [])) = Step (event.State d k o)
line_from (Numbered (OfEvent on.Arrive) (n ∷ [])) = Step (event.Arrive n)
line_from (Numbered (OfEvent on.Store) _) = Step event.Store
line_from (Numbered (OfEvent on.Ack) (d ∷ [])) = Step (event.Ack d)
line_from (Numbered (OfEvent on.DayAck) (d ∷ k ∷ [])) = Step (event.DayAck d k)
line_from (Numbered (OfEvent on.Answer) (s ∷ [])) = Step (event.Answer s)
line_from (Numbered (OfEvent on.Forward) (o ∷ d ∷ [])) = Step (event.Forward o d)
line_from (Numbered (OfEvent on.Fetch) (o ∷ [])) = Step (event.Fetch o)
line_from (Numbered (OfEvent on.Take) (o ∷ [])) = Step (event.Take o)
line_from (Numbered (OfEvent on.Resume) (d ∷ [])) = Step (event.Resume d)
line_from (Numbered (OfEvent on.RestartDevice) (d ∷ [])) = Step (event.RestartDevice d)
line_from (Numbered (OfEvent on.RestartStation) (s ∷ [])) = Step (event.RestartStation s)
line_from (Numbered (OfEvent on.RestartWriter) _) = Step event.RestartWriter
line_from (Numbered (OfEvent on.RestartOwner) (o ∷ [])) = Step (event.RestartOwner o)
line_from (Numbered (OfEvent on.RestartHub) _) = Step event.RestartHub
line_from (Numbered (OfEvent on.Close) (o ∷ d ∷ k ∷ [])) = Step (event.Close o d k)
line_from (Numbered (OfEvent on.Retire) (o ∷ d ∷ [])) = Step (event.Retire o d)
line_from (Numbered (OfEvent on.Prune) (o ∷ d ∷ [])) = Step (event.Prune o d)
line_from (Numbered (OfEvent on.Upto) (d ∷ [])) = Step (event.Upto d)
line_from (Numbered (OfEvent on.Count) (o ∷ d ∷ [])) = Step (event.Count o d)
line_from (Numbered (OfEvent on.Bill) (o ∷ k ∷ [])) = Step (event.Bill o k)
line_from (Numbered (OfEvent on.Settle) (o ∷ k ∷ [])) = Step (event.Settle o k)
line_from (Numbered _ _) = Step event.Draw

line_again : (l : Line) → line_from (line_parts l) ≡ l
line_again (Setup (scheme.Zone rule)) = refl
line_again (Setup (scheme.Owner o l)) = refl
line_again (Setup (scheme.Operator p)) = refl
line_again (Setup (scheme.Station s p)) = refl
line_again (Setup (scheme.Product p o f)) = refl
line_again (Setup (scheme.Caps p d w)) = refl
line_again (Setup (scheme.Hop p s)) = refl
line_again (Setup (scheme.Device d s b)) = refl
line_again (Setup (scheme.Inbox c)) = refl
line_again (Setup (scheme.Start d)) = refl
line_again (Setup scheme.Seal) = refl
line_again (Setup (scheme.Demo OneDevice b i l)) = refl
line_again (Setup (scheme.Demo TwoDevices b i l)) = refl
line_again (Step (event.Tap d p None t m)) = refl
line_again (Step (event.Tap d p (Some r) t m)) = refl
line_again (Step (event.Turn d)) = refl
line_again (Step (event.Send d)) = refl
line_again (Step (event.Rewind d)) = refl
line_again (Step (event.State d k o)) = refl
line_again (Step (event.Arrive n)) = refl
line_again (Step event.Store) = refl
line_again (Step (event.Ack d)) = refl
line_again (Step (event.DayAck d k)) = refl
line_again (Step (event.Answer s)) = refl
line_again (Step (event.Forward o d)) = refl
line_again (Step (event.Fetch o)) = refl
line_again (Step (event.Take o)) = refl
line_again (Step (event.Resume d)) = refl
line_again (Step (event.RestartDevice d)) = refl
line_again (Step (event.RestartStation s)) = refl
line_again (Step event.RestartWriter) = refl
line_again (Step (event.RestartOwner o)) = refl
line_again (Step event.RestartHub) = refl
line_again (Step (event.Close o d k)) = refl
line_again (Step (event.Retire o d)) = refl
line_again (Step (event.Prune o d)) = refl
line_again (Step (event.Upto d)) = refl
line_again (Step (event.Count o d)) = refl
line_again (Step (event.Bill o k)) = refl
line_again (Step (event.Settle o k)) = refl
line_again (Step event.Draw) = refl

parts_same : (p q : Parts) → PartsFit p → PartsFit q → parts_text p ≡ parts_text q → p ≡ q
parts_same (Numbered j ms) (Numbered k ns) fits_p fits_q e =
    let same = numbered_same j k ms ns fits_p fits_q e in ap₂ Numbered same.0 same.1
parts_same (Numbered j ms) (Worded rule) fits_p fits_q e = absurd (zone_is_no_keyword j (numbers_text ms) rule e)
parts_same (Worded rule) (Numbered k ns) fits_p fits_q e = absurd (zone_is_no_keyword k (numbers_text ns) rule (sym e))
parts_same (Worded rule) (Worded other) fits_p fits_q e = let same : rule ≡ other = cc in ap Worded same

line_same : (l m : Line) → Fits l → Fits m → line_text l ≡ line_text m → l ≡ m
line_same l m fits_l fits_m e =
    sym (line_again l) ∙ ap line_from (parts_same (line_parts l) (line_parts m) fits_l fits_m e) ∙ line_again m

lines_same : (ls ms : List Line) → AllByRecursion Fits ls → AllByRecursion Fits ms → map line_text ls ≡ map line_text ms → ls ≡ ms
lines_same [] [] fits_ls fits_ms e = refl
lines_same [] (m ∷ ms) fits_ls fits_ms e = absurd (cc)
lines_same (l ∷ ls) [] fits_ls fits_ms e = absurd (cc)
lines_same (l ∷ ls) (m ∷ ms) fits_ls fits_ms e =
    ap₂ (λ h t. h ∷ t) (line_same l m fits_ls.0 fits_ms.0 (cc)) (lines_same ls ms fits_ls.1 fits_ms.1 (cc))

pub one_reading : (ls ms : List Line) (text : List ℕ) → Spells ls text → Spells ms text → ls ≡ ms
one_reading ls ms text a b = lines_same ls ms a.fits b.fits (sym a.is ∙ b.is)

pub never_both : (ls : List Line) (text : List ℕ) (number : ℕ) → Spells ls text → FirstBadLine text number → ⊥
never_both ls text number spells bad =
    let found = one_of_row line_text Fits ls bad.before bad.bad bad.after spells.fits (sym spells.is ∙ bad.is) in
    bad.none found.0 found.1 found.2

-- WHAT IS PRINTED IS READ BACK
split_printed : (ls : List Line) (end : List ℕ) → AllByRecursion Fits ls → Lacks is_feed end → slice_split is_feed (printed ls ++ end) ≡ map line_text ls ++ (end ∷ [])
split_printed [] end fits lacks = slice_split_none is_feed end (index_of_lacks is_feed end lacks)
split_printed (l ∷ ls) end fits lacks =
    ap (slice_split is_feed) (append_assoc (line_text l ++ 10 ∷ []) (printed ls) end ∙ append_assoc (line_text l) (10 ∷ []) (printed ls ++ end))
    ∙ slice_split_at is_feed (line_text l) 10 (printed ls ++ end) (index_of_lacks is_feed (line_text l) (line_lacks_feed l fits.0)) refl
    ∙ ap (λ t. line_text l ∷ t) (split_printed ls end fits.1 lacks)

empty_last_falls : (ts : List (List ℕ)) → without_empty_last (ts ++ [] ∷ []) ≡ ts
empty_last_falls [] = refl
empty_last_falls (t ∷ []) = refl
empty_last_falls (t ∷ u ∷ ts) = ap (λ v. t ∷ v) (empty_last_falls (u ∷ ts))

full_last_stays : (ts : List (List ℕ)) (last : List ℕ) → 0 < length last → without_empty_last (ts ++ last ∷ []) ≡ ts ++ last ∷ []
full_last_stays [] last some = one_line last some
full_last_stays (t ∷ []) last some = ap (λ v. t ∷ v) (one_line last some)
full_last_stays (t ∷ u ∷ ts) last some = ap (λ v. t ∷ v) (full_last_stays (u ∷ ts) last some)

pub printed_spells : (ls : List Line) → AllByRecursion Fits ls → Spells ls (printed ls)
printed_spells ls fits = record {
  fits = fits;
  is = ap lines_of (sym (append_nil (printed ls))) ∙ ap without_empty_last (split_printed ls [] fits tt) ∙ empty_last_falls (map line_text ls);
}

parts_some : (p : Parts) → 0 < length (parts_text p)
parts_some (Numbered k ns) = omega (arith, length-append (keyword_text k) (numbers_text ns), keyword_some k)
parts_some (Worded rule) = omega arith

line_some : (l : Line) → 0 < length (line_text l)
line_some l = parts_some (line_parts l)

pub open_spells : (ls : List Line) (l : Line) → AllByRecursion Fits ls → Fits l → Spells (ls ++ l ∷ []) (printed ls ++ line_text l)
open_spells ls l all fits = record {
  fits = all_push Fits ls l all fits;
  is = ap without_empty_last (split_printed ls (line_text l) all (line_lacks_feed l fits)) ∙ full_last_stays (map line_text ls) (line_text l) (line_some l) ∙ sym (map_push line_text ls l);
}

-- AND NOTHING ELSE IS READ
last_falls_or_stays : (ts : List (List ℕ)) → (ts ≡ without_empty_last ts ++ ([] ∷ [])) ⊎ (without_empty_last ts ≡ ts)
last_falls_or_stays [] = inr refl
last_falls_or_stays ([] ∷ []) = inl refl
last_falls_or_stays ((b ∷ bs) ∷ []) = inr (one_line (b ∷ bs) (omega arith))
last_falls_or_stays (t ∷ u ∷ ts) = elim (last_falls_or_stays (u ∷ ts)) [
  | inl e ↦ inl (ap (λ v. t ∷ v) e)
  | inr e ↦ inr (ap (λ v. t ∷ v) e)
]

join_ended : (ls : List Line) → join_with_byte 10 (map line_text ls ++ ([] ∷ [])) ≡ printed ls
join_ended [] = refl
join_ended (l ∷ []) = sym (append_nil (line_text l ++ (10 ∷ [])))
join_ended (l ∷ m ∷ ls) = ap (λ t. line_text l ++ (10 ∷ t)) (join_ended (m ∷ ls)) ∙ sym (append_assoc (line_text l) (10 ∷ []) (printed (m ∷ ls)))

join_open : (l : Line) (ls : List Line) → join_with_byte 10 (map line_text (l ∷ ls)) ++ (10 ∷ []) ≡ printed (l ∷ ls)
join_open l [] = sym (append_nil (line_text l ++ (10 ∷ [])))
join_open l (m ∷ ls) =
    append_assoc (line_text l) (10 ∷ join_with_byte 10 (map line_text (m ∷ ls))) (10 ∷ [])
    ∙ ap (λ t. line_text l ++ (10 ∷ t)) (join_open m ls)
    ∙ sym (append_assoc (line_text l) (10 ∷ []) (printed (m ∷ ls)))

open_is_printed : (ls : List Line) (text : List ℕ) → slice_split is_feed text ≡ map line_text ls → (text ≡ printed ls) ⊎ (text ++ (10 ∷ []) ≡ printed ls)
open_is_printed [] text e = inl (sym (join_with_byte-slice_split 10 text) ∙ ap (join_with_byte 10) e)
open_is_printed (l ∷ ls) text e = inr (ap (λ t. t ++ (10 ∷ [])) (sym (join_with_byte-slice_split 10 text) ∙ ap (join_with_byte 10) e) ∙ join_open l ls)

pub only_printed : (ls : List Line) (text : List ℕ) → Spells ls text → (text ≡ printed ls) ⊎ (text ++ (10 ∷ []) ≡ printed ls)
only_printed ls text spells = elim (last_falls_or_stays (slice_split is_feed text)) [
  | inl e ↦ inl (sym (join_with_byte-slice_split 10 text) ∙ ap (join_with_byte 10) (e ∙ ap (λ t. t ++ ([] ∷ [])) spells.is) ∙ join_ended ls)
  | inr e ↦ open_is_printed ls text (sym e ∙ spells.is)
]
