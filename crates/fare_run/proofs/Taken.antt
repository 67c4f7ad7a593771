-- What an input gives for a scheme.
use Rattle.std.proofs.Common.{◌≡◌, ◌≢◌, ◌∙◌, ◌==◌, ℕ, false, List, [], ◌∷◌, Option, Some, None, IfSome, refl, sym, subst, inl, inr, arith, length}
use Rattle.std.specs.List.{join_with_byte, slice_split}
use Rattle.std.proofs.lemmas.List.Splits.{join_with_byte-slice_split}
use Rattle.fare_lines.specs.Lines.{Spells, without_empty_last}
use Rattle.fare_lines.specs.declared.line.Line.{Line}
use Rattle.fare_lines.proofs.Texts.{one_line}
use Rattle.fare_replay.specs.Replay.{ReadsLines}
use Rattle.std.specs.Prelude.{Ok}
use Rattle.fare_trace.specs.declared.schemes.ZonedScheme.{ZonedScheme}
use Rattle.fare_command.specs.declared.words.SchemeSource.{SchemeSource}
use Rattle.fare_run.specs.Scheming.{IsGiven, IsGivenOf, MakesNoScheme, SpellsScheme, TakesScheme}
use Rattle.fare_run.specs.declared.serve_failure.ServeFailure.TheVariants.{NoScheme}

no_texts : (texts : List (List ℕ)) → without_empty_last texts ≡ [] → join_with_byte 10 texts ≡ []
no_texts [] none = refl
no_texts ([] ∷ []) none = refl
no_texts ((b ∷ text) ∷ []) none = (let e : (b ∷ text) ∷ [] ≡ [] = sym (one_line (b ∷ text) (omega arith)) ∙ none in absurd (cc))
no_texts (t ∷ u ∷ more) none = absurd (cc)

-- only an empty text has no lines
no_text : (text : List ℕ) → Spells [] text → text ≡ []
no_text text spelled = sym (join_with_byte-slice_split 10 text) ∙ no_texts (slice_split (λ b. b == 10) text) spelled.is

-- so an input that has no lines is empty
pub none_given : (known : Option (List ℕ)) (lines : List Line) → length lines ≡ 0 → IfSome known (ReadsLines lines) → IfSome known (λ bytes. bytes ≢ [] → ⊥)
none_given None lines none reads = tt
none_given (Some bytes) [] none reads = λ some. some (no_text bytes reads.1)
none_given (Some bytes) (line ∷ lines) none reads = absurd (omega (arith, none))

-- no bytes spell no lines, and these make no scheme
none_of_nothing : MakesNoScheme (Some []) NoScheme
none_of_nothing = (
  [],
  (omega arith, record { fits = tt; is = refl }),
  record { draft = _; used = false; rest = []; drafted = record { front = []; split = refl; lead = refl }; no_setup = tt },
)

-- TAKEN
one_scheme : (a b : ZonedScheme) → Some a ≡ Some b → a ≡ b
one_scheme a b e = cc

-- the bytes that are known spell it
pub taken_spelled : (known : Option (List ℕ)) (given found : Option ZonedScheme) (taken : ZonedScheme) → IfSome known (IsGiven given) → IfSome given (λ zoned. found ≡ Some zoned) → found ≡ Some taken → IfSome known (SpellsScheme taken.scheme)
taken_spelled None given found taken is same e = tt
taken_spelled (Some bytes) None found taken is same e = absurd is
taken_spelled (Some bytes) (Some zoned) found taken is same e = subst (λ (z : ZonedScheme). SpellsScheme z.scheme bytes) (one_scheme zoned taken (sym same ∙ e)) is

-- and so do these, or there are none
pub taken_of : (source : SchemeSource) (given found : Option ZonedScheme) (taken : ZonedScheme) (bytes : List ℕ) → IsGivenOf source bytes (Ok given) → IfSome given (λ zoned. found ≡ Some zoned) → found ≡ Some taken → TakesScheme source taken.scheme bytes
taken_of source None found taken bytes of same e = inr of
taken_of source (Some zoned) found taken bytes of same e = inl (subst (λ (z : ZonedScheme). SpellsScheme z.scheme bytes) (one_scheme zoned taken (sym same ∙ e)) of)

-- where none is taken none was given, and there are none
pub none_of : (source : SchemeSource) (given found : Option ZonedScheme) (bytes : List ℕ) → IsGivenOf source bytes (Ok given) → IfSome given (λ zoned. found ≡ Some zoned) → found ≡ None → MakesNoScheme (Some bytes) NoScheme
none_of source None found bytes of same e = subst (λ b. MakesNoScheme (Some b) NoScheme) (sym of.1) none_of_nothing
none_of source (Some zoned) found bytes of same e = absurd (let both : ◌≡◌ {A = Option ZonedScheme} None (Some zoned) = sym e ∙ same in cc)
