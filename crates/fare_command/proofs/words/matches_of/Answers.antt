use Rattle.std.proofs.Common.{◌≡◌, ◌∙◌, ◌⊎◌, ap, sym, refl, List, map, subst, true, inl, inr}
use Rattle.clap.specs.Faults.{fault_of, is_simple_and_free}
use Rattle.clap.specs.Kinds.{HasKind, IsAmong}
use Rattle.clap.specs.Values.{kind_of}
use Rattle.clap.specs.Words.{App, Text, is_simple, subcommand_of, takes}
use Rattle.clap.specs.declared.error.kind.ErrorKind.{ErrorKind}
use Rattle.clap.specs.declared.error.kind.ErrorKind.TheVariants.{OutOfMemory}
use Rattle.fare_command.specs.CommandLine.{hub_app}
use Rattle.fare_command.specs.Jobs.{FailsOn, IsAnswer, IsMistake, Tells}
use Rattle.fare_command.specs.declared.words.WordsFault.{WordsFault}
use Rattle.fare_command.specs.declared.words.WordsFault.TheVariants.{Asked, Refused, Memory}
use Rattle.fare_command.proofs.words.matches_of.Goals as goal

-- a kind that is not want of memory is among those that the words may have
among : (words : List Text) (kind : ErrorKind) → (kind ≡ OutOfMemory → ⊥) → (kind ≡ OutOfMemory) ⊎ IsAmong kind (fault_of hub_app words) → IsAmong kind (fault_of hub_app words)
among words kind other (inl memory) = absurd (other memory)
among words kind other (inr is) = is

-- what clap says of words is told as it must be
fails : (words : List Text) (kind : ErrorKind) (fault : WordsFault) → (takes hub_app words ≡ true → kind ≡ OutOfMemory) → (kind ≡ OutOfMemory) ⊎ IsAmong kind (fault_of hub_app words) → Tells kind fault → FailsOn words fault
fails words kind (Asked text) passes has tells =
    let other : kind ≡ OutOfMemory → ⊥ = λ memory. subst IsAnswer memory tells in
    ((λ taken. other (passes taken)), (kind, tells, among words kind other has))
fails words kind (Refused text) passes has tells =
    let other : kind ≡ OutOfMemory → ⊥ = λ memory. subst IsMistake memory tells in
    inl ((λ taken. other (passes taken)), (kind, tells, among words kind other has))
fails words kind Memory passes has tells = tt

-- the command's kinds are those of its words
is_free : (made : App) → made ≡ hub_app → is_simple_and_free made ≡ true
is_free made is = ap (λ (a : App). is_simple_and_free a) is ∙ refl

is_plain : (made : App) → made ≡ hub_app → is_simple made ≡ true
is_plain made is = ap (λ (a : App). is_simple a) is ∙ refl

pub returns-in-Ok-clause-ok : goal.returns-in-Ok-clause-ok
returns-in-Ok-clause-ok c =
    let made = c.in_ok-hub_command.ensures in
    (c.in-Ok.ensures.matches (is_plain _ made)).1 ∙ ap (λ (a : App). subcommand_of a (map (λ word. word.now) c.args.words.now)) made

pub returns-in-Ok-clause-sound : goal.returns-in-Ok-clause-sound
returns-in-Ok-clause-sound c =
    let made = c.in_ok-hub_command.ensures in
    sym (ap (λ (a : App). fault_of a (map (λ word. word.now) c.args.words.now)) made) ∙ c.in-Ok.ensures.kinds (is_free _ made)

pub returns-in-Err-clause-err : goal.returns-in-Err-clause-err
returns-in-Err-clause-err c =
    let made = c.in_ok-hub_command.ensures in
    let words : List Text = map (λ word. word.now) c.args.words.now in
    fails words (kind_of c.in-Err.error) c.refusal.result
    (λ taken. c.in-Err.ensures.passes (ap (λ (a : App). takes a words) made ∙ taken))
    (subst (λ (a : App). HasKind (fault_of a words) c.in-Err.error) made (c.in-Err.ensures.kinds (is_free _ made)))
    c.refusal.ensures
