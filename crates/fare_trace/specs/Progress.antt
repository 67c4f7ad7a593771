-- How far a text was answered.
use Rattle.std.specs.Prelude.{◌≡◌, ◌≤◌, ◌+◌, ℕ, List, [], ◌∷◌, ◌++◌, Option, None, Some, length, map}
use Rattle.std.specs.List.{AllByRecursion}
use Rattle.fare_scheme.specs.declared.scheme.Scheme.{Scheme}
use Rattle.fare_event.specs.declared.reply.Reply.{Reply}
use Rattle.fare_world.specs.System.{start}
use Rattle.fare_lines.specs.declared.line.Line.{Line}
use Rattle.fare_lines.specs.declared.text.ParseFault.{ParseFault}
use Rattle.fare_lines.specs.declared.text.ParseFault.TheVariants.{BadLine, Memory}
use Rattle.fare_trace.specs.declared.running.RunFault.{RunFault}
use Rattle.fare_trace.specs.declared.running.RunFault.TheVariants.{Text, Store}
use Rattle.fare_lines.specs.Grammar.{Fits, line_text}
use Rattle.fare_lines.specs.Lines.{FirstBadLine, Spells, lines_of}
use Rattle.fare_lines.specs.Replies.{reply_text, replies_text}
use Rattle.fare_lines.specs.Unread.{ReadsOff, StopsIn, Unread, whole}
use Rattle.fare_trace.specs.Answers.{Answers, AnswersAll, IsOutput, Running, Stage, first_stage}

-- what is still to be read spells lines
abbrev pub IsRest : Unread → Type 0
IsRest unread = (lines : List Line) × Spells lines unread.rest

-- why a run broke off: a fault of the text, or a store failed at a line, up to which lines were read
abbrev pub Breaks : Unread → Unread → RunFault → Type 0
Breaks old new (Text fault) = StopsIn old fault
Breaks old new Store = (lines : List Line) × ReadsOff old new lines

-- the same, where all that was still to be read spells lines if a store failed
abbrev pub Ends : Unread → RunFault → Type 0
Ends unread (Text fault) = StopsIn unread fault
Ends unread Store = IsRest unread

-- lines were read off the front, and what was written answers them, from one stage to another
pub record Goes (first last : Stage) (old new : Unread) (before after : List ℕ) : Type 0 where
  pub lines : List Line
  pub read : ReadsOff old new lines
  pub replies : List Reply
  pub leads : (more : List Line) (answers : List Reply) → AnswersAll last more answers → AnswersAll first (lines ++ more) (replies ++ answers)
  pub written : after ≡ before ++ replies_text replies

-- one more line is answered, which leads from one stage to the next
abbrev pub WritesAnswer : Stage → Line → Stage → List ℕ → List ℕ → Type 0
WritesAnswer stage line next before after = (reply : Reply) × Answers stage line (next, reply) × (after ≡ before ++ reply_text reply)

-- all lines are answered
abbrev pub GoesToEnd : Stage → Unread → Unread → List ℕ → List ℕ → Type 0
GoesToEnd first old new before after = (last : Stage) × Goes first last old new before after × (lines_of new.rest ≡ [])

-- the lines up to the seal of a scheme are answered, or all where none comes
abbrev pub Registers : Unread → Unread → List ℕ → List ℕ → Option Scheme → Type 0
Registers old new before after None = GoesToEnd first_stage old new before after
Registers old new before after (Some scheme) = Goes first_stage (Running scheme (start scheme)) old new before after

-- the text spells lines, and these bytes answer them
abbrev pub AnswersText : List ℕ → List ℕ → Type 0
AnswersText text written = (lines : List Line) × Spells lines text × IsOutput lines written
