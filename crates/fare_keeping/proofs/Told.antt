-- The scheme that lists tell, and what it is told of lines.
use Rattle.std.proofs.Common.{◌≡◌, ℕ, List, map, sym, ap, subst, ◌∙◌, inr}
use Rattle.sqlite.specs.Effect.{Database}
use Rattle.fare_scheme.specs.Values.{SchemeValue}
use Rattle.fare_lines.specs.declared.line.Line.{Line}
use Rattle.fare_lines.specs.declared.line.Line.TheVariants.{Setup}
use Rattle.fare_lines.specs.declared.line.SchemeLine.{SchemeLine}
use Rattle.fare_trace.specs.Schemes.{Makes, MakesNone}
use Rattle.fare_trace.specs.declared.schemes.SchemeFault.{SchemeFault}
use Rattle.fare_trace.specs.declared.schemes.SchemeFault.TheVariants as scheme_fault
use Rattle.fare_trace.proofs.Clocks.{none_made}
use Rattle.fare_register.specs.Registers.{AreOf, IsOfNone, register_lines}
use Rattle.fare_register.proofs.Told.{one_register}
use Rattle.sqlite.specs.Tree.{Trees}
use Rattle.fare_opening.specs.declared.site.Site.{Site}
use Rattle.fare_keeping.specs.declared.fault.KeepFault.{KeepFault}
use Rattle.fare_keeping.specs.declared.fault.KeepFault.TheVariants as keep_fault
use Rattle.fare_keeping.specs.Keeping.{HoldLists, KeepsLines, ListsSay, SaysAt, SaysNoScheme, Tell, TellLines, TellsNone, of_scheme}

-- lists are of one list of lines
pub one_lines : (lists : List (List (List ℕ))) (one other : List SchemeLine) → AreOf lists one → AreOf lists other → one ≡ other
one_lines lists one other a b = a.lines_are ∙ ap register_lines (one_register a.register b.register (sym a.lists_are ∙ b.lists_are)) ∙ sym b.lines_are

pub scheme_told : (lists : List (List (List ℕ))) (lines : List Line) (sc : SchemeValue) → TellLines lists lines → Makes lines sc → Tell lists sc
scheme_told lists lines sc tells made = record { lines = tells.0; are = tells.1; make = subst (λ ls. Makes ls sc) tells.2 made }

pub no_scheme : (lists : List (List (List ℕ))) (lines : List Line) (fault : SchemeFault) → TellLines lists lines → MakesNone lines fault → ¬ (fault ≡ scheme_fault.Memory) → (sc : SchemeValue) → ¬ Tell lists sc
no_scheme lists lines fault tells none known sc tell =
    let same : tell.lines ≡ tells.0 = one_lines lists tell.lines tells.0 tell.are tells.1 in
    none_made lines sc fault none known (subst (λ ls. Makes ls sc) (ap (map {B = Line} Setup) same ∙ sym tells.2) tell.make)

pub none_told : (lists : List (List (List ℕ))) (sc : SchemeValue) → IsOfNone lists → ¬ Tell lists sc
none_told lists sc none tell = none tell.are.register tell.are.room tell.are.lists_are

pub says_none : (lists : List (List (List ℕ))) (lines : List Line) (fault : SchemeFault) → TellLines lists lines → MakesNone lines fault → TellsNone lists (of_scheme fault)
says_none lists lines (scheme_fault.Refused why) tells none = no_scheme lists lines (scheme_fault.Refused why) tells none (λ e. let x = e in cc)
says_none lists lines scheme_fault.NoScheme tells none = no_scheme lists lines scheme_fault.NoScheme tells none (λ e. let x = e in cc)
says_none lists lines scheme_fault.Memory tells none = tt

-- kept lines that make none
pub says_unmade : (db : Database) (lines : List Line) (fault : SchemeFault) → KeepsLines db lines → MakesNone lines fault → SaysNoScheme db (of_scheme fault)
says_unmade db lines (scheme_fault.Refused why) keeps none = inr (lines, keeps, λ sc. none_made lines sc (scheme_fault.Refused why) none (λ e. let x = e in cc))
says_unmade db lines scheme_fault.NoScheme keeps none = inr (lines, keeps, λ sc. none_made lines sc scheme_fault.NoScheme none (λ e. let x = e in cc))
says_unmade db lines scheme_fault.Memory keeps none = tt

-- what is said of the lists that tables hold is said of the tables
pub says_at : (w : Site) (trees : Trees) (lists : List (List (List ℕ))) (sc : SchemeValue) (fault : KeepFault) → HoldLists w trees lists → ((other : List (List (List ℕ))) → HoldLists w trees other → other ≡ lists) → ListsSay lists sc fault → SaysAt w trees sc fault
says_at w trees lists sc (keep_fault.Changed why) hold one says = (lists, hold, says)
says_at w trees lists sc keep_fault.Unreadable hold one says = λ other there small. subst (λ ls. ListsSay ls sc keep_fault.Unreadable) (sym (one other there)) says
says_at w trees lists sc keep_fault.Foreign hold one says = says
says_at w trees lists sc keep_fault.Memory hold one says = tt
says_at w trees lists sc keep_fault.Store hold one says = tt
