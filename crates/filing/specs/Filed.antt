-- What the lines of a filing give.
use Rattle.std.specs.Prelude.{◌≡◌, ℕ, ◌+◌, cond, List, [], ◌∷◌, ◌++◌, length, take, ℤ, pos, Ok, Err, Result, ◌==◌, nat_lt, slice_index}
use Rattle.questions.specs.Questions.{ask, asked, within}
use Rattle.sheets.specs.Factors.{hundredths}
use Rattle.sheets.specs.Pricing.{priced}
use Rattle.sheets.specs.Rules.{Rules}
use Rattle.sheets.specs.Sheets.{Finish, entered_labelled, finish_outcome}
use Rattle.sheets.specs.Worked.{Worked}
use Rattle.sheets.specs.declared.factors.Factors.{Factors}
use Rattle.sheets.specs.declared.figures.Figures.{Figures}
use Rattle.sheets.specs.declared.refusal.Refusal.{Refusal as SheetRefusal}
use Rattle.filing.specs.declared.fields.FiledProject.{FiledProject}
use Rattle.filing.specs.declared.refusal.LineRefusal.{LineRefusal}
use Rattle.filing.specs.declared.refusal.Refusal.{Refusal}
use Rattle.filing.specs.declared.refusal.Refusal.TheVariants.{ProjectNumberOutOfRange, NotALine, LetterOutOfPlace, TooManyProjects, NoProject, Sheet}
use Rattle.filing.specs.Fields.{figure_on, project_on}
use Rattle.filing.specs.Lines.{at_line, whole}
use Rattle.filing.specs.Outcomes.{then}
use Rattle.filing.specs.Rows.{Row}

-- the same answer, with the sheet's refusal as the filing's
abbrev pub by_sheet : {X : Type 0} → Result X SheetRefusal → Result X Refusal
by_sheet (Ok x) = Ok x
by_sheet (Err why) = Err (Sheet why)

-- a worked sheet's figures and factors, and the priced projects
pub record Filed : Type 0 where
  pub figures : Figures
  pub factors : Factors
  pub rows : List Row

-- a filing of these three
abbrev pub filed_as : Figures → Factors → List Row → Filed
filed_as f p rows = record { figures = f; factors = p; rows = rows }

-- the sheet of a filing
abbrev pub worked_on : Filed → Worked
worked_on p = record { figures = p.figures; factors = p.factors }

-- a row has the columns that pricing its project on these factors gives
abbrev pub IsPricedOn : {L : Type 0} → Rules L → Factors → Row → Type 0
IsPricedOn t p row = priced hundredths p t.om_base row.project ≡ Ok row.columns

-- F lines have been read so far, or P lines too
pub data Stage : Type 0 where
  entering : Figures → Stage
  pricing : Filed → Stage

-- the figures after an entry, or its refusal
abbrev pub after_entry : Result (Unit {0}) SheetRefusal → Figures → Result Figures Refusal
after_entry (Ok done) f = Ok f
after_entry (Err why) f = Err (Sheet why)

-- an F line enters its amount at its label
abbrev pub figure_entered : {L : Type 0} → Rules L → Figures → List ℕ × ℤ → Result Figures Refusal
figure_entered t f x = let e = entered_labelled t x.0 x.1 f in after_entry e.answer e.after

-- an F line: its label and amount are read and entered
abbrev pub figure_taken : {L : Type 0} → Rules L → Figures → List ℕ → Result Figures Refusal
figure_taken t f line = then (figure_on line) (figure_entered t f)

-- a finished sheet, or the sheet's refusal as the filing's
abbrev pub by_finish : Finish → Result Worked Refusal
by_finish (Ok w) = Ok w
by_finish (Err refused) = Err (Sheet refused.0)

-- page 1 is finished at the first P line
abbrev pub page_one_at : {L : Type 0} → Rules L → Stage → Result Worked Refusal
page_one_at t (entering f) = by_finish (finish_outcome hundredths t f)
page_one_at t (pricing p) = Ok (worked_on p)

-- the projects priced so far
abbrev pub rows_at : Stage → List Row
rows_at (entering f) = []
rows_at (pricing p) = p.rows

-- a project number is 1 to 99,999,999
abbrev pub priced_row : {L : Type 0} → Rules L → Factors → FiledProject → Result Row Refusal
priced_row t p j =
    asked Err (ask (within (pos 1) (pos 99999999) j.number) ProjectNumberOutOfRange ∷ [])
    (then (by_sheet (priced hundredths p t.om_base j.project)) (λ columns.
    Ok (record { number = j.number; project = j.project; columns = columns })))

-- a P line is priced; there are at most 64
abbrev pub project_taken : {L : Type 0} → Rules L → Stage → List ℕ → Result Stage Refusal
project_taken t stage line =
    then (project_on line) (λ j.
    asked Err (ask (nat_lt (length (rows_at stage)) 64) TooManyProjects ∷ [])
    (then (page_one_at t stage) (λ w.
    then (priced_row t w.factors j) (λ row.
    Ok (pricing (filed_as w.figures w.factors (rows_at stage ++ (row ∷ []))))))))

-- F (70) or P (80), and only P after the first P line
abbrev pub by_letter : {L : Type 0} → Rules L → Stage → ℕ → List ℕ → Result Stage Refusal
by_letter t (entering f) letter line =
    cond (letter == 70) (then (figure_taken t f line) (λ g. Ok (entering g)))
    (cond (letter == 80) (project_taken t (entering f) line) (Err LetterOutOfPlace))
by_letter t (pricing p) letter line =
    cond (letter == 80) (project_taken t (pricing p) line) (Err LetterOutOfPlace)

-- a line is whole, and is taken by its letter
abbrev pub line_taken : {L : Type 0} → Rules L → Stage → List ℕ → Result Stage Refusal
line_taken t stage line = asked Err (ask (whole line) NotALine ∷ []) (by_letter t stage (slice_index line 0) (take 56 line))

-- the refusal is about this line
abbrev pub at : {X : Type 0} → ℕ → Result X Refusal → Result X LineRefusal
at n (Ok x) = Ok x
at n (Err why) = Err (at_line n why)

-- a filing has a P line
abbrev pub at_end : ℕ → Stage → Result Filed LineRefusal
at_end n (entering f) = Err (at_line n NoProject)
at_end n (pricing p) = Ok p

-- what lines give from a stage on, the first of them having this number
abbrev pub from : {L : Type 0} → Rules L → ℕ → Stage → List (List ℕ) → Result Filed LineRefusal
from t n stage [] = at_end n stage
from t n stage (line ∷ lines) = then (at n (line_taken t stage line)) (λ next. from t (n + 1) next lines)

-- the answer of a call, by what is read of it
abbrev pub seen : {P X E : Type 0} → (P → X) → Result P E → Result X E
seen view (Ok p) = Ok (view p)
seen view (Err why) = Err why

-- a call that finds one thing, answers, and leaves another gives this; a refusal leaves what it found
abbrev pub Leaves : {X : Type 0} → Result X Refusal → X → Result (Unit {0}) Refusal → X → Type 0
Leaves wanted before (Ok done) after = wanted ≡ Ok after
Leaves wanted before (Err why) after = (wanted ≡ Err why) × (after ≡ before)
