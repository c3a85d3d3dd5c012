-- Entering figures and finishing page 1.
use Rattle.std.specs.Prelude.{◌≡◌, ℕ, Bool, List, [], ◌∷◌, ℤ, is_some, Some, None, Ok, Err, Option, Result}
use Rattle.std.specs.List.{list_all}
use Rattle.questions.specs.Questions.{ask, asked}
use Rattle.sheets.specs.declared.factors.Factors.{Factors}
use Rattle.sheets.specs.declared.figures.Figure.{Figure}
use Rattle.sheets.specs.declared.figures.Figures.{Figures}
use Rattle.sheets.specs.declared.refusal.Refusal.{Refusal}
use Rattle.sheets.specs.declared.refusal.Refusal.TheVariants.{UnknownLine, AmountOutOfRange, LineMissing}
use Rattle.sheets.specs.Factors.{page_one}
use Rattle.sheets.specs.Figures.{amount_fits, figure_in, with_figure}
use Rattle.sheets.specs.Rules.{Rules, line_labelled}
use Rattle.sheets.specs.Worked.{Worked}

-- what entering answers, and the figures after it
pub record Entry : Type 0 where
  pub answer : Result (Unit {0}) Refusal
  pub after : Figures

-- the call gave this entry
abbrev pub Gives : Entry → Result (Unit {0}) Refusal → Figures → Type 0
Gives e r f = (r ≡ e.answer) × (f ≡ e.after)

-- a refusal leaves the figures as found
abbrev pub refused : Figures → Refusal → Entry
refused f why = record { answer = Err why; after = f }

-- an amount for a figure, in place of one that it had
abbrev pub entered : Figure → ℤ → Figures → Entry
entered k x f = asked (refused f) (ask (amount_fits k x) AmountOutOfRange ∷ []) (record { answer = Ok tt; after = with_figure k (Some x) f })

-- the same for the line, if any, that a label names
abbrev pub entered_at : {L : Type 0} → (L → Figure) → Option L → ℤ → Figures → Entry
entered_at figure_of (Some l) x f = entered (figure_of l) x f
entered_at figure_of None x f = refused f UnknownLine

-- an amount for the line with this label: questions 21 and 22
abbrev pub entered_labelled : {L : Type 0} → Rules L → List ℕ → ℤ → Figures → Entry
entered_labelled t label x f = entered_at t.figure_of (line_labelled t.label_of t.lines label) x f

-- every line has an amount
abbrev pub complete : {L : Type 0} → Rules L → Figures → Bool
complete t f = list_all (λ line. is_some (figure_in (t.figure_of line) f)) t.lines

-- page 1 of figures that are all entered
abbrev pub worked : {L : Type 0} → ℕ → Rules L → Figures → Result Factors Refusal
worked scale t f = page_one scale (t.elements_of f) (t.adjusted_om_fits f)

-- finishing page 1: every line entered, and then page 1 worked out
abbrev pub finished : {L : Type 0} → ℕ → Rules L → Figures → Result Factors Refusal
finished scale t f = asked Err (ask (complete t f) LineMissing ∷ []) (worked scale t f)

-- what finishing gives: the worked sheet, or the refusal and the open sheet's figures
abbrev pub Finish : Type 0
Finish = Result Worked (Refusal × Figures)

-- the figures with their factors, or the refusal with the figures
abbrev pub with_sheet : Figures → Result Factors Refusal → Finish
with_sheet f (Ok p) = Ok (record { figures = f; factors = p })
with_sheet f (Err why) = Err (why, f)

-- finishing, with what becomes of the figures
abbrev pub finish_outcome : {L : Type 0} → ℕ → Rules L → Figures → Finish
finish_outcome scale t f = with_sheet f (finished scale t f)
