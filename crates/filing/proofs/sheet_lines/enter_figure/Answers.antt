use Rattle.std.proofs.Common.{◌≡◌, Bool, true, false, cond, ℤ, Some, None, Ok, Err, Option, refl, rules}
use Rattle.sheets.specs.declared.figures.Figure.{Figure}
use Rattle.sheets.specs.declared.figures.Figures.{Figures}
use Rattle.sheets.specs.declared.refusal.Refusal.{Refusal}
use Rattle.sheets.specs.declared.refusal.Refusal.TheVariants.{AmountOutOfRange}
use Rattle.sheets.specs.Figures.{amount_fits, with_figure}
use Rattle.sheets.specs.Rules.{line_labelled}
use Rattle.sheets.specs.Sheets.{Entry, entered_at, refused}
use Rattle.filing.proofs.sheet_lines.enter_figure.Goals as goal

-- what is entered or refused, refused
kept : (fits : Bool) (f g : Figures) (why : Refusal) (e : Entry) → e ≡ cond fits (record { answer = Ok tt; after = g }) (refused f AmountOutOfRange) → Err why ≡ e.answer → e.after ≡ f
kept true f g why e is h = absurd cc
kept false f g why e is h = cc

-- an entry that is refused leaves the figures as found
kept_at : {L : Type 0} (figure_of : L → Figure) (line : Option L) (x : ℤ) (f : Figures) (why : Refusal) → Err why ≡ (entered_at figure_of line x f).answer → (entered_at figure_of line x f).after ≡ f
kept_at figure_of (Some l) x f why h = kept (amount_fits (figure_of l) x) f (with_figure (figure_of l) (Some x) f) why (entered_at figure_of (Some l) x f) refl h
kept_at figure_of None x f why h = refl

pub returns-in_err-enter_labelled : goal.returns-in_err-enter_labelled
returns-in_err-enter_labelled g c =
    let entry = c.enter_labelled.ensures in
    let t = g.T.Template.rules in
    let same = kept_at t.figure_of (line_labelled t.label_of t.lines c.in_ok-label.label.now) c.in_ok-label.amount c.args.sheet.now in
    search rules
