-- The fields of a line.
use Rattle.std.specs.Prelude.{◌≡◌, ℕ, ◌+◌, ◌-◌, Bool, ◌&&◌, List, [], ◌∷◌, length, take, drop, ℤ, Ok, Err, Result, ◌==◌, nat_lt}
use Rattle.columns.specs.Fields.{after_spaces, reading}
use Rattle.columns.specs.declared.refusal.Refusal.{Refusal as NumberRefusal}
use Rattle.questions.specs.Questions.{ask, asked}
use Rattle.filing.specs.declared.fields.FiledFigure.{FiledFigure}
use Rattle.filing.specs.declared.fields.FiledProject.{FiledProject}
use Rattle.filing.specs.declared.refusal.Refusal.{Refusal}
use Rattle.filing.specs.declared.refusal.Refusal.TheVariants.{MalformedField}
use Rattle.filing.specs.Lines.{without}
use Rattle.filing.specs.Outcomes.{then}

-- the columns from one to another, counted from 1
abbrev pub columns_from : ℕ → ℕ → List ℕ → List ℕ
columns_from first last line = take (last + 1 - first) (drop (first - 1) line)

-- spaces, and nothing after them
abbrev pub blank : List ℕ → Bool
blank columns = length (after_spaces columns) == 0

-- some byte, and none a space
abbrev pub named : List ℕ → Bool
named text = nat_lt 0 (length text) && without 32 text

-- a label, right-justified after spaces
abbrev pub label_in : List ℕ → Result (List ℕ) Refusal
label_in field = asked Err (ask (named (after_spaces field)) MalformedField ∷ []) (Ok (after_spaces field))

-- a number, right-justified after spaces
abbrev pub as_field : Result ℤ NumberRefusal → Result ℤ Refusal
as_field (Ok n) = Ok n
as_field (Err why) = Err MalformedField

abbrev pub number_in : List ℕ → Result ℤ Refusal
number_in field = as_field (reading field)

-- an F line: label and amount
abbrev pub figure_on : List ℕ → Result (List ℕ × ℤ) Refusal
figure_on line =
    then (label_in (columns_from 2 4 line)) (λ label.
    then (number_in (columns_from 5 16 line)) (λ amount.
    asked Err (ask (blank (columns_from 17 56 line)) MalformedField ∷ [])
    (Ok (label, amount))))

-- a project as filed, with its number
abbrev pub project_with : ℤ → ℤ → ℤ → ℤ → FiledProject
project_with n gross accumulated expense = record {
  number = n;
  project = record { gross_plant = gross; accumulated_depreciation = accumulated; depreciation_expense = expense };
}

-- a P line: project number, gross plant, accumulated depreciation and depreciation expense
abbrev pub project_on : List ℕ → Result FiledProject Refusal
project_on line =
    then (number_in (columns_from 2 12 line)) (λ n.
    then (number_in (columns_from 13 24 line)) (λ gross.
    then (number_in (columns_from 25 36 line)) (λ accumulated.
    then (number_in (columns_from 37 48 line)) (λ expense.
    asked Err (ask (blank (columns_from 49 56 line)) MalformedField ∷ [])
    (Ok (project_with n gross accumulated expense))))))

-- the answer, by what its parts of the file hold
abbrev pub AnswersTheLabelAndAmount : Result FiledFigure Refusal → Result (List ℕ × ℤ) Refusal → Type 0
AnswersTheLabelAndAmount (Ok f) wanted = wanted ≡ Ok (f.label.now, f.amount)
AnswersTheLabelAndAmount (Err why) wanted = wanted ≡ Err why
