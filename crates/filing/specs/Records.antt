-- The records of a filing, and the line that each is written as.
use Rattle.std.specs.Prelude.{◌≡◌, ℕ, ◌-◌, cond, List, [], ◌∷◌, ◌++◌, map, length, take, replicate, ℤ, Ok, Err, Result, ◌==◌, slice_index}
use Rattle.columns.specs.Fields.{written}
use Rattle.questions.specs.Questions.{ask, asked}
use Rattle.filing.specs.declared.fields.FiledProject.{FiledProject}
use Rattle.filing.specs.declared.refusal.Refusal.{Refusal}
use Rattle.filing.specs.declared.refusal.Refusal.TheVariants.{LetterOutOfPlace, MalformedField}
use Rattle.filing.specs.Fields.{blank, columns_from, figure_on, label_in, project_on}
use Rattle.filing.specs.Lines.{lines_of}
use Rattle.filing.specs.Outcomes.{then}

-- a T record has the template's name, an F record a label and an amount, a P record a project
pub data FilingRecord : Type 0 where
  t_record : List ℕ → FilingRecord
  f_record : List ℕ → ℤ → FilingRecord
  p_record : FiledProject → FilingRecord

-- a text in the last of some columns, after spaces
abbrev pub text_field : ℕ → List ℕ → List ℕ
text_field columns text = replicate (columns - length text) 32 ++ text

-- a number written into some columns
abbrev pub number_field : ℕ → ℤ → List ℕ
number_field columns n = (written (replicate columns 32) n).after

-- the columns of a record after its letter
abbrev pub fields_of : FilingRecord → List ℕ
fields_of (t_record name) = text_field 3 name ++ text_field 52 []
fields_of (f_record label amount) = text_field 3 label ++ (number_field 12 amount ++ text_field 40 [])
fields_of (p_record j) =
    number_field 11 j.number
    ++ (number_field 12 j.project.gross_plant
    ++ (number_field 12 j.project.accumulated_depreciation
    ++ (number_field 12 j.project.depreciation_expense ++ text_field 8 [])))

-- T, F and P
abbrev pub letter_of : FilingRecord → ℕ
letter_of (t_record name) = 84
letter_of (f_record label amount) = 70
letter_of (p_record j) = 80

-- a record written as its line: the letter, the fields and a newline
abbrev pub line_of : FilingRecord → List ℕ
line_of r = letter_of r ∷ (fields_of r ++ (10 ∷ []))

-- a T line's name of a template, right-justified as every field is
abbrev pub template_on : List ℕ → Result FilingRecord Refusal
template_on line =
    then (label_in (columns_from 2 4 line)) (λ name.
    asked Err (ask (blank (columns_from 5 56 line)) MalformedField ∷ [])
    (Ok (t_record name)))

-- a line read as a record, by its letter
abbrev pub record_by : ℕ → List ℕ → Result FilingRecord Refusal
record_by letter line =
    cond (letter == 84) (template_on line)
    (cond (letter == 70) (then (figure_on line) (λ x. Ok (f_record x.0 x.1)))
    (cond (letter == 80) (then (project_on line) (λ j. Ok (p_record j)))
    (Err LetterOutOfPlace)))

-- the record of a line of 56 bytes
abbrev pub record_on : List ℕ → Result FilingRecord Refusal
record_on line = record_by (slice_index line 0) line

-- records written as lines, one after the other
abbrev pub all_written : List FilingRecord → List ℕ
all_written [] = []
all_written (r ∷ rs) = line_of r ++ all_written rs

-- a file's bytes and its records determine each other: its lines read as these records, and these records are written as its bytes
pub record RecordsAndBytesDetermineEachOther (file : List ℕ) : Type 0 where
  pub records : List FilingRecord
  pub lines_read_as_the_records : map (λ line. record_on (take 56 line)) (lines_of file) ≡ map Ok records
  pub records_are_written_as_the_file : all_written records ≡ file
