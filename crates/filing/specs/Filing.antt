-- A whole filing: the T line, and the lines after it by the template's rules.
use Rattle.std.specs.Prelude.{ℕ, cond, List, [], ◌∷◌, take, Err, codes, Result, ◌==◌, slice_index}
use Rattle.std.specs.Str.{bytes_eq}
use Rattle.questions.specs.Questions.{ask, asked}
use Rattle.sheets.specs.Attachments.{cc_rules, mm_rules}
use Rattle.sheets.specs.Figures.{blank as no_figures}
use Rattle.sheets.specs.Rules.{Rules}
use Rattle.filing.specs.declared.filing.Filing.{Filing}
use Rattle.filing.specs.declared.filing.Filing.TheVariants.{Mm, Cc}
use Rattle.filing.specs.declared.refusal.LineRefusal.{LineRefusal}
use Rattle.filing.specs.declared.refusal.Refusal.TheVariants.{FileTooLong, LetterOutOfPlace, MalformedField, NotALine, UnknownTemplate}
use Rattle.filing.specs.Fields.{blank, columns_from}
use Rattle.filing.specs.Filed.{Filed, entering, from, seen}
use Rattle.filing.specs.Lines.{at_line, lines_of, short_enough, whole}
use Rattle.filing.specs.Rows.{Row}

-- the templates
pub data Attachment : Type 0 where
  mm : Attachment
  cc : Attachment

-- a filing of a template: spaces after its name, and then F and P lines from line 2 on
abbrev pub sheet_filed : {L : Type 0} → Rules L → List ℕ → List (List ℕ) → Result Filed LineRefusal
sheet_filed t line lines = asked Err (ask (blank (columns_from 5 56 line)) (at_line 1 MalformedField) ∷ []) (from t 2 (entering no_figures) lines)

-- what is filed, with its template
abbrev pub filing_of : Attachment → Result Filed LineRefusal → Result (Attachment × Filed) LineRefusal
filing_of a r = seen (λ f. (a, f)) r

-- the names of the templates
abbrev pub filed_under : List ℕ → List (List ℕ) → Result (Attachment × Filed) LineRefusal
filed_under line lines =
    cond (bytes_eq (columns_from 2 4 line) (codes " MM")) (filing_of mm (sheet_filed mm_rules line lines))
    (cond (bytes_eq (columns_from 2 4 line) (codes " CC")) (filing_of cc (sheet_filed cc_rules line lines))
    (Err (at_line 1 UnknownTemplate)))

-- the first line has the letter T (84)
abbrev pub filed_lines : List (List ℕ) → Result (Attachment × Filed) LineRefusal
filed_lines [] = Err (at_line 1 LetterOutOfPlace)
filed_lines (line ∷ lines) =
    asked Err
    (ask (whole line) (at_line 1 NotALine)
    ∷ ask (slice_index line 0 == 84) (at_line 1 LetterOutOfPlace)
    ∷ [])
    (filed_under (take 56 line) lines)

-- what a file gives
abbrev pub filed : List ℕ → Result (Attachment × Filed) LineRefusal
filed file = asked Err (ask (short_enough file) (at_line 1 FileTooLong) ∷ []) (filed_lines (lines_of file))

-- what is seen of a filing
abbrev pub view : Filing → Attachment × Filed
view (Mm f) = (mm, f)
view (Cc f) = (cc, f)

-- the priced projects
abbrev pub rows_filed : Attachment × Filed → List Row
rows_filed f = f.1.rows
