use Rattle.std.proofs.Common.{◌≡◌, ℕ, [], ◌∷◌, List, Some, Ok, Err, sym, ap, ◌∙◌, rules}
use Rattle.questions.specs.Questions.{ask, asked}
use Rattle.filing.specs.declared.reader.FilingReader.{FilingReader}
use Rattle.filing.specs.declared.refusal.Refusal.TheVariants.{FileTooLong}
use Rattle.filing.specs.Filing.{filed, filed_lines, view}
use Rattle.filing.specs.Lines.{AnswersTheNextLine, OpensTheFile, at_line, lines_of, unread}
use Rattle.filing.proofs.Records.{records_and_bytes}
use Rattle.filing.proofs.Lines.{letter_of_next, unread_at_first}
use Rattle.filing.proofs.filing.calls.read_pages.Goals as goal

-- a file gives what the lines give that its reader has not read
opened : (file : List ℕ) (reader : FilingReader) → OpensTheFile file (Ok reader) → filed file ≡ filed_lines (unread reader)
opened file reader o =
    ap (λ b. asked Err (ask b (at_line 1 FileTooLong) ∷ []) (filed_lines (lines_of file))) o.0
    ∙ ap filed_lines (sym (unread_at_first file reader o.1))

pub returns-in_err-next_record-clause-outcome : goal.returns-in_err-next_record-clause-outcome
returns-in_err-next_record-clause-outcome c =
    let same = opened c.args.file.now c.in_ok-reader.reader (search rules) in
    search rules

pub returns-in-T-clause-outcome : goal.returns-in-T-clause-outcome
returns-in-T-clause-outcome c =
    let same = opened c.args.file.now c.in_ok-reader.reader (search rules) in
    let n : AnswersTheNextLine c.in_ok-reader.reader (Ok (Some c.in_ok-line.line)) c.next_record.new.self = search rules in
    let letter = letter_of_next c.in_ok-reader.reader c.in_ok-line.line n.1 in
    search rules

pub returns-in_default-clause-outcome : goal.returns-in_default-clause-outcome
returns-in_default-clause-outcome c =
    let same = opened c.args.file.now c.in_ok-reader.reader (search rules) in
    let n : AnswersTheNextLine c.in_ok-reader.reader (Ok (Some c.in_ok-line.line)) c.next_record.new.self = search rules in
    let letter = letter_of_next c.in_ok-reader.reader c.in_ok-line.line n.1 in
    search rules

pub returns-in-T-clause-records_and_bytes_determine_each_other : goal.returns-in-T-clause-records_and_bytes_determine_each_other
returns-in-T-clause-records_and_bytes_determine_each_other c = records_and_bytes view c.args.file.now c.read_named.result (returns-in-T-clause-outcome c)
