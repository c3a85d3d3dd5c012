use Rattle.std.proofs.Common.{◌≡◌, ℕ, ◌+◌, [], ◌∷◌, get_or, take, Some, Ok, Err, Result, sym, ap, ◌∙◌, rules}
use Rattle.questions.specs.Questions.{ask, asked}
use Rattle.sheets.specs.Rules.{Rules}
use Rattle.filing.specs.declared.reader.FilingReader.{FilingReader}
use Rattle.filing.specs.declared.reader.Record.{Record}
use Rattle.filing.specs.declared.refusal.LineRefusal.{LineRefusal}
use Rattle.filing.specs.declared.refusal.Refusal.{Refusal}
use Rattle.filing.specs.declared.refusal.Refusal.TheVariants.{NotALine}
use Rattle.filing.specs.Filed.{Filed, Stage, at, by_letter, entering, from, pricing, project_taken}
use Rattle.filing.specs.Lines.{AnswersTheNextLine, next_line, unread}
use Rattle.filing.specs.Outcomes.{then}
use Rattle.filing.proofs.Lines.{letter_of_next}
use Rattle.filing.proofs.pages.calls.read_lines.Goals as goal

-- the lines that are left give what the next one gives, and then those after it
next_taken : {L : Type 0} (t : Rules L) (before after : FilingReader) (r : Record) (stage : Stage) → AnswersTheNextLine before (Ok (Some r)) after → from t (before.lines + 1) stage (unread before) ≡ then (at r.line (by_letter t stage r.letter r.bytes.now)) (λ next. from t (after.lines + 1) next (unread after))
next_taken t before after r stage n =
    let line = next_line before in
    let given : ℕ → Result Stage Refusal → Result Filed LineRefusal = λ k taken. then (at k taken) (λ next. from t (k + 1) next (unread after)) in
    ap (from t (before.lines + 1) stage) n.2.one_line_less
    ∙ ap (λ b. given (before.lines + 1) (asked Err (ask b NotALine ∷ []) (by_letter t stage (get_or line 0 0) (take 56 line)))) n.0
    ∙ (λ i. given (before.lines + 1) (by_letter t stage (letter_of_next before r n.1 i) (sym n.1.bytes_are_the_next_line i)))
    ∙ (λ i. then (at (sym n.1.has_the_next_number i) (by_letter t stage r.letter r.bytes.now)) (λ next. from t (sym n.2.one_line_more i + 1) next (unread after)))

pub returns-in-P : goal.returns-in-P
returns-in-P g c =
    let t = g.T.Template.rules in
    let line = c.in-Some.line in
    let n : AnswersTheNextLine c.lines.reader (Ok (Some line)) c.next_record.new.self = search rules in
    let all = next_taken t c.lines.reader c.next_record.new.self line (entering c.lines.sheet) n in
    let taken : project_taken t (entering c.lines.sheet) line.bytes.now ≡ Ok (pricing c.in_ok-pages-in-P.pages) = search rules in
    let is = c.in-P.is in
    search rules
