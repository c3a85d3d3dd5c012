use Rattle.std.proofs.Common.{refl, ap, ◌*◌, ◌∷◌, ◌∙◌, drop, arith, rules}
use Rattle.std.proofs.lemmas.Grind.{common_steps}
use Rattle.std.proofs.lemmas.List.{drop-drop, length-drop}
use Rattle.filing.specs.Lines.{lines_of, next_line, rest_of}
use Rattle.filing.proofs.Lines.{first_line, first_line_is_long, no_line}
use Rattle.filing.proofs.reader.FilingReader.next_record.Goals as goal

pub returns-then-is_empty : goal.returns-then-is_empty
returns-then-is_empty c = record { answers_the_next_line_with_its_place_and_stays_at_a_refusal = (no_line (rest_of c.args.self.now) (rw c.rest.ensures at c.if-is_empty.ensures), refl) }

pub returns-in_err-bytes : goal.returns-in_err-bytes
returns-in_err-bytes c =
    let not_whole = rw c.in_err-bytes.ensures.ok_part at c.columns.ensures in
    let lines = first_line (rest_of c.args.self.now) (rw c.rest.ensures at c.if-is_empty.ensures) in
    grind (arith, common_steps)

pub invariant_of-self : goal.invariant_of-self
invariant_of-self c =
    let reader = c.args.self.now in
    let is = rw c.in_ok-bytes.ensures.ok_part at c.columns.ensures in
    record {
      file_is_short_enough = reader.file_is_short_enough;
      lines_are_in_the_file = omega (arith, first_line_is_long (rest_of reader) is.0, length-drop (57 * reader.lines) reader.file.now, reader.lines_are_in_the_file, c.line-line.ensures);
    }

pub returns : goal.returns
returns c =
    let reader = c.args.self.now in
    let is = rw c.in_ok-bytes.ensures.ok_part at c.columns.ensures in
    record {
      answers_the_next_line_with_its_place_and_stays_at_a_refusal = (
        is.0,
        c.record-record.ensures,
        record {
          same_file = refl;
          one_line_more = search rules;
          one_line_less =
              first_line (rest_of reader) (rw c.rest.ensures at c.if-is_empty.ensures)
              ∙ ap (λ bytes. next_line reader ∷ lines_of bytes) (drop-drop 57 (57 * reader.lines) reader.file.now ∙ ap (λ n. drop n reader.file.now) (omega (arith, c.line-line.ensures)));
        },
      );
    }
